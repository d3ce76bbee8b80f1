use Rattle.calls.proofs.CallLaws.{put_two}
use Rattle.calls.proofs.put_answer.Goals as goal

pub returns : goal.returns
returns c = put_two c.args.answers.now _ _ _ _ _ c.put_word.ensures c.put_word-2.ensures
