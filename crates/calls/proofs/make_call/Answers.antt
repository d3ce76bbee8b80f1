use Rattle.calls.proofs.CallLaws.{call-undo, call-rename}
use Rattle.calls.proofs.make_call.Goals as goal

pub returns-then-word-ne-CALL_RENAME : goal.returns-then-word-ne-CALL_RENAME
returns-then-word-ne-CALL_RENAME c =
    let args = c.args in
    let word = c.word in
    let if1 = c.if-word-ne-CALL_RENAME in
    let undo = c.undo in
    rw (call-undo args.calls.now args.texts.now args.i _ word.ensures if1.true) undo.ensures

pub returns : goal.returns
returns c =
    let args = c.args in
    let word = c.word in
    let if1 = c.if-word-ne-CALL_RENAME in
    let word2 = c.word-start in
    let word3 = c.word-size in
    let word4 = c.word-2 in
    let word5 = c.word-3 in
    let part = c.part in
    let rename = c.rename in
    rw
    (call-rename args.calls.now args.texts.now args.i _ word.ensures if1.false _ _ _ _ _
    word4.ensures word5.ensures word2.ensures word3.ensures part.ensures) rename.ensures
