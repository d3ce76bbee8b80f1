use Rattle.file_lines.proofs.FileLaws.{no-goal}
use Rattle.file_reader.proofs.read_file.Goals as goal

pub returns : goal.returns
returns c =
    rw (← no-goal c.args.f.now c.args.f.now) c.read_until.ensures
