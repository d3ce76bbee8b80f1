-- By where the text ends, and the room lent.
-- Assumes nothing.
use native.Mathlib.Omega.{arith}
use Rattle.writer.proofs.TextLaws.{write-long, write-past, write-short}
use borrow.Author.Rules.{rules}
use Rattle.writer.proofs.write_rows.Goals as goal

pub put_text-end-requires : goal.put_text-end-requires
put_text-end-requires c = c.requires

pub returns-then-end-gt-TEXT_LENGTH : goal.returns-then-end-gt-TEXT_LENGTH
returns-then-end-gt-TEXT_LENGTH c = write-long _ c.put_text-end.result c.put_text-end.ensures.place c.args.out.now (omega arith)

pub returns-then-out-end : goal.returns-then-out-end
returns-then-out-end c = write-past _ c.put_text-end.result c.put_text-end.ensures.place c.args.out.now (omega arith) (omega arith)

pub returns : goal.returns
returns c =
    let put-text = c.put_text-end in
    let args = c.args in
    let stored = c.store in
    write-short _ put-text.result put-text.ensures.place args.out.now (omega arith) (omega arith) put-text.ensures (search rules) stored.ensures
