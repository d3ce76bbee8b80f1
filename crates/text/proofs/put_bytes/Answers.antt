-- Byte by byte, by one copy, or only counted.
use mathlib.Core.Path.{sym}
use Rattle.text.proofs.TextLaws.{all-bytes, store-past}
use Rattle.text.proofs.put_bytes.Goals as goal

pub returns-then-end-out : goal.returns-then-end-out
returns-then-end-out c =
    let args = c.args in
    let if1 = c.if-end-gt-TEXT_LENGTH in
    let stored = c.store in
    all-bytes args.out.now _ args.s.now args.at stored.ensures if1.false

pub returns-then-out-at : goal.returns-then-out-at
returns-then-out-at c =
    let args = c.args in
    let if1 = c.if-end-gt-TEXT_LENGTH in
    all-bytes args.out.now _ args.s.now args.at
    (sym (store-past args.out.now args.at args.s.now c.if-out-at.true)) if1.false
