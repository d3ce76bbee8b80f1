-- The string's bytes fill the beginning of the local array.
use mathlib.Core.Path.{ap, ◌∙◌}
use mathlib.Core.List.{List}
use Prim.Native.Nat.{ℕ}
use Rattle.rules.specs.Tokens.{string}
use Rattle.tables.specs.Store.{store}
use Rattle.literals.specs.Codes.{codes}
use Rattle.literals.proofs.Stored.{stored-front}
use Rattle.literals.proofs.put_text.Goals as goal

pub returns : goal.returns
returns c =
    let pre = c.requires in
    let args = c.args in
    let put-string = c.put_string-n in
    let part = c.part in
    let put-bytes-bits = c.put_bytes_bits in
    let e = stored-front _ _ _ _ _ pre.f_len_bound put-string.ensures.out_after put-string.ensures.value part.ensures in
    put-bytes-bits.ensures ∙ ap (λ (bs : List ℕ). store args.out.now args.at (codes (string bs))) e
