-- The invariant: from i on the name ends where it ends from p on.
-- Assumes nothing.
use mathlib.Core.Path.{◌≡◌, sym, ap, ◌∙◌}
use mathlib.Core.Bool.{Bool, true, false}
use Prim.Native.Nat.{ℕ, ◌<◌, ◌≤◌}
use native.Mathlib.Omega.{arith}
use Rattle.rules.specs.Bytes.{is_name_byte}
use Rattle.scanner.specs.Class.{in_class}
use Rattle.lists.specs.Bytes.{within-yes, within-below}
use Rattle.scanner.proofs.ClassLaws.{class-name-byte}
use Rattle.scanner.proofs.RunLaws.{end_of-all, end_of-more, end_of-stop}
use Rattle.lexer.proofs.name_end.Goals as goal

by_byte : (b : ℕ) (r : Bool) → is_name_byte b ≡ r → in_class 4 14 b ≡ r
by_byte b r e = ap (λ (f : ℕ → Bool). f b) (sym class-name-byte) ∙ e

in-name : (b : ℕ) → 32 < b → b < 256 → in_class 4 14 b ≡ true
unfolding is_name_byte
in-name b h k = by_byte b true (within-yes 33 255 b (omega arith) (omega arith))

behind : (b : ℕ) → b ≤ 32 → in_class 4 14 b ≡ false
unfolding is_name_byte
behind b h = by_byte b false (within-below 33 255 b (omega arith))

pub returns-then-s-i-le32 : goal.returns-then-s-i-le32
returns-then-s-i-le32 c = sym (c.loop-i.invariant ∙ end_of-stop _ _ _ c.loop-i-test.true (behind _ c.if-s-i-le32.true))

pub loop-i-preserved : goal.loop-i-preserved
loop-i-preserved c = c.loop-i.invariant ∙ end_of-more _ _ _ c.loop-i-test.true (in-name _ c.if-s-i-le32.false (omega (arith, c.type_inv.s c.loop-i.i)))

pub returns : goal.returns
returns c = c.max.ensures ∙ end_of-all _ _ _ _ c.loop-i.auto.i c.loop-i.auto.i-end c.loop-i-test.false c.loop-i.invariant
