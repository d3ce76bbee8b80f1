-- The wires of a module that is admitted: each is found by its name, and none is too wide.
-- Assumes nothing.
use Rattle.std.specs.Prelude.{ℕ, suc, ◌+◌, ◌-◌, ◌<◌, ◌≤◌, ◌≡◌, false, eqb, length, drop}
use Rattle.std.proofs.Common.{sym, ap, ◌∙◌, arith, eqb-true}
use mathlib.Core.List.{[], ◌∷◌, reverse, reverse-cons}
use Rattle.std.proofs.Math.Option.{none, some}
use Rattle.std.proofs.Math.Numerals.{lt_of_le_of_ne}
use Rattle.std.proofs.Math.ListN.{get_elem?}
use Rattle.std.proofs.lemmas.List.{length-reverse}
use Rattle.std.proofs.lemmas.Bool.{eqb-false}
use Rattle.rules.specs.Bytes.{same}
use Rattle.rules.specs.Tokens.{Name}
use Rattle.rules.specs.Statements.{Wire}
use Rattle.rules.specs.Signals.{Wires, find}
use Rattle.lists.specs.Tests.{by-test}
use Rattle.lists.specs.Bytes.{same_refl, same-eq}
use Rattle.lists.specs.Lists.{element-at, element-front}

-- ---- names that differ

-- no wire has the name of one before it, and none is over 2,048 wide
pub data Sound : Wires → Type 0 where
  no-wire : Sound []
  one_more : {w : Name × Wire} {ws : Wires} → find w.0 ws ≡ none → w.1.width ≤ 2048 → Sound ws → Sound (w ∷ ws)

-- ---- the wire with a number

-- a wire's number and name lead to the same wire
pub record Located (ws : Wires) (n : ℕ) : Type 0 where
  pub wire : Name × Wire
  pub before : Wires
  pub numbered : get_elem? (reverse ws) n ≡ some wire
  pub dropped : drop (length ws - (n + 1)) ws ≡ wire ∷ before
  pub named : find wire.0 ws ≡ some (n, wire.1)
  pub narrow : wire.1.width ≤ 2048

not_same : (ws : Wires) (n : ℕ) (w : Name × Wire) (l : Located ws n) → find w.0 ws ≡ none → same w.0 l.wire.0 ≡ false
not_same ws n w l e =
    by-test (same w.0 l.wire.0)
    (λ t. let q : w.0 ≡ l.wire.0 = same-eq w.0 l.wire.0 t in
    let r : find w.0 ws ≡ some (n, l.wire.1) = ap (λ m. find m ws) q ∙ l.named in
    absurd (let z : ◌≡◌ {A = ℕ} 0 1 = cc in omega arith))
    (λ t. t)

located-first : (w : Name × Wire) (ws : Wires) (n : ℕ) → length ws ≡ n → w.1.width ≤ 2048 → Located (w ∷ ws) n
unfolding find
located-first w ws n e k =
    record {
      wire = w;
      before = ws;
      numbered = rw (reverse-cons w ws) (element-at (reverse ws) w [] n (sym (length-reverse ws ∙ e)));
      dropped = ap (λ j. drop j (w ∷ ws)) (let z : suc (length ws) - (n + 1) ≡ 0 = omega arith in z);
      named = rw (same_refl w.0, e);
      narrow = k;
    }

located-more : (w : Name × Wire) (ws : Wires) (n : ℕ) → n < length ws → find w.0 ws ≡ none → Located ws n → Located (w ∷ ws) n
unfolding find
located-more w ws n h e l =
    record {
      wire = l.wire;
      before = l.before;
      numbered = rw (reverse-cons w ws) (element-front (reverse ws) (w ∷ []) n (rw (length-reverse ws) h) ∙ l.numbered);
      dropped = ap (λ j. drop j (w ∷ ws)) (let z : suc (length ws) - (n + 1) ≡ suc (length ws - (n + 1)) = omega arith in z) ∙ l.dropped;
      named = rw (not_same ws n w l e) l.named;
      narrow = l.narrow;
    }

pub located : {ws : Wires} (n : ℕ) → Sound ws → n < length ws → Located ws n
located n no-wire h = absurd (omega arith)
located n (one_more {w = w} {ws = ws} e k s) h =
    by-test (eqb (length ws) n)
    (λ t. located-first w ws n (eqb-true (length ws) n t) k)
    (λ t. let b : n < length ws = lt_of_le_of_ne (omega arith) (λ q. eqb-false (length ws) n t (sym q)) in
    located-more w ws n b e (located n s b))
