-- What a shape means is of its kind; and what a verdict says of its tests.
-- Assumes nothing.
use Rattle.std.specs.Prelude.{ℕ, ◌≡◌, refl, List, [], ◌∷◌, Bool, true, false, ◌||◌, leb, eqb}
use Rattle.std.proofs.Common.{ap, true≢false}
use Rattle.rules.specs.Bytes.{any, all}
use Rattle.rules.specs.Statements.{Shape, Statement, Kind, Contents, holds, a_process, code, contents, is}
use Rattle.rules.specs.Numbers.{wire_of, memory_of}
use Rattle.rules.specs.Signals.{Wires, kept, bits}
use Rattle.rules.specs.Judgement.{Past, wires, among, breaks_number, lacks_wire, takes_name, breaks_width, part_too_wide, exceeds_size, lowest, Verdict, verdict, meaning, judge_in, judge}
use Rattle.lists.specs.Elements.{all_first, all-later, Each}
use Rattle.context.specs.Forms.{translated, contents-translated}

-- what a shape means is of its kind
pub meaning-kind : (ws : Wires) (sh : Shape) → (contents (meaning ws sh)).kind ≡ (contents sh).kind
unfolding meaning translated holds
meaning-kind ws sh = ap (λ (c : Contents _ _ _ _). c.kind) (contents-translated kept (bits ws) wire_of memory_of sh)

pub meaning-among : (ks : List Kind) (ws : Wires) (sh : Shape) → among ks (meaning ws sh) ≡ among ks sh
unfolding among is
meaning-among ks ws sh = ap (λ (k : Kind). any (λ l. eqb (code l) (code k)) ks) (meaning-kind ws sh)

-- an accepted verdict: what is accepted is what was given, and no test holds
pub no-tests : {A : Type 0} (a b : A) (ts : List (ℕ × Bool)) → verdict a (lowest ts) ≡ Verdict.accepted b → (a ≡ b) × Each (λ t. t.1 ≡ false) ts
unfolding lowest verdict
no-tests a b [] e = (cc, tt)
no-tests a b ((n, true) ∷ ts) e = absurd (true≢false cc)
no-tests a b ((n, false) ∷ ts) e = let h = no-tests a b ts e in (h.0, (refl, h.1))

-- a verdict accepts what it is given, or refuses with a number that is not 0
pub by-verdict :
    {A : Type 0} (P : Verdict A → Type 0) (a : A) (ts : List (ℕ × Bool)) → all (λ t. leb 1 t.0) ts ≡ true →
    (verdict a (lowest ts) ≡ Verdict.accepted a → P (Verdict.accepted a)) → ((n : ℕ) → leb 1 n ≡ true → P (Verdict.refused n)) → P (verdict a (lowest ts))
unfolding lowest verdict
by-verdict P a [] h f g = f refl
by-verdict P a ((n, true) ∷ ts) h f g = g n (all_first (λ t. leb 1 t.0) (n, true) ts h)
by-verdict P a ((n, false) ∷ ts) h f g = by-verdict P a ts (all-later (λ t. leb 1 t.0) (n, false) ts h) f g

-- no test holds of an accepted shape
pub record Passed (ss : Past) (sh : Shape) : Type 0 where
  pub numbers : breaks_number (wires ss) sh ≡ false
  pub declared : lacks_wire (wires ss) sh ≡ false
  pub new-name : takes_name ss sh ≡ false
  pub widths : breaks_width (wires ss) ss sh ≡ false
  pub room : part_too_wide (wires ss) sh || exceeds_size (meaning (wires ss) sh ∷ ss) ≡ false

pub judge-passed : (ss : Past) (sh : Shape) (s : Statement) → judge ss sh ≡ Verdict.accepted s → Passed ss sh
unfolding judge judge_in
judge-passed ss sh s e =
    let h = (no-tests (meaning (wires ss) sh) s _ e).1 in
    record {
      numbers = h.0;
      declared = h.1.0;
      new-name = h.1.1.0;
      widths = h.1.1.1.0;
      room = h.1.1.1.1.0;
    }
