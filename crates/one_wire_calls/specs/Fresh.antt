-- ONE WIRE, QUICKLY, AND THE CALLS ON MEMORY: "For every accepted file this equals, on freshly read memory, the width held in the design and what look-up and
-- then the index call say." The contract of `fill` says that its result is `fill_into`'s; those of `look_up` and `index`, that `LookedUp` and `IndexGiven` hold
-- of their answers.
-- Assumes nothing.
use Prim.Native.Nat.{ℕ, zero, suc, ◌+◌}
use Rattle.std.proofs.Math.Path.{◌≡◌, sym, ap}
use Rattle.std.specs.Prelude.{refl, ◌⊎◌, true, pos}
use Rattle.std.proofs.Common.{◌∙◌, inl, inr}
use mathlib.Core.List.{List, [], ◌∷◌}
use Rattle.rules.specs.Bytes.{same}
use Rattle.rules.specs.Tokens.{Name}
use Rattle.rules.specs.Statements.{Statement, Wire}
use Rattle.rules.specs.Judgement.{Verdict, accepted, refused}
use Rattle.rules.specs.Reading as reading
use Rattle.rules.specs.Reading.{read}
use Rattle.rules.specs.Design.{Object, design}
use Rattle.rules.specs.Session.{wires_at, now, search, look_up, index_in, index}
use Rattle.rules.specs.Layout.{Memory}
use Rattle.rules.specs.Quick.{of_verdict, seek, quick_width, quick_index}
use Rattle.lists.specs.Tests.{by-test}
use Rattle.admitted.specs.Holds.{Holds}
use Rattle.netlist.specs.Lengths.{right_lengths}
use Rattle.netlist.specs.Results.{Result}
use Rattle.memory_check.specs.HeldLaws.{holds-sizes}
use Rattle.session.specs.Called.{holding, answer}
use Rattle.session.specs.CalledLaws.{called-one}
use Rattle.look_up.specs.Asked.{LookedUp, IndexGiven}
use Rattle.look_up.specs.declared.Found.{Found}
use Rattle.look_up.specs.declared.Indexed.{Indexed}
use Rattle.reader.specs.Fill.{fill_into}
use Rattle.one_wire.specs.Asked.{told}
use Rattle.one_wire.specs.Accepted.{then_asked, asked, quick-accepted}
use Rattle.calls.specs.StepLaws.{read-leaves, read-holds}

-- number, place and answer of look-up and then another call; look-up's number, if it refuses
unfoldable pub then_called : {A : Type 0} → A → (found number : ℕ) → A → ℕ × ℕ × A
then_called nothing zero number a = (number, 0, a)
then_called nothing (suc k) number a = (suc k, 0, nothing)

-- look-up finds a wire or refuses with 8
searched : (n : Name) (i : ℕ) (os : List (Object Wire)) → ((w : ℕ) × (search n i os ≡ accepted w)) ⊎ (search n i os ≡ refused 8)
unfolding search
searched n i [] = inr refl
searched n i (o ∷ os) = by-test (same o.name n) (λ e. inl (i, rw e)) (λ e. rw e (searched n (i + 1) os))

told-answer : {A : Type 0} (nothing : A) (v : Verdict A) (a : ℕ × A) → a ≡ answer nothing v → told nothing (of_verdict v) ≡ (a.0, 0, a.1)
unfolding told of_verdict answer
told-answer nothing (accepted x) a e = sym (ap (λ (b : ℕ × _). (b.0, 0, b.1)) e)
told-answer nothing (refused k) a e = sym (ap (λ (b : ℕ × _). (b.0, 0, b.1)) e)

-- m₀ IS FILLED WITH AN ACCEPTED FILE
module _ (f : List ℕ) (ss : List Statement) (accepts : read f ≡ reading.accepted ss) (m₀ : Memory) (lengths : right_lengths m₀ ≡ true) (x : Result) (filled : x ≡ fill_into f m₀)
    (k : ℕ) (n : Name) (found : Found) (looked : LookedUp x.memory k n found) where
  held : Holds x.memory ss []
  held = read-holds f accepts (read-leaves f accepts m₀ lengths filled)

  found-is : ◌≡◌ {A = ℕ × ℕ} (found.number, found.wire.0) (answer 0 (look_up (design ss) k n))
  unfolding now
  found-is = called-one looked (holding ss [] (holds-sizes held) held refl)

  module _ {A : Type 0} (nothing : A) (g : Wire → Verdict A) (a : ℕ × A) (asks : found.number ≡ 0 → a ≡ answer nothing (asked g (design ss) k found.wire.0)) where
    by-found : ((w : ℕ) × (look_up (design ss) k n ≡ accepted w)) ⊎ (look_up (design ss) k n ≡ refused 8) → told nothing (seek g f k n) ≡ then_called nothing found.number a.0 a.1
    unfolding then_asked then_called answer told
    by-found (inl p) =
        let q : ◌≡◌ {A = ℕ × ℕ} (found.number, found.wire.0) (0, p.0) = found-is ∙ ap (answer 0) p.1 in
        let z : found.number ≡ 0 = ap (λ (y : ℕ × ℕ). y.0) q in
        let v : found.wire.0 ≡ p.0 = ap (λ (y : ℕ × ℕ). y.1) q in
        ap (told nothing) (quick-accepted f ss accepts k n g ∙ ap (then_asked (asked g (design ss) k)) p.1)
        ∙ told-answer nothing (asked g (design ss) k p.0) a (asks z ∙ ap (λ (w : ℕ). answer nothing (asked g (design ss) k w)) v)
        ∙ sym (ap (λ (j : ℕ). then_called nothing j a.0 a.1) z)
    by-found (inr e) =
        let q : ◌≡◌ {A = ℕ × ℕ} (found.number, found.wire.0) (8, 0) = found-is ∙ ap (answer 0) e in
        ap (told nothing) (quick-accepted f ss accepts k n g ∙ ap (then_asked (asked g (design ss) k)) e)
        ∙ sym (ap (λ (y : ℕ × ℕ). then_called nothing y.0 a.0 a.1) q)

    -- whatever is asked of the wire
    pub quick-called : told nothing (seek g f k n) ≡ then_called nothing found.number a.0 a.1
    unfolding look_up
    quick-called = by-found (searched n 0 (wires_at (design ss) k))

  -- the width held in the design
  pub quick-width-held : let a = answer 0 (asked (λ w. accepted w.width) (design ss) k found.wire.0) in told 0 (quick_width f k n) ≡ then_called 0 found.number a.0 a.1
  unfolding quick_width
  quick-width-held = quick-called 0 (λ w. accepted w.width) (answer 0 (asked (λ w. accepted w.width) (design ss) k found.wire.0)) (λ z. refl)

  -- what look-up and then the index call say
  pub quick-index-called :
      (bit : ℕ) (given : Indexed) → IndexGiven x.memory k found.wire.0 bit given →
      told (pos 0) (quick_index f k n bit) ≡ then_called (pos 0) found.number given.number given.index
  unfolding quick_index index now
  quick-index-called bit given h =
      quick-called (pos 0) (λ w. index_in w bit) (given.number, given.index) (λ z. called-one h (holding ss [] (holds-sizes held) held refl))
