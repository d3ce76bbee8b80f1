-- The runs of a signal from its highest bit down.
-- Assumes nothing.
use Rattle.std.specs.Prelude.{◌≡◌, true, false, cond, ◌&&◌, List, [], ◌∷◌, ℕ, zero, suc, ◌+◌, ◌-◌, ◌≤◌, ◌<◌, eqb, ltb, length, get_or, drop}
use Rattle.std.proofs.Common.{sym, subst, ◌∙◌, arith, length-drop, drop-cons, get_or-drop}
use Rattle.std.proofs.Math.Path.{ap}
use Rattle.std.proofs.Math.Numerals.{add-one}
use Rattle.rules.specs.Statements.{Bit, digit, bit}
use Rattle.rules.specs.Text.{Run, digits, span, join, runs}
use Rattle.lists.specs.Tests.{by-test}
use Rattle.numbers.specs.Kinds.{bit_of, bit_at, signal_of}
use Rattle.numbers.specs.declared.kinds.SignalBit.{SignalBit}
use Rattle.numbers.specs.declared.kinds.WireNumber.{WireNumber}
use Rattle.signal_runs.specs.Runs.{is_digit, is_bit, joined, joint, run_by, first_run, Apart, Lowest}

-- a bit of a wire is one of its first 2,048
unfoldable Narrow : SignalBit → Type 0
Narrow (SignalBit.Digit d) = Unit {0}
Narrow (SignalBit.Wire w i) = i < 2048

narrow_at : (c : ℕ) → Narrow (bit_at c)
unfolding Narrow bit_at
narrow_at c = by-test (ltb c 6) (λ e. rw e tt) (λ e. rw e (omega arith))

pub narrow : (c : ℕ) {b : SignalBit} {w : WireNumber} {i : ℕ} → b ≡ bit_at c → b ≡ SignalBit.Wire w i → i < 2048
unfolding Narrow
narrow c e q = subst Narrow (sym e ∙ q) (narrow_at c)

-- one bit
run-one : (c : ℕ) → runs (signal_of (c ∷ [])) ≡ first_run (c ∷ []) 1 ∷ []
unfolding runs join signal_of bit_of bit_at first_run run_by
run-one c = by-test (ltb c 6) (λ e. rw e) (λ e. rw e)

module _ (c d : ℕ) (ds : List ℕ) (n : ℕ) (rest : List Run) (h : runs (signal_of (d ∷ ds)) ≡ first_run (d ∷ ds) n ∷ rest) where
  -- a bit below a run joins it or begins a new one
  run-joined : runs (signal_of (c ∷ d ∷ ds)) ≡ cond (joint c d) (first_run (c ∷ d ∷ ds) (n + 1) ∷ rest) (first_run (c ∷ d ∷ ds) 1 ∷ first_run (d ∷ ds) n ∷ rest)
  unfolding runs join signal_of bit_of bit_at first_run run_by joint joined is_digit is_bit
  run-joined =
      ap (join (bit_of (bit_at c))) h
      ∙ by-test (ltb c 6) (λ e. by-test (ltb d 6) (λ q. rw (e, q, add-one n)) (λ q. rw (e, q)))
      (λ e. by-test (ltb d 6) (λ q. rw (e, q)) (λ q. rw (e, q)))

  run-longer : joint c d ≡ true → runs (signal_of (c ∷ d ∷ ds)) ≡ first_run (c ∷ d ∷ ds) (n + 1) ∷ rest
  run-longer t = run-joined ∙ rw t

  run-new : joint c d ≡ false → runs (signal_of (c ∷ d ∷ ds)) ≡ first_run (c ∷ d ∷ ds) 1 ∷ runs (signal_of (d ∷ ds))
  run-new t = run-joined ∙ rw (t, h)

-- the lowest run of bits begins with the first
pub record Begins (s : List ℕ) : Type 0 where
  pub count : ℕ
  pub rest : List Run
  pub is : runs (signal_of s) ≡ first_run s count ∷ rest

begins : (d : ℕ) (ds : List ℕ) → Begins (d ∷ ds)
begins d [] = record { count = 1; rest = []; is = run-one d }
begins c (d ∷ ds) =
    let b = begins d ds in
    by-test (joint c d) (λ t. record { count = b.count + 1; rest = b.rest; is = run-longer c d ds b.count b.rest b.is t })
    (λ t. record { count = 1; rest = runs (signal_of (d ∷ ds)); is = run-new c d ds b.count b.rest b.is t })

run-below : (c : ℕ) (l : List ℕ) → (0 < length l → joint c (get_or l 0 0) ≡ false) → runs (signal_of (c ∷ l)) ≡ first_run (c ∷ l) 1 ∷ runs (signal_of l)
unfolding runs signal_of
run-below c [] h = run-one c
run-below c (d ∷ ds) h = let b = begins d ds in run-new c d ds b.count b.rest b.is (h (omega arith))

-- the highest bit of a run
pub run-top : (s : List ℕ) (i j : ℕ) → i ≡ j + 1 → i ≤ length s → Apart s i → runs (signal_of (drop j s)) ≡ first_run (drop j s) (i - j) ∷ runs (signal_of (drop i s))
run-top s i j e h a =
    let q : i - j ≡ 1 = omega arith in
    let e1 : i ≡ suc j = omega arith in
    let z : i + 0 ≡ i = omega arith in
    let y : i - 1 ≡ j = omega arith in
    rw (q, drop-cons s j 0 (omega arith), ← e1)
    (run-below (get_or s j 0) (drop i s) (λ l. rw (get_or-drop i s 0 0, z) (rw y at (a (omega arith) (omega (arith, length-drop i s))))))

-- a bit more below the run from j up to i
pub run_more : (s : List ℕ) (i j k : ℕ) → j ≡ k + 1 → j < i → i ≤ length s → joint (get_or s k 0) (get_or s j 0) ≡ true → runs (signal_of (drop j s)) ≡ first_run (drop j s) (i - j) ∷ runs (signal_of (drop i s)) → runs (signal_of (drop k s)) ≡ first_run (drop k s) (i - k) ∷ runs (signal_of (drop i s))
run_more s i j k e l h t r =
    let q : i - k ≡ i - j + 1 = omega arith in
    let e1 : j ≡ suc k = omega arith in
    let dk : drop k s ≡ get_or s k 0 ∷ get_or s j 0 ∷ drop (suc j) s = drop-cons s k 0 (omega arith) ∙ ap (λ (m : List ℕ). get_or s k 0 ∷ m) (ap (λ (x : ℕ). drop x s) (sym e1) ∙ drop-cons s j 0 (omega arith)) in
    let dj : drop j s ≡ get_or s j 0 ∷ drop (suc j) s = drop-cons s j 0 (omega arith) in
    rw (q, dk) (run-longer (get_or s k 0) (get_or s j 0) (drop (suc j) s) (i - j) (runs (signal_of (drop i s))) (rw dj at r) t)

-- several runs
longer-join : (b : Bit) (rs : List Run) → length rs ≤ length (join b rs)
unfolding join
longer-join (digit d) [] = omega arith
longer-join (digit d) (digits ds ∷ rs) = omega arith
longer-join (digit d) (span w l n ∷ rs) = omega arith
longer-join (bit w i) [] = omega arith
longer-join (bit w i) (digits ds ∷ rs) = omega arith
longer-join (bit w i) (span v l n ∷ rs) = by-test (eqb w v && eqb (i + 1) l) (λ e. rw e (omega arith)) (λ e. rw e (omega arith))

more-runs : (j : ℕ) (s : List ℕ) → length (runs (signal_of (drop j s))) ≤ length (runs (signal_of s))
unfolding runs signal_of
more-runs zero s = omega arith
more-runs (suc j) [] = omega arith
more-runs (suc j) (x ∷ s) = omega (arith, more-runs j s, longer-join (bit_of (bit_at x)) (runs (signal_of s)))

pub runs-several : (s : List ℕ) (j : ℕ) → 0 < j → Lowest s (length s) j → 2 ≤ length (runs (signal_of s))
runs-several s j h w =
    let e : runs (signal_of (drop (j - 1) s)) ≡ first_run (drop (j - 1) s) (j - (j - 1)) ∷ runs (signal_of (drop j s)) = run-top s j (j - 1) (omega arith) (omega (arith, w.below)) w.apart in
    omega (arith, more-runs (j - 1) s, ap length e, ap length w.run)
