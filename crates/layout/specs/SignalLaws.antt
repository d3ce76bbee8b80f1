-- A signal in scratch, and signals of one width there.
-- Assumes nothing.
use Rattle.std.specs.Prelude.{ℕ, zero, suc, ◌+◌, ◌*◌, ◌≤◌, ◌≡◌, refl, cond, eqb, length, take, drop}
use Rattle.std.proofs.Common.{sym, ap, ◌∙◌, arith, ne_eqb, length-append, length-drop, length-take-le}
use mathlib.Core.List.{List, [], ◌∷◌, ◌++◌, map, flat_map, reverse}
use Rattle.std.proofs.lemmas.List.{length-map, length-reverse}
use Rattle.std.proofs.Math.Seq.{slice}
use Rattle.rules.specs.Layout.{bit_code, each_length}
use Rattle.lists.specs.Lists.{flat_map-map, flat_map-same, flat_map-snoc}
use Rattle.lists.specs.Parts.{slice-span}
use Rattle.numbers.specs.Kinds.{signal_of}
use Rattle.numbers.specs.KindLaws.{codes-back, length-signal}
use Rattle.netlist.specs.Steps.{pieces}
use Rattle.signal_list.proofs.Pieces.{pieces_more}
use Rattle.syntax.specs.Statements.{signal_in, signals_in}

-- the codes of a signal in scratch are those that stand there
module _ (scratch : List ℕ) (o w : ℕ) where
  pub signal-codes : map bit_code (signal_in scratch o w) ≡ reverse (slice o (o + w) scratch)
  unfolding signal_in
  signal-codes = codes-back (reverse (slice o (o + w) scratch))

-- ---- pieces of one width

length-pieces : (w n : ℕ) (s : List ℕ) → length (pieces w n s) ≡ n
unfolding pieces
length-pieces w zero s = refl
length-pieces w (suc n) s = ap suc (length-pieces w n (drop w s))

-- their words, each piece from its last on: how many, and those of one more
pub pieces-long : (w n : ℕ) (s : List ℕ) → n * w ≤ length s → length (flat_map reverse (pieces w n s)) ≡ n * w
unfolding pieces flat_map
pieces-long w zero s h = omega arith
pieces-long w (suc n) s h =
    let q : suc n * w ≡ w + n * w = omega arith in
    let rest : length (flat_map reverse (pieces w n (drop w s))) ≡ n * w = pieces-long w n (drop w s) (omega (arith, length-drop w s)) in
    length-append (reverse (take w s)) (flat_map reverse (pieces w n (drop w s))) ∙ omega (arith, length-reverse (take w s), length-take-le w s (omega arith))

pub pieces-next : (w n i : ℕ) (s : List ℕ) → i ≡ n * w → flat_map reverse (pieces w (suc n) s) ≡ flat_map reverse (pieces w n s) ++ reverse (slice i (i + w) s)
pieces-next w n i s e =
    let piece : take w (drop (n * w) s) ≡ slice i (i + w) s = rw e (sym (slice-span (n * w) w s)) in
    ap (flat_map reverse) (pieces_more w n s)
    ∙ flat_map-snoc reverse (pieces w n s) (take w (drop (n * w) s))
    ∙ ap (λ (r : List ℕ). flat_map reverse (pieces w n s) ++ reverse r) piece

-- ---- signals of one width

pub signals-count : (s : List ℕ) (w n : ℕ) → length (signals_in s w n) ≡ n
unfolding signals_in
signals-count s w n = length-map (pieces w n s) (λ xs. signal_of (reverse xs)) ∙ length-pieces w n s

pub signals-width : (s : List ℕ) (w n : ℕ) → n * w ≤ length s → each_length (signals_in s w n) ≡ cond (eqb n 0) 0 w
unfolding signals_in pieces each_length
signals-width s w zero h = refl
signals-width s w (suc n) h =
    let q : suc n * w ≡ w + n * w = omega arith in
    rw (ne_eqb (suc n) 0 (λ e. omega arith)) (length-signal (reverse (take w s)) ∙ length-reverse (take w s) ∙ length-take-le w s (omega arith))

pub signals-codes : (s : List ℕ) (w n : ℕ) → flat_map (map bit_code) (signals_in s w n) ≡ flat_map reverse (pieces w n s)
unfolding signals_in
signals-codes s w n =
    flat_map-map (map bit_code) (λ xs. signal_of (reverse xs)) (pieces w n s)
    ∙ flat_map-same (λ xs. map bit_code (signal_of (reverse xs))) reverse (λ xs. codes-back (reverse xs)) (pieces w n s)
