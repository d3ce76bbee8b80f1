-- A row of the layout holds its wire; the flags and the port's number of a row's wire are the row's.
-- Assumes nothing.
use Prim.Native.Nat.{ℕ, zero, suc, ◌+◌, ◌*◌, ◌/◌, ◌%◌, ◌≤◌, ◌<◌}
use Rattle.std.specs.Prelude.{◌≡◌, refl, Bool, true, false, eqb, length, get_or, take, drop}
use Rattle.std.proofs.Common.{sym, ◌∙◌, get_or-take, get_or-drop, ne_eqb}
use Rattle.std.proofs.Math.Path.{ap}
use mathlib.Core.List.{List, [], reverse, reverse_aux}
use Rattle.std.proofs.Math.Option.{Option, none, some, Option-elim}
use Rattle.std.proofs.Math.Bool.{cond, ◌||◌}
use native.Mathlib.Omega.{arith}
use Rattle.std.proofs.Math.ListN.{get_elem?}
use Rattle.std.specs.List.{list_any, range_with_len}
use Rattle.std.proofs.lemmas.List.{length-reverse}
use Rattle.rules.specs.Signals.{Wires}
use Rattle.rules.specs.Tokens.{Name}
use Rattle.rules.specs.Statements.{Wire, Direction, input, output, inout}
use Rattle.rules.specs.Numbers.{int32}
use Rattle.rules.specs.Layout.{Used, padded, row, direction_code, flags, wire_row}
use Rattle.lists.specs.Tests.{by_order, cond-le}
use Rattle.lists.specs.Lists.{element-none, element-behind}
use Rattle.lists.specs.Parts.{slice-span}
use Rattle.numbers.specs.SignedLaws.{signed_word}
use Rattle.wires.specs.Rows.{word_at, column, name_of, port_of, wire_of, wires_from, span_at}

pub length-wires : (names t : List ℕ) (first count : ℕ) → length (wires_from names t first count) ≡ count
unfolding wires_from
length-wires names t first zero = refl
length-wires names t first (suc k) = ap suc (length-wires names t first k)

pub length-wire-row : (u : Used) (x : Name × Wire) → length (wire_row u x) ≡ 8
unfolding wire_row row padded
length-wire-row u x = refl

-- what stands in a table from a place on, where two columns say where and how much
pub span-has : (t rows : List ℕ) (k c at : ℕ) (xs : List ℕ) → column rows k c ≡ at → column rows k (c + 1) ≡ length xs → take (length xs) (drop at t) ≡ xs → span_at t rows k c ≡ xs
unfolding span_at
span-has t rows k c at xs ea en e = rw (ea, en) (slice-span at (length xs) t ∙ e)

-- row k of a table has these eight columns
abbrev pub RowIs : List ℕ → ℕ → List ℕ → Type 0
RowIs t k r = (c : ℕ) → c < 8 → column t k c ≡ get_or r c 0

-- the flags from their parts, and the parts from the flags
bool-code : (a : Bool) → eqb (cond a 1 0) 1 ≡ a
bool-code true = refl
bool-code false = refl

flag-parts :
    (a b : Bool) (d : ℕ) → let f = cond a 1 0 + cond b 2 0 + 4 * d in (f % 2 ≡ cond a 1 0) × (f / 2 % 2 ≡ cond b 1 0) × (f / 4 ≡ d)
flag-parts true true d = omega arith
flag-parts true false d = omega arith
flag-parts false true d = omega arith
flag-parts false false d = omega arith

abbrev port_code : Option (Direction × ℕ) → ℕ
port_code none = 0
port_code (some (input, n)) = 1
port_code (some (output, n)) = 2
port_code (some (inout, n)) = 3

port-flag : (p : Option (Direction × ℕ)) → Option-elim p 0 (λ q. direction_code q.0) ≡ 4 * port_code p
unfolding Option-elim direction_code
port-flag none = refl
port-flag (some (input, n)) = refl
port-flag (some (output, n)) = refl
port-flag (some (inout, n)) = refl

port-small : (p : Option (Direction × ℕ)) → Option-elim p 0 (λ q. direction_code q.0) ≤ 12
unfolding Option-elim direction_code
port-small none = omega arith
port-small (some (input, n)) = omega arith
port-small (some (output, n)) = omega arith
port-small (some (inout, n)) = omega arith

pub flags-few : (w : Wire) → flags w ≤ 15
unfolding flags
flags-few w = omega (arith, cond-le w.upto 1, cond-le w.signed 2, port-small w.port)

port-back : (p : Option (Direction × ℕ)) → port_of (port_code p) (Option-elim p 0 (λ q. q.1)) ≡ p
unfolding Option-elim port_of
port-back none = refl
port-back (some (input, n)) = refl
port-back (some (output, n)) = refl
port-back (some (inout, n)) = refl

module _ (t : List ℕ) (k : ℕ) (u : Used) (n : Name) (w : Wire) (h : RowIs t k (wire_row u (n, w))) where
  flags-are : column t k 5 ≡ cond w.upto 1 0 + cond w.signed 2 0 + 4 * port_code w.port
  unfolding wire_row row padded flags
  flags-are = h 5 (omega arith) ∙ ap (λ (x : ℕ). cond w.upto 1 0 + cond w.signed 2 0 + x) (port-flag w.port)

  pub row-wire : int32 w.offset ≡ true → wire_of t k ≡ w
  unfolding wire_row row padded wire_of
  row-wire o =
      let f = flag-parts w.upto w.signed (port_code w.port) in
      rw (h 3 (omega arith), h 4 (omega arith), h 6 (omega arith), flags-are, f.0, f.1, f.2, bool-code w.upto, bool-code w.signed, port-back, signed_word w.offset o)

  pub row-name : (names : List ℕ) → take (length n) (drop u.names names) ≡ n → name_of names t k ≡ n
  unfolding wire_row row padded name_of
  row-name names e = span-has names t k 1 u.names n (h 1 (omega arith)) (h 2 (omega arith)) e

-- ---- from a row's columns to its wire's parts: the flags and the port's number are the columns again

bit-weight : (b n : ℕ) → b < 2 → cond (eqb b 1) n 0 ≡ b * n
bit-weight zero n h = omega arith
bit-weight (suc zero) n h = omega arith
bit-weight (suc (suc b)) n h = absurd (omega arith)

-- a direction's code is 1, 2 or 3
pub port-by : (d n : ℕ) → 0 < d → d ≤ 3 → (x : Direction) × (port_of d n ≡ some (x, n)) × (direction_code x ≡ 4 * d)
unfolding direction_code port_of
port-by zero n h k = absurd (omega arith)
port-by (suc zero) n h k = (input, refl, refl)
port-by (suc (suc zero)) n h k = (output, refl, refl)
port-by (suc (suc (suc zero))) n h k = (inout, refl, refl)
port-by (suc (suc (suc (suc d)))) n h k = absurd (omega arith)

pub port-none : (d n : ℕ) → (d ≡ 1 → ⊥) → (d ≡ 2 → ⊥) → (d ≡ 3 → ⊥) → port_of d n ≡ none
unfolding port_of
port-none d n h k l = rw (ne_eqb d 1 h, ne_eqb d 2 k, ne_eqb d 3 l)

direction-back : (d p : ℕ) → d ≤ 3 → Option-elim (port_of d p) 0 (λ q. direction_code q.0) ≡ 4 * d
unfolding Option-elim port_of
direction-back zero p h = refl
direction-back (suc d) p h = let x = port-by (suc d) p (omega arith) h in rw x.1 x.2

number-back : (d p : ℕ) → d ≤ 3 → (d ≡ 0 → p ≡ 0) → Option-elim (port_of d p) 0 (λ q. q.1) ≡ p
unfolding Option-elim port_of
number-back zero p h e = sym (e refl)
number-back (suc d) p h e = let x = port-by (suc d) p (omega arith) h in rw x.1

module _ (t : List ℕ) (k : ℕ) (h : column t k 5 ≤ 15) where
  pub flags-back : flags (wire_of t k) ≡ column t k 5
  unfolding flags wire_of
  flags-back =
      let e : ℕ = column t k 5 in
      let x = bit-weight (e % 2) 1 (omega arith) in
      let y = bit-weight (e / 2 % 2) 2 (omega arith) in
      let z = direction-back (e / 4) (column t k 6) (omega arith) in
      rw (x, y, z) (omega arith)

  -- without a port it has to be 0
  pub port-number-back : (column t k 5 < 4 → column t k 6 ≡ 0) → Option-elim (wire_of t k).port 0 (λ q. q.1) ≡ column t k 6
  unfolding wire_of
  port-number-back e = number-back (column t k 5 / 4) (column t k 6) (omega arith) (λ z. e (omega arith))

-- ---- rows in a table

-- the row of eight words from 8 * k on
pub row-taken : (t : List ℕ) (k : ℕ) (r : List ℕ) → take 8 (drop (8 * k) t) ≡ r → RowIs t k r
unfolding column word_at
row-taken t k r e c l = sym (ap (λ (x : List ℕ). get_or x c 0) (sym e) ∙ get_or-take 8 (drop (8 * k) t) c 0 l ∙ get_or-drop (8 * k) t c 0)

-- wire j of the module, in the order of the rows, is row first + j
module _ (names t : List ℕ) (first j : ℕ) where
  numbered : (count : ℕ) (r : Wires) → j < count → get_elem? (reverse_aux (wires_from names t first count) r) j ≡ some (name_of names t (first + j), wire_of t (first + j))
  unfolding wires_from
  numbered zero r h = absurd (omega arith)
  numbered (suc k) r h =
      by_order k j
      (λ e. let q : j ≡ k = omega arith in element-behind (wires_from names t first k) _ 0 j (omega (arith, length-wires names t first k)) ∙ rw q)
      (numbered k _)

  pub wire-numbered : (count : ℕ) → j < count → get_elem? (reverse (wires_from names t first count)) j ≡ some (name_of names t (first + j), wire_of t (first + j))
  wire-numbered count h = numbered count [] h

  pub wire-past : (count : ℕ) → count ≤ j → get_elem? (reverse (wires_from names t first count)) j ≡ none
  wire-past count h =
      let ws : Wires = wires_from names t first count in
      element-none (reverse ws) j (omega (arith, length-reverse ws, length-wires names t first count))

-- ---- a search by numbers: of those below n the last one, or one before it

or-swap : (a b c : Bool) → (a || (b || c)) ≡ (b || (a || c))
or-swap true true c = refl
or-swap true false c = refl
or-swap false b c = refl

any-last : (f : ℕ → Bool) (a n : ℕ) → list_any f (range_with_len a (suc n)) ≡ (f (a + n) || list_any f (range_with_len a n))
any-last f a zero = ap (λ (i : ℕ). f i || false) (omega arith)
any-last f a (suc k) =
    ap (λ (b : Bool). f a || b) (any-last f (a + 1) k)
    ∙ or-swap (f a) (f (a + 1 + k)) (list_any f (range_with_len (a + 1) k))
    ∙ ap (λ (i : ℕ). f i || (f a || list_any f (range_with_len (a + 1) k))) (omega arith)

pub any-below : (f : ℕ → Bool) (n : ℕ) → list_any f (range_with_len 0 (suc n)) ≡ (f n || list_any f (range_with_len 0 n))
any-below f n = any-last f 0 n ∙ ap (λ (i : ℕ). f i || list_any f (range_with_len 0 n)) (omega arith)
