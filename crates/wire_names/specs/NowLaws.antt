-- The wires of a module by their names now: how many, and the wire of a number.
-- Assumes nothing.
use Rattle.std.specs.Prelude.{◌≡◌, Bool, true, false, List, [], ◌∷◌, length, drop}
use Rattle.std.proofs.Math.Path.{refl, ap}
use Rattle.std.proofs.Common.{sym, ◌∙◌}
use Prim.Native.Nat.{ℕ, zero, suc, ◌+◌, ◌-◌}
use native.Mathlib.Omega.{arith}
use Rattle.std.proofs.Math.Seq.{drop-nil}
use Rattle.rules.specs.Tokens.{Name}
use Rattle.lists.specs.Tests.{by-test}
use Rattle.wires.specs.Rows.{span_at, name_of, wire_of}
use Rattle.netlist.specs.Rows.{name_from}
use Rattle.wire_names.specs.declared.Module.{Module}
use Rattle.wire_names.specs.Now.{renames, last_rename, name_now, wires_now, wires_in}

module _ (names wires rows : List ℕ) (from count m first : ℕ) where
  pub length-now : (many : ℕ) → length (wires_now names wires rows from count m first many) ≡ many
  unfolding wires_now
  length-now zero = refl
  length-now (suc k) = ap suc (length-now k)

  pub drop-now : (d j many : ℕ) → many ≡ d + j → drop d (wires_now names wires rows from count m first many) ≡ wires_now names wires rows from count m first j
  unfolding wires_now
  drop-now zero j many e = let q : many ≡ j = omega arith in rw q
  drop-now (suc d) j zero e = absurd (omega arith)
  drop-now (suc d) j (suc many) e = drop-now d j many (omega arith)

-- a turn of the search for the last rename: b tells whether row from + j is one of the wire
module _ (rows : List ℕ) (from m n i : ℕ) where
  pub rename-none : i ≡ 0 → last_rename rows from i m n ≡ 0
  unfolding last_rename
  rename-none e = rw e

  module _ (j : ℕ) (e : i ≡ suc j) (b : Bool) (eb : b ≡ renames rows (from + j) m n) where
    pub rename-here : b ≡ true → last_rename rows from i m n ≡ i
    unfolding last_rename
    rename-here t = rw (e, ← eb, t)

    pub rename-before : b ≡ false → last_rename rows from i m n ≡ last_rename rows from j m n
    unfolding last_rename
    rename-before t = rw (e, ← eb, t)

-- it gives the name now, and without one the wire's row does
unfoldable pub name_by : (names wires rows : List ℕ) → (from k last : ℕ) → Name
name_by names wires rows from k zero = span_at names wires k 1
name_by names wires rows from k (suc j) = span_at names rows (from + j) 1

pub name_by_lem : (names wires rows : List ℕ) (from m n k count : ℕ) → name_now names wires rows from count m n k ≡ name_by names wires rows from k (last_rename rows from count m n)
unfolding name_now last_rename name_by name_of name_from span_at
name_by_lem names wires rows from m n k zero = refl
name_by_lem names wires rows from m n k (suc c) =
    by-test (renames rows (from + c) m n) (λ e. rw e) (λ e. rw e (name_by_lem names wires rows from m n k c))

pub name-at : (names wires rows : List ℕ) (from m n k count last l : ℕ) → last ≡ last_rename rows from count m n → last ≡ l → name_by names wires rows from k l ≡ name_now names wires rows from count m n k
name-at names wires rows from m n k count last l el e = sym (name_by_lem names wires rows from m n k count ∙ ap (name_by names wires rows from k) (sym el ∙ e))

-- a wire's number n in its module of so many wires; one past them is taken for the last
pub wire-now : (names wires rows : List ℕ) (x : Module) (w n : ℕ) → x.wires ≡ (x.wires - (w + 1)) + suc n → drop (x.wires - (w + 1)) (wires_in names wires rows x) ≡ (name_now names wires rows x.from x.renames x.number.0 n (x.first + n), wire_of wires (x.first + n)) ∷ wires_now names wires rows x.from x.renames x.number.0 x.first n
unfolding wires_in wires_now
wire-now names wires rows x w n e = drop-now names wires rows x.from x.renames x.number.0 x.first (x.wires - (w + 1)) (suc n) x.wires e

pub length-in : (names wires rows : List ℕ) (x : Module) → length (wires_in names wires rows x) ≡ x.wires
unfolding wires_in
length-in names wires rows x = length-now names wires rows x.from x.renames x.number.0 x.first x.wires

pub none_in : (names wires rows : List ℕ) (x : Module) (d : ℕ) → x.wires ≡ 0 → drop d (wires_in names wires rows x) ≡ []
unfolding wires_in wires_now
none_in names wires rows x d e = rw e (drop-nil d)
