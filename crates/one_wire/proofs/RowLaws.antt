-- A wire by its row, and the first row of a name.
-- Assumes nothing.
use Prim.Native.Nat.{ℕ, suc, ◌+◌, ◌-◌, ◌%◌, ◌≤◌, ◌<◌}
use mathlib.Core.Path.{◌≡◌, sym, ap, ap₂, ◌∙◌, subst}
use mathlib.Core.List.{List}
use mathlib.Core.Option.{Option, none, some}
use mathlib.Core.Bool.{Bool, true, false}
use native.Mathlib.Omega.{arith}
use lib.Dec.{eqb}
use Rattle.std.specs.Prelude.{Ok, Result}
use Rattle.rules.specs.Bytes.{same}
use Rattle.rules.specs.Tokens.{Name}
use Rattle.rules.specs.Statements.{Wire}
use Rattle.rules.specs.Judgement.{Verdict}
use Rattle.rules.specs.Quick.{Sought, gives, stops, of_verdict, of_wire}
use Rattle.numbers.specs.Signed.{signed_of}
use Rattle.wires.specs.Rows.{column, span_at, name_of, wire_of}
use Rattle.netlist.specs.declared.results.Refused.{Refused}
use Rattle.modules.specs.declared.Range.{Range}
use Rattle.one_wire.specs.Asked.{row_named, row_sought, DeclaredAs}
use Rattle.one_wire.specs.declared.Declared.{Declared}

pub wire-row :
    (t : List ℕ) (k w o g : ℕ) (u : Bool) → w ≡ column t k 3 → o ≡ column t k 4 → g ≡ column t k 5 → u ≡ eqb (g % 2) 1 →
    DeclaredAs (gives (wire_of t k)) (Ok (record { width = w; offset = o; upto = u }))
unfolding wire_of
wire-row t k w o g u ew eo eg eu =
    let v : (wire_of t k).upto ≡ u = sym (eu ∙ ap (λ (x : ℕ). eqb (x % 2) 1) eg) in (
      (wire_of t k).signed,
      (wire_of t k).port,
      λ i. gives (record { width = sym ew i; offset = signed_of (sym eo i); upto = v i; signed = (wire_of t k).signed; port = (wire_of t k).port }),
    )

-- whether the name of a row's wire is this one
pub named : (names t n b : List ℕ) (row : ℕ) (x y : Bool) → b ≡ span_at names t row 1 → x ≡ same b n → x ≡ y → same (name_of names t row) n ≡ y
unfolding name_of
named names t n b row x y eb ex e = ap (λ (s : List ℕ). same s n) (sym eb) ∙ sym ex ∙ e

-- the search from row k of the range on
module _ (names t : List ℕ) (n : Name) (r : Range) where
  unfoldable pub From : ℕ → Option Wire
  From k = row_named names t n (r.count - k) (r.first + k)

  pub from_start : From 0 ≡ row_named names t n r.count r.first
  unfolding From
  from_start = ap₂ (row_named names t n) (omega arith) (omega arith)

  module _ (k : ℕ) where
    one_more : k < r.count → From k ≡ row_named names t n (suc (r.count - (k + 1))) (r.first + k)
    unfolding From
    one_more h = ap (λ (l : ℕ). row_named names t n l (r.first + k)) (omega arith)

    pub from_more : (row : ℕ) → row ≡ r.first + k → k < r.count → same (name_of names t row) n ≡ false → From k ≡ From (k + 1)
    unfolding From row_named
    from_more row er h e =
        let q : r.first + k + 1 ≡ r.first + (k + 1) = omega arith in
        one_more h ∙ rw (← er, e) (ap (row_named names t n (r.count - (k + 1))) (rw er q))

    pub from_found : (row : ℕ) → row ≡ r.first + k → k < r.count → same (name_of names t row) n ≡ true → From k ≡ some (wire_of t row)
    unfolding row_named
    from_found row er h e = one_more h ∙ rw (← er, e)

    pub from_end : r.count ≤ k → From k ≡ none
    unfolding From row_named
    from_end h = let z : r.count - k ≡ 0 = omega arith in ap (λ (l : ℕ). row_named names t n l (r.first + k)) z

  -- so what is sought in the range, q
  module _ (k : ℕ) (all : From k ≡ row_named names t n r.count r.first) (q : Range) (is : r ≡ q) where
    pub sought-row :
        (row : ℕ) → row ≡ r.first + k → k < r.count → same (name_of names t row) n ≡ true →
        (x : Result Declared Refused) → DeclaredAs (gives (wire_of t row)) x → DeclaredAs (row_sought names t n q) x
    unfolding row_sought of_wire of_verdict
    sought-row row er h e x d =
        let y : gives (wire_of t row) ≡ row_sought names t n r = sym (ap (of_wire (λ w. Verdict.accepted w)) (sym all ∙ from_found k row er h e)) in
        subst (λ (z : Sought Wire). DeclaredAs z x) (y ∙ ap (row_sought names t n) is) d

    pub sought-none : r.count ≤ k → row_sought names t n q ≡ stops 8 0
    unfolding row_sought of_wire
    sought-none h = ap (row_sought names t n) (sym is) ∙ ap (of_wire (λ w. Verdict.accepted w)) (sym all ∙ from_end k h)
