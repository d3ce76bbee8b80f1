-- What the calls on one wire of a file give back.
use Rattle.std.specs.Prelude.{ℕ, zero, suc, ◌+◌, ◌≡◌, List, Bool, cond, ℤ, pos, Ok, Err, Result}
use Rattle.std.proofs.Math.Option.{Option, none, some}
use Rattle.rules.specs.Bytes.{same}
use Rattle.rules.specs.Tokens.{Name}
use Rattle.rules.specs.Statements.{Direction, Wire}
use Rattle.rules.specs.Judgement.{Verdict}
use Rattle.rules.specs.Session.{index_in}
use Rattle.rules.specs.Quick.{Sought, gives, stops, of_verdict, of_wire, seek}
use Rattle.numbers.specs.Signed.{signed_of}
use Rattle.wires.specs.Rows.{name_of, wire_of}
use Rattle.netlist.specs.declared.results.Refused.{Refused}
use Rattle.modules.specs.declared.Range.{Range}
use Rattle.one_wire.specs.declared.Declared.{Declared}

-- number, place and answer; refused, the answer is that of nothing
unfoldable pub told : {A : Type 0} → A → Sought A → ℕ × ℕ × A
told nothing (gives a) = (0, 0, a)
told nothing (stops n p) = (n, p, nothing)

-- the wire itself
unfoldable pub wire_sought : List ℕ → ℕ → Name → Sought Wire
wire_sought file m n = seek (λ w. Verdict.accepted w) file m n

-- the first wire of this name in so many rows from one on
unfoldable pub row_named : (names wires : List ℕ) → Name → (many row : ℕ) → Option Wire
row_named names wires n zero k = none
row_named names wires n (suc l) k = let r = row_named names wires n l (k + 1) in cond (same (name_of names wires k) n) (some (wire_of wires k)) r

unfoldable pub row_sought : (names wires : List ℕ) → Name → Range → Sought Wire
row_sought names wires n r = of_wire (λ w. Verdict.accepted w) (row_named names wires n r.count r.first)

-- the wire of these numbers, whatever its other options; or the refusal
abbrev pub DeclaredAs : Sought Wire → Result Declared Refused → Type 0
DeclaredAs x (Ok d) = (signed : Bool) × (port : Option (Direction × ℕ)) × (x ≡ gives (record { width = d.width; offset = signed_of d.offset; upto = d.upto; signed = signed; port = port }))
DeclaredAs x (Err r) = x ≡ stops r.number r.place

abbrev pub IndexTold : (offset width : ℕ) → Bool → ℕ → ℕ × ℕ × ℤ → Type 0
IndexTold o w u i a = (signed : Bool) (port : Option (Direction × ℕ)) → a ≡ told (pos 0) (of_verdict (index_in (record { width = w; offset = signed_of o; upto = u; signed = signed; port = port }) i))
