-- The line of a row's statement, with the wires' names as they are now.
use Rattle.std.specs.Prelude.{ℕ, ◌*◌, ◌≡◌, List, [], ◌∷◌, ◌++◌, false, cond, eqb, replicate}
use Rattle.std.proofs.Math.Option.{Option, none, some}
use Rattle.rules.specs.Statements.{Statement, wire-stmt, wire_kind, cell_connection_kind, connection_kind, step_kind}
use Rattle.rules.specs.Signals.{Wires}
use Rattle.rules.specs.Text.{written, shape_tokens, spaced}
use Rattle.wires.specs.Rows.{column, wire_of}
use Rattle.netlist.specs.Rows.{kind_at}
use Rattle.netlist.specs.Statements.{statement_by, statement_at}
use Rattle.wire_names.specs.declared.Module.{Module}
use Rattle.wire_names.specs.Now.{own_now}
use Rattle.text.specs.Written.{Written}

-- the highest level that the rows of any table come to: two a row
abbrev pub most_level : ℕ
most_level = 8589934592

-- the statement in row k; a wire's has its name now
unfoldable pub statement_now : (names strings bits wires rows : List ℕ) → Module → ℕ → Option Statement
statement_now names strings bits wires rows m k =
    cond (eqb (kind_at rows k) wire_kind) (some (wire-stmt (wire_of wires (column rows k 3)) (own_now names wires rows m (column rows k 3))))
    (statement_at names strings bits wires rows k)

-- a statement's text; where a row holds none, none
unfoldable pub body_text : Wires → Option Statement → List ℕ
body_text ws none = []
body_text ws (some s) = spaced (shape_tokens (written ws s))

-- two spaces a level before it, and the line end
unfoldable pub line_of : ℕ → Wires → Option Statement → List ℕ
line_of level ws o = replicate (2 * level) 32 ++ body_text ws o ++ 10 ∷ []

-- the statement of a kind other than those that name wires is written, whatever the wires are
abbrev pub PlainIs : (names strings bits rows : List ℕ) → (k kind at : ℕ) → (old new : List ℕ) → ℕ → Type 0
PlainIs names strings bits rows k kind at old new r =
    (wires : List ℕ) (ws : Wires) → eqb kind wire_kind ≡ false → eqb kind cell_connection_kind ≡ false → eqb kind connection_kind ≡ false → eqb kind step_kind ≡ false →
    Written at (body_text ws (statement_by names strings bits wires rows k kind)) old new r
