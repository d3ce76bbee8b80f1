-- The statements replayed so far, and one more.
use Rattle.std.specs.Prelude.{ℕ, ◌≤◌, ◌≡◌, List, ◌∷◌, ◌++◌, map, Bool, true, false, ◌&&◌, leb, length, Some, None}
use Rattle.std.specs.Prelude.{Option as Optional}
use Rattle.rules.specs.Limits.{most_signal_bits, most_value_bits, most_string_bytes, name_room, most_statements, most_step_signals}
use Rattle.rules.specs.Statements.{Statement, Signal, Step, step_code, code, contents}
use Rattle.rules.specs.Judgement.{Past, takes_name, equal, step_widths, fit_widths, exceeds_size}
use Rattle.rules.specs.Layout.{Used, used, each_length, statement_row, name_bytes}
use Rattle.admitted.specs.Admitted.{kinds, stands, admits, admitted}
use Rattle.wires.specs.RowLaws.{RowIs}
use Rattle.netlist.specs.Kinds.{of_kinds}
use Rattle.netlist.specs.Laid.{rooms_of, Laid}
use Rattle.context.specs.Place.{place_of, scope_of, step_of, Bounds}
use Rattle.context.specs.Sizes.{sums_of, Within}
use Rattle.context.specs.declared.place.Place.{Place}
use Rattle.context.specs.declared.sizes.Sizes.{Sizes}
use Rattle.context.specs.declared.sizes.Standing.{Standing}
use Rattle.netlist.specs.Spans.{Has}
use Rattle.tables.specs.Row.{words}
use Rattle.tables.specs.declared.Row.{Row}
use Rattle.steps.specs.Steps.{Single}
use Rattle.row_statements.specs.Reads.{PartTables, even_signals, Counts}
use Rattle.netlist.specs.Fronts.{Fronts}
use Rattle.replay.specs.Begins.{with_rows}

-- whether a statement of this kind has a form at a place
unfoldable pub stands_at : Place → ℕ → Bool
stands_at p k = of_kinds (kinds (scope_of p.scope p.depth) p.first p.attributed) k

-- whether so many signals of this width have the width that a step asks for, behind statements whose rows are these
abbrev pub AskedFits : List ℕ → Place → (step width count : ℕ) → Bool → Type 0
AskedFits rows p t w n r =
    (names : List ℕ) (ss : Past) (q : Step) (xs : List Signal) → Laid (rooms_of ss) names rows → Single ss → p ≡ place_of ss → step_code q ≡ t →
    equal (map length xs) ≡ true → each_length xs ≡ w → length xs ≡ n → r ≡ equal (step_widths ss q ++ map length xs)

-- whether the line of a row may stand there, and its signals have fitting widths
abbrev pub LineStands : List ℕ → Place → Row → Bool → Type 0
LineStands rows p r b =
    (names : List ℕ) (ss : Past) (u : Used) (s : Statement) → Laid (rooms_of ss) names rows → Single ss → p ≡ place_of ss → words r ≡ statement_row u s → even_signals s ≡ true →
    b ≡ stands ss s && fit_widths ss s (map length (contents s).signals)

-- nothing exceeds its size, so that sums don't wrap
pub record Ready (p : Place) (u : Sizes) : Type 0 where
  pub bounds : Bounds p
  pub few : p.rows ≤ most_statements
  pub within : Within u

-- the tables begin with these statements, behind which stand this place and these sums
pub record Reached (t : PartTables) (rows : List ℕ) (ss : Past) (p : Place) (u : Sizes) : Type 0 where
  pub admits : admitted ss ≡ true
  pub fronts : Fronts (rooms_of ss) (with_rows t rows)
  pub place : place_of ss ≡ p
  pub sums : sums_of ss ≡ u

-- one statement more: the place and the sums behind it; or none can stand there
unfoldable pub TurnIs : PartTables → List ℕ → Place → Sizes → Optional Standing → Type 0
TurnIs t rows p u (Some x) =
    (ss : Past) → Reached t rows ss p u → (s : Statement) × Reached t rows (s ∷ ss) x.place x.sums
TurnIs t rows p u None =
    (ss : Past) → Reached t rows ss p u → (x : Statement) → Fronts (rooms_of (x ∷ ss)) (with_rows t rows) → admits ss x ≡ true → ⊥

-- there is a statement of this kind that holds so much
pub record Told (k c g v x n : ℕ) : Type 0 where
  pub statement : Statement
  pub kind-is : k ≡ code (contents statement).kind
  pub counts : Counts statement c g v x n
  pub few : c ≤ most_step_signals

-- a statement whose row and names stand there: whether its name is new and no size is exceeded
pub record Rowed (t : PartTables) (rows : List ℕ) (ss : Past) (s : Statement) (k j c g v x n : ℕ) : Type 0 where
  pub row : RowIs rows (length ss) (statement_row (used (rooms_of ss)) s)
  pub names : Has t.names (used (rooms_of ss)).names (name_bytes s)
  pub kind : k ≡ code (contents s).kind
  pub step : j ≡ step_of (contents s).steps
  pub counts : Counts s c g v x n

unfoldable pub CountsAs : PartTables → List ℕ → Place → Sizes → (k j c g v x n : ℕ) → Optional Standing → Type 0
CountsAs t rows p u k j c g v x n (Some y) =
    (ss : Past) (s : Statement) → Reached t rows ss p u → Rowed t rows ss s k j c g v x n →
    (takes_name ss s ≡ false) × (exceeds_size (s ∷ ss) ≡ false) × (place_of (s ∷ ss) ≡ y.place) × (sums_of (s ∷ ss) ≡ y.sums)
CountsAs t rows p u k j c g v x n None =
    (ss : Past) (s : Statement) → Reached t rows ss p u → Rowed t rows ss s k j c g v x n → takes_name ss s ≡ false → exceeds_size (s ∷ ss) ≡ false → ⊥

abbrev pub Counted : (names rows : List ℕ) → Place → Sizes → (k j c g v x n : ℕ) → Optional Standing → Type 0
Counted names rows p u k j c g v x n r =
    (strings bits wires : List ℕ) → CountsAs (record { names = names; strings = strings; bits = bits; wires = wires }) rows p u k j c g v x n r

-- no part alone exceeds its size
unfoldable pub small_parts : (g v x n : ℕ) → Bool
small_parts g v x n = leb g most_value_bits && (leb v most_string_bytes && (leb x most_signal_bits && leb n name_room))
