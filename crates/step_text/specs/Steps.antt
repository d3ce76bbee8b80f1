-- The text of a step and its signals.
use Rattle.std.specs.Prelude.{ℕ, ◌≡◌, List, [], ◌∷◌, map, Bool, false, cond, ◌||◌, eqb}
use Rattle.std.proofs.Math.Option.{Option, none, some}
use Rattle.rules.specs.Bytes.{byte}
use Rattle.rules.specs.Tokens.{Token, mark}
use Rattle.rules.specs.Statements.{Signal, Step, step-stmt, assign_step, update_step, switch_step, case_step, low_step, high_step, posedge_step, negedge_step, edge_step, global_step, init_step, always_step}
use Rattle.rules.specs.Signals.{Wires}
use Rattle.rules.specs.Text.{sig, step_tokens, list_tokens, shape_tokens, spaced}
use Rattle.netlist.specs.Steps.{step_named}
use Rattle.text.specs.Written.{Written}
use Rattle.signal_text.specs.Pieces.{spread}

-- whether a code names a step
unfoldable pub names_step : ℕ → Bool
names_step t =
    eqb t assign_step
    || eqb t update_step
    || eqb t switch_step
    || eqb t case_step
    || eqb t low_step
    || eqb t high_step
    || eqb t posedge_step
    || eqb t negedge_step
    || eqb t edge_step
    || eqb t global_step
    || eqb t init_step
    || eqb t always_step

-- its words; where a code names none, none
unfoldable pub step_words : Option Step → List ℕ
step_words none = []
step_words (some p) = spaced (step_tokens p)

-- its signals behind them, each behind a space; a comma between two of them, or nothing
unfoldable pub comma_if : Bool → List Token
comma_if c = cond c (mark (byte ",") ∷ []) []

unfoldable pub signals_text : Wires → (comma : Bool) → List Signal → List ℕ
signals_text ws c xs = spread (list_tokens (comma_if c) (map (sig ws) xs))

-- all of it
unfoldable pub step_text : Wires → Option Step → List Signal → List ℕ
step_text ws none xs = []
step_text ws (some p) xs = spaced (shape_tokens (step-stmt p (map (sig ws) xs)))

-- the words of a code that is of no line but a sync are written
abbrev pub EventIs : (step at : ℕ) → (old new : List ℕ) → ℕ → Type 0
EventIs t at old new r =
    eqb t assign_step ≡ false → eqb t update_step ≡ false → eqb t switch_step ≡ false → eqb t case_step ≡ false →
    Written at (step_words (step_named t)) old new r
