-- The step that a code names, and the signals of a step's row, which are equally wide.
use Rattle.std.specs.Prelude.{ℕ, zero, suc, List, [], ◌∷◌, map, cond, eqb, take, drop}
use Rattle.std.proofs.Math.Option.{Option, none, some}
use Rattle.rules.specs.Statements.{Signal, Step, assign, update, switch, case, low, high, posedge, negedge, edge, global, init, always, assign_step, update_step, switch_step, case_step, low_step, high_step, posedge_step, negedge_step, edge_step, global_step, init_step, always_step}
use Rattle.numbers.specs.Kinds.{signal_of}
use Rattle.wires.specs.Rows.{column}

unfoldable pub step_named : ℕ → Option Step
step_named t =
    cond (eqb t assign_step) (some assign)
    (cond (eqb t update_step) (some update)
    (cond (eqb t switch_step) (some switch)
    (cond (eqb t case_step) (some case)
    (cond (eqb t low_step) (some low)
    (cond (eqb t high_step) (some high)
    (cond (eqb t posedge_step) (some posedge)
    (cond (eqb t negedge_step) (some negedge)
    (cond (eqb t edge_step) (some edge)
    (cond (eqb t global_step) (some global)
    (cond (eqb t init_step) (some init)
    (cond (eqb t always_step) (some always) none)))))))))))

-- so many pieces of a list, all of one length, one behind another
unfoldable pub pieces : (width count : ℕ) → List ℕ → List (List ℕ)
pieces w zero xs = []
pieces w (suc n) xs = take w xs ∷ pieces w n (drop w xs)

-- columns of a step's row: its step, where its bits start, the width of each signal, how many signals
unfoldable pub signals_at : (bits rows : List ℕ) → (row : ℕ) → List Signal
signals_at bits rows k = map signal_of (pieces (column rows k 3) (column rows k 4) (drop (column rows k 2) bits))
