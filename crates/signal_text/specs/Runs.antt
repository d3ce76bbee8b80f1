-- The text of the runs of a signal.
-- Assumes nothing.
use Rattle.std.specs.Prelude.{List, map, ℕ}
use Rattle.rules.specs.Shapes.{sigs}
use Rattle.rules.specs.Signals.{Wires}
use Rattle.rules.specs.Text.{runs, run_sig, sigs_tokens}
use Rattle.numbers.specs.Kinds.{signal_of}
use Rattle.signal_text.specs.Pieces.{spread}

-- the runs, each behind a space, the highest first
unfoldable pub runs_text : Wires → List ℕ → List ℕ
runs_text ws s = spread (sigs_tokens (sigs (map (run_sig ws) (runs (signal_of s)))))
