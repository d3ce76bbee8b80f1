-- What is promised of the signals of a line.
use Rattle.std.specs.Prelude.{ℕ, ◌*◌, ◌/◌, ◌≤◌, ◌≡◌, List, map, Bool, true, length, replicate, Some, None, Option as Optional}
use Rattle.std.proofs.Math.Option.{none, some}
use Rattle.rules.specs.Limits.{most_width, most_signal_bits}
use Rattle.rules.specs.Statements.{Sig}
use Rattle.rules.specs.Signals.{Wires, width, bits}
use Rattle.tokens.specs.Rows.{line}
use Rattle.netlist.specs.Steps.{pieces}
use Rattle.faults.specs.Faults.{mild}
use Rattle.signals.specs.Held.{codes}
use Rattle.signals.specs.Reads.{AnswerIs}
use Rattle.signals.specs.declared.Answer.{Answer}
use Rattle.signal_list.specs.Lists.{further, listed, list_fault}
use Rattle.signal_list.specs.Sums.{place_of}
use Rattle.signal_list.specs.declared.Listed.{Listed}

-- the next signal, behind signals of so many bits
abbrev pub NextIs : (f t : List ℕ) → Wires → ℕ → Bool → ℕ → (out out' : List ℕ) → Optional Answer → Type 0
NextIs f t ws i comma total out out' r = AnswerIs f t ws (further comma (line f t i)) i (place_of total) out out' r

-- so many signals, of one width: their number; their widths, if no rule is broken but that of the sizes; and if their number is 0, their bits'
-- codes, signal behind signal and highest first in each
pub record ListHeld (ws : Wires) (ss : List Sig) (out : List ℕ) (w n fault : ℕ) : Type 0 where
  pub many : length ss ≡ n
  pub refused : list_fault ws ss ≡ fault
  pub widths : mild fault ≡ true → map (width ws) ss ≡ replicate n w
  pub nothing : n ≡ 0 → w ≡ 0
  pub small : fault ≡ 0 → w ≤ most_width
  pub room : fault ≡ 0 → n * w ≤ most_signal_bits
  pub coded : fault ≡ 0 → pieces w n out ≡ map (λ s. codes (bits ws s)) ss

-- the signals from row i on up to the line's end
pub record Lists (f t : List ℕ) (ws : Wires) (i : ℕ) (comma : Bool) (out : List ℕ) (w n fault : ℕ) : Type 0 where
  pub sigs : List Sig
  pub is : listed comma (line f t i) ≡ some sigs
  pub few : n ≤ length t / 4
  pub held : ListHeld ws sigs out w n fault

abbrev pub ListRead : (f t : List ℕ) → Wires → ℕ → Bool → (out : List ℕ) → Optional Listed → Type 0
ListRead f t ws i comma out (Some r) = Lists f t ws i comma out r.width r.count r.fault
ListRead f t ws i comma out None = listed comma (line f t i) ≡ none

-- the table's length stays
pub record ListedIs (f t : List ℕ) (ws : Wires) (i : ℕ) (comma : Bool) (out out' : List ℕ) (r : Optional Listed) : Type 0 where
  pub long : length out' ≡ length out
  pub read : ListRead f t ws i comma out' r
