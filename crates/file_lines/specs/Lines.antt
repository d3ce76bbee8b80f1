-- What the loop over the lines promises: of the lines before a place, and of the file.
use Rattle.std.specs.Prelude.{ℕ, ◌-◌, ◌*◌, ◌≤◌, ◌<◌, ◌≡◌, Bool, false, cond, List, [], reverse, length, drop, Ok, Err, Result}
use Rattle.rules.specs.Limits.{longest_file, scratch_length}
use Rattle.rules.specs.Lines.{lines_from, lines}
use Rattle.rules.specs.Judgement.{Past}
use Rattle.rules.specs.Reading as reading
use Rattle.rules.specs.Quick.{read_until}
use Rattle.scanner.specs.Lines.{line_from}
use Rattle.scanner.specs.declared.lines.Line.{Line}
use Rattle.context.specs.Place.{closes_at}
use Rattle.context.specs.declared.place.Place.{Place}
use Rattle.context.specs.declared.sizes.Sizes.{Sizes}
use Rattle.context.specs.declared.sizes.Standing.{Standing}
use Rattle.netlist.specs.Tables.{Tables}
use Rattle.netlist.specs.declared.results.Refused.{Refused}
use Rattle.name_index.specs.Index.{LinesIndexed}
use Rattle.reading_step.specs.Steps.{Done}
use Rattle.file_lines.specs.declared.Reach.{Reach}
use Rattle.file_lines.specs.declared.Reach.TheVariants.{Ended, Longer}

-- THE FILE. Its end, by the place behind the last statement
unfoldable pub finish_of : ℕ → Standing → Result Standing Refused
finish_of size x = cond (closes_at x.place) (Ok x) (Err (record { number = 5; place = size }))

-- the file's answer: of an accepted one the tables hold the statements, and place and sums are those behind them
abbrev pub Landed : reading.Answer → Tables → Result Standing Refused → Type 0
Landed (reading.accepted ss) t (Ok x) = Done (reverse ss) x.place x.sums t
Landed (reading.accepted ss) t (Err r) = ⊥
Landed (reading.refused n q) t r = r ≡ Err (record { number = n; place = q })

-- what is read of a file up to the line behind which a test holds
abbrev pub read_to : (Past → Bool) → List ℕ → reading.Answer
read_to stop f = read_until stop (length f) (lines f) []

-- the lines before this place are read, and the test holds behind none of them
pub record Reached (stop : Past → Bool) (f scratch : List ℕ) (p : Place) (u : Sizes) (t : Tables) (at : ℕ) : Type 0 where
  pub inside : at ≤ length f
  pub file : length f ≤ longest_file
  pub scratch-long : length scratch ≡ scratch_length
  pub past : Past
  pub done : Done past p u t
  pub on : stop past ≡ false
  pub rest : read_to stop f ≡ read_until stop (length f) (lines_from at (drop at f)) past

pub record Before (stop : Past → Bool) (f scratch : List ℕ) (p : Place) (u : Sizes) (t : Tables) (l : Line) : Type 0 where
  pub reached : Reached stop f scratch p u t l.start
  pub is : l ≡ line_from f l.start

-- the file's answer; or the lines before one that is too long for the table of tokens are read
abbrev pub ReachAs : (Past → Bool) → (f tokens scratch heads chain : List ℕ) → Tables → Reach → Type 0
ReachAs stop f tokens scratch heads chain t (Ended a) = Landed (read_to stop f) t a
ReachAs stop f tokens scratch heads chain t (Longer l x) = Before stop f scratch x.place x.sums t l × LinesIndexed heads chain t.names t.wires t.rows x.place.rows x.place.wires × (length tokens < 4 * (l.end - l.start))
