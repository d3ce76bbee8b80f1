-- A file and a list of calls on it: what all of it leaves, and each call's answer.
use Rattle.std.specs.Prelude.{ℕ, zero, suc, ◌+◌, ◌*◌, ◌/◌, cond, eqb, length, get_or}
use mathlib.Core.List.{List, [], ◌∷◌, flat_map}
use Rattle.std.proofs.Math.Seq.{slice}
use Rattle.rules.specs.Reading.{Answer, accepted, refused, read}
use Rattle.rules.specs.Design.{design}
use Rattle.rules.specs.Session.{Rename, Call, rename, undo, plain_session}
use Rattle.rules.specs.Layout.{Memory, layout}
use Rattle.tables.specs.Store.{store}
use Rattle.netlist.specs.Results.{Result, result}
use Rattle.netlist.specs.Lengths.{right_lengths}
use Rattle.reader.specs.Fill.{leaves}

-- five words a call: 1 a rename with module, wire, and where its new name starts in the texts and its length; anything else an undo
module _ (calls texts : List ℕ) where
  -- a word past the end is 0, and a span past the end is cut
  unfoldable pub call_word : (i k : ℕ) → ℕ
  call_word i k = get_or calls (5 * i + k) 0

  unfoldable pub rename_at : ℕ → Rename
  rename_at i =
      record {
        module_number = call_word i 1;
        wire_number = call_word i 2;
        new_name = slice (call_word i 3) (call_word i 3 + call_word i 4) texts;
      }

  unfoldable pub call_at : ℕ → Call
  call_at i = cond (eqb (call_word i 0) 1) (rename (rename_at i)) undo

  unfoldable pub calls_from : (many i : ℕ) → List Call
  calls_from zero i = []
  calls_from (suc l) i = call_at i ∷ calls_from l (i + 1)

  unfoldable pub calls_in : List Call
  calls_in = calls_from (length calls / 5) 0

-- two words an answer: number, then place
abbrev pub answer_words : ℕ × ℕ → List ℕ
answer_words a = a.0 ∷ a.1 ∷ []

-- The answers' words over what stood there, as far as there is room. Where it is too short, the words that have room are stored, the last one perhaps a number
-- without its place; every call is made all the same, and the memory is the same
unfoldable pub answered : (old : List ℕ) (answers : List (ℕ × ℕ)) → List ℕ
answered old answers = store old 0 (flat_map answer_words answers)

-- calls are made on a file that is read; on a refused one none is
unfoldable pub session_on : Answer → List Call → List ℕ → Result × List ℕ
session_on (accepted ss) cs old = let s = plain_session (design ss) [] cs in (result 0 0 (layout ss s.1), answered old s.0)
session_on (refused n p) cs old = (leaves (refused n p), old)

unfoldable pub session : (file : List ℕ) → List Call → Memory → (answers : List ℕ) → Result × List ℕ
session file cs m old = cond (right_lengths m) (session_on (read file) cs old) (result 1 0 m, old)
