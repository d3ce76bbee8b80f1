-- The plain session, and the calls that ask of a design.
-- Source: document 01, "The plain session", "The name to show", and the author's index of "Signals". All of it is said
-- of a design and a list of renames, and nothing of memory.
use Rattle.std.specs.Prelude.{ℕ, zero, suc, ◌+◌, ◌-◌, Bool, true, false, not, cond, ◌||◌, length, ℤ, pos, ◌+ℤ◌, leb, ltb, eqb}
use mathlib.Core.List.{List, [], ◌∷◌, ◌++◌, map, drop_last, foldl}
use Rattle.std.proofs.Math.Option.{Option, Option-elim}
use Rattle.std.proofs.Math.ListN.{get_elem?}
use Rattle.rules.specs.Limits.{name_room, most_renames}
use Rattle.rules.specs.Bytes.{bytes, byte, same, any, legal}
use Rattle.rules.specs.Tokens.{Name}
use Rattle.rules.specs.Statements.{bytes_of, Wire}
use Rattle.rules.specs.Judgement.{sum, name_size, lowest, Verdict, accepted, refused, verdict}
use Rattle.rules.specs.Design.{Setting, Object, object, Module, Design, flatten}

-- a standing rename: module number, wire number, new name
pub record Rename : Type 0 where
  pub module_number : ℕ
  pub wire_number : ℕ
  pub new_name : Name

pub data Call : Type 0 where
  rename : Rename → Call
  undo : Call

-- Calls name a wire by module number and wire number in it, from 0
unfoldable pub wires_at : Design → ℕ → List (Object Wire)
wires_at d m = Option-elim (get_elem? d.modules m) [] (λ o. o.body.wires)

unfoldable pub wire_at : Design → ℕ → ℕ → Option (Object Wire)
wire_at d m w = get_elem? (wires_at d m) w

unfoldable pub change : {A : Type 0} → (A → A) → ℕ → List A → List A
change f i [] = []
change f zero (x ∷ xs) = f x ∷ xs
change f (suc i) (x ∷ xs) = x ∷ change f i xs

unfoldable pub rename_wire : Rename → Module → Module
rename_wire r m =
    record {
      parameters = m.parameters;
      wires = change (λ w. object w.attributes r.new_name w.body) r.wire_number m.wires;
      memories = m.memories;
      cells = m.cells;
      processes = m.processes;
      connections = m.connections;
    }

unfoldable pub renamed : Rename → Design → Design
renamed r d =
    record {
      autoidx = d.autoidx;
      modules = change (λ m. object m.attributes m.name (rename_wire r m.body)) r.module_number d.modules;
    }

-- Names now: those read, then each listed rename, oldest first, gives its wire its new name
unfoldable pub now : Design → List Rename → Design
now d rs = foldl (λ e r. renamed r e) d rs

-- Room used: the bytes of the design's names as read, and of the listed new names
unfoldable pub room_used : Design → List Rename → ℕ
room_used d rs = sum name_size (flatten d) + sum (λ r. length r.new_name) rs

-- Wires, memories, cells and processes of a module share one name space
unfoldable pub names : Module → List Name
names m = map (λ o. o.name) m.wires ++ map (λ o. o.name) m.memories ++ map (λ o. o.name) m.cells ++ map (λ o. o.name) m.processes

unfoldable pub taken : Design → ℕ → Name → Bool
taken d m n = any (same n) (Option-elim (get_elem? d.modules m) [] (λ o. names o.body))

unfoldable pub is_port : Wire → Bool
is_port w = Option-elim w.port false (λ p. true)

-- Rename: refused with the lowest that applies of 4, 6, 8, 9 (the module's name space has the new name now) and 11 (64 are listed,
-- or room used and the new name together pass 16,384). Otherwise it is listed last
unfoldable pub rename_call : Design → List Rename → Rename → Verdict (List Rename)
rename_call d rs r =
    let wire = wire_at d r.module_number r.wire_number in
    verdict (rs ++ r ∷ [])
    (lowest
    ((4, not (legal r.new_name))
    ∷ (6, Option-elim wire false (λ w. is_port w.body))
    ∷ (8, Option-elim wire true (λ w. false))
    ∷ (9, taken (now d rs) r.module_number r.new_name)
    ∷ (11, leb most_renames (length rs) || ltb name_room (room_used d rs + length r.new_name))
    ∷ []))

-- Undo: 13 if none is listed. Otherwise the last is taken off
unfoldable pub undo_call : List Rename → Verdict (List Rename)
undo_call [] = refused 13
undo_call (r ∷ rs) = accepted (drop_last (r ∷ rs))

unfoldable pub call : Design → List Rename → Call → Verdict (List Rename)
call d rs (rename r) = rename_call d rs r
call d rs undo = undo_call rs

-- A call answers number and place, both 0 if it is taken. A refusal has place 0 and changes nothing
unfoldable pub number_of : Verdict (List Rename) → ℕ
number_of (accepted rs) = 0
number_of (refused n) = n

unfoldable pub answer_of : Verdict (List Rename) → ℕ × ℕ
answer_of v = (number_of v, 0)

unfoldable pub standing : List Rename → Verdict (List Rename) → List Rename
standing rs (accepted rs') = rs'
standing rs (refused n) = rs

-- The answers of a list of calls, and the renames listed at the end
unfoldable pub plain_session : Design → List Rename → List Call → List (ℕ × ℕ) × List Rename
plain_session d rs [] = ([], rs)
plain_session d rs (c ∷ cs) =
    let v = call d rs c in
    let r = plain_session d (standing rs v) cs in
    (answer_of v ∷ r.0, r.1)

-- Look-up finds the wire number from a module number and any bytes as current name
unfoldable pub search : Name → ℕ → List (Object Wire) → Verdict ℕ
search n i [] = refused 8
search n i (w ∷ ws) = let r = search n (i + 1) ws in cond (same w.name n) (accepted i) r

unfoldable pub look_up : Design → ℕ → Name → Verdict ℕ
look_up d m n = search n 0 (wires_at d m)

-- If a wire has the attribute `\hdlname` with a non-empty string, that string; else its name, without the `\` if public
unfoldable pub hdlname : List Setting → List ℕ
hdlname [] = []
hdlname (a ∷ at) = let r = hdlname at in cond (same a.0 (bytes "\\hdlname")) (bytes_of a.1) r

unfoldable pub plain_name : Name → List ℕ
plain_name [] = []
plain_name (b ∷ bs) = cond (eqb b (byte "\\")) bs (b ∷ bs)

unfoldable pub or_else : List ℕ → List ℕ → List ℕ
or_else [] t = t
or_else (b ∷ bs) t = b ∷ bs

abbrev pub shown_name : Object Wire → List ℕ
shown_name o = or_else (hdlname o.attributes) (plain_name o.name)

unfoldable pub show : Design → ℕ → ℕ → Verdict (List ℕ)
show d m w = Option-elim (wire_at d m w) (refused 8) (λ o. accepted (shown_name o))

-- The author's index of bit i is offset + i, or with `upto` offset + width - 1 - i; it may be negative
unfoldable pub authors_index : Wire → ℕ → ℤ
authors_index w i = w.offset +ℤ pos (cond w.upto (w.width - 1 - i) i)

-- 10: index asked past the wire
unfoldable pub index_in : Wire → ℕ → Verdict ℤ
index_in w i = cond (ltb i w.width) (accepted (authors_index w i)) (refused 10)

unfoldable pub index : Design → ℕ → ℕ → ℕ → Verdict ℤ
index d m w i = Option-elim (wire_at d m w) (refused 8) (λ o. index_in o.body i)

unfoldable pub session_open : Unit {0}
unfolding Option-elim wires_at wire_at change rename_wire renamed now room_used names taken is_port rename_call undo_call call number_of answer_of standing plain_session search look_up hdlname plain_name or_else show authors_index index_in index
session_open = tt
