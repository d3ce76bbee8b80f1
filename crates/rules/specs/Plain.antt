-- Names in plain letters, and back; the listing of a module's wires.
-- Source: document 02, request 5.
use Rattle.std.specs.Prelude.{ℕ, ◌+◌, ◌-◌, ◌*◌, ◌/◌, ◌%◌, Bool, not, cond, ◌&&◌, ◌||◌, ltb, eqb, length}
use mathlib.Core.List.{List, [], ◌∷◌, ◌++◌, flat_map}
use Rattle.std.proofs.Math.Option.{Option, none, some}
use Rattle.std.proofs.Math.ListN.{get_elem?}
use Rattle.rules.specs.Bytes.{byte, same, within, is_lower, is_digit, legal}
use Rattle.rules.specs.Tokens.{Name}
use Rattle.rules.specs.Statements.{Wire}
use Rattle.rules.specs.Judgement.{Verdict, refused, verdict, lowest}
use Rattle.rules.specs.Design.{Object, Module, Design}
use Rattle.rules.specs.Session.{shown_name}
use Rattle.rules.specs.Text.{escaped}

-- A-Z, a-z or 0-9
unfoldable pub is_plain : ℕ → Bool
is_plain b = within (byte "A") (byte "Z") b || is_lower b || is_digit b

unfoldable pub hex_digit : ℕ → ℕ
hex_digit n = cond (ltb n 10) (byte "0" + n) (byte "a" + (n - 10))

-- Each later byte that is A-Z, a-z or 0-9 is kept, each other byte becomes `_` and two lowercase hex digits
unfoldable pub plain_byte : ℕ → List ℕ
plain_byte b = cond (is_plain b) (b ∷ []) (byte "_" ∷ hex_digit (b / 16) ∷ hex_digit (b % 16) ∷ [])

-- `\` becomes p, `$` becomes a
unfoldable pub plain_form : Name → List ℕ
plain_form [] = []
plain_form (b ∷ bs) = cond (eqb b (byte "\\")) (byte "p") (byte "a") ∷ flat_map plain_byte bs

-- The way back, of any bytes: what the bytes of a form stand for (16 is no digit)
unfoldable pub hex_value : ℕ → ℕ
hex_value b = cond (is_digit b) (b - byte "0") (cond (within (byte "a") (byte "f") b) (b - byte "a" + 10) 16)

unfoldable mutual
  pub form_bytes : List ℕ → List ℕ
  form_bytes [] = []
  form_bytes (b ∷ bs) = let r = escaped_byte bs in let s = b ∷ form_bytes bs in cond (eqb b (byte "_")) r s

  pub escaped_byte : List ℕ → List ℕ
  escaped_byte [] = []
  escaped_byte (h ∷ []) = []
  escaped_byte (h ∷ l ∷ bs) = ((16 * hex_value h + hex_value l) % 256) ∷ form_bytes bs

unfoldable pub name_of : List ℕ → Name
name_of [] = []
name_of (b ∷ bs) = cond (eqb b (byte "p")) (byte "\\") (byte "$") ∷ form_bytes bs

-- a legal name's plain form is told by turning the name that it stands for
unfoldable pub is_form : List ℕ → Bool
is_form t = legal (name_of t) && same (plain_form (name_of t)) t

-- 4: illegal name; 12: room too short
unfoldable pub turned : ℕ → Name → Verdict (List ℕ)
turned room n = verdict (plain_form n) (lowest ((4, not (legal n)) ∷ (12, ltb room (length (plain_form n))) ∷ []))

-- 14: bytes that are no legal name's plain form; 12: room too short, judged after 14
unfoldable pub turned_back : ℕ → List ℕ → Verdict Name
turned_back room t = verdict (name_of t) (lowest ((14, not (is_form t)) ∷ (12, ltb room (length (name_of t))) ∷ []))

-- The listing, one line each, line end 10: plain form, a space, the name to show, its bytes below 32 escaped as in a
-- written string
unfoldable pub low : ℕ → List ℕ
low b = cond (ltb b 32) (escaped b) (b ∷ [])

unfoldable pub wire_line : Object Wire → List ℕ
wire_line w = plain_form w.name ++ 32 ∷ flat_map low (shown_name w) ++ 10 ∷ []

-- A module's wires, in order. 8: no such module; 12 for the room only
unfoldable pub wire_lines : Object Module → List ℕ
wire_lines o = flat_map wire_line o.body.wires

unfoldable pub listed : ℕ → Option (Object Module) → Verdict (List ℕ)
listed room none = refused 8
listed room (some o) = verdict (wire_lines o) (lowest ((12, ltb room (length (wire_lines o))) ∷ []))

unfoldable pub listing : ℕ → Design → ℕ → Verdict (List ℕ)
listing room d m = listed room (get_elem? d.modules m)

unfoldable pub plain_open : Unit {0}
unfolding flat_map is_plain hex_digit plain_byte plain_form hex_value form_bytes escaped_byte name_of is_form turned turned_back low wire_line wire_lines listed listing
plain_open = tt
