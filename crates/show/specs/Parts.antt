-- The name to show: the part of the names or of the strings where it stands, or none with a refusal's number.
use Rattle.std.specs.Prelude.{ℕ, zero, suc, ◌+◌, ◌-◌, ◌≤◌, cond, ◌&&◌, List, [], reverse, eqb, leb, ltb, length, take, drop, get_or, Result, Ok, Err}
use Rattle.rules.specs.Bytes.{byte}
use Rattle.rules.specs.Design.{design}
use Rattle.rules.specs.Session.{now, show}
use Rattle.rules.specs.Layout.{Memory}
use Rattle.context.specs.Place.{place_of}
use Rattle.context.specs.declared.place.Place.{Place}
use Rattle.scanner.specs.declared.parts.Span.{Span}
use Rattle.wires.specs.Rows.{column}
use Rattle.modules.specs.Ranges.{wire_range}
use Rattle.wire_names.specs.Now.{last_rename}
use Rattle.session.specs.Called.{Called, answer}
use Rattle.show.specs.Rows.{wire_line, hdlname_row}
use Rattle.show.specs.declared.Shown.{Shown}

-- PARTS, for any tables: those of the bytes that module Rows defines
abbrev pub part : (start end : ℕ) → Span
part s e = record { start = s; end = e }

-- from start up to end, cut to what is there; nothing is the part at 0
unfoldable pub cut_of : (table : List ℕ) → (start end : ℕ) → Span
cut_of t s e = let stop = cond (ltb e (length t)) e (length t) in cond (leb stop s) (part 0 0) (part s stop)

-- of span_at: from the place in column c on, as much as column c + 1 says
unfoldable pub span_part : (table rows : List ℕ) → (row c : ℕ) → Span
span_part t rows k c = cut_of t (column rows k c) (column rows k c + column rows k (c + 1))

-- of text_at: the string of the attribute in the row before this one
unfoldable pub text_part : (strings rows : List ℕ) → ℕ → Span
text_part strings rows zero = part 0 0
text_part strings rows (suc k) = cond (eqb (column rows k 3) 3) (span_part strings rows k 4) (part 0 0)

-- of name_now: the name in the row of the last rename, where there is one, else in row k of the table of wires
unfoldable pub part_by : (names wires rows : List ℕ) → (from k last : ℕ) → Span
part_by names wires rows from k zero = span_part names wires k 1
part_by names wires rows from k (suc j) = span_part names rows (from + j) 1

unfoldable pub name_part : (names wires rows : List ℕ) → (from count m n k : ℕ) → Span
name_part names wires rows from count m n k = part_by names wires rows from k (last_rename rows from count m n)

-- of plain_name: behind the `\` of a public name
unfoldable pub plain_part : (names : List ℕ) → Span → Span
plain_part names p = cond (ltb p.start p.end && eqb (get_or names p.start 0) (byte "\\")) (part (p.start + 1) p.end) p

-- of shown_name: the string's part unless that is empty, else the name's
unfoldable pub shown_of : (text name : Span) → Shown
shown_of t p = cond (ltb t.start t.end) (Shown.Text t) (Shown.Name p)

unfoldable pub shown_part : (names strings wires rows : List ℕ) → (statements count m n k : ℕ) → Shown
shown_part names strings wires rows statements count m n k =
    shown_of (text_part strings rows (hdlname_row names rows (wire_line rows statements k) 0)) (plain_part names (name_part names wires rows statements count m n k))

-- of wire w of module k in memory whose statements end at a place; 8 if the module has no such wire
unfoldable pub shown_in : Memory → Place → (k w : ℕ) → Result Shown ℕ
shown_in m p k w =
    let own = wire_range m.wires p.wires k in
    cond (leb own.count w) (Err 8)
    (Ok (shown_part m.names m.strings m.wires m.rows p.rows m.renames k w (own.first + w)))

-- WHAT A PART SHOWS: the number and the bytes of each case, and that they lie in their table
unfoldable pub number_of : Result Shown ℕ → ℕ
number_of (Ok s) = 0
number_of (Err n) = n

unfoldable pub bytes_at : (names strings : List ℕ) → Shown → List ℕ
bytes_at names strings (Shown.Name p) = take (p.end - p.start) (drop p.start names)
bytes_at names strings (Shown.Text p) = take (p.end - p.start) (drop p.start strings)

unfoldable pub bytes_in : (names strings : List ℕ) → Result Shown ℕ → List ℕ
bytes_in names strings (Ok s) = bytes_at names strings s
bytes_in names strings (Err n) = []

abbrev pub Lies : (names strings : List ℕ) → Shown → Type 0
Lies names strings (Shown.Name p) = (p.start ≤ p.end) × (p.end ≤ length names)
Lies names strings (Shown.Text p) = (p.start ≤ p.end) × (p.end ≤ length strings)

abbrev pub InRange : (names strings : List ℕ) → Result Shown ℕ → Type 0
InRange names strings (Ok s) = Lies names strings s
InRange names strings (Err n) = Unit {0}

-- where its first byte lies, a block of memory and an offset, by where those of the two tables do; the empty part of a refusal is at the start of the names
unfoldable pub byte_at : (names strings : ℕ × ℕ) → Shown → ℕ × ℕ
byte_at names strings (Shown.Name p) = (names.0, p.start + names.1)
byte_at names strings (Shown.Text p) = (strings.0, p.start + strings.1)

unfoldable pub first_byte : (names strings : ℕ × ℕ) → Result Shown ℕ → ℕ × ℕ
first_byte names strings (Ok s) = byte_at names strings s
first_byte names strings (Err n) = names

-- THE CALL, for all memory: 1 on wrong lengths, 3 where no design is held, else what the plain session shows of wire w of module k; a refusal has the empty part
abbrev pub ShownAs : Memory → (k w n : ℕ) → (bytes : List ℕ) → Type 0
ShownAs m k w n bytes = Called m (λ e. (e, [])) (λ ss rs. answer [] (show (now (design ss) rs) k w)) (n, bytes)

-- and which part that is: of two with the same bytes, the string's own or the name's own
abbrev pub ShownAt : Memory → (k w : ℕ) → Result Shown ℕ → Type 0
ShownAt m k w r = Called m Err (λ ss rs. shown_in m (place_of (reverse ss)) k w) r

-- the same of a part that is returned, by where its first byte lies
abbrev pub LiesAt : Memory → (k w : ℕ) → (names strings first : ℕ × ℕ) → Type 0
LiesAt m k w names strings first =
    Called m (λ e. first_byte names strings (Err e)) (λ ss rs. first_byte names strings (shown_in m (place_of (reverse ss)) k w)) first
