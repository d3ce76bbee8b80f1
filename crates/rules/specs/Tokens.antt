-- The tokens of a line.
-- Source: 004's lexical part, which document 01, "Bytes, words and lines", narrows. Stricter than 004: a word is one of
-- its keywords; bytes 10 and 13 may not stand in a string; an octal is 1 to 255; what follows a word, integer, value or
-- string must part it from the next token.
use Rattle.std.specs.Prelude.{ℕ, zero, suc, ◌+◌, ◌-◌, ◌*◌, List, [], ◌∷◌, ◌++◌, map, Bool, true, cond, ◌||◌, length, ℤ, pos, neg_ℤ, ltb, eqb}
use Rattle.rules.specs.Bytes.{bytes, byte, same, any, within, is_blank, is_name_start, is_name_byte, is_lower, is_digit, is_octal, is_value_digit, is_string_byte, is_mark, run, rest, legal}

abbrev pub Name : Type 0
Name = List ℕ

-- Bits may be any of 0, 1, x unknown, z high-impedance, m marked, - don't care
pub data Digit : Type 0 where
  S0 S1 Sx Sz Sm Sa : Digit

-- A constant as it is written. Value: its width, and its digits, highest bit first; string: its decoded bytes
pub data Literal : Type 0 where
  value : ℕ → List Digit → Literal
  integer : ℤ → Literal
  string : List ℕ → Literal

pub data Token : Type 0 where
  name : Name → Token
  word : List ℕ → Token
  literal : Literal → Token
  mark : ℕ → Token

-- Word: lowercase letters, one of 004's keywords
unfoldable pub keywords : List (List ℕ)
keywords =
    map bytes
    ("autoidx" ∷ "module" ∷ "end" ∷ "parameter" ∷ "attribute" ∷ "connect" ∷ "wire" ∷ "width" ∷ "offset" ∷ "input" ∷ "output" ∷ "inout"
    ∷ "upto" ∷ "signed" ∷ "memory" ∷ "size" ∷ "cell" ∷ "real" ∷ "process" ∷ "assign" ∷ "switch" ∷ "case" ∷ "sync" ∷ "global" ∷ "init"
    ∷ "always" ∷ "low" ∷ "high" ∷ "posedge" ∷ "negedge" ∷ "edge" ∷ "update" ∷ [])

unfoldable pub is_keyword : List ℕ → Bool
is_keyword w = any (same w) keywords

-- the number that digits in a base make, behind those that make n
unfoldable pub number : ℕ → ℕ → List ℕ → ℕ
number base n [] = n
number base n (b ∷ bs) = number base (n * base + (b - byte "0")) bs

unfoldable pub decimal : List ℕ → ℕ
decimal ds = number 10 0 ds

-- the digit that a byte of a value writes
unfoldable pub digit : ℕ → Digit
digit b =
    cond (eqb b (byte "0")) S0
    (cond (eqb b (byte "1")) S1
    (cond (eqb b (byte "x")) Sx
    (cond (eqb b (byte "z")) Sz
    (cond (eqb b (byte "m")) Sm Sa))))

-- Where a string's reader stands: in plain text; behind `\`; or behind `\` and one or two octal digits, with their number
pub data Inside : Type 0 where
  plain escape : Inside
  octal : (digits number : ℕ) → Inside

-- What a byte does there: it gives bytes and the string goes on, or gives bytes and ends the string, or may not stand there
pub data Turn : Type 0 where
  goes : List ℕ → Inside → Turn
  ends : List ℕ → Turn
  breaks : Turn

unfoldable pub plain_turn : ℕ → Turn
plain_turn b =
    cond (eqb b (byte "\"")) (ends [])
    (cond (eqb b (byte "\\")) (goes [] escape)
    (cond (is_string_byte b) (goes (b ∷ []) plain) breaks))

-- `\n`, `\t` and octals have 004's meaning; `\` before any other allowed byte gives that byte
unfoldable pub escape_turn : ℕ → Turn
escape_turn b =
    cond (is_octal b) (goes [] (octal 1 (b - byte "0")))
    (cond (eqb b (byte "n")) (goes (10 ∷ []) plain)
    (cond (eqb b (byte "t")) (goes (9 ∷ []) plain)
    (cond (is_string_byte b) (goes (b ∷ []) plain) breaks)))

-- a byte in front of those that a turn gives
unfoldable pub onto : ℕ → Turn → Turn
onto n (goes bs i) = goes (n ∷ bs) i
onto n (ends bs) = ends (n ∷ bs)
onto n breaks = breaks

-- an octal's byte, in front of what else the turn gives; an octal of 0 or above 255 is a bad token
unfoldable pub octal_byte : ℕ → Turn → Turn
octal_byte n t = cond (within 1 255 n) (onto n t) breaks

-- `\` with one to three octal digits (longest reading)
unfoldable pub octal_turn : (digits number : ℕ) → ℕ → Turn
octal_turn k n b =
    let m = n * 8 + (b - byte "0") in
    cond (is_octal b) (cond (ltb k 2) (goes [] (octal (k + 1) m)) (octal_byte m (goes [] plain))) (octal_byte n (plain_turn b))

unfoldable pub turn : Inside → ℕ → Turn
turn plain b = plain_turn b
turn escape b = escape_turn b
turn (octal k n) b = octal_turn k n b

-- String: between double quotes; behind the opening quote, its decoded bytes and what is left behind the closing one
pub data Quoted : Type 0 where
  closed : List ℕ → List ℕ → Quoted
  broken : Quoted

unfoldable pub quoted_onto : List ℕ → Quoted → Quoted
quoted_onto bs (closed cs l) = closed (bs ++ cs) l
quoted_onto bs broken = broken

unfoldable pub quoted_by : (Inside → Quoted) → List ℕ → Turn → Quoted
quoted_by more l (goes bs i) = quoted_onto bs (more i)
quoted_by more l (ends bs) = closed bs l
quoted_by more l breaks = broken

unfoldable pub quoted : Inside → List ℕ → Quoted
quoted i [] = broken
quoted i (b ∷ l) = quoted_by (λ j. quoted j l) l (turn i b)

-- What stands where a token could start: a token and what is left behind it; nothing more; or the line from a bad token on
pub data Step : Type 0 where
  token : Token → List ℕ → Step
  done : Step
  wrong : List ℕ → Step

-- A word, integer, value or string is followed by space, tab, line end, file end, a mark or `#`
unfoldable pub parted : List ℕ → Bool
parted [] = true
parted (b ∷ bs) = is_blank b || is_mark b || eqb b (byte "#")

module _ (from : List ℕ) where
  unfoldable pub separate : Token → List ℕ → Step
  separate t l = cond (parted l) (token t l) (wrong from)

  -- running to the next byte of 32 or less
  unfoldable pub name_step : Name → List ℕ → Step
  name_step n l = cond (legal n) (token (name n) l) (wrong from)

  unfoldable pub word_step : List ℕ → List ℕ → Step
  word_step w l = cond (is_keyword w) (separate (word w) l) (wrong from)

  -- Integer: optional `-`, digits. Value: digits, `'`, then any of `0 1 x z m -`, highest bit first
  unfoldable pub integer_step : ℕ → List ℕ → Step
  integer_step n l = separate (literal (integer (pos n))) l

  unfoldable pub value_step : ℕ → List ℕ → Step
  value_step n l = separate (literal (value n (map digit (run is_value_digit l)))) (rest is_value_digit l)

  unfoldable pub number_step : ℕ → List ℕ → Step
  number_step n [] = integer_step n []
  number_step n (b ∷ bs) = cond (eqb b (byte "'")) (value_step n bs) (integer_step n (b ∷ bs))

  unfoldable pub minus_step : List ℕ → List ℕ → Step
  minus_step [] l = wrong from
  minus_step (d ∷ ds) l = separate (literal (integer (neg_ℤ (pos (decimal (d ∷ ds)))))) l

  unfoldable pub string_step : Quoted → Step
  string_step (closed s l) = separate (literal (string s)) l
  string_step broken = wrong from

-- A token is told by its first byte. `#` where a token could start opens a comment to the line's end
unfoldable pub step_at : ℕ → List ℕ → Step
step_at b bs =
    cond (is_name_start b) (name_step (b ∷ bs) (b ∷ run is_name_byte bs) (rest is_name_byte bs))
    (cond (is_lower b) (word_step (b ∷ bs) (b ∷ run is_lower bs) (rest is_lower bs))
    (cond (is_digit b) (number_step (b ∷ bs) (decimal (b ∷ run is_digit bs)) (rest is_digit bs))
    (cond (eqb b (byte "-")) (minus_step (b ∷ bs) (run is_digit bs) (rest is_digit bs))
    (cond (eqb b (byte "\"")) (string_step (b ∷ bs) (quoted plain bs))
    (cond (is_mark b) (token (mark b) bs)
    (cond (eqb b (byte "#")) done (wrong (b ∷ bs))))))))

-- the first token, blanks left out
unfoldable pub step : List ℕ → Step
step [] = done
step (b ∷ bs) = let r = step bs in cond (is_blank b) r (step_at b bs)

-- the tokens of a line, or the line from its leftmost bad token on
pub data Lexed : Type 0 where
  good : List Token → Lexed
  bad : List ℕ → Lexed

unfoldable pub tokens_onto : Token → Lexed → Lexed
tokens_onto t (good ts) = good (t ∷ ts)
tokens_onto t (bad l) = bad l

unfoldable pub tokens_by : (List ℕ → Lexed) → Step → Lexed
tokens_by more (token t l) = tokens_onto t (more l)
tokens_by more done = good []
tokens_by more (wrong l) = bad l

-- (each turn takes a byte or more)
unfoldable pub tokens_from : ℕ → List ℕ → Lexed
tokens_from zero l = good []
tokens_from (suc k) l = tokens_by (tokens_from k) (step l)

unfoldable pub tokens : List ℕ → Lexed
tokens l = tokens_from (length l) l

unfoldable pub tokens_open : Unit {0}
unfolding keywords is_keyword number decimal digit plain_turn escape_turn onto octal_byte octal_turn turn quoted_onto quoted_by quoted parted separate name_step word_step integer_step value_step number_step minus_step string_step step_at step tokens_onto tokens_by tokens_from tokens
tokens_open = tt
