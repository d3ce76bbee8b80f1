-- Bytes, their classes, and names.
-- Source: document 01, "Bytes, words and lines", over 004's lexical part. Stricter than 004: a name is at most 255
-- bytes. Classes end at 255, so that nothing has to say that a list holds bytes.
use Rattle.std.specs.Prelude.{ℕ, List, [], ◌∷◌, Bool, true, false, not, cond, ◌&&◌, ◌||◌, length, leb, eqb}
use Prim.Native.Char.{Char, code}
use Prim.Native.String.{String}

-- A quoted text as bytes, and a quoted character as a byte
abbrev pub bytes : String → List ℕ
bytes String.[] = []
bytes (String.◌∷◌ c s) = code c ∷ bytes s

abbrev pub byte : Char → ℕ
byte c = code c

-- A file is bytes; nothing is decoded: what is the same is so byte for byte
unfoldable pub same : List ℕ → List ℕ → Bool
same [] [] = true
same [] (y ∷ ys) = false
same (x ∷ xs) [] = false
same (x ∷ xs) (y ∷ ys) = let r = same xs ys in eqb x y && r

unfoldable pub any : {A : Type 0} → (A → Bool) → List A → Bool
any f [] = false
any f (x ∷ xs) = let r = any f xs in f x || r

unfoldable pub all : {A : Type 0} → (A → Bool) → List A → Bool
all f [] = true
all f (x ∷ xs) = let r = all f xs in f x && r

-- a byte from lo to hi; one of the bytes of a text
unfoldable pub within : (lo hi : ℕ) → ℕ → Bool
within lo hi b = leb lo b && leb b hi

unfoldable pub one_of : String → ℕ → Bool
one_of s b = any (eqb b) (bytes s)

-- Bytes 10 and 13 end lines
unfoldable pub is_line_end : ℕ → Bool
is_line_end b = eqb b 10 || eqb b 13

-- Spaces and tabs separate tokens
unfoldable pub is_blank : ℕ → Bool
is_blank b = eqb b 32 || eqb b 9

-- Name: `\` or `$`, then one or more bytes above 32. Byte 127 and all above are allowed
unfoldable pub is_name_start : ℕ → Bool
is_name_start b = one_of "\\$" b

unfoldable pub is_name_byte : ℕ → Bool
is_name_byte b = within 33 255 b

unfoldable pub is_lower : ℕ → Bool
is_lower b = within (byte "a") (byte "z") b

unfoldable pub is_digit : ℕ → Bool
is_digit b = within (byte "0") (byte "9") b

unfoldable pub is_octal : ℕ → Bool
is_octal b = within (byte "0") (byte "7") b

-- any of `0 1 x z m -`
unfoldable pub is_value_digit : ℕ → Bool
is_value_digit b = one_of "01xzm-" b

-- Bytes 0, 10 and 13 may not stand in a string raw
unfoldable pub is_string_byte : ℕ → Bool
is_string_byte b = within 1 255 b && not (is_line_end b)

-- Marks: `{ } [ ] : ,`
unfoldable pub is_mark : ℕ → Bool
is_mark b = one_of "{}[]:," b

-- the longest beginning whose bytes pass a test, and what is left behind it
unfoldable pub run : (ℕ → Bool) → List ℕ → List ℕ
run f [] = []
run f (b ∷ bs) = let r = b ∷ run f bs in cond (f b) r []

unfoldable pub rest : (ℕ → Bool) → List ℕ → List ℕ
rest f [] = []
rest f (b ∷ bs) = let r = rest f bs in cond (f b) r (b ∷ bs)

-- A name is at most 255 bytes in all
unfoldable pub legal : List ℕ → Bool
legal [] = false
legal (b ∷ bs) = is_name_start b && all is_name_byte bs && within 1 254 (length bs)

unfoldable pub bytes_open : Unit {0}
unfolding same any all within one_of is_line_end is_blank is_name_start is_name_byte is_lower is_digit is_octal is_value_digit is_string_byte is_mark run rest legal
bytes_open = tt
