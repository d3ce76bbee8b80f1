-- The class of a byte. The classes are numbered so that every set of bytes that a scan needs is a range.
use Rattle.std.specs.Prelude.{ℕ, zero, suc, Bool, cond, List, [], ◌∷◌, eqb}
use Rattle.rules.specs.Bytes.{byte, within, is_line_end, is_blank, is_name_start, is_lower, is_digit, is_octal, is_value_digit, is_mark}

-- ---- the classes by their numbers
abbrev pub line_end_byte : ℕ
line_end_byte = 0

-- byte 0, and what is no byte
abbrev pub no_byte : ℕ
no_byte = 1

abbrev pub control_byte : ℕ
control_byte = 2

abbrev pub blank_byte : ℕ
blank_byte = 3

abbrev pub mark_byte : ℕ
mark_byte = 4

-- `#`
abbrev pub comment_byte : ℕ
comment_byte = 5

-- above 32 and of no other class
abbrev pub other_byte : ℕ
other_byte = 6

abbrev pub name_start_byte : ℕ
name_start_byte = 7

-- `"`
abbrev pub quote_byte : ℕ
quote_byte = 8

-- 8 and 9
abbrev pub high_digit : ℕ
high_digit = 9

-- 2 to 7
abbrev pub octal_digit : ℕ
octal_digit = 10

-- 0 and 1
abbrev pub value_digit : ℕ
value_digit = 11

-- `-`
abbrev pub minus_byte : ℕ
minus_byte = 12

-- x, z and m
abbrev pub value_letter : ℕ
value_letter = 13

-- any other lowercase letter
abbrev pub letter : ℕ
letter = 14

-- ---- the class of a byte
unfoldable pub digit_class : ℕ → ℕ
digit_class b = cond (is_value_digit b) value_digit (cond (is_octal b) octal_digit high_digit)

unfoldable pub letter_class : ℕ → ℕ
letter_class b = cond (is_value_digit b) value_letter letter

-- above 32
unfoldable pub print_class : ℕ → ℕ
print_class b =
    cond (is_mark b) mark_byte
    (cond (eqb b (byte "#")) comment_byte
    (cond (is_name_start b) name_start_byte
    (cond (eqb b (byte "\"")) quote_byte
    (cond (is_digit b) (digit_class b)
    (cond (eqb b (byte "-")) minus_byte
    (cond (is_lower b) (letter_class b) other_byte))))))

unfoldable pub class_of : ℕ → ℕ
class_of b =
    cond (is_line_end b) line_end_byte
    (cond (is_blank b) blank_byte
    (cond (within 1 31 b) control_byte
    (cond (within 33 255 b) (print_class b) no_byte)))

-- the class of b is one of lo to hi
unfoldable pub in_class : (lo hi : ℕ) → ℕ → Bool
in_class lo hi b = within lo hi (class_of b)

-- the classes of n bytes from b on, and of all bytes
unfoldable pub classes_from : (n b : ℕ) → List ℕ
classes_from zero b = []
classes_from (suc n) b = class_of b ∷ classes_from n (suc b)

unfoldable pub class_table : List ℕ
class_table = classes_from 256 0

unfoldable pub class_open : Unit {0}
unfolding digit_class letter_class print_class class_of in_class classes_from class_table
class_open = tt
