-- What the code's enums stand for in the rules' machine of strings.
use Rattle.std.specs.Prelude.{ℕ, List, [], ◌∷◌}
use Rattle.rules.specs.Tokens as rules
use Rattle.strings.specs.declared.Inside.{Inside}
use Rattle.strings.specs.declared.Inside.TheVariants.{Plain, Escape, OneDigit, TwoDigits}
use Rattle.strings.specs.declared.Given.{Given}
use Rattle.strings.specs.declared.Given.TheVariants.{Nothing, One, Two}
use Rattle.strings.specs.declared.Turn.{Turn}
use Rattle.strings.specs.declared.Turn.TheVariants.{Goes, Ends, Breaks}

-- where the reader stands
unfoldable pub inside_of : Inside → rules.Inside
inside_of Plain = rules.plain
inside_of Escape = rules.escape
inside_of (OneDigit n) = rules.octal 1 n
inside_of (TwoDigits n) = rules.octal 2 n

-- the bytes that a turn gives
unfoldable pub given_of : Given → List ℕ
given_of Nothing = []
given_of (One a) = a ∷ []
given_of (Two a b) = a ∷ b ∷ []

-- what a byte does
unfoldable pub turn_of : Turn → rules.Turn
turn_of (Goes g i) = rules.goes (given_of g) (inside_of i)
turn_of (Ends g) = rules.ends (given_of g)
turn_of Breaks = rules.breaks

unfoldable pub machine_open : Unit {0}
unfolding inside_of given_of turn_of
machine_open = tt
