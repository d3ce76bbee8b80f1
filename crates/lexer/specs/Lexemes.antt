-- What stands where a token could start, as the rules' step.
use Rattle.std.specs.Prelude.{ℕ, ◌≤◌, ◌<◌, ◌≡◌, true, List, length, get_or, drop, Option, Some, None, Result, Ok, Err}
use Rattle.std.proofs.Math.Seq.{slice}
use Rattle.rules.specs.Bytes.{legal}
use Rattle.rules.specs.Tokens as rules
use Rattle.scanner.specs.Class.{class_of}
use Rattle.strings.specs.Decoded.{closes}
use Rattle.tokens.specs.Rows.{token_in}
use Rattle.tokens.specs.declared.ConstantSpan.{ConstantSpan}
use Rattle.tokens.specs.declared.ConstantSpan.TheVariants as constant
use Rattle.tokens.specs.declared.Token.{Token}
use Rattle.tokens.specs.declared.Token.TheVariants as token
use Rattle.lexer.specs.declared.Lexeme.{Lexeme}
use Rattle.lexer.specs.declared.BadToken.{BadToken}

-- a token's places are in order and inside the bytes; a name is legal, a string closes, a word has a keyword's number
abbrev pub HeldConstant : List ℕ → ConstantSpan → Type 0
HeldConstant s (constant.Integer z) = (z.start ≤ z.end) × (z.end ≤ length s)
HeldConstant s (constant.Value a b c) = (a ≤ b) × (b < c) × (c ≤ length s)
HeldConstant s (constant.Text a) = (a ≤ length s) × (closes (drop a s) ≡ true)

abbrev pub Held : List ℕ → Token → Type 0
Held s (token.Name a b) = (a ≤ b) × (b ≤ length s) × (legal (slice a b s) ≡ true)
Held s (token.Word c) = c < 32
Held s (token.Constant c) = HeldConstant s c
Held s (token.Mark b) = b < 256
Held s token.End = ⊥

-- where a token's first byte stands, the line has not ended
abbrev pub found : Result Lexeme BadToken → Result (Option Lexeme) BadToken
found (Ok l) = Ok (Some l)
found (Err b) = Err b

unfoldable pub step_of : List ℕ → Result (Option Lexeme) BadToken → rules.Step
step_of s (Ok (Some l)) = rules.token (token_in s l.token) (drop l.next s)
step_of s (Ok None) = rules.done
step_of s (Err b) = rules.wrong (drop b.at s)

-- a token ends behind `at`, a bad one starts there or behind it, and both lie inside the bytes
abbrev pub Lies : List ℕ → ℕ → Result (Option Lexeme) BadToken → Type 0
Lies s at (Ok (Some l)) = (at < l.next) × (l.next ≤ length s) × Held s l.token
Lies s at (Ok None) = Unit {0}
Lies s at (Err b) = (at ≤ b.at) × (b.at < length s)

-- the answer is the rules' step x, and lies where it may
pub record Steps (s : List ℕ) (at : ℕ) (x : rules.Step) (r : Result (Option Lexeme) BadToken) : Type 0 where
  pub is : x ≡ step_of s r
  pub lies : Lies s at r

-- the answer is what the rules say of the bytes from `at` on
abbrev pub StepIs : List ℕ → ℕ → Result (Option Lexeme) BadToken → Type 0
StepIs s at r = Steps s at (rules.step (drop at s)) r

-- a byte of the classes lo to hi stands at p
pub record Starts (s : List ℕ) (p lo hi : ℕ) : Type 0 where
  pub inside : p < length s
  pub low : lo ≤ class_of (get_or s p 0)
  pub high : class_of (get_or s p 0) ≤ hi
