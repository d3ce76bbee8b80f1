-- The decoded bytes of a string, and where it closes. `l` stands right behind the opening quote.
use Rattle.std.specs.Prelude.{◌≡◌, Bool, true, false, not, ◌&&◌, ◌||◌, List, [], ℕ, ◌<◌, ◌≤◌, eqb, length, drop, Option, Some, None}
use Rattle.rules.specs.Bytes.{byte, is_string_byte}
use Rattle.rules.specs.Tokens.{Inside, plain, Quoted, closed, broken, quoted}

-- a byte that stands for itself
unfoldable pub is_plain : ℕ → Bool
is_plain b = is_string_byte b && not (eqb b (byte "\"") || eqb b (byte "\\"))

-- the bytes of a string that closes; none of one that is broken
unfoldable pub bytes_of : Quoted → List ℕ
bytes_of (closed ds l) = ds
bytes_of broken = []

unfoldable pub is_closed : Quoted → Bool
is_closed (closed ds l) = true
is_closed broken = false

-- the bytes that the machine gives from a state on
unfoldable pub decoded_by : Inside → List ℕ → List ℕ
decoded_by i l = bytes_of (quoted i l)

unfoldable pub decoded : List ℕ → List ℕ
decoded l = decoded_by plain l

-- the string has its closing quote, and nothing before it breaks it
unfoldable pub closes : List ℕ → Bool
closes l = is_closed (quoted plain l)

-- what the machine says of the string at `at`, told by where it ends
unfoldable pub closing : List ℕ → ℕ → Option ℕ → Quoted
closing s at (Some e) = closed (decoded (drop at s)) (drop e s)
closing s at None = broken

-- an end lies behind the start and within the bytes
abbrev pub Between : List ℕ → ℕ → Option ℕ → Type 0
Between s at (Some e) = (at < e) × (e ≤ length s)
Between s at None = Unit {0}

-- the answer is where the string at `at` ends
pub record CloseIs (s : List ℕ) (at : ℕ) (r : Option ℕ) : Type 0 where
  pub is : quoted plain (drop at s) ≡ closing s at r
  pub between : Between s at r
