-- Number and option rules, and what options mean.
-- Source: document 01, "Objects", and 004's 32-bit integers. Stricter than 004: an option stands once, a wire is at
-- most one of input, output and inout, and widths, sizes and port numbers have bounds.
use Rattle.std.specs.Prelude.{ℕ, ◌-◌, Bool, true, false, not, cond, ◌&&◌, ◌||◌, length, ℤ, pos, negsuc, nat_abs, ◌+ℤ◌, leb, ltb, eqb}
use Prim.Native.String.{String}
use mathlib.Core.List.{List, [], ◌∷◌, Option-to_list}
use Rattle.std.proofs.Math.Option.{Option, none, some, get_or}
use Rattle.rules.specs.Limits.{most_width}
use Rattle.rules.specs.Bytes.{bytes, same, any, all, within}
use Rattle.rules.specs.Tokens.{Literal, value, integer, string}
use Rattle.rules.specs.Statements.{Sig, constant, wire, slice, bundle, Opt, Wire, Memory, Direction, input, output, inout}

-- Integers are limited to 32 bits, in the range [-2147483648, 2147483648)
unfoldable pub int32 : ℤ → Bool
int32 (pos n) = ltb n 2147483648
int32 (negsuc n) = ltb n 2147483648

unfoldable pub in_range : (lo hi : ℕ) → ℤ → Bool
in_range lo hi (pos n) = within lo hi n
in_range lo hi (negsuc n) = false

-- integer outside 32 bits, value over 2,048 wide or with too many digits
unfoldable pub good_literal : Literal → Bool
good_literal (value w ds) = leb w most_width && leb (length ds) w
good_literal (integer i) = int32 i
good_literal (string s) = true

-- the numbers in a signal, its parts left aside
unfoldable pub good_numbers : Sig → Bool
good_numbers (constant c) = good_literal c
good_numbers (wire n) = true
good_numbers (slice s h l) = int32 h && all int32 (Option-to_list l)
good_numbers (bundle ss) = true

-- whether an option is given, and its number or else d
unfoldable pub has : String → List Opt → Bool
has w os = any (λ o. same o.0 (bytes w)) os

unfoldable pub number_or : ℤ → String → List Opt → ℤ
number_or d w [] = d
number_or d w (o ∷ os) = let r = number_or d w os in cond (same o.0 (bytes w)) (get_or o.1 d) r

-- input, output, inout with their port numbers
unfoldable pub ports_among : List (String × Direction) → List Opt → List (Direction × ℤ)
ports_among [] os = []
ports_among (d ∷ ds) os =
    let r = ports_among ds os in
    cond (has d.0 os) ((d.1, number_or (pos 0) d.0 os) ∷ r) r

unfoldable pub ports : List Opt → List (Direction × ℤ)
ports os = ports_among (("input", input) ∷ ("output", output) ∷ ("inout", inout) ∷ []) os

unfoldable pub port_of : List (Direction × ℤ) → Option (Direction × ℕ)
port_of [] = none
port_of (p ∷ ps) = some (p.0, nat_abs p.1)

-- Wire: width 1 if not given, offset 0. Memory: width 1, size 0, offset 0
unfoldable pub wire_of : List Opt → Wire
wire_of os =
    record {
      width = nat_abs (number_or (pos 1) "width" os);
      offset = number_or (pos 0) "offset" os;
      upto = has "upto" os;
      signed = has "signed" os;
      port = port_of (ports os);
    }

unfoldable pub memory_of : List Opt → Memory
memory_of os =
    record {
      width = nat_abs (number_or (pos 1) "width" os);
      size = nat_abs (number_or (pos 0) "size" os);
      offset = number_or (pos 0) "offset" os;
    }

-- An option stands once, in any order
unfoldable pub once : List Opt → Bool
once [] = true
once (o ∷ os) = let r = once os in not (any (λ p. same p.0 o.0) os) && r

unfoldable pub good_options : List Opt → Bool
good_options os = once os && all (λ o. all int32 (Option-to_list o.1)) os

-- Wire: width 0 to 2,048, at most one of input, output, inout with a port number from 1 to 1,023.
-- If the width is not 0, offset + width - 1 is at most 2,147,483,647
unfoldable pub good_wire : List Opt → Bool
good_wire os =
    let w = wire_of os in
    good_options os
    && in_range 0 most_width (number_or (pos 1) "width" os)
    && leb (length (ports os)) 1
    && all (λ p. in_range 1 1023 p.1) (ports os)
    && (eqb w.width 0 || int32 (w.offset +ℤ pos (w.width - 1)))

-- Memory: width 1 to 2,048, size 0 or more
unfoldable pub good_memory : List Opt → Bool
good_memory os =
    good_options os && in_range 1 most_width (number_or (pos 1) "width" os) && in_range 0 2147483647 (number_or (pos 0) "size" os)

unfoldable pub numbers_open : Unit {0}
unfolding Option-to_list int32 in_range good_literal good_numbers has number_or ports_among ports port_of wire_of memory_of once good_options good_wire good_memory
numbers_open = tt
