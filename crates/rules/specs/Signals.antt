-- The bits of a signal.
-- Source: document 01, "Signals", after 004 and 000, and document 02's request 2 for values with few digits. Stricter
-- than 004: a wire must be declared before, and a slice lies inside its signal. Indexes count from bit 0, whatever the
-- offset.
use Rattle.std.specs.Prelude.{ℕ, zero, suc, ◌+◌, ◌-◌, ◌*◌, ◌/◌, ◌%◌, Bool, true, false, cond, ◌&&◌, length, replicate, take, drop, ℤ, pos, negsuc, nat_abs, leb, ltb, eqb}
use mathlib.Core.List.{List, [], ◌∷◌, ◌++◌, map, reverse, flat_map}
use Rattle.std.proofs.Math.Option.{Option, none, some, get_or, Option-elim}
use Rattle.rules.specs.Bytes.{same}
use Rattle.rules.specs.Tokens.{Name, Digit, S0, S1, Sx, Sz, Sm, Sa, Literal, value, integer, string}
use Rattle.rules.specs.Statements.{Sig, Sigs, constant, wire, slice, bundle, nothing, ◌below◌, Constant, digit, bit, Signal, Wire}

-- the wires declared so far in a module, the last one first; a wire's number is how many were declared before it
abbrev pub Wires : Type 0
Wires = List (Name × Wire)

unfoldable pub find : Name → Wires → Option (ℕ × Wire)
find n [] = none
find n (w ∷ ws) = let r = find n ws in cond (same w.0 n) (some (length ws, w.1)) r

-- A value with fewer digits than its width is filled at the top by its top digit: 0 and 1 fill with 0, any other with itself; without digits with x
unfoldable pub filler : Digit → Digit
filler S0 = S0
filler S1 = S0
filler Sx = Sx
filler Sz = Sz
filler Sm = Sm
filler Sa = Sa

unfoldable pub top_filler : List Digit → Digit
top_filler [] = Sx
top_filler (d ∷ ds) = filler d

unfoldable pub fill : ℕ → List Digit → List Digit
fill w ds = replicate (w - length ds) (top_filler ds) ++ ds

-- its digits, lowest first
unfoldable pub value_bits : ℕ → List Digit → List Digit
value_bits w ds = reverse (fill w ds)

-- An integer is 32 bits in two's complement, so -1 is 32 ones
unfoldable pub twos_complement : ℤ → ℕ
twos_complement (pos n) = n
twos_complement (negsuc n) = 4294967295 - n

-- the lowest k binary digits of a number, lowest first
unfoldable pub binary : ℕ → ℕ → List Digit
binary zero n = []
binary (suc k) n = cond (eqb (n % 2) 0) S0 S1 ∷ binary k (n / 2)

-- the bits of a constant, lowest first. A string is 8 bits a byte, its last byte lowest
unfoldable pub literal_bits : Literal → List Digit
literal_bits (value w ds) = value_bits w ds
literal_bits (integer i) = binary 32 (twos_complement i)
literal_bits (string s) = flat_map (binary 8) (reverse s)

unfoldable pub literal_width : Literal → ℕ
literal_width (value w ds) = w
literal_width (integer i) = 32
literal_width (string s) = 8 * length s

-- a constant of an attribute or parameter keeps its kind
unfoldable pub kept : Literal → Constant
kept (value w ds) = Constant.value (value_bits w ds)
kept (integer i) = Constant.integer i
kept (string s) = Constant.string s

-- k bits of wire n from bit i on
unfoldable pub wire_bits : ℕ → ℕ → ℕ → Signal
wire_bits n i zero = []
wire_bits n i (suc k) = bit n i ∷ wire_bits n (i + 1) k

-- `[h:l]` takes bits l to h, `[i]` one bit; 0 <= l <= h < width
unfoldable pub inside : ℕ → ℤ → ℤ → Bool
inside w (pos h) (pos l) = leb l h && ltb h w
inside w (pos h) (negsuc l) = false
inside w (negsuc h) (pos l) = false
inside w (negsuc h) (negsuc l) = false

unfoldable pub lower : ℤ → Option ℤ → ℤ
lower h l = get_or l h

unfoldable pub span : ℤ → ℤ → ℕ
span h l = nat_abs h + 1 - nat_abs l

module _ (ws : Wires) where
  -- the width and the bits of a signal whose wires are there and whose slices are inside
  unfoldable mutual
    pub width : Sig → ℕ
    width (constant c) = literal_width c
    width (wire n) = Option-elim (find n ws) 0 (λ w. w.1.width)
    width (slice s h l) = span h (lower h l)
    width (bundle ss) = widths ss

    pub widths : Sigs → ℕ
    widths nothing = 0
    widths (s below ss) = width s + widths ss

  -- the last member of a bundle is lowest
  unfoldable mutual
    pub bits : Sig → Signal
    bits (constant c) = map digit (literal_bits c)
    bits (wire n) = Option-elim (find n ws) [] (λ w. wire_bits w.0 0 w.1.width)
    bits (slice s h l) = take (span h (lower h l)) (drop (nat_abs (lower h l)) (bits s))
    bits (bundle ss) = bits_of ss

    pub bits_of : Sigs → Signal
    bits_of nothing = []
    bits_of (s below ss) = bits s ++ bits_of ss

  -- a wire must be declared
  unfoldable pub declared_wire : Sig → Bool
  declared_wire (constant c) = true
  declared_wire (wire n) = Option-elim (find n ws) false (λ w. true)
  declared_wire (slice s h l) = true
  declared_wire (bundle ss) = true

  unfoldable pub good_slice : Sig → Bool
  good_slice (constant c) = true
  good_slice (wire n) = true
  good_slice (slice s h l) = inside (width s) h (lower h l)
  good_slice (bundle ss) = true

-- a signal and all its parts
unfoldable mutual
  pub parts : Sig → List Sig
  parts (constant c) = constant c ∷ []
  parts (wire n) = wire n ∷ []
  parts (slice s h l) = slice s h l ∷ parts s
  parts (bundle ss) = bundle ss ∷ parts_of ss

  pub parts_of : Sigs → List Sig
  parts_of nothing = []
  parts_of (s below ss) = parts s ++ parts_of ss

unfoldable pub signals_open : Unit {0}
unfolding flat_map find filler top_filler fill value_bits twos_complement binary literal_bits literal_width kept wire_bits Option-elim inside lower span width bits declared_wire good_slice parts
signals_open = tt
