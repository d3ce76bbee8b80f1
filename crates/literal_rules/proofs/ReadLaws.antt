-- The width of a constant, and integers and values as they are read.
-- Assumes nothing.
use mathlib.Core.Path.{◌≡◌, sym, ap, ◌∙◌}
use mathlib.Core.Bool.{true, false}
use mathlib.Core.List.{List, map, reverse}
use Prim.Native.Nat.{ℕ, ◌+◌, ◌*◌, ◌≤◌, ◌<◌}
use native.Mathlib.Omega.{arith}
use borrow.Author.Tests.{leb-true, le-leb, lt-leb}
use lib.ListN.{length, drop, length-append, length-map, length-replicate, length-reverse}
use lib.Dec.{leb}
use lib.Seq.{slice}
use Rattle.rules.specs.Tokens.{Literal, value, integer, string, digit, decimal}
use Rattle.rules.specs.Numbers.{int32, good_literal}
use Rattle.rules.specs.Signals.{fill, value_bits, twos_complement, binary, literal_bits, literal_width}
use Rattle.scanner.specs.Numbers.{capped}
use Rattle.lists.specs.Tests.{and-true-left, and-true-right}
use Rattle.scanner.proofs.NumberLaws.{capped_small}
use Rattle.numbers.specs.Signed.{integer_of}
use Rattle.numbers.specs.SignedLaws.{capped-int32, capped_same, binary-length}
use Rattle.strings.specs.Decoded.{decoded}
use Rattle.strings.proofs.StringLaws.{decoded-length}
use Rattle.tokens.specs.Rows.{integer_in, literal_in}
use Rattle.tokens.specs.declared.Integer.{Integer}
use Rattle.tokens.specs.declared.ConstantSpan.{ConstantSpan}
use Rattle.tokens.specs.declared.ConstantSpan.TheVariants as constant
use Rattle.lists.specs.Sums.{length-equal}
use Rattle.lists.specs.Elements.{each_all}

-- a constant that keeps the number rules has as many bits as its width says
pub literal-long : (l : Literal) → good_literal l ≡ true → length (literal_bits l) ≡ literal_width l
unfolding good_literal literal_bits literal_width value_bits fill
literal-long (value w ds) h =
    let k : length ds ≤ w = leb-true (length ds) w (and-true-right (leb w 2048) (leb (length ds) w) h) in
    rw (length-reverse, length-append, length-replicate) (omega arith)
literal-long (integer i) h = binary-length 32 (twos_complement i)
literal-long (string s) h = length-equal (binary 8) 8 (reverse s) (each_all _ (binary-length 8) (reverse s)) ∙ ap (λ (n : ℕ). 8 * n) (length-reverse s)

-- a value that keeps them has 2,048 digits at most, and its width as it is read is how many it has
module _ (f : List ℕ) (a b e : ℕ) (h : good_literal (literal_in f (constant.Value a b e)) ≡ true) where
  pub value-narrow : literal_width (literal_in f (constant.Value a b e)) ≤ 2048
  unfolding literal_in good_literal literal_width
  value-narrow =
      let w : ℕ = decimal (slice a b f) in
      leb-true w 2048 (and-true-left (leb w 2048) (leb (length (map digit (slice (b + 1) e f))) w) h)

  pub value-few : length (literal_bits (literal_in f (constant.Value a b e))) ≤ 2048
  value-few = rw (literal-long (literal_in f (constant.Value a b e)) h) value-narrow

  value-capped : capped (literal_width (literal_in f (constant.Value a b e))) ≡ literal_width (literal_in f (constant.Value a b e))
  value-capped = capped_small (literal_width (literal_in f (constant.Value a b e))) (omega (arith, value-narrow))

  pub value-width : (n : ℕ) → n ≡ capped (literal_width (literal_in f (constant.Value a b e))) → n ≡ length (literal_bits (literal_in f (constant.Value a b e)))
  value-width n r = r ∙ value-capped ∙ sym (literal-long (literal_in f (constant.Value a b e)) h)

-- the width of a constant in a file that is not too long is below the cap
pub width_small : (f : List ℕ) (c : ConstantSpan) → length f ≤ 268435456 → good_literal (literal_in f c) ≡ true → capped (literal_width (literal_in f c)) ≡ literal_width (literal_in f c)
unfolding literal_in good_literal literal_width
width_small f (constant.Integer z) k h = capped_small 32 (omega arith)
width_small f (constant.Value a b e) k h = value-capped f a b e h
width_small f (constant.Text a) k h = capped_small (8 * length (decoded (drop a f))) (omega (arith, decoded-length f a))

-- ---- integers

-- the integer whose digits ds were read, with the cap, as size
module _ (f : List ℕ) (z : Integer) (ds : List ℕ) (size : ℕ) (part : ds ≡ slice z.start z.end f) (read : size ≡ capped (decimal ds)) where
  pub read_fits : int32 (integer_of z.negative size) ≡ int32 (integer_in f z)
  unfolding integer_in capped
  read_fits = rw (read, part) (capped-int32 z.negative (decimal (slice z.start z.end f)))

  pub read_word : int32 (integer_in f z) ≡ true → twos_complement (integer_of z.negative size) ≡ twos_complement (integer_in f z)
  unfolding integer_in capped
  read_word h = rw (read, part, capped_same z.negative (decimal (slice z.start z.end f)) h)

-- ---- values

-- the value whose width's digits ds were read, with the cap, as width
module _ (f : List ℕ) (a b e : ℕ) (ds : List ℕ) (width : ℕ) (part : ds ≡ slice a b f) (read : width ≡ capped (decimal ds)) where
  is : width ≡ capped (decimal (slice a b f))
  is = rw part at read

  pub read_wide : 2048 < width → false ≡ good_literal (literal_in f (constant.Value a b e))
  unfolding literal_in good_literal capped
  read_wide h = rw (lt-leb (decimal (slice a b f)) 2048 (omega (arith, is)))

  exact : width ≤ 2048 → width ≡ decimal (slice a b f)
  unfolding capped
  exact h = omega (arith, is)

  module _ (bs : List ℕ) (digits : bs ≡ slice (b + 1) e f) where
    pub read-good : width ≤ 2048 → leb (length bs) width ≡ good_literal (literal_in f (constant.Value a b e))
    unfolding literal_in good_literal
    read-good h = rw (← exact h, ← digits, length-map, le-leb width 2048 h)

    module _ (h : good_literal (literal_in f (constant.Value a b e)) ≡ true) where
      read-width : width ≡ decimal (slice a b f)
      unfolding capped literal_in literal_width
      read-width = omega (arith, is, value-narrow f a b e h)

      pub read-room : (at n : ℕ) → at + literal_width (literal_in f (constant.Value a b e)) ≤ n → at + width ≤ n
      unfolding literal_in literal_width
      read-room at n k = omega (arith, read-width)

      pub read-few : length bs ≤ width
      unfolding literal_in literal_width
      read-few = leb-true (length bs) width (read-good (omega (arith, read-width, value-narrow f a b e h)) ∙ h)

      pub read-literal : value width (map digit bs) ≡ literal_in f (constant.Value a b e)
      unfolding literal_in
      read-literal = rw (← read-width, ← digits)
