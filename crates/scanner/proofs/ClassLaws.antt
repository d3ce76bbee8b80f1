-- Each test of a byte that a scan makes is a range of classes.
-- Assumes nothing.
use mathlib.Core.Path.{◌≡◌, refl, sym, ap, fun_ext, ◌∙◌}
use mathlib.Core.Bool.{Bool, true, false, not, beq, ◌&&◌, ◌||◌, and-false}
use mathlib.Core.List.{List, [], ◌∷◌}
use Prim.Native.Nat.{ℕ, zero, suc, ◌+◌, ◌<◌, ◌≤◌}
use native.Mathlib.Omega.{arith}
use lib.Dec.{T, eqb, leb, ltb, leb→le}
use lib.ListN.{get_or, replicate, length-replicate}
use borrow.Author.Tests.{le-leb, lt-leb, eq-eqb, ne_eqb, leb-true, leb-false}
use Rattle.rules.specs.Bytes.{bytes, byte, within, any, all, bytes_open, is_line_end, is_blank, is_mark, is_name_start, is_name_byte, is_lower, is_digit, is_value_digit}
use Rattle.scanner.specs.Class.{class_of, in_class, classes_from, class_table, class_open}
use Rattle.lists.specs.Tests.{by-test, by_order}
use Rattle.lists.specs.Bytes.{within-above}
use Rattle.scanner.proofs.Table.{both_left, both_right, every, at}

-- what stands in the table of classes
classes-at : (n b i : ℕ) → i < n → get_or (classes_from n b) i 0 ≡ class_of (b + i)
unfolding classes_from
classes-at zero b i h = absurd (omega arith)
classes-at (suc n) b zero h = ap class_of (omega arith)
classes-at (suc n) b (suc i) h = classes-at n (suc b) i (omega arith) ∙ ap class_of (omega arith)

pub class-at : (b : ℕ) → b < 256 → get_or class_table b 0 ≡ class_of b
unfolding class_table
class-at b h = classes-at 256 0 b h ∙ ap class_of (omega arith)

-- what the class of a byte tells of a range
module _ (lo hi b c : ℕ) (e : c ≡ class_of b) where
  pub inside : lo ≤ c → c ≤ hi → in_class lo hi b ≡ true
  unfolding in_class within
  inside h k = rw (← e, le-leb lo c, le-leb c hi)

  pub below : c < lo → in_class lo hi b ≡ false
  unfolding in_class within
  below h = rw (← e, lt-leb lo c)

  pub above : hi < c → in_class lo hi b ≡ false
  unfolding in_class within
  above h = rw (← e, lt-leb c hi) (and-false (leb lo c))

-- no byte is 256 or more: there a test of bytes fails, and the class is 1
module _ (b : ℕ) (h : 256 ≤ b) where
  off : (k : ℕ) → T (ltb k 256) → eqb b k ≡ false
  off k t = let q : k < 256 = leb→le (suc k) 256 t in ne_eqb b k (λ e. omega arith)

  out : (lo hi : ℕ) → T (ltb hi 256) → within lo hi b ≡ false
  out lo hi t = let q : hi < 256 = leb→le (suc hi) 256 t in within-above lo hi b (omega arith)

  none : (l : List ℕ) → T (all (λ k. ltb k 256) l) → any (eqb b) l ≡ false
  unfolding any all
  none [] t = refl
  none (k ∷ ks) t = rw (off k (both_left (ltb k 256) _ t)) (none ks (both_right (ltb k 256) _ t))

  beyond : class_of b ≡ 1
  unfolding class_of is_line_end is_blank
  beyond = rw (off 10 tt, off 13 tt, off 32 tt, off 9 tt, out 1 31 tt, out 33 255 tt)

same_answer : (a b : Bool) → T (beq a b) → a ≡ b
same_answer true true t = refl
same_answer true false t = absurd t
same_answer false true t = absurd t
same_answer false false t = refl

-- the two tests give the same answer on every byte
agree : (f g : ℕ → Bool) → Bool
agree f g = every (λ k x. beq (f k) (g k)) 0 (replicate 256 0)

-- a test is a range of classes if it is so on every byte and beyond
module _ (f : ℕ → Bool) (lo hi : ℕ) (t : T (agree f (in_class lo hi))) (high : (b : ℕ) → 256 ≤ b → f b ≡ within lo hi 1) where
  on-bytes : (b : ℕ) → b < 256 → f b ≡ in_class lo hi b
  unfolding agree
  on-bytes b h = same_answer _ _ (at (λ k x. beq (f k) (in_class lo hi k)) (replicate 256 0) t b (rw length-replicate h))

  past : (b : ℕ) → 256 ≤ b → f b ≡ in_class lo hi b
  unfolding in_class
  past b h = rw (beyond b h) (high b h)

  range : f ≡ in_class lo hi
  range = fun_ext (λ b. by_order 256 b (past b) (on-bytes b))

pub class-blank : is_blank ≡ in_class 3 3
unfolding agree class_open bytes_open
class-blank = range is_blank 3 3 tt (λ b h. rw (off b h 32 tt, off b h 9 tt))

pub class-mark : is_mark ≡ in_class 4 4
unfolding agree class_open bytes_open
class-mark = range is_mark 4 4 tt (λ b h. none b h (bytes "{}[]:,") tt)

pub class-hash : (λ b. eqb b (byte "#")) ≡ in_class 5 5
unfolding agree class_open bytes_open
class-hash = range (λ b. eqb b (byte "#")) 5 5 tt (λ b h. off b h (byte "#") tt)

pub class-name-start : is_name_start ≡ in_class 7 7
unfolding agree class_open bytes_open
class-name-start = range is_name_start 7 7 tt (λ b h. none b h (bytes "\\$") tt)

pub class-quote : (λ b. eqb b (byte "\"")) ≡ in_class 8 8
unfolding agree class_open bytes_open
class-quote = range (λ b. eqb b (byte "\"")) 8 8 tt (λ b h. off b h (byte "\"") tt)

pub class-digit : is_digit ≡ in_class 9 11
unfolding agree class_open bytes_open
class-digit = range is_digit 9 11 tt (λ b h. out b h (byte "0") (byte "9") tt)

pub class-value-digit : is_value_digit ≡ in_class 11 13
unfolding agree class_open bytes_open
class-value-digit = range is_value_digit 11 13 tt (λ b h. none b h (bytes "01xzm-") tt)

pub class-minus : (λ b. eqb b (byte "-")) ≡ in_class 12 12
unfolding agree class_open bytes_open
class-minus = range (λ b. eqb b (byte "-")) 12 12 tt (λ b h. off b h (byte "-") tt)

pub class-lower : is_lower ≡ in_class 13 14
unfolding agree class_open bytes_open
class-lower = range is_lower 13 14 tt (λ b h. out b h (byte "a") (byte "z") tt)

pub class-name-byte : is_name_byte ≡ in_class 4 14
unfolding agree class_open bytes_open
class-name-byte = range is_name_byte 4 14 tt (λ b h. out b h 33 255 tt)

-- a byte of a line
pub class-in-line : (λ b. not (is_line_end b)) ≡ in_class 1 14
unfolding agree class_open bytes_open
class-in-line = range (λ b. not (is_line_end b)) 1 14 tt (λ b h. rw (off b h 10 tt, off b h 13 tt))

pub in-line : (b : ℕ) (r : Bool) → r ≡ is_line_end b → in_class 1 14 b ≡ not r
in-line b r e = ap (λ (f : ℕ → Bool). f b) (sym class-in-line) ∙ ap not (sym e)

-- what may follow a word or a constant
pub class-parting : (λ b. is_blank b || is_mark b || eqb b (byte "#")) ≡ in_class 3 5
unfolding agree class_open bytes_open
class-parting = range (λ b. is_blank b || is_mark b || eqb b (byte "#")) 3 5 tt (λ b h. rw (off b h 32 tt, off b h 9 tt, none b h (bytes "{}[]:,") tt, off b h (byte "#") tt))

both_ways : (c k : ℕ) → leb k c && leb c k ≡ eqb c k
both_ways c k =
    by-test (leb k c)
    (λ p. by-test (leb c k)
    (λ q. rw (p, q, eq-eqb c k (omega (arith, leb-true k c p, leb-true c k q))))
    (λ q. rw (p, q, ne_eqb c k (λ e. omega (arith, leb-false c k q)))))
    (λ p. rw (p, ne_eqb c k (λ e. omega (arith, leb-false k c p))))

-- a range of one class
pub class-one : (k b : ℕ) → in_class k k b ≡ eqb (class_of b) k
unfolding in_class within
class-one k b = both_ways (class_of b) k
