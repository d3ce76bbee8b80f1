-- What holds of every string: of the bytes that it stands for, and of where it ends.
-- Assumes nothing.
use mathlib.Core.Path.{◌≡◌}
use mathlib.Core.Bool.{true}
use mathlib.Core.List.{List, [], ◌∷◌}
use Prim.Native.Nat.{ℕ, suc, ◌+◌, ◌<◌, ◌≤◌}
use native.Mathlib.Omega.{arith}
use lib.ListN.{length, drop, length-append, length-drop}
use Rattle.rules.specs.Bytes.{within}
use Rattle.rules.specs.Tokens.{Inside, plain, Turn, goes, ends, breaks, turn, Quoted, closed, broken, quoted_onto, quoted_by, quoted}
use Rattle.std.specs.Prelude.{Option, Some, None}
use Rattle.strings.specs.Decoded.{bytes_of, is_closed, decoded_by, decoded, closes, closing, CloseIs}
use Rattle.lists.specs.Elements.{all_append}
use Rattle.strings.proofs.Turns.{held, AllBytes, Fine, turn-fine}

-- the bytes given and those left behind the closing quote are fewer than n, and no byte given is 0
abbrev FineQuoted : ℕ → Quoted → Type 0
FineQuoted n (closed ds r) = (length ds + length r < n) × AllBytes ds
FineQuoted n broken = Unit {0}

onto-quoted : (m n : ℕ) (bs : List ℕ) (q : Quoted) → length bs + m ≤ n → AllBytes bs → FineQuoted m q → FineQuoted n (quoted_onto bs q)
unfolding quoted_onto
onto-quoted m n bs (closed ds r) h a f = (simp length-append (omega (arith, f.0)), all_append (within 1 255) bs ds a f.1)
onto-quoted m n bs broken h a f = tt

module _ (j : Inside) (l : List ℕ) (more : Inside → Quoted) (rest : (k : Inside) → FineQuoted (length l + held k) (more k)) where
  turn-quoted : (t : Turn) → Fine j t → FineQuoted (suc (length l) + held j) (quoted_by more l t)
  unfolding quoted_by
  turn-quoted (goes bs k) f = onto-quoted (length l + held k) (suc (length l) + held j) bs (more k) (omega (arith, f.0)) f.1 (rest k)
  turn-quoted (ends bs) f = (omega (arith, f.0), f.1)
  turn-quoted breaks f = tt

quoted-fine : (j : Inside) (l : List ℕ) → FineQuoted (length l + held j) (quoted j l)
unfolding quoted
quoted-fine j [] = tt
quoted-fine j (b ∷ l) = turn-quoted j l (λ k. quoted k l) (λ k. quoted-fine k l) (turn j b) (turn-fine j b)

few_bytes : (n : ℕ) (q : Quoted) → FineQuoted n q → length (bytes_of q) ≤ n
unfolding bytes_of
few_bytes n (closed ds r) f = omega (arith, f.0)
few_bytes n broken f = omega arith

-- the bytes that a string stands for are from 1 to 255
pub quoted-bytes : (j : Inside) (l ds r : List ℕ) → quoted j l ≡ closed ds r → AllBytes ds
quoted-bytes j l ds r e = let f : FineQuoted (length l + held j) (closed ds r) = rw e at (quoted-fine j l) in f.1

-- a string stands for no more bytes than are written
pub decoded-length : (l : List ℕ) (at : ℕ) → length (decoded (drop at l)) ≤ length l
unfolding decoded decoded_by held
decoded-length l at =
    omega (arith, few_bytes (length (drop at l) + held plain) (quoted plain (drop at l)) (quoted-fine plain (drop at l)), length-drop at l)

module _ (l : List ℕ) where
  pub broken-decoded : quoted plain l ≡ broken → decoded l ≡ []
  unfolding decoded decoded_by bytes_of
  broken-decoded e = rw e

  pub never-broken : closes l ≡ true → quoted plain l ≡ broken → ⊥
  unfolding closes is_closed
  never-broken h e = let f : is_closed broken ≡ true = rw e at h in let z : ◌≡◌ {A = ℕ} 0 1 = cc in omega arith

  module _ (ds r : List ℕ) (e : quoted plain l ≡ closed ds r) where
    pub closed-decoded : decoded l ≡ ds
    unfolding decoded decoded_by bytes_of
    closed-decoded = rw e

    pub closed-closes : closes l ≡ true
    unfolding closes is_closed
    closed-closes = rw e

-- what the answer of `string_end` says
module _ (s : List ℕ) (at : ℕ) (r : Option ℕ) (c : CloseIs s at r) where
  pub close-broken : r ≡ None → quoted plain (drop at s) ≡ broken
  unfolding closing
  close-broken e = rw e at c.is

  module _ (end : ℕ) (e : r ≡ Some end) where
    pub close-closed : quoted plain (drop at s) ≡ closed (decoded (drop at s)) (drop end s)
    unfolding closing
    close-closed = rw e at c.is

    pub close-closes : closes (drop at s) ≡ true
    close-closes = closed-closes (drop at s) (decoded (drop at s)) (drop end s) close-closed

    pub close-between : (at < end) × (end ≤ length s)
    close-between = rw e at c.between
