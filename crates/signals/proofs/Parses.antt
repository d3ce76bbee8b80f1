-- The grammar's parses of the rows from a row on, by the marks that stand there.
-- Assumes nothing.
use mathlib.Core.Path.{◌≡◌, refl, sym, ap, ◌∙◌}
use mathlib.Core.Bool.{true, false, not}
use mathlib.Core.List.{List, [], ◌∷◌}
use mathlib.Core.Option.{Option, none, some}
use Prim.Native.Nat.{ℕ, zero, suc, ◌+◌, ◌-◌, ◌/◌, ◌<◌, ◌≤◌}
use Prim.Native.Char.{Char}
use native.Mathlib.Omega.{arith}
use lib.ListN.{length}
use lib.IntN.{ℤ}
use borrow.Author.Tests.{lt-ltb, ne_eqb, eqb-true}
use Rattle.rules.specs.Bytes.{byte}
use Rattle.rules.specs.Tokens as rules
use Rattle.rules.specs.Statements.{Sig, bundle}
use Rattle.rules.specs.Shapes.{Parse, is_mark, nowhere, give, after, of₁, of₂, either, closed_by, repeat, several, int, low_bound, bounds, sliced, sigs, with_slices, members, one, is_atom, atom, signal}
use Rattle.lists.specs.Tests.{by_order}
use Rattle.tokens.specs.Rows.{front, token_in, token_at, row_of, line, Present}
use Rattle.tokens.specs.declared.Token.{Token}
use Rattle.tokens.specs.declared.Token.TheVariants.{Name, Word, Constant as Constantly, Mark, End}
use Rattle.tokens.proofs.TokenLaws.{present, line-end, line_row, by-line, line_read, below}
use Rattle.signals.specs.Reads.{is_the_mark, mark_at, bounds_behind, sliced_on, members_on, Readable}

-- ---- the token of a row

same-mark : (f : List ℕ) (x : Token) (c : Char) → Present x → is_mark c (token_in f x) ≡ is_the_mark (byte c) x
unfolding is_mark token_in front is_the_mark
same-mark f (Name a b) c h = refl
same-mark f (Word w) c h = refl
same-mark f (Constantly l) c h = refl
same-mark f (Mark m) c h = refl
same-mark f End c h = absurd h

the-mark : (b : ℕ) (x : Token) → is_the_mark b x ≡ true → Mark b ≡ x
unfolding is_the_mark
the-mark b (Name s e) h = cc
the-mark b (Word w) h = cc
the-mark b (Constantly l) h = cc
the-mark b (Mark m) h = ap Mark (sym (eqb-true m b h))
the-mark b End h = cc

module _ (t : List ℕ) (i : ℕ) where
  pub mark-below : (b : ℕ) → mark_at t i b ≡ true → i < length t / 4
  unfolding mark_at
  mark-below b e = below t i (Mark b) (the-mark b (token_at t i) e) tt

  -- a row holds one mark only
  pub mark-other : (a b : ℕ) → mark_at t i a ≡ true → (a ≡ b → ⊥) → mark_at t i b ≡ false
  unfolding mark_at is_the_mark
  mark-other a b e h = ap (is_the_mark b) (sym (the-mark a (token_at t i) e)) ∙ ne_eqb a b h

  module _ (f : List ℕ) where
    module _ (c : Char) where
      -- the first token of the rows from i on is the mark c just where the row holds it
      token-mark : i < length t / 4 → is_mark c (token_in f (row_of t i)) ≡ mark_at t i (byte c)
      unfolding mark_at token_at
      token-mark h = same-mark f (row_of t i) c (present t i) ∙ sym (rw (lt-ltb i (length t / 4) h))

      module _ {A : Type 0} (p q : Parse A) where
        pub either-yes : mark_at t i (byte c) ≡ true → either (is_mark c) p q (line f t i) ≡ p (line f t (i + 1))
        unfolding either
        either-yes e = let h = mark-below (byte c) e in rw (line_row f t i h, token-mark h, e)

        pub either-not : mark_at t i (byte c) ≡ false → either (is_mark c) p q (line f t i) ≡ q (line f t i)
        unfolding either
        either-not e = by-line f t i (λ ts. either (is_mark c) p q ts ≡ q ts) (λ h. refl) (λ h. rw (token-mark h, e))

      module _ {A : Type 0} (p : Parse A) (as' : List A) where
        pub repeat-yes : (k : ℕ) → mark_at t i (byte c) ≡ true → repeat (is_mark c) p (suc k) as' (line f t i) ≡ after (p (line f t i)) (λ a. repeat (is_mark c) p k (a ∷ as'))
        unfolding repeat
        repeat-yes k e = let h = mark-below (byte c) e in rw (line_row f t i h, token-mark h, e)

        pub repeat-not : (k : ℕ) → mark_at t i (byte c) ≡ false → repeat (is_mark c) p k as' (line f t i) ≡ some (as', line f t i)
        unfolding repeat
        repeat-not zero e = refl
        repeat-not (suc k) e = by-line f t i (λ ts. repeat (is_mark c) p (suc k) as' ts ≡ some (as', ts)) (λ h. refl) (λ h. rw (token-mark h, e))

        -- up to a mark
        pub until-yes : (k : ℕ) → mark_at t i (byte c) ≡ true → repeat (λ x. not (is_mark c x)) p k as' (line f t i) ≡ some (as', line f t i)
        unfolding repeat
        until-yes zero e = refl
        until-yes (suc k) e = let h = mark-below (byte c) e in rw (line_row f t i h, token-mark h, e)

        pub until-not : (k : ℕ) → mark_at t i (byte c) ≡ false → i < length t / 4 → repeat (λ x. not (is_mark c x)) p (suc k) as' (line f t i) ≡ after (p (line f t i)) (λ a. repeat (λ x. not (is_mark c x)) p k (a ∷ as'))
        unfolding repeat
        until-not k e h = rw (line_row f t i h, token-mark h, e)

        pub until_end : (k : ℕ) → length t / 4 ≤ i → repeat (λ x. not (is_mark c x)) p k as' (line f t i) ≡ some (as', line f t i)
        unfolding repeat
        until_end zero h = refl
        until_end (suc k) h = rw (line-end f t i h)

-- ---- the bounds of a slice

module _ (f t : List ℕ) (i : ℕ) where
  low-yes : mark_at t i 58 ≡ true → low_bound (line f t i) ≡ of₁ some int (line f t (i + 1))
  unfolding low_bound
  low-yes e = either-yes t i f ":" (of₁ some int) (give none) e

  low-not : mark_at t i 58 ≡ false → low_bound (line f t i) ≡ some (none, line f t i)
  unfolding low_bound give
  low-not e = either-not t i f ":" (of₁ some int) (give none) e

  pub bounds-no-high : int (line f t i) ≡ none → bounds_behind (line f t i) ≡ none
  unfolding bounds_behind closed_by of₂ after
  bounds-no-high e = rw e

module _ (f t : List ℕ) (i : ℕ) (h : ℤ) (e : int (line f t i) ≡ some (h, line f t (i + 1))) where
  no-low : low_bound (line f t (i + 1)) ≡ none → bounds_behind (line f t i) ≡ none
  unfolding bounds_behind closed_by of₂ of₁ after
  no-low g = rw (e, g)

  with-low : (l : Option ℤ) (n : ℕ) → low_bound (line f t (i + 1)) ≡ some (l, line f t n) → bounds_behind (line f t i) ≡ either (is_mark "]") (give (h, l)) nowhere (line f t n)
  unfolding bounds_behind closed_by of₂ of₁ after give
  with-low l n g = rw (e, g)

  closed : (l : Option ℤ) (n m : ℕ) → low_bound (line f t (i + 1)) ≡ some (l, line f t n) → mark_at t n 93 ≡ true → m ≡ n + 1 → bounds_behind (line f t i) ≡ some ((h, l), line f t m)
  unfolding give
  closed l n m g c q = with-low l n g ∙ either-yes t n f "]" (give (h, l)) nowhere c ∙ ap (λ (k : ℕ). some ((h, l), line f t k)) (sym q)

  unclosed : (l : Option ℤ) (n : ℕ) → low_bound (line f t (i + 1)) ≡ some (l, line f t n) → mark_at t n 93 ≡ false → bounds_behind (line f t i) ≡ none
  unfolding nowhere
  unclosed l n g c = with-low l n g ∙ either-not t n f "]" (give (h, l)) nowhere c

  pub bounds-one : mark_at t (i + 1) 93 ≡ true → bounds_behind (line f t i) ≡ some ((h, none), line f t (i + 2))
  bounds-one m = closed none (i + 1) (i + 2) (low-not f t (i + 1) (mark-other t (i + 1) 93 58 m (λ z. omega arith))) m (omega arith)

  pub bounds-open : mark_at t (i + 1) 93 ≡ false → mark_at t (i + 1) 58 ≡ false → bounds_behind (line f t i) ≡ none
  bounds-open m c = unclosed none (i + 1) (low-not f t (i + 1) c) m

  module _ (c : mark_at t (i + 1) 58 ≡ true) where
    low-is : low_bound (line f t (i + 1)) ≡ of₁ some int (line f t (i + 2))
    low-is = low-yes f t (i + 1) c ∙ ap (λ (k : ℕ). of₁ some int (line f t k)) (omega arith)

    pub bounds-no-low : int (line f t (i + 2)) ≡ none → bounds_behind (line f t i) ≡ none
    unfolding of₁ after
    bounds-no-low g = no-low (low-is ∙ rw g)

    module _ (l : ℤ) (g : int (line f t (i + 2)) ≡ some (l, line f t (i + 2 + 1))) where
      low-given : low_bound (line f t (i + 1)) ≡ some (some l, line f t (i + 3))
      unfolding of₁ after give
      low-given = low-is ∙ rw g (ap (λ (k : ℕ). some (some l, line f t k)) (omega arith))

      pub bounds-unclosed : mark_at t (i + 3) 93 ≡ false → bounds_behind (line f t i) ≡ none
      bounds-unclosed m = unclosed (some l) (i + 3) low-given m

      pub bounds-two : mark_at t (i + 3) 93 ≡ true → bounds_behind (line f t i) ≡ some ((h, some l), line f t (i + 4))
      bounds-two m = closed (some l) (i + 3) (i + 4) low-given m (omega arith)

-- ---- slices behind a signal

module _ (f t : List ℕ) (i : ℕ) (s : Sig) (bs : List (ℤ × Option ℤ)) where
  pub slices-end : (k : ℕ) → mark_at t i 91 ≡ false → sliced_on s k bs (line f t i) ≡ some (sliced s bs, line f t i)
  unfolding sliced_on of₁ after give
  slices-end k e = rw (repeat-not t i f "[" bounds bs k e)

  module _ (k : ℕ) (e : mark_at t i 91 ≡ true) where
    bounds-are : bounds (line f t i) ≡ bounds_behind (line f t (i + 1))
    unfolding bounds bounds_behind
    bounds-are = either-yes t i f "[" _ nowhere e

    pub slices-none : bounds_behind (line f t (i + 1)) ≡ none → sliced_on s (suc k) bs (line f t i) ≡ none
    unfolding sliced_on of₁ after
    slices-none g = rw (repeat-yes t i f "[" bounds bs k e, bounds-are, g)

    pub slices-next : (b : ℤ × Option ℤ) (n : ℕ) → bounds_behind (line f t (i + 1)) ≡ some (b, line f t n) → sliced_on s (suc k) bs (line f t i) ≡ sliced_on s k (b ∷ bs) (line f t n)
    unfolding sliced_on of₁ after
    slices-next b n g = rw (repeat-yes t i f "[" bounds bs k e, bounds-are, g)

-- a signal, and the slices behind it
module _ (p : Parse Sig) (ts : List rules.Token) where
  pub with-slices : (s : Sig) (us : List rules.Token) → p ts ≡ some (s, us) → with_slices p ts ≡ sliced_on s (length us) [] us
  unfolding with_slices of₂ after several sliced_on of₁
  with-slices s us e = rw e

  pub no-slices : p ts ≡ none → with_slices p ts ≡ none
  unfolding with_slices of₂ after
  no-slices e = rw e

-- ---- the members of a bundle

pub members-start : (p : Parse Sig) (ts : List rules.Token) → members p ts ≡ members_on p (length ts) [] ts
unfolding members members_on closed_by of₁ several
members-start p ts = refl

module _ (f t : List ℕ) (i : ℕ) (p : Parse Sig) (ss : List Sig) where
  pub members-closed : (k : ℕ) → mark_at t i 125 ≡ true → members_on p k ss (line f t i) ≡ some (bundle (sigs ss), line f t (i + 1))
  unfolding members_on closed_by of₁ after give
  members-closed k e = rw (until-yes t i f "}" p ss k e) (either-yes t i f "}" (give (bundle (sigs ss))) nowhere e)

  module _ (e : mark_at t i 125 ≡ false) where
    pub members-next : (k : ℕ) (s : Sig) (n : ℕ) → i < length t / 4 → p (line f t i) ≡ some (s, line f t n) → members_on p (suc k) ss (line f t i) ≡ members_on p k (s ∷ ss) (line f t n)
    unfolding members_on closed_by of₁ after
    members-next k s n h g = rw (until-not t i f "}" p ss k e h, g)

    members-stop : (k : ℕ) → i < length t / 4 → p (line f t i) ≡ none → members_on p (suc k) ss (line f t i) ≡ none
    unfolding members_on closed_by of₁ after
    members-stop k h g = rw (until-not t i f "}" p ss k e h, g)

    members-end : (k : ℕ) → length t / 4 ≤ i → members_on p k ss (line f t i) ≡ none
    unfolding members_on closed_by of₁ after give nowhere
    members-end k h = rw (until_end t i f "}" p ss k h) (either-not t i f "}" (give (bundle (sigs ss))) nowhere e)

    pub members-none : (k : ℕ) → length t / 4 - i ≤ k → p (line f t i) ≡ none → members_on p k ss (line f t i) ≡ none
    members-none zero h g = members-end zero (omega arith)
    members-none (suc k) h g = by_order (length t / 4) i (members-end (suc k)) (λ l. members-stop k l g)

-- ---- a signal whose bundles are at most d deep

-- what stands in front of the slices
unfoldable pub head : ℕ → Parse Sig
head zero ts = atom ts
head (suc k) ts = either (is_mark "{") (members (signal k)) atom ts

pub mark-line : (f t : List ℕ) (i b : ℕ) → mark_at t i b ≡ true → line f t i ≡ rules.mark b ∷ line f t (i + 1)
unfolding mark_at front
mark-line f t i b e = line_read f t i (Mark b) (the-mark b (token_at t i) e)

module _ (f t : List ℕ) (i d : ℕ) where
  signal-is : (k : ℕ) → signal k (line f t i) ≡ with_slices (head k) (line f t i)
  unfolding signal head with_slices of₂
  signal-is zero = refl
  signal-is (suc k) = refl

  pub signal-none : head d (line f t i) ≡ none → signal d (line f t i) ≡ none
  signal-none e = signal-is d ∙ no-slices (head d) (line f t i) e

  pub signal-sliced : (s : Sig) (n : ℕ) → head d (line f t i) ≡ some (s, line f t n) → signal d (line f t i) ≡ sliced_on s (length (line f t n)) [] (line f t n)
  signal-sliced s n e = signal-is d ∙ with-slices (head d) (line f t i) s (line f t n) e

  pub head-deep : d ≡ 0 → mark_at t i 123 ≡ true → head d (line f t i) ≡ none
  unfolding head atom one is_atom
  head-deep q e = rw (q, mark-line f t i 123 e)

  pub head-bundle : (d ≡ 0 → ⊥) → mark_at t i 123 ≡ true → head d (line f t i) ≡ members (signal (d - 1)) (line f t (i + 1))
  unfolding head
  head-bundle h e = ap (λ (k : ℕ). head k (line f t i)) (let q : d ≡ suc (d - 1) = omega (arith, h) in q) ∙ either-yes t i f "{" (members (signal (d - 1))) atom e

  pub head-atom : mark_at t i 123 ≡ false → head d (line f t i) ≡ atom (line f t i)
  unfolding head
  head-atom e = by d
    where
      by : (k : ℕ) → head k (line f t i) ≡ atom (line f t i)
      by zero = refl
      by (suc k) = either-not t i f "{" (members (signal k)) atom e

-- rows that can be read can be read further on
pub readable-on : (f t : List ℕ) (i n : ℕ) → Readable f t i → n ≤ length t / 4 → Readable f t n
readable-on f t i n R h = record { file = R.file; rows = R.rows; here = h; closed = R.closed }
