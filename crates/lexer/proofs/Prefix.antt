-- A token of a line is the same token of the file: what stands behind the line changes nothing.
-- Assumes nothing.
use mathlib.Core.Path.{◌≡◌, refl, sym, ap, ap₂, ◌∙◌}
use mathlib.Core.Bool.{true}
use mathlib.Core.List.{List, [], ◌∷◌, ◌++◌, map}
use Prim.Native.Nat.{ℕ, ◌+◌, ◌≤◌, ◌<◌}
use native.Mathlib.Omega.{arith}
use lib.ListN.{length, take, drop, take-append-drop}
use lib.Seq.{slice, take-take, drop-append-le, length-take-le}
use Rattle.rules.specs.Bytes.{legal}
use Rattle.rules.specs.Tokens as rules
use Rattle.rules.specs.Tokens.{Inside, plain, Turn, goes, ends, breaks, turn, Quoted, closed, broken, quoted_onto, quoted_by, quoted}
use Rattle.numbers.specs.Signed.{integer_of}
use Rattle.strings.specs.Decoded.{bytes_of, is_closed, decoded_by, decoded, closes}
use Rattle.tokens.specs.Rows.{front, token_in, literal_in, integer_in, Small, Present}
use Rattle.tokens.specs.declared.ConstantSpan.TheVariants as constant
use Rattle.tokens.specs.declared.Token.{Token}
use Rattle.tokens.specs.declared.Token.TheVariants as token
use Rattle.lexer.specs.Lexemes.{Held}

-- ---- a string that closes, with bytes m behind it

module _ (m : List ℕ) where
  -- if the first closes, the second closes with the same bytes, and leaves m too
  abbrev Carries : Quoted → Quoted → Type 0
  Carries (closed ds r) q = q ≡ closed ds (r ++ m)
  Carries broken q = Unit {0}

  carries-onto : (bs : List ℕ) (q r : Quoted) → Carries q r → Carries (quoted_onto bs q) (quoted_onto bs r)
  unfolding quoted_onto
  carries-onto bs (closed ds l) r h = rw h
  carries-onto bs broken r h = tt

  carries-by : (l : List ℕ) (g h : Inside → Quoted) → ((j : Inside) → Carries (g j) (h j)) → (t : Turn) → Carries (quoted_by g l t) (quoted_by h (l ++ m) t)
  unfolding quoted_by
  carries-by l g h c (goes bs j) = carries-onto bs (g j) (h j) (c j)
  carries-by l g h c (ends bs) = refl
  carries-by l g h c breaks = tt

  carries : (i : Inside) (l : List ℕ) → Carries (quoted i l) (quoted i (l ++ m))
  unfolding quoted
  carries i [] = tt
  carries i (b ∷ l) = carries-by l (λ j. quoted j l) (λ j. quoted j (l ++ m)) (λ j. carries j l) (turn i b)

  bytes-more : (q r : Quoted) → Carries q r → is_closed q ≡ true → (bytes_of r ≡ bytes_of q) × (is_closed r ≡ true)
  unfolding bytes_of is_closed
  bytes-more (closed ds l) r c h = (rw c, rw c)
  bytes-more broken r c h = let z : ◌≡◌ {A = ℕ} 0 1 = cc in absurd (omega arith)

  pub decoded-more : (l : List ℕ) → closes l ≡ true → (decoded (l ++ m) ≡ decoded l) × (closes (l ++ m) ≡ true)
  unfolding decoded decoded_by closes
  decoded-more l h = bytes-more (quoted plain l) (quoted plain (l ++ m)) (carries plain l) h

-- ---- the first e bytes of a file

module _ (f : List ℕ) (e : ℕ) (h : e ≤ length f) where
  pub length-prefix : length (take e f) ≡ e
  length-prefix = length-take-le e f h

  pub slice-prefix : (a b : ℕ) → b ≤ e → slice a b (take e f) ≡ slice a b f
  slice-prefix a b k = ap (drop a) (take-take b e f k)

  drop-prefix : (a : ℕ) → a ≤ e → drop a (take e f) ++ drop e f ≡ drop a f
  drop-prefix a k = sym (drop-append-le a (take e f) (drop e f) (rw length-prefix k)) ∙ ap (drop a) (take-append-drop e f)

  decoded-prefix : (a : ℕ) → a ≤ e → closes (drop a (take e f)) ≡ true → (decoded (drop a (take e f)) ≡ decoded (drop a f)) × (closes (drop a f) ≡ true)
  decoded-prefix a k c =
      let q = decoded-more (drop e f) (drop a (take e f)) c in
      (sym q.0 ∙ ap decoded (drop-prefix a k), sym (ap closes (drop-prefix a k)) ∙ q.1)

  module _ (b : ℕ) (k : b ≤ length (take e f)) where
    in-prefix : b ≤ e
    in-prefix = omega (arith, length-prefix)

    in-file : b ≤ length f
    in-file = omega (arith, length-prefix)

  -- a token that lies in the prefix lies in the file
  pub held-file : (x : Token) → Held (take e f) x → Held f x
  held-file (token.Name a b) q = (q.0, in-file b q.1, ap legal (sym (slice-prefix a b (in-prefix b q.1))) ∙ q.2)
  held-file (token.Word c) q = q
  held-file (token.Constant (constant.Integer z)) q = (q.0, in-file z.end q.1)
  held-file (token.Constant (constant.Value a b c)) q = (q.0, q.1, in-file c q.2)
  held-file (token.Constant (constant.Text a)) q = (in-file a q.0, (decoded-prefix a (in-prefix a q.0) q.1).1)
  held-file (token.Mark b) q = q
  held-file token.End q = q

  -- and is the same token there
  pub token-file : (x : Token) → Held (take e f) x → token_in (take e f) x ≡ token_in f x
  unfolding token_in front literal_in integer_in
  token-file (token.Name a b) q = ap rules.name (slice-prefix a b (in-prefix b q.1))
  token-file (token.Word c) q = refl
  token-file (token.Constant (constant.Integer z)) q =
      ap (λ (ds : List ℕ). rules.literal (rules.integer (integer_of z.negative (rules.decimal ds)))) (slice-prefix z.start z.end (in-prefix z.end q.1))
  token-file (token.Constant (constant.Value a b c)) q =
      let k : c ≤ e = in-prefix c q.2 in
      ap₂ (λ (ds es : List ℕ). rules.literal (rules.value (rules.decimal ds) (map rules.digit es))) (slice-prefix a b (omega (arith, q.1))) (slice-prefix (b + 1) c k)
  token-file (token.Constant (constant.Text a)) q =
      ap (λ (ds : List ℕ). rules.literal (rules.string ds)) (decoded-prefix a (in-prefix a q.0) q.1).0
  token-file (token.Mark b) q = refl
  token-file token.End q = refl

-- ---- what a token that lies in bytes has

pub held_small : (s : List ℕ) (x : Token) → length s < 4294967296 → Held s x → Small x
held_small s (token.Name a b) h q = omega (arith, q.0, q.1)
held_small s (token.Word c) h q = omega (arith, q)
held_small s (token.Constant (constant.Integer z)) h q = omega (arith, q.0, q.1)
held_small s (token.Constant (constant.Value a b c)) h q = omega (arith, q.0, q.1, q.2)
held_small s (token.Constant (constant.Text a)) h q = omega (arith, q.0)
held_small s (token.Mark b) h q = omega (arith, q)
held_small s token.End h q = tt

pub held-present : (s : List ℕ) (x : Token) → Held s x → Present x
held-present s (token.Name a b) q = tt
held-present s (token.Word c) q = tt
held-present s (token.Constant c) q = tt
held-present s (token.Mark b) q = tt
held-present s token.End q = q
