-- The answers of each kind of token.
-- Assumes nothing.
use mathlib.Core.Path.{◌≡◌, refl, sym, ap, ◌∙◌}
use mathlib.Core.Bool.{Bool, true, false}
use mathlib.Core.List.{List, [], ◌∷◌}
use Prim.Native.Nat.{ℕ, suc, ◌+◌, ◌-◌, ◌≤◌, ◌<◌}
use native.Mathlib.Numerals.{add-one}
use native.Mathlib.Omega.{arith}
use lib.IntN.{pos, neg_ℤ}
use lib.ListN.{length, get_or, take, drop, drop_of_length-le}
use lib.Seq.{slice, slice_empty, length-slice, drop-cons}
use mir.Syntax.{w8}
use mir.Val.{Fits}
use borrow.Author.Tests.{lt-ltb, le-ltb, eq-eqb, ne_eqb}
use Rattle.std.specs.Prelude.{Option, Some, None, Result, Ok, Err, ok_or}
use Rattle.rules.specs.Bytes.{within, run, legal, is_name_start, is_name_byte}
use Rattle.rules.specs.Tokens as rules
use Rattle.numbers.specs.Signed.{integer_of}
use Rattle.scanner.specs.Class.{class_of, in_class}
use Rattle.scanner.specs.Runs.{end_of}
use Rattle.scanner.specs.Words.{keyword_number, keyword_at}
use Rattle.lists.specs.Bytes.{within-yes, within-below, within-above, run_more}
use Rattle.scanner.proofs.ClassLaws.{class-value-digit, class-parting, class-name-start, class-name-byte}
use Rattle.names.proofs.NameLaws.{legal-run}
use Rattle.scanner.proofs.RunLaws.{end_of-low, end_of-high, end_of-slice, end_of-rest}
use Rattle.scanner.proofs.WordLaws.{keyword-number, keyword-back}
use Rattle.lists.specs.Parts.{slice-part}
use Rattle.strings.specs.Decoded.{CloseIs}
use Rattle.strings.proofs.StringLaws.{close-broken, close-closed}
use Rattle.tokens.specs.Rows.{front, token_in, literal_in, integer_in}
use Rattle.tokens.specs.declared.ConstantSpan.TheVariants as constant
use Rattle.tokens.specs.declared.Token.{Token}
use Rattle.tokens.specs.declared.Token.TheVariants as token
use Rattle.lexer.specs.Lexemes.{Held, Lies, step_of, Steps, StepIs, Starts}
use Rattle.lexer.specs.declared.Lexeme.{Lexeme}
use Rattle.lexer.specs.declared.BadToken.{BadToken}
use Rattle.lexer.proofs.ByClass.{step-blanks, not-blank, at_name, at-word, at-number, at-minus, at-string, at_mark, at-hash, at_other, past, started}

-- the answer of one step is that of another that is the same
pub steps-by : (s : List ℕ) (at : ℕ) (x y : rules.Step) (r : Result (Option Lexeme) BadToken) → x ≡ y → Steps s at y r → Steps s at x r
steps-by s at x y r e q = record { is = e ∙ q.is; lies = q.lies }

pub wrong-at : (s : List ℕ) (p : ℕ) (x : rules.Step) → p < length s → x ≡ rules.wrong (drop p s) → Steps s p x (Err (record { at = p }))
unfolding step_of
wrong-at s p x h e = record { is = e; lies = omega arith }

-- a run of bytes from a place on ends inside the bytes
pub ends : (lo hi : ℕ) (s : List ℕ) (p e : ℕ) → e ≡ end_of (in_class lo hi) s p → p ≤ length s → (p ≤ e) × (e ≤ length s)
ends lo hi s p e q h = omega (arith, end_of-low (in_class lo hi) s p, end_of-high (in_class lo hi) s p h)

-- a run from a byte that it takes ends behind that byte
pub ends-past : (s : List ℕ) (p lo hi a b e : ℕ) → Starts s p lo hi → a ≤ lo → hi ≤ b → e ≡ end_of (in_class a b) s p → (p < e) × (e ≤ length s)
ends-past s p lo hi a b e c h k q =
    omega (arith, past s p c.inside (in_class a b) (started s p lo hi c a b h k), end_of-high (in_class a b) s p (omega (arith, c.inside)))

-- a byte of a slice
pub byte_small : (b : ℕ) → Fits w8 b → b < 256
byte_small b h = omega arith

-- ---- what parts a token from the next

module _ (s : List ℕ) (at : ℕ) where
  pub parted-end : length s ≤ at → rules.parted (drop at s) ≡ true
  unfolding rules.parted
  parted-end h = rw (drop_of_length-le s h)

  pub parted-at : at < length s → rules.parted (drop at s) ≡ in_class 3 5 (get_or s at 0)
  unfolding rules.parted
  parted-at h = rw (drop-cons s at 0) (ap (λ (f : ℕ → Bool). f (get_or s at 0)) class-parting)

module _ (s : List ℕ) (p : ℕ) (t : Token) (e : ℕ) (r : Bool) (q : r ≡ rules.parted (drop e s)) (h : (p < e) × (e ≤ length s) × Held s t) where
  pub separate-token : r ≡ true → Steps s p (rules.separate (drop p s) (token_in s t) (drop e s)) (Ok (Some (record { token = t; next = e })))
  unfolding rules.separate step_of
  separate-token x = record { is = rw (← q, x); lies = h }

  pub separate-wrong : r ≡ false → Steps s p (rules.separate (drop p s) (token_in s t) (drop e s)) (Err (record { at = p }))
  unfolding rules.separate
  separate-wrong x = wrong-at s p _ (omega (arith, h.0, h.1)) (rw (← q, x))

-- ---- blanks

lies-on : (s : List ℕ) (at p : ℕ) → at ≤ p → (r : Result (Option Lexeme) BadToken) → Lies s p r → Lies s at r
lies-on s at p h (Ok (Some l)) q = (omega (arith, q.0), q.1, q.2)
lies-on s at p h (Ok None) q = tt
lies-on s at p h (Err b) q = (omega (arith, q.0), q.1)

module _ (s : List ℕ) (at p : ℕ) (e : p ≡ end_of (in_class 3 3) s at) where
  -- what stands behind the blanks
  pub blanks-then : (r : Result (Option Lexeme) BadToken) → StepIs s p r → StepIs s at r
  blanks-then r q =
      record {
        is = step-blanks s at ∙ ap (λ (k : ℕ). rules.step (drop k s)) (sym e) ∙ q.is;
        lies = lies-on s at p (omega (arith, end_of-low (in_class 3 3) s at)) r q.lies;
      }

  pub step_end : length s ≤ p → StepIs s at (Ok None)
  unfolding step_of rules.step
  step_end h = blanks-then (Ok None) (record { is = rw (drop_of_length-le s h); lies = tt })

  module _ (h : p < length s) (k : ℕ) (c : k ≡ class_of (get_or s p 0)) where
    pub step-mark : k ≡ 4 → get_or s p 0 < 256 → StepIs s at (Ok (Some (record { token = token.Mark (get_or s p 0); next = p + 1 })))
    unfolding step_of token_in front
    step-mark x b = blanks-then _ (record { is = at_mark s p h k c x; lies = (omega arith, omega arith, b) })

    pub step-hash : k ≡ 5 → StepIs s at (Ok None)
    unfolding step_of
    step-hash x = blanks-then (Ok None) (record { is = at-hash s p h k c x; lies = tt })

    pub step_other : k < 7 → (k ≡ 4 → ⊥) → (k ≡ 5 → ⊥) → StepIs s at (Err (record { at = p }))
    step_other l m o = blanks-then (Err (record { at = p })) (wrong-at s p _ h (at_other s p h k c (not-blank s at p e h) l m o))

    pub starts : (lo hi : ℕ) → lo ≤ k → k ≤ hi → Starts s p lo hi
    starts lo hi l m = record { inside = h; low = omega arith; high = omega arith }

-- ---- each kind of token

module _ (s : List ℕ) (p e : ℕ) where
  module _ (c : Starts s p 7 7) (q : e ≡ end_of (in_class 4 14) s p) where
    name-run : slice p e s ≡ get_or s p 0 ∷ run is_name_byte (drop (suc p) s)
    name-run =
        rw (q, end_of-slice (in_class 4 14) s p, drop-cons s p 0 c.inside, run_more (in_class 4 14) (get_or s p 0) (drop (suc p) s) (started s p 7 7 c 4 14 (omega arith) (omega arith)), class-name-byte)

    name-legal : legal (slice p e s) ≡ within 2 255 (e - p)
    name-legal =
        let b = ends-past s p 7 7 4 14 e c (omega arith) (omega arith) q in
        let l : is_name_start (get_or s p 0) ≡ true = ap (λ (f : ℕ → Bool). f (get_or s p 0)) class-name-start ∙ started s p 7 7 c 7 7 (omega arith) (omega arith) in
        rw (← length-slice p e s b.1, name-run) (legal-run (get_or s p 0) (drop (suc p) s) l)

    pub name-token : 2 ≤ e - p → e - p ≤ 255 → StepIs s p (Ok (Some (record { token = token.Name p e; next = e })))
    unfolding rules.name_step step_of token_in front
    name-token h k =
        let b = ends-past s p 7 7 4 14 e c (omega arith) (omega arith) q in
        let t : legal (slice p e s) ≡ true = name-legal ∙ within-yes 2 255 (e - p) h k in
        record { is = at_name s p c e q ∙ rw t; lies = (b.0, b.1, (omega (arith, b.0), b.1, t)) }

    pub name-few : e - p < 2 → StepIs s p (Err (record { at = p }))
    unfolding rules.name_step
    name-few h = wrong-at s p _ c.inside (at_name s p c e q ∙ rw (name-legal, within-below 2 255 (e - p) h))

    pub name-many : 255 < e - p → StepIs s p (Err (record { at = p }))
    unfolding rules.name_step
    name-many h = wrong-at s p _ c.inside (at_name s p c e q ∙ rw (name-legal, within-above 2 255 (e - p) h))

  module _ (c : Starts s p 13 14) (q : e ≡ end_of (in_class 13 14) s p) (k : ℕ) (n : k ≡ keyword_number (take (e - p) (drop p s))) where
    number : keyword_number (slice p e s) ≡ k
    number = ap keyword_number (slice-part p e s) ∙ sym n

    pub word-token : k < 32 → rules.step (drop p s) ≡ rules.separate (drop p s) (token_in s (token.Word k)) (drop e s)
    unfolding rules.word_step token_in front
    word-token h =
        let is : rules.is_keyword (slice p e s) ≡ true = keyword-number (slice p e s) ∙ rw number (lt-ltb k 32 h) in
        let back : keyword_at k ≡ slice p e s = ap keyword_at (sym number) ∙ keyword-back (slice p e s) is in
        at-word s p c e q ∙ rw (is, back)

    pub word-wrong : 32 ≤ k → StepIs s p (Err (record { at = p }))
    unfolding rules.word_step
    word-wrong h = wrong-at s p _ c.inside (at-word s p c e q ∙ rw (keyword-number (slice p e s), number, le-ltb k 32 h))

  pub value-token : (w : ℕ) → e ≡ end_of (in_class 11 13) s (w + 1) → rules.value_step (drop p s) (rules.decimal (slice p w s)) (drop (w + 1) s) ≡ rules.separate (drop p s) (token_in s (token.Constant (constant.Value p w e))) (drop e s)
  unfolding rules.value_step token_in front literal_in
  value-token w q = rw (class-value-digit, q, end_of-slice (in_class 11 13) s (w + 1), end_of-rest (in_class 11 13) s (w + 1))

  abbrev pub digits : Bool → ℕ → Token
  digits n d = token.Constant (constant.Integer (record { negative = n; start = d; end = e }))

  integer-token : rules.integer_step (drop p s) (rules.decimal (slice p e s)) (drop e s) ≡ rules.separate (drop p s) (token_in s (digits false p)) (drop e s)
  unfolding rules.integer_step token_in front literal_in integer_in integer_of
  integer-token = refl

  module _ (c : Starts s p 9 11) (q : e ≡ end_of (in_class 9 11) s p) where
    pub number-end : length s ≤ e → rules.step (drop p s) ≡ rules.separate (drop p s) (token_in s (digits false p)) (drop e s)
    unfolding rules.number_step
    number-end h = at-number s p c e q ∙ rw (drop_of_length-le s h) (rw (drop_of_length-le s h) at integer-token)

    pub number-value : e < length s → get_or s e 0 ≡ 39 → rules.step (drop p s) ≡ rules.value_step (drop p s) (rules.decimal (slice p e s)) (drop (e + 1) s)
    unfolding rules.number_step
    number-value h b = at-number s p c e q ∙ rw (drop-cons s e 0, add-one, eq-eqb (get_or s e 0) 39 b)

    pub number-integer : e < length s → (get_or s e 0 ≡ 39 → ⊥) → rules.step (drop p s) ≡ rules.separate (drop p s) (token_in s (digits false p)) (drop e s)
    unfolding rules.number_step
    number-integer h b = at-number s p c e q ∙ rw (drop-cons s e 0, ne_eqb (get_or s e 0) 39 b) (rw (drop-cons s e 0 h) at integer-token)

  minus-digits : (w : List ℕ) → 0 < length w → rules.minus_step (drop p s) w (drop e s) ≡ rules.separate (drop p s) (rules.literal (rules.integer (neg_ℤ (pos (rules.decimal w))))) (drop e s)
  unfolding rules.minus_step
  minus-digits [] h = absurd (omega arith)
  minus-digits (x ∷ xs) h = refl

  module _ (c : Starts s p 12 12) (q : e ≡ end_of (in_class 9 11) s (p + 1)) where
    pub minus-token : p + 1 < e → rules.step (drop p s) ≡ rules.separate (drop p s) (token_in s (digits true (p + 1))) (drop e s)
    unfolding token_in front literal_in integer_in integer_of
    minus-token h =
        let b = ends 9 11 s (p + 1) e q (omega (arith, c.inside)) in
        at-minus s p c e q ∙ minus-digits (slice (p + 1) e s) (rw (length-slice (p + 1) e s b.1) (omega arith))

    pub minus-wrong : e ≤ p + 1 → StepIs s p (Err (record { at = p }))
    unfolding rules.minus_step
    minus-wrong h =
        let b = ends 9 11 s (p + 1) e q (omega (arith, c.inside)) in
        let z : slice (p + 1) e s ≡ [] = let y : p + 1 ≡ e = omega (arith, b.0) in rw y (slice_empty e s) in
        wrong-at s p _ c.inside (at-minus s p c e q ∙ rw z)

module _ (s : List ℕ) (p : ℕ) (c : Starts s p 8 8) (r : Option ℕ) (q : CloseIs s (p + 1) r) where
  pub string-token : (e : ℕ) → r ≡ Some e → rules.step (drop p s) ≡ rules.separate (drop p s) (token_in s (token.Constant (constant.Text (p + 1)))) (drop e s)
  unfolding rules.string_step token_in front literal_in
  string-token e x = at-string s p c ∙ rw (close-closed s (p + 1) r q e x)

  string-broken : r ≡ None → StepIs s p (Err (record { at = p }))
  unfolding rules.string_step
  string-broken x = wrong-at s p _ c.inside (at-string s p c ∙ rw (close-broken s (p + 1) r q x))

  pub string-wrong : (b : BadToken) → r ≡ None → Err b ≡ ok_or r (record { at = p }) → StepIs s p (Err b)
  string-wrong b x e =
      let k : ◌≡◌ {A = Result ℕ BadToken} (Err b) (Err (record { at = p })) = rw x at e in
      let j : b ≡ record { at = p } = cc in
      rw j (string-broken x)
