-- Where a line ends, and what its first word announces.
-- Assumes nothing.
use mathlib.Core.Path.{◌≡◌, refl, sym, ◌∙◌}
use mathlib.Core.Bool.{Bool, true, false, cond, false≢true}
use mathlib.Core.List.{List, [], ◌∷◌, ◌++◌}
use mathlib.Core.Option.{Option, none, some}
use Prim.Native.Nat.{ℕ, ◌+◌, ◌/◌, ◌<◌, ◌≤◌}
use Prim.Native.String.{String}
use native.Mathlib.Omega.{arith}
use lib.Dec.{eqb, ltb}
use lib.ListN.{length, drop}
use borrow.Author.Tests.{ltb-true, eq-eqb, ne_eqb}
use Rattle.rules.specs.Limits.{most_switches}
use Rattle.rules.specs.Bytes.{bytes, same, any}
use Rattle.rules.specs.Tokens as rules
use Rattle.rules.specs.Statements.{Shape, Sort}
use Rattle.rules.specs.Shapes.{Parse, is_word, give, one, of₁, either, choice, or_end, sort, Scope, top, in_module, in_cell, in_process, in_tail, in_sync, in_switch, in_case, Context, autoidx_form, attribute_form, top_forms, object_forms, body_forms, cell_forms, end_form, assign_form, switch_form, case_form, update_form, sync_forms, sync_form, nested_forms, forms, whole_by, whole, shape}
use Rattle.rules.specs.Shapes as shapes
use Rattle.scanner.specs.Words.{keyword_number, keyword_at, place_in}
use Rattle.lists.specs.Tests.{and-true-left, and-true-right}
use Rattle.scanner.proofs.WordLaws.{keyword-back, keyword-number}
use Rattle.tokens.specs.Rows.{front, line}
use Rattle.tokens.specs.declared.Token.{Token}
use Rattle.tokens.specs.declared.Token.TheVariants as row
use Rattle.tokens.specs.Parts.{IdIs, IntegerIs, id_gives, integer_gives}
use Rattle.tokens.specs.declared.Integer.{Integer}
use Rattle.std.specs.Prelude.{Option as Optional, Some, None, MatchOption, IsSomeAnd, IfSome}
use Rattle.scanner.specs.declared.parts.Span.{Span}
use Rattle.tokens.proofs.TokenLaws.{line-end, line-there, line_row, by-line}
use Rattle.tokens.proofs.Words.{word-is}
use Rattle.line_forms.specs.Words.{starts, WordIs, announced, numbered}
use Rattle.line_forms.specs.Forms.{ended, form_of, kind_of, cell_kind_of, shape_of, FormFrom, KindFrom, CellKindFrom}
use Rattle.line_forms.specs.declared.Form.{Form}
use Rattle.line_forms.specs.declared.Kind.{Kind}
use Rattle.line_forms.specs.declared.Kind.TheVariants as kinds
use Rattle.line_forms.specs.declared.CellKind.{CellKind}
use Rattle.line_forms.specs.declared.CellKind.TheVariants as cell_kinds

-- ---- rows that are there, and rows that are left

-- a row stands where its token gave something
given_below : {A : Type 0} (g : rules.Token → Option A) (f t : List ℕ) (i : ℕ) (x : A × List rules.Token) → one g (line f t i) ≡ some x → i < length t / 4
unfolding one
given_below g f t i x e = line-there f t i (λ b. let q : one g (line f t i) ≡ none = rw b in let z : ◌≡◌ {A = ℕ} 0 1 = cc in omega arith)

pub id_below : (t : List ℕ) (i : ℕ) (s : Span) (r : Optional Span) → IdIs t i r → r ≡ Some s → i < length t / 4
unfolding shapes.id id_gives
id_below t i s r h e = given_below shapes.is_id [] t i _ (rw e at (h []))

pub integer-below : (t : List ℕ) (i : ℕ) (z : Integer) (r : Optional Integer) → IntegerIs t i r → r ≡ Some z → i < length t / 4
unfolding shapes.int integer_gives
integer-below t i z r h e = given_below shapes.is_integer [] t i _ (rw e at (h []))

ended-more : (o : Option Shape) (x : rules.Token) (ts : List rules.Token) → ended o (x ∷ ts) ≡ none
unfolding ended whole_by
ended-more none x ts = refl
ended-more (some s) x ts = refl

ended-none : (o : Option Shape) → ended o [] ≡ o
unfolding ended whole_by
ended-none none = refl
ended-none (some s) = refl

-- where rows are left a line has no shape; where none is left it has
pub rows_left : (o : Option Shape) (f t : List ℕ) (i : ℕ) → i < length t / 4 → ended o (line f t i) ≡ none
rows_left o f t i h = rw (line_row f t i h) (ended-more o _ _)

pub no_rows : (o : Option Shape) (f t : List ℕ) (i : ℕ) → length t / 4 ≤ i → ended o (line f t i) ≡ o
no_rows o f t i h = rw (line-end f t i h) (ended-none o)

-- ---- the first word

-- a keyword by its number
pub word_number : (w : String) (c : ℕ) → rules.is_keyword (bytes w) ≡ true → is_word w (rules.word (keyword_at c)) ≡ eqb c (keyword_number (bytes w))
word_number w c h = word-is w c (keyword_number (bytes w)) (sym (keyword-back (bytes w) h)) (ltb-true _ _ (sym (keyword-number (bytes w)) ∙ h))

-- 32 is no keyword's number
pub no_number : (w : String) → rules.is_keyword (bytes w) ≡ true → false ≡ eqb 32 (keyword_number (bytes w))
no_number w h =
    let k : keyword_number (bytes w) < 32 = ltb-true _ _ (sym (keyword-number (bytes w)) ∙ h) in
    sym (ne_eqb 32 (keyword_number (bytes w)) (λ e. omega arith))

pub other_number : (f : List ℕ) (x : Token) (w : String) (ts : List rules.Token) → rules.is_keyword (bytes w) ≡ true → ((c : ℕ) → x ≡ row.Word c → ⊥) → starts w (front f x ts) ≡ eqb 32 (keyword_number (bytes w))
unfolding front starts is_word
other_number f (row.Name a b) w ts h n = no_number w h
other_number f (row.Word c) w ts h n = absurd (n c refl)
other_number f (row.Constant c) w ts h n = no_number w h
other_number f (row.Mark b) w ts h n = no_number w h
other_number f row.End w ts h n = no_number w h

-- a row stands where a keyword does
pub word_below : (w : String) (t : List ℕ) (i c : ℕ) → WordIs t i c → rules.is_keyword (bytes w) ≡ true → c ≡ keyword_number (bytes w) → i < length t / 4
unfolding starts
word_below w t i c h k e =
    let s : starts w (line [] t i) ≡ true = h [] w k ∙ eq-eqb c _ e in
    line-there [] t i (λ b. let q : starts w (line [] t i) ≡ false = rw b in false≢true (sym q ∙ s))

either-starts : {A : Type 0} (w : String) (p q : Parse A) (ts : List rules.Token) → either (is_word w) p q ts ≡ cond (starts w ts) (p (drop 1 ts)) (q ts)
unfolding either starts
either-starts w p q [] = refl
either-starts w p q (t ∷ ts) = refl

line-drop : (f t : List ℕ) (i : ℕ) → drop 1 (line f t i) ≡ line f t (i + 1)
line-drop f t i = by-line f t i (λ ts. drop 1 ts ≡ line f t (i + 1)) (λ h. sym (line-end f t (i + 1) (omega arith))) (λ h. refl)

-- the row of a keyword in front of a choice of two
pub either-word : {A : Type 0} (w : String) (p q : Parse A) (f t : List ℕ) (i c : ℕ) → WordIs t i c → rules.is_keyword (bytes w) ≡ true → either (is_word w) p q (line f t i) ≡ cond (eqb c (keyword_number (bytes w))) (p (line f t (i + 1))) (q (line f t i))
either-word w p q f t i c h k = either-starts w p q (line f t i) ∙ rw (h f w k, line-drop f t i)

-- the row of a keyword in front of a choice of forms
pub choice-word : (ps : List shapes.Form) (f t : List ℕ) (i c : ℕ) → numbered ps ≡ true → WordIs t i c → choice ps (line f t i) ≡ announced ps c (line f t (i + 1))
unfolding choice announced numbered
choice-word [] f t i c k h = refl
choice-word (p ∷ ps) f t i c k h =
    either-word p.0 p.1 (choice ps) f t i c h (and-true-left _ _ k)
    ∙ rw (choice-word ps f t i c (and-true-right (rules.is_keyword (bytes p.0)) _ k) h)

-- ---- where the first word leads

unfoldable pub words_open : Unit {0}
unfolding announced numbered rules.is_keyword rules.keywords keyword_number place_in same any forms top_forms autoidx_form attribute_form object_forms body_forms cell_forms end_form assign_form switch_form case_form update_form sync_forms sync_form nested_forms
words_open = tt

-- the forms in a case, by whether one switch more may be opened
unfoldable pub forms_in_case : (deeper attributed : Bool) → List shapes.Form
forms_in_case deeper attributed =
    let nested = cond deeper (attribute_form ∷ switch_form ∷ case_form ∷ []) (attribute_form ∷ case_form ∷ []) in
    cond attributed nested (nested ++ assign_form ∷ end_form ∷ [])

case-numbered : (deeper attributed : Bool) → numbered (forms_in_case deeper attributed) ≡ true
unfolding words_open forms_in_case
case-numbered true true = refl
case-numbered true false = refl
case-numbered false true = refl
case-numbered false false = refl

forms-numbered : (s : Scope) (first attributed : Bool) → numbered (forms s first attributed) ≡ true
unfolding words_open forms_in_case
forms-numbered top true attributed = refl
forms-numbered top false attributed = refl
forms-numbered in_module first true = refl
forms-numbered in_module first false = refl
forms-numbered in_cell first attributed = refl
forms-numbered in_process first true = refl
forms-numbered in_process first false = refl
forms-numbered in_tail first attributed = refl
forms-numbered in_sync first attributed = refl
forms-numbered (in_switch k) first true = refl
forms-numbered (in_switch k) first false = refl
forms-numbered (in_case k) first attributed = case-numbered (ltb (k + 1) most_switches) attributed

-- a line whose row 0 holds a keyword
pub shape-word : (x : Context) (f t : List ℕ) (c : ℕ) → WordIs t 0 c → shape x (line f t 0) ≡ whole (announced (forms x.scope x.first x.attributed) c (line f t 1))
unfolding shape
shape-word x f t c h = rw (choice-word (forms x.scope x.first x.attributed) f t 0 c (forms-numbered x.scope x.first x.attributed) h)

-- only `autoidx` asks whether the line is the first statement
pub top-word : (first attributed : Bool) (c : ℕ) (ts : List rules.Token) → (c ≡ 0 → ⊥) → announced (forms top first attributed) c ts ≡ announced top_forms c ts
unfolding words_open
top-word true attributed c ts h = rw (ne_eqb c 0 h)
top-word false attributed c ts h = refl

pub no-form : whole none ≡ none
unfolding whole
no-form = refl

-- (signed | real)?
pub sort-word : (f t : List ℕ) (i c : ℕ) → WordIs t i c → sort (line f t i) ≡ cond (eqb c 13) (some (Sort.signed, line f t (i + 1))) (cond (eqb c 17) (some (Sort.real, line f t (i + 1))) (some (Sort.plain, line f t i)))
unfolding sort give words_open
sort-word f t i c h = rw (either-word "signed" _ _ f t i c h refl, either-word "real" _ _ f t i c h refl)

-- a thing that may be left out
pub present-thing : {A : Type 0} (p : Parse A) (f t : List ℕ) (i : ℕ) → i < length t / 4 → or_end p (line f t i) ≡ of₁ some p (line f t i)
unfolding or_end
present-thing p f t i h = rw (line_row f t i h)

-- ---- a form that is read, as a kind of line

module _ {K : Type 0} (t : List ℕ) (make : Form → K) (kind : List ℕ → K → Option Shape) (Holds : K → Type 0) (same : (f : List ℕ) (x : Form) → kind f (make x) ≡ form_of f x) (held : (x : Form) → FormFrom t x → Holds (make x)) where
  pub mapped :
      (o : Optional Form) (r : Optional K) → MatchOption o (r ≡ None) (λ x. IsSomeAnd r (λ y. y ≡ make x)) →
      (P : List ℕ → Option Shape) → ((f : List ℕ) → P f ≡ shape_of (form_of f) o) → IfSome o (FormFrom t) → ((f : List ℕ) → P f ≡ shape_of (kind f) r) × IfSome r Holds
  mapped None r e P p h = rw e (p, tt)
  mapped (Some x) None e P p h = absurd e
  mapped (Some x) (Some y) e P p h = rw e (λ f. p f ∙ sym (same f x), held x h)

pub form-kind :
    (t : List ℕ) (o : Optional Form) (r : Optional Kind) → MatchOption o (r ≡ None) (λ x. IsSomeAnd r (λ y. y ≡ kinds.Form x)) →
    (P : List ℕ → Option Shape) → ((f : List ℕ) → P f ≡ shape_of (form_of f) o) → IfSome o (FormFrom t) → ((f : List ℕ) → P f ≡ shape_of (kind_of f t) r) × IfSome r (KindFrom t)
unfolding kind_of
form-kind t = mapped t kinds.Form (λ f. kind_of f t) (KindFrom t) (λ f x. refl) (λ x h. h)

pub form-cell_kind :
    (t : List ℕ) (o : Optional Form) (r : Optional CellKind) → MatchOption o (r ≡ None) (λ x. IsSomeAnd r (λ y. y ≡ cell_kinds.Form x)) →
    (P : List ℕ → Option Shape) → ((f : List ℕ) → P f ≡ shape_of (form_of f) o) → IfSome o (FormFrom t) → ((f : List ℕ) → P f ≡ shape_of (cell_kind_of f t) r) × IfSome r (CellKindFrom t)
unfolding cell_kind_of
form-cell_kind t = mapped t cell_kinds.Form (λ f. cell_kind_of f t) (CellKindFrom t) (λ f x. refl) (λ x h. h)
