-- What holds of each form of a statement holds of every statement; a statement declares a wire or none, and is of one kind; what stands in a
-- translated one.
-- Assumes nothing.
use Rattle.std.specs.Prelude.{◌≡◌, true, false, eqb, ℤ}
use Rattle.std.proofs.Math.Path.{refl}
use mathlib.Core.List.{List, [], ◌∷◌, map, Option-to_list}
use Rattle.std.proofs.lemmas.Bool.{false≢true}
use Rattle.std.proofs.Math.Option.{Option, none, some}
use Rattle.std.proofs.Common.{eqb-true}
use Rattle.rules.specs.Tokens.{Name}
use Rattle.rules.specs.Statements.{Stmt, Sort, Contents, holds, contents, translate, autoidx-stmt, attr-stmt, module-stmt, param-stmt, wire-stmt, memory-stmt, cell-stmt, cell-param-stmt, cell-conn-stmt, conn-stmt, proc-stmt, step-stmt, end-stmt, Step, Statement, Kind, an_attribute, a_wire, code, is, statements_open}

pub by_form :
    {C S W M : Type 0} (P : Stmt C S W M → Type 0) →
    ((i : ℤ) → P (autoidx-stmt i)) → ((n : Name) (c : C) → P (attr-stmt n c)) → ((n : Name) → P (module-stmt n)) → ((n : Name) (c : Option C) → P (param-stmt n c)) →
    ((w : W) (n : Name) → P (wire-stmt w n)) → ((m : M) (n : Name) → P (memory-stmt m n)) → ((t n : Name) → P (cell-stmt t n)) →
    ((o : Sort) (n : Name) (c : C) → P (cell-param-stmt o n c)) → ((n : Name) (x : S) → P (cell-conn-stmt n x)) → ((x y : S) → P (conn-stmt x y)) →
    ((n : Name) → P (proc-stmt n)) → ((p : Step) (xs : List S) → P (step-stmt p xs)) → P end-stmt → (s : Stmt C S W M) → P s
by_form P f₁ f₂ f₃ f₄ f₅ f₆ f₇ f₈ f₉ f₁₀ f₁₁ f₁₂ f₁₃ (autoidx-stmt i) = f₁ i
by_form P f₁ f₂ f₃ f₄ f₅ f₆ f₇ f₈ f₉ f₁₀ f₁₁ f₁₂ f₁₃ (attr-stmt n c) = f₂ n c
by_form P f₁ f₂ f₃ f₄ f₅ f₆ f₇ f₈ f₉ f₁₀ f₁₁ f₁₂ f₁₃ (module-stmt n) = f₃ n
by_form P f₁ f₂ f₃ f₄ f₅ f₆ f₇ f₈ f₉ f₁₀ f₁₁ f₁₂ f₁₃ (param-stmt n c) = f₄ n c
by_form P f₁ f₂ f₃ f₄ f₅ f₆ f₇ f₈ f₉ f₁₀ f₁₁ f₁₂ f₁₃ (wire-stmt w n) = f₅ w n
by_form P f₁ f₂ f₃ f₄ f₅ f₆ f₇ f₈ f₉ f₁₀ f₁₁ f₁₂ f₁₃ (memory-stmt m n) = f₆ m n
by_form P f₁ f₂ f₃ f₄ f₅ f₆ f₇ f₈ f₉ f₁₀ f₁₁ f₁₂ f₁₃ (cell-stmt t n) = f₇ t n
by_form P f₁ f₂ f₃ f₄ f₅ f₆ f₇ f₈ f₉ f₁₀ f₁₁ f₁₂ f₁₃ (cell-param-stmt o n c) = f₈ o n c
by_form P f₁ f₂ f₃ f₄ f₅ f₆ f₇ f₈ f₉ f₁₀ f₁₁ f₁₂ f₁₃ (cell-conn-stmt n x) = f₉ n x
by_form P f₁ f₂ f₃ f₄ f₅ f₆ f₇ f₈ f₉ f₁₀ f₁₁ f₁₂ f₁₃ (conn-stmt x y) = f₁₀ x y
by_form P f₁ f₂ f₃ f₄ f₅ f₆ f₇ f₈ f₉ f₁₀ f₁₁ f₁₂ f₁₃ (proc-stmt n) = f₁₁ n
by_form P f₁ f₂ f₃ f₄ f₅ f₆ f₇ f₈ f₉ f₁₀ f₁₁ f₁₂ f₁₃ (step-stmt p xs) = f₁₂ p xs
by_form P f₁ f₂ f₃ f₄ f₅ f₆ f₇ f₈ f₉ f₁₀ f₁₁ f₁₂ f₁₃ end-stmt = f₁₃

-- a statement declares a wire, or none
pub by-wire :
    {C S W M : Type 0} (P : Stmt C S W M → Type 0) → ((w : W) (n : Name) → P (wire-stmt w n)) →
    ((s : Stmt C S W M) → is a_wire s ≡ false → (contents s).wires ≡ [] → P s) → (s : Stmt C S W M) → P s
unfolding statements_open
by-wire P f g =
    by_form P (λ i. g (autoidx-stmt i) refl refl) (λ n c. g (attr-stmt n c) refl refl) (λ n. g (module-stmt n) refl refl) (λ n c. g (param-stmt n c) refl refl) f
    (λ m n. g (memory-stmt m n) refl refl) (λ t n. g (cell-stmt t n) refl refl) (λ o n c. g (cell-param-stmt o n c) refl refl) (λ n x. g (cell-conn-stmt n x) refl refl)
    (λ x y. g (conn-stmt x y) refl refl) (λ n. g (proc-stmt n) refl refl) (λ p xs. g (step-stmt p xs) refl refl) (g end-stmt refl refl)

-- a statement has a step, or none
pub by-step : {C S W M : Type 0} (P : List Step → Type 0) → P [] → ((p : Step) → P (p ∷ [])) → (s : Stmt C S W M) → P (contents s).steps
unfolding statements_open
by-step P f g =
    by_form (λ s. P (contents s).steps) (λ i. f) (λ n c. f) (λ n. f) (λ n c. f) (λ w n. f) (λ m n. f) (λ t n. f) (λ o n c. f) (λ n x. f) (λ x y. f) (λ n. f) (λ p xs. g p) f

-- a form that a test excludes; an attribute has one form
pub no : {P : Type 0} → false ≡ true → P
no e = absurd (false≢true e)

pub by-attribute : {C S W M : Type 0} (P : Stmt C S W M → Type 0) → ((n : Name) (c : C) → P (attr-stmt n c)) → (s : Stmt C S W M) → is an_attribute s ≡ true → P s
unfolding statements_open
by-attribute P f =
    by_form (λ s. is an_attribute s ≡ true → P s) (λ i. no) (λ n c e. f n c) (λ n. no) (λ n c. no) (λ w n. no) (λ m n. no) (λ t n. no) (λ o n c. no) (λ n x. no) (λ x y. no) (λ n. no) (λ p xs. no) no

-- one of a kind is of no other
pub is-other : (j k : Kind) (s : Statement) → eqb (code k) (code j) ≡ false → is j s ≡ true → is k s ≡ false
unfolding is
is-other j k s o h = rw (← eqb-true (code j) (code (contents s).kind) h) o

-- what a translated statement holds
module _ {C S W M C' S' W' M' : Type 0} (f : C → C') (g : S → S') (h : W → W') (k : M → M') where
  unfoldable pub translated : Contents C S W M → Contents C' S' W' M'
  translated c = holds c.kind c.names (map f c.constants) (map g c.signals) (map h c.wires) (map k c.memories) c.integers c.sorts c.steps

  pub contents-translated : (s : Stmt C S W M) → contents (translate f g h k s) ≡ translated (contents s)
  unfolding translated contents holds translate Option-to_list
  contents-translated (autoidx-stmt i) = refl
  contents-translated (attr-stmt n c) = refl
  contents-translated (module-stmt n) = refl
  contents-translated (param-stmt n none) = refl
  contents-translated (param-stmt n (some c)) = refl
  contents-translated (wire-stmt w n) = refl
  contents-translated (memory-stmt m n) = refl
  contents-translated (cell-stmt t n) = refl
  contents-translated (cell-param-stmt o n c) = refl
  contents-translated (cell-conn-stmt n s) = refl
  contents-translated (conn-stmt s t) = refl
  contents-translated (proc-stmt n) = refl
  contents-translated (step-stmt p xs) = refl
  contents-translated end-stmt = refl
