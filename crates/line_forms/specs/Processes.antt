-- What the words of a line in a process announce.
use Rattle.std.specs.Prelude.{ℕ, ◌/◌, ◌<◌, ◌≤◌, ◌≡◌, List, [], ◌∷◌, Bool, cond, ◌&&◌, ◌||◌, eqb, leb, length, Option as Optional, IfSome}
use Rattle.std.proofs.Math.Option.{Option}
use Rattle.rules.specs.Bytes.{bytes}
use Rattle.rules.specs.Statements.{Shape, Step, step_code, assign_step, case_step, global_step, always_step, update_step}
use Rattle.rules.specs.Shapes as shapes
use Rattle.rules.specs.Shapes.{Parse, of0, of1, of2, attribute_form, end_form, assign_form, switch_form, case_form, update_form, sync_forms, sync_form, choice, whole, shape}
use Rattle.context.specs.Place.{scope_of}
use Rattle.scanner.specs.Words.{keyword_number}
use Rattle.tokens.specs.Rows.{line}
use Rattle.line_forms.specs.Words.{announced}
use Rattle.line_forms.specs.Forms.{form_of, shape_of, FormFrom}
use Rattle.line_forms.specs.declared.ProcessKind.{ProcessKind}
use Rattle.line_forms.specs.declared.ProcessKind.TheVariants as process_kind

-- the number of a scope inside a process
abbrev pub Inside : ℕ → Type 0
Inside n = 2 < n

-- the numbers of the words that begin a line outside of switches
unfoldable pub root_words : ℕ → List ℕ
root_words w = w ∷ keyword_number (bytes "sync") ∷ keyword_number (bytes "end") ∷ []

-- every line of a process by its first word; every step by the word with its number
unfoldable pub process_forms : List shapes.Form
process_forms = attribute_form ∷ end_form ∷ sync_form ∷ assign_form ∷ switch_form ∷ case_form ∷ update_form ∷ []

unfoldable pub step_forms : List shapes.Form
step_forms = assign_form ∷ switch_form ∷ case_form ∷ update_form ∷ sync_forms

-- a line in a process whose rows are t: of fixed shape, or a step read on from row i
unfoldable pub process_kind_of : List ℕ → List ℕ → ProcessKind → Option Shape
process_kind_of f t (process_kind.Form r) = form_of f r
process_kind_of f t (process_kind.Step p i) = whole (announced step_forms p (line f t i))

-- the number is a step's, and the rows up to i stand
abbrev pub StepFrom : List ℕ → ℕ → ℕ → Type 0
StepFrom t p i = ((s : Step) × (step_code s ≡ p)) × (i ≤ length t / 4)

abbrev pub ProcessKindFrom : List ℕ → ProcessKind → Type 0
ProcessKindFrom t (process_kind.Form r) = FormFrom t r
ProcessKindFrom t (process_kind.Step p i) = StepFrom t p i

-- over every file: behind `sync`; by the first word; the line by where it stands
abbrev pub SyncIs : List ℕ → Optional ProcessKind → Type 0
SyncIs t r = ((f : List ℕ) → whole (choice sync_forms (line f t 1)) ≡ shape_of (process_kind_of f t) r) × IfSome r (ProcessKindFrom t)

abbrev pub BegunIs : List ℕ → ℕ → Optional ProcessKind → Type 0
BegunIs t c r = ((f : List ℕ) → whole (announced process_forms c (line f t 1)) ≡ shape_of (process_kind_of f t) r) × IfSome r (ProcessKindFrom t)

abbrev pub ProcessIs : List ℕ → (scope depth : ℕ) → Bool → Optional ProcessKind → Type 0
ProcessIs t scope depth attributed r =
    ((f : List ℕ) (first : Bool) →
    shape (record { scope = scope_of scope depth; first = first; attributed = attributed }) (line f t 0) ≡ shape_of (process_kind_of f t) r)
    × IfSome r (ProcessKindFrom t)

-- how a step is read on, by its code: the values of a case, two signals, none, or one
unfoldable pub step_parse : ℕ → Step → Parse Shape
step_parse p s =
    cond (eqb p case_step) case_form.1
    (cond (eqb p assign_step || eqb p update_step) (of2 s) (cond (leb global_step p && leb p always_step) (of0 s) (of1 s)))
