-- The shape of a line's tokens, by the grammar of 004; its rules stand in <>.
-- Wider than these rules in one place: 004's module body omits `connect`, which its text and 000 list. Stricter: a
-- bundle is at most 16 deep, and so are switches; at most one switch stands at the root of a process.
use Rattle.std.specs.Prelude.{ℕ, zero, suc, ◌+◌, List, [], ◌∷◌, ◌++◌, reverse, Bool, false, not, cond, length, ℤ, eqb, ltb}
use Prim.Native.Char.{Char}
use Prim.Native.String.{String}
use Rattle.std.proofs.Math.Option.{Option, none, some, map}
use Rattle.rules.specs.Limits.{most_switches}
use Rattle.rules.specs.Bytes.{bytes, byte, same, any}
use Rattle.rules.specs.Tokens.{Name, Literal, value, integer, string, Token, name, word, literal, mark}
use Rattle.rules.specs.Statements.{Sig, Sigs, constant, wire, slice, bundle, nothing, ◌below◌, Opt, Sort, Shape, autoidx-stmt, attr-stmt, module-stmt, param-stmt, wire-stmt, memory-stmt, cell-stmt, cell-param-stmt, cell-conn-stmt, conn-stmt, proc-stmt, step-stmt, end-stmt, Step, assign, update, switch, case, low, high, posedge, negedge, edge, global, init, always}

-- Takes what it wants from the front of the tokens and leaves the rest; or finds no shape
abbrev pub Parse : Type 0 → Type 0
Parse A = List Token → Option (A × List Token)

-- a word, a mark
unfoldable pub is_word : String → Token → Bool
is_word w (name n) = false
is_word w (word v) = same v (bytes w)
is_word w (literal c) = false
is_word w (mark m) = false

unfoldable pub is_mark : Char → Token → Bool
is_mark c (name n) = false
is_mark c (word v) = false
is_mark c (literal l) = false
is_mark c (mark m) = eqb m (byte c)

-- no shape; no token; one token of a sort
unfoldable pub nowhere : {A : Type 0} → Parse A
nowhere ts = none

unfoldable pub give : {A : Type 0} → A → Parse A
give a ts = some (a, ts)

unfoldable pub one : {A : Type 0} → (Token → Option A) → Parse A
one f [] = none
one f (t ∷ ts) = map (λ a. (a, ts)) (f t)

-- f of one, two or three things that stand behind one another
unfoldable pub after : {A B : Type 0} → Option (A × List Token) → (A → Parse B) → Option (B × List Token)
after none f = none
after (some p) f = f p.0 p.1

unfoldable pub of₁ : {A B : Type 0} → (A → B) → Parse A → Parse B
of₁ f p ts = after (p ts) (λ a. give (f a))

unfoldable pub of₂ : {A B C : Type 0} → (A → B → C) → Parse A → Parse B → Parse C
of₂ f p q ts = after (p ts) (λ a. of₁ (f a) q)

unfoldable pub of₃ : {A B C D : Type 0} → (A → B → C → D) → Parse A → Parse B → Parse C → Parse D
of₃ f p q r ts = after (p ts) (λ a. of₂ (f a) q r)

module _ {A : Type 0} where
  -- p behind a token that passes a test; with another token, or with none, q
  unfoldable pub either : (Token → Bool) → Parse A → Parse A → Parse A
  either f p q [] = q []
  either f p q (t ∷ ts) = cond (f t) (p ts) (q (t ∷ ts))

  -- what the first word announces
  unfoldable pub choice : List (String × Parse A) → Parse A
  choice [] ts = none
  choice (c ∷ cs) ts = either (is_word c.0) c.1 (choice cs) ts

  unfoldable pub offers : List (String × Parse A) → Token → Bool
  offers cs t = any (λ c. is_word c.0 t) cs

  -- p, and then a mark
  unfoldable pub closed_by : Char → Parse A → Parse A
  closed_by c p ts = after (p ts) (λ a. either (is_mark c) (give a) nowhere)

  -- as long as the next token passes a test, in front of those before, so that the last one stands first
  -- (each turn takes a token or more)
  unfoldable pub repeat : (Token → Bool) → Parse A → ℕ → List A → Parse (List A)
  repeat f p zero as' ts = some (as', ts)
  repeat f p (suc k) as' [] = some (as', [])
  repeat f p (suc k) as' (t ∷ ts) =
      let r = after (p (t ∷ ts)) (λ a. repeat f p k (a ∷ as')) in
      cond (f t) r (some (as', t ∷ ts))

  unfoldable pub several : (Token → Bool) → Parse A → Parse (List A)
  several f p ts = repeat f p (length ts) [] ts

  -- a thing, or the line's end
  unfoldable pub or_end : Parse A → Parse (Option A)
  or_end p [] = some (none, [])
  or_end p (t ∷ ts) = of₁ some p (t ∷ ts)

-- <id>, <integer>, <constant> ::= <value> | <integer> | <string>
unfoldable pub is_id : Token → Option Name
is_id (name n) = some n
is_id (word w) = none
is_id (literal c) = none
is_id (mark m) = none

unfoldable pub is_constant : Token → Option Literal
is_constant (name n) = none
is_constant (word w) = none
is_constant (literal c) = some c
is_constant (mark m) = none

unfoldable pub is_integer : Token → Option ℤ
is_integer (name n) = none
is_integer (word w) = none
is_integer (literal (value w ds)) = none
is_integer (literal (integer i)) = some i
is_integer (literal (string s)) = none
is_integer (mark m) = none

-- <constant> | <wire-id>
unfoldable pub is_atom : Token → Option Sig
is_atom (name n) = some (wire n)
is_atom (word w) = none
is_atom (literal c) = some (constant c)
is_atom (mark m) = none

unfoldable pub id : Parse Name
id = one is_id

unfoldable pub const : Parse Literal
const = one is_constant

unfoldable pub int : Parse ℤ
int = one is_integer

unfoldable pub atom : Parse Sig
atom = one is_atom

-- [ <integer> (:<integer>)? ]
unfoldable pub low_bound : Parse (Option ℤ)
low_bound = either (is_mark ":") (of₁ some int) (give none)

unfoldable pub bounds : Parse (ℤ × Option ℤ)
bounds = either (is_mark "[") (closed_by "]" (of₂ (λ h l. (h, l)) int low_bound)) nowhere

-- Slices may follow any signal, also a slice
unfoldable pub sliced : Sig → List (ℤ × Option ℤ) → Sig
sliced s [] = s
sliced s (b ∷ bs) = slice (sliced s bs) b.0 b.1

unfoldable pub with_slices : Parse Sig → Parse Sig
with_slices p = of₂ sliced p (several (is_mark "[") bounds)

unfoldable pub sigs : List Sig → Sigs
sigs [] = nothing
sigs (s ∷ ss) = s below sigs ss

-- { <sigspec>* }, behind its first mark
unfoldable pub members : Parse Sig → Parse Sig
members p = closed_by "}" (of₁ (λ ss. bundle (sigs ss)) (several (λ t. not (is_mark "}" t)) p))

-- <sigspec> ::= <constant> | <wire-id> | <sigspec> [ <integer> (:<integer>)? ] | { <sigspec>* }, its bundles at most k deep
unfoldable pub signal : ℕ → Parse Sig
signal zero ts = with_slices atom ts
signal (suc k) ts = with_slices (either (is_mark "{") (members (signal k)) atom) ts

-- A bundle holds signals, and a signal may be a bundle, at most 16 deep
unfoldable pub sigspec : Parse Sig
sigspec = signal 16

unfoldable pub numbered : String → String × Parse Opt
numbered w = (w, of₁ (λ i. (bytes w, some i)) int)

unfoldable pub flag : String → String × Parse Opt
flag w = (w, give (bytes w, none))

-- <wire-option>, <memory-option>
unfoldable pub wire_option_forms : List (String × Parse Opt)
wire_option_forms = numbered "width" ∷ numbered "offset" ∷ numbered "input" ∷ numbered "output" ∷ numbered "inout" ∷ flag "upto" ∷ flag "signed" ∷ []

unfoldable pub memory_option_forms : List (String × Parse Opt)
memory_option_forms = numbered "width" ∷ numbered "size" ∷ numbered "offset" ∷ []

unfoldable pub options : List (String × Parse Opt) → Parse (List Opt)
options os = several (offers os) (choice os)

-- (signed | real)?
unfoldable pub sort : Parse Sort
sort = either (is_word "signed") (give Sort.signed) (either (is_word "real") (give Sort.real) (give Sort.plain))

-- Where a line stands: outside of modules, in a module or in a cell; in a process before its switch, behind it or in a sync; in a switch before
-- its first case, or in a case, of a switch inside so many others; whether it is the first statement; whether it follows attributes
pub data Scope : Type 0 where
  top in_module in_cell in_process in_tail in_sync : Scope
  in_switch in_case : (outside : ℕ) → Scope

pub record Context : Type 0 where
  pub scope : Scope
  pub first : Bool
  pub attributed : Bool

abbrev pub Form : Type 0
Form = String × Parse Shape

unfoldable pub autoidx_form : Form
autoidx_form = ("autoidx", of₁ autoidx-stmt int)

unfoldable pub attribute_form : Form
attribute_form = ("attribute", of₂ attr-stmt id const)

-- Attribute lines precede a module, wire, memory or cell (or a `process` line)
unfoldable pub top_forms : List Form
top_forms = attribute_form ∷ ("module", of₁ module-stmt id) ∷ []

unfoldable pub object_forms : List Form
object_forms =
    attribute_form
    ∷ ("wire", of₂ wire-stmt (options wire_option_forms) id)
    ∷ ("memory", of₂ memory-stmt (options memory_option_forms) id)
    ∷ ("cell", of₂ cell-stmt id id)
    ∷ ("process", of₁ proc-stmt id)
    ∷ []

unfoldable pub body_forms : List Form
body_forms =
    ("parameter", of₂ param-stmt id (or_end const)) ∷ ("connect", of₂ conn-stmt sigspec sigspec) ∷ ("end", give end-stmt) ∷ []

unfoldable pub cell_forms : List Form
cell_forms =
    ("parameter", of₃ cell-param-stmt sort id const) ∷ ("connect", of₂ cell-conn-stmt id sigspec) ∷ ("end", give end-stmt) ∷ []

-- <sigspec> (, <sigspec>)*
unfoldable pub compare : Parse (List Sig)
compare = of₂ (λ s ss. s ∷ reverse ss) sigspec (several (is_mark ",") (either (is_mark ",") sigspec nowhere))

unfoldable pub compares : Option (List Sig) → List Sig
compares none = []
compares (some ss) = ss

-- of no signal, of one, of two; of any number of compare values
unfoldable pub of0 : Step → Parse Shape
of0 p = give (step-stmt p [])

unfoldable pub of1 : Step → Parse Shape
of1 p = of₁ (λ s. step-stmt p (s ∷ [])) sigspec

unfoldable pub of2 : Step → Parse Shape
of2 p = of₂ (λ s t. step-stmt p (s ∷ t ∷ [])) sigspec sigspec

unfoldable pub end_form : Form
end_form = ("end", give end-stmt)

unfoldable pub assign_form : Form
assign_form = ("assign", of2 assign)

unfoldable pub switch_form : Form
switch_form = ("switch", of1 switch)

unfoldable pub case_form : Form
case_form = ("case", of₁ (λ ss. step-stmt case (compares ss)) (or_end compare))

unfoldable pub update_form : Form
update_form = ("update", of2 update)

-- <sync-type> <sigspec> | global | init | always
unfoldable pub sync_forms : List Form
sync_forms =
    ("low", of1 low)
    ∷ ("high", of1 high)
    ∷ ("posedge", of1 posedge)
    ∷ ("negedge", of1 negedge)
    ∷ ("edge", of1 edge)
    ∷ ("global", of0 global)
    ∷ ("init", of0 init)
    ∷ ("always", of0 always)
    ∷ []

unfoldable pub sync_form : Form
sync_form = ("sync", choice sync_forms)

-- Switches nest at most 16 deep, the root's counted
unfoldable pub nested_forms : ℕ → List Form
nested_forms k = cond (ltb (k + 1) most_switches) (attribute_form ∷ switch_form ∷ case_form ∷ []) (attribute_form ∷ case_form ∷ [])

-- `autoidx` may only be the first statement
unfoldable pub forms : Scope → (first attributed : Bool) → List Form
forms top first attributed = cond first (autoidx_form ∷ top_forms) top_forms
forms in_module first attributed = cond attributed object_forms (body_forms ++ object_forms)
forms in_cell first attributed = cell_forms
forms in_process first attributed =
    cond attributed (attribute_form ∷ switch_form ∷ []) (attribute_form ∷ switch_form ∷ assign_form ∷ sync_form ∷ end_form ∷ [])
forms in_tail first attributed = assign_form ∷ sync_form ∷ end_form ∷ []
forms in_sync first attributed = update_form ∷ sync_form ∷ end_form ∷ []
forms (in_switch k) first attributed = cond attributed (attribute_form ∷ case_form ∷ []) (attribute_form ∷ case_form ∷ end_form ∷ [])
forms (in_case k) first attributed = cond attributed (nested_forms k) (nested_forms k ++ assign_form ∷ end_form ∷ [])

-- all tokens of the line, and no other
unfoldable pub whole_by : Shape → List Token → Option Shape
whole_by s [] = some s
whole_by s (t ∷ ts) = none

unfoldable pub whole : Option (Shape × List Token) → Option Shape
whole none = none
whole (some p) = whole_by p.0 p.1

unfoldable pub shape : Context → List Token → Option Shape
shape c ts = whole (choice (forms c.scope c.first c.attributed) ts)

unfoldable pub shapes_open : Unit {0}
unfolding is_word is_mark nowhere give one after of₁ of₂ of₃ either choice offers closed_by repeat several or_end is_id is_constant is_integer is_atom id const int atom low_bound bounds sliced with_slices sigs members signal sigspec numbered flag wire_option_forms memory_option_forms options sort autoidx_form attribute_form top_forms object_forms body_forms cell_forms compare compares of0 of1 of2 end_form assign_form switch_form case_form update_form sync_forms sync_form nested_forms forms whole_by whole shape
shapes_open = tt
