-- Kinds of statement by their codes.
use Rattle.std.specs.Prelude.{ℕ, ◌≡◌, List, [], ◌∷◌, Bool, not, ◌||◌, eqb}
use Rattle.rules.specs.Bytes.{any}
use Rattle.rules.specs.Statements.{Kind, an_autoidx, a_connection, an_end, a_step, code}
use Rattle.netlist.specs.declared.rows.Kinds.{Kinds}

-- whether a code is one of the four
unfoldable pub is_kind : Kinds → ℕ → Bool
is_kind K k = eqb K.a k || (eqb K.b k || (eqb K.c k || eqb K.d k))

-- whether a code is that of one of some kinds
unfoldable pub of_kinds : List Kind → ℕ → Bool
of_kinds ks k = any (λ l. eqb (code l) k) ks

-- a test of codes that is the test for some kinds
abbrev pub Tests : (ℕ → Bool) → List Kind → Type 0
Tests f ks = (k : ℕ) → f k ≡ of_kinds ks k

-- a statement has a name, unless it is of these kinds
unfoldable pub has_name : ℕ → Bool
has_name k = not (of_kinds (an_autoidx ∷ a_connection ∷ an_end ∷ a_step ∷ []) k)

-- a kind, four times
abbrev pub one_kind : Kind → Kinds
one_kind k = record { a = code k; b = code k; c = code k; d = code k }

abbrev pub four_kinds : (k l m o : Kind) → Kinds
four_kinds k l m o = record { a = code k; b = code l; c = code m; d = code o }
