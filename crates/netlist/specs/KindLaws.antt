-- Four codes for one kind or for four; kinds that all have names.
-- Assumes nothing.
use Rattle.std.specs.Prelude.{ℕ, ◌≡◌, List, [], ◌∷◌, Bool, true, ◌||◌, eqb}
use Rattle.std.proofs.Common.{sym, ap, ◌∙◌, eqb-true}
use Rattle.std.proofs.Math.Bool.{or-false, or_self, or_self_left}
use Rattle.rules.specs.Bytes.{any, all}
use Rattle.rules.specs.Statements.{Kind, code}
use Rattle.lists.specs.Tests.{by-test, and-true-left, and-true-right}
use Rattle.netlist.specs.Kinds.{is_kind, of_kinds, Tests, has_name, one_kind, four_kinds}

pub one-kind : (k : Kind) → Tests (is_kind (one_kind k)) (k ∷ [])
unfolding is_kind of_kinds any
one-kind k n = or_self_left (eqb (code k) n) _ ∙ or_self_left (eqb (code k) n) _ ∙ or_self (eqb (code k) n) ∙ sym (or-false (eqb (code k) n))

pub four-kinds : (k l m o : Kind) → Tests (is_kind (four_kinds k l m o)) (k ∷ l ∷ m ∷ o ∷ [])
unfolding is_kind of_kinds any
four-kinds k l m o n = ap (λ (b : Bool). eqb (code k) n || (eqb (code l) n || (eqb (code m) n || b))) (sym (or-false (eqb (code o) n)))

-- a code of kinds that have names
pub kinds-named : (ks : List Kind) (k : ℕ) → all (λ l. has_name (code l)) ks ≡ true → of_kinds ks k ≡ true → has_name k ≡ true
unfolding of_kinds any all
kinds-named [] k h e = cc
kinds-named (l ∷ ks) k h e =
    by-test (eqb (code l) k) (λ q. rw (← eqb-true (code l) k q) (and-true-left _ _ h)) (λ q. kinds-named ks k (and-true-right (has_name (code l)) _ h) (rw q at e))
