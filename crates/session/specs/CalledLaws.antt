-- A call's contract settles its answer, for all memory.
-- Assumes nothing.
use Rattle.std.specs.Prelude.{ℕ, ◌<◌, ◌≡◌, List}
use Rattle.std.proofs.Common.{sym, ap₂, ◌∙◌, arith}
use Rattle.rules.specs.Statements.{Statement}
use Rattle.rules.specs.Session.{Rename}
use Rattle.rules.specs.Layout.{Memory}
use Rattle.lists.specs.Tests.{never}
use Rattle.netlist.specs.Lengths.{right_lengths}
use Rattle.memory_check.specs.OneLaws.{holds-one}
use Rattle.session.specs.Called.{Called, wrong-lengths, damaged, holding}

-- two answers that it allows of the same memory are equal
pub called-one :
    {A : Type 0} {m : Memory} {refuse : ℕ → A} {says : List Statement → List Rename → A} {a b : A} →
    Called m refuse says a → Called m refuse says b → a ≡ b
called-one (wrong-lengths e p) (wrong-lengths f q) = p ∙ sym q
called-one {m = m} (wrong-lengths e p) (damaged f d q) = never (right_lengths m) f e
called-one {m = m} (wrong-lengths e p) (holding ss rs f h q) = never (right_lengths m) f e
called-one {m = m} (damaged e d p) (wrong-lengths f q) = never (right_lengths m) e f
called-one (damaged e d p) (damaged f c q) = p ∙ sym q
called-one (damaged e d p) (holding ss rs f h q) = absurd (d ss rs h)
called-one {m = m} (holding ss rs e h p) (wrong-lengths f q) = never (right_lengths m) e f
called-one (holding ss rs e h p) (damaged f d q) = absurd (d ss rs h)
called-one {says = says} (holding ss rs e h p) (holding qs ps f g q) = let o = holds-one h g in p ∙ ap₂ says o.0 o.1 ∙ sym q

-- another answer, by what the one says of it
pub called-turn :
    {A B : Type 0} {m : Memory} {refuse : ℕ → A} {refuse' : ℕ → B} {says : List Statement → List Rename → A} {says' : List Statement → List Rename → B} {a : A} {b : B} →
    ((n : ℕ) → 0 < n → a ≡ refuse n → b ≡ refuse' n) → ((ss : List Statement) (rs : List Rename) → a ≡ says ss rs → b ≡ says' ss rs) → Called m refuse says a → Called m refuse' says' b
called-turn f g (wrong-lengths e q) = wrong-lengths e (f 1 (omega arith) q)
called-turn f g (damaged e d q) = damaged e d (f 3 (omega arith) q)
called-turn f g (holding ss rs e h q) = holding ss rs e h (g ss rs q)
