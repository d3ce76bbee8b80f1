-- What look-up and index give back, for all memory.
use Rattle.std.specs.Prelude.{ℕ, pos}
use Rattle.rules.specs.Tokens.{Name}
use Rattle.rules.specs.Design.{design}
use Rattle.rules.specs.Session.{now, look_up, index}
use Rattle.rules.specs.Layout.{Memory}
use Rattle.session.specs.Called.{Called, answer}
use Rattle.look_up.specs.declared.Found.{Found}
use Rattle.look_up.specs.declared.Indexed.{Indexed}

abbrev pub LookedUp : Memory → ℕ → Name → Found → Type 0
LookedUp m k n r = Called m (λ e. (e, 0)) (λ ss rs. answer 0 (look_up (now (design ss) rs) k n)) (r.number, r.wire.0)

abbrev pub IndexGiven : Memory → (k w bit : ℕ) → Indexed → Type 0
IndexGiven m k w b r = Called m (λ e. (e, pos 0)) (λ ss rs. answer (pos 0) (index (now (design ss) rs) k w b)) (r.number, r.index)
