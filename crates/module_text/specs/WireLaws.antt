-- The wires of a module by their names now, from the wires with the last one first.
-- Assumes nothing.
use Rattle.std.specs.Prelude.{ℕ, suc, ◌+◌, ◌≡◌, length}
use Rattle.std.proofs.Common.{arith, ◌∙◌}
use Rattle.std.proofs.Math.Path.{refl, ap, ap₂}
use mathlib.Core.List.{List, [], ◌∷◌, reverse, reverse_aux}
use Rattle.rules.specs.Tokens.{Name}
use Rattle.rules.specs.Statements.{Wire, Statement}
use Rattle.rules.specs.Signals.{Wires}
use Rattle.rules.specs.Session.{Rename}
use Rattle.modules.specs.Modules.{wires_of}
use Rattle.modules.specs.Now.{numbered}
use Rattle.modules.specs.NowLaws.{numbered-same}
use Rattle.module_text.specs.Passes.{declared_now, wires_now, wires_down}

module _ (rs : List Rename) (m : ℕ) where
  -- those from number n on
  abbrev onward : ℕ → ℕ → Name × Wire → Name × Wire
  onward n i w = declared_now rs m (n + i) w

  onward-next : (n : ℕ) (ws : Wires) → numbered (λ i. onward n (suc i)) ws ≡ numbered (onward (suc n)) ws
  onward-next n ws = numbered-same (λ i. onward n (suc i)) (onward (suc n)) (λ i w. ap (λ (j : ℕ). declared_now rs m j w) (omega arith)) ws

  down-onto : (ws vs : Wires) → reverse_aux (numbered (onward (length vs)) ws) (wires_down rs m vs) ≡ wires_down rs m (reverse_aux ws vs)
  unfolding numbered wires_down
  down-onto [] vs = refl
  down-onto (w ∷ ws) vs =
      ap₂ (λ (l : Wires) (n : ℕ). reverse_aux l (declared_now rs m n w ∷ wires_down rs m vs)) (onward-next (length vs) ws) (omega arith)
      ∙ down-onto ws (w ∷ vs)

  pub wires-down : (ss : List Statement) → wires_now rs m ss ≡ wires_down rs m (reverse (wires_of ss))
  unfolding wires_now wires_down
  wires-down ss =
      ap (λ (l : Wires). reverse l) (numbered-same (declared_now rs m) (onward 0) (λ i w. ap (λ (j : ℕ). declared_now rs m j w) (omega arith)) (wires_of ss))
      ∙ down-onto (wires_of ss) []
