-- A loop that writes: what is written so far, and what is left.
-- Assumes nothing.
use Rattle.std.specs.Prelude.{ℕ, ◌≤◌, ◌≡◌, refl, List, [], ◌++◌}
use Rattle.std.proofs.Common.{sym, ap, ◌∙◌, append_assoc, append-nil}
use Rattle.rules.specs.Limits.{past_text}
use Rattle.text.specs.Written.{Written, written_none, written_then}

-- of a text the part before `rest` is written
pub record Reaches (at : ℕ) (text rest : List ℕ) (old new : List ℕ) (r : ℕ) : Type 0 where
  pub done : List ℕ
  pub written : Written at done old new r
  pub whole : text ≡ done ++ rest

pub reaches-start : (at : ℕ) (text old : List ℕ) → at ≤ past_text → Reaches at text text old old at
reaches-start at text old h = record { done = []; written = written_none at old h; whole = refl }

pub reaches-next :
    {at r s : ℕ} {text rest x left o p q : List ℕ} → Reaches at text rest o p r → Written r x p q s → rest ≡ x ++ left → Reaches at text left o q s
reaches-next {x = x} {left = left} h w e =
    record {
      done = h.done ++ x;
      written = written_then h.written w;
      whole = h.whole ∙ ap (λ (l : List ℕ). h.done ++ l) e ∙ sym (append_assoc h.done x left);
    }

pub reaches_end : {at r : ℕ} {text rest o p : List ℕ} → Reaches at text rest o p r → rest ≡ [] → Written at text o p r
reaches_end {at} {r} {text} {rest} {o} {p} h e =
    let q : text ≡ h.done = h.whole ∙ ap (λ (l : List ℕ). h.done ++ l) e ∙ append-nil h.done in
    rw q h.written
