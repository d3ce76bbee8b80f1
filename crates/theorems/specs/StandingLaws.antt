-- The renames that stand after any calls, refused ones included, are accepted one after another; and making just these leaves them.
-- Assumes nothing.
use Rattle.std.specs.Prelude.{◌≡◌}
use Rattle.std.proofs.Math.Path.{refl, sym, ap, subst}
use Rattle.std.proofs.Common.{◌∙◌}
use mathlib.Core.List.{List, [], ◌∷◌, ◌++◌, map, map-append, drop_last}
use Rattle.rules.specs.Bytes.{all}
use Rattle.rules.specs.Judgement.{accepted}
use Rattle.rules.specs.Design.{Design}
use Rattle.rules.specs.Session.{Rename, Call, rename, undo, rename_call, undo_call, call, standing, plain_session}
use Rattle.lists.specs.Lists.{drop-last}
use Rattle.admitted.specs.JudgeLaws.{by-verdict}
use Rattle.admitted.specs.Holds.{Allowed, no-renames, one-rename}

-- an undo takes the last one off, if there is one
pub undone : (qs : List Rename) → standing qs (undo_call qs) ≡ drop_last qs
unfolding undo_call standing
undone [] = refl
undone (q ∷ qs) = refl

module _ (d : Design) where
  allowed-less : {qs : List Rename} → Allowed d qs → Allowed d (drop_last qs)
  allowed-less no-renames = no-renames
  allowed-less (one-rename rs r h a e) = subst (Allowed d) (sym (ap drop_last e ∙ drop-last rs r)) h

  allowed-more : (qs : List Rename) (r : Rename) → Allowed d qs → Allowed d (standing qs (rename_call d qs r))
  unfolding rename_call standing all
  allowed-more qs r h = by-verdict (λ v. Allowed d (standing qs v)) (qs ++ r ∷ []) _ refl (λ e. one-rename qs r h e refl) (λ n p. h)

  allowed-call : (c : Call) (qs : List Rename) → Allowed d qs → Allowed d (standing qs (call d qs c))
  unfolding call
  allowed-call (rename r) qs h = allowed-more qs r h
  allowed-call undo qs h = subst (Allowed d) (sym (undone qs)) (allowed-less h)

  pub allowed-session : (cs : List Call) (qs : List Rename) → Allowed d qs → Allowed d (plain_session d qs cs).1
  unfolding plain_session
  allowed-session [] qs h = h
  allowed-session (c ∷ cs) qs h = allowed-session cs (standing qs (call d qs c)) (allowed-call c qs h)

  -- making the standing renames, oldest first
  session-append : (cs es : List Call) (qs : List Rename) → (plain_session d qs (cs ++ es)).1 ≡ (plain_session d (plain_session d qs cs).1 es).1
  unfolding plain_session
  session-append [] es qs = refl
  session-append (c ∷ cs) es qs = session-append cs es (standing qs (call d qs c))

  one_more : (rs : List Rename) (r : Rename) → rename_call d rs r ≡ accepted (rs ++ r ∷ []) → (plain_session d rs (rename r ∷ [])).1 ≡ rs ++ r ∷ []
  unfolding plain_session call standing
  one_more rs r e = rw e

  pub session-allowed : {qs : List Rename} → Allowed d qs → (plain_session d [] (map rename qs)).1 ≡ qs
  unfolding plain_session
  session-allowed no-renames = refl
  session-allowed (one-rename rs r h a e) =
      ap (λ (l : List Rename). (plain_session d [] (map rename l)).1) e
      ∙ ap (λ (l : List Call). (plain_session d [] l).1) (map-append rename rs (r ∷ []))
      ∙ session-append (map rename rs) (rename r ∷ []) []
      ∙ ap (λ (l : List Rename). (plain_session d l (rename r ∷ [])).1) (session-allowed h)
      ∙ one_more rs r a
      ∙ sym e
