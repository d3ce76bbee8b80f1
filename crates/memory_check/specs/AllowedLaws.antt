-- Renames each of which was accepted after those before it: the first ones of them, and how many bytes of names they use.
-- Assumes nothing.
use Rattle.std.specs.Prelude.{◌≤◌, ◌≡◌, length}
use Rattle.std.proofs.Math.Path.{refl, ap}
use Rattle.std.proofs.Common.{sym, ◌∙◌, subst, arith, length-append}
use mathlib.Core.List.{List, [], ◌∷◌, ◌++◌, reverse, reverse-cons, reverse-reverse, append_assoc, append-nil}
use borrow.Author.Tests.{leb-true}
use Rattle.rules.specs.Limits.{name_room, most_renames}
use Rattle.rules.specs.Bytes.{all}
use Rattle.rules.specs.Judgement.{accepted}
use Rattle.rules.specs.Design.{Design}
use Rattle.rules.specs.Session.{Rename, room_used, rename_call, number_of}
use Rattle.admitted.specs.JudgeLaws.{by-verdict}
use Rattle.admitted.specs.Holds.{Allowed, no-renames, one-rename}
use Rattle.canonical.specs.RenamedFine.{accepted-keeps, room-more}
use Rattle.lists.specs.Lists.{last-same, no_last}

-- THE FIRST ONES of accepted renames are accepted
module _ {d : Design} where
  allowed-by : {qs : List Rename} → Allowed d qs → (rs : List Rename) (r : Rename) → qs ≡ rs ++ r ∷ [] → Allowed d rs × (rename_call d rs r ≡ accepted (rs ++ r ∷ []))
  allowed-by no-renames rs r e = no_last rs r e
  allowed-by (one-rename ps p a h q) rs r e =
      let z = last-same ps rs p r (sym q ∙ e) in
      (subst (Allowed d) z.0 a, rw (z.0, z.1) at h)

  pub allowed-before : (rs : List Rename) (r : Rename) → Allowed d (rs ++ r ∷ []) → Allowed d rs
  allowed-before rs r a = (allowed-by a rs r refl).0

  pub allowed-last : (rs : List Rename) (r : Rename) → Allowed d (rs ++ r ∷ []) → rename_call d rs r ≡ accepted (rs ++ r ∷ [])
  allowed-last rs r a = (allowed-by a rs r refl).1

  front-back : (rs ms : List Rename) → Allowed d (rs ++ reverse ms) → Allowed d rs
  front-back rs [] a = subst (Allowed d) (append-nil rs) a
  front-back rs (m ∷ ms) a =
      let e : rs ++ reverse (m ∷ ms) ≡ (rs ++ reverse ms) ++ m ∷ [] =
      ap (λ (l : List Rename). rs ++ l) (reverse-cons m ms) ∙ sym (append_assoc rs (reverse ms) (m ∷ [])) in
      front-back rs ms (allowed-before (rs ++ reverse ms) m (subst (Allowed d) e a))

  pub allowed-front : (rs more : List Rename) → Allowed d (rs ++ more) → Allowed d rs
  allowed-front rs more a = front-back rs (reverse more) (subst (λ (l : List Rename). Allowed d (rs ++ l)) (sym (reverse-reverse more)) a)

  pub allowed-next : (rs more : List Rename) (r : Rename) → Allowed d (rs ++ r ∷ more) → rename_call d rs r ≡ accepted (rs ++ r ∷ [])
  allowed-next rs more r a =
      let e : rs ++ r ∷ more ≡ (rs ++ r ∷ []) ++ more = sym (append_assoc rs (r ∷ []) more) in
      allowed-last rs r (allowed-front (rs ++ r ∷ []) more (subst (Allowed d) e a))

  pub allowed-more : (rs : List Rename) (r : Rename) → Allowed d rs → rename_call d rs r ≡ accepted (rs ++ r ∷ []) → Allowed d (rs ++ r ∷ [])
  allowed-more rs r a e = one-rename rs r a e refl

-- NO NUMBER where it is accepted, and the other way round
module _ (d : Design) (rs : List Rename) (r : Rename) where
  pub number-accepted : number_of (rename_call d rs r) ≡ 0 → rename_call d rs r ≡ accepted (rs ++ r ∷ [])
  unfolding rename_call number_of all
  number-accepted h =
      by-verdict (λ v. number_of v ≡ 0 → v ≡ accepted (rs ++ r ∷ [])) (rs ++ r ∷ []) _ refl (λ e z. refl) (λ n p z. absurd (omega (arith, leb-true 1 n p))) h

  pub accepted-number : rename_call d rs r ≡ accepted (rs ++ r ∷ []) → number_of (rename_call d rs r) ≡ 0
  unfolding number_of
  accepted-number e = ap number_of e

module _ {d : Design} where
  pub allowed-few : {qs : List Rename} → Allowed d qs → length qs ≤ most_renames
  allowed-few no-renames = omega arith
  allowed-few (one-rename rs r a e q) =
      rw q (omega (arith, length-append rs (r ∷ []), (accepted-keeps d rs (rs ++ r ∷ []) r e).few))

  pub allowed-room : {qs : List Rename} → room_used d [] ≤ name_room → Allowed d qs → room_used d qs ≤ name_room
  allowed-room h no-renames = h
  allowed-room h (one-rename rs r a e q) = rw q (omega (arith, room-more d rs r, (accepted-keeps d rs (rs ++ r ∷ []) r e).room))
