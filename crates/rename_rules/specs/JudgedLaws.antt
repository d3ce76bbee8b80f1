-- The number by the tables is the rules' number.
-- Assumes nothing.
use Rattle.std.specs.Prelude.{ℕ, zero, suc, ◌+◌, ◌≤◌, ◌<◌, ◌≡◌, refl, Result, Ok, Err, List, [], ◌∷◌, ◌++◌, reverse, Bool, cond, ◌||◌, leb, ltb, length}
use Rattle.std.specs.Result.{is_ok}
use Rattle.std.proofs.Common.{ap, sym, ◌∙◌, arith, true≢false}
use Rattle.std.proofs.lemmas.List.{reverse-reverse}
use Rattle.std.proofs.Math.Bool.{true, false}
use borrow.Author.Tests.{leb-true, leb-false}
use Rattle.rules.specs.Limits.{name_room, most_renames}
use Rattle.rules.specs.Tokens.{Name}
use Rattle.rules.specs.Statements.{Statement}
use Rattle.rules.specs.Judgement.{lowest, verdict}
use Rattle.rules.specs.Design.{design}
use Rattle.rules.specs.Session.{Rename, now, room_used, taken, is_port, rename_call, number_of}
use Rattle.lists.specs.Tests.{by-test}
use Rattle.context.specs.declared.place.Place.{Place}
use Rattle.modules.specs.Ranges.{wire_range}
use Rattle.rename_rules.specs.Judged.{name_taken, exceeds_room, module_by, refusal, judged, Lies}
use Rattle.rename_rules.specs.RoomLaws.{room-used}
use Rattle.rename_rules.specs.TakenLaws.{taken-laid}
use Rattle.rename_rules.specs.LiesLaws.{headed, offsets, laid, wired, there, missing}

-- a refusal's number, which is not 0
number_in : Result (Unit {0}) ℕ → ℕ
number_in (Ok x) = 0
number_in (Err n) = n

pub refusal-err : (n k : ℕ) → refusal n ≡ Err k → (n ≡ k) × (k ≡ 0 → ⊥)
unfolding refusal number_in
refusal-err zero k e = absurd (true≢false (ap is_ok e))
refusal-err (suc n) k e = let z : suc n ≡ k = ap number_in e in (z, λ q. omega (arith, z, q))

pub refusal-ok : (n : ℕ) → is_ok (refusal n) ≡ true → n ≡ 0
unfolding refusal
refusal-ok zero e = refl
refusal-ok (suc n) e = absurd (true≢false (sym e))

-- the first test that holds
lowest-number :
    (rs : List Rename) (a b c d e : Bool) →
    number_of (verdict rs (lowest ((4, a) ∷ (6, b) ∷ (8, c) ∷ (9, d) ∷ (11, e) ∷ [])))
    ≡ cond a 4 (cond b 6 (cond c 8 (cond d 9 (cond e 11 0))))
unfolding number_of verdict lowest
lowest-number rs true b c d e = refl
lowest-number rs false true c d e = refl
lowest-number rs false false true d e = refl
lowest-number rs false false false true e = refl
lowest-number rs false false false false true = refl
lowest-number rs false false false false false = refl

module _ {names wires rows : List ℕ} {p : Place} {standing room : ℕ} {ss : List Statement} {rs : List Rename} (l : Lies names wires rows p standing room ss rs) (r : Rename) where
  abbrev m : ℕ
  m = r.module_number

  abbrev w : ℕ
  w = r.wire_number

  abbrev n : Name
  n = r.new_name

  taken_is : name_taken names wires rows (module_by wires p standing m) n ≡ taken (now (design ss) rs) m n
  taken_is =
      rw (← l.place, ← l.standing) (taken-laid m (reverse ss) (headed l) (offsets l) rs (laid l) (wired l) n)
      ∙ ap (λ (qs : List Statement). taken (now (design qs) rs) m n) (reverse-reverse ss)

  room-is : exceeds_room standing room (length n) ≡ leb most_renames (length rs) || ltb name_room (room_used (design ss) rs + length n)
  unfolding exceeds_room
  room-is = rw (← l.standing, ← l.room, room-used ss rs l.admitted l.closes)

  pub judged-is : number_of (rename_call (design ss) rs r) ≡ judged names wires rows p standing room m w n
  unfolding rename_call judged
  judged-is =
      lowest-number (rs ++ r ∷ []) _ _ _ _ _
      ∙ rw (← taken_is, ← room-is)
      (by-test (leb (wire_range wires p.wires m).count w)
      (λ e. let h : (wire_range wires p.wires m).count ≤ w = leb-true _ _ e in rw (e, missing l m w false is_port h, missing l m w true (λ x. false) h))
      (λ e. let h : w < (wire_range wires p.wires m).count = leb-false _ _ e in rw (e, there l m w false is_port h, there l m w true (λ x. false) h)))
