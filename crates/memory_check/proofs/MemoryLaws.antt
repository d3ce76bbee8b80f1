-- Each return of the judgement of a memory.
-- Assumes nothing.
use Prim.Native.Nat.{ℕ, ◌≤◌}
use mathlib.Core.Path.{◌≡◌, sym, ap, ◌∙◌, subst}
use mathlib.Core.List.{List, [], reverse, reverse-reverse}
use mathlib.Core.Bool.{true, false}
use native.Mathlib.Omega.{arith}
use Rattle.std.specs.Prelude.{Some, None}
use Rattle.std.specs.Prelude.{Option as Optional}
use lib.ListN.{length}
use Rattle.rules.specs.Statements.{Statement}
use Rattle.rules.specs.Judgement.{Past}
use Rattle.rules.specs.Session.{Rename}
use Rattle.rules.specs.Layout.{Memory, rooms}
use Rattle.lists.specs.Tests.{never}
use Rattle.context.specs.Place.{wires_in, place_of}
use Rattle.context.specs.Sizes.{sizes_by, sums_of}
use Rattle.context.specs.declared.place.Place.{Place}
use Rattle.context.specs.declared.sizes.Sizes.{Sizes}
use Rattle.context.specs.declared.sizes.Standing.{Standing}
use Rattle.admitted.specs.AdmitLaws.{admitted-within}
use Rattle.admitted.specs.Holds.{Holds}
use Rattle.row_statements.specs.Reads.{PartTables}
use Rattle.replay.specs.Begins.{Stored, Replays, IndexLeft}
use Rattle.name_index.specs.Index.{key_at, Indexed}
use Rattle.replay.specs.OneLaws.{stored_one}
use Rattle.rename_rules.specs.Judged.{Lies}
use Rattle.memory_check.specs.Renamed.{RenamesAre}
use Rattle.netlist.specs.Lengths.{right_sizes, right_lengths, sizes-exact}
use Rattle.memory_check.specs.Held.{rest_zero, HeldIs}
use Rattle.memory_check.specs.RenameLaws.{file-one}
use Rattle.memory_check.specs.HeldLaws.{parts_of, holds-many, holds-room, holds-laid, holds-sizes, holds-rest, holds-stored, stored-lies, lies-holds}

pub names-short : (names strings bits wires rows : ℕ) → right_sizes names strings bits wires rows ≡ true → names ≤ 16384
names-short names strings bits wires rows e = omega (arith, (sizes-exact names strings bits wires rows e).0)

-- the index that the replay leaves is of the place's rows
pub index_kept :
    (heads chain names rows : List ℕ) {x : Standing} (o : Optional Standing) → IndexLeft heads chain names rows o → o ≡ Some x →
    Indexed heads chain (key_at names rows) x.place.rows
unfolding IndexLeft
index_kept heads chain names rows o h e = rw e at h

pub few-wires : (t : PartTables) (rows : List ℕ) (o : Optional Standing) (x : Standing) → Replays t rows o → o ≡ Some x → x.place.wires ≤ 512
unfolding Replays place_of wires_in sums_of sizes_by
few-wires t rows o x r e =
    let f = rw e at r in
    subst (λ (p : Place). p.wires ≤ 512) f.2 (admitted-within f.0 f.1.admits).wires

module _ (m : Memory) where
  pub other-sizes : right_lengths m ≡ false → HeldIs m None
  unfolding HeldIs
  other-sizes e ss rs h = never (right_lengths m) (holds-sizes h) e

  module _ (o : Optional Standing) (r : Replays (parts_of m) m.rows o) where
    pub no-statements : o ≡ None → HeldIs m None
    unfolding HeldIs Replays
    no-statements e ss rs h = let f = rw e at r in f (reverse ss) (holds-stored h)

    module _ (behind : Standing) (e : o ≡ Some behind) where
      abbrev p : Place
      p = behind.place

      abbrev u : Sizes
      u = behind.sums

      found : (ss : Past) × Stored (parts_of m) m.rows ss × (place_of ss ≡ p) × (sums_of ss ≡ u)
      unfolding Replays
      found = rw e at r

      module _ {ss : List Statement} {rs : List Rename} (h : Holds m ss rs) where
        same-past : reverse ss ≡ found.0
        same-past = stored_one (holds-stored h) found.1

        same_place : place_of (reverse ss) ≡ p
        same_place = ap place_of same-past ∙ found.2

        same-sums : sums_of (reverse ss) ≡ u
        same-sums = ap sums_of same-past ∙ found.3

        lies : Lies m.names m.wires m.rows p 0 u.name_bytes ss []
        lies = stored-lies m ss p u (holds-stored h) same_place same-sums

      pub rest-left : rest_zero m p u ≡ false → HeldIs m None
      unfolding HeldIs
      rest-left z ss rs h = never (rest_zero m p u) (holds-rest h p u (same_place h) (same-sums h)) z

      module _ (s : Optional ℕ) (k : RenamesAre m.names m.wires m.rows p m.renames u.name_bytes s) where
        pub no-renames-there : s ≡ None → HeldIs m None
        unfolding HeldIs RenamesAre
        no-renames-there d ss rs h = let f = rw d at k in f ss (lies h) rs h.allowed (holds-laid h) (holds-many h)

        module _ (n : ℕ) (d : s ≡ Some n) where
          room-is : {ss : List Statement} {rs : List Rename} → Holds m ss rs → n ≡ m.room
          unfolding RenamesAre
          room-is {ss} {rs} h =
              let f = rw d at k in
              let z = f ss (lies h) in
              let c : length rs ≡ length z.0 = holds-many h ∙ sym z.1.standing in
              let q : rs ≡ z.0 = file-one ss rs z.0 c (holds-laid h) z.1.laid in
              sym z.1.room ∙ ap (λ (l : List Rename). length (rooms ss l).names) (sym q) ∙ holds-room h

          pub other-room : (n ≡ m.room → ⊥) → HeldIs m None
          unfolding HeldIs
          other-room b ss rs h = b (room-is h)

          pub memory-holds : n ≡ m.room → right_lengths m ≡ true → rest_zero m p u ≡ true → HeldIs m (Some behind)
          unfolding HeldIs RenamesAre
          memory-holds b z r₀ =
              let f = rw d at k in
              let ss : List Statement = reverse found.0 in
              let w : reverse ss ≡ found.0 = reverse-reverse found.0 in
              let t : Stored (parts_of m) m.rows (reverse ss) = subst (Stored (parts_of m) m.rows) (sym w) found.1 in
              let ep : place_of (reverse ss) ≡ p = ap place_of w ∙ found.2 in
              let eu : sums_of (reverse ss) ≡ u = ap sums_of w ∙ found.3 in
              let x = f ss (stored-lies m ss p u t ep eu) in
              (ss, x.0, lies-holds m ss p u t ep eu x.0 (rw b at x.1) x.2 z r₀, ep, eu)
