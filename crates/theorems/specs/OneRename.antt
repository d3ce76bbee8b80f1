-- ONE RENAME: an accepted rename gives the wire called for exactly the new name, changes nothing else of the design and stands until undone; an accepted undo
-- ends the youngest that stands. Assumes nothing.
use Rattle.std.specs.Prelude.{ℕ, ◌≡◌, ◌⊎◌, false, ◌&&◌, eqb}
use Rattle.std.proofs.Math.Path.{refl, sym, ap}
use Rattle.std.proofs.Common.{◌∙◌}
use Rattle.std.proofs.Math.Logic.{inl, inr}
use mathlib.Core.List.{List, [], ◌∷◌, ◌++◌, map, append_assoc, append-nil, drop_last}
use Rattle.std.proofs.Math.Option
use Rattle.std.proofs.Math.Option.{some}
use borrow.Author.Tests.{eq-eqb}
use Rattle.rules.specs.Bytes.{all}
use Rattle.rules.specs.Statements.{Wire}
use Rattle.rules.specs.Judgement.{accepted}
use Rattle.rules.specs.Design.{Object, object, Module, Design}
use Rattle.rules.specs.Session.{Rename, wire_at, rename_wire, renamed, now, Call, rename, undo, rename_call, undo_call, call, standing, plain_session}
use Rattle.canonical.specs.RenamedFine.{map-change, undo-last, accepted-keeps}
use Rattle.modules.specs.Now.{renames, wire_now}
use Rattle.modules.specs.NowLaws.{wire-now, wire-last}
use Rattle.admitted.specs.JudgeLaws.{by-verdict}
use Rattle.theorems.specs.StandingLaws.{undone}

-- the design without the names of its wires
unfoldable pub nameless : Object Wire → Object Wire
nameless o = object o.attributes [] o.body

unfoldable pub module_nameless : Object Module → Object Module
module_nameless o =
    object o.attributes o.name
    (record {
      parameters = o.body.parameters;
      wires = map nameless o.body.wires;
      memories = o.body.memories;
      cells = o.body.cells;
      processes = o.body.processes;
      connections = o.body.connections;
    })

unfoldable pub design_nameless : Design → Design
design_nameless d = record { autoidx = d.autoidx; modules = map module_nameless d.modules }

-- NOTHING ELSE: names of wires apart, the design is as it was read
module-kept : (r : Rename) (o : Object Module) → module_nameless (object o.attributes o.name (rename_wire r o.body)) ≡ module_nameless o
unfolding module_nameless rename_wire nameless
module-kept r o = rw (map-change (λ w. object w.attributes r.new_name w.body) nameless (λ w. refl) r.wire_number o.body.wires)

renamed-kept : (r : Rename) (d : Design) → design_nameless (renamed r d) ≡ design_nameless d
unfolding design_nameless renamed
renamed-kept r d = rw (map-change _ module_nameless (module-kept r) r.module_number d.modules)

pub nothing-else : (rs : List Rename) (d : Design) → design_nameless (now d rs) ≡ design_nameless d
unfolding now
nothing-else [] d = refl
nothing-else (r ∷ rs) d = nothing-else rs (renamed r d) ∙ renamed-kept r d

-- AN ACCEPTED RENAME
pub record Renames (d : Design) (rs : List Rename) (r : Rename) (qs : List Rename) : Type 0 where
  pub listed : qs ≡ rs ++ r ∷ []
  pub wire : Object Wire
  pub before : wire_at (now d rs) r.module_number r.wire_number ≡ some wire
  pub after : wire_at (now d qs) r.module_number r.wire_number ≡ some (object wire.attributes r.new_name wire.body)
  pub others : (m w : ℕ) → (eqb r.module_number m && eqb r.wire_number w) ≡ false → wire_at (now d qs) m w ≡ wire_at (now d rs) m w
  pub else_same : design_nameless (now d qs) ≡ design_nameless (now d rs)

module _ (d : Design) (rs : List Rename) (r : Rename) where
  -- the youngest gives its wire its name, and every other wire stays as it was
  renames-by : (o : Object Wire) → wire_at d r.module_number r.wire_number ≡ some o → Renames d rs r (rs ++ r ∷ [])
  unfolding renames
  renames-by o e =
      let m = r.module_number in
      let w = r.wire_number in
      let p : wire_at (now d rs) m w ≡ some (wire_now rs m w o) = wire-now d rs m w ∙ ap (Option.map (wire_now rs m w)) e in
      record {
        listed = refl;
        wire = wire_now rs m w o;
        before = p;
        after = wire-last d rs r m w ∙ rw (eq-eqb m m refl, eq-eqb w w refl, p);
        others = λ m w h. wire-last d rs r m w ∙ rw h;
        else_same = nothing-else (rs ++ r ∷ []) d ∙ sym (nothing-else rs d);
      }

  pub accepted-rename : (qs : List Rename) → rename_call d rs r ≡ accepted qs → Renames d rs r qs
  accepted-rename qs e =
      let k = accepted-keeps d rs qs r e in
      rw (← k.listed) (renames-by k.there.0 k.there.1)

-- AN ACCEPTED UNDO ends the youngest that stands
pub accepted-undo : (rs : List Rename) (r : Rename) → undo_call (rs ++ r ∷ []) ≡ accepted rs
accepted-undo rs r = undo-last rs r

-- IT STANDS UNTIL UNDONE. Undone: among the calls, made where qs are listed, is an undo that meets just rs, and so ends the last of them
pub record Undone (d : Design) (qs rs : List Rename) (cs : List Call) : Type 0 where
  pub earlier : List Call
  pub later : List Call
  pub calls : cs ≡ earlier ++ undo ∷ later
  pub youngest : (plain_session d qs earlier).1 ≡ rs

-- a rename, accepted or refused, leaves those listed where they are
still-listed : (d : Design) (qs : List Rename) (r : Rename) → (ts : List Rename) × (standing qs (call d qs (rename r)) ≡ qs ++ ts)
unfolding call rename_call standing all
still-listed d qs r =
    by-verdict (λ v. (ts : List Rename) × (standing qs v ≡ qs ++ ts)) (qs ++ r ∷ []) _ refl (λ e. (r ∷ [], refl)) (λ n p. ([], sym (append-nil qs)))

-- and so does an undo of one behind them
drop-behind : (rs : List Rename) (t : Rename) (ts : List Rename) → drop_last (rs ++ t ∷ ts) ≡ rs ++ drop_last (t ∷ ts)
drop-behind [] t ts = refl
drop-behind (r ∷ []) t ts = refl
drop-behind (r ∷ q ∷ rs) t ts = ap (λ (l : List Rename). r ∷ l) (drop-behind (q ∷ rs) t ts)

module _ (d : Design) (rs : List Rename) where
  abbrev Stands : List Rename → List Call → Type 0
  Stands qs cs = ((ts : List Rename) × ((plain_session d qs cs).1 ≡ rs ++ ts)) ⊎ Undone d qs rs cs

  one-call : (c : Call) (cs : List Call) (qs : List Rename) → Stands (standing qs (call d qs c)) cs → Stands qs (c ∷ cs)
  unfolding plain_session
  one-call c cs qs (inl (ts, e)) = inl (ts, e)
  one-call c cs qs (inr u) =
      inr (record { earlier = c ∷ u.earlier; later = u.later; calls = ap (λ (l : List Call). c ∷ l) u.calls; youngest = u.youngest })

  stands : (cs : List Call) (qs ts : List Rename) → qs ≡ rs ++ ts → Stands qs cs
  unfolding plain_session call
  stands [] qs ts e = inl (ts, e)
  stands (rename r ∷ cs) qs ts e =
      let n = still-listed d qs r in
      one-call (rename r) cs qs (stands cs (standing qs (call d qs (rename r))) (ts ++ n.0) (n.1 ∙ ap (λ (l : List Rename). l ++ n.0) e ∙ append_assoc rs ts n.0))
  stands (undo ∷ cs) qs [] e = inr (record { earlier = []; later = cs; calls = refl; youngest = e ∙ append-nil rs })
  stands (undo ∷ cs) qs (t ∷ ts) e =
      one-call undo cs qs (stands cs (standing qs (call d qs undo)) (drop_last (t ∷ ts)) (undone qs ∙ ap drop_last e ∙ drop-behind rs t ts))

module _ (d : Design) (rs : List Rename) (r : Rename) where
  -- where the rename r was accepted
  abbrev listed : List Rename
  listed = rs ++ r ∷ []

  -- after any calls behind it, refused ones and undos of younger ones included, it is listed where it was, or it was undone
  pub stands-until-undone : (cs : List Call) → ((ts : List Rename) × ((plain_session d listed cs).1 ≡ listed ++ ts)) ⊎ Undone d listed listed cs
  stands-until-undone cs = stands d listed cs listed [] (sym (append-nil listed))
