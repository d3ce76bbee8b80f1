-- The statements so far: what they give the next line, and what its statement adds to them.
-- Assumes nothing.
use Prim.Native.Nat.{ℕ, ◌*◌, ◌≤◌, ◌<◌}
use mathlib.Core.Path.{◌≡◌, refl, sym, ap, ◌∙◌, subst, ap₂}
use mathlib.Core.Bool.{true}
use mathlib.Core.List.{List, [], ◌∷◌}
use mathlib.Core.Option.{Option, none, some, map}
use native.Mathlib.Omega.{arith}
use lib.ListN.{length}
use Rattle.std.specs.Prelude.{Some, None, Ok, Err, Result, Option as Optional}
use Rattle.rules.specs.Lines as rules
use Rattle.rules.specs.Statements as statements
use Rattle.rules.specs.Statements.{Step as Stepping, Signal, code, contents, statements_open}
use Rattle.rules.specs.Judgement.{Past}
use Rattle.rules.specs.Reading as reading
use Rattle.rules.specs.Reading.{outcome, next, skipped}
use Rattle.rules.specs.Layout.{memory, used, padded}
use Rattle.rules.specs.Layout as rooms
use Rattle.tables.specs.Padded.{length-padded}
use Rattle.tables.specs.Flat.{flat, Eights, length-flat}
use Rattle.context.specs.Place.{place_of, step_of, AfterIs}
use Rattle.context.specs.Sizes.{sums_of, Within}
use Rattle.context.specs.declared.place.Place.{Place}
use Rattle.context.specs.declared.sizes.Sizes.{Sizes}
use Rattle.context.specs.declared.sizes.Standing.{Standing}
use Rattle.context.proofs.PlaceLaws.{bounds, place-rows}
use Rattle.context.proofs.SizeLaws.{same-wires}
use Rattle.admitted.specs.Admitted.{admitted}
use Rattle.admitted.specs.AdmitLaws.{admitted-offsets, admitted-within, admitted-few}
use Rattle.netlist.specs.Laid.{rooms_of, Laid, Wired}
use Rattle.name_index.specs.Index.{LinesIndexed}
use Rattle.name_index.specs.LaidLaws.{lines-grown}
use Rattle.netlist.specs.LaidLaws.{laid-padded, eights-rows}
use Rattle.netlist.specs.WireLaws.{eights-wires, wires-past, wired-padded}
use Rattle.syntax.specs.Statements.{fault_of, signals_in, statement_in, kind_in, Sound}
use Rattle.netlist.specs.Steps.{step_named}
use Rattle.netlist.specs.StepLaws.{by-named}
use Rattle.syntax.specs.declared.Statement.{Statement}
use Rattle.syntax.specs.declared.Statement.TheVariants.{Autoidx, Attribute, Module, Parameter, Wire, Memory, Cell, CellParameter, CellConnection, Connection, Step as StepOf, End, Process}
use Rattle.netlist.specs.Tables.{Tables}
use Rattle.layout.specs.Put.{tables_of, RoomFor}
use Rattle.layout.specs.RoomLaws.{tables-put}
use Rattle.layout.specs.Stored as stored
use Rattle.layout.specs.Stored.{Sized, PutIs}
use Rattle.netlist.specs.declared.used.Used.{Used}
use Rattle.netlist.specs.Used.{used_of, used_by}
use Rattle.netlist.specs.UsedLaws.{used-past, used-wires}
use Rattle.layout.proofs.PastLaws.{room-past}
use Rattle.netlist.specs.declared.results.Refused.{Refused}
use Rattle.judgement.specs.Judged.{Stands}
use Rattle.judgement.specs.declared.Stated.{Stated}
use Rattle.soundness.specs.ReadLaws.{states-admitted}
use Rattle.steps.specs.SearchLaws.{admitted-single}
use Rattle.reading_step.specs.Steps.{PlaceFits, step_in, States, AnswerIs, Storable, Done, Goes, StepIndexed}

-- ---- what the statements so far give

fits-past : (ss : Past) → Within (sums_of ss) → PlaceFits (place_of ss) (sums_of ss)
fits-past ss w = record { within = w; bounds = bounds ss; few = omega (arith, same-wires ss, w.wires) }

stands-past : (ss : Past) → admitted ss ≡ true → let m = memory (rooms_of ss) 0 in Stands ss (place_of ss) (sums_of ss) m.names m.wires m.rows
unfolding memory
stands-past ss a =
    record { place_is = refl; sums-are = refl; laid = laid-padded 16384 (8 * 6945) (rooms_of ss); wires-are = wires-past ss 0 (admitted-offsets ss a); single = admitted-single ss a }

flat-long : (n k : ℕ) (rs : List (List ℕ)) → Eights rs → length rs ≤ k → n ≡ 8 * k → length (padded n (flat rs)) ≡ n
flat-long n k rs h l e = length-padded n (flat rs) (omega (arith, length-flat rs h))

sized_past : (ss : Past) → admitted ss ≡ true → Sized (tables_of (memory (rooms_of ss) 0))
unfolding tables_of memory used place_of
sized_past ss a =
    let w : Within (sums_of ss) = admitted-within ss a in
    let q : used (rooms_of ss) ≡ used_by (place_of ss) (sums_of ss) = used-past ss in
    record {
      names = length-padded 16384 _ (omega (arith, ap (λ (u : rooms.Used). u.names) q, w.name-bytes));
      strings = length-padded 8192 _ (omega (arith, ap (λ (u : rooms.Used). u.strings) q, w.string-bytes));
      bits = length-padded 16384 _ (omega (arith, ap (λ (u : rooms.Used). u.bits) q, w.value-bits, w.signal-bits));
      wires = flat-long (8 * 512) 512 _ (eights-wires ss) (omega (arith, ap (λ (u : rooms.Used). u.wires) q, same-wires ss, w.wires)) refl;
      rows = flat-long (8 * 6945) 6945 _ (eights-rows ss) (omega (arith, ap (λ (u : rooms.Used). u.rows) q, admitted-few ss a)) refl;
    }

module _ {ss : Past} {p : Place} {u : Sizes} {t : Tables} (d : Done ss p u t) where
  pub done-fits : PlaceFits p u
  done-fits = rw (← d.place_is, ← d.sums-are) (fits-past ss (admitted-within ss d.admits))

  pub done-stands : Stands ss p u t.names t.wires t.rows
  unfolding tables_of
  done-stands =
      subst (λ (x : Tables). Stands ss p u x.names x.wires x.rows) (sym d.tables-are)
      (rw (← d.place_is, ← d.sums-are) (stands-past ss d.admits))

  pub done-sized : Sized t
  done-sized = rw d.tables-are (sized_past ss d.admits)

  pub done-few : p.rows ≤ 6881
  done-few = omega (arith, place-rows ss d.place_is, admitted-few ss d.admits)

  pub done-wires : p.wires < 513
  done-wires = rw (← d.place_is) (omega (arith, same-wires ss, (admitted-within ss d.admits).wires))

  pub done-rows : p.rows < 4294967295
  done-rows = omega (arith, place-rows ss d.place_is, admitted-few ss d.admits)

-- ---- one statement more

same_some : {A : Type 0} (o : Option A) (x y : A) → o ≡ some x → o ≡ some y → x ≡ y
same_some o x y e h = cc

-- the kind of the statement that an answer stands for
kind-some : (f s : List ℕ) (r : Statement) (x y : statements.Statement) → statement_in f s r ≡ some y → (contents y).kind ≡ kind_in r → statement_in f s r ≡ some x → kind_in r ≡ (contents x).kind
kind-some f s r x y e k h = sym k ∙ ap (λ (z : statements.Statement). (contents z).kind) (same_some (statement_in f s r) y x e h)

kind-step : (o : Option Stepping) (xs : List Signal) (x : statements.Statement) → map (λ q. statements.step-stmt q xs) o ≡ some x → statements.a_step ≡ (contents x).kind
unfolding statements_open
kind-step none xs x e = cc
kind-step (some q) xs x e = ap (λ (z : statements.Statement). (contents z).kind) (same_some (some (statements.step-stmt q xs)) _ x refl e)

kind-is : (f s : List ℕ) (r : Statement) (x : statements.Statement) → statement_in f s r ≡ some x → kind_in r ≡ (contents x).kind
unfolding statement_in kind_in statements_open
kind-is f s (Autoidx w) x e = kind-some f s (Autoidx w) x _ refl refl e
kind-is f s (Attribute n c) x e = kind-some f s (Attribute n c) x _ refl refl e
kind-is f s (Module n) x e = kind-some f s (Module n) x _ refl refl e
kind-is f s (Parameter n c) x e = kind-some f s (Parameter n c) x _ refl refl e
kind-is f s (Wire n w o k p) x e = kind-some f s (Wire n w o k p) x _ refl refl e
kind-is f s (Memory n w z o) x e = kind-some f s (Memory n w z o) x _ refl refl e
kind-is f s (Cell k n) x e = kind-some f s (Cell k n) x _ refl refl e
kind-is f s (CellParameter o n c) x e = kind-some f s (CellParameter o n c) x _ refl refl e
kind-is f s (CellConnection n w l) x e = kind-some f s (CellConnection n w l) x _ refl refl e
kind-is f s (Connection a b l) x e = kind-some f s (Connection a b l) x _ refl refl e
kind-is f s (StepOf p w n l) x e = kind-step (step_named p) (signals_in s w n) x e
kind-is f s End x e = kind-some f s End x _ refl refl e
kind-is f s (Process n) x e = kind-some f s (Process n) x _ refl refl e

-- and its step
steps-some : (f s : List ℕ) (r : Statement) (x y : statements.Statement) → statement_in f s r ≡ some y → (contents y).steps ≡ [] → statement_in f s r ≡ some x → 0 ≡ step_of (contents x).steps
unfolding step_of
steps-some f s r x y e k h = ap step_of (sym k ∙ ap (λ (z : statements.Statement). (contents z).steps) (same_some (statement_in f s r) y x e h))

steps-step : (t : ℕ) (xs : List Signal) (x : statements.Statement) → map (λ q. statements.step-stmt q xs) (step_named t) ≡ some x → t ≡ step_of (contents x).steps
unfolding statements_open step_of
steps-step t xs x e = by-named t (λ o. map (λ q. statements.step-stmt q xs) o ≡ some x → t ≡ step_of (contents x).steps) (λ h. cc)
    (λ q n h. sym n ∙ ap (λ (z : statements.Statement). step_of (contents z).steps) (same_some (some (statements.step-stmt q xs)) _ x refl h)) e

step_is : (f s : List ℕ) (r : Statement) (x : statements.Statement) → statement_in f s r ≡ some x → step_in r ≡ step_of (contents x).steps
unfolding statement_in step_in statements_open
step_is f s (Autoidx w) x e = steps-some f s (Autoidx w) x _ refl refl e
step_is f s (Attribute n c) x e = steps-some f s (Attribute n c) x _ refl refl e
step_is f s (Module n) x e = steps-some f s (Module n) x _ refl refl e
step_is f s (Parameter n c) x e = steps-some f s (Parameter n c) x _ refl refl e
step_is f s (Wire n w t k p) x e = steps-some f s (Wire n w t k p) x _ refl refl e
step_is f s (Memory n w z t) x e = steps-some f s (Memory n w z t) x _ refl refl e
step_is f s (Cell k n) x e = steps-some f s (Cell k n) x _ refl refl e
step_is f s (CellParameter o n c) x e = steps-some f s (CellParameter o n c) x _ refl refl e
step_is f s (CellConnection n w l) x e = steps-some f s (CellConnection n w l) x _ refl refl e
step_is f s (Connection a b l) x e = steps-some f s (Connection a b l) x _ refl refl e
step_is f s (StepOf p w n l) x e = steps-step p (signals_in s w n) x e
step_is f s End x e = steps-some f s End x _ refl refl e
step_is f s (Process n) x e = steps-some f s (Process n) x _ refl refl e

laid-now : (ss : Past) (t : Tables) → t ≡ tables_of (memory (rooms_of ss) 0) → Laid (rooms_of ss) t.names t.rows
unfolding tables_of memory
laid-now ss t e = rw e (laid-padded 16384 (8 * 6945) (rooms_of ss))

wired-now : (ss : Past) (t : Tables) → t ≡ tables_of (memory (rooms_of ss) 0) → Wired (rooms_of ss) t.names t.wires
unfolding tables_of memory
wired-now ss t e = rw e (wired-padded 16384 (8 * 512) (rooms_of ss))

wires-now : (ss : Past) {p : Place} → place_of ss ≡ p → p.wires ≡ length (rooms_of ss).wires
unfolding place_of
wires-now ss e = sym (used-wires ss ∙ ap (λ (q : Place). q.wires) e)

module _ {ss : Past} {p : Place} {u : Sizes} {t : Tables} (d : Done ss p u t) (l : rules.Line) (f s : List ℕ)
    {x : Result (Optional Stated) Refused} {a : Optional Stated} {z : Stated} (was : x ≡ Ok a) (given : a ≡ Some z) (st : AnswerIs ss l f s x) (sound : Storable f x) where
  abbrev r : Statement
  r = z.statement

  abbrev more : Sizes
  more = z.sums

  is : x ≡ Ok (Some z)
  is = was ∙ ap (λ (o : Optional Stated). Ok o) given

  states : States ss l f s r more
  states = subst (AnswerIs ss l f s) is st

  storable : Sound f r × (fault_of r ≡ 0) × Within more
  storable = subst (Storable f) is sound

  -- what is used by the place and the sums is what the rooms hold
  used-rooms : (v : Used) → used_of v ≡ used_by p u → used_of v ≡ used (rooms_of ss)
  used-rooms v us = us ∙ sym (used-past ss ∙ ap₂ used_by d.place_is d.sums-are)

  room : (v : Used) → used_of v ≡ used_by p u → (y : statements.Statement) → statement_in f s r ≡ some y → RoomFor (used_of v) y
  room v us y e =
      let q : states.statement ≡ y = same_some (statement_in f s r) _ y states.stated e in
      rw (used-rooms v us)
      (room-past ss y (rw (← q, states.sums-are) storable.2) (omega (arith, admitted-few ss d.admits)))

  pub put-storable : (v : Used) → used_of v ≡ used_by p u → length s ≡ 43008 → stored.Storable f s r v t
  put-storable v us k =
      record { sound = storable.0; settled = storable.1; room = room v us; sized = done-sized d; scratch = omega arith }

  tables-now : (v : Used) (t' : Tables) → used_of v ≡ used_by p u → PutIs f s r v t t' → t' ≡ tables_of (memory (rooms_of (states.statement ∷ ss)) 0)
  unfolding rooms_of
  tables-now v t' us put =
      let y : statements.Statement = states.statement in
      tables-put (rooms_of ss) y 0 (used_of v) t t' d.tables-are (used-rooms v us) (record { wires = eights-wires ss; rows = eights-rows ss })
      (room v us y states.stated) (rw states.stated at put)

  -- the names that are indexed stay so
  pub step-indexed :
      (v : Used) (t' : Tables) → used_of v ≡ used_by p u → PutIs f s r v t t' → (heads chain : List ℕ) →
      LinesIndexed heads chain t.names t.wires t.rows p.rows p.wires → LinesIndexed heads chain t'.names t'.wires t'.rows p.rows p.wires
  step-indexed v t' us put heads chain x =
      let y : statements.Statement = states.statement in
      let e : t' ≡ tables_of (memory (rooms_of (y ∷ ss)) 0) = tables-now v t' us put in
      lines-grown heads chain y ss p.rows p.wires (sym (place-rows ss d.place_is)) (wires-now ss d.place_is) (laid-now ss t d.tables-are)
      (laid-now (y ∷ ss) t' e) (wired-now ss t d.tables-are) (wired-now (y ∷ ss) t' e) x

  pub step-stated : (v : Used) (t' : Tables) (k g : ℕ) (q : Place) → used_of v ≡ used_by p u → PutIs f s r v t t' → k ≡ code (kind_in r) → g ≡ step_in r → AfterIs p k g q → Goes ss l q more t'
  unfolding next rooms_of
  step-stated v t' k g q us put e h after =
      let y : statements.Statement = states.statement in
      record {
        past = y ∷ ss;
        done = record {
          admits = states-admitted ss l y states.is d.admits;
          place_is = after ss y (sym d.place_is) (e ∙ ap code (kind-is f s r y states.stated)) (h ∙ step_is f s r y states.stated);
          sums-are = states.sums-are;
          tables-are = tables-now v t' us put;
        };
        goes = λ m. ap (next m ss) states.is;
      }

module _ {ss : Past} {p : Place} {u : Sizes} {t : Tables} (d : Done ss p u t) (l : rules.Line) (f s : List ℕ) {x : Result (Optional Stated) Refused} (st : AnswerIs ss l f s x) where
  pub step-skipped : (a : Optional Stated) → x ≡ Ok a → ((z : Stated) → a ≡ Some z → ⊥) → Goes ss l p u t
  unfolding next
  step-skipped None e h =
      let o : outcome ss l ≡ skipped = subst (AnswerIs ss l f s) e st in record { past = ss; done = d; goes = λ m. ap (next m ss) o }
  step-skipped (Some z) e h = absurd (h z refl)

  pub step-refused : (r : Refused) → x ≡ Err r → outcome ss l ≡ reading.Outcome.refused r.number r.place
  step-refused r e = subst (AnswerIs ss l f s) e st

-- what is neither skipped nor stated is refused
pub refused-left : (x : Result (Optional Stated) Refused) → (x ≡ Ok None → ⊥) → ((r : Stated) → x ≡ Ok (Some r) → ⊥) → (e : Refused) × (x ≡ Err e)
refused-left (Ok None) h k = absurd (h refl)
refused-left (Ok (Some r)) h k = absurd (k r refl)
refused-left (Err e) h k = (e, refl)

pub next-indexed :
    {heads chain names wires rows : List ℕ} {r : Result Standing Refused} {x : Standing} → r ≡ Ok x → StepIndexed heads chain names wires rows r →
    LinesIndexed heads chain names wires rows x.place.rows x.place.wires
next-indexed {heads} {chain} {names} {wires} {rows} e x = subst (StepIndexed heads chain names wires rows) e x
