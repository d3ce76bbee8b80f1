-- Calls made one after another on memory that holds a design.
-- Assumes nothing.
use Prim.Native.Nat.{ℕ, suc, ◌+◌, ◌-◌, ◌*◌, ◌/◌, ◌≤◌, ◌<◌}
use mathlib.Core.Path.{◌≡◌, refl, sym, ap, ap₂, ◌∙◌}
use mathlib.Core.List.{List, [], ◌∷◌, ◌++◌, flat_map, append_assoc, append-nil}
use native.Mathlib.Omega.{arith}
use lib.ListN.{length, get_or, set, length-append}
use lib.Seq.{slice}
use borrow.Author.Tests.{eq-eqb, ne_eqb}
use Rattle.rules.specs.Statements.{Statement}
use Rattle.rules.specs.Design.{design}
use Rattle.rules.specs.Session.{Rename, Call, call, answer_of, standing, plain_session}
use Rattle.rules.specs.Layout.{Memory, layout}
use Rattle.lists.specs.Lists.{flat_map-snoc}
use Rattle.tables.specs.Store.{store, store-none, store-more, store_then}
use Rattle.admitted.specs.Holds.{Holds}
use Rattle.netlist.specs.Results.{Result, result}
use Rattle.memory_check.specs.OneLaws.{holds-one}
use Rattle.session.specs.Called.{CalledAs}
use Rattle.theorems.specs.DamagedMemory.{Held}
use Rattle.calls.specs.Calls.{call_word, rename_at, call_at, calls_from, calls_in, answer_words, answered}
use Rattle.calls.specs.Steps.{MadeAs}
use Rattle.calls.specs.StepLaws.{answer_in, Stepped, called}

-- THE ANSWERS
two-each : (done : List (ℕ × ℕ)) → length (flat_map answer_words done) ≡ 2 * length done
unfolding flat_map
two-each [] = refl
two-each (a ∷ done) = omega (arith, two-each done)

answered-more :
    (old : List ℕ) (done : List (ℕ × ℕ)) (a : ℕ × ℕ) → answered old (done ++ a ∷ []) ≡ store (answered old done) (2 * length done) (answer_words a)
unfolding answered
answered-more old done a =
    let ws = flat_map answer_words done in
    let now = answered old done in
    let end = 2 * length done in
    ap (store old 0) (flat_map-snoc answer_words done a)
    ∙ sym (store_then old now (store now end (answer_words a)) 0 end ws (answer_words a) refl (omega (arith, two-each done)) refl)

pub put_two : (old mid new : List ℕ) (at n p : ℕ) → mid ≡ set old at n → new ≡ set mid (at + 1) p → new ≡ store old at (answer_words (n, p))
unfolding store
put_two old mid new at n p em en = en ∙ store-more old mid at (at + 1) p (n ∷ []) (n ∷ p ∷ []) em (omega arith) refl

-- THE WORDS OF A CALL
module _ (calls texts : List ℕ) (i w : ℕ) (e : w ≡ get_or calls (5 * i) 0) where
  kind-is : call_word calls texts i 0 ≡ w
  unfolding call_word
  kind-is = ap (λ (k : ℕ). get_or calls k 0) (omega arith) ∙ sym e

  pub call-undo : (w ≡ 1 → ⊥) → call_at calls texts i ≡ Call.undo
  unfolding call_at
  call-undo h = rw (kind-is, ne_eqb w 1 h)

  pub call-rename :
      w ≡ 1 → (m x s k : ℕ) (n : List ℕ) → m ≡ get_or calls (5 * i + 1) 0 → x ≡ get_or calls (5 * i + 2) 0 → s ≡ get_or calls (5 * i + 3) 0 → k ≡ get_or calls (5 * i + 4) 0 →
      n ≡ slice s (s + k) texts → call_at calls texts i ≡ Call.rename (record { module_number = m; wire_number = x; new_name = n })
  unfolding call_at rename_at call_word
  call-rename h m x s k n em ex es ek en = rw (kind-is, eq-eqb w 1 h, en, es, ek, em, ex)

-- THE CALLS SO FAR, and those to come
pub record Going (start : Memory) (old : List ℕ) (cs more : List Call) (i : ℕ) (m : Memory) (answers : List ℕ) : Type 0 where
  pub statements : List Statement
  pub first : List Rename
  pub started : Holds start statements first
  pub renames : List Rename
  pub holds : Holds m statements renames
  pub done : List (ℕ × ℕ)
  pub many : length done ≡ i
  pub answers-are : answers ≡ answered old done
  pub given : (plain_session (design statements) first cs).0 ≡ done ++ (plain_session (design statements) renames more).0
  pub ends : (plain_session (design statements) first cs).1 ≡ (plain_session (design statements) renames more).1

pub going_start : (m : Memory) → Held m → (old : List ℕ) (cs more : List Call) → cs ≡ more → Going m old cs more 0 m old
unfolding answered flat_map
going_start m o old cs more e =
    record {
      statements = o.statements;
      first = o.renames;
      started = o.holds;
      renames = o.renames;
      holds = o.holds;
      done = [];
      many = refl;
      answers-are = sym (store-none old 0);
      given = ap (λ (l : List Call). (plain_session (design o.statements) o.renames l).0) e;
      ends = ap (λ (l : List Call). (plain_session (design o.statements) o.renames l).1) e;
    }

module _ {start : Memory} {old : List ℕ} {cs more : List Call} {i : ℕ} {m : Memory} {answers : List ℕ} (g : Going start old cs more i m answers) where
  pub going_step :
      (c : Call) (rest : List Call) → more ≡ c ∷ rest → (r : Result) → CalledAs m c r →
      (answers' : List ℕ) → answers' ≡ store answers (2 * i) (answer_words (answer_in r)) → Going start old cs rest (i + 1) r.memory answers'
  unfolding plain_session
  going_step c rest e r k answers' ea =
      let d = design g.statements in
      let v = call d g.renames c in
      let s : Stepped g.statements g.renames c r = called g.holds c r k in
      let n : ℕ × ℕ = answer_of v in
      let t = plain_session d (standing g.renames v) rest in
      record {
        statements = g.statements;
        first = g.first;
        started = g.started;
        renames = standing g.renames v;
        holds = s.holds;
        done = g.done ++ n ∷ [];
        many = length-append g.done (n ∷ []) ∙ ap (λ (k : ℕ). k + 1) g.many;
        answers-are =
            ea
            ∙ ap₂ (λ (l : List ℕ) (a : ℕ × ℕ). store l (2 * i) (answer_words a)) g.answers-are s.answer-is
            ∙ ap (λ (k : ℕ). store (answered old g.done) (2 * k) (answer_words n)) (sym g.many)
            ∙ sym (answered-more old g.done n);
        given =
            g.given
            ∙ ap (λ (l : List Call). g.done ++ (plain_session d g.renames l).0) e
            ∙ sym (append_assoc g.done (n ∷ []) t.0);
        ends = g.ends ∙ ap (λ (l : List Call). (plain_session d g.renames l).1) e;
      }

  pub going_end : more ≡ [] → MadeAs start old cs (result 0 0 m) answers
  unfolding plain_session
  going_end e ss rs h =
      let o = holds-one g.started h in
      let d = design g.statements in
      let a : (plain_session d g.first cs).0 ≡ g.done =
      g.given ∙ ap (λ (l : List Call). g.done ++ (plain_session d g.renames l).0) e ∙ append-nil g.done in
      let b : (plain_session d g.first cs).1 ≡ g.renames = g.ends ∙ ap (λ (l : List Call). (plain_session d g.renames l).1) e in
      let p : (result 0 0 m ≡ result 0 0 (layout g.statements (plain_session d g.first cs).1)) × (answers ≡ answered old (plain_session d g.first cs).0) =
      (ap (result 0 0) (sym g.holds.is ∙ ap (layout g.statements) (sym b)), g.answers-are ∙ ap (answered old) (sym a)) in
      rw (← o.0, ← o.1) p

-- the calls in their words
module _ (calls texts : List ℕ) where
  pub calls-start : calls_in calls texts ≡ calls_from calls texts (length calls / 5 - 0) 0
  unfolding calls_in
  calls-start = ap (λ (k : ℕ). calls_from calls texts k 0) (omega arith)

  pub calls-next : (many i : ℕ) → i < many → calls_from calls texts (many - i) i ≡ call_at calls texts i ∷ calls_from calls texts (many - (i + 1)) (i + 1)
  unfolding calls_from
  calls-next many i h =
      let e : many - i ≡ suc (many - (i + 1)) = omega arith in
      ap (λ (k : ℕ). calls_from calls texts k i) e

  pub calls-end : (many i : ℕ) → many ≤ i → calls_from calls texts (many - i) i ≡ []
  unfolding calls_from
  calls-end many i h = let e : many - i ≡ 0 = omega arith in ap (λ (k : ℕ). calls_from calls texts k i) e
