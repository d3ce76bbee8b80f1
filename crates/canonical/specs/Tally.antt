-- What may stand only once in a part of the past, as a name in its name space: how often it stands there, and the statements that end the part.
-- Assumes nothing.
use Rattle.std.specs.Prelude.{ℕ, ◌+◌, ◌≤◌, ◌≡◌, refl, Bool, true, false, not, cond, ◌&&◌, eqb}
use mathlib.Core.List.{List, [], ◌∷◌, map, flat_map, reverse_aux, Option-to_list}
use Rattle.std.proofs.Math.Option.{Option, none, some}
use native.Mathlib.Omega.{arith}
use borrow.Author.Tests.{not-true, eqb-true, eq-eqb}
use Rattle.rules.specs.Bytes.{same, any, all}
use Rattle.rules.specs.Tokens.{Name}
use Rattle.rules.specs.Statements.{Wire, Direction, Statement, statements_open, Kind, an_attribute, a_module, a_parameter, a_wire, a_memory, a_cell, a_process, a_cell_parameter, a_cell_connection, code, contents, is, own_name}
use Rattle.rules.specs.Signals.{Wires}
use Rattle.rules.specs.Judgement.{Past, sum, wires, port_numbers, among, Space, space, names_in, only, until, of_module, of_cell, of_object}
use Rattle.lists.specs.Tests.{by-test, and-true-left, and-true-right}
use Rattle.lists.specs.Bytes.{same_refl, same-eq}
use Rattle.lists.specs.Lists.{keeps-before}
use Rattle.lists.specs.Elements.{all_first, all-later}
use Rattle.lists.specs.Sums.{none-sum, sum-none}
use Rattle.context.proofs.PlaceLaws.{wires-none, wires-one, wires-reset}
use Rattle.context.specs.Forms.{by-wire}
use Rattle.admitted.specs.Admitted.{new_ports}
use Rattle.canonical.specs.Fine.{times}

-- a test of each statement after those before it
abbrev pub Through : (Past → Statement → Bool) → Past → Type 0
Through f [] = Unit {0}
Through f (s ∷ ss) = (f ss s ≡ true) × Through f ss

-- I: what is counted; ends: what ends the part
pub record Tally (I : Type 0) : Type 0 where
  pub ends : Statement → Bool
  pub one : I → Statement → ℕ
  pub held : I → Past → ℕ
  pub new : Past → Statement → Bool

pub record Lawful {I : Type 0} (t : Tally I) : Type 0 where
  pub none : (i : I) → t.held i [] ≡ 0
  pub step : (i : I) (s : Statement) (p : Past) → t.ends s ≡ false → t.held i (s ∷ p) ≡ t.one i s + t.held i p
  pub reset : (i : I) (s : Statement) (p : Past) → t.ends s ≡ true → t.held i (s ∷ p) ≡ 0
  pub opens : (s : Statement) (p : Past) → t.ends s ≡ true → t.new p s ≡ true
  pub fits : (s : Statement) (p : Past) → t.new p s ≡ true → ((i : I) → t.held i p ≤ 1) → (i : I) → t.one i s + t.held i p ≤ 1
  pub fresh : (s : Statement) (p : Past) → ((i : I) → t.one i s + t.held i p ≤ 1) → t.new p s ≡ true

-- the past without its last statements
pub through_before : (f : Past → Statement → Bool) (l : List Statement) (p : Past) → Through f (reverse_aux l p) → Through f p
through_before f = keeps-before (Through f) (λ s p h. h.1)

-- what each statement that passes a test keeps, all keep
pub behind-all :
    (Q : Past → Type 0) (f : Statement → Bool) → ((s : Statement) (p : Past) → f s ≡ true → Q p → Q (s ∷ p)) →
    (l : List Statement) (p : Past) → all f l ≡ true → Q p → Q (reverse_aux l p)
behind-all Q f h [] p e q = q
behind-all Q f h (s ∷ l) p e q = behind-all Q f h l (s ∷ p) (all-later f s l e) (h s p (all_first f s l e) q)

module _ {I : Type 0} (t : Tally I) (w : Lawful t) where
  abbrev stays : Statement → Bool
  stays s = not (t.ends s)

  -- it stands there at most once
  pub held-once : (p : Past) → Through t.new p → (i : I) → t.held i p ≤ 1
  held-once [] h i = omega (arith, w.none i)
  held-once (s ∷ p) h i =
      by-test (t.ends s)
      (λ e. omega (arith, w.reset i s p e))
      (λ e. omega (arith, w.step i s p e, w.fits s p h.0 (held-once p h.1) i))

  pub held-behind : (l : List Statement) (p : Past) → all stays l ≡ true → (i : I) → t.held i (reverse_aux l p) ≡ sum (t.one i) l + t.held i p
  unfolding all sum
  held-behind [] p e i = omega arith
  held-behind (s ∷ l) p e i =
      let h = held-behind l (s ∷ p) (and-true-right (stays s) _ e) i in
      omega (arith, h, w.step i s p (not-true (t.ends s) (and-true-left (stays s) _ e)))

  pub through-behind :
      (l : List Statement) (p : Past) → all stays l ≡ true → ((i : I) → sum (t.one i) l + t.held i p ≤ 1) → Through t.new p →
      Through t.new (reverse_aux l p)
  unfolding all sum
  through-behind [] p e b h = h
  through-behind (s ∷ l) p e b h =
      let f = w.fresh s p (λ i. omega (arith, b i)) in
      through-behind l (s ∷ p) (and-true-right (stays s) _ e)
      (λ i. omega (arith, b i, w.step i s p (not-true (t.ends s) (and-true-left (stays s) _ e))))
      (f, h)

  -- a part: the statement that opens it, and those behind it
  module _ (o : Statement) (l : List Statement) (p : Past) (begins : t.ends o ≡ true) (inside : all stays l ≡ true) where
    pub part-once : Through t.new (reverse_aux l (o ∷ p)) → (i : I) → sum (t.one i) l ≤ 1
    part-once h i = omega (arith, held-once (reverse_aux l (o ∷ p)) h i, held-behind l (o ∷ p) inside i, w.reset i o p begins)

    pub part-new : ((i : I) → sum (t.one i) l ≤ 1) → Through t.new p → Through t.new (reverse_aux l (o ∷ p))
    part-new b h = through-behind l (o ∷ p) inside (λ i. omega (arith, b i, w.reset i o p begins)) (w.opens o p begins, h)

-- COUNTING
module _ {A : Type 0} (f : A → Bool) where
  pub times_none : (xs : List A) → any f xs ≡ false → times f xs ≡ 0
  unfolding times
  times_none = none-sum f _ (λ x e. rw e)

  pub none-times : (xs : List A) → times f xs ≡ 0 → any f xs ≡ false
  unfolding times
  none-times = sum-none f _ (λ x e. by-test (f x) (λ q. let z : 1 ≡ 0 = rw q at e in absurd (omega arith)) (λ q. q))

-- NAMES
unfoldable pub name_tally : Space → (Statement → Bool) → Tally Name
name_tally z ends =
    record {
      ends = ends;
      one = λ n s. cond (among z.kinds s) (cond (same n (own_name (contents s).names)) 1 0) 0;
      held = λ n p. times (same n) (names_in z p);
      new = λ p s. not (among z.kinds s && any (same (own_name (contents s).names)) (names_in z p));
    }

once_more :
    (b : Bool) (n m : Name) (ns : List Name) → not (b && any (same m) ns) ≡ true → times (same n) ns ≤ 1 →
    cond b (cond (same n m) 1 0) 0 + times (same n) ns ≤ 1
once_more false n m ns e h = omega arith
once_more true n m ns e h =
    by-test (same n m)
    (λ q. let k = times_none (same m) ns (not-true _ e) in rw (q, same-eq n m q) (omega arith))
    (λ q. rw q (omega arith))

new-once : (b : Bool) (m : Name) (ns : List Name) → cond b (cond (same m m) 1 0) 0 + times (same m) ns ≤ 1 → not (b && any (same m) ns) ≡ true
new-once false m ns h = refl
new-once true m ns h = let k : 1 + times (same m) ns ≤ 1 = rw (same_refl m) at h in rw (none-times (same m) ns (omega arith))

module _ (z : Space) (ends : Statement → Bool) where
  -- the part that a space is told of
  pub record PartOf : Type 0 where
    pub none : z.part [] ≡ []
    pub step : (s : Statement) (p : Past) → ends s ≡ false → z.part (s ∷ p) ≡ s ∷ z.part p
    pub reset : (s : Statement) (p : Past) → ends s ≡ true → z.part (s ∷ p) ≡ []
    pub other : (s : Statement) → ends s ≡ true → among z.kinds s ≡ false

  names-step : (n : Name) (s : Statement) (l : Past) →
      times (same n) (map (λ s. own_name (contents s).names) (only (among z.kinds) (s ∷ l)))
      ≡ (name_tally z ends).one n s + times (same n) (map (λ s. own_name (contents s).names) (only (among z.kinds) l))
  unfolding name_tally only times sum
  names-step n s l = by-test (among z.kinds s) (λ e. rw e) (λ e. rw e (omega arith))

  pub names-lawful : PartOf → Lawful (name_tally z ends)
  unfolding name_tally names_in only times sum
  names-lawful w =
      record {
        none = λ n. rw w.none;
        step = λ n s p e. rw (w.step s p e) (names-step n s (z.part p));
        reset = λ n s p e. rw (w.reset s p e);
        opens = λ s p e. rw (w.other s e);
        fits = λ s p e h n. once_more (among z.kinds s) n (own_name (contents s).names) (names_in z p) e (h n);
        fresh = λ s p h. new-once (among z.kinds s) (own_name (contents s).names) (names_in z p) (h (own_name (contents s).names));
      }

-- the six name spaces
abbrev pub never : Statement → Bool
never s = false

abbrev pub not_attribute : Statement → Bool
not_attribute s = not (is an_attribute s)

abbrev pub module_names : Tally Name
module_names = name_tally (space (a_module ∷ []) (λ ss. ss)) never

abbrev pub object_names : Tally Name
object_names = name_tally (space (a_wire ∷ a_memory ∷ a_cell ∷ a_process ∷ []) of_module) (is a_module)

abbrev pub attribute_names : Tally Name
attribute_names = name_tally (space (an_attribute ∷ []) of_object) not_attribute

abbrev pub parameter_names : Tally Name
parameter_names = name_tally (space (a_parameter ∷ []) of_module) (is a_module)

abbrev pub cell_parameter_names : Tally Name
cell_parameter_names = name_tally (space (a_cell_parameter ∷ []) of_cell) (is a_cell)

abbrev pub cell_port_names : Tally Name
cell_port_names = name_tally (space (a_cell_connection ∷ []) of_cell) (is a_cell)

until-part : (f : Statement → Bool) (ks : List Kind) → ((s : Statement) → f s ≡ true → among ks s ≡ false) → PartOf (space ks (until f)) f
unfolding space until
until-part f ks h = record { none = refl; step = λ s p e. rw e; reset = λ s p e. rw e; other = h }

-- a statement of one kind is not of another
module _ (k : Kind) (ks : List Kind) (g : any (λ l. eqb (code l) (code k)) ks ≡ false) where
  other-kind : (s : Statement) → is k s ≡ true → among ks s ≡ false
  unfolding is among
  other-kind s e = rw (← eqb-true (code k) (code (contents s).kind) e) g

pub module-names-lawful : Lawful module_names
unfolding space
module-names-lawful = names-lawful (space (a_module ∷ []) (λ ss. ss)) never (record { none = refl; step = λ s p e. refl; reset = λ s p e. cc; other = λ s e. cc })

pub object-names-lawful : Lawful object_names
unfolding of_module any code
object-names-lawful = names-lawful _ (is a_module) (until-part (is a_module) _ (other-kind a_module _ refl))

pub attribute-names-lawful : Lawful attribute_names
unfolding of_object any among
attribute-names-lawful = names-lawful _ not_attribute (until-part not_attribute _ (λ s e. rw (not-true (is an_attribute s) e)))

pub parameter-names-lawful : Lawful parameter_names
unfolding of_module any code
parameter-names-lawful = names-lawful _ (is a_module) (until-part (is a_module) _ (other-kind a_module _ refl))

pub cell-parameter-names-lawful : Lawful cell_parameter_names
unfolding of_cell any code
cell-parameter-names-lawful = names-lawful _ (is a_cell) (until-part (is a_cell) _ (other-kind a_cell _ refl))

pub cell-port-names-lawful : Lawful cell_port_names
unfolding of_cell any code
cell-port-names-lawful = names-lawful _ (is a_cell) (until-part (is a_cell) _ (other-kind a_cell _ refl))

-- PORT NUMBERS
abbrev port_count : ℕ → Wires → ℕ
port_count n ws = sum (λ v. times (eqb n) (port_numbers v.1)) ws

unfoldable pub port_tally : Tally ℕ
port_tally =
    record {
      ends = is a_module;
      one = λ n s. sum (λ w. times (eqb n) (port_numbers w)) (contents s).wires;
      held = λ n p. port_count n (wires p);
      new = λ p s. all (new_ports (wires p)) (contents s).wires;
    }

no-port : (n : ℕ) (ws : Wires) → any (λ v. any (eqb n) (port_numbers v.1)) ws ≡ false → port_count n ws ≡ 0
no-port n = none-sum _ _ (λ v. times_none (eqb n) (port_numbers v.1))

port-none : (n : ℕ) (ws : Wires) → port_count n ws ≡ 0 → any (λ v. any (eqb n) (port_numbers v.1)) ws ≡ false
port-none n = sum-none _ _ (λ v. none-times (eqb n) (port_numbers v.1))

port-fits :
    (o : Option (Direction × ℕ)) (w : Wire) (ws : Wires) → w.port ≡ o → new_ports ws w ≡ true → (n : ℕ) → port_count n ws ≤ 1 →
    times (eqb n) (port_numbers w) + port_count n ws ≤ 1
unfolding new_ports all port_numbers times sum Option-to_list
port-fits none w ws q e n h = rw q (omega arith)
port-fits (some (d, k)) w ws q e n h =
    let f : not (any (λ v. any (eqb k) (port_numbers v.1)) ws) && true ≡ true = rw q at e in
    let z = no-port k ws (not-true _ (and-true-left _ true f)) in
    rw q (by-test (eqb n k) (λ t. rw (t, eqb-true n k t) (omega arith)) (λ t. rw t (omega arith)))

port-new :
    (o : Option (Direction × ℕ)) (w : Wire) (ws : Wires) → w.port ≡ o → ((n : ℕ) → times (eqb n) (port_numbers w) + port_count n ws ≤ 1) → new_ports ws w ≡ true
unfolding new_ports all port_numbers times sum Option-to_list
port-new none w ws q h = rw q
port-new (some (d, k)) w ws q h =
    let z : cond (eqb k k) 1 0 + 0 + port_count k ws ≤ 1 = rw q at (h k) in
    let y : 1 + 0 + port_count k ws ≤ 1 = rw (eq-eqb k k refl) at z in
    rw (q, port-none k ws (omega arith))

pub wires-empty : wires [] ≡ []
unfolding wires of_module until flat_map
wires-empty = refl

module-wires : (s : Statement) → is a_module s ≡ true → (contents s).wires ≡ []
unfolding statements_open
module-wires = by-wire (λ s. is a_module s ≡ true → (contents s).wires ≡ []) (λ w n e. cc) (λ s o q e. q)

pub port-lawful : Lawful port_tally
unfolding port_tally sum all statements_open
port-lawful =
    record {
      none = λ n. rw wires-empty;
      step =
          λ n s p e.
          by-wire (λ s. is a_module s ≡ false → port_count n (wires (s ∷ p)) ≡ sum (λ w. times (eqb n) (port_numbers w)) (contents s).wires + port_count n (wires p))
          (λ w m h. rw (wires-one w m p) (omega arith))
          (λ s o q h. rw (wires-none s p h q, q) (omega arith)) s e;
      reset = λ n s p e. rw (wires-reset s p e);
      opens = λ s p e. rw (module-wires s e);
      fits =
          λ s p e h n.
          by-wire (λ s. all (new_ports (wires p)) (contents s).wires ≡ true → sum (λ w. times (eqb n) (port_numbers w)) (contents s).wires + port_count n (wires p) ≤ 1)
          (λ w m a. let k = port-fits w.port w (wires p) refl (and-true-left _ true a) n (h n) in omega arith)
          (λ s o q a. rw q (omega (arith, h n))) s e;
      fresh =
          λ s p.
          by-wire (λ s. ((n : ℕ) → sum (λ w. times (eqb n) (port_numbers w)) (contents s).wires + port_count n (wires p) ≤ 1) → all (new_ports (wires p)) (contents s).wires ≡ true)
          (λ w m h. rw (port-new w.port w (wires p) refl (λ n. omega (arith, h n))))
          (λ s o q h. rw q) s;
    }
