-- Passes over statements whose wires have their names now are those of the written text.
-- Assumes nothing.
use Prim.Native.Nat.{ℕ, zero, suc, ◌+◌}
use mathlib.Core.Path.{◌≡◌, refl, sym, ap, ap₂, ◌∙◌}
use mathlib.Core.List.{List, [], ◌∷◌, ◌++◌, foldl}
use mathlib.Core.Bool.{Bool, false, cond, false≢true}
use lib.Dec.{eqb}
use lib.ListN.{length}
use Rattle.rules.specs.Tokens.{Name}
use Rattle.rules.specs.Statements.{Statement, Kind, an_attribute, a_parameter, a_wire, a_memory, a_cell, a_cell_parameter, a_cell_connection, a_connection, a_process, an_end, a_step, end-stmt, switch, code, contents, is, statements_open}
use Rattle.rules.specs.Bytes.{any}
use Rattle.rules.specs.Shapes.{Scope, in_process}
use Rattle.rules.specs.Signals.{Wires}
use Rattle.rules.specs.Judgement.{until, among, outer, behind_step, steps}
use Rattle.rules.specs.Text.{level, holder}
use Rattle.rules.specs.Session.{Rename}
use Rattle.lists.specs.Tests.{by-test}
use Rattle.context.specs.Forms.{by_form, is-other}
use Rattle.admitted.specs.Admitted.{stands_in}
use Rattle.admitted.specs.CountLaws.{scope_behind}
use Rattle.modules.specs.Now.{name_now}
use Rattle.module_text.specs.Blocks.{line_of}
use Rattle.module_text.specs.Passes.{named, lines_of, kind_lines, Print, object_lines, print_wire, print_memory, cell_block, print_to_end, shut_lines, step_lines, print_process, body_lines}
use Rattle.module_text.specs.StandLaws.{Follows, none-follow, one_follows, cells-end}

shut-same : {f g : ℕ → List ℕ} (k : ℕ) → ((j : ℕ) → f j ≡ g j) → shut_lines k f ≡ shut_lines k g
unfolding shut_lines
shut-same zero h = refl
shut-same (suc k) h = h k

-- a wire's statement with its name changed; others stay
module _ (f : Name → Name) where
  named-contents : (s : Statement) → (contents (named f s)).kind ≡ (contents s).kind
  unfolding named statements_open
  named-contents = by_form _ (λ i. refl) (λ n c. refl) (λ n. refl) (λ n c. refl) (λ w n. refl) (λ m n. refl) (λ t n. refl) (λ o n c. refl) (λ n x. refl) (λ x y. refl) (λ n. refl) (λ p xs. refl) refl

  pub named-code : (s : Statement) → code (contents (named f s)).kind ≡ code (contents s).kind
  named-code s = ap code (named-contents s)

  pub named-is : (k : Kind) (s : Statement) → is k (named f s) ≡ is k s
  unfolding is
  named-is k s = ap (λ (n : ℕ). eqb (code k) n) (named-code s)

  pub named_other : (s : Statement) → is a_wire s ≡ false → named f s ≡ s
  unfolding named statements_open
  named_other =
      by_form (λ s. is a_wire s ≡ false → named f s ≡ s) (λ i h. refl) (λ n c h. refl) (λ n h. refl) (λ n c h. refl) (λ w n h. absurd (false≢true (sym h))) (λ m n h. refl)
      (λ t n h. refl) (λ o n c h. refl) (λ n x h. refl) (λ x y h. refl) (λ n h. refl) (λ p xs h. refl) (λ h. refl)

  -- and stands where it did
  pub named-stands : (z : Scope) (f' a : Bool) (s : Statement) → stands_in z f' a (named f s) ≡ stands_in z f' a s
  unfolding stands_in among any named statements_open
  named-stands z f' a = by_form _ (λ i. refl) (λ n c. refl) (λ n. refl) (λ n c. refl) (λ w n. refl) (λ m n. refl) (λ t n. refl) (λ o n c. refl) (λ n x. refl) (λ x y. refl) (λ n. refl) (λ p xs. refl) refl

  pub named-behind : (z : Scope) (s : Statement) → scope_behind z (named f s) ≡ scope_behind z s
  unfolding scope_behind named statements_open
  named-behind z = by_form _ (λ i. refl) (λ n c. refl) (λ n. refl) (λ n c. refl) (λ w n. refl) (λ m n. refl) (λ t n. refl) (λ o n c. refl) (λ n x. refl) (λ x y. refl) (λ n. refl) (λ p xs. refl) refl

-- statements of module m, the next wire's number being n, with names now
module _ (rs : List Rename) (m : ℕ) where
  unfoldable pub nowed : ℕ → List Statement → List Statement
  nowed n [] = []
  nowed n (s ∷ ss) = named (name_now rs m n) s ∷ nowed (cond (is a_wire s) (n + 1) n) ss

  pub length-nowed : (n : ℕ) (ss : List Statement) → length (nowed n ss) ≡ length ss
  unfolding nowed
  length-nowed n [] = refl
  length-nowed n (s ∷ ss) = ap suc (length-nowed (cond (is a_wire s) (n + 1) n) ss)

  pub follows-nowed : {p : Scope} {f : Bool} (n : ℕ) {ss : List Statement} → Follows p f ss → Follows p f (nowed n ss)
  unfolding nowed
  follows-nowed n none-follow = none-follow
  follows-nowed {p} {f} n (one_follows {s} {ss} a e h) =
      let g = name_now rs m n in
      one_follows {s = named g s} {ss = nowed (cond (is a_wire s) (n + 1) n) ss} a (named-stands g p f a s ∙ e) (rw (named-behind g p s) (follows-nowed (cond (is a_wire s) (n + 1) n) h))

  until-nowed : (K : Kind) (n : ℕ) (ss : List Statement) → until (is K) (nowed n ss) ≡ nowed n (until (is K) ss)
  unfolding nowed until
  until-nowed K n [] = refl
  until-nowed K n (s ∷ ss) =
      by-test (is K s)
      (λ h. rw (named-is (name_now rs m n) K s, h))
      (λ h. rw (named-is (name_now rs m n) K s, h) (ap (λ (l : List Statement). named (name_now rs m n) s ∷ l) (until-nowed K (cond (is a_wire s) (n + 1) n) ss)))

  -- passes that are not of wires
  module _ (K : Kind) (o : eqb (code K) (code a_wire) ≡ false) where
    kinds-nowed : (l : ℕ) (ws : Wires) (n : ℕ) (ss : List Statement) → kind_lines K l ws (nowed n ss) ≡ kind_lines K l ws ss
    unfolding nowed kind_lines
    kinds-nowed l ws n [] = refl
    kinds-nowed l ws n (s ∷ ss) =
        by-test (is a_wire s)
        (λ h. rw (named-is (name_now rs m n) K s, is-other a_wire K s o h) (kinds-nowed l ws _ ss))
        (λ h. rw (named_other (name_now rs m n) s h, kinds-nowed l ws (cond (is a_wire s) (n + 1) n) ss))

    objects-nowed :
        (print : Print) → ((w n : ℕ) (at : List Statement) (s : Statement) (more : List Statement) → print w at s (nowed n more) ≡ print w at s more) →
        (w n : ℕ) (at ss : List Statement) → object_lines K print w at (nowed n ss) ≡ object_lines K print w at ss
    unfolding nowed object_lines code
    objects-nowed print p w n at [] = refl
    objects-nowed print p w n at (s ∷ ss) =
        by-test (is a_wire s)
        (λ h.
        rw (named-is (name_now rs m n) an_attribute s, named-is (name_now rs m n) K s, is-other a_wire K s o h, is-other a_wire an_attribute s refl h) (objects-nowed print p w _ [] ss))
        (λ h.
        let k : ℕ = cond (is a_wire s) (n + 1) n in
        rw (named_other (name_now rs m n) s h)
        (by-test (is an_attribute s)
        (λ a. rw a (objects-nowed print p w k (at ++ s ∷ []) ss))
        (λ a. by-test (is K s)
        (λ b. rw (a, b) (ap₂ ◌++◌ (p w k at s ss) (objects-nowed print p (w + 1) k [] ss)))
        (λ b. rw (a, b) (objects-nowed print p w k [] ss)))))

  -- wires: their number is counted in both
  one-wire : (ws : Wires) (n : ℕ) (at : List Statement) (s : Statement) (qs ss : List Statement) → print_memory ws n at (named (name_now rs m n) s) qs ≡ print_wire rs m ws n at s ss
  unfolding print_memory print_wire
  one-wire ws n at s qs ss = refl

  wires-nowed : (ws : Wires) (n : ℕ) (at ss : List Statement) → object_lines a_wire (print_memory ws) n at (nowed n ss) ≡ object_lines a_wire (print_wire rs m ws) n at ss
  unfolding nowed object_lines code
  wires-nowed ws n at [] = refl
  wires-nowed ws n at (s ∷ ss) =
      rw (named-is (name_now rs m n) an_attribute s, named-is (name_now rs m n) a_wire s)
      (by-test (is an_attribute s)
      (λ a.
      let h : is a_wire s ≡ false = is-other an_attribute a_wire s refl a in
      rw (a, h, named_other (name_now rs m n) s h) (wires-nowed ws n (at ++ s ∷ []) ss))
      (λ a. by-test (is a_wire s)
      (λ b. rw (a, b) (ap₂ ◌++◌ (one-wire ws n at s (nowed (n + 1) ss) ss) (wires-nowed ws (n + 1) [] ss)))
      (λ b. rw (a, b) (wires-nowed ws n [] ss))))

  cell_same : (ws : Wires) (w n : ℕ) (at : List Statement) (s : Statement) (more : List Statement) → print_to_end ws w at s (nowed n more) ≡ print_to_end ws w at s more
  unfolding print_to_end cell_block code
  cell_same ws w n at s more =
      rw (until-nowed an_end n more, kinds-nowed a_cell_parameter refl 2 ws n (until (is an_end) more), kinds-nowed a_cell_connection refl 2 ws n (until (is an_end) more))

  -- no wire stands in a process, and one would be passed over
  steps-nowed : (ws : Wires) (ss : List Statement) (n : ℕ) (p : Scope) (k : ℕ) (at : List Statement) → step_lines ws p k at (nowed n ss) ≡ step_lines ws p k at ss
  unfolding nowed step_lines code
  steps-nowed ws [] n p k at = refl
  steps-nowed ws (s ∷ ss) n p k at =
      by-test (is a_wire s)
      (λ h.
      let g = name_now rs m n in
      rw (
        named-is g an_attribute s,
        named-is g an_end s,
        named-is g a_step s,
        is-other a_wire an_attribute s refl h,
        is-other a_wire an_end s refl h,
        is-other a_wire a_step s refl h,
      ) (steps-nowed ws ss _ p k []))
      (λ h.
      let j : ℕ = cond (is a_wire s) (n + 1) n in
      let l : ℕ = level (foldl holder p (contents s).steps) in
      rw (named_other (name_now rs m n) s h)
      (by-test (is an_attribute s)
      (λ a. rw a (steps-nowed ws ss j p k (at ++ s ∷ [])))
      (λ a. by-test (is an_end s)
      (λ b. rw (a, b) (shut-same k (λ i. ap (λ (x : List ℕ). line_of (level (outer p)) ws end-stmt ++ x) (steps-nowed ws ss j (outer p) i []))))
      (λ b. by-test (is a_step s)
      (λ c. rw (a, b, c) (ap (λ (x : List ℕ). lines_of l ws at ++ line_of l ws s ++ x) (steps-nowed ws ss j (foldl behind_step p (contents s).steps) (cond (steps switch s) (k + 1) k) [])))
      (λ c. rw (a, b, c) (steps-nowed ws ss j p k []))))))

  process-same : (ws : Wires) (w n : ℕ) (at : List Statement) (s : Statement) (more : List Statement) → print_process ws w at s (nowed n more) ≡ print_process ws w at s more
  unfolding print_process
  process-same ws w n at s more = rw (until-nowed a_process n more, steps-nowed ws (until (is a_process) more) n in_process 0 [])

  line_same : (ws : Wires) (w n : ℕ) (at : List Statement) (s : Statement) (more : List Statement) → print_memory ws w at s (nowed n more) ≡ print_memory ws w at s more
  unfolding print_memory
  line_same ws w n at s more = refl

  -- WHAT STANDS IN A MODULE, where each statement stands in its place
  pub body-nowed :
      (ws : Wires) {p : Scope} {f : Bool} (ss : List Statement) → Follows p f ss →
      kind_lines a_parameter 1 ws (nowed 0 ss)
      ++ object_lines a_wire (print_memory ws) 0 [] (nowed 0 ss)
      ++ object_lines a_memory (print_memory ws) 0 [] (nowed 0 ss)
      ++ object_lines a_cell (print_to_end ws) 0 [] (nowed 0 ss)
      ++ object_lines a_process (print_process ws) 0 [] (nowed 0 ss)
      ++ kind_lines a_connection 1 ws (nowed 0 ss)
      ≡ body_lines rs m ws ss
  unfolding body_lines code
  body-nowed ws ss h =
      rw (
        kinds-nowed a_parameter refl 1 ws 0 ss,
        wires-nowed ws 0 [] ss,
        objects-nowed a_memory refl (print_memory ws) (line_same ws) 0 0 [] ss,
        objects-nowed a_cell refl (print_to_end ws) (cell_same ws) 0 0 [] ss,
        objects-nowed a_process refl (print_process ws) (process-same ws) 0 0 [] ss,
        kinds-nowed a_connection refl 1 ws 0 ss,
        cells-end ws h 0 [],
      )
