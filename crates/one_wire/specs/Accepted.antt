-- ONE WIRE, QUICKLY: "For every accepted file this equals, on freshly read memory, the width held in the design and what look-up and then the index call say."
-- The statements that are read up to the line that settles the wire are the first of the file's; behind it the module has no first wire of this name.
-- Assumes nothing.
use Prim.Native.Nat.{ℕ, suc, ◌+◌}
use Rattle.std.specs.Prelude.{◌≡◌, ◌⊎◌, Bool, false, not, ◌&&◌, ◌||◌, eqb, ltb, length}
use Rattle.std.proofs.Math.Path.{refl, ap, subst}
use Rattle.std.proofs.Common.{sym, ap₂, ◌∙◌, inl, true≢false}
use mathlib.Core.List.{List, [], ◌∷◌, ◌++◌, reverse, reverse_aux, reverse_aux-eq, reverse-append, reverse-reverse, append-nil, flat_map, zip, zip_with}
use Rattle.std.proofs.Math.Logic.{inr}
use Rattle.std.proofs.Math.Option.{Option-elim}
use Rattle.std.proofs.Math.Bool.{true, cond}
use Rattle.std.proofs.Math.Nat.{add-zero}
use native.Mathlib.Omega.{arith}
use Rattle.std.proofs.Math.ListN.{get_elem?}
use borrow.Author.Tests.{eqb-true}
use Rattle.rules.specs.Limits.{longest_file}
use Rattle.rules.specs.Bytes.{any, same}
use Rattle.rules.specs.Lines.{Line, lines}
use Rattle.rules.specs.Tokens.{Name}
use Rattle.rules.specs.Statements.{Statement, Wire, a_module, a_wire, an_end, is, contents, own_name, statements_open}
use Rattle.rules.specs.Shapes.{Scope, top, in_module, in_cell, in_process, in_tail, in_sync, in_switch, in_case}
use Rattle.rules.specs.Judgement.{Past, until, among, scope, context, of_module, Verdict}
use Rattle.rules.specs.Reading.{Outcome, skipped, states, outcome, Answer, accepted, refused, is_top, finish, next, read_lines, read_any, read}
use Rattle.rules.specs.Design.{Object, Design, design}
use Rattle.rules.specs.Session.{wires_at, wire_at, search, look_up, index_in, index}
use Rattle.rules.specs.Quick.{read_until, settles, wire_named, Sought, stops, of_verdict, of_wire, sought, seek, quick_width, quick_index}
use Rattle.lists.specs.Bytes.{same-sym}
use Rattle.lists.specs.Lists.{flat_map-append}
use Rattle.lists.specs.Tests.{by-test, and-true-left, and-true-right}
use Rattle.context.specs.Forms.{by_form}
use Rattle.admitted.specs.Admitted.{kinds, stands}
use Rattle.admitted.specs.CountLaws.{Standing, one-stands, context-scope, stands-kind}
use Rattle.admitted.specs.AdmitLaws.{admitted-standing}
use Rattle.modules.specs.Modules.{wires_of, module_count}
use Rattle.modules.specs.PastLaws.{module-open, module-more}
use Rattle.soundness.specs.ReadLaws.{read-admitted}
use Rattle.one_wire.specs.FirstLaws.{first_of, found_first, last_found, wire-at}

-- ---- what is read

-- a refused file is not accepted
unfoldable is_refused : Answer → Bool
is_refused (accepted ss) = false
is_refused (refused n p) = true

none-refused : {P : Type 0} (n p : ℕ) (zs : List Statement) → refused n p ≡ accepted zs → P
unfolding is_refused
none-refused n p zs e = absurd (true≢false (ap is_refused e))

all-by : (ss : List Statement) (b : Bool) (n p : ℕ) (zs : List Statement) → cond b (accepted ss) (refused n p) ≡ accepted zs → zs ≡ ss
all-by ss true n p zs e = cc
all-by ss false n p zs e = none-refused n p zs e

-- the statements of an accepted file begin with those so far
finish-all : (size : ℕ) (ss : Past) (zs : List Statement) → finish size ss ≡ accepted zs → zs ≡ reverse ss
unfolding finish
finish-all size ss zs e = all-by (reverse ss) (is_top (context ss).scope && not (context ss).attributed) 5 size zs e

abbrev Begins : Past → List Statement → Type 0
Begins ss zs = (rs : List Statement) × (zs ≡ reverse_aux ss rs)

begins-by : (more : Past → Answer) (ss : Past) (zs : List Statement) → ((q : Past) → more q ≡ accepted zs → Begins q zs) → (o : Outcome) → next more ss o ≡ accepted zs → Begins ss zs
unfolding next
begins-by more ss zs f skipped e = f ss e
begins-by more ss zs f (states s) e = let r = f (s ∷ ss) e in (s ∷ r.0, r.1)
begins-by more ss zs f (Outcome.refused n p) e = none-refused n p zs e

begins : (size : ℕ) (ls : List Line) (ss : Past) (zs : List Statement) → read_lines size ls ss ≡ accepted zs → Begins ss zs
unfolding read_lines
begins size [] ss zs e = ([], finish-all size ss zs e)
begins size (l ∷ ls) ss zs e = begins-by (read_lines size ls) ss zs (λ q. begins size ls q zs) (outcome ss l) e

-- reading that may end early accepts a front of an accepted file: one where the test holds, or all of it
record Front (stop : Past → Bool) (a : Answer) (zs : List Statement) : Type 0 where
  past : Past
  rest : List Statement
  is : a ≡ accepted (reverse past)
  all : zs ≡ reverse_aux past rest
  ends : (stop past ≡ true) ⊎ (rest ≡ [])

module _ (stop : Past → Bool) (zs : List Statement) where
  front_by : (more early : Past → Answer) (ss : Past) → ((q : Past) → more q ≡ accepted zs → Front stop (early q) zs) → (o : Outcome) → next more ss o ≡ accepted zs → Front stop (next early ss o) zs
  unfolding next
  front_by more early ss f skipped e = f ss e
  front_by more early ss f (states s) e = f (s ∷ ss) e
  front_by more early ss f (Outcome.refused n p) e = none-refused n p zs e

  front-here : (size : ℕ) (ls : List Line) (q : Past) (more : Answer) → read_lines size ls q ≡ accepted zs → Front stop more zs → Front stop (cond (stop q) (accepted (reverse q)) more) zs
  front-here size ls q more e f =
      by-test (stop q)
      (λ h. let r = begins size ls q zs e in rw h (record { past = q; rest = r.0; is = refl; all = r.1; ends = inl h }))
      (λ h. rw h f)

  front : (size : ℕ) (ls : List Line) (ss : Past) → read_lines size ls ss ≡ accepted zs → Front stop (read_until stop size ls ss) zs
  unfolding read_lines read_until
  front size [] ss e = let h = finish-all size ss zs e in record { past = ss; rest = []; is = e ∙ ap accepted h; all = h; ends = inr refl }
  front size (l ∷ ls) ss e =
      front_by (read_lines size ls) (λ q. cond (stop q) (accepted (reverse q)) (read_until stop size ls q)) ss
      (λ q h. front-here size ls q (read_until stop size ls q) h (front size ls q h)) (outcome ss l) e

-- ---- behind the module's end

is-top : (z : Scope) → is_top z ≡ true → z ≡ top
unfolding is_top
is-top top e = refl
is-top in_module e = absurd (true≢false (sym e))
is-top in_cell e = absurd (true≢false (sym e))
is-top in_process e = absurd (true≢false (sym e))
is-top in_tail e = absurd (true≢false (sym e))
is-top in_sync e = absurd (true≢false (sym e))
is-top (in_switch k) e = absurd (true≢false (sym e))
is-top (in_case k) e = absurd (true≢false (sym e))

-- outside of modules stand attributes and `autoidx`, which declare nothing, or the next module line
abbrev Outside : Past → Statement → Type 0
Outside ss s = (is a_module s ≡ false) → (zip (contents s).names (contents s).wires ≡ []) × (scope (s ∷ ss) ≡ scope ss)

among_none : {P : Type 0} → false ≡ true → P
among_none e = absurd (true≢false (sym e))

outside : (ss : Past) (f a : Bool) (s : Statement) → among (kinds top f a) s ≡ true → Outside ss s
unfolding kinds among any zip zip_with scope statements_open
outside ss true a =
    by_form (λ s. among (kinds top true a) s ≡ true → Outside ss s)
    (λ i h m. (refl, refl)) (λ n c h m. (refl, refl)) (λ n h m. absurd (true≢false m)) (λ n c h m. among_none h) (λ w n h m. among_none h)
    (λ k n h m. among_none h) (λ t n h m. among_none h) (λ o n c h m. among_none h) (λ n x h m. among_none h) (λ x y h m. among_none h)
    (λ n h m. among_none h) (λ p xs h m. among_none h) (λ h m. among_none h)
outside ss false a =
    by_form (λ s. among (kinds top false a) s ≡ true → Outside ss s)
    (λ i h m. (refl, refl)) (λ n c h m. (refl, refl)) (λ n h m. absurd (true≢false m)) (λ n c h m. among_none h) (λ w n h m. among_none h)
    (λ k n h m. among_none h) (λ t n h m. among_none h) (λ o n c h m. among_none h) (λ n x h m. among_none h) (λ x y h m. among_none h)
    (λ n h m. among_none h) (λ p xs h m. among_none h) (λ h m. among_none h)

standing-first : (s : Statement) (ss : Past) → Standing (s ∷ ss) → stands ss s ≡ true
standing-first s ss (one-stands e h) = e

standing-later : (s : Statement) (ss : Past) → Standing (s ∷ ss) → Standing ss
standing-later s ss (one-stands e h) = h

standing-behind : (rs : List Statement) (ss : Past) → Standing (reverse_aux rs ss) → Standing ss
standing-behind [] ss h = h
standing-behind (r ∷ rs) ss h = standing-later r ss (standing-behind rs (r ∷ ss) h)

until-on : (r : Statement) (rs : List Statement) → is a_module r ≡ false → until (is a_module) (r ∷ rs) ≡ r ∷ until (is a_module) rs
unfolding until
until-on r rs e = rw e

until-off : (r : Statement) (rs : List Statement) → is a_module r ≡ true → until (is a_module) (r ∷ rs) ≡ []
unfolding until
until-off r rs e = rw e

-- no wire up to the next module
none-declared : (rs : List Statement) (ss : Past) → scope ss ≡ top → Standing (reverse_aux rs ss) → wires_of (until (is a_module) rs) ≡ []
unfolding flat_map until stands
none-declared [] ss t h = refl
none-declared (r ∷ rs) ss t h =
    by-test (is a_module r)
    (λ e. ap wires_of (until-off r rs e))
    (λ e.
    let k : among (kinds top (context ss).first (context ss).attributed) r ≡ true =
    rw (context-scope ss, t) at (stands-kind (context ss).scope (context ss).first (context ss).attributed r (standing-first r ss (standing-behind rs (r ∷ ss) h))) in
    let o = outside ss (context ss).first (context ss).attributed r k e in
    ap wires_of (until-on r rs e) ∙ ap₂ ◌++◌ o.0 (none-declared rs (r ∷ ss) (o.1 ∙ t) h))

-- ---- the wire of what is read is the whole file's

-- what a wire line declares
record Declares (s : Statement) : Type 0 where
  wire : Wire
  declares : zip (contents s).names (contents s).wires ≡ (own_name (contents s).names, wire) ∷ []
  no-module : is a_module s ≡ false

wire-line : (s : Statement) → is a_wire s ≡ true → Declares s
unfolding zip zip_with statements_open
wire-line =
    by_form (λ s. is a_wire s ≡ true → Declares s)
    (λ i h. among_none h) (λ n c h. among_none h) (λ n h. among_none h) (λ n c h. among_none h)
    (λ w n h. record { wire = w; declares = refl; no-module = refl })
    (λ k n h. among_none h) (λ t n h. among_none h) (λ o n c h. among_none h) (λ n x h. among_none h) (λ x y h. among_none h)
    (λ n h. among_none h) (λ p xs h. among_none h) (λ h. among_none h)

wires-then : (xs ys : List Statement) → wires_of (reverse_aux xs ys) ≡ wires_of (reverse xs) ++ wires_of ys
wires-then xs ys = ap wires_of (reverse_aux-eq xs ys) ∙ flat_map-append (λ s. zip (contents s).names (contents s).wires) (reverse xs) ys

reverse-both : (xs ys : List Statement) → reverse (reverse_aux xs ys) ≡ reverse_aux ys xs
reverse-both xs ys = ap reverse (reverse_aux-eq xs ys) ∙ reverse-append (reverse xs) ys ∙ ap (λ (x : List Statement). reverse ys ++ x) (reverse-reverse xs) ∙ sym (reverse_aux-eq ys xs)

module _ (m : ℕ) (n : Name) (rs : List Statement) where
  abbrev Same : Past → Type 0
  Same q = wire_named n (wires_at (design (reverse q)) m) ≡ wire_named n (wires_at (design (reverse_aux q rs)) m)

  module _ (q : Past) (c : module_count q ≡ suc m) where
    in-front : wire_named n (wires_at (design (reverse q)) m) ≡ first_of n (wires_of (reverse (of_module q)))
    unfolding until
    in-front = wire-at n (reverse q) m ∙ ap (λ (x : List Statement). first_of n (wires_of x)) (module-open q [] m c)

    in_all : wire_named n (wires_at (design (reverse_aux q rs)) m) ≡ first_of n (wires_of (reverse (of_module q)) ++ wires_of (until (is a_module) rs))
    in_all =
        wire-at n (reverse_aux q rs) m ∙ ap (λ (x : List Statement). first_of n (wires_of x)) (module-open q rs m c)
        ∙ ap (first_of n) (wires-then (of_module q) (until (is a_module) rs))

    -- the module is complete, or the wire is found
    complete : wires_of (until (is a_module) rs) ≡ [] → Same q
    complete e = in-front ∙ sym (in_all ∙ ap (first_of n) (ap (λ (x : List (Name × Wire)). wires_of (reverse (of_module q)) ++ x) e ∙ append-nil (wires_of (reverse (of_module q)))))

    found : any (λ x. same x.0 n) (wires_of (reverse (of_module q))) ≡ true → Same q
    found e = in-front ∙ sym (in_all ∙ found_first n _ _ e)

  declared : (s : Statement) (ss : Past) → module_count (s ∷ ss) ≡ suc m → is a_wire s ≡ true → same n (own_name (contents s).names) ≡ true → Same (s ∷ ss)
  unfolding flat_map
  declared s ss c w e =
      let d = wire-line s w in
      let x : wires_of (reverse (of_module (s ∷ ss))) ≡ wires_of (reverse (of_module ss)) ++ (own_name (contents s).names, d.wire) ∷ [] =
      ap (λ (q : Past). wires_of (reverse q)) (module-more s ss d.no-module) ∙ wires-then (of_module ss) (s ∷ [])
      ∙ ap (λ (y : List (Name × Wire)). wires_of (reverse (of_module ss)) ++ y) (append-nil (zip (contents s).names (contents s).wires) ∙ d.declares) in
      found (s ∷ ss) c
      (ap (any (λ (y : Name × Wire). same y.0 n)) x ∙ last_found n (wires_of (reverse (of_module ss))) (own_name (contents s).names, d.wire) (same-sym (own_name (contents s).names) n ∙ e))

  ended : (s : Statement) (ss : Past) → module_count (s ∷ ss) ≡ suc m → is_top (scope (s ∷ ss)) ≡ true → Standing (reverse_aux rs (s ∷ ss)) → Same (s ∷ ss)
  ended s ss c t h = complete (s ∷ ss) c (none-declared rs (s ∷ ss) (is-top (scope (s ∷ ss)) t) h)

  settled : (q : Past) → settles m n q ≡ true → Standing (reverse_aux rs q) → Same q
  unfolding settles
  settled [] e h = among_none e
  settled (s ∷ ss) e h =
      let b = is a_wire s && same n (own_name (contents s).names) in
      let t = is an_end s && is_top (scope (s ∷ ss)) in
      let x : module_count (s ∷ ss) ≡ m + 1 = eqb-true (module_count (s ∷ ss)) (m + 1) (and-true-left (eqb (module_count (s ∷ ss)) (m + 1)) (b || t) e) in
      let c : module_count (s ∷ ss) ≡ suc m = omega arith in
      let r : b || t ≡ true = and-true-right (eqb (module_count (s ∷ ss)) (m + 1)) (b || t) e in
      by-test b
      (λ y. declared s ss c (and-true-left (is a_wire s) (same n (own_name (contents s).names)) y) (and-true-right (is a_wire s) (same n (own_name (contents s).names)) y))
      (λ y. ended s ss c (and-true-right (is an_end s) (is_top (scope (s ∷ ss))) (rw y at r)) h)

  same-wire : (q : Past) → (settles m n q ≡ true) ⊎ (rs ≡ []) → Standing (reverse_aux rs q) → Same q
  same-wire q (inl e) h = settled q e h
  same-wire q (inr e) h = rw e

-- ---- what look-up and then another call on the design say

-- what is asked of the wire that look-up found; or its refusal
unfoldable pub then_asked : {A : Type 0} → (ℕ → Verdict A) → Verdict ℕ → Sought A
then_asked ask (Verdict.accepted w) = of_verdict (ask w)
then_asked ask (Verdict.refused k) = stops k 0

-- what is asked of a wire of the design by its number
abbrev pub asked : {A : Type 0} → (Wire → Verdict A) → Design → (m w : ℕ) → Verdict A
asked g d m w = Option-elim (wire_at d m w) (Verdict.refused 8) (λ o. g o.body)

module _ {A : Type 0} (g : Wire → Verdict A) (n : Name) where
  abbrev At : List (Object Wire) → ℕ → Verdict A
  At os j = Option-elim (get_elem? os j) (Verdict.refused 8) (λ o. g o.body)

  search-named : (ask : ℕ → Verdict A) (i : ℕ) (os : List (Object Wire)) → ((j : ℕ) → ask (i + j) ≡ At os j) → of_wire g (wire_named n os) ≡ then_asked ask (search n i os)
  unfolding wire_named search then_asked of_wire Option-elim
  search-named ask i [] h = refl
  search-named ask i (o ∷ os) h =
      by-test (same o.name n)
      (λ e. rw e (ap of_verdict (sym (rw add-zero at (h 0)))))
      (λ e. rw e (search-named ask (i + 1) os (λ j. let q : i + 1 + j ≡ i + suc j = omega arith in ap ask q ∙ h (suc j))))

module _ (f : List ℕ) (ss : List Statement) (accepts : read f ≡ accepted ss) where
  any-accepted : (b : Bool) → ltb longest_file (length f) ≡ b → cond b (refused 2 0) (read_any f) ≡ accepted ss → (b ≡ false) × (read_any f ≡ accepted ss)
  any-accepted true e h = none-refused 2 0 ss h
  any-accepted false e h = (refl, h)

  is_any : (ltb longest_file (length f) ≡ false) × (read_any f ≡ accepted ss)
  unfolding read
  is_any = any-accepted (ltb longest_file (length f)) refl accepts

  module _ (m : ℕ) (n : Name) where
    -- the wire is the first of this name in the design
    wire-read : {A : Type 0} (g : Wire → Verdict A) → seek g f m n ≡ of_wire g (wire_named n (wires_at (design ss) m))
    unfolding seek sought read_any
    wire-read g =
        let r = front (settles m n) ss (length f) (lines f) [] is_any.1 in
        let h : Standing (reverse_aux r.rest r.past) =
        subst Standing (ap reverse r.all ∙ reverse-both r.past r.rest) (admitted-standing (reverse ss) (read-admitted f ss is_any.1).0) in
        rw (is_any.0, r.is)
        (ap (of_wire g) (same-wire m n r.rest r.past r.ends h ∙ ap (λ (zs : List Statement). wire_named n (wires_at (design zs) m)) (sym r.all)))

    -- For every accepted file: whatever is asked of the wire, the answer is that of look-up and then the same question
    pub quick-accepted : {A : Type 0} (g : Wire → Verdict A) → seek g f m n ≡ then_asked (asked g (design ss) m) (look_up (design ss) m n)
    unfolding look_up wire_at
    quick-accepted g = wire-read g ∙ search-named g n (asked g (design ss) m) 0 (wires_at (design ss) m) (λ j. let q : 0 + j ≡ j = omega arith in ap (asked g (design ss) m) q)

    -- the width held in the design
    pub quick-width : quick_width f m n ≡ then_asked (asked (λ w. Verdict.accepted w.width) (design ss) m) (look_up (design ss) m n)
    unfolding quick_width
    quick-width = quick-accepted (λ w. Verdict.accepted w.width)

    -- what look-up and then the index call say
    pub quick-index : (i : ℕ) → quick_index f m n i ≡ then_asked (λ w. index (design ss) m w i) (look_up (design ss) m n)
    unfolding quick_index index
    quick-index i = quick-accepted (λ w. index_in w i)
