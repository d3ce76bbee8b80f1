-- The rows of tables that begin with a file's statements and its renames write the text of the file.
-- Assumes nothing.
use Prim.Native.Nat.{ℕ, suc, ◌+◌, ◌-◌, ◌≤◌, ◌<◌}
use mathlib.Core.Path.{◌≡◌, refl, sym, ap, ap₂, ◌∙◌}
use mathlib.Core.List.{List, [], ◌∷◌, ◌++◌, flat_map, reverse, reverse_aux, reverse-reverse, append-nil}
use mathlib.Core.Option.{some}
use mathlib.Core.Bool.{Bool, true, false, cond, false≢true}
use native.Mathlib.Omega.{arith}
use lib.Dec.{eqb, leb, eqb-suc-zero}
use lib.ListN.{length, length-reverse}
use borrow.Author.Tests.{eqb-true}
use Rattle.rules.specs.Bytes.{all, bytes}
use Rattle.rules.specs.Tokens.{Name}
use Rattle.rules.specs.Numbers.{int32}
use Rattle.rules.specs.Statements.{Statement, Wire, wire-stmt, end-stmt, an_autoidx, an_attribute, a_module, a_wire, code, contents, is, statements_open, Kind}
use Rattle.rules.specs.Shapes.{Scope}
use Rattle.rules.specs.Signals.{Wires}
use Rattle.rules.specs.Judgement.{Past, until, count, of_module, wires}
use Rattle.rules.specs.Session.{Rename}
use Rattle.rules.specs.Text.{text_open}
use Rattle.rules.specs.Layout.{used, name_bytes, put_renames}
use Rattle.lists.specs.Tests.{by-test, and-true-left, and-true-right, eqb-sym}
use Rattle.lists.specs.Elements.{all_snoc}
use Rattle.lists.specs.Sums.{sum-behind}
use Rattle.wires.specs.Rows.{column, name_of, wire_of}
use Rattle.wires.specs.RowLaws.{row-wire, row-name}
use Rattle.context.specs.Place.{wires_in}
use Rattle.netlist.specs.Rows.{kind_at}
use Rattle.netlist.specs.Laid.{rooms_of}
use Rattle.netlist.specs.LaidLaws.{length-rows, eights-rows}
use Rattle.admitted.specs.Admitted.{admitted}
use Rattle.admitted.specs.AdmitLaws.{fine-fits, admitted-last, admitted-standing, admitted-offsets, admitted-past}
use Rattle.netlist.specs.UsedLaws.{used-wires}
use Rattle.netlist.specs.Spans.{Has}
use Rattle.netlist.specs.Tables.{Tables}
use Rattle.netlist.specs.Fronts.{Fronts}
use Rattle.netlist.specs.FrontLaws.{fronts-wired, fronts-renames, fronts-stand, fronts-kind, fronts-wire, parts-wire}
use Rattle.modules.specs.Modules.{statements_of, wires_of, module_count, up_to}
use Rattle.modules.specs.Now.{name_now}
use Rattle.modules.specs.Ranges.{wire_range}
use Rattle.modules.specs.PastLaws.{module-counts, other-counts, count-step, module-first, module-more, module-past, none-counts, up-to-all, up-to-back}
use Rattle.modules.specs.DecodeLaws.{decodes-last}
use Rattle.modules.specs.HeadLaws.{standing-headed}
use Rattle.modules.specs.WireLaws.{none-wires, wires-back, wire-range-there, wires-range, Adds, a-wire, no-wire, adds, wires-more}
use Rattle.wire_names.specs.Now as line
use Rattle.wire_names.specs.declared.Module.{Module}
use Rattle.line_text.specs.Lines.{statement_now}
use Rattle.module_text.specs.Blocks.{line_of, plain_line}
use Rattle.module_text.specs.LineLaws.{plain-line}
use Rattle.module_text.specs.Passes.{named, wires_now, wires_down, lines_of, first_line, object_lines, body_lines, print_module, file_text}
use Rattle.module_text.specs.WireLaws.{wires-down}
use Rattle.module_text.specs.StandLaws.{Follows, one_follows, follows, follows-until, autoidx-first}
use Rattle.design_text.specs.declared.Counts.{Counts}
use Rattle.design_text.specs.Rows.{next_row, row_line, line_if, kind_rows, body_rows, module_at, module_if, module_rows, text_rows}
use Rattle.design_text.proofs.NowLaws.{fronts-past, name-is, wires-are}
use Rattle.design_text.proofs.Passes.{waits, passes, Rowed, no_rows, one-row, rowed-more, Kinded, no-kinds, one-kind, next-until, more-behind, row-line, attribute-rows}
use Rattle.design_text.proofs.Processes.{body-rows}
use Rattle.design_text.proofs.Named.{named-code, named_other, nowed, length-nowed, follows-nowed, body-nowed}
use Rattle.context.specs.Forms.{by_form, is-other}

-- ---- how many wires

wires-onto : (xs : List Statement) (base : Past) → wires_in (reverse_aux xs base) ≡ wires_in xs + wires_in base
unfolding wires_in
wires-onto xs base = sum-behind _ xs base

-- ---- the rows of a statement

autoidx-kind : {t : Tables} (s : Statement) → Fronts (rooms_of (s ∷ [])) t → eqb (kind_at t.rows 0) 1 ≡ is an_autoidx s
unfolding is code
autoidx-kind s k = rw (fronts-kind s [] k) (eqb-sym (code (contents s).kind) 1)

-- of a kind whose lines have no signal
plain-kinds : (s : Statement) → leb (code (contents s).kind) 8 ≡ true → (contents s).signals ≡ []
unfolding statements_open
plain-kinds =
    by_form (λ s. leb (code (contents s).kind) 8 ≡ true → (contents s).signals ≡ []) (λ i h. refl) (λ n c h. refl) (λ n h. refl) (λ n c h. refl) (λ w n h. refl)
    (λ m n h. refl) (λ t n h. refl) (λ o n c h. refl) (λ n x h. absurd (false≢true h)) (λ x y h. absurd (false≢true h)) (λ n h. refl) (λ p xs h. absurd (false≢true h)) (λ h. refl)

plain_of : (k : Kind) (s : Statement) → leb (code k) 8 ≡ true → is k s ≡ true → (contents s).signals ≡ []
unfolding is
plain_of k s b h = plain-kinds s (rw (← eqb-true (code k) (code (contents s).kind) h) b)

plain_at : (l : ℕ) (ws : Wires) (s : Statement) → (contents s).signals ≡ [] → line_of l ws s ≡ line_of l [] s
unfolding plain_line
plain_at l ws s e = plain-line l ws s e

lines-plain : (l : ℕ) (ws : Wires) (at : List Statement) → all (is an_attribute) at ≡ true → lines_of l ws at ≡ lines_of l [] at
unfolding lines_of flat_map all code
lines-plain l ws [] h = refl
lines-plain l ws (s ∷ at) h = ap₂ ◌++◌ (plain_at l ws s (plain_of an_attribute s refl (and-true-left (is an_attribute s) _ h))) (lines-plain l ws at (and-true-right (is an_attribute s) _ h))

end-top : bytes "end\n" ≡ line_of 0 [] end-stmt
unfolding line_of text_open statements_open
end-top = refl

-- one that declares no wire, whatever the module is
plain_row : {t : Tables} (m : Module) (s : Statement) (ps : Past) → Fronts (rooms_of (s ∷ ps)) t → admitted (s ∷ ps) ≡ true → is a_wire s ≡ false → statement_now t.names t.strings t.bits t.wires t.rows m (length ps) ≡ some s
unfolding statement_now is code
plain_row {t} m s ps b e h =
    rw (fronts-kind s ps b, eqb-sym (code (contents s).kind) 5, h) (decodes-last s ps b e)

module _ {t : Tables} (rs : List Rename) (F : Past) (b : Fronts (put_renames (rooms_of F) rs) t) (m : Module) (from_is : m.from ≡ length F) (renames-are : m.renames ≡ length rs) where
  now-is : (n k : ℕ) → line.name_now t.names t.wires t.rows m.from m.renames m.number.0 n k ≡ name_now rs m.number.0 n (name_of t.names t.wires k)
  now-is n k = rw (from_is, renames-are, ← length-rows F) (name-is (rooms_of F) (eights-rows F) rs b m.number.0 n k)

  wire-row :
      (w : Wire) (x : Name) (ps : Past) (n : ℕ) → Fronts (rooms_of (wire-stmt w x ∷ ps)) t → admitted (wire-stmt w x ∷ ps) ≡ true → m.first + n ≡ wires_in ps →
      statement_now t.names t.strings t.bits t.wires t.rows m (length ps) ≡ some (wire-stmt w (name_now rs m.number.0 n x))
  unfolding statement_now line.own_now used name_bytes flat_map all statements_open Has
  wire-row w x ps n bs e h =
      let p = (fronts-stand (wire-stmt w x) ps bs).parts in
      let k : ℕ = length (rooms_of ps).wires in
      let c : column t.rows (length ps) 3 ≡ k = fronts-wire w x ps bs in
      let d : k - m.first ≡ n = omega (arith, used-wires ps) in
      let r = parts-wire (used (rooms_of ps)) w x p in
      let o : int32 w.offset ≡ true = and-true-left (int32 w.offset) true (fine-fits (wires ps) (wire-stmt w x) (admitted-last (wire-stmt w x) ps e).parts) in
      let wi : wire_of t.wires k ≡ w = row-wire t.wires k (used (rooms_of ps)) x w r o in
      let ni : name_of t.names t.wires k ≡ x = row-name t.wires k (used (rooms_of ps)) x w r t.names (rw append-nil at p.names-has) in
      rw (fronts-kind (wire-stmt w x) ps bs, c, now-is (k - m.first) k, d, wi, ni)

  named-row :
      (s : Statement) (ps : Past) (n : ℕ) → Adds s → Fronts (rooms_of (s ∷ ps)) t → admitted (s ∷ ps) ≡ true → m.first + n ≡ wires_in ps →
      statement_now t.names t.strings t.bits t.wires t.rows m (length ps) ≡ some (named (name_now rs m.number.0 n) s)
  unfolding named
  named-row s ps n (a-wire w x) bs e h = wire-row w x ps n bs e h
  named-row s ps n (no-wire o z) bs e h = plain_row m s ps bs e o ∙ ap some (sym (named_other (name_now rs m.number.0 n) s o))

  -- THE ROWS OF A MODULE
  rowed :
      (qs : List Statement) (ps : Past) (n : ℕ) → Fronts (rooms_of (reverse_aux qs ps)) t → admitted (reverse_aux qs ps) ≡ true → m.first + n ≡ wires_in ps →
      Rowed t m (length ps) (nowed rs m.number.0 n qs)
  unfolding nowed
  rowed [] ps n bs e h = no_rows
  rowed (s ∷ qs) ps n bs e h =
      let c : Fronts (rooms_of (s ∷ ps)) t = fronts-past qs (s ∷ ps) bs in
      one-row (named-row s ps n (adds s) c (admitted-past qs (s ∷ ps) e) h)
      (fronts-kind s ps c ∙ sym (named-code (name_now rs m.number.0 n) s))
      (rowed qs (s ∷ ps) (cond (is a_wire s) (n + 1) n) bs e
      (by-test (is a_wire s)
      (λ w. rw w (omega (arith, rw w at (wires-more s ps))))
      (λ w. rw w (omega (arith, rw w at (wires-more s ps))))))

kinded : {t : Tables} (qs : List Statement) (ps : Past) → Fronts (rooms_of (reverse_aux qs ps)) t → Kinded t.rows (length ps) qs
kinded [] ps b = no-kinds
kinded (s ∷ qs) ps b = one-kind (fronts-kind s ps (fronts-past qs (s ∷ ps) b)) (kinded qs (s ∷ ps) b)

-- ---- where a module's statements end

unfoldable beyond : List Statement → List Statement
beyond [] = []
beyond (s ∷ qs) = let r = beyond qs in cond (is a_module s) (s ∷ qs) r

until-beyond : (qs : List Statement) (base : Past) → reverse_aux qs base ≡ reverse_aux (beyond qs) (reverse_aux (until (is a_module) qs) base)
unfolding beyond until
until-beyond [] base = refl
until-beyond (s ∷ qs) base = by-test (is a_module s) (λ e. rw e) (λ e. rw e (until-beyond qs (s ∷ base)))

count-onto : (xs : List Statement) (base : Past) → module_count base ≤ module_count (reverse_aux xs base)
count-onto xs base = omega (arith, sum-behind (count (a_module ∷ [])) xs base)

count-until : (qs : List Statement) (base : Past) → module_count (reverse_aux (until (is a_module) qs) base) ≡ module_count base
unfolding until
count-until [] base = refl
count-until (s ∷ qs) base = by-test (is a_module s) (λ e. rw e) (λ e. rw e (count-until qs (s ∷ base) ∙ other-counts s base e))

of-until : (qs : List Statement) (base : Past) → of_module (reverse_aux (until (is a_module) qs) base) ≡ reverse_aux (until (is a_module) qs) (of_module base)
unfolding until
of-until [] base = refl
of-until (s ∷ qs) base =
    by-test (is a_module s) (λ e. rw e)
    (λ e. rw e (of-until qs (s ∷ base) ∙ ap (reverse_aux (until (is a_module) qs)) (module-more s base e)))

module _ (n : ℕ) where
  up-to-onto : (xs : List Statement) (base : Past) → suc n < module_count base → up_to n (reverse_aux xs base) ≡ up_to n base
  up-to-onto [] base h = refl
  up-to-onto (x ∷ xs) base h =
      let k : suc n < module_count (x ∷ base) = omega (arith, (count-step x base).0) in
      up-to-onto xs (x ∷ base) k ∙ up-to-back n x base k

  up-to-beyond : (qs : List Statement) (base : Past) → module_count base ≡ suc n → up_to n (reverse_aux (beyond qs) base) ≡ base
  unfolding beyond
  up-to-beyond [] base h = up-to-all n base (omega arith)
  up-to-beyond (s ∷ qs) base h =
      by-test (is a_module s)
      (λ e.
      let k : suc n < module_count (s ∷ base) = omega (arith, module-counts s base e) in
      rw e (up-to-onto qs (s ∷ base) k ∙ up-to-back n s base k ∙ up-to-all n base (omega arith)))
      (λ e. rw e (up-to-beyond qs base h))

-- THE MODULE whose line s stands behind ps, with the statements qs behind it
module _
    {t : Tables} (rs : List Rename) (C : Counts) (F : Past) (b : Fronts (put_renames (rooms_of F) rs) t) (e : admitted F ≡ true)
    (statements : C.statements ≡ length F) (wires-in : C.wires ≡ wires_in F) (renames : C.renames ≡ length rs) where
  F-fronts : Fronts (rooms_of F) t
  F-fronts = fronts-renames (rooms_of F) rs b

  module _ (s : Statement) (ps : Past) (qs : List Statement) (n : ℕ) (is-F : reverse_aux qs (s ∷ ps) ≡ F) (n-is : n ≡ module_count ps) (line-is : is a_module s ≡ true) where
    abbrev own : List Statement
    own = until (is a_module) qs

    counted : module_count (s ∷ ps) ≡ suc n
    counted = module-counts s ps line-is ∙ ap suc (sym n-is)

    there : n < module_count F
    there = rw (← is-F) (omega (arith, count-onto qs (s ∷ ps), counted))

    up-to-is : up_to n F ≡ reverse_aux own (s ∷ ps)
    up-to-is = ap (up_to n) (sym is-F ∙ until-beyond qs (s ∷ ps)) ∙ up-to-beyond n qs (reverse_aux own (s ∷ ps)) (count-until qs (s ∷ ps) ∙ counted)

    of_is : of_module (up_to n F) ≡ reverse own
    of_is = ap of_module up-to-is ∙ of-until qs (s ∷ ps) ∙ ap (reverse_aux own) (module-first s ps line-is)

    statements-are : statements_of n (reverse F) ≡ own
    statements-are = module-past F n there ∙ ap reverse of_is ∙ reverse-reverse own

    first-is : (module_at t.wires C n).first ≡ wires_in (s ∷ ps)
    unfolding module_at
    first-is =
        let r = wire-range-there n F (standing-headed (admitted-standing F e)) (fronts-wired F-fronts) there in
        let x : wires_in (up_to n F) ≡ wires_in own + wires_in (s ∷ ps) = ap wires_in up-to-is ∙ wires-onto own (s ∷ ps) in
        let y : wires_in (of_module (up_to n F)) ≡ wires_in own + wires_in [] = ap wires_in of_is ∙ wires-onto own [] in
        rw wires-in (omega (arith, r.0, r.1, x, y, none-wires))

    seen-is : line.wires_in t.names t.wires t.rows (module_at t.wires C n) ≡ wires_now rs n own
    unfolding module_at line.wires_in
    seen-is =
        rw (statements, renames, wires-in, ← length-rows F)
        (wires-are (rooms_of F) (eights-rows F) rs b n (wire_range t.wires (wires_in F) n).first (wire_range t.wires (wires_in F) n).count
        ∙ ap (wires_down rs n)
        (wires-range n F (standing-headed (admitted-standing F e)) (fronts-wired F-fronts) (admitted-offsets F e)
        ∙ ap (λ (l : List Statement). wires_of (reverse l)) statements-are
        ∙ sym (wires-back own))
        ∙ sym (wires-down rs n own))

    own-rowed : Rowed t (module_at t.wires C n) (suc (length ps)) (nowed rs n 0 own)
    unfolding module_at
    own-rowed =
        let c : Fronts (rooms_of (reverse_aux (beyond qs) (reverse_aux own (s ∷ ps)))) t = rw (sym is-F ∙ until-beyond qs (s ∷ ps)) at F-fronts in
        let a : admitted (reverse_aux (beyond qs) (reverse_aux own (s ∷ ps))) ≡ true = ap admitted (sym (until-beyond qs (s ∷ ps)) ∙ is-F) ∙ e in
        rowed rs F b (module_at t.wires C n) statements renames own (s ∷ ps) 0 (fronts-past (beyond qs) (reverse_aux own (s ∷ ps)) c) (admitted-past (beyond qs) (reverse_aux own (s ∷ ps)) a)
        (omega (arith, first-is))

    -- its rows write it
    module-rows :
        (first : ℕ) (at : List Statement) {p : Scope} {f : Bool} → Follows p f qs → length ps ≡ first + length at → all (is an_attribute) at ≡ true →
        Rowed t (module_at t.wires C n) first at → module_if t C n first (length ps) (length qs) ≡ print_module rs n at s qs
    unfolding module_if print_module is code
    module-rows first at fo el ea r =
        let m : Module = module_at t.wires C n in
        let c : Fronts (rooms_of (reverse_aux qs (s ∷ ps))) t = rw is-F F-fronts in
        let a : admitted (reverse_aux qs (s ∷ ps)) ≡ true = ap admitted is-F ∙ e in
        let k : kind_at t.rows (length ps) ≡ code (contents s).kind = fronts-kind s ps (fronts-past qs (s ∷ ps) c) in
        let x : eqb (kind_at t.rows (length ps)) 3 ≡ true = rw k (eqb-sym (code (contents s).kind) 3 ∙ line-is) in
        let j : length ps + 1 ≡ suc (length ps) = omega arith in
        let y : next_row t.rows 3 (length ps + 1) (length qs) - (length ps + 1) ≡ length own =
        rw j (let z : next_row t.rows 3 (suc (length ps)) (length qs) ≡ suc (length ps) + length own = next-until t.rows a_module 3 refl (kinded qs (s ∷ ps) c) in omega arith) in
        let d : length ps - first ≡ length at = omega arith in
        let st : statement_now t.names t.strings t.bits t.wires t.rows m (length ps) ≡ some s =
        plain_row m s ps (fronts-past qs (s ∷ ps) c) (admitted-past qs (s ∷ ps) a) (is-other a_module a_wire s refl line-is) in
        let l : row_line t m 0 (length ps) ≡ line_of 0 [] s = row-line t m 0 (length ps) s st ∙ plain_at 0 (line.wires_in t.names t.wires t.rows m) s (plain_of a_module s refl line-is) in
        let at-is : kind_rows t m 2 0 first (length ps - first) ≡ lines_of 0 [] at = attribute-rows t m 0 (length ps - first) d ea r ∙ lines-plain 0 (line.wires_in t.names t.wires t.rows m) at ea in
        let bd : body_rows t m (length ps + 1) (next_row t.rows 3 (length ps + 1) (length qs) - (length ps + 1)) ≡ body_lines rs n (wires_now rs n own) own =
        rw (y, j) (ap (body_rows t m (suc (length ps))) (sym (length-nowed rs n 0 own)) ∙ body-rows t m own-rowed (follows-nowed rs n 0 (follows-until (is a_module) fo)) ∙ body-nowed rs n (line.wires_in t.names t.wires t.rows m) own (follows-until (is a_module) fo) ∙ ap (λ (ws : Wires). body_lines rs n ws own) seen-is) in
        rw (x, at-is, l, bd, end-top)

  -- rows that are no module line
  module-not : (s : Statement) (ps : Past) (n first c : ℕ) → Fronts (rooms_of (s ∷ ps)) t → is a_module s ≡ false → module_if t C n first (length ps) c ≡ []
  unfolding module_if is code
  module-not s ps n first c k h = rw (fronts-kind s ps k, eqb-sym (code (contents s).kind) 3, h)

  more-modules : (s : Statement) (ps : Past) (n : ℕ) → Fronts (rooms_of (s ∷ ps)) t → n ≡ module_count ps → n + cond (eqb (kind_at t.rows (length ps)) 3) 1 0 ≡ module_count (s ∷ ps)
  unfolding is code
  more-modules s ps n k h =
      rw (fronts-kind s ps k, eqb-sym (code (contents s).kind) 3)
      (by-test (eqb 3 (code (contents s).kind)) (λ x. rw x (omega (arith, module-counts s ps x))) (λ x. rw x (omega (arith, other-counts s ps x))))

  -- ALL MODULES
  modules-rows :
      (qs : List Statement) (ps : Past) (n first : ℕ) (at : List Statement) {p : Scope} {f : Bool} → Follows p f qs → reverse_aux qs ps ≡ F → n ≡ module_count ps →
      length ps ≡ first + length at → all (is an_attribute) at ≡ true → ((m : Module) → Rowed t m first at) →
      module_rows t C n first (length ps) (length qs) ≡ object_lines a_module (print_module rs) n at qs
  unfolding module_rows object_lines all code
  modules-rows [] ps n first at fo i h el ea r = refl
  modules-rows (s ∷ qs) ps n first at (one_follows g q fo) i h el ea r =
      let c : Fronts (rooms_of (reverse_aux qs (s ∷ ps))) t = rw i F-fronts in
      let a : admitted (reverse_aux qs (s ∷ ps)) ≡ true = ap admitted i ∙ e in
      let k : Fronts (rooms_of (s ∷ ps)) t = fronts-past qs (s ∷ ps) c in
      let n' : n + cond (eqb (kind_at t.rows (length ps)) 3) 1 0 ≡ module_count (s ∷ ps) = more-modules s ps n k h in
      by-test (is an_attribute s)
      (λ w.
      let o : is a_module s ≡ false = is-other an_attribute a_module s refl w in
      let same : n ≡ module_count (s ∷ ps) = h ∙ sym (other-counts s ps o) in
      rw (module-not s ps n first (length qs) k o, waits _ first (length ps) s (fronts-kind s ps k) w, n', ← same, w)
      (modules-rows qs (s ∷ ps) n first (at ++ s ∷ []) fo i same (more-behind (length ps) first at s el) (all_snoc (is an_attribute) at s ea w)
      (λ m. rowed-more s (length ps) el (r m) (plain_row m s ps k (admitted-past qs (s ∷ ps) a) (is-other an_attribute a_wire s refl w)) (fronts-kind s ps k))))
      (λ w. by-test (is a_module s)
      (λ z.
      let next : n + 1 ≡ module_count (s ∷ ps) = omega (arith, module-counts s ps z) in
      rw (passes _ first (length ps) s (fronts-kind s ps k) w, n', ← next, w, z)
      (ap₂ ◌++◌ (module-rows s ps qs n i h z first at fo el ea (r (module_at t.wires C n)))
      (modules-rows qs (s ∷ ps) (n + 1) (suc (length ps)) [] fo i next (omega arith) refl (λ m. no_rows))))
      (λ z.
      let same : n ≡ module_count (s ∷ ps) = h ∙ sym (other-counts s ps z) in
      rw (module-not s ps n first (length qs) k z, passes _ first (length ps) s (fronts-kind s ps k) w, n', ← same, w, z)
      (modules-rows qs (s ∷ ps) n (suc (length ps)) [] fo i same (omega arith) refl (λ m. no_rows))))

  -- the `autoidx` line
  autoidx-rows : (ss : List Statement) {p : Scope} {f : Bool} → Follows p f ss → reverse ss ≡ F → kind_rows t (module_at t.wires C 0) 1 0 0 (cond (eqb (length ss) 0) 0 1) ≡ first_line an_autoidx ss
  unfolding kind_rows line_if first_line code
  autoidx-rows [] fo i = refl
  autoidx-rows (s ∷ ss) fo i =
      let c : Fronts (rooms_of (reverse_aux ss (s ∷ []))) t = rw i F-fronts in
      let a : admitted (reverse_aux ss (s ∷ [])) ≡ true = ap admitted i ∙ e in
      let k : Fronts (rooms_of (s ∷ [])) t = fronts-past ss (s ∷ []) c in
      rw eqb-suc-zero (first-autoidx s k (admitted-past ss (s ∷ []) a) ∙ sym (autoidx-first fo))
    where
      first-autoidx : (s : Statement) → Fronts (rooms_of (s ∷ [])) t → admitted (s ∷ []) ≡ true → cond (eqb (kind_at t.rows 0) 1) (row_line t (module_at t.wires C 0) 0 0) [] ++ [] ≡ cond (is an_autoidx s) (line_of 0 [] s) []
      first-autoidx s k a =
          rw (append-nil, autoidx-kind s k)
          (by-test (is an_autoidx s)
          (λ h. rw h (row-line t (module_at t.wires C 0) 0 0 s (plain_row (module_at t.wires C 0) s [] k a (is-other an_autoidx a_wire s refl h)) ∙ plain_at 0 _ s (plain_of an_autoidx s refl h)))
          (λ h. rw h))

  -- THE TEXT
  pub text_of : (ss : List Statement) → reverse ss ≡ F → text_rows t C ≡ file_text rs ss
  unfolding text_rows file_text all
  text_of ss i =
      let fo = follows ss (rw i (admitted-standing F e)) in
      let l : C.statements ≡ length ss = statements ∙ ap length (sym i) ∙ length-reverse ss in
      ap (λ (c : ℕ). kind_rows t (module_at t.wires C 0) 1 0 0 (cond (eqb c 0) 0 1) ++ module_rows t C 0 0 0 c) l
      ∙ (ap₂ ◌++◌ (autoidx-rows ss fo i) (modules-rows ss [] 0 0 [] fo i (sym none-counts) refl refl (λ m. no_rows)))
