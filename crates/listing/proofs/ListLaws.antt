-- The listing of memory that holds a design.
-- Assumes nothing.
use Prim.Native.Nat.{ℕ, zero, suc, ◌+◌, ◌≤◌, ◌<◌}
use mathlib.Core.Path.{◌≡◌, refl, sym, ap, ap₂, ◌∙◌}
use mathlib.Core.List.{List, [], ◌∷◌, ◌++◌, map, flat_map, reverse}
use mathlib.Core.Option
use mathlib.Core.Option.{Option, none, some, Option-elim}
use mathlib.Core.Bool.{cond}
use native.Mathlib.Omega.{arith}
use lib.Dec.{ltb}
use lib.ListN.{length, get_elem?, take, length-map}
use lib.Seq.{take_all}
use Rattle.rules.specs.Bytes.{any}
use Rattle.rules.specs.Statements.{Statement, Wire, an_attribute, a_module, is}
use Rattle.rules.specs.Judgement.{sum, count, among, refused, verdict, lowest}
use Rattle.rules.specs.Design.{Setting, Object, Module, Item, setting_in, items, blocks, module_of, Design, design}
use Rattle.rules.specs.Session.{wires_at, wire_at, now}
use Rattle.rules.specs.Plain.{plain_form, low, wire_line, wire_lines, listed, listing}
use Rattle.lists.specs.Tests.{by-test}
use Rattle.lists.specs.Lists.{flat_map-snoc, element-none, up}
use Rattle.lists.specs.Sums.{sum-reverse}
use Rattle.context.specs.Place.{place_of}
use Rattle.context.specs.declared.place.Place.{Place}
use Rattle.context.proofs.PlaceLaws.{bounds}
use Rattle.modules.specs.DesignLaws.{only-attribute}
use Rattle.modules.specs.Now.{module_now}
use Rattle.modules.specs.Ranges.{wire_range}
use Rattle.modules.specs.RangeLaws.{where-le, where_next}
use Rattle.modules.specs.NowLaws.{module-now}
use Rattle.netlist.specs.Results.{lent}
use Rattle.netlist.specs.Lengths.{lengths-exact}
use Rattle.rename_rules.specs.Judged.{module_by}
use Rattle.rename_rules.specs.LiesLaws.{names-are}
use Rattle.wire_names.specs.declared.Module as code
use Rattle.plain.specs.Put.{wrote}
use Rattle.session.specs.Called.{Called, holding}
use Rattle.session.specs.Steps.{Holding}
use Rattle.session.proofs.HoldLaws.{lies, few-rows}
use Rattle.show.proofs.ShowLaws.{wire-shown}
use Rattle.listing.specs.Lines.{name_at, shown_at, line_at, lines_at, fitted}

-- LISTS
take_found : {A : Type 0} (xs : List A) (i : ℕ) (x : A) → get_elem? xs i ≡ some x → take (suc i) xs ≡ take i xs ++ x ∷ []
take_found [] i x e = cc
take_found (y ∷ ys) zero x e = let q : y ≡ x = cc in ap (λ (z : _). z ∷ []) q
take_found (y ∷ ys) (suc i) x e = ap (λ (l : List _). y ∷ l) (take_found ys i x e)

length_up : {A : Type 0} (f : ℕ → A) (many k : ℕ) → length (up f many k) ≡ many
length_up f zero k = refl
length_up f (suc l) k = ap suc (length_up f l (k + 1))

-- THE MODULES of a design are as many as its statements have
blocks-many : (at : List Setting) (ss : List Statement) → length (blocks (is a_module) (items at ss)) ≡ sum (count (a_module ∷ [])) ss
unfolding items blocks sum count among any
blocks-many at [] = refl
blocks-many at (s ∷ ss) =
    by-test (is an_attribute s)
    (λ e. rw ((only-attribute s e).no-module, e) (omega (arith, blocks-many (at ++ setting_in s) ss)))
    (λ e. by-test (is a_module s) (λ q. rw (e, q) (omega (arith, blocks-many [] ss))) (λ q. rw (e, q) (omega (arith, blocks-many [] ss))))

-- one that is there, and one that is not, with the renames that stand
module _ (room : ℕ) (f : Object Module → Object Module) where
  there : (xs : List (Object Module)) (m : ℕ) → m < length xs → let o = Option.map f (get_elem? xs m) in listed room o ≡ fitted room (flat_map wire_line (Option-elim o [] (λ o. o.body.wires)))
  unfolding listed wire_lines fitted Option-elim
  there [] m h = absurd (omega arith)
  there (x ∷ xs) zero h = refl
  there (x ∷ xs) (suc m) h = there xs m (omega arith)

  not_there : (xs : List (Object Module)) (m : ℕ) → length xs ≤ m → listed room (Option.map f (get_elem? xs m)) ≡ refused 8
  unfolding listed
  not_there xs m h = rw (element-none xs m h)

-- IN MEMORY THAT HOLDS A DESIGN
module _ {names strings bits wires rows : List ℕ} {renames room : ℕ} {p : Place} (h : Holding (lent names strings bits wires rows renames room) p) (m : ℕ) where
  abbrev says : Design
  says = now (design h.statements) h.renames

  abbrev own : code.Module
  own = module_by wires p renames m

  abbrev all : List (Object Wire)
  all = wires_at says m

  modules-many : length (design h.statements).modules ≡ p.modules
  unfolding design place_of
  modules-many =
      length-map (blocks (is a_module) (items [] h.statements)) module_of
      ∙ blocks-many [] h.statements
      ∙ sym (sum-reverse (count (a_module ∷ [])) h.statements)
      ∙ ap (λ (x : Place). x.modules) h.place

  wires-many : length all ≡ own.wires
  wires-many = sym (length-map all (λ o. o.name)) ∙ ap length (names-are (lies h) m) ∙ length_up _ own.wires 0

  -- the lines of the tables are those of the design
  first-lines : (w : ℕ) → w ≤ own.wires → lines_at names strings wires rows own w ≡ flat_map wire_line (take w all)
  unfolding lines_at line_at name_at shown_at wire_line wire_at flat_map
  first-lines zero k = refl
  first-lines (suc w) k =
      let q = wire-shown h m w _ refl (omega arith) in
      let line : wire_line q.0 ≡ line_at names strings wires rows own w =
      ap₂ (λ (n s : List ℕ). plain_form n ++ 32 ∷ flat_map low s ++ 10 ∷ []) q.2 q.3 in
      ap₂ (λ (x y : List ℕ). x ++ y) (first-lines w (omega arith)) (sym line)
      ∙ sym (flat_map-snoc wire_line (take w all) q.0)
      ∙ ap (flat_map wire_line) (sym (take_found all w q.0 q.1))

  lines_are : lines_at names strings wires rows own own.wires ≡ flat_map wire_line all
  lines_are = first-lines own.wires (omega arith) ∙ ap (flat_map wire_line) (take_all own.wires all (omega (arith, wires-many)))

  wires-fit : own.first + own.wires ≤ 6881
  unfolding wire_range
  wires-fit =
      let q : p.wires ≤ p.rows = rw (← h.place) (bounds (reverse h.statements)).wires in
      omega (arith, where_next wires m p.wires, where-le (λ c. ltb c (suc m)) wires p.wires, few-rows h)

  -- what the lines of a module ask for
  pub fits : (x : code.Module) → x ≡ own → (x.first + x.wires ≤ 6881) × ((length names ≡ 16384) × (length strings ≡ 8192))
  fits x e = let l = lengths-exact _ h.lengths in (rw e wires-fit, (l.0, l.1))

  module _ (old : List ℕ) where
    abbrev Lists : ℕ × ℕ × List ℕ → Type 0
    Lists a = Called (lent names strings bits wires rows renames room) (λ n. (n, 0, old)) (λ ss rs. wrote old (listing (length old) (now (design ss) rs) m)) a

    pub listed-missing : p.modules ≤ m → Lists (8, 0, old)
    unfolding listing wrote
    listed-missing b =
        holding h.statements h.renames h.lengths h.holds
        (rw (module-now (design h.statements) h.renames m, not_there (length old) (module_now h.renames m) (design h.statements).modules m (omega (arith, modules-many))))

    pub listed-there :
        m < p.modules → (x : code.Module) → x ≡ own → (a : ℕ × ℕ × List ℕ) → a ≡ wrote old (fitted (length old) (lines_at names strings wires rows x x.wires)) → Lists a
    unfolding listing wires_at
    listed-there b x ex a ea =
        let is : listing (length old) says m ≡ fitted (length old) (flat_map wire_line all) =
        rw (module-now (design h.statements) h.renames m) (there (length old) (module_now h.renames m) (design h.statements).modules m (omega (arith, modules-many))) in
        holding h.statements h.renames h.lengths h.holds
        (ea
        ∙ ap (λ (y : code.Module). wrote old (fitted (length old) (lines_at names strings wires rows y y.wires))) ex
        ∙ ap (λ (t : List ℕ). wrote old (fitted (length old) t)) lines_are
        ∙ ap (wrote old) (sym is))
