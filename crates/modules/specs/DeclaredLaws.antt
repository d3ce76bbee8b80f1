-- Each wire of a module has its statement: found by module number and wire number, with the attributes before it and its row.
-- Assumes nothing.
use Rattle.std.specs.Prelude.{ℕ, suc, ◌+◌, ◌≤◌, ◌<◌, ◌≡◌, refl}
use Rattle.std.proofs.Common.{sym, ◌∙◌, arith}
use Rattle.std.proofs.Math.Path.{ap}
use mathlib.Core.List.{List, [], ◌∷◌, ◌++◌, flat_map, reverse, reverse-append, reverse-cons, append_assoc}
use Rattle.std.proofs.Math.Option.{some}
use Rattle.std.proofs.Math.ListN.{length}
use Rattle.rules.specs.Tokens.{Name}
use Rattle.rules.specs.Statements.{Statement, Wire, wire-stmt, a_module, is, statements_open}
use Rattle.rules.specs.Judgement.{Past, of_module, wires}
use Rattle.rules.specs.Design.{object, design}
use Rattle.rules.specs.Session.{wire_at}
use Rattle.lists.specs.Tests.{by-test, by_order}
use Rattle.context.specs.Place.{wires_in, place_of}
use Rattle.context.proofs.PlaceLaws.{length-all-wires, wires-none, wires-one, wires-reset}
use Rattle.netlist.specs.Laid.{rooms_of, Wired}
use Rattle.modules.specs.Modules.{statements_of, wires_of, module_count, up_to, Headed}
use Rattle.modules.specs.PastLaws.{other-counts, none_below, module-past, no-module, up-to-split, up-to-count}
use Rattle.modules.specs.AttributeLaws.{settings_before, wire-in-file}
use Rattle.modules.specs.WireLaws.{Adds, a-wire, no-wire, adds, length-wires-back, range-number}
use Rattle.modules.specs.Ranges.{wire_range}

-- where wire w of module m is declared: the statements before its own and those behind it, the last one first
pub record Declared (ss : Past) (m w : ℕ) : Type 0 where
  pub before : Past
  pub behind : Past
  pub body : Wire
  pub name : Name
  pub all : ss ≡ behind ++ wire-stmt body name ∷ before
  pub module-is : module_count before ≡ suc m
  pub number_is : length (wires before) ≡ w

-- with statements behind, it is declared where it was
declared-more : (xs ss : Past) (m w : ℕ) → Declared ss m w → Declared (xs ++ ss) m w
declared-more xs ss m w d =
    record {
      before = d.before;
      behind = xs ++ d.behind;
      body = d.body;
      name = d.name;
      all = ap (λ (l : Past). xs ++ l) d.all ∙ sym (append_assoc xs d.behind (wire-stmt d.body d.name ∷ d.before));
      module-is = d.module-is;
      number_is = d.number_is;
    }

-- in the module that stands open
wire-counts : (b : Wire) (n : Name) (ss : Past) → module_count (wire-stmt b n ∷ ss) ≡ module_count ss
unfolding statements_open
wire-counts b n ss = other-counts (wire-stmt b n) ss refl

module _ (m w : ℕ) where
  declared-step :
      (s : Statement) (ss : Past) → (module_count ss ≡ suc m → w < length (wires ss) → Declared ss m w) → Adds s →
      module_count (s ∷ ss) ≡ suc m → w < length (wires (s ∷ ss)) → Declared (s ∷ ss) m w
  declared-step s ss earlier (a-wire b n) e h =
      let c : module_count ss ≡ suc m = sym (wire-counts b n ss) ∙ e in
      by_order (length (wires ss)) w
      (λ q.
      let l : length (wires (wire-stmt b n ∷ ss)) ≡ suc (length (wires ss)) = ap length (wires-one b n ss) in
      record { before = ss; behind = []; body = b; name = n; all = refl; module-is = c; number_is = omega arith })
      (λ q. declared-more (wire-stmt b n ∷ []) ss m w (earlier c q))
  declared-step s ss earlier (no-wire y z) e h =
      by-test (is a_module s)
      (λ q. absurd (let k : length (wires (s ∷ ss)) ≡ 0 = ap length (wires-reset s ss q) in omega arith))
      (λ q.
      let k : length (wires (s ∷ ss)) ≡ length (wires ss) = ap length (wires-none s ss q z) in
      declared-more (s ∷ []) ss m w (earlier (sym (other-counts s ss q) ∙ e) (omega arith)))

  declared-open : (ss : Past) → module_count ss ≡ suc m → w < length (wires ss) → Declared ss m w
  declared-open [] e h = none_below {m = m} (omega arith)
  declared-open (s ∷ ss) e h = declared-step s ss (declared-open ss) (adds s) e h

-- A WIRE OF A MODULE IS DECLARED
module _ (ss : Past) (m w : ℕ) where
  module-wires : m < module_count ss → length (wires_of (statements_of m (reverse ss))) ≡ length (wires (up_to m ss))
  unfolding wires
  module-wires b =
      ap (λ (qs : List Statement). length (wires_of qs)) (module-past ss m b) ∙ length-wires-back (of_module (up_to m ss))

  no-module-wires : module_count ss ≤ m → length (wires_of (statements_of m (reverse ss))) ≡ 0
  unfolding flat_map
  no-module-wires b = ap (λ (qs : List Statement). length (wires_of qs)) (no-module ss m b)

  pub wire-declared : w < length (wires_of (statements_of m (reverse ss))) → Declared ss m w
  wire-declared h =
      by_order (module_count ss) m
      (λ b. absurd (omega (arith, no-module-wires b)))
      (λ b.
      let x = up-to-split m ss in
      let d : Declared (up_to m ss) m w = declared-open m w (up_to m ss) (up-to-count m ss b) (omega (arith, module-wires b)) in
      rw x.1 (declared-more x.0 (up_to m ss) m w d))

  -- and it is the design's, with the attributes right before its statement
  pub declared-wire : (d : Declared ss m w) → wire_at (design (reverse ss)) m w ≡ some (object (settings_before d.before) d.name d.body)
  declared-wire d =
      let s : Statement = wire-stmt d.body d.name in
      let e : reverse ss ≡ reverse d.before ++ s ∷ reverse d.behind =
      ap reverse d.all
      ∙ reverse-append d.behind (s ∷ d.before)
      ∙ ap (λ (l : List Statement). l ++ reverse d.behind) (reverse-cons s d.before)
      ∙ append_assoc (reverse d.before) (s ∷ []) (reverse d.behind) in
      rw (e, ← d.number_is) (wire-in-file d.body d.name d.before (reverse d.behind) m d.module-is)

-- ITS ROW in the table of wires is its number behind the first of its module's range; its statement's row says so
wires-counted : (before : Past) → wires_in (of_module before) ≡ length (wires before)
unfolding wires place_of
wires-counted before = sym (length-all-wires (of_module before))

module _ {names t : List ℕ} (m w : ℕ) (ss xs before : Past) (e : ss ≡ xs ++ before) where
  wire-row : module_count before ≡ suc m → length (wires before) ≡ w → Headed ss → Wired (rooms_of ss) names t → wires_in before ≡ (wire_range t (wires_in ss) m).first + w
  wire-row c k h l =
      rw (e, ← k, ← wires-counted before) (range-number m before (omega arith) c xs (rw e at h) (rw e at l))

module _ (ss : Past) (m w : ℕ) (d : Declared ss m w) where
  pub declared-number : {names t : List ℕ} → Headed ss → Wired (rooms_of ss) names t → wires_in d.before ≡ (wire_range t (wires_in ss) m).first + w
  declared-number h l =
      wire-row m w ss (d.behind ++ wire-stmt d.body d.name ∷ []) d.before
      (d.all ∙ sym (append_assoc d.behind (wire-stmt d.body d.name ∷ []) d.before))
      d.module-is
      d.number_is
      h
      l
