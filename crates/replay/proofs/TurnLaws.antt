-- One statement more behind those that the tables begin with.
-- Assumes nothing.
use Prim.Native.Nat.{ℕ, ◌+◌, ◌-◌, ◌*◌, ◌≤◌, ◌<◌}
use mathlib.Core.Path.{◌≡◌, refl, sym, ap, ap₂, ◌∙◌, subst}
use mathlib.Core.List.{List, [], ◌∷◌, map, flat_map}
use mathlib.Core.Bool.{Bool, true, false, cond, not, ◌&&◌, and_assoc}
use native.Mathlib.Omega.{arith}
use Rattle.std.specs.Prelude.{Some, None}
use Rattle.std.specs.Prelude.{Option as Optional}
use lib.Dec.{eqb, leb}
use lib.ListN.{length}
use borrow.Author.Tests.{le-leb, leb-true, not-true, not-false}
use Rattle.rules.specs.Bytes.{any}
use Rattle.rules.specs.Tokens.{Name}
use Rattle.rules.specs.Statements.{Statement, contents, code, holds, own_name, autoidx-stmt, attr-stmt, module-stmt, param-stmt, wire-stmt, memory-stmt, cell-stmt, cell-param-stmt, cell-conn-stmt, conn-stmt, proc-stmt, step-stmt, end-stmt}
use Rattle.rules.specs.Signals.{Wires}
use Rattle.rules.specs.Judgement.{Past, sum, wires, signal_size, value_size, string_size, name_size, takes_name, equal, step_widths, fit_widths, exceeds_size}
use Rattle.rules.specs.Layout.{Used, row, used, name_bytes, statement_row}
use Rattle.admitted.specs.Admitted.{stands, fine_parts, admits, admitted}
use Rattle.admitted.specs.AdmitLaws.{admits-all, admitted-offsets}
use Rattle.tables.specs.Row.{words, row_at}
use Rattle.tables.specs.declared.Row.{Row}
use Rattle.lists.specs.Elements.{test_at}
use Rattle.lists.specs.Tests.{by-test, and-true-left, and-true-right, never}
use Rattle.wires.specs.Rows.{wires_from}
use Rattle.wires.specs.RowLaws.{RowIs}
use Rattle.netlist.specs.Rows.{name_at, names_between}
use Rattle.netlist.specs.Kinds.{of_kinds, has_name}
use Rattle.netlist.specs.RowLaws.{row-own}
use Rattle.netlist.specs.Laid.{rooms_of, Laid}
use Rattle.netlist.specs.WireLaws.{wires-laid}
use Rattle.netlist.specs.Found.{space_from, found_in}
use Rattle.netlist.specs.FoundLaws.{takes-found}
use Rattle.context.specs.Place.{place_of, Bounds, AfterIs}
use Rattle.context.specs.Sizes.{sizes_by, sums_of, plus_of, exceeds, Within, AtMost, KindSizesAre}
use Rattle.context.specs.declared.place.Place.{Place}
use Rattle.context.specs.declared.sizes.Sizes.{Sizes}
use Rattle.context.specs.declared.sizes.Standing.{Standing}
use Rattle.context.proofs.PlaceLaws.{place-rows}
use Rattle.context.proofs.SizeLaws.{sums-step, exceeds-sums, within-past, sizes-small}
use Rattle.netlist.specs.Used.{used_by}
use Rattle.netlist.specs.Spans.{Has}
use Rattle.row_statements.specs.Reads.{PartTables, part_tables, even_signals, Reads, Counts, Tells, statement_of, Small}
use Rattle.netlist.specs.Fronts.{Fronts, Stands}
use Rattle.netlist.specs.FrontLaws.{fronts-laid, fronts-wired, fronts-stand, stand-fronts, stand-row}
use Rattle.replay.specs.Begins.{with_rows}
use Rattle.replay.specs.Turns.{LineStands, Reached, TurnIs, Told, Rowed, CountsAs, Counted, small_parts}
use Rattle.row_statements.specs.declared.statements.Found.{Found}
use Rattle.modules.specs.CodeLaws.{narrow, narrow-past}
use Rattle.netlist.specs.StepLaws.{equal-last}
use Rattle.steps.specs.SearchLaws.{admitted-single}
use Rattle.replay.proofs.LineLaws.{kind-told, step_is, signals-few}
use Rattle.row_statements.proofs.UniqueLaws.{read_only}
use Rattle.netlist.specs.UsedLaws.{used-past}
use Rattle.replay.proofs.BeginLaws.{stand-long, stand-reads, reads-stand}

-- ---- the name

-- of a kind without a name no rows are searched
unnamed-space : (p : Place) (s : Statement) → has_name (code (contents s).kind) ≡ false → space_from p (code (contents s).kind) ≡ p.rows
unfolding has_name of_kinds any code contents holds space_from
unnamed-space p (autoidx-stmt i) e = refl
unnamed-space p (attr-stmt n c) e = never true refl e
unnamed-space p (module-stmt n) e = never true refl e
unnamed-space p (param-stmt n c) e = never true refl e
unnamed-space p (wire-stmt w n) e = never true refl e
unnamed-space p (memory-stmt m n) e = never true refl e
unnamed-space p (cell-stmt y n) e = never true refl e
unnamed-space p (cell-param-stmt o n c) e = never true refl e
unnamed-space p (cell-conn-stmt n x) e = never true refl e
unnamed-space p (conn-stmt x y) e = refl
unnamed-space p (proc-stmt n) e = never true refl e
unnamed-space p (step-stmt q xs) e = refl
unnamed-space p end-stmt e = refl

no-space : (names rows : List ℕ) (p : Place) (k : ℕ) (m n : Name) → space_from p k ≡ p.rows → found_in names rows p k m ≡ found_in names rows p k n
unfolding found_in names_between any
no-space names rows p k m n e = let z : p.rows - p.rows ≡ 0 = omega arith in rw (e, z)

module _ {names rows : List ℕ} (ss : Past) (s : Statement) where
  pub takes-row :
      Laid (rooms_of ss) names rows → RowIs rows (length ss) (statement_row (used (rooms_of ss)) s) → Has names (used (rooms_of ss)).names (name_bytes s) →
      takes_name ss s ≡ found_in names rows (place_of ss) (code (contents s).kind) (name_at names rows (length ss))
  unfolding Has
  takes-row l h p =
      by-test (has_name (code (contents s).kind))
      (λ e. takes-found ss s (contents s).kind (name_at names rows (length ss)) l refl (sym (row-own names rows (length ss) (used (rooms_of ss)) s h e p)))
      (λ e. takes-found ss s (contents s).kind (own_name (contents s).names) l refl refl
      ∙ no-space names rows (place_of ss) (code (contents s).kind) (own_name (contents s).names) (name_at names rows (length ss)) (unnamed-space (place_of ss) s e))

-- ---- the sizes

small_of : (ss : Past) (s : Statement) → exceeds_size (s ∷ ss) ≡ false → small_parts (signal_size s) (value_size s) (string_size s) (name_size s) ≡ true
unfolding small_parts sums_of sizes_by sum
small_of ss s e =
    let w = within-past (s ∷ ss) e in
    rw (
      le-leb (signal_size s) 8192 (omega (arith, w.signal-bits)),
      le-leb (value_size s) 8192 (omega (arith, w.value-bits)),
      le-leb (string_size s) 8192 (omega (arith, w.string-bytes)),
      le-leb (name_size s) 16384 (omega (arith, w.name-bytes)),
    )

parts-small : (g v x n : ℕ) → small_parts g v x n ≡ true → (g ≤ 16384) × (v ≤ 16384) × (x ≤ 16384) × (n ≤ 16384)
unfolding small_parts
parts-small g v x n e =
    let h = test_at (leb g 8192) (leb v 8192 ∷ leb x 8192 ∷ leb n 16384 ∷ []) (simp (← and_assoc) at e) in
    (omega (arith, leb-true g 8192 (h 0)), omega (arith, leb-true v 8192 (h 1)), omega (arith, leb-true x 8192 (h 2)), leb-true n 16384 (h 3))

-- sums of two don't wrap
pub told-small : (k c g v x n : ℕ) (d : Sizes) → Told k c g v x n → KindSizesAre k c g v x n d → small_parts g v x n ≡ true → AtMost 2147483647 d
told-small k m g v x n d h z e =
    let s = h.statement in
    let c = h.counts in
    let q = parts-small g v x n e in
    subst (λ (y : Sizes). AtMost 2147483647 y) (z s h.kind-is c.count c.signals c.values c.strings c.names)
    (sizes-small s 2147483647 (omega arith) (omega (arith, h.few, c.count)) (omega (arith, q.0, c.signals)) (omega (arith, q.1, c.values)) (omega (arith, q.2, c.strings)) (omega (arith, q.3, c.names)))

module _ (names rows : List ℕ) (p : Place) (u : Sizes) (k j c g v x n : ℕ) (m : Name) (em : m ≡ name_at names rows p.rows) {b : Bool} (eb : b ≡ found_in names rows p k m) where
  module _ {strings bits wires : List ℕ} (ss : Past) (s : Statement) (at : Reached (part_tables names strings bits wires) rows ss p u) (w : Rowed (part_tables names strings bits wires) rows ss s k j c g v x n) where
    taken_is : takes_name ss s ≡ b
    taken_is =
        takes-row ss s (fronts-laid at.fronts) w.row w.names
        ∙ ap₂ (λ (q : Place) (i : ℕ). found_in names rows q (code (contents s).kind) (name_at names rows i)) at.place (place-rows ss at.place)
        ∙ ap₂ (λ (i : ℕ) (y : Name). found_in names rows p i y) (sym w.kind) (sym em)
        ∙ sym eb

    sums-are : (d : Sizes) → KindSizesAre k c g v x n d → sums_of (s ∷ ss) ≡ plus_of u d
    sums-are d z =
        sums-step ss s ∙ ap₂ plus_of at.sums (z s w.kind w.counts.count w.counts.signals w.counts.values w.counts.strings w.counts.names)

    exceeds-are : (d : Sizes) → KindSizesAre k c g v x n d → exceeds_size (s ∷ ss) ≡ exceeds (plus_of u d)
    exceeds-are d z = sym (exceeds-sums (s ∷ ss)) ∙ ap exceeds (sums-are d z)

  pub counted-taken : b ≡ true → Counted names rows p u k j c g v x n None
  unfolding CountsAs
  counted-taken e strings bits wires ss s at w new room = never (takes_name ss s) (taken_is ss s at w ∙ e) new

  pub counted-large : small_parts g v x n ≡ false → Counted names rows p u k j c g v x n None
  unfolding CountsAs
  counted-large e strings bits wires ss s at w new room =
      let z = w.counts in
      never (small_parts g v x n) (rw (z.signals, z.values, z.strings, z.names) (small_of ss s room)) e

  module _ (d : Sizes) (z : KindSizesAre k c g v x n d) (y : Sizes) (ey : y ≡ plus_of u d) {a : Bool} (ea : a ≡ not (exceeds y)) where
    pub counted-exceeds : a ≡ false → Counted names rows p u k j c g v x n None
    unfolding CountsAs
    counted-exceeds e strings bits wires ss s at w new room =
        never (exceeds y) (not-false (exceeds y) (sym ea ∙ e)) (ap exceeds ey ∙ sym (exceeds-are ss s at w d z) ∙ room)

    pub counted_next : b ≡ false → a ≡ true → (q : Place) → AfterIs p k j q → Counted names rows p u k j c g v x n (Some (record { place = q; sums = y }))
    unfolding CountsAs
    counted_next e f q h strings bits wires ss s at w = (
      taken_is ss s at w ∙ e,
      exceeds-are ss s at w d z ∙ sym (ap exceeds ey) ∙ not-true (exceeds y) (sym ea ∙ f),
      h ss s (sym at.place) w.kind w.step,
      sums-are ss s at w d z ∙ sym ey,
    )

-- ---- the turn

module _ (t : PartTables) (rows : List ℕ) (p : Place) (u : Sizes) where
  abbrev here : Wires
  here = wires_from t.names t.wires p.wires_from (p.wires - p.wires_from)

  abbrev next : Row
  next = row_at rows (8 * p.rows)

  module _ (ss : Past) (at : Reached t rows ss p u) where
    used-is : used (rooms_of ss) ≡ used_by p u
    used-is = used-past ss ∙ ap₂ used_by at.place at.sums

    wires-are : wires ss ≡ here
    wires-are =
        sym (wires-laid t.names t.wires ss (admitted-offsets ss at.admits) (fronts-wired at.fronts))
        ∙ ap (λ (q : Place). wires_from t.names t.wires q.wires_from (q.wires - q.wires_from)) at.place

    narrow-here : narrow here ≡ true
    narrow-here = ap narrow (sym wires-are) ∙ narrow-past ss at.admits

    -- a statement that can stand there is read there
    module _ (x : Statement) (f : Fronts (rooms_of (x ∷ ss)) (with_rows t rows)) (h : admits ss x ≡ true) where
      standing : Stands (with_rows t rows) (used_by p u) x
      standing = subst (λ (y : Used). Stands (with_rows t rows) y x) used-is (fronts-stand x ss f)

      even : even_signals x ≡ true
      unfolding even_signals fit_widths sums_of sizes_by sum
      even =
          let a = admits-all ss x h in
          let few = signals-few x (omega (arith, (within-past (x ∷ ss) a.room).step-signals)) in
          rw (equal-last (flat_map (step_widths ss) (contents x).steps) _ a.widths, le-leb (length (contents x).signals) 4096 few)

      read : Reads t (used_by p u) here next x
      read = stand-reads t rows (used_by p u) here x standing (ap (λ (y : Wires). fine_parts y x) (sym wires-are) ∙ (admits-all ss x h).parts) even

      long : 8 * p.rows + 8 ≤ length rows
      long = stand-long t rows (used_by p u) here x standing

  pub turn-short : length rows < 8 * p.rows + 8 → TurnIs t rows p u None
  unfolding TurnIs
  turn-short l ss at x f h = omega (arith, long ss at x f h)

  module _ (r : Row) (er : r ≡ next) where
    module _ {b : Bool} (line : LineStands rows p r b) where
      line_of : (ss : Past) → Reached t rows ss p u → (s : Statement) → Reads t (used_by p u) here next s → b ≡ stands ss s && fit_widths ss s (map length (contents s).signals)
      line_of ss at s d =
          line t.names ss (used_by p u) s (fronts-laid at.fronts) (admitted-single ss at.admits) (sym at.place) (ap words er ∙ d.row) d.even

      pub turn-line : b ≡ false → TurnIs t rows p u None
      unfolding TurnIs
      turn-line e ss at x f h =
          let a = admits-all ss x h in
          never b (line_of ss at x (read ss at x f h) ∙ rw (a.standing, a.widths)) e

    module _ (U : Used) (e_u : U ≡ used_by p u) (f : Optional Found) (h : Tells t U (wires_from t.names t.wires p.wires_from (U.wires - p.wires_from)) r (statement_of t U r) f) where
      abbrev found : Statement
      found = statement_of t (used_by p u) next

      told : Tells t (used_by p u) here next found f
      told =
          subst (λ (y : Row). Tells t (used_by p u) here y (statement_of t (used_by p u) y) f) er
          (subst (λ (w : Used). Tells t w (wires_from t.names t.wires p.wires_from (w.wires - p.wires_from)) r (statement_of t w r) f) e_u h)

      only-found : (ss : Past) → Reached t rows ss p u → (x : Statement) → Fronts (rooms_of (x ∷ ss)) (with_rows t rows) → admits ss x ≡ true → found ≡ x
      only-found ss at x fr ad = read_only t (used_by p u) here (narrow-here ss at) next x (read ss at x fr ad)

      pub turn-not : f ≡ None → TurnIs t rows p u None
      unfolding TurnIs Tells
      turn-not e ss at x fr ad =
          let n = rw e at told in
          n (subst (λ (s : Statement). Reads t (used_by p u) here next s) (sym (only-found ss at x fr ad)) (read ss at x fr ad))

      module _ (y : Found) (ef : f ≡ Some y) where
        reads-found : Reads t (used_by p u) here next found
        unfolding Tells
        reads-found = let q = rw ef at told in q.0

        counts-found : Counts found y.count y.signals y.values y.strings y.names
        unfolding Tells
        counts-found = let q = rw ef at told in q.1

        row-found : words r ≡ statement_row (used_by p u) found
        row-found = ap words er ∙ reads-found.row

        kind-found : r.kind ≡ code (contents found).kind
        kind-found = kind-told (used_by p u) r found row-found

        pub turn-told : Told r.kind y.count y.signals y.values y.strings y.names
        unfolding even_signals
        turn-told =
            record {
              statement = found;
              kind-is = kind-found;
              counts = counts-found;
              few = omega (arith, counts-found.count, leb-true (length (contents found).signals) 4096 (and-true-right (equal (map length (contents found).signals)) _ reads-found.even));
            }

        module _ (l : 8 * p.rows + 8 ≤ length rows) where
          stands-found : Stands (with_rows t rows) (used_by p u) found
          stands-found = reads-stand t rows (used_by p u) here found l reads-found

          module _ (j : ℕ) (ej : j ≡ cond (eqb r.kind 13) r.a 0) (ss : Past) (at : Reached t rows ss p u) where
            stands-past : Stands (with_rows t rows) (used (rooms_of ss)) found
            stands-past = subst (λ (y : Used). Stands (with_rows t rows) y found) (sym (used-is ss at)) stands-found

            rowed-found : Rowed t rows ss found r.kind j y.count y.signals y.values y.strings y.names
            rowed-found =
                record {
                  row = stand-row found ss stands-past;
                  names = stands-past.parts.names-has;
                  kind = kind-found;
                  step = ej ∙ step_is (used_by p u) r found row-found;
                  counts = counts-found;
                }

            module _ {b : Bool} (line : LineStands rows p r b) (e : b ≡ true) where
              admits-found : takes_name ss found ≡ false → exceeds_size (found ∷ ss) ≡ false → admits ss found ≡ true
              unfolding admits
              admits-found new room =
                  let q : stands ss found && fit_widths ss found (map length (contents found).signals) ≡ true = sym (line_of line ss at found reads-found) ∙ e in
                  let k : fine_parts (wires ss) found ≡ true = ap (λ (y : Wires). fine_parts y found) (wires-are ss at) ∙ reads-found.fine in
                  rw (and-true-left (stands ss found) _ q, k, and-true-right (stands ss found) _ q, new, room)

              reached-found :
                  (q : Place) (w : Sizes) → takes_name ss found ≡ false → exceeds_size (found ∷ ss) ≡ false → place_of (found ∷ ss) ≡ q → sums_of (found ∷ ss) ≡ w →
                  Reached t rows (found ∷ ss) q w
              unfolding admitted
              reached-found q w new room ep es =
                  record {
                    admits = rw (at.admits, admits-found new room);
                    fronts = stand-fronts found ss at.fronts stands-past;
                    place = ep;
                    sums = es;
                  }

          pub turn-counted :
              {b : Bool} → LineStands rows p r b → b ≡ true → (j : ℕ) → j ≡ cond (eqb r.kind 13) r.a 0 → (o : Optional Standing) → CountsAs t rows p u r.kind j y.count y.signals y.values y.strings y.names o → TurnIs t rows p u o
          unfolding TurnIs CountsAs
          turn-counted line e j ej (Some o) h =
              λ ss at.
              let k = h ss found at (rowed-found j ej ss at) in
              (found, reached-found j ej ss at line e o.place o.sums k.0 k.1 k.2 k.3)
          turn-counted line e j ej None h =
              λ ss at x fr ad.
              let q = sym (only-found ss at x fr ad) in
              let a = admits-all ss x ad in
              h ss found at (rowed-found j ej ss at) (ap (takes_name ss) (sym q) ∙ a.new-name) (ap (λ (y : Statement). exceeds_size (y ∷ ss)) (sym q) ∙ a.room)

-- what is used of the tables is little, and the module's wires are the last ones
pub small-used : (w : Used) (p : Place) (u : Sizes) → w ≡ used_by p u → Within u → Small w
small-used w p u e h = rw e (record { names = h.name-bytes; bits = omega (arith, h.value-bits, h.signal-bits) })

pub wires-fit : (w : Used) (p : Place) (u : Sizes) → w ≡ used_by p u → Bounds p → p.wires_from ≤ w.wires
wires-fit w p u e b = rw e b.wires-from
