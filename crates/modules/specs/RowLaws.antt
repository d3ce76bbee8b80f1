-- A module's range of rows holds its statements.
-- Assumes nothing.
use Prim.Native.Nat.{ℕ, suc, ◌+◌, ◌≤◌, ◌<◌}
use Rattle.std.specs.Prelude.{◌≡◌, Bool, true, leb, take}
use Rattle.std.proofs.Math.Path.{refl, sym, ap}
use Rattle.std.proofs.Common.{◌∙◌}
use mathlib.Core.List.{List, [], ◌∷◌, reverse, reverse-reverse}
use native.Mathlib.Omega.{arith}
use Rattle.std.proofs.Math.ListN.{length}
use borrow.Author.Tests.{eq-eqb, ne_eqb}
use Rattle.rules.specs.Bytes.{same, any, all}
use Rattle.rules.specs.Tokens.{Name}
use Rattle.rules.specs.Statements.{Statement, Kind, a_module, code, contents, is}
use Rattle.rules.specs.Judgement.{Past, only, sum, count, of_module}
use Rattle.rules.specs.Layout.{used}
use Rattle.wires.specs.Rows.{column}
use Rattle.lists.specs.Tests.{by-test, by_order}
use Rattle.lists.specs.Lists.{until-take}
use Rattle.lists.specs.Elements.{any-reverse}
use Rattle.context.proofs.KindLaws.{count-one}
use Rattle.netlist.specs.Rows.{kind_at, names_between}
use Rattle.netlist.specs.Kinds.{Tests, has_name}
use Rattle.netlist.specs.RowLaws.{row-kind}
use Rattle.netlist.specs.Laid.{rooms_of, Laid}
use Rattle.netlist.specs.LaidLaws.{laid-last, laid-before}
use Rattle.netlist.specs.NameLaws.{own_names, names-laid}
use Rattle.modules.specs.Modules.{statements_of, module_count, up_to}
use Rattle.modules.specs.DesignLaws.{any-own}
use Rattle.modules.specs.PastLaws.{module-counts, other-counts, count-step, module-first, module-more, none_below, module-past, no-module, up-to-by, up-to-all, up-to-holds, up-to-le}
use Rattle.modules.specs.Ranges.{rows_where, lines_in, line_of, row_range}
use Rattle.modules.specs.RangeLaws.{line-le, line-all, line-back}

module _ {names rows : List ℕ} where
  laid-up-to : (m : ℕ) (ss : Past) → Laid (rooms_of ss) names rows → Laid (rooms_of (up_to m ss)) names rows
  laid-up-to m ss l = up-to-holds (λ qs. Laid (rooms_of qs) names rows) laid-before m ss l

  -- the module lines, by the kind in each row
  lines-laid : (ss : Past) → Laid (rooms_of ss) names rows → lines_in rows (length ss) ≡ module_count ss
  unfolding rows_where kind_at sum code
  lines-laid [] l = refl
  lines-laid (s ∷ ss) l =
      let e : column rows (length ss) 0 ≡ code (contents s).kind = row-kind rows (length ss) (used (rooms_of ss)) s (laid-last s ss (length ss) refl l) in
      rw e (omega (arith, lines-laid ss (laid-before s ss l), count-one s a_module))

  -- where a module ends, and where its line stands
  end-laid : (m : ℕ) (ss : Past) → Laid (rooms_of ss) names rows → line_of rows (length ss) (suc m) ≡ length (up_to m ss)
  unfolding line_of up_to
  end-laid m [] l = refl
  end-laid m (s ∷ ss) l =
      let e : lines_in rows (suc (length ss)) ≡ module_count (s ∷ ss) = lines-laid (s ∷ ss) l in
      rw e
      (by-test (leb (module_count (s ∷ ss)) (suc m)) (λ h. rw h) (λ h. rw h (end-laid m ss (laid-before s ss l))))

  line-laid : (m : ℕ) (ss : Past) → Laid (rooms_of ss) names rows → m < module_count ss → suc (line_of rows (length ss) m) + length (of_module (up_to m ss)) ≡ length (up_to m ss)
  line-laid m [] l h = none_below h
  line-laid m (s ∷ ss) l h =
      let e : lines_in rows (suc (length ss)) ≡ module_count (s ∷ ss) = lines-laid (s ∷ ss) l in
      let d : lines_in rows (length ss) ≡ module_count ss = lines-laid ss (laid-before s ss l) in
      let k : line_of rows (suc (length ss)) m ≡ line_of rows (length ss) m = line-back rows (length ss) m (omega arith) in
      rw k
      (up-to-by (λ qs. suc (line_of rows (length ss) m) + length (of_module qs) ≡ length qs) m s ss
      (λ b. by-test (is a_module s)
      (λ f. rw (module-first s ss f, line-all rows (length ss) m (omega (arith, module-counts s ss f))) (omega arith))
      (λ f.
      let c : module_count (s ∷ ss) ≡ module_count ss = other-counts s ss f in
      let i : suc (line_of rows (length ss) m) + length (of_module (up_to m ss)) ≡ length (up_to m ss) = line-laid m ss (laid-before s ss l) (omega arith) in
      let j : suc (line_of rows (length ss) m) + length (of_module ss) ≡ length ss = rw (up-to-all m ss (omega arith)) at i in
      rw (module-more s ss f) (omega arith)))
      (λ b. line-laid m ss (laid-before s ss l) (omega (arith, count-step s ss))))

  -- THE RANGE OF A MODULE ends where it ends, and has as many rows as statements stand behind its line
  module _ (m : ℕ) (ss : Past) (l : Laid (rooms_of ss) names rows) where
    pub range-there :
        m < module_count ss → let r = row_range rows (length ss) m in (r.first + r.count ≡ length (up_to m ss)) × (r.count ≡ length (of_module (up_to m ss)))
    unfolding row_range
    range-there h =
        let a : suc (line_of rows (length ss) m) + length (of_module (up_to m ss)) ≡ length (up_to m ss) = line-laid m ss l h in
        let b : line_of rows (length ss) m ≡ length ss → ⊥ = λ e. omega (arith, up-to-le m ss) in
        rw (ne_eqb (line_of rows (length ss) m) (length ss) b, end-laid m ss l) (omega arith, omega arith)

    pub range_none : module_count ss ≤ m → let r = row_range rows (length ss) m in (r.first ≡ length ss) × (r.count ≡ 0)
    unfolding row_range
    range_none h =
        let a : line_of rows (length ss) m ≡ length ss = line-all rows (length ss) m (omega (arith, lines-laid ss l)) in
        rw (a, eq-eqb (length ss) (length ss) refl) (refl, omega (arith, line-le rows (length ss) (suc m)))

    -- the names of its statements of some kinds
    pub names-range :
        (ks : List Kind) → all (λ k. has_name (code k)) ks ≡ true → (test : ℕ → Bool) → Tests test ks →
        let r = row_range rows (length ss) m in names_between names rows test r.first r.count ≡ own_names ks (reverse (statements_of m (reverse ss)))
    unfolding of_module names_between only
    names-range ks h test t =
        let r = row_range rows (length ss) m in
        by_order (module_count ss) m
        (λ b. ap (names_between names rows test r.first) (range_none b).1 ∙ ap (λ (qs : List Statement). own_names ks (reverse qs)) (sym (no-module ss m b)))
        (λ b.
        let q : Past = up_to m ss in
        let p = range-there b in
        names-laid ks h test t q (laid-up-to m ss l) r.first r.count p.0
        ∙ ap (λ (n : ℕ). own_names ks (take n q)) p.1
        ∙ ap (own_names ks) (sym (until-take (is a_module) q) ∙ sym (reverse-reverse (of_module q)) ∙ ap reverse (sym (module-past ss m b))))

-- whether some name passes a test doesn't depend on the order
pub any-names-back : (f : Name → Bool) (ks : List Kind) (xs : List Statement) → any f (own_names ks (reverse xs)) ≡ any f (own_names ks xs)
any-names-back f ks xs = any-own f ks (reverse xs) ∙ any-reverse _ xs ∙ sym (any-own f ks xs)

-- so a search for a name in the range is one among the module's statements
pub taken-range :
    {names rows : List ℕ} (m : ℕ) (ss : Past) → Laid (rooms_of ss) names rows → (ks : List Kind) → all (λ k. has_name (code k)) ks ≡ true →
    (test : ℕ → Bool) → Tests test ks → (n : Name) →
    let r = row_range rows (length ss) m in any (same n) (names_between names rows test r.first r.count) ≡ any (same n) (own_names ks (statements_of m (reverse ss)))
taken-range m ss l ks h test t n = ap (any (same n)) (names-range m ss l ks h test t) ∙ any-names-back (same n) ks (statements_of m (reverse ss))
