-- The names between two rows are those of the statements there.
-- Assumes nothing.
use Prim.Native.Nat.{ℕ, zero, suc, ◌+◌}
use Rattle.std.specs.Prelude.{◌≡◌, Bool, true, cond, take}
use Rattle.std.proofs.Math.Path.{refl, ap}
use Rattle.std.proofs.Common.{◌∙◌}
use mathlib.Core.List.{List, [], ◌∷◌, map}
use native.Mathlib.Omega.{arith}
use Rattle.std.proofs.Math.ListN.{length}
use Rattle.rules.specs.Bytes.{all}
use Rattle.rules.specs.Tokens.{Name}
use Rattle.rules.specs.Statements.{Kind, Statement, code, contents, is, own_name}
use Rattle.rules.specs.Judgement.{Past, only, among}
use Rattle.rules.specs.Layout.{used}
use Rattle.lists.specs.Tests.{by-test}
use Rattle.netlist.specs.Rows.{kind_at, name_at, names_between}
use Rattle.netlist.specs.Kinds.{of_kinds, Tests, has_name}
use Rattle.netlist.specs.KindLaws.{kinds-named}
use Rattle.netlist.specs.RowLaws.{row-kind, row-own}
use Rattle.netlist.specs.Laid.{rooms_of, Laid}
use Rattle.netlist.specs.LaidLaws.{laid-names, laid-last, laid-before}

-- the own names of the statements of some kinds, as the rules say it
abbrev pub own_names : List Kind → Past → List Name
own_names ks ss = map (λ s. own_name (contents s).names) (only (among ks) ss)

module _ (ks : List Kind) (all_named : all (λ k. has_name (code k)) ks ≡ true) (test : ℕ → Bool) (tests : Tests test ks) {names rows : List ℕ} where
  -- the last row is the last statement's: chosen as the statement is, with its name
  module _ (s : Statement) (ss : Past) (l : Laid (rooms_of (s ∷ ss)) names rows) (k : ℕ) (e : k ≡ length ss) where
    last-chosen : test (kind_at rows k) ≡ among ks s
    unfolding of_kinds among is
    last-chosen = ap test (row-kind rows k (used (rooms_of ss)) s (laid-last s ss k e l)) ∙ tests (code (contents s).kind)

    last_name : among ks s ≡ true → name_at names rows k ≡ own_name (contents s).names
    unfolding of_kinds among is rooms_of used
    last_name h =
        row-own names rows k (used (rooms_of ss)) s (laid-last s ss k e l) (kinds-named ks (code (contents s).kind) all_named h) (laid-names (rooms_of ss) s l)

    last_more : (qs : Past) (ns : List Name) → ns ≡ own_names ks qs → cond (test (kind_at rows k)) (name_at names rows k ∷ ns) ns ≡ own_names ks (s ∷ qs)
    unfolding only
    last_more qs ns en = by-test (among ks s) (λ h. rw (last-chosen, h, last_name h, en)) (λ h. rw (last-chosen, h) en)

  pub names-laid :
      (ss : Past) → Laid (rooms_of ss) names rows → (from count : ℕ) → from + count ≡ length ss →
      names_between names rows test from count ≡ own_names ks (take count ss)
  unfolding names_between only
  names-laid ss l from zero e = refl
  names-laid [] l from (suc k) e = absurd (omega arith)
  names-laid (s ∷ ss) l from (suc k) e =
      let h : from + k ≡ length ss = omega arith in
      last_more s ss l (from + k) h (take k ss) _ (names-laid ss (laid-before s ss l) from k h)
