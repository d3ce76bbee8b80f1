-- The shape of a `connect` line, part by part.
-- Assumes nothing.
use Prim.Native.Nat.{ℕ}
use mathlib.Core.Path.{◌≡◌}
use mathlib.Core.List.{List}
use mathlib.Core.Option.{none, some}
use Rattle.rules.specs.Tokens.{Name}
use Rattle.rules.specs.Statements.{Sig, conn-stmt, cell-conn-stmt}
use Rattle.rules.specs.Shapes.{id, signal, sigspec, of₂, of₁, after, give, whole}
use Rattle.tokens.specs.Rows.{line}
use Rattle.line_forms.specs.Forms.{kind_of, cell_kind_of, ended}
use Rattle.line_forms.specs.declared.Kind.TheVariants as kind
use Rattle.line_forms.specs.declared.CellKind.TheVariants as cell_kind

unfoldable connect_open : Unit {0}
unfolding kind_of cell_kind_of ended of₂ of₁ after give whole sigspec
connect_open = tt

module _ (f t : List ℕ) where
  -- in a module
  pub no-left : signal 16 (line f t 1) ≡ none → kind_of f t kind.Connect ≡ none
  unfolding connect_open
  no-left e = rw e

  module _ (a : Sig) (n : ℕ) (e : signal 16 (line f t 1) ≡ some (a, line f t n)) where
    pub no-right : signal 16 (line f t n) ≡ none → kind_of f t kind.Connect ≡ none
    unfolding connect_open
    no-right g = rw (e, g)

    pub both_read : (b : Sig) (m : ℕ) → signal 16 (line f t n) ≡ some (b, line f t m) → kind_of f t kind.Connect ≡ ended (some (conn-stmt a b)) (line f t m)
    unfolding connect_open
    both_read b m g = rw (e, g)

  -- in a cell
  pub no_name : id (line f t 1) ≡ none → cell_kind_of f t cell_kind.Connect ≡ none
  unfolding connect_open
  no_name e = rw e

  module _ (x : Name) (e : id (line f t 1) ≡ some (x, line f t 2)) where
    pub no-signal : signal 16 (line f t 2) ≡ none → cell_kind_of f t cell_kind.Connect ≡ none
    unfolding connect_open
    no-signal g = rw (e, g)

    pub named-read : (a : Sig) (n : ℕ) → signal 16 (line f t 2) ≡ some (a, line f t n) → cell_kind_of f t cell_kind.Connect ≡ ended (some (cell-conn-stmt x a)) (line f t n)
    unfolding connect_open
    named-read a n g = rw (e, g)
