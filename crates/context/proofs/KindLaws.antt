-- What the code of a statement's kind tells: whether the statement is of a kind, or among some, and what it counts.
-- Assumes nothing.
use Prim.Native.Nat.{◌≤◌}
use mathlib.Core.Path.{◌≡◌, refl, ap, ◌∙◌}
use mathlib.Core.Bool.{Bool, true, false, cond, ◌||◌, or-false}
use mathlib.Core.List.{List, [], ◌∷◌}
use lib.Dec.{eqb}
use Rattle.std.specs.Int.{from_bool}
use Rattle.rules.specs.Bytes.{any}
use Rattle.rules.specs.Statements.{Kind, Statement, code, contents, is}
use Rattle.rules.specs.Judgement.{among, count}
use Rattle.lists.specs.Tests.{eqb-sym, cond-le}

pub count-le : (ks : List Kind) (s : Statement) → count ks s ≤ 1
unfolding count
count-le ks s = cond-le (among ks s) 1

module _ (s : Statement) where
  pub is_code : (k : Kind) → is k s ≡ eqb (code (contents s).kind) (code k)
  unfolding is
  is_code k = eqb-sym (code k) (code (contents s).kind)

  pub count-one : (k : Kind) → count (k ∷ []) s ≡ cond (eqb (code (contents s).kind) (code k)) 1 0
  unfolding count among any
  count-one k = ap (λ (b : Bool). cond b 1 0) (or-false (is k s) ∙ is_code k)

  pub count-two : (k l : Kind)
      → count (k ∷ l ∷ []) s ≡ cond (eqb (code (contents s).kind) (code k) || eqb (code (contents s).kind) (code l)) 1 0
  unfolding count among any
  count-two k l = rw (or-false (is l s), is_code k, is_code l)

-- a test as a number
pub from-test : (b : Bool) → from_bool b ≡ cond b 1 0
from-test true = refl
from-test false = refl
