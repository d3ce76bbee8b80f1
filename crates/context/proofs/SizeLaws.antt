-- Laws of the sizes: the sums are carried on by one statement, they exceed a limit as the rules say, and what is within the limits is small.
-- Assumes nothing.
use Prim.Native.Nat.{ℕ, ◌≤◌}
use mathlib.Core.Path.{◌≡◌, refl, sym, ap, ◌∙◌}
use mathlib.Core.Bool.{Bool, false, cond, ◌||◌, or-false, or_assoc}
use mathlib.Core.List.{List, [], ◌∷◌, map}
use native.Mathlib.Nat.{le_trans}
use native.Mathlib.Omega.{arith}
use lib.ListN.{length, drop}
use lib.Dec.{ltb}
use borrow.Author.Tests.{ltb-false, le-ltb}
use Rattle.rules.specs.Bytes.{any}
use Rattle.rules.specs.Statements.{Statement, an_attribute, a_module, a_parameter, a_wire, a_memory, a_cell, a_cell_parameter, a_cell_connection, a_connection, a_process, a_step, code, contents, is}
use Rattle.rules.specs.Judgement.{Past, sum, signals_of_step, signal_size, value_size, string_size, name_size, sizes, exceeds_size}
use Rattle.context.specs.Place.{place_of, wires_in}
use Rattle.context.specs.Sizes.{sizes_by, sizes_of, sums_of, plus_of, limits, exceeds, Within, AtMost, kind_sizes, KindSizesAre}
use Rattle.context.specs.declared.sizes.Sizes.{Sizes}
use Rattle.lists.specs.Elements.{Each, any_none, each_map, none_any}
use Rattle.lists.specs.Tests.{by-test}
use Rattle.context.proofs.KindLaws.{is_code, count-le, count-one, count-two}

-- the sums with one statement more
pub sums-step : (ss : Past) (s : Statement) → sums_of (s ∷ ss) ≡ plus_of (sums_of ss) (sizes_of s)
unfolding sum sizes_by sizes_of sums_of plus_of
sums-step ss s = refl

-- a size is exceeded where the rules say so
pub exceeds-sums : (ss : Past) → exceeds (sums_of ss) ≡ exceeds_size ss
unfolding any sizes_by sums_of limits exceeds sizes exceeds_size
exceeds-sums ss = refl

-- tests joined from the left are those of a list
unfoldable pub or_from : Bool → List Bool → Bool
or_from b [] = b
or_from b (c ∷ cs) = or_from (b || c) cs

pub or_from_lem : (b : Bool) (cs : List Bool) → or_from b cs ≡ b || any (λ c. c) cs
unfolding or_from any
or_from_lem b [] = sym (or-false b)
or_from_lem b (c ∷ cs) = or_from_lem (b || c) cs ∙ or_assoc b c (any (λ d. d) cs)

-- all tests of a limit but the first
unfoldable pub limit_tests : Sizes → List Bool
limit_tests u = map (λ z. ltb z.0 z.1) (drop 1 (limits u))

-- wires and modules are counted alike in the place
pub same-wires : (ss : Past) → (place_of ss).wires ≡ (sums_of ss).wires
unfolding sizes_by sums_of place_of wires_in
same-wires ss = refl

-- no size exceeds its limit exactly where each is within it
Below : List (ℕ × ℕ) → Type 0
Below = Each (λ z. z.1 ≤ z.0)

module _ (u : Sizes) where
  pub within-limits : exceeds u ≡ false → Within u
  unfolding Below limits exceeds
  within-limits e =
      let b : Below (limits u) = each_map _ _ (λ z. ltb-false z.0 z.1) (limits u) (any_none _ (limits u) e) in
      omega arith

  pub limits-within : Within u → exceeds u ≡ false
  unfolding Below limits exceeds
  limits-within w =
      let b : Below (limits u) =
      (w.modules, (w.wires, (w.memories, (w.cells, (w.parameters, (w.attributes, (w.ports, (w.connections, (w.processes, (w.steps, (w.step-signals, (w.signal-bits, (w.value-bits, (w.string-bytes, (w.name-bytes, tt))))))))))))))) in
      none_any _ (limits u) (each_map _ _ (λ z. le-ltb z.0 z.1) (limits u) b)

  -- so that sums of two do not wrap
  pub within-small : (n : ℕ) → 16384 ≤ n → Within u → AtMost n u
  within-small n h w = omega arith

-- statements so far that exceed no size; none at all
pub within-past : (ss : Past) → exceeds_size ss ≡ false → Within (sums_of ss)
within-past ss e = within-limits (sums_of ss) (exceeds-sums ss ∙ e)

pub within_none : Within (sums_of [])
unfolding any sum sizes exceeds_size
within_none = within-past [] refl

step-signals-le : (s : Statement) (n : ℕ) → length (contents s).signals ≤ n → signals_of_step s ≤ n
unfolding signals_of_step
step-signals-le s n h = by-test (is a_step s) (λ e. rw e h) (λ e. rw e (omega arith))

pub sizes-small : (s : Statement) (n : ℕ) → 1 ≤ n → length (contents s).signals ≤ n → signal_size s ≤ n → value_size s ≤ n → string_size s ≤ n → name_size s ≤ n → AtMost n (sizes_of s)
unfolding sizes_by sizes_of
sizes-small s n h c g v t m =
    record {
      modules = le_trans (count-le _ s) h;
      wires = le_trans (count-le _ s) h;
      memories = le_trans (count-le _ s) h;
      cells = le_trans (count-le _ s) h;
      parameters = le_trans (count-le _ s) h;
      attributes = le_trans (count-le _ s) h;
      ports = le_trans (count-le _ s) h;
      connections = le_trans (count-le _ s) h;
      processes = le_trans (count-le _ s) h;
      steps = le_trans (count-le _ s) h;
      step-signals = step-signals-le s n c;
      signal-bits = g;
      value-bits = v;
      string-bytes = t;
      name-bytes = m;
    }

-- the sizes of a statement are those of its kind with what it holds
sizes-kind : (s : Statement) → sizes_of s ≡ kind_sizes (code (contents s).kind) (length (contents s).signals) (signal_size s) (value_size s) (string_size s) (name_size s)
unfolding code sizes_by sizes_of kind_sizes signals_of_step
sizes-kind s =
    λ i.
    record {
      modules = count-one s a_module i;
      wires = count-one s a_wire i;
      memories = count-one s a_memory i;
      cells = count-one s a_cell i;
      parameters = count-two s a_parameter a_cell_parameter i;
      attributes = count-one s an_attribute i;
      ports = count-one s a_cell_connection i;
      connections = count-one s a_connection i;
      processes = count-one s a_process i;
      steps = count-one s a_step i;
      step_signals = ap (λ (b : Bool). cond b (length (contents s).signals) 0) (is_code s a_step) i;
      signal_bits = signal_size s;
      value_bits = value_size s;
      string_bytes = string_size s;
      name_bytes = name_size s;
    }

pub kind-sizes-are : (k c g v t n : ℕ) (r : Sizes) → r ≡ kind_sizes k c g v t n → KindSizesAre k c g v t n r
kind-sizes-are k c g v t n r e s ek ec eg ev et en = rw (e, ek, ec, eg, ev, et, en) (sizes-kind s)
