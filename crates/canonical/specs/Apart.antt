-- The tests of a statement after those before it, one by one.
-- Assumes nothing.
use Rattle.std.specs.Prelude.{◌≡◌, refl, [], ◌∷◌, map, Bool, true, ◌&&◌}
use Rattle.std.proofs.Math.Path.{ap}
use Rattle.std.proofs.Math.Bool.{false, not}
use Rattle.std.proofs.Common.{arith}
use Rattle.std.proofs.Math.ListN.{length}
use borrow.Author.Tests.{not-true}
use Rattle.rules.specs.Bytes.{any, all, same}
use Rattle.rules.specs.Statements.{Statement, contents, own_name}
use Rattle.rules.specs.Judgement.{Past, sum, wires, among, Space, names_in, name_spaces, takes_name, fit_widths, sizes, exceeds_size}
use Rattle.lists.specs.Tests.{and-true-left, and-true-right}
use Rattle.lists.specs.Elements.{Each, test_at, any_none, none_any}
use Rattle.admitted.specs.Admitted.{stands, arity, fine_signal, fine_alone, fine_parts, admits, admitted}
use Rattle.admitted.specs.AdmitLaws.{fine-parts, admits-all, admits-last, admitted-before}
use Rattle.canonical.specs.Fine.{follows}
use Rattle.canonical.specs.Tally.{Through, name_tally, module_names, object_names, attribute_names, parameter_names, cell_parameter_names, cell_port_names, port_tally}
use Rattle.canonical.specs.Sums.{sizes-fewer}

-- each wire bit of its signals inside its wire
unfoldable pub sees : Past → Statement → Bool
sees p s = all (fine_signal (wires p)) (contents s).signals

pub record Apart (p : Past) (s : Statement) : Type 0 where
  pub standing : follows p s ≡ true
  pub alone : fine_alone s ≡ true
  pub ports : port_tally.new p s ≡ true
  pub signals : sees p s ≡ true
  pub module-names : module_names.new p s ≡ true
  pub object-names : object_names.new p s ≡ true
  pub attribute-names : attribute_names.new p s ≡ true
  pub parameter-names : parameter_names.new p s ≡ true
  pub cell-parameter-names : cell_parameter_names.new p s ≡ true
  pub cell-port-names : cell_port_names.new p s ≡ true
  pub room : exceeds_size (s ∷ p) ≡ false

-- NAMES: a test that fails in each name space
module _ (p : Past) (s : Statement) where
  abbrev takes_in : Space → Bool
  takes_in z = among z.kinds s && any (same (own_name (contents s).names)) (names_in z p)

  pub admits-apart : admits p s ≡ true → Apart p s
  unfolding follows fine_parts port_tally sees name_tally takes_name name_spaces
  admits-apart e =
      let a = admits-all p s e in
      let h = test_at (fine_alone s) (port_tally.new p s ∷ sees p s ∷ []) a.parts in
      let n : Each (λ z. takes_in z ≡ false) name_spaces = any_none takes_in name_spaces a.new-name in
      record {
        standing = rw (a.standing, (fine-parts (wires p) s a.parts).arities, a.widths);
        alone = h 0;
        ports = h 1;
        signals = h 2;
        module-names = ap not n.0;
        object-names = ap not n.1.0;
        attribute-names = ap not n.1.1.0;
        parameter-names = ap not n.1.1.1.0;
        cell-parameter-names = ap not n.1.1.1.1.0;
        cell-port-names = ap not n.1.1.1.1.1.0;
        room = a.room;
      }

  pub apart-admits : Apart p s → admits p s ≡ true
  unfolding follows admits fine_parts port_tally sees name_tally takes_name name_spaces
  apart-admits a =
      let n : any takes_in name_spaces ≡ false =
      none_any takes_in name_spaces (
        not-true _ a.module-names,
        (
          not-true _ a.object-names,
          (
            not-true _ a.attribute-names,
            (not-true _ a.parameter-names, (not-true _ a.cell-parameter-names, (not-true _ a.cell-port-names, tt))),
          ),
        ),
      ) in
      let t = test_at (stands p s) (all (λ q. arity q (length (contents s).signals)) (contents s).steps ∷ fit_widths p s (map length (contents s).signals) ∷ []) a.standing in
      rw (
        t 0,
        a.alone,
        a.ports,
        a.signals,
        t 2,
        n,
        a.room,
      )

-- all statements so far
pub through-admits : (p : Past) → admitted p ≡ true → Through admits p
through-admits [] e = tt
through-admits (s ∷ p) e = (admits-last s p e, through-admits p (admitted-before s p e))

-- a test that admission includes
pub includes : (f : Past → Statement → Bool) → ((p : Past) (s : Statement) → Apart p s → f p s ≡ true) → (p : Past) → Through admits p → Through f p
includes f h [] t = tt
includes f h (s ∷ p) t = (h p s (admits-apart p s t.0), includes f h p t.1)

pub record ApartAll (p : Past) : Type 0 where
  pub standing : Through follows p
  pub alone : all fine_alone p ≡ true
  pub ports : Through port_tally.new p
  pub signals : Through sees p
  pub module-names : Through module_names.new p
  pub object-names : Through object_names.new p
  pub attribute-names : Through attribute_names.new p
  pub parameter-names : Through parameter_names.new p
  pub cell-parameter-names : Through cell_parameter_names.new p
  pub cell-port-names : Through cell_port_names.new p
  pub room : exceeds_size p ≡ false

all-alone : (p : Past) → admitted p ≡ true → all fine_alone p ≡ true
unfolding all
all-alone [] e = refl
all-alone (s ∷ p) e = rw (admits-apart p s (admits-last s p e)).alone (all-alone p (admitted-before s p e))

all_room : (p : Past) → admitted p ≡ true → exceeds_size p ≡ false
unfolding any sum sizes exceeds_size
all_room [] e = refl
all_room (s ∷ p) e = (admits-apart p s (admits-last s p e)).room

pub admitted-apart : (p : Past) → admitted p ≡ true → ApartAll p
admitted-apart p e =
    let t = through-admits p e in
    record {
      standing = includes follows (λ q s a. a.standing) p t;
      alone = all-alone p e;
      ports = includes port_tally.new (λ q s a. a.ports) p t;
      signals = includes sees (λ q s a. a.signals) p t;
      module-names = includes module_names.new (λ q s a. a.module-names) p t;
      object-names = includes object_names.new (λ q s a. a.object-names) p t;
      attribute-names = includes attribute_names.new (λ q s a. a.attribute-names) p t;
      parameter-names = includes parameter_names.new (λ q s a. a.parameter-names) p t;
      cell-parameter-names = includes cell_parameter_names.new (λ q s a. a.cell-parameter-names) p t;
      cell-port-names = includes cell_port_names.new (λ q s a. a.cell-port-names) p t;
      room = all_room p e;
    }

pub apart-admitted : (p : Past) → ApartAll p → admitted p ≡ true
unfolding all admitted sum
apart-admitted [] a = refl
apart-admitted (s ∷ p) a =
    let before =
    apart-admitted p
    (record {
      standing = a.standing.1;
      alone = and-true-right (fine_alone s) _ a.alone;
      ports = a.ports.1;
      signals = a.signals.1;
      module-names = a.module-names.1;
      object-names = a.object-names.1;
      attribute-names = a.attribute-names.1;
      parameter-names = a.parameter-names.1;
      cell-parameter-names = a.cell-parameter-names.1;
      cell-port-names = a.cell-port-names.1;
      room = sizes-fewer p (s ∷ p) (λ f. omega arith) a.room;
    }) in
    let last =
    apart-admits p s
    (record {
      standing = a.standing.0;
      alone = and-true-left (fine_alone s) _ a.alone;
      ports = a.ports.0;
      signals = a.signals.0;
      module-names = a.module-names.0;
      object-names = a.object-names.0;
      attribute-names = a.attribute-names.0;
      parameter-names = a.parameter-names.0;
      cell-parameter-names = a.cell-parameter-names.0;
      cell-port-names = a.cell-port-names.0;
      room = a.room;
    }) in
    rw (before, last)
