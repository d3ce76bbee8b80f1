-- What is admitted stands, has fine parts, has signals of fitting width, takes no name and exceeds no size; so there are at most 6,881 statements, the offsets of
-- their wires fit in 32 bits, and their wires pass what the wires of fine parts pass.
-- Assumes nothing.
use Rattle.std.specs.Prelude.{◌-◌, ◌≤◌, ◌≡◌, Bool, true, false, not, ◌||◌, leb, eqb, pos, ◌+ℤ◌, length}
use Rattle.std.proofs.Math.Path.{refl}
use mathlib.Core.List.{List, [], ◌∷◌, map, flat_map, zip, reverse_aux}
use Rattle.std.proofs.lemmas.Bool.{not-true}
use Rattle.rules.specs.Limits.{most_statements}
use Rattle.rules.specs.Bytes.{all, within, legal}
use Rattle.rules.specs.Tokens.{Name}
use Rattle.rules.specs.Statements.{Statement, Wire, a_module, contents, is}
use Rattle.rules.specs.Numbers.{int32}
use Rattle.rules.specs.Signals.{Wires}
use Rattle.rules.specs.Judgement.{Past, until, of_module, wires, port_numbers, takes_name, fit_widths, exceeds_size}
use Rattle.lists.specs.Tests.{by-test, and-true-left, and-true-right}
use Rattle.lists.specs.Lists.{keeps-before}
use Rattle.lists.specs.Elements.{all_append, all-implied, test_at}
use Rattle.context.specs.Sizes.{sums_of, Within}
use Rattle.context.specs.Offsets.{fits_offset, Offsets, no-offsets, more-offsets}
use Rattle.context.proofs.SizeLaws.{within-past, within_none}
use Rattle.admitted.specs.Admitted.{stands, fine_constant, own_wire, new_ports, fine_memory, fine_signal, arity, fine_alone, fine_parts, admits, admitted}
use Rattle.admitted.specs.CountLaws.{Standing, none-stand, one-stands, rows_few}

-- a wire's own tests
pub record OwnWire (w : Wire) : Type 0 where
  pub narrow : leb w.width 2048 ≡ true
  pub offset : int32 w.offset ≡ true
  pub last_bit : (eqb w.width 0 || int32 (w.offset +ℤ pos (w.width - 1))) ≡ true
  pub port : all (within 1 1023) (port_numbers w) ≡ true

pub own-wire : (w : Wire) → own_wire w ≡ true → OwnWire w
unfolding own_wire
own-wire w e =
    let h =
    test_at (leb w.width 2048) (int32 w.offset ∷ (eqb w.width 0 || int32 (w.offset +ℤ pos (w.width - 1))) ∷ all (within 1 1023) (port_numbers w) ∷ []) e in
    record { narrow = h 0; offset = h 1; last_bit = h 2; port = h 3 }

-- the parts, one by one
pub record FineParts (ws : Wires) (s : Statement) : Type 0 where
  pub names : all legal (contents s).names ≡ true
  pub integers : all int32 (contents s).integers ≡ true
  pub constants : all fine_constant (contents s).constants ≡ true
  pub wires : all own_wire (contents s).wires ≡ true
  pub memories : all fine_memory (contents s).memories ≡ true
  pub arities : all (λ p. arity p (length (contents s).signals)) (contents s).steps ≡ true
  pub ports : all (new_ports ws) (contents s).wires ≡ true
  pub signals : all (fine_signal ws) (contents s).signals ≡ true

pub fine-parts : (ws : Wires) (s : Statement) → fine_parts ws s ≡ true → FineParts ws s
unfolding fine_alone fine_parts
fine-parts ws s e =
    let c = contents s in
    let h =
    test_at (all legal c.names)
    (all int32 c.integers ∷ all fine_constant c.constants ∷ all own_wire c.wires ∷ all fine_memory c.memories ∷ all (λ p. arity p (length c.signals)) c.steps ∷ all (new_ports ws) c.wires ∷ all (fine_signal ws) c.signals ∷ [])
    e in
    record { names = h 0; integers = h 1; constants = h 2; wires = h 3; memories = h 4; arities = h 5; ports = h 6; signals = h 7 }

-- offsets fit
pub fine-fits : (ws : Wires) (s : Statement) → fine_parts ws s ≡ true → fits_offset s ≡ true
fine-fits ws s e = all-implied own_wire (λ w. int32 w.offset) (λ w h. (own-wire w h).offset) (contents s).wires (fine-parts ws s e).wires

-- what an admitted statement keeps
pub record Admits (ss : Past) (s : Statement) : Type 0 where
  pub standing : stands ss s ≡ true
  pub parts : fine_parts (wires ss) s ≡ true
  pub widths : fit_widths ss s (map length (contents s).signals) ≡ true
  pub new-name : takes_name ss s ≡ false
  pub room : exceeds_size (s ∷ ss) ≡ false

pub admits-all : (ss : Past) (s : Statement) → admits ss s ≡ true → Admits ss s
unfolding admits
admits-all ss s e =
    let h =
    test_at (stands ss s) (fine_parts (wires ss) s ∷ fit_widths ss s (map length (contents s).signals) ∷ not (takes_name ss s) ∷ not (exceeds_size (s ∷ ss)) ∷ []) e in
    record { standing = h 0; parts = h 1; widths = h 2; new-name = not-true (takes_name ss s) (h 3); room = not-true (exceeds_size (s ∷ ss)) (h 4) }

-- all statements so far
module _ (s : Statement) (ss : Past) (e : admitted (s ∷ ss) ≡ true) where
  pub admitted-before : admitted ss ≡ true
  unfolding admitted
  admitted-before = and-true-left (admitted ss) _ e

  pub admits-last : admits ss s ≡ true
  unfolding admitted
  admits-last = and-true-right (admitted ss) _ e

  pub admitted-last : Admits ss s
  admitted-last = admits-all ss s admits-last

-- the statements behind which others were admitted
pub admitted-past : (more : List Statement) (ss : Past) → admitted (reverse_aux more ss) ≡ true → admitted ss ≡ true
admitted-past = keeps-before (λ qs. admitted qs ≡ true) admitted-before

-- a test that the wires of each statement with fine parts pass
module _ (f : Name × Wire → Bool) (one : (ws : Wires) (s : Statement) → FineParts ws s → all f (zip (contents s).names (contents s).wires) ≡ true) where
  wires-until : (g : Statement → Bool) (ss : Past) → admitted ss ≡ true → all f (flat_map (λ s. zip (contents s).names (contents s).wires) (until g ss)) ≡ true
  unfolding until flat_map all
  wires-until g [] h = refl
  wires-until g (s ∷ ss) h =
      by-test (g s) (λ e. rw e)
      (λ e. rw e (all_append f (zip (contents s).names (contents s).wires) _ (one (wires ss) s (fine-parts (wires ss) s (admitted-last s ss h).parts)) (wires-until g ss (admitted-before s ss h))))

  pub admitted-wires : (ss : Past) → admitted ss ≡ true → all f (wires ss) ≡ true
  unfolding wires of_module
  admitted-wires ss h = wires-until (is a_module) ss h

pub admitted-standing : (ss : Past) → admitted ss ≡ true → Standing ss
admitted-standing [] e = none-stand
admitted-standing (s ∷ ss) e = one-stands (admitted-last s ss e).standing (admitted-standing ss (admitted-before s ss e))

pub admitted-offsets : (ss : Past) → admitted ss ≡ true → Offsets ss
admitted-offsets [] e = no-offsets
admitted-offsets (s ∷ ss) e = more-offsets (fine-fits (wires ss) s (admitted-last s ss e).parts) (admitted-offsets ss (admitted-before s ss e))

pub admitted-within : (ss : Past) → admitted ss ≡ true → Within (sums_of ss)
admitted-within [] e = within_none
admitted-within (s ∷ ss) e = within-past (s ∷ ss) (admitted-last s ss e).room

pub admitted-few : (ss : Past) → admitted ss ≡ true → length ss ≤ most_statements
admitted-few ss e = rows_few (admitted-standing ss e) (admitted-within ss e)
