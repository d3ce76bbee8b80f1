-- The parts of what a shape means keep their rules, where those of the shape do.
-- Assumes nothing.
use Rattle.std.specs.Prelude.{ℕ, ◌≡◌, Bool, ◌&&◌, ℤ, pos, negsuc, nat_abs, length}
use Rattle.std.proofs.Math.Path.{refl, ap₂}
use Rattle.std.proofs.Common.{◌∙◌, le-leb}
use mathlib.Core.List.{List, [], ◌∷◌, map, flat_map, Option-to_list}
use Rattle.std.proofs.Math.Bool.{true}
use Rattle.std.proofs.lemmas.Bool.{false≢true}
use Rattle.std.proofs.Math.Dec.{leb}
use Rattle.rules.specs.Bytes.{all, within}
use Rattle.rules.specs.Tokens.{Digit, Literal, value, integer, string}
use Rattle.rules.specs.Statements.{Sig, Opt, Direction}
use Rattle.rules.specs.Numbers.{in_range, good_literal, good_numbers, number_or, ports, port_of, wire_of, memory_of, good_options, good_wire, good_memory}
use Rattle.rules.specs.Signals.{Wires, kept, value_bits, literal_bits, literal_width, width, bits, good_slice, parts}
use Rattle.rules.specs.Judgement.{port_numbers}
use Rattle.lists.specs.Tests.{and-true-left}
use Rattle.lists.specs.Bytes.{within-high}
use Rattle.lists.specs.Elements.{all_map, all_both, all_left, all_right, all_cons, all_first, each-test}
use Rattle.slices.specs.Slices.{part-self}
use Rattle.context.specs.Offsets.{good-offset, memory-offset}
use Rattle.literal_rules.proofs.ReadLaws.{literal-long}
use Rattle.admitted.specs.Admitted.{fine_constant, own_wire, fine_memory, fine_signal}
use Rattle.written.specs.TokenLaws.{fine_literal}
use Rattle.soundness.specs.SignalLaws.{bits-fine, bits-long}

pub both : (a b : Bool) → a ≡ true → b ≡ true → a && b ≡ true
both a b h k = rw (h, k)

-- ---- constants

value-long : (w : ℕ) (ds : List Digit) → good_literal (value w ds) ≡ true → length (value_bits w ds) ≡ w
unfolding literal_bits literal_width
value-long w ds g = literal-long (value w ds) g

pub constant-fine : (c : Literal) → good_literal c ≡ true → fine_literal c ≡ true → fine_constant (kept c) ≡ true
unfolding good_literal fine_literal fine_constant kept
constant-fine (value w ds) g f = rw (value-long w ds g) (and-true-left (leb w 2048) (leb (length ds) w) g)
constant-fine (integer i) g f = g
constant-fine (string s) g f = f

pub constants-fine : (cs : List Literal) → all good_literal cs ≡ true → all fine_literal cs ≡ true → all fine_constant (map kept cs) ≡ true
constants-fine cs g f = all_map fine_constant kept cs ∙ all_both good_literal fine_literal _ constant-fine cs g f

-- ---- wires and memories

range-within : (lo hi : ℕ) (z : ℤ) → in_range lo hi z ≡ true → within lo hi (nat_abs z) ≡ true
unfolding in_range
range-within lo hi (pos n) e = e
range-within lo hi (negsuc n) e = absurd (false≢true e)

range-high : (lo hi : ℕ) (z : ℤ) → in_range lo hi z ≡ true → leb (nat_abs z) hi ≡ true
range-high lo hi z e = le-leb (nat_abs z) hi (within-high lo hi (nat_abs z) (range-within lo hi z e))

-- of the ports the first
port-within : (ps : List (Direction × ℤ)) → all (λ (p : Direction × ℤ). in_range 1 1023 p.1) ps ≡ true → all (within 1 1023) (map (λ (p : Direction × ℕ). p.1) (Option-to_list (port_of ps))) ≡ true
unfolding port_of Option-to_list all
port-within [] e = refl
port-within (p ∷ ps) e = both _ true (range-within 1 1023 p.1 (all_first (λ (p : Direction × ℤ). in_range 1 1023 p.1) p ps e)) refl

pub wire-fine : (os : List Opt) → good_wire os ≡ true → own_wire (wire_of os) ≡ true
unfolding good_wire wire_of port_numbers own_wire
wire-fine os g =
    let h = each-test (good_options os) (in_range 0 2048 (number_or (pos 1) "width" os) ∷ _ ∷ all (λ (p : Direction × ℤ). in_range 1 1023 p.1) (ports os) ∷ _ ∷ []) g in
    both _ _ (both _ _ (both _ _ (range-high 0 2048 (number_or (pos 1) "width" os) h.1.0) (good-offset os g)) h.1.1.1.1.0)
    (port-within (ports os) h.1.1.1.0)

pub memory-fine : (os : List Opt) → good_memory os ≡ true → fine_memory (memory_of os) ≡ true
unfolding good_memory memory_of fine_memory
memory-fine os e =
    let h = each-test (good_options os) (in_range 1 2048 (number_or (pos 1) "width" os) ∷ in_range 0 2147483647 (number_or (pos 0) "size" os) ∷ []) e in
    both _ _
    (both _ _ (range-within 1 2048 (number_or (pos 1) "width" os) h.1.0) (range-high 0 2147483647 (number_or (pos 0) "size" os) h.1.1.0))
    (memory-offset os e)

-- ---- signals

module _ (ws : Wires) where
  unfoldable pub narrow : Sig → Bool
  narrow s = leb (width ws s) 2048

  signal-fine : (s : Sig) → all good_numbers (parts s) ≡ true → all (good_slice ws) (parts s) ≡ true → all narrow (parts s) ≡ true → fine_signal ws (bits ws s) ≡ true
  unfolding fine_signal narrow
  signal-fine s n g w =
      let few : leb (length (bits ws s)) 2048 ≡ true = rw (bits-long ws s n g) (part-self narrow s w) in
      both _ _ few (bits-fine ws s)

  pub signals-fine :
      (ss : List Sig) → all good_numbers (flat_map parts ss) ≡ true → all (good_slice ws) (flat_map parts ss) ≡ true → all narrow (flat_map parts ss) ≡ true →
      all (fine_signal ws) (map (bits ws) ss) ≡ true
  unfolding flat_map all
  signals-fine [] n g w = refl
  signals-fine (s ∷ ss) n g w =
      let r : List Sig = flat_map parts ss in
      all_cons (fine_signal ws) (bits ws s) (map (bits ws) ss)
      (signal-fine s (all_left good_numbers (parts s) r n) (all_left (good_slice ws) (parts s) r g) (all_left narrow (parts s) r w))
      (signals-fine ss (all_right good_numbers (parts s) r n) (all_right (good_slice ws) (parts s) r g) (all_right narrow (parts s) r w))

  pub same-lengths :
      (ss : List Sig) → all good_numbers (flat_map parts ss) ≡ true → all (good_slice ws) (flat_map parts ss) ≡ true → map length (map (bits ws) ss) ≡ map (width ws) ss
  unfolding flat_map
  same-lengths [] n g = refl
  same-lengths (s ∷ ss) n g =
      let r : List Sig = flat_map parts ss in
      ap₂ (λ (w : ℕ) (vs : List ℕ). w ∷ vs) (bits-long ws s (all_left good_numbers (parts s) r n) (all_left (good_slice ws) (parts s) r g))
      (same-lengths ss (all_right good_numbers (parts s) r n) (all_right (good_slice ws) (parts s) r g))
