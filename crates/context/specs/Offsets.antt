-- Statements whose wires have offsets of 32 bits, which a row of the table of wires can hold; the offset of good options is one.
use Prim.Native.String.{String}
use Rattle.std.specs.Prelude.{◌≡◌, refl, Bool, true, ℤ, pos}
use mathlib.Core.List.{List, [], ◌∷◌, Option-to_list}
use Rattle.std.proofs.Math.Option.{Option, none, some, get_or}
use Rattle.rules.specs.Bytes.{bytes, same, all}
use Rattle.rules.specs.Statements.{Opt, Statement, contents}
use Rattle.rules.specs.Numbers.{int32, number_or, once, good_options, good_wire, good_memory, wire_of, memory_of}
use Rattle.rules.specs.Judgement.{Past}
use Rattle.lists.specs.Tests.{by_cond, and-true-left, and-true-right}
use Rattle.lists.specs.Elements.{all_first, all-later}

abbrev pub fits_offset : Statement → Bool
fits_offset s = all (λ w. int32 w.offset) (contents s).wires

pub data Offsets : Past → Type 0 where
  no-offsets : Offsets []
  more-offsets : {s : Statement} {ss : Past} → fits_offset s ≡ true → Offsets ss → Offsets (s ∷ ss)

-- the numbers of good options
unfoldable numbers_fit : Opt → Bool
numbers_fit o = all int32 (Option-to_list o.1)

given-fits : (v : Option ℤ) → all int32 (Option-to_list v) ≡ true → int32 (get_or v (pos 0)) ≡ true
unfolding all Option-to_list int32
given-fits none h = refl
given-fits (some z) h = and-true-left (int32 z) true h

number_fits : (w : String) (os : List Opt) → all numbers_fit os ≡ true → int32 (number_or (pos 0) w os) ≡ true
unfolding number_or int32 numbers_fit
number_fits w [] h = refl
number_fits w (o ∷ os) h =
    by_cond (λ z. int32 z ≡ true) (same o.0 (bytes w)) (λ _. given-fits o.1 (all_first numbers_fit o os h)) (λ _. number_fits w os (all-later numbers_fit o os h))

options-fit : (w : String) (os : List Opt) → good_options os ≡ true → int32 (number_or (pos 0) w os) ≡ true
unfolding good_options numbers_fit
options-fit w os h = number_fits w os (and-true-right (once os) _ h)

module _ (os : List Opt) where
  pub good-offset : good_wire os ≡ true → int32 (wire_of os).offset ≡ true
  unfolding good_wire wire_of
  good-offset h = options-fit "offset" os (and-true-left (good_options os) _ (and-true-left _ _ (and-true-left _ _ (and-true-left _ _ h))))

  pub memory-offset : good_memory os ≡ true → int32 (memory_of os).offset ≡ true
  unfolding good_memory memory_of
  memory-offset h = options-fit "offset" os (and-true-left (good_options os) _ (and-true-left _ _ h))
