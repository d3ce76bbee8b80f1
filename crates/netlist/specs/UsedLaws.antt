-- How much the statements so far use of the tables, by the place behind them and the sums of their sizes.
-- Assumes nothing.
use Rattle.std.specs.Prelude.{◌+◌, ◌≡◌, refl}
use Rattle.std.proofs.Common.{◌∙◌, arith}
use mathlib.Core.List.{[], ◌∷◌, map, flat_map, zip}
use Rattle.std.proofs.Math.ListN.{length, length-append, length-map}
use Rattle.rules.specs.Statements.{Statement, a_module, a_wire, contents, digits_of, bytes_of}
use Rattle.rules.specs.Judgement.{Past, sum, count, signal_size, value_size, string_size, name_size}
use Rattle.rules.specs.Layout.{Used, digit_code, bit_code, name_bytes, bytes_of_string, bit_codes, wire_row, wire_rows, put, used}
use Rattle.context.specs.Place.{place_of, wires_in}
use Rattle.context.specs.Sizes.{sizes_by, sums_of}
use Rattle.context.proofs.PlaceLaws.{wire-count}
use Rattle.netlist.specs.Laid.{rooms_of}
use Rattle.netlist.specs.LaidLaws.{length-rows}
use Rattle.netlist.specs.Used.{used_by}
use Rattle.lists.specs.Sums.{length-flat_map}

-- what a statement puts is as long as the rules count it
module _ (s : Statement) where
  names-size : length (name_bytes s) ≡ name_size s
  unfolding name_bytes name_size
  names-size = length-flat_map (λ n. n) length (λ n. refl) (contents s).names

  strings-size : length (bytes_of_string s) ≡ string_size s
  unfolding bytes_of_string string_size
  strings-size = length-flat_map bytes_of (λ c. length (bytes_of c)) (λ c. refl) (contents s).constants

  bits-size : length (bit_codes s) ≡ value_size s + signal_size s
  unfolding bit_codes value_size signal_size
  bits-size =
      length-append (flat_map (λ c. map digit_code (digits_of c)) (contents s).constants) (flat_map (map bit_code) (contents s).signals)
      ∙ (let v = length-flat_map (λ c. map digit_code (digits_of c)) (λ c. length (digits_of c)) (λ c. length-map (digits_of c) digit_code) (contents s).constants in
      let g = length-flat_map (map bit_code) length (λ x. length-map x bit_code) (contents s).signals in
      rw (v, g))

  wires-size : (u : Used) → length (wire_rows u s) ≡ count (a_wire ∷ []) s
  unfolding wire_rows
  wires-size u = length-map (zip (contents s).names (contents s).wires) (wire_row u) ∙ wire-count s

-- each table
pub used-names : (ss : Past) → length (rooms_of ss).names ≡ sum name_size ss
unfolding rooms_of put sum
used-names [] = refl
used-names (s ∷ ss) = omega (arith, length-append (rooms_of ss).names (name_bytes s), names-size s, used-names ss)

used-strings : (ss : Past) → length (rooms_of ss).strings ≡ sum string_size ss
unfolding rooms_of put sum
used-strings [] = refl
used-strings (s ∷ ss) = omega (arith, length-append (rooms_of ss).strings (bytes_of_string s), strings-size s, used-strings ss)

used-bits : (ss : Past) → length (rooms_of ss).bits ≡ sum value_size ss + sum signal_size ss
unfolding rooms_of put sum
used-bits [] = refl
used-bits (s ∷ ss) = omega (arith, length-append (rooms_of ss).bits (bit_codes s), bits-size s, used-bits ss)

pub used-wires : (ss : Past) → length (rooms_of ss).wires ≡ wires_in ss
unfolding rooms_of put wires_in sum
used-wires [] = refl
used-wires (s ∷ ss) =
    omega (arith, length-append (rooms_of ss).wires (wire_rows (used (rooms_of ss)) s), wires-size s (used (rooms_of ss)), used-wires ss)

pub used-modules : (ss : Past) → (rooms_of ss).modules ≡ sum (count (a_module ∷ [])) ss
unfolding rooms_of put sum
used-modules [] = refl
used-modules (s ∷ ss) = omega (arith, used-modules ss)

pub used-past : (ss : Past) → used (rooms_of ss) ≡ used_by (place_of ss) (sums_of ss)
unfolding used place_of sums_of sizes_by
used-past ss =
    λ i.
    record {
      names = used-names ss i;
      strings = used-strings ss i;
      bits = used-bits ss i;
      wires = used-wires ss i;
      rows = length-rows ss i;
      modules = used-modules ss i;
    }
