-- What a statement puts into the tables, by what stands in it.
-- Assumes nothing.
use Rattle.std.specs.Prelude.{ℕ, ◌≡◌}
use Rattle.std.proofs.Common.{ap, ◌∙◌}
use mathlib.Core.List.{List, [], ◌∷◌, ◌++◌, map, flat_map, zip, zip_with, append-nil}
use Rattle.rules.specs.Tokens.{Name}
use Rattle.rules.specs.Statements.{Statement, Constant, Signal, Wire, contents, digits_of, bytes_of}
use Rattle.rules.specs.Layout.{Used, name_bytes, bytes_of_string, digit_code, bit_code, bit_codes, wire_row, wire_rows}
use Rattle.lists.specs.Lists.{zip-none}

module _ (s : Statement) where
  pub no_names : (contents s).names ≡ [] → name_bytes s ≡ []
  unfolding name_bytes flat_map
  no_names e = rw e

  pub one_name : (n : Name) → (contents s).names ≡ n ∷ [] → name_bytes s ≡ n
  unfolding name_bytes flat_map
  one_name n e = rw e (append-nil n)

  pub two-names : (m n : Name) → (contents s).names ≡ m ∷ n ∷ [] → name_bytes s ≡ m ++ n
  unfolding name_bytes flat_map
  two-names m n e = rw e (ap (λ (l : Name). m ++ l) (append-nil n))

  pub no-string : (contents s).constants ≡ [] → bytes_of_string s ≡ []
  unfolding bytes_of_string flat_map
  no-string e = rw e

  pub one-string : (c : Constant) → (contents s).constants ≡ c ∷ [] → bytes_of_string s ≡ bytes_of c
  unfolding bytes_of_string flat_map
  one-string c e = rw e (append-nil (bytes_of c))

  pub no_bits : (contents s).constants ≡ [] → (contents s).signals ≡ [] → bit_codes s ≡ []
  unfolding bit_codes flat_map
  no_bits e g = rw (e, g)

  pub one_value : (c : Constant) → (contents s).constants ≡ c ∷ [] → (contents s).signals ≡ [] → bit_codes s ≡ map digit_code (digits_of c)
  unfolding bit_codes flat_map
  one_value c e g = rw (e, g) (append-nil (map digit_code (digits_of c) ++ []) ∙ append-nil (map digit_code (digits_of c)))

  pub one-signal : (x : Signal) → (contents s).constants ≡ [] → (contents s).signals ≡ x ∷ [] → bit_codes s ≡ map bit_code x
  unfolding bit_codes flat_map
  one-signal x e g = rw (e, g) (append-nil (map bit_code x))

  pub two-signals : (x y : Signal) → (contents s).constants ≡ [] → (contents s).signals ≡ x ∷ y ∷ [] → bit_codes s ≡ map bit_code x ++ map bit_code y
  unfolding bit_codes flat_map
  two-signals x y e g = rw (e, g) (ap (λ (l : List ℕ). map bit_code x ++ l) (append-nil (map bit_code y)))

  pub only-signals : (contents s).constants ≡ [] → bit_codes s ≡ flat_map (map bit_code) (contents s).signals
  unfolding bit_codes flat_map
  only-signals e = rw e

  pub no-wire : (u : Used) → (contents s).wires ≡ [] → wire_rows u s ≡ []
  unfolding wire_rows zip
  no-wire u e = rw (e, zip-none)

  pub one-wire : (u : Used) (n : Name) (w : Wire) → (contents s).names ≡ n ∷ [] → (contents s).wires ≡ w ∷ [] → wire_rows u s ≡ wire_row u (n, w) ∷ []
  unfolding wire_rows zip zip_with
  one-wire u n w e g = rw (e, g)
