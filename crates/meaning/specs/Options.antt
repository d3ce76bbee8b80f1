-- The tokens of written options read as those options.
-- Assumes nothing.
use Prim.Native.Nat.{ℕ, zero, suc}
use Prim.Native.String.{String}
use Rattle.std.specs.Prelude.{◌≡◌, Bool, not, ℤ, pos, eqb}
use Rattle.std.proofs.Math.Path.{refl}
use mathlib.Core.List.{List, [], ◌∷◌, ◌++◌, map, Option-to_list}
use Rattle.std.proofs.Math.Option.{Option, none, some}
use Rattle.std.proofs.Math.Bool.{true, false}
use Rattle.std.proofs.Common.{arith}
use Rattle.rules.specs.Bytes.{bytes, bytes_open}
use Rattle.rules.specs.Tokens.{Name, Token, name, word}
use Rattle.rules.specs.Statements.{Opt, Direction, input, output, inout, Wire, Memory}
use Rattle.rules.specs.Shapes.{Parse, after, choice, offers, repeat, options, wire_option_forms, memory_option_forms, shapes_open}
use Rattle.rules.specs.Numbers.{in_range}
use Rattle.rules.specs.Text.{setting, unless, direction_word, port_options, wire_options, memory_options, number_token, option_tokens, text_open}
use Rattle.lists.specs.Elements.{Each, each_append, each_map, none_any, each_all}
use Rattle.meaning.specs.Items.{Item, items-read}

abbrev pub OptionForms : Type 0
OptionForms = List (String × Parse Opt)

-- an option's tokens
abbrev tokens_of : Opt → List Token
tokens_of o = word o.0 ∷ map number_token (Option-to_list o.1)

-- an option that the forms offer, and that its tokens read as, whatever follows
pub record Reads (fs : OptionForms) (o : Opt) : Type 0 where
  pub offered : offers fs (word o.0) ≡ true
  pub taken : (rest : List Token) → choice fs (tokens_of o ++ rest) ≡ some (o, rest)

-- ---- any forms

module _ (fs : OptionForms) where
  read-item : (o : Opt) → Reads fs o → Item (offers fs) (choice fs) tokens_of (λ ts. Unit {0}) o
  unfolding repeat after
  read-item o r = record { long = omega arith; taken = λ m as' rest b. rw (r.offered, r.taken rest); behind = λ rest. tt }

  offers-name : (gs : OptionForms) (n : Name) → offers gs (name n) ≡ false
  unfolding shapes_open bytes_open
  offers-name gs n = none_any _ gs (each_all _ (λ g. refl) gs)

  at_name : (m : ℕ) (as' : List Opt) (n : Name) (rest : List Token) → repeat (offers fs) (choice fs) m as' (name n ∷ rest) ≡ some (as', name n ∷ rest)
  unfolding repeat
  at_name zero as' n rest = refl
  at_name (suc m) as' n rest = rw (offers-name fs n)

  pub options-read : (os : List Opt) (n : Name) (rest : List Token) → Each (Reads fs) os → options fs (option_tokens os ++ name n ∷ rest) ≡ some (os, name n ∷ rest)
  unfolding options option_tokens
  options-read os n rest rs =
      items-read (offers fs) (choice fs) tokens_of (λ ts. Unit {0}) option_tokens refl (λ o os. refl) os (name n ∷ rest) (each_map (Reads fs) _ read-item os rs) tt
      (λ m as'. at_name m as' n rest)

-- ---- what holds of each option of a wire or a memory

module _ (P : Opt → Type 0) where
  each-unless : (os : List Opt) (t : Bool) (o : Opt) → Each P os → P o → Each P (os ++ unless t o)
  unfolding unless
  each-unless os true o h p = each_append P os [] h tt
  each-unless os false o h p = each_append P os (o ∷ []) h (p, tt)

  each-port : (po : Option (Direction × ℕ)) → ((q : Direction × ℕ) → po ≡ some q → P (setting (direction_word q.0) (pos q.1))) → Each P (port_options po)
  unfolding Option-to_list
  each-port none h = tt
  each-port (some q) h = (h q refl, tt)

  pub wire-each : (w : Wire) → P (bytes "signed", none) → ((q : Direction × ℕ) → w.port ≡ some q → P (setting (direction_word q.0) (pos q.1)))
      → P (bytes "upto", none) → P (setting "offset" w.offset) → P (setting "width" (pos w.width)) → Each P (wire_options w)
  unfolding wire_options
  wire-each w signed port upto offset width =
      let a : List Opt = unless (not w.signed) (bytes "signed", none) in
      let b : List Opt = a ++ port_options w.port in
      let c : List Opt = b ++ unless (not w.upto) (bytes "upto", none) in
      let d : List Opt = c ++ unless (in_range 0 0 w.offset) (setting "offset" w.offset) in
      each-unless d (eqb w.width 1) _
      (each-unless c (in_range 0 0 w.offset) _
      (each-unless b (not w.upto) _ (each_append P a (port_options w.port) (each-unless [] (not w.signed) _ tt signed) (each-port w.port port)) upto)
      offset)
      width

  pub memory-each : (m : Memory) → P (setting "offset" m.offset) → P (setting "size" (pos m.size)) → P (setting "width" (pos m.width)) → Each P (memory_options m)
  unfolding memory_options
  memory-each m offset size width =
      let a : List Opt = unless (in_range 0 0 m.offset) (setting "offset" m.offset) in
      let b : List Opt = a ++ unless (eqb m.size 0) (setting "size" (pos m.size)) in
      each-unless b (eqb m.width 1) _ (each-unless a (eqb m.size 0) _ (each-unless [] (in_range 0 0 m.offset) _ tt offset) size) width

-- ---- they read as themselves

wire-port : (d : Direction) (i : ℤ) → Reads wire_option_forms (setting (direction_word d) i)
unfolding shapes_open bytes_open text_open
wire-port input i = record { offered = refl; taken = λ rest. refl }
wire-port output i = record { offered = refl; taken = λ rest. refl }
wire-port inout i = record { offered = refl; taken = λ rest. refl }

pub wire-options-read : (w : Wire) → Each (Reads wire_option_forms) (wire_options w)
unfolding shapes_open bytes_open text_open
wire-options-read w =
    wire-each (Reads wire_option_forms) w
    (record { offered = refl; taken = λ rest. refl })
    (λ q e. wire-port q.0 (pos q.1))
    (record { offered = refl; taken = λ rest. refl })
    (record { offered = refl; taken = λ rest. refl })
    (record { offered = refl; taken = λ rest. refl })

pub memory-options-read : (m : Memory) → Each (Reads memory_option_forms) (memory_options m)
unfolding shapes_open bytes_open text_open
memory-options-read m =
    memory-each (Reads memory_option_forms) m
    (record { offered = refl; taken = λ rest. refl })
    (record { offered = refl; taken = λ rest. refl })
    (record { offered = refl; taken = λ rest. refl })
