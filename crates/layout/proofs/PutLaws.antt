-- From what the code stores to what a statement puts.
-- Assumes nothing.
use Prim.Native.Nat.{ℕ, ◌+◌, ◌-◌, ◌≤◌}
use mathlib.Core.Path.{◌≡◌, refl, sym, ap, ap₂, ◌∙◌}
use mathlib.Core.Bool.{true}
use mathlib.Core.List.{List, [], ◌∷◌, ◌++◌, map, flat_map, reverse, reverse-reverse, append-nil}
use native.Mathlib.Nat.{zero-add}
use native.Mathlib.Omega.{arith}
use lib.ListN.{length, length-map, length-reverse}
use lib.Seq.{slice}
use Rattle.rules.specs.Tokens.{Name}
use Rattle.rules.specs.Statements.{Statement, Wire, wire-stmt, contents, holds}
use Rattle.rules.specs.Numbers.{good_literal}
use Rattle.rules.specs.Signals.{literal_bits, literal_width}
use Rattle.rules.specs.Layout.{Used, row, digit_code, name_bytes, bit_codes, wire_row, wire_rows}
use Rattle.tables.specs.Store.{store, store_then}
use Rattle.tables.specs.Flat.{flat}
use Rattle.scanner.specs.Numbers.{capped}
use Rattle.tokens.specs.Rows.{literal_in}
use Rattle.tokens.specs.declared.ConstantSpan.TheVariants as constant
use Rattle.literal_rules.proofs.ReadLaws.{value-few, value-width}
use Rattle.literals.proofs.Stored.{stored-front}
use Rattle.syntax.specs.Statements.{signal_in}
use Rattle.layout.specs.Put.{WireHas}
use Rattle.syntax.specs.SignalLaws.{signal-words}
use Rattle.layout.specs.SignalLaws.{signal-codes}
use Rattle.layout.specs.PartLaws.{one_name, two-names, one-signal, two-signals, one-wire}

-- values stored highest first, read from the last on
stored_back : (d t vs : List ℕ) (n : ℕ) → t ≡ store d 0 (reverse vs) → length vs ≡ n → n ≤ length d → reverse (slice 0 n t) ≡ vs
stored_back d t vs n e en h = ap reverse (stored-front d t (slice 0 n t) (reverse vs) n (omega (arith, length-reverse vs)) e (omega (arith, length-reverse vs)) refl) ∙ reverse-reverse vs

-- the digits of a value that keeps the number rules
module _ (f : List ℕ) (a b e : ℕ) (h : good_literal (literal_in f (constant.Value a b e)) ≡ true) where
  pub value-stored :
      (d t : List ℕ) (n : ℕ) → 2048 ≤ length d → n ≡ capped (literal_width (literal_in f (constant.Value a b e))) →
      t ≡ store d 0 (reverse (map digit_code (literal_bits (literal_in f (constant.Value a b e))))) →
      reverse (slice 0 n t) ≡ map digit_code (literal_bits (literal_in f (constant.Value a b e)))
  value-stored d t n k r et =
      let ds = literal_bits (literal_in f (constant.Value a b e)) in
      let en : length (map digit_code ds) ≡ n = length-map ds digit_code ∙ sym (value-width f a b e h n r) in
      stored_back d t (map digit_code ds) n et en (omega (arith, value-few f a b e h, value-width f a b e h n r))

-- a statement's one name
module _ (s : Statement) (t t' : List ℕ) (at : ℕ) where
  pub name-put : (n : Name) → (contents s).names ≡ n ∷ [] → t' ≡ store t at n → t' ≡ store t at (name_bytes s)
  name-put n e h = h ∙ ap (store t at) (sym (one_name s n e))

pub names-put :
    (s : Statement) (t t₁ t₂ : List ℕ) (at i : ℕ) (m n : Name) → (contents s).names ≡ m ∷ n ∷ [] →
    t₁ ≡ store t at m → i ≡ at + length m → t₂ ≡ store t₁ i n → t₂ ≡ store t at (name_bytes s)
names-put s t t₁ t₂ at i m n e h₁ ei h₂ = store_then t t₁ t₂ at i m n h₁ ei h₂ ∙ ap (store t at) (sym (two-names s m n e))

-- the codes of a signal from the start of scratch on, and those of a second one behind them
module _ (s : Statement) (t t' : List ℕ) (at : ℕ) (scratch : List ℕ) (w : ℕ) (none : (contents s).constants ≡ []) (h : t' ≡ store t at (reverse (slice 0 w scratch))) where
  from_start : t' ≡ store t at (reverse (slice 0 (0 + w) scratch))
  from_start = rw zero-add h

  pub signal-put : (contents s).signals ≡ signal_in scratch 0 w ∷ [] → t' ≡ store t at (bit_codes s)
  signal-put e = from_start ∙ ap (store t at) (sym (one-signal s (signal_in scratch 0 w) none e ∙ signal-codes scratch 0 w))

  pub signals-put :
      (o v : ℕ) (t'' : List ℕ) → (contents s).signals ≡ signal_in scratch 0 w ∷ signal_in scratch o v ∷ [] → w ≤ length scratch →
      t'' ≡ store t' (at + w) (reverse (slice o (o + v) scratch)) → t'' ≡ store t at (bit_codes s)
  signals-put o v t'' e k g =
      store_then t t' t'' at (at + w) _ _ from_start (ap (λ (n : ℕ). at + n) (sym (signal-words scratch 0 w (omega arith)))) g
      ∙ ap (store t at)
      (sym (two-signals s (signal_in scratch 0 w) (signal_in scratch o v) none e ∙ ap₂ (λ (x y : List ℕ). x ++ y) (signal-codes scratch 0 w) (signal-codes scratch o v)))

-- the row of a wire
pub wire-put :
    (u : Used) (n : Name) (w : Wire) (width offset flags' port size at : ℕ) (t t' : List ℕ) →
    WireHas width offset flags' port w → size ≡ length n →
    t' ≡ store t at (row ((u.modules - 1) ∷ u.names ∷ size ∷ width ∷ offset ∷ flags' ∷ port ∷ [])) →
    t' ≡ store t at (flat (wire_rows u (wire-stmt w n)))
unfolding contents holds flat_map wire_row
wire-put u n w width offset flags' port size at t t' h e g =
    rw (one-wire (wire-stmt w n) u n w refl refl, append-nil, h.flags-are, h.port-is, h.offset-is, h.width_is, ← e) g
