-- What is promised of a wire, a constant and a slice, from what the code did.
-- Assumes nothing.
use mathlib.Core.Path.{◌≡◌, refl, sym, ap, ◌∙◌}
use mathlib.Core.Bool.{true, false}
use mathlib.Core.List.{List, [], ◌∷◌, reverse, map-map}
use mathlib.Core.Option.{Option, some, Option-elim, get_or}
use Prim.Native.Nat.{ℕ, suc, ◌+◌, ◌<◌, ◌≤◌}
use native.Mathlib.Omega.{arith}
use lib.ListN.{length, take}
use lib.Seq.{slice}
use borrow.Author.Tests.{lt-ltb, le-ltb}
use Rattle.std.specs.Prelude.{Some, None}
use Rattle.rules.specs.Bytes.{same}
use Rattle.rules.specs.Tokens.{Name, Literal}
use Rattle.rules.specs.Statements.{Sig, constant, wire, Wire, digit}
use Rattle.rules.specs.Signals.{Wires, find, wire_bits, literal_bits, literal_width, width, bits, declared_wire, good_slice, parts}
use Rattle.rules.specs.Numbers.{good_literal, good_numbers}
use Rattle.rules.specs.Layout.{bit_code}
use Rattle.tables.specs.Store.{store, length-store, store-slice, store-take}
use Rattle.lists.specs.Tests.{by_cond, never}
use Rattle.wires.specs.Found.{width_found, found_of}
use Rattle.wires.specs.FoundLaws.{found_declared, found-width, found-bits}
use Rattle.wires.specs.declared.FoundWire.{FoundWire}
use Rattle.literals.specs.Codes as literal
use Rattle.literals.proofs.CodeLaws.{codes-long}
use Rattle.faults.specs.Faults.{fault, merge, too_wide, mild}
use Rattle.signals.specs.Held.{codes, Held, Kept, Put, PartOf}
use Rattle.signals.specs.declared.Bits.{Bits}
use Rattle.signals.specs.declared.Part.{Part}
use Rattle.faults.proofs.FaultLaws.{merge_none, mild-not, mild-none, mild-merge, own-number, own-wire, own-width}
use Rattle.signals.proofs.Codes.{length-wire-codes}

pub kept_same : (o : ℕ) (out : List ℕ) → Kept o out out
kept_same o out = record { long = refl; below = refl }

pub kept_store : (o : ℕ) (out out' vs : List ℕ) → out' ≡ store out o vs → o + length vs ≤ length out → Kept o out out'
kept_store o out out' vs e room =
    record { long = ap length e ∙ length-store out o vs; below = ap (take o) e ∙ store-take out o vs room }

-- bits of a width, with a number
abbrev pub sized : ℕ → ℕ → Bits
sized w n = record { width = w; fault = n }

-- a part of such bits, from a bit on
abbrev pub parted : ℕ → ℕ → ℕ → Part
parted w n l = record { bits = sized w n; low = l }

-- a rule k other than that of the width is broken
not-mild-so : (k f n : ℕ) → 0 < k → k ≤ 10 → n ≡ merge k f → mild n ≡ false
not-mild-so k f n h l q = ap mild q ∙ mild-merge k f ∙ rw (mild-not k h l)

pub part-not : (ws : Wires) (whole s : Sig) (w low k f n : ℕ) → 0 < k → k ≤ 10 → n ≡ merge k f → fault ws s ≡ merge k f → PartOf ws whole s (parted w n low)
part-not ws whole s w low k f n h l q e =
    let m : mild n ≡ false = not-mild-so k f n h l q in
    record { refused = e ∙ sym q; wide = λ t. never (mild n) t m; taken = λ t. never (mild n) (mild-none n t) m }

module _ (ws : Wires) (s : Sig) (o : ℕ) (out : List ℕ) (w : ℕ) where
  pub held-not : (k f n : ℕ) → 0 < k → k ≤ 10 → n ≡ merge k f → fault ws s ≡ merge k f → Held ws s o out (sized w n)
  held-not k f n h l q e =
      let m : mild n ≡ false = not-mild-so k f n h l q in
      record {
        refused = e ∙ sym q;
        wide = λ t. never (mild n) t m;
        small = λ t. never (mild n) (mild-none n t) m;
        coded = λ t. never (mild n) (mild-none n t) m;
      }

  -- no other rule is broken
  module _ (e : fault ws s ≡ too_wide w) (q : width ws s ≡ w) where
    pub held-over : 2048 < w → Held ws s o out (sized w 11)
    unfolding too_wide
    held-over h =
        record {
          refused = e ∙ rw (lt-ltb 2048 w h);
          wide = λ t. q;
          small = λ t. absurd (omega arith);
          coded = λ t. absurd (omega arith);
        }

    pub held_fits : w ≤ 2048 → slice o (o + w) out ≡ codes (bits ws s) → Held ws s o out (sized w 0)
    unfolding too_wide
    held_fits h c =
        record {
          refused = e ∙ rw (le-ltb 2048 w h);
          wide = λ t. q;
          small = λ t. h;
          coded = λ t. c;
        }

module _ (ws : Wires) (s : Sig) (o : ℕ) (out : List ℕ) (w : ℕ) (few : w < 4294967296) where
  pub put-not : (n : ℕ) → fault ws s ≡ n → 0 < n → n ≤ 10 → Put ws s o out out (sized w n)
  put-not n e h l = record { held = held-not ws s o out w n 0 n h l (sym (merge_none n)) (e ∙ sym (merge_none n)); kept = kept_same o out; few = few }

  module _ (e : fault ws s ≡ too_wide w) (q : width ws s ≡ w) where
    pub put-over : 2048 < w → Put ws s o out out (sized w 11)
    put-over h = record { held = held-over ws s o out w e q h; kept = kept_same o out; few = few }

    pub put-fits : (out' : List ℕ) → w ≤ 2048 → o + 2048 ≤ length out → length (codes (bits ws s)) ≡ w → out' ≡ store out o (codes (bits ws s)) → Put ws s o out out' (sized w 0)
    put-fits out' h room l c =
        let r : o + length (codes (bits ws s)) ≤ length out = omega arith in
        record {
          held = held_fits ws s o out' w e q h (ap (λ (n : ℕ). slice o (o + n) out') (sym l) ∙ ap (slice o (o + length (codes (bits ws s)))) c ∙ store-slice out o (codes (bits ws s)) r);
          kept = kept_store o out out' (codes (bits ws s)) c r;
          few = few;
        }

-- ---- a wire

-- a wire's number is below the wires' count
pub found_below : (n : Name) (ws : Wires) (k w : ℕ) → width_found (find n ws) ≡ some (k, w) → k < length ws
unfolding find width_found
found_below n [] k w = λ e. let z : ◌≡◌ {A = ℕ} 0 1 = cc in absurd (omega arith)
found_below n (x ∷ ws) k w =
    by_cond (λ (r : Option (ℕ × Wire)). width_found r ≡ some (k, w) → k < suc (length ws)) (same x.0 n)
    (λ t e. let z : length ws ≡ k = ap (λ (o : Option (ℕ × ℕ)). (get_or o (0, 0)).0) e in omega arith) (λ t e. let l : k < length ws = found_below n ws k w e in omega arith)

module _ (ws : Wires) (n : Name) where
  module _ (r : FoundWire) (e : width_found (find n ws) ≡ found_of (Some r)) where
    wire-width : width ws (wire n) ≡ r.width
    unfolding found_of Option-elim
    wire-width = found-width ws n (Some r) e

    pub wire-bits : bits ws (wire n) ≡ wire_bits r.number.0 0 r.width
    unfolding found_of Option-elim
    wire-bits = found-bits ws n (Some r) e

    wire-fault : fault ws (wire n) ≡ too_wide r.width
    unfolding fault parts good_numbers good_slice found_of Option-elim
    wire-fault = own-width ws (wire n) refl (found_declared ws n (Some r) e) refl ∙ ap too_wide wire-width

    pub wire-number : r.number.0 < length ws
    unfolding found_of
    wire-number = found_below n ws r.number.0 r.width e

    pub wire-over : (o : ℕ) (out : List ℕ) → r.width < 4294967296 → 2048 < r.width → Put ws (wire n) o out out (sized r.width 11)
    wire-over o out few h = put-over ws (wire n) o out r.width few wire-fault wire-width h

    pub wire-put-fits : (o : ℕ) (out out' : List ℕ) → r.width ≤ 2048 → o + 2048 ≤ length out → out' ≡ store out o (codes (wire_bits r.number.0 0 r.width)) → Put ws (wire n) o out out' (sized r.width 0)
    wire-put-fits o out out' h room c =
        put-fits ws (wire n) o out r.width (omega arith) wire-fault wire-width out' h room (ap (λ (x : List _). length (codes x)) wire-bits ∙ length-wire-codes r.number.0 r.width) (c ∙ ap (λ (x : List _). store out o (codes x)) (sym wire-bits))

  pub wire-nothing : width_found (find n ws) ≡ found_of None → fault ws (wire n) ≡ 8
  unfolding fault parts good_numbers found_of Option-elim
  wire-nothing e = own-wire ws (wire n) refl (found_declared ws n None e)

-- ---- a constant

module _ (ws : Wires) (l : Literal) where
  pub constant-bad : good_literal l ≡ false → fault ws (constant l) ≡ 7
  unfolding fault parts good_numbers
  constant-bad e = own-number ws (constant l) e

  constant-codes : codes (bits ws (constant l)) ≡ literal.codes l
  unfolding codes bits bit_code
  constant-codes = ap reverse (map-map bit_code digit (literal_bits l))

  module _ (w : ℕ) (e : good_literal l ≡ true) (q : w ≡ literal_width l) where
    pub constant-width : width ws (constant l) ≡ w
    unfolding width
    constant-width = sym q

    pub constant-fault : fault ws (constant l) ≡ too_wide w
    unfolding fault parts good_numbers declared_wire good_slice
    constant-fault = own-width ws (constant l) e refl refl ∙ ap too_wide constant-width

    pub constant-put : (o : ℕ) (out out' : List ℕ) → w ≤ 2048 → o + 2048 ≤ length out → out' ≡ store out o (literal.codes l) → Put ws (constant l) o out out' (sized w 0)
    constant-put o out out' h room c =
        put-fits ws (constant l) o out w (omega arith) constant-fault constant-width out' h room (ap length constant-codes ∙ codes-long l e ∙ sym q) (c ∙ ap (store out o) (sym constant-codes))
