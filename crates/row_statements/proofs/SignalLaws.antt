-- Bits inside their wires, and wires within the rules, as the words of the table of wires tell it.
-- Assumes nothing.
use Prim.Native.Nat.{ℕ, ◌+◌, ◌-◌, ◌*◌, ◌/◌, ◌≤◌, ◌<◌}
use mathlib.Core.Path.{◌≡◌, refl, sym, ◌∙◌}
use mathlib.Core.List.{List, [], ◌∷◌, Option-to_list}
use mathlib.Core.Option.{Option-elim}
use mathlib.Core.Bool.{Bool, true, false, not, ◌&&◌, ◌||◌, and-true}
use native.Mathlib.Omega.{arith}
use lib.IntN.{pos, ◌+ℤ◌}
use lib.Dec.{eqb, leb, ltb}
use lib.ListN.{get_or}
use borrow.Author.Tests.{le-leb, lt-leb}
use Rattle.rules.specs.Bytes.{all, any, within}
use Rattle.rules.specs.Signals.{Wires}
use Rattle.rules.specs.Numbers.{int32}
use Rattle.rules.specs.Judgement.{port_numbers}
use Rattle.admitted.specs.Admitted.{fine_bit, own_wire, new_ports, fine_wire}
use Rattle.numbers.specs.Kinds.{bit_of, bit_at}
use Rattle.numbers.specs.Signed.{signed_of}
use Rattle.numbers.specs.SignedLaws.{signed-int32}
use Rattle.numbers.specs.declared.kinds.SignalBit.{SignalBit}
use Rattle.numbers.specs.declared.kinds.WireNumber.{WireNumber}
use Rattle.wires.specs.Rows.{word_at, column, wire_of, wires_from}
use Rattle.wires.specs.RowLaws.{port-by, port-none, wire-numbered, wire-past}

-- ---- bits

module _ (c : ℕ) (b : SignalBit) (e : b ≡ bit_at c) where
  pub fits-digit : (ws : Wires) (d : ℕ) → b ≡ SignalBit.Digit d → true ≡ fine_bit ws (bit_of (bit_at c))
  unfolding fine_bit bit_of
  fits-digit ws d q = rw (← e, q)

  module _ (names wires : List ℕ) (first count i : ℕ) (w : WireNumber) (q : b ≡ SignalBit.Wire w i) where
    pub fits-past : count ≤ w.0 → false ≡ fine_bit (wires_from names wires first count) (bit_of (bit_at c))
    unfolding fine_bit bit_of Option-elim
    fits-past h =
        rw (← e, q, wire-past names wires first w.0 count h)

    pub fits-inside : w.0 < count → (x : ℕ) → x ≡ get_or wires (8 * (first + w.0) + 3) 0 → ltb i x ≡ fine_bit (wires_from names wires first count) (bit_of (bit_at c))
    unfolding fine_bit bit_of Option-elim wire_of column word_at
    fits-inside h x r = rw (← e, q, wire-numbered names wires first w.0 count h, ← r)

-- ---- wires

module _ (ws : Wires) (wires : List ℕ) (k width : ℕ) (ew : width ≡ get_or wires (8 * k + 3) 0) where
  pub wire-wide : 2048 < width → false ≡ fine_wire ws (wire_of wires k)
  unfolding own_wire fine_wire wire_of column word_at
  wire-wide h = rw (← ew, lt-leb width 2048 h)

  module _ (h : width ≤ 2048) (offset : ℕ) (eo : offset ≡ get_or wires (8 * k + 4) 0) {b : Bool} (eb : b ≡ eqb width 0 || int32 (signed_of offset +ℤ pos (width - 1))) where
    pub wire-far : b ≡ false → false ≡ fine_wire ws (wire_of wires k)
    unfolding own_wire fine_wire wire_of column word_at
    wire-far q = rw (← ew, ← eo, le-leb width 2048 h, signed-int32, ← eb, q)

    wire-by : b ≡ true → fine_wire ws (wire_of wires k) ≡ all (within 1 1023) (port_numbers (wire_of wires k)) && new_ports ws (wire_of wires k)
    unfolding own_wire fine_wire wire_of column word_at
    wire-by q = rw (← ew, ← eo, le-leb width 2048 h, signed-int32, ← eb, q)

    module _ (q : b ≡ true) (d : ℕ) (ed : d ≡ get_or wires (8 * k + 5) 0 / 4) where
      pub wire-plain : (d ≡ 1 → ⊥) → (d ≡ 2 → ⊥) → (d ≡ 3 → ⊥) → true ≡ fine_wire ws (wire_of wires k)
      unfolding new_ports port_numbers wire_of column word_at all Option-to_list
      wire-plain x y z = sym (wire-by q ∙ rw (← ed, port-none d (get_or wires (8 * k + 6) 0) x y z))

      module _ (l : 0 < d) (m : d ≤ 3) (port : ℕ) (ep : port ≡ get_or wires (8 * k + 6) 0) where
        ports-are : port_numbers (wire_of wires k) ≡ port ∷ []
        unfolding port_numbers wire_of column word_at Option-to_list
        ports-are = let x = port-by d port l m in rw (← ed, ← ep, x.1)

        ported : fine_wire ws (wire_of wires k) ≡ within 1 1023 port && not (any (λ v. any (eqb port) (port_numbers v.1)) ws)
        unfolding new_ports all
        ported = wire-by q ∙ rw (ports-are, and-true, and-true)

        pub wire-zero : port ≡ 0 → false ≡ fine_wire ws (wire_of wires k)
        unfolding within
        wire-zero e = sym (ported ∙ rw e)

        pub wire-high : 1023 < port → false ≡ fine_wire ws (wire_of wires k)
        unfolding within
        wire-high g = sym (ported ∙ rw (lt-leb port 1023 g) (falsely (leb 1 port) _))
          where
            falsely : (a x : Bool) → a && false && x ≡ false
            falsely true x = refl
            falsely false x = refl

        pub wire-port : (port ≡ 0 → ⊥) → port ≤ 1023 → {r : Bool} → r ≡ any (λ v. any (eqb port) (port_numbers v.1)) ws → not r ≡ fine_wire ws (wire_of wires k)
        unfolding within
        wire-port e g z = rw z (sym (ported ∙ rw (le-leb 1 port (omega arith), le-leb port 1023 g)))
