-- What good options mean, and that others are not good.
-- Assumes nothing.
use mathlib.Core.Path.{◌≡◌, refl, sym, ap, ◌∙◌}
use mathlib.Core.Bool.{Bool, true, false, cond, ◌&&◌, ◌||◌}
use mathlib.Core.List.{List, [], ◌∷◌}
use Prim.Native.Nat.{ℕ, ◌+◌, ◌-◌, ◌≤◌}
use Prim.Native.String.{String}
use native.Mathlib.Omega.{arith}
use lib.ListN.{length}
use lib.IntN.{ℤ, pos, nat_abs, ◌+ℤ◌}
use lib.Dec.{leb, eqb}
use Rattle.rules.specs.Bytes.{bytes, any, all, within}
use Rattle.rules.specs.Tokens.{keywords}
use Rattle.rules.specs.Statements.{Opt, Direction, input, output, inout}
use Rattle.rules.specs.Numbers.{int32, in_range, has, number_or, ports_among, ports, port_of, wire_of, memory_of, good_wire, good_memory}
use Rattle.rules.specs.Layout.{flags}
use Rattle.scanner.specs.Words.{keyword_at}
use Rattle.lists.specs.Tests.{cond-le}
use Rattle.numbers.specs.Signed.{signed_of}
use Rattle.numbers.specs.SignedLaws.{signed_word}
use Rattle.std.specs.Prelude.{Option as Optional, Some, None}
use Rattle.tokens.specs.declared.Integer.{Integer}
use Rattle.options.specs.Forms.{number_codes, option_codes, is_option}
use Rattle.options.specs.Holds.{slot_of, slot_at, at, is_some, Holds}
use Rattle.option_rules.specs.Numbers.{value_or, WordIs, options_good}
use Rattle.option_rules.specs.Limits.{Ports, with_port, ports_in, ports_good, port_code, port_number, flag_bits, WireGood, MemoryGood}
use Rattle.options.specs.declared.Options.{Options}
use Rattle.options.proofs.Held.{given-flag}
use Rattle.option_rules.proofs.Numbers.{range-word, range-abs, fits-value, has-held, number-held, options-held, width-good, offset-good, size-good}

-- a wire of this width, offset and ports, its options good or not
wire_fine : Bool → (w t : ℤ) → Ports → Bool
wire_fine g w t ps =
    g
    && in_range 0 2048 w
    && leb (length ps) 1
    && all (λ p. in_range 1 1023 p.1) ps
    && (eqb (nat_abs w) 0 || int32 (t +ℤ pos (nat_abs w - 1)))

module _ (w t : ℤ) (ps : Ports) where
  fine-range : in_range 0 2048 w ≡ true → wire_fine true w t ps ≡ (ports_good ps && (eqb (nat_abs w) 0 || int32 (t +ℤ pos (nat_abs w - 1))))
  unfolding wire_fine ports_good
  fine-range h = rw h

-- a port that is written
port-held : (f : List ℕ) (d : Direction) (s : Optional Integer) (ps : Ports) → cond (is_some (slot_of f s)) ((d, value_or (pos 0) f s) ∷ ps) ps ≡ with_port f d s ps
unfolding is_some slot_of value_or with_port
port-held f d (Some z) ps = refl
port-held f d None ps = refl

module _ (f : List ℕ) (o : Options) (os : List Opt) (H : Holds f o os) where
  among : (w : String) (d : Direction) (c : ℕ) → bytes w ≡ keyword_at c → is_option c ≡ true → (s : Optional Integer) → at f o c ≡ slot_of f s → (ds : List (String × Direction)) → ports_among ((w, d) ∷ ds) os ≡ with_port f d s (ports_among ds os)
  unfolding ports_among
  among w d c e h s a ds = rw (has-held f o os H w c e h, number-held f o os H w c e h (pos 0) s a, a) (port-held f d s (ports_among ds os))

  ports-held : ports os ≡ ports_in f o
  unfolding ports ports_among ports_in keyword_at keywords is_option option_codes number_codes any at slot_at
  ports-held =
      among "input" input 9 refl refl o.input refl (("output", output) ∷ ("inout", inout) ∷ [])
      ∙ ap (with_port f input o.input) (among "output" output 10 refl refl o.output refl (("inout", inout) ∷ [])
      ∙ ap (with_port f output o.output) (among "inout" inout 11 refl refl o.inout refl []))

  width-held : number_or (pos 1) "width" os ≡ value_or (pos 1) f o.width
  unfolding keyword_at keywords is_option option_codes number_codes any at slot_at
  width-held = number-held f o os H "width" 7 refl refl (pos 1) o.width refl

  offset-held : number_or (pos 0) "offset" os ≡ value_or (pos 0) f o.offset
  unfolding keyword_at keywords is_option option_codes number_codes any at slot_at
  offset-held = number-held f o os H "offset" 8 refl refl (pos 0) o.offset refl

  size-held : number_or (pos 0) "size" os ≡ value_or (pos 0) f o.size
  unfolding keyword_at keywords is_option option_codes number_codes any at slot_at
  size-held = number-held f o os H "size" 15 refl refl (pos 0) o.size refl

  upto-held : has "upto" os ≡ o.upto
  unfolding keyword_at keywords is_option option_codes number_codes any at
  upto-held = has-held f o os H "upto" 12 refl refl ∙ sym (given-flag o.upto)

  signed-held : has "signed" os ≡ o.signed
  unfolding keyword_at keywords is_option option_codes number_codes any at
  signed-held = has-held f o os H "signed" 13 refl refl ∙ sym (given-flag o.signed)

  wire-fine : good_wire os ≡ wire_fine (options_good f o) (value_or (pos 1) f o.width) (value_or (pos 0) f o.offset) (ports_in f o)
  unfolding good_wire wire_of wire_fine
  wire-fine = rw (options-held f o os H, width-held, offset-held, ports-held)

  memory-fine : good_memory os ≡ (options_good f o && in_range 1 2048 (value_or (pos 1) f o.width) && in_range 0 2147483647 (value_or (pos 0) f o.size))
  unfolding good_memory
  memory-fine = rw (options-held f o os H, width-held, size-held)

  -- options that are not good
  pub wire-options : options_good f o ≡ false → good_wire os ≡ false
  unfolding wire_fine
  wire-options g = wire-fine ∙ rw g

  pub memory-options : options_good f o ≡ false → good_memory os ≡ false
  memory-options g = memory-fine ∙ rw g

  -- good options, with the words of their numbers
  module _ (G : options_good f o ≡ true) where
    module _ (w : ℕ) (e : WordIs f o.width 1 w) where
      width-range : (lo : ℕ) → in_range lo 2048 (value_or (pos 1) f o.width) ≡ within lo 2048 w
      unfolding int32
      width-range lo =
          let h : int32 (value_or (pos 1) f o.width) ≡ true = fits-value (pos 1) f o.width refl (width-good f o G) in
          range-word lo 2048 (value_or (pos 1) f o.width) (omega arith) h (e (width-good f o G))

      width-abs : (lo : ℕ) → within lo 2048 w ≡ true → nat_abs (value_or (pos 1) f o.width) ≡ w
      width-abs lo h = range-abs lo 2048 (value_or (pos 1) f o.width) (width-range lo ∙ h) ∙ e (width-good f o G)

      pub wire-width : within 0 2048 w ≡ false → good_wire os ≡ false
      unfolding wire_fine
      wire-width h = wire-fine ∙ rw (G, width-range 0, h)

      pub memory-width : within 1 2048 w ≡ false → good_memory os ≡ false
      memory-width h = memory-fine ∙ rw (G, width-range 1, h)

      wire-range : within 0 2048 w ≡ true → good_wire os ≡ (ports_good (ports_in f o) && (eqb w 0 || int32 (value_or (pos 0) f o.offset +ℤ pos (w - 1))))
      wire-range h =
          wire-fine
          ∙ rw (G, fine-range (value_or (pos 1) f o.width) (value_or (pos 0) f o.offset) (ports_in f o) (width-range 0 ∙ h), width-abs 0 h)

      pub wire-ports : within 0 2048 w ≡ true → ports_good (ports_in f o) ≡ false → good_wire os ≡ false
      wire-ports h p = wire-range h ∙ rw p

      module _ (t : ℕ) (q : WordIs f o.offset 0 t) (h : within 0 2048 w ≡ true) (p : ports_good (ports_in f o) ≡ true) where
        offset-signed : value_or (pos 0) f o.offset ≡ signed_of t
        unfolding int32
        offset-signed =
            sym (signed_word (value_or (pos 0) f o.offset) (fits-value (pos 0) f o.offset refl (offset-good f o G)))
            ∙ ap signed_of (q (offset-good f o G))

        pub wire-offset : good_wire os ≡ (eqb w 0 || int32 (signed_of t +ℤ pos (w - 1)))
        wire-offset = wire-range h ∙ rw (p, offset-signed)

        pub wire-good : (bits k n : ℕ) → good_wire os ≡ true → bits ≡ flag_bits o.upto o.signed → port_code (port_of (ports_in f o)) ≡ k → port_number (port_of (ports_in f o)) ≡ n → WireGood os w t (bits + k) n
        unfolding wire_of flags flag_bits
        wire-good bits k n g b c m =
            record {
              good = g;
              width = rw width-held (width-abs 0 h);
              offset = rw offset-held (q (offset-good f o G));
              flags = rw (upto-held, signed-held, ports-held, b, c);
              port = rw (ports-held, m);
            }

      module _ (n : ℕ) (q : WordIs f o.size 0 n) (h : within 1 2048 w ≡ true) where
        size-range : in_range 0 2147483647 (value_or (pos 0) f o.size) ≡ within 0 2147483647 n
        unfolding int32
        size-range =
            range-word 0 2147483647 (value_or (pos 0) f o.size) (omega arith) (fits-value (pos 0) f o.size refl (size-good f o G)) (q (size-good f o G))

        pub memory-size : good_memory os ≡ within 0 2147483647 n
        memory-size = memory-fine ∙ rw (G, width-range 1, h, size-range)

        pub memory-good : (t : ℕ) → WordIs f o.offset 0 t → within 0 2147483647 n ≡ true → MemoryGood os w n t
        unfolding memory_of
        memory-good t r l =
            record {
              good = memory-size ∙ l;
              width = rw width-held (width-abs 1 h);
              size = rw size-held (range-abs 0 2147483647 (value_or (pos 0) f o.size) (size-range ∙ l) ∙ q (size-good f o G));
              offset = rw offset-held (r (offset-good f o G));
            }

pub bits_most : (a b : Bool) {n : ℕ} → n ≡ flag_bits a b → n ≤ 3
unfolding flag_bits
bits_most a b e = omega (arith, e, cond-le a 1, cond-le b 2)
