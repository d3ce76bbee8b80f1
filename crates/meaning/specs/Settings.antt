-- Written options mean the wire or the memory that they were written from, and keep the rules.
-- Assumes nothing.
use Rattle.std.specs.Prelude.{ℕ, ◌≤◌, ◌≡◌, refl, Bool, true, false, not, ◌&&◌, ℤ, pos, negsuc, eqb, leb, length}
use Rattle.std.proofs.Common.{sym, ap, arith, eqb-true, leb-true, lt-ltb}
use mathlib.Core.List.{List, [], ◌∷◌, ◌++◌, map, append_assoc, Option-to_list}
use Rattle.std.proofs.Math.Option.{Option, none, some}
use Rattle.std.proofs.lemmas.Bool.{false≢true}
use Rattle.rules.specs.Bytes.{bytes, all, within, bytes_open}
use Rattle.rules.specs.Statements.{Opt, Direction, input, output, inout, Wire, Memory}
use Rattle.rules.specs.Numbers.{int32, in_range, has, number_or, ports, port_of, wire_of, memory_of, once, good_options, good_wire, good_memory, numbers_open}
use Rattle.rules.specs.Signals.{Wires}
use Rattle.rules.specs.Judgement.{port_numbers, new_port}
use Rattle.rules.specs.Text.{setting, unless, direction_word, port_options, wire_options, memory_options}
use Rattle.admitted.specs.Admitted.{own_wire, new_ports, fine_memory}
use Rattle.admitted.specs.AdmitLaws.{OwnWire, own-wire}
use Rattle.lists.specs.Tests.{by-test}
use Rattle.lists.specs.Bytes.{within-yes, within_low, within-high}
use Rattle.lists.specs.Elements.{all_first, test_at, all_of}
use Rattle.meaning.specs.Options.{wire-each, memory-each}

-- ---- an option that is left out where it says the default

by-unless : (P : List Opt → Type 0) (t : Bool) (o : Opt) (os : List Opt) → (t ≡ true → P os) → (t ≡ false → P (o ∷ os)) → P (unless t o ++ os)
unfolding unless
by-unless P true o os f g = f refl
by-unless P false o os f g = g refl

in-zero : (i : ℤ) → in_range 0 0 i ≡ true → pos 0 ≡ i
unfolding in_range
in-zero (pos n) h = ap pos (let z : 0 ≡ n = omega (arith, within-high 0 0 n h) in z)
in-zero (negsuc n) h = absurd (false≢true h)

-- each number that is given has 32 bits
abbrev all_int32 : List Opt → Bool
all_int32 os = all (λ o. all int32 (Option-to_list o.1)) os

-- ---- a wire, from its last option on: width, offset, upto; then the port; then signed

record Plain (os : List Opt) (wd : ℕ) (of : ℤ) (up : Bool) : Type 0 where
  width : number_or (pos 1) "width" os ≡ pos wd
  offset : number_or (pos 0) "offset" os ≡ of
  upto : has "upto" os ≡ up
  no-input : has "input" os ≡ false
  no_output : has "output" os ≡ false
  no-inout : has "inout" os ≡ false
  no_signed : has "signed" os ≡ false
  once-each : once os ≡ true

abbrev port_list : Option (Direction × ℕ) → List (Direction × ℤ)
port_list p = map (λ q. (q.0, pos q.1)) (Option-to_list p)

record Says (os : List Opt) (wd : ℕ) (of : ℤ) (up : Bool) (po : Option (Direction × ℕ)) (sg : Bool) : Type 0 where
  width : number_or (pos 1) "width" os ≡ pos wd
  offset : number_or (pos 0) "offset" os ≡ of
  upto : has "upto" os ≡ up
  port : ports os ≡ port_list po
  signed : has "signed" os ≡ sg
  once-each : once os ≡ true

abbrev width_part : ℕ → List Opt
width_part wd = unless (eqb wd 1) (setting "width" (pos wd))

width-says : (wd : ℕ) → Plain (width_part wd) wd (pos 0) false × (has "offset" (width_part wd) ≡ false)
unfolding bytes_open numbers_open setting unless
width-says wd = by-test (eqb wd 1)
    (λ t. rw t (record { width = ap pos (sym (eqb-true wd 1 t)); offset = refl; upto = refl; no-input = refl; no_output = refl; no-inout = refl; no_signed = refl; once-each = refl }, refl))
    (λ t. rw t (record { width = refl; offset = refl; upto = refl; no-input = refl; no_output = refl; no-inout = refl; no_signed = refl; once-each = refl }, refl))

offset-says : (os : List Opt) (wd : ℕ) (of : ℤ) → Plain os wd (pos 0) false → has "offset" os ≡ false → Plain (unless (in_range 0 0 of) (setting "offset" of) ++ os) wd of false
unfolding bytes_open numbers_open setting
offset-says os wd of p e =
    by-unless (λ xs. Plain xs wd of false) (in_range 0 0 of) (setting "offset" of) os
    (λ t. rw (← in-zero of t) p)
    (λ t. record { width = p.width; offset = refl; upto = p.upto; no-input = p.no-input; no_output = p.no_output; no-inout = p.no-inout; no_signed = p.no_signed; once-each = rw (e, p.once-each) })

upto-says : (os : List Opt) (wd : ℕ) (of : ℤ) (up : Bool) → Plain os wd of false → Plain (unless (not up) (bytes "upto", none) ++ os) wd of up
unfolding bytes_open numbers_open unless
upto-says os wd of false p = p
upto-says os wd of true p =
    record { width = p.width; offset = p.offset; upto = refl; no-input = p.no-input; no_output = p.no_output; no-inout = p.no-inout; no_signed = p.no_signed; once-each = rw (p.upto, p.once-each) }

port-says : (os : List Opt) (wd : ℕ) (of : ℤ) (up : Bool) (po : Option (Direction × ℕ)) → Plain os wd of up → Says (port_options po ++ os) wd of up po false
unfolding bytes_open numbers_open setting direction_word
port-says os wd of up none p =
    record { width = p.width; offset = p.offset; upto = p.upto; port = rw (p.no-input, p.no_output, p.no-inout); signed = p.no_signed; once-each = p.once-each }
port-says os wd of up (some (input, n)) p =
    record { width = p.width; offset = p.offset; upto = p.upto; port = rw (p.no_output, p.no-inout); signed = p.no_signed; once-each = rw (p.no-input, p.once-each) }
port-says os wd of up (some (output, n)) p =
    record { width = p.width; offset = p.offset; upto = p.upto; port = rw (p.no-input, p.no-inout); signed = p.no_signed; once-each = rw (p.no_output, p.once-each) }
port-says os wd of up (some (inout, n)) p =
    record { width = p.width; offset = p.offset; upto = p.upto; port = rw (p.no-input, p.no_output); signed = p.no_signed; once-each = rw (p.no-inout, p.once-each) }

signed-says : (os : List Opt) (wd : ℕ) (of : ℤ) (up : Bool) (po : Option (Direction × ℕ)) (sg : Bool) → Says os wd of up po false → Says (unless (not sg) (bytes "signed", none) ++ os) wd of up po sg
unfolding bytes_open numbers_open unless
signed-says os wd of up po false p = p
signed-says os wd of up po true p =
    record { width = p.width; offset = p.offset; upto = p.upto; port = p.port; signed = refl; once-each = rw (p.signed, p.once-each) }

wire-says : (w : Wire) → Says (wire_options w) w.width w.offset w.upto w.port w.signed
unfolding wire_options
wire-says w =
    let p : Plain (unless (in_range 0 0 w.offset) (setting "offset" w.offset) ++ width_part w.width) w.width w.offset false =
    offset-says (width_part w.width) w.width w.offset (width-says w.width).0 (width-says w.width).1 in
    simp append_assoc (signed-says _ w.width w.offset w.upto w.port w.signed (port-says _ w.width w.offset w.upto w.port (upto-says _ w.width w.offset w.upto p)))

port-back : (po : Option (Direction × ℕ)) → port_of (port_list po) ≡ po
unfolding port_of Option-to_list
port-back none = refl
port-back (some p) = refl

pub wire-back : (w : Wire) → wire_of (wire_options w) ≡ w
unfolding wire_of
wire-back w =
    let p : Says (wire_options w) w.width w.offset w.upto w.port w.signed = wire-says w in
    rw (p.width, p.offset, p.upto, p.signed, p.port, port-back)

-- ---- the rules of a wire

one-port : (po : Option (Direction × ℕ)) → leb (length (port_list po)) 1 ≡ true
unfolding Option-to_list
one-port none = refl
one-port (some p) = refl

port-range : (po : Option (Direction × ℕ)) → all (within 1 1023) (map (λ p. p.1) (Option-to_list po)) ≡ true → all (λ p. in_range 1 1023 p.1) (port_list po) ≡ true
unfolding all Option-to_list in_range
port-range none h = h
port-range (some p) h = h

setting-int32 : (i : ℤ) → int32 i ≡ true → all int32 (Option-to_list (some i)) ≡ true
unfolding all Option-to_list
setting-int32 i h = rw h

number-int32 : (n : ℕ) → n ≤ 2147483647 → int32 (pos n) ≡ true
unfolding int32
number-int32 n h = lt-ltb n 2147483648 (omega arith)

no_number : all int32 (Option-to_list none) ≡ true
unfolding all Option-to_list
no_number = refl

wire-int32 : (w : Wire) → w.width ≤ 2048 → int32 w.offset ≡ true → all (within 1 1023) (port_numbers w) ≡ true → all_int32 (wire_options w) ≡ true
unfolding setting port_numbers Option-to_list
wire-int32 w h k p =
    all_of _ (wire_options w)
    (wire-each (λ o. all int32 (Option-to_list o.1) ≡ true) w no_number
    (λ q e. setting-int32 (pos q.1) (number-int32 q.1 (omega (arith, within-high 1 1023 q.1 (all_first (within 1 1023) q.1 [] (rw e at p))))))
    no_number (setting-int32 w.offset k) (setting-int32 (pos w.width) (number-int32 w.width (omega arith))))

pub wire-width : (w : Wire) → own_wire w ≡ true → w.width ≤ 2048
wire-width w h = leb-true w.width 2048 (own-wire w h).narrow

in-range : (lo hi n : ℕ) → lo ≤ n → n ≤ hi → in_range lo hi (pos n) ≡ true
unfolding in_range
in-range lo hi n h k = within-yes lo hi n h k

wire-good : (w : Wire) → own_wire w ≡ true → good_wire (wire_options w) ≡ true
unfolding good_wire good_options port_numbers
wire-good w h =
    let p : Says (wire_options w) w.width w.offset w.upto w.port w.signed = wire-says w in
    let q : OwnWire w = own-wire w h in
    rw (wire-back w, p.once-each, wire-int32 w (wire-width w h) q.offset q.port, p.width, p.port, one-port w.port, port-range w.port q.port, in-range 0 2048 w.width (omega arith) (wire-width w h)) q.last_bit

pub wire-fine : (ws : Wires) (w : Wire) → own_wire w ≡ true → new_ports ws w ≡ true → good_wire (wire_options w) && new_port ws (wire_options w) ≡ true
unfolding new_port new_ports
wire-fine ws w h n = rw (wire-good w h, wire-back w) n

-- ---- a memory, from its last option on: width, size, offset

record SaysMemory (os : List Opt) (wd sz : ℕ) (of : ℤ) : Type 0 where
  width : number_or (pos 1) "width" os ≡ pos wd
  size : number_or (pos 0) "size" os ≡ pos sz
  offset : number_or (pos 0) "offset" os ≡ of
  once-each : once os ≡ true

memory-width-says : (wd : ℕ) → SaysMemory (width_part wd) wd 0 (pos 0) × (has "size" (width_part wd) ≡ false) × (has "offset" (width_part wd) ≡ false)
unfolding bytes_open numbers_open setting unless
memory-width-says wd = by-test (eqb wd 1)
    (λ t. rw t (record { width = ap pos (sym (eqb-true wd 1 t)); size = refl; offset = refl; once-each = refl }, refl, refl))
    (λ t. rw t (record { width = refl; size = refl; offset = refl; once-each = refl }, refl, refl))

size-says : (os : List Opt) (wd sz : ℕ) → SaysMemory os wd 0 (pos 0) → has "size" os ≡ false → has "offset" os ≡ false
    → SaysMemory (unless (eqb sz 0) (setting "size" (pos sz)) ++ os) wd sz (pos 0) × (has "offset" (unless (eqb sz 0) (setting "size" (pos sz)) ++ os) ≡ false)
unfolding bytes_open numbers_open setting
size-says os wd sz p e f =
    by-unless (λ xs. SaysMemory xs wd sz (pos 0) × (has "offset" xs ≡ false)) (eqb sz 0) (setting "size" (pos sz)) os
    (λ t. (rw (eqb-true sz 0 t) p, f))
    (λ t. (record { width = p.width; size = refl; offset = p.offset; once-each = rw (e, p.once-each) }, f))

memory-offset-says : (os : List Opt) (wd sz : ℕ) (of : ℤ) → SaysMemory os wd sz (pos 0) → has "offset" os ≡ false
    → SaysMemory (unless (in_range 0 0 of) (setting "offset" of) ++ os) wd sz of
unfolding bytes_open numbers_open setting
memory-offset-says os wd sz of p e =
    by-unless (λ xs. SaysMemory xs wd sz of) (in_range 0 0 of) (setting "offset" of) os
    (λ t. rw (← in-zero of t) p)
    (λ t. record { width = p.width; size = p.size; offset = refl; once-each = rw (e, p.once-each) })

memory-says : (m : Memory) → SaysMemory (memory_options m) m.width m.size m.offset
unfolding memory_options
memory-says m =
    let a = memory-width-says m.width in
    let b = size-says (width_part m.width) m.width m.size a.0 a.1 a.2 in
    simp append_assoc (memory-offset-says _ m.width m.size m.offset b.0 b.1)

pub memory-back : (m : Memory) → memory_of (memory_options m) ≡ m
unfolding memory_of
memory-back m =
    let p : SaysMemory (memory_options m) m.width m.size m.offset = memory-says m in
    rw (p.width, p.size, p.offset)

-- ---- the rules of a memory

memory-int32 : (m : Memory) → m.width ≤ 2048 → m.size ≤ 2147483647 → int32 m.offset ≡ true → all_int32 (memory_options m) ≡ true
unfolding setting
memory-int32 m h k e =
    all_of _ (memory_options m)
    (memory-each (λ o. all int32 (Option-to_list o.1) ≡ true) m (setting-int32 m.offset e) (setting-int32 (pos m.size) (number-int32 m.size k)) (setting-int32 (pos m.width) (number-int32 m.width (omega arith))))

pub memory-fine : (m : Memory) → fine_memory m ≡ true → good_memory (memory_options m) ≡ true
unfolding good_memory good_options fine_memory
memory-fine m h =
    let p : SaysMemory (memory_options m) m.width m.size m.offset = memory-says m in
    let q = test_at (within 1 2048 m.width) (leb m.size 2147483647 ∷ int32 m.offset ∷ []) h in
    let a : 1 ≤ m.width = within_low 1 2048 m.width (q 0) in
    let b : m.width ≤ 2048 = within-high 1 2048 m.width (q 0) in
    let c : m.size ≤ 2147483647 = leb-true m.size 2147483647 (q 1) in
    rw (p.once-each, memory-int32 m b c (q 2), p.width, p.size, in-range 1 2048 m.width a b, in-range 0 2147483647 m.size (omega arith) c)
