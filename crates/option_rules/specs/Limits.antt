-- What the options say of a wire and of a memory, where the rules allow them.
use Rattle.std.specs.Prelude.{ℕ, ◌+◌, ◌≡◌, List, [], ◌∷◌, Bool, true, false, cond, ◌&&◌, length, ℤ, leb, Option as Optional, Some, None}
use Rattle.std.proofs.Math.Option.{Option, Option-elim}
use Rattle.rules.specs.Bytes.{all}
use Rattle.rules.specs.Statements.{Opt, Direction, input, output, inout}
use Rattle.rules.specs.Numbers.{in_range, port_of, wire_of, memory_of, good_wire, good_memory}
use Rattle.rules.specs.Signals.{twos_complement}
use Rattle.rules.specs.Layout.{direction_code, flags}
use Rattle.tokens.specs.Rows.{integer_in}
use Rattle.tokens.specs.declared.Integer.{Integer}
use Rattle.options.specs.Holds.{Holds}
use Rattle.options.specs.declared.Options.{Options}
use Rattle.option_rules.specs.declared.Port.{Port}
use Rattle.option_rules.specs.declared.WireRules.{WireRules}
use Rattle.option_rules.specs.declared.MemoryRules.{MemoryRules}

-- ports with their numbers, and one more in front if it is given
abbrev pub Ports : Type 0
Ports = List (Direction × ℤ)

unfoldable pub with_port : List ℕ → Direction → Optional Integer → Ports → Ports
with_port f d (Some z) ps = (d, integer_in f z) ∷ ps
with_port f d None ps = ps

unfoldable pub ports_in : List ℕ → Options → Ports
ports_in f o = with_port f input o.input (with_port f output o.output (with_port f inout o.inout []))

unfoldable pub ports_good : Ports → Bool
ports_good ps = leb (length ps) 1 && all (λ p. in_range 1 1023 p.1) ps

-- the code and the number of the port, 0 without
abbrev pub port_code : Option (Direction × ℕ) → ℕ
port_code p = Option-elim p 0 (λ p. direction_code p.0)

abbrev pub port_number : Option (Direction × ℕ) → ℕ
port_number p = Option-elim p 0 (λ p. p.1)

abbrev pub PortIs : Ports → Optional Port → Type 0
PortIs ps (Some p) = (ports_good ps ≡ true) × (port_code (port_of ps) ≡ p.code) × (port_number (port_of ps) ≡ p.number)
PortIs ps None = ports_good ps ≡ false

abbrev pub JoinedIs : List ℕ → Optional Integer → ℕ → Optional Port → Optional Port → Type 0
JoinedIs f s k behind r = (d : Direction) (ps : Ports) → direction_code d ≡ k → PortIs ps behind → PortIs (with_port f d s ps) r

-- a wire's flags without its port
unfoldable pub flag_bits : (upto signed : Bool) → ℕ
flag_bits upto signed = cond upto 1 0 + cond signed 2 0

-- Good options of a wire, and its columns
pub record WireGood (os : List Opt) (w t k n : ℕ) : Type 0 where
  pub good : good_wire os ≡ true
  pub width : (wire_of os).width ≡ w
  pub offset : twos_complement (wire_of os).offset ≡ t
  pub flags : flags (wire_of os) ≡ k
  pub port : port_number (wire_of os).port ≡ n

abbrev pub WireSays : List Opt → Optional WireRules → Type 0
WireSays os (Some r) = WireGood os r.width r.offset r.flags r.port
WireSays os None = good_wire os ≡ false

-- Good options of a memory, and its columns
pub record MemoryGood (os : List Opt) (w n t : ℕ) : Type 0 where
  pub good : good_memory os ≡ true
  pub width : (memory_of os).width ≡ w
  pub size : (memory_of os).size ≡ n
  pub offset : twos_complement (memory_of os).offset ≡ t

abbrev pub MemorySays : List Opt → Optional MemoryRules → Type 0
MemorySays os (Some r) = MemoryGood os r.width r.size r.offset
MemorySays os None = good_memory os ≡ false

-- (whatever options were written)
abbrev pub WireIs : List ℕ → Options → Optional WireRules → Type 0
WireIs f o r = (os : List Opt) → Holds f o os → WireSays os r

abbrev pub MemoryIs : List ℕ → Options → Optional MemoryRules → Type 0
MemoryIs f o r = (os : List Opt) → Holds f o os → MemorySays os r
