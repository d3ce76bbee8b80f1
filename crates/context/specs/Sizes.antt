-- The sizes of a statement and of the past, field by field from the rules, and the limit of each.
use Rattle.std.specs.Prelude.{ℕ, ◌+◌, ◌≤◌, ◌≡◌, Bool, cond, ◌||◌, List, [], ◌∷◌, eqb, ltb, length}
use Rattle.rules.specs.Limits.{most_modules, most_wires, most_memories, most_cells, most_parameters, most_attributes, most_cell_connections, most_connections, most_processes, most_steps, most_step_signals, most_signal_bits, most_value_bits, most_string_bytes, name_room}
use Rattle.rules.specs.Bytes.{any}
use Rattle.rules.specs.Statements.{Statement, an_attribute, a_module, a_parameter, a_wire, a_memory, a_cell, a_cell_parameter, a_cell_connection, a_connection, a_process, a_step, code, contents, attribute_kind, module_kind, parameter_kind, wire_kind, memory_kind, cell_kind, cell_parameter_kind, cell_connection_kind, connection_kind, process_kind, step_kind}
use Rattle.rules.specs.Judgement.{Past, sum, count, signals_of_step, signal_size, value_size, string_size, name_size}
use Rattle.context.specs.declared.sizes.Sizes.{Sizes}

-- each size of the rules, taken in one way
unfoldable pub sizes_by : ((Statement → ℕ) → ℕ) → Sizes
sizes_by f =
    record {
      modules = f (count (a_module ∷ []));
      wires = f (count (a_wire ∷ []));
      memories = f (count (a_memory ∷ []));
      cells = f (count (a_cell ∷ []));
      parameters = f (count (a_parameter ∷ a_cell_parameter ∷ []));
      attributes = f (count (an_attribute ∷ []));
      ports = f (count (a_cell_connection ∷ []));
      connections = f (count (a_connection ∷ []));
      processes = f (count (a_process ∷ []));
      steps = f (count (a_step ∷ []));
      step_signals = f signals_of_step;
      signal_bits = f signal_size;
      value_bits = f value_size;
      string_bytes = f string_size;
      name_bytes = f name_size;
    }

-- the sizes of one statement; their sums over the past
unfoldable pub sizes_of : Statement → Sizes
sizes_of s = sizes_by (λ size. size s)

unfoldable pub sums_of : Past → Sizes
sums_of ss = sizes_by (λ size. sum size ss)

-- the sums u with the sizes d of one statement more
unfoldable pub plus_of : Sizes → Sizes → Sizes
plus_of u d =
    record {
      modules = d.modules + u.modules;
      wires = d.wires + u.wires;
      memories = d.memories + u.memories;
      cells = d.cells + u.cells;
      parameters = d.parameters + u.parameters;
      attributes = d.attributes + u.attributes;
      ports = d.ports + u.ports;
      connections = d.connections + u.connections;
      processes = d.processes + u.processes;
      steps = d.steps + u.steps;
      step_signals = d.step_signals + u.step_signals;
      signal_bits = d.signal_bits + u.signal_bits;
      value_bits = d.value_bits + u.value_bits;
      string_bytes = d.string_bytes + u.string_bytes;
      name_bytes = d.name_bytes + u.name_bytes;
    }

-- each limit, and what it limits
unfoldable pub limits : Sizes → List (ℕ × ℕ)
limits u =
    (most_modules, u.modules)
    ∷ (most_wires, u.wires)
    ∷ (most_memories, u.memories)
    ∷ (most_cells, u.cells)
    ∷ (most_parameters, u.parameters)
    ∷ (most_attributes, u.attributes)
    ∷ (most_cell_connections, u.ports)
    ∷ (most_connections, u.connections)
    ∷ (most_processes, u.processes)
    ∷ (most_steps, u.steps)
    ∷ (most_step_signals, u.step_signals)
    ∷ (most_signal_bits, u.signal_bits)
    ∷ (most_value_bits, u.value_bits)
    ∷ (most_string_bytes, u.string_bytes)
    ∷ (name_room, u.name_bytes)
    ∷ []

-- whether a size is above its limit
unfoldable pub exceeds : Sizes → Bool
exceeds u = any (λ z. ltb z.0 z.1) (limits u)

-- each size is at most its limit
pub record Within (u : Sizes) : Type 0 where
  pub modules : u.modules ≤ most_modules
  pub wires : u.wires ≤ most_wires
  pub memories : u.memories ≤ most_memories
  pub cells : u.cells ≤ most_cells
  pub parameters : u.parameters ≤ most_parameters
  pub attributes : u.attributes ≤ most_attributes
  pub ports : u.ports ≤ most_cell_connections
  pub connections : u.connections ≤ most_connections
  pub processes : u.processes ≤ most_processes
  pub steps : u.steps ≤ most_steps
  pub step-signals : u.step_signals ≤ most_step_signals
  pub signal-bits : u.signal_bits ≤ most_signal_bits
  pub value-bits : u.value_bits ≤ most_value_bits
  pub string-bytes : u.string_bytes ≤ most_string_bytes
  pub name-bytes : u.name_bytes ≤ name_room

-- each size is at most n
pub record AtMost (n : ℕ) (u : Sizes) : Type 0 where
  pub modules : u.modules ≤ n
  pub wires : u.wires ≤ n
  pub memories : u.memories ≤ n
  pub cells : u.cells ≤ n
  pub parameters : u.parameters ≤ n
  pub attributes : u.attributes ≤ n
  pub ports : u.ports ≤ n
  pub connections : u.connections ≤ n
  pub processes : u.processes ≤ n
  pub steps : u.steps ≤ n
  pub step-signals : u.step_signals ≤ n
  pub signal-bits : u.signal_bits ≤ n
  pub value-bits : u.value_bits ≤ n
  pub string-bytes : u.string_bytes ≤ n
  pub name-bytes : u.name_bytes ≤ n

-- the sizes of one statement of a kind that holds so many signals, bits and bytes
unfoldable pub kind_sizes : (k c g v t n : ℕ) → Sizes
kind_sizes k c g v t n =
    record {
      modules = cond (eqb k module_kind) 1 0;
      wires = cond (eqb k wire_kind) 1 0;
      memories = cond (eqb k memory_kind) 1 0;
      cells = cond (eqb k cell_kind) 1 0;
      parameters = cond (eqb k parameter_kind || eqb k cell_parameter_kind) 1 0;
      attributes = cond (eqb k attribute_kind) 1 0;
      ports = cond (eqb k cell_connection_kind) 1 0;
      connections = cond (eqb k connection_kind) 1 0;
      processes = cond (eqb k process_kind) 1 0;
      steps = cond (eqb k step_kind) 1 0;
      step_signals = cond (eqb k step_kind) c 0;
      signal_bits = g;
      value_bits = v;
      string_bytes = t;
      name_bytes = n;
    }

-- r is the sizes of each statement of this kind that holds so many signals, bits and bytes
abbrev pub KindSizesAre : ℕ → ℕ → ℕ → ℕ → ℕ → ℕ → Sizes → Type 0
KindSizesAre k c g v t n r =
    (s : Statement)
    → k ≡ code (contents s).kind
    → c ≡ length (contents s).signals
    → g ≡ signal_size s
    → v ≡ value_size s
    → t ≡ string_size s
    → n ≡ name_size s
    → sizes_of s ≡ r
