-- The limits, each by its name: how much a design may hold, and how long the lent tables are.
-- Source: document 01, "Sizes". The rows are those of all statements and 64 renames.
use Rattle.std.specs.Prelude.{ℕ, ◌*◌}

-- how much a design may hold
abbrev pub most_modules : ℕ
most_modules = 32

abbrev pub most_wires : ℕ
most_wires = 512

abbrev pub most_memories : ℕ
most_memories = 32

abbrev pub most_cells : ℕ
most_cells = 256

abbrev pub most_parameters : ℕ
most_parameters = 1024

abbrev pub most_attributes : ℕ
most_attributes = 1024

abbrev pub most_cell_connections : ℕ
most_cell_connections = 1024

abbrev pub most_connections : ℕ
most_connections = 512

abbrev pub most_processes : ℕ
most_processes = 64

-- lines inside processes, `end` and attributes apart, and the signals in them
abbrev pub most_steps : ℕ
most_steps = 1024

abbrev pub most_step_signals : ℕ
most_step_signals = 4096

-- switches in one another, the root's counted
abbrev pub most_switches : ℕ
most_switches = 16

abbrev pub most_signal_bits : ℕ
most_signal_bits = 8192

abbrev pub most_value_bits : ℕ
most_value_bits = 8192

abbrev pub most_string_bytes : ℕ
most_string_bytes = 8192

abbrev pub name_room : ℕ
name_room = 16384

abbrev pub most_renames : ℕ
most_renames = 64

-- a file, and a written text, in bytes; one byte more, where writing stops to count
abbrev pub longest_file : ℕ
longest_file = 32768

abbrev pub past_text : ℕ
past_text = 32769

-- a name in bytes; the bits of a wire, of a memory's word, of a value and of a part of a signal
abbrev pub longest_name : ℕ
longest_name = 255

abbrev pub most_width : ℕ
most_width = 2048

-- the tables of a design, in elements: bytes of names and strings, words of bits, rows of eight words of wires and of statements and renames
abbrev pub names_length : ℕ
names_length = 16384

abbrev pub strings_length : ℕ
strings_length = 8192

abbrev pub bits_length : ℕ
bits_length = 16384

abbrev pub wires_length : ℕ
wires_length = 8 * most_wires

abbrev pub most_statements : ℕ
most_statements = 6881

abbrev pub most_rows : ℕ
most_rows = 6945

abbrev pub rows_length : ℕ
rows_length = 8 * most_rows

-- the tables of one call: tokens, four words a byte of the file; bits of all signals of a line and the parts of one at each depth
abbrev pub tokens_length : ℕ
tokens_length = 131072

abbrev pub scratch_length : ℕ
scratch_length = 43008

-- rows of eight words that a number of 64 bits reaches by far
abbrev pub many_rows : ℕ
many_rows = 8589934592
