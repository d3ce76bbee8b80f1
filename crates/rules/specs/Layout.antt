-- The design memory: where the statements of a file and the standing renames lie in the lent tables.
-- Source: document 01, "Sizes", for how long the tables are, and refusal 3. How they are laid out is a choice: document
-- 01 asks that they hold the design and the standing renames, unused room zero.
use Rattle.std.specs.Prelude.{ℕ, ◌+◌, ◌-◌, ◌*◌, ◌≡◌, cond, length, replicate}
use mathlib.Core.List.{List, [], ◌∷◌, ◌++◌, map, flat_map, zip, foldl}
use Rattle.std.proofs.Math.Option.{Option-elim}
use Rattle.rules.specs.Limits.{names_length, strings_length, bits_length, wires_length, rows_length}
use Rattle.rules.specs.Tokens.{Name, Digit, S0, S1, Sx, Sz, Sm, Sa}
use Rattle.rules.specs.Statements.{Sort, plain, signed, real, Constant, value, integer, string, digits_of, bytes_of, Bit, digit, bit, Direction, input, output, inout, Wire, Statement, autoidx-stmt, attr-stmt, module-stmt, param-stmt, wire-stmt, memory-stmt, cell-stmt, cell-param-stmt, cell-conn-stmt, conn-stmt, proc-stmt, step-stmt, end-stmt, Signal, step_code, a_module, code, contents}
use Rattle.rules.specs.Signals.{twos_complement}
use Rattle.rules.specs.Judgement.{count}
use Rattle.rules.specs.Reading.{read_any, accepted}
use Rattle.rules.specs.Design.{design}
use Rattle.rules.specs.Session.{Rename, Call, plain_session}

-- five tables, and the session card: renames standing, name room used
pub record Memory : Type 0 where
  pub names : List ℕ
  pub strings : List ℕ
  pub bits : List ℕ
  pub wires : List ℕ
  pub rows : List ℕ
  pub renames : ℕ
  pub room : ℕ

-- unused room is zero; a row has 8 columns
unfoldable pub padded : ℕ → List ℕ → List ℕ
padded n xs = xs ++ replicate (n - length xs) 0

unfoldable pub row : List ℕ → List ℕ
row xs = padded 8 xs

-- What the tables hold, unused room apart: bytes, bits, rows; and how many modules they open
pub record Rooms : Type 0 where
  pub names : List ℕ
  pub strings : List ℕ
  pub bits : List ℕ
  pub wires : List (List ℕ)
  pub rows : List (List ℕ)
  pub modules : ℕ

abbrev pub empty : Rooms
empty = record { names = []; strings = []; bits = []; wires = []; rows = []; modules = 0 }

-- How much of them is used: where the next statement's parts go
pub record Used : Type 0 where
  pub names : ℕ
  pub strings : ℕ
  pub bits : ℕ
  pub wires : ℕ
  pub rows : ℕ
  pub modules : ℕ

unfoldable pub used : Rooms → Used
used R =
    record {
      names = length R.names;
      strings = length R.strings;
      bits = length R.bits;
      wires = length R.wires;
      rows = length R.rows;
      modules = R.modules;
    }

-- names, strings, and the bits of values and of signals, one code a bit
unfoldable pub name_bytes : Statement → List ℕ
name_bytes s = flat_map (λ n. n) (contents s).names

unfoldable pub bytes_of_string : Statement → List ℕ
bytes_of_string s = flat_map bytes_of (contents s).constants

unfoldable pub digit_code : Digit → ℕ
digit_code S0 = 0
digit_code S1 = 1
digit_code Sx = 2
digit_code Sz = 3
digit_code Sm = 4
digit_code Sa = 5

-- (a wire's number in its module is below 512, a bit's in its wire below 2,048)
unfoldable pub bit_code : Bit → ℕ
bit_code (digit d) = digit_code d
bit_code (bit w i) = 6 + 2048 * w + i

unfoldable pub bit_codes : Statement → List ℕ
bit_codes s = flat_map (λ c. map digit_code (digits_of c)) (contents s).constants ++ flat_map (map bit_code) (contents s).signals

-- a wire's row: its module, name, width, offset, flags (1 upto, 2 signed; 4 input, 8 output, 12 inout) and port number
unfoldable pub direction_code : Direction → ℕ
direction_code input = 4
direction_code output = 8
direction_code inout = 12

unfoldable pub flags : Wire → ℕ
flags w = cond w.upto 1 0 + cond w.signed 2 0 + Option-elim w.port 0 (λ p. direction_code p.0)

unfoldable pub wire_row : Used → Name × Wire → List ℕ
wire_row u x =
    row ((u.modules - 1)
    ∷ u.names
    ∷ length x.0
    ∷ x.1.width
    ∷ twos_complement x.1.offset
    ∷ flags x.1
    ∷ Option-elim x.1.port 0 (λ p. p.1)
    ∷ [])

unfoldable pub wire_rows : Used → Statement → List (List ℕ)
wire_rows u s = map (wire_row u) (zip (contents s).names (contents s).wires)

-- the kinds of constants
abbrev pub value_constant : ℕ
value_constant = 1

abbrev pub integer_constant : ℕ
integer_constant = 2

abbrev pub string_constant : ℕ
string_constant = 3

-- three columns of a constant: its kind, where it starts and its length; or its kind and the integer
unfoldable pub constant_columns : Used → Constant → List ℕ
constant_columns u (value ds) = value_constant ∷ u.bits ∷ length ds ∷ []
constant_columns u (integer i) = integer_constant ∷ twos_complement i ∷ 0 ∷ []
constant_columns u (string s) = string_constant ∷ u.strings ∷ length s ∷ []

unfoldable pub sort_code : Sort → ℕ
sort_code plain = 0
sort_code signed = 1
sort_code real = 2

-- (the signals of a line in a process are equally wide)
unfoldable pub each_length : List Signal → ℕ
each_length [] = 0
each_length (x ∷ xs) = length x

-- the columns of a statement behind its kind: where each part starts and its length, and its numbers
unfoldable pub columns : Used → Statement → List ℕ
columns u (autoidx-stmt i) = twos_complement i ∷ []
columns u (attr-stmt n c) = u.names ∷ length n ∷ constant_columns u c
columns u (module-stmt n) = u.names ∷ length n ∷ []
columns u (param-stmt n c) = u.names ∷ length n ∷ Option-elim c [] (constant_columns u)
columns u (wire-stmt w n) = u.names ∷ length n ∷ u.wires ∷ []
columns u (memory-stmt m n) = u.names ∷ length n ∷ m.width ∷ m.size ∷ twos_complement m.offset ∷ []
columns u (cell-stmt t n) = u.names ∷ length t ∷ (u.names + length t) ∷ length n ∷ []
columns u (cell-param-stmt o n c) = u.names ∷ length n ∷ constant_columns u c ++ sort_code o ∷ []
columns u (cell-conn-stmt n s) = u.names ∷ length n ∷ u.bits ∷ length s ∷ []
columns u (conn-stmt s t) = u.bits ∷ length s ∷ (u.bits + length s) ∷ length t ∷ []
columns u (proc-stmt n) = u.names ∷ length n ∷ []
columns u (step-stmt p xs) = step_code p ∷ u.bits ∷ each_length xs ∷ length xs ∷ []
columns u end-stmt = []

unfoldable pub statement_row : Used → Statement → List ℕ
statement_row u s = row (code (contents s).kind ∷ columns u s)

-- One statement more, and a list of them
unfoldable pub put : Rooms → Statement → Rooms
put R s =
    record {
      names = R.names ++ name_bytes s;
      strings = R.strings ++ bytes_of_string s;
      bits = R.bits ++ bit_codes s;
      wires = R.wires ++ wire_rows (used R) s;
      rows = R.rows ++ statement_row (used R) s ∷ [];
      modules = R.modules + count (a_module ∷ []) s;
    }

unfoldable pub put_all : Rooms → List Statement → Rooms
put_all R ss = foldl put R ss

-- the kind of a standing rename's row, behind those of statements
abbrev pub rename_kind : ℕ
rename_kind = 14

-- A standing rename's row: a kind of its own, its new name, its module and wire number
unfoldable pub rename_row : ℕ → Rename → List ℕ
rename_row at r = row (rename_kind ∷ at ∷ length r.new_name ∷ r.module_number ∷ r.wire_number ∷ [])

unfoldable pub put_rename : Rooms → Rename → Rooms
put_rename R r =
    record {
      names = R.names ++ r.new_name;
      strings = R.strings;
      bits = R.bits;
      wires = R.wires;
      rows = R.rows ++ rename_row (length R.names) r ∷ [];
      modules = R.modules;
    }

unfoldable pub put_renames : Rooms → List Rename → Rooms
put_renames R rs = foldl put_rename R rs

unfoldable pub rooms : List Statement → List Rename → Rooms
rooms ss rs = put_renames (put_all empty ss) rs

-- Design memory holds the design with the standing renames and the card
unfoldable pub memory : Rooms → ℕ → Memory
memory R standing =
    record {
      names = padded names_length R.names;
      strings = padded strings_length R.strings;
      bits = padded bits_length R.bits;
      wires = padded wires_length (flat_map (λ r. r) R.wires);
      rows = padded rows_length (flat_map (λ r. r) R.rows);
      renames = standing;
      room = length R.names;
    }

unfoldable pub layout : List Statement → List Rename → Memory
layout ss rs = memory (rooms ss rs) (length rs)

-- 3: design memory that no text of any length, read under these rules, and no accepted renames after it leave. This is memory that
-- some of them leave
pub record Reachable (m : Memory) : Type 0 where
  pub file : List ℕ
  pub statements : List Statement
  pub reads : read_any file ≡ accepted statements
  pub calls : List Call
  pub leaves : layout statements (plain_session (design statements) [] calls).1 ≡ m

unfoldable pub layout_open : Unit {0}
unfolding flat_map zip Option-elim padded row used name_bytes bytes_of_string digit_code bit_code bit_codes direction_code flags wire_row wire_rows constant_columns sort_code each_length columns statement_row put put_all rename_row put_rename put_renames rooms memory layout
layout_open = tt
