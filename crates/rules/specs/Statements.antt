-- What a line says: a statement as it is written, which is its shape, and as it is meant.
-- Source: 004's rules that end in -stmt, and document 01, "Objects" and "Signals", for what they mean. All lines
-- inside a process have one form.
use Rattle.std.specs.Prelude.{ℕ, Bool, ℤ, eqb}
use mathlib.Core.List.{List, [], ◌∷◌, map, Option-to_list}
use Rattle.std.proofs.Math.Option
use Rattle.std.proofs.Math.Option.{Option}
use Rattle.rules.specs.Tokens.{Name, Digit, Literal}

-- a cell parameter keeps `signed` or `real`
pub data Sort : Type 0 where
  plain signed real : Sort

-- What a line inside a process says, by its word; of a sync line by what it waits for
pub data Step : Type 0 where
  assign update switch case low high posedge negedge edge global init always : Step

-- the codes of steps, as the rows of a design have them: the number of the word among the keywords
abbrev pub assign_step : ℕ
assign_step = 19

abbrev pub switch_step : ℕ
switch_step = 20

abbrev pub case_step : ℕ
case_step = 21

abbrev pub global_step : ℕ
global_step = 23

abbrev pub init_step : ℕ
init_step = 24

abbrev pub always_step : ℕ
always_step = 25

abbrev pub low_step : ℕ
low_step = 26

abbrev pub high_step : ℕ
high_step = 27

abbrev pub posedge_step : ℕ
posedge_step = 28

abbrev pub negedge_step : ℕ
negedge_step = 29

abbrev pub edge_step : ℕ
edge_step = 30

abbrev pub update_step : ℕ
update_step = 31

-- (by this number steps are compared)
unfoldable pub step_code : Step → ℕ
step_code assign = assign_step
step_code switch = switch_step
step_code case = case_step
step_code global = global_step
step_code init = init_step
step_code always = always_step
step_code low = low_step
step_code high = high_step
step_code posedge = posedge_step
step_code negedge = negedge_step
step_code edge = edge_step
step_code update = update_step

-- Each statement is one line. C: its constants, S: its signals, W and M: what it says of a wire and of a memory
pub data Stmt (C S W M : Type 0) : Type 0 where
  autoidx-stmt : ℤ → Stmt C S W M
  attr-stmt : Name → C → Stmt C S W M
  module-stmt : Name → Stmt C S W M
  param-stmt : Name → Option C → Stmt C S W M
  wire-stmt : W → Name → Stmt C S W M
  memory-stmt : M → Name → Stmt C S W M
  cell-stmt : (type name : Name) → Stmt C S W M
  cell-param-stmt : Sort → Name → C → Stmt C S W M
  cell-conn-stmt : Name → S → Stmt C S W M
  conn-stmt : S → S → Stmt C S W M
  proc-stmt : Name → Stmt C S W M
  step-stmt : Step → List S → Stmt C S W M
  end-stmt : Stmt C S W M

infixr 20 ◌below◌
-- As written: a signal is a constant, a wire by its name, `[h]` or `[h:l]` of a signal, or a bundle of signals, its last member first
mutual
  pub data Sig : Type 0 where
    constant : Literal → Sig
    wire : Name → Sig
    slice : Sig → (h : ℤ) → (l : Option ℤ) → Sig
    bundle : Sigs → Sig

  pub data Sigs : Type 0 where
    nothing : Sigs
    ◌below◌ : Sig → Sigs → Sigs

-- an option of a wire or a memory: its word, and its number if it takes one
abbrev pub Opt : Type 0
Opt = List ℕ × Option ℤ

-- (of a wire and of a memory its options, the last one first)
abbrev pub Shape : Type 0
Shape = Stmt Literal Sig (List Opt) (List Opt)

-- As meant: attribute and parameter constants keep their kind; a value has all its digits, lowest first
pub data Constant : Type 0 where
  value : List Digit → Constant
  integer : ℤ → Constant
  string : List ℕ → Constant

-- the digits of a value, the bytes of a string
unfoldable pub digits_of : Constant → List Digit
digits_of (value ds) = ds
digits_of (integer i) = []
digits_of (string s) = []

unfoldable pub bytes_of : Constant → List ℕ
bytes_of (value ds) = []
bytes_of (integer i) = []
bytes_of (string s) = s

-- A signal means a list of bits, lowest first, each a constant bit or a bit of a wire, which is named by its number in its module
pub data Bit : Type 0 where
  digit : Digit → Bit
  bit : (wire index : ℕ) → Bit

abbrev pub Signal : Type 0
Signal = List Bit

pub data Direction : Type 0 where
  input output inout : Direction

-- Wire: width, offset, `upto`, `signed`, at most one of input, output, inout with a port number
pub record Wire : Type 0 where
  pub width : ℕ
  pub offset : ℤ
  pub upto : Bool
  pub signed : Bool
  pub port : Option (Direction × ℕ)

pub record Memory : Type 0 where
  pub width : ℕ
  pub size : ℕ
  pub offset : ℤ

abbrev pub Statement : Type 0
Statement = Stmt Constant Signal Wire Memory

pub data Kind : Type 0 where
  an_autoidx an_attribute a_module a_parameter a_wire a_memory a_cell a_cell_parameter a_cell_connection a_connection a_process an_end a_step : Kind

-- the codes of kinds, as the rows of a design have them
abbrev pub autoidx_kind : ℕ
autoidx_kind = 1

abbrev pub attribute_kind : ℕ
attribute_kind = 2

abbrev pub module_kind : ℕ
module_kind = 3

abbrev pub parameter_kind : ℕ
parameter_kind = 4

abbrev pub wire_kind : ℕ
wire_kind = 5

abbrev pub memory_kind : ℕ
memory_kind = 6

abbrev pub cell_kind : ℕ
cell_kind = 7

abbrev pub cell_parameter_kind : ℕ
cell_parameter_kind = 8

abbrev pub cell_connection_kind : ℕ
cell_connection_kind = 9

abbrev pub connection_kind : ℕ
connection_kind = 10

abbrev pub process_kind : ℕ
process_kind = 11

abbrev pub end_kind : ℕ
end_kind = 12

abbrev pub step_kind : ℕ
step_kind = 13

-- (by this number kinds are compared)
unfoldable pub code : Kind → ℕ
code an_autoidx = autoidx_kind
code an_attribute = attribute_kind
code a_module = module_kind
code a_parameter = parameter_kind
code a_wire = wire_kind
code a_memory = memory_kind
code a_cell = cell_kind
code a_cell_parameter = cell_parameter_kind
code a_cell_connection = cell_connection_kind
code a_connection = connection_kind
code a_process = process_kind
code an_end = end_kind
code a_step = step_kind

-- What stands in a statement: of its names wire references are left out, of its constants those in signals
pub record Contents (C S W M : Type 0) : Type 0 where
  pub kind : Kind
  pub names : List Name
  pub constants : List C
  pub signals : List S
  pub wires : List W
  pub memories : List M
  pub integers : List ℤ
  pub sorts : List Sort
  pub steps : List Step

module _ {C S W M : Type 0} where
  unfoldable pub holds : Kind → List Name → List C → List S → List W → List M → List ℤ → List Sort → List Step → Contents C S W M
  holds k ns cs ss ws ms zs os ps =
      record { kind = k; names = ns; constants = cs; signals = ss; wires = ws; memories = ms; integers = zs; sorts = os; steps = ps }

  unfoldable pub contents : Stmt C S W M → Contents C S W M
  contents (autoidx-stmt i) = holds an_autoidx [] [] [] [] [] (i ∷ []) [] []
  contents (attr-stmt n c) = holds an_attribute (n ∷ []) (c ∷ []) [] [] [] [] [] []
  contents (module-stmt n) = holds a_module (n ∷ []) [] [] [] [] [] [] []
  contents (param-stmt n c) = holds a_parameter (n ∷ []) (Option-to_list c) [] [] [] [] [] []
  contents (wire-stmt w n) = holds a_wire (n ∷ []) [] [] (w ∷ []) [] [] [] []
  contents (memory-stmt m n) = holds a_memory (n ∷ []) [] [] [] (m ∷ []) [] [] []
  contents (cell-stmt t n) = holds a_cell (t ∷ n ∷ []) [] [] [] [] [] [] []
  contents (cell-param-stmt o n c) = holds a_cell_parameter (n ∷ []) (c ∷ []) [] [] [] [] (o ∷ []) []
  contents (cell-conn-stmt n s) = holds a_cell_connection (n ∷ []) [] (s ∷ []) [] [] [] [] []
  contents (conn-stmt s t) = holds a_connection [] [] (s ∷ t ∷ []) [] [] [] [] []
  contents (proc-stmt n) = holds a_process (n ∷ []) [] [] [] [] [] [] []
  contents (step-stmt p ss) = holds a_step [] [] ss [] [] [] [] (p ∷ [])
  contents end-stmt = holds an_end [] [] [] [] [] [] [] []

  unfoldable pub is : Kind → Stmt C S W M → Bool
  is k s = eqb (code k) (code (contents s).kind)

-- a statement's own name is the last of its names: a cell's type stands before it
unfoldable pub own_name : List Name → Name
own_name [] = []
own_name (n ∷ []) = n
own_name (n ∷ m ∷ ns) = own_name (m ∷ ns)

-- the same statement with other contents
unfoldable pub translate : {C S W M C' S' W' M' : Type 0} → (C → C') → (S → S') → (W → W') → (M → M') → Stmt C S W M → Stmt C' S' W' M'
translate f g h k (autoidx-stmt i) = autoidx-stmt i
translate f g h k (attr-stmt n c) = attr-stmt n (f c)
translate f g h k (module-stmt n) = module-stmt n
translate f g h k (param-stmt n c) = param-stmt n (Option.map f c)
translate f g h k (wire-stmt w n) = wire-stmt (h w) n
translate f g h k (memory-stmt m n) = memory-stmt (k m) n
translate f g h k (cell-stmt t n) = cell-stmt t n
translate f g h k (cell-param-stmt o n c) = cell-param-stmt o n (f c)
translate f g h k (cell-conn-stmt n s) = cell-conn-stmt n (g s)
translate f g h k (conn-stmt s t) = conn-stmt (g s) (g t)
translate f g h k (proc-stmt n) = proc-stmt n
translate f g h k (step-stmt p ss) = step-stmt p (map g ss)
translate f g h k end-stmt = end-stmt

unfoldable pub statements_open : Unit {0}
unfolding Option-to_list digits_of bytes_of step_code code holds contents is own_name translate
statements_open = tt
