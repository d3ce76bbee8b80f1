-- The one written text, and what the program writes.
-- Source: document 01, "The one written text", and the end of "Sizes" for the program.
use Rattle.std.specs.Prelude.{ℕ, zero, suc, ◌+◌, ◌-◌, ◌*◌, ◌/◌, ◌%◌, Bool, true, false, not, cond, ◌&&◌, ◌||◌, length, replicate, drop, ℤ, pos, negsuc, ltb, eqb}
use Prim.Native.String.{String}
use mathlib.Core.List.{List, [], ◌∷◌, ◌++◌, map, flat_map, foldl, reverse, Option-to_list}
use Rattle.std.proofs.Math.Option.{Option, none, some}
use Rattle.rules.specs.Limits.{longest_file}
use Rattle.rules.specs.Bytes.{bytes, byte}
use Rattle.rules.specs.Tokens.{Digit, S0, S1, Sx, Sz, Sm, Sa, Literal, value, integer, string, Token, name, word, literal, mark}
use Rattle.rules.specs.Statements.{Sig, Sigs, constant, wire, slice, bundle, nothing, ◌below◌, Opt, Sort, plain, signed, real, Shape, Constant, Bit, digit, bit, Signal, Direction, input, output, inout, Wire, Memory, Statement, autoidx-stmt, attr-stmt, module-stmt, param-stmt, wire-stmt, memory-stmt, cell-stmt, cell-param-stmt, cell-conn-stmt, conn-stmt, proc-stmt, step-stmt, end-stmt, Step, assign, update, switch, case, low, high, posedge, negedge, edge, global, init, always, an_attribute, an_end, contents, is, translate}
use Rattle.rules.specs.Shapes.{sigs, is_mark, Scope, top, in_module, in_cell, in_process, in_tail, in_sync, in_switch, in_case}
use Rattle.rules.specs.Numbers.{in_range}
use Rattle.rules.specs.Signals.{Wires}
use Rattle.rules.specs.Judgement.{Past, outer, nested, scope, wires, Verdict, verdict, lowest}
use Rattle.rules.specs.Design.{Design, design, flatten}
use Rattle.rules.specs.Reading.{Answer, accepted, refused, read}

-- Signals: longest runs of constants (one value) and of falling bits of one wire, lowest first: digits; so many bits of a wire from
-- a bit up
pub data Run : Type 0 where
  digits : List Digit → Run
  span : (wire low count : ℕ) → Run

-- a bit below runs
unfoldable pub join : Bit → List Run → List Run
join (digit d) [] = digits (d ∷ []) ∷ []
join (digit d) (digits ds ∷ rs) = digits (d ∷ ds) ∷ rs
join (digit d) (span w l n ∷ rs) = digits (d ∷ []) ∷ span w l n ∷ rs
join (bit w i) [] = span w i 1 ∷ []
join (bit w i) (digits ds ∷ rs) = span w i 1 ∷ digits ds ∷ rs
join (bit w i) (span v l n ∷ rs) = cond (eqb w v && eqb (i + 1) l) (span w i (n + 1) ∷ rs) (span w i 1 ∷ span v l n ∷ rs)

unfoldable pub runs : Signal → List Run
runs [] = []
runs (b ∷ bs) = join b (runs bs)

-- `\a`, `\a [i]` or `\a [h:l]`; a is the first of these wires
unfoldable pub cut : Wires → (low count : ℕ) → Sig
cut [] l n = bundle nothing
cut (w ∷ ws) l n =
    cond (eqb n w.1.width) (wire w.0)
    (slice (wire w.0) (pos (l + n - 1)) (cond (eqb n 1) none (some (pos l))))

-- (the wire with number n is followed by n others)
unfoldable pub run_sig : Wires → Run → Sig
run_sig ws (digits ds) = constant (Literal.value (length ds) (reverse ds))
run_sig ws (span n l k) = cut (drop (length ws - (n + 1)) ws) l k

-- one run stands bare, none or several in `{ }`
unfoldable pub runs_sig : List Sig → Sig
runs_sig [] = bundle nothing
runs_sig (s ∷ []) = s
runs_sig (s ∷ t ∷ ss) = bundle (sigs (s ∷ t ∷ ss))

unfoldable pub sig : Wires → Signal → Sig
sig ws bs = runs_sig (map (run_sig ws) (runs bs))

-- Values with all digits
unfoldable pub literal_of : Constant → Literal
literal_of (Constant.value ds) = Literal.value (length ds) (reverse ds)
literal_of (Constant.integer i) = Literal.integer i
literal_of (Constant.string s) = Literal.string s

unfoldable pub setting : String → ℤ → Opt
setting w i = (bytes w, some i)

-- defaults left out
unfoldable pub unless : Bool → Opt → List Opt
unless true o = []
unless false o = o ∷ []

unfoldable pub direction_word : Direction → String
direction_word input = "input"
direction_word output = "output"
direction_word inout = "inout"

-- a port's option
abbrev pub port_options : Option (Direction × ℕ) → List Opt
port_options po = map (λ p. setting (direction_word p.0) (pos p.1)) (Option-to_list po)

-- Wire options in the order width, offset, upto, port, signed; memory options width, size, offset (the last one first)
unfoldable pub wire_options : Wire → List Opt
wire_options w =
    unless (not w.signed) (bytes "signed", none)
    ++ port_options w.port
    ++ unless (not w.upto) (bytes "upto", none)
    ++ unless (in_range 0 0 w.offset) (setting "offset" w.offset)
    ++ unless (eqb w.width 1) (setting "width" (pos w.width))

unfoldable pub memory_options : Memory → List Opt
memory_options m =
    unless (in_range 0 0 m.offset) (setting "offset" m.offset)
    ++ unless (eqb m.size 0) (setting "size" (pos m.size))
    ++ unless (eqb m.width 1) (setting "width" (pos m.width))

-- a statement as we write it
unfoldable pub written : Wires → Statement → Shape
written ws s = translate literal_of (sig ws) wire_options memory_options s

-- a shape's tokens
unfoldable pub number_token : ℤ → Token
number_token i = literal (integer i)

unfoldable pub word_token : String → Token
word_token w = word (bytes w)

unfoldable pub low_tokens : Option ℤ → List Token
low_tokens none = []
low_tokens (some l) = mark (byte ":") ∷ number_token l ∷ []

unfoldable mutual
  pub sig_tokens : Sig → List Token
  sig_tokens (constant c) = literal c ∷ []
  sig_tokens (wire n) = name n ∷ []
  sig_tokens (slice s h l) = sig_tokens s ++ mark (byte "[") ∷ number_token h ∷ low_tokens l ++ mark (byte "]") ∷ []
  sig_tokens (bundle ss) = mark (byte "{") ∷ sigs_tokens ss ++ mark (byte "}") ∷ []

  pub sigs_tokens : Sigs → List Token
  sigs_tokens nothing = []
  sigs_tokens (s below ss) = sigs_tokens ss ++ sig_tokens s

unfoldable pub option_tokens : List Opt → List Token
option_tokens [] = []
option_tokens (o ∷ os) = option_tokens os ++ word o.0 ∷ map number_token (Option-to_list o.1)

unfoldable pub sort_tokens : Sort → List Token
sort_tokens plain = []
sort_tokens signed = word_token "signed" ∷ []
sort_tokens real = word_token "real" ∷ []

-- the words of a step; ` , ` between compare values
unfoldable pub step_tokens : Step → List Token
step_tokens assign = word_token "assign" ∷ []
step_tokens update = word_token "update" ∷ []
step_tokens switch = word_token "switch" ∷ []
step_tokens case = word_token "case" ∷ []
step_tokens low = word_token "sync" ∷ word_token "low" ∷ []
step_tokens high = word_token "sync" ∷ word_token "high" ∷ []
step_tokens posedge = word_token "sync" ∷ word_token "posedge" ∷ []
step_tokens negedge = word_token "sync" ∷ word_token "negedge" ∷ []
step_tokens edge = word_token "sync" ∷ word_token "edge" ∷ []
step_tokens global = word_token "sync" ∷ word_token "global" ∷ []
step_tokens init = word_token "sync" ∷ word_token "init" ∷ []
step_tokens always = word_token "sync" ∷ word_token "always" ∷ []

unfoldable pub between : Step → List Token
between assign = []
between update = []
between switch = []
between case = mark (byte ",") ∷ []
between low = []
between high = []
between posedge = []
between negedge = []
between edge = []
between global = []
between init = []
between always = []

unfoldable pub list_tokens : List Token → List Sig → List Token
list_tokens c [] = []
list_tokens c (s ∷ []) = sig_tokens s
list_tokens c (s ∷ t ∷ ss) = sig_tokens s ++ c ++ list_tokens c (t ∷ ss)

unfoldable pub shape_tokens : Shape → List Token
shape_tokens (autoidx-stmt i) = word_token "autoidx" ∷ number_token i ∷ []
shape_tokens (attr-stmt n c) = word_token "attribute" ∷ name n ∷ literal c ∷ []
shape_tokens (module-stmt n) = word_token "module" ∷ name n ∷ []
shape_tokens (param-stmt n c) = word_token "parameter" ∷ name n ∷ map literal (Option-to_list c)
shape_tokens (wire-stmt os n) = word_token "wire" ∷ option_tokens os ++ name n ∷ []
shape_tokens (memory-stmt os n) = word_token "memory" ∷ option_tokens os ++ name n ∷ []
shape_tokens (cell-stmt t n) = word_token "cell" ∷ name t ∷ name n ∷ []
shape_tokens (cell-param-stmt o n c) = word_token "parameter" ∷ sort_tokens o ++ name n ∷ literal c ∷ []
shape_tokens (cell-conn-stmt n s) = word_token "connect" ∷ name n ∷ sig_tokens s
shape_tokens (conn-stmt s t) = word_token "connect" ∷ sig_tokens s ++ sig_tokens t
shape_tokens (proc-stmt n) = word_token "process" ∷ name n ∷ []
shape_tokens (step-stmt p ss) = step_tokens p ++ list_tokens (between p) ss
shape_tokens end-stmt = word_token "end" ∷ []

-- no number has leading zeros or is `-0`: the digits of n in front of ds (more turns than n are enough)
unfoldable pub decimal_onto : ℕ → ℕ → List ℕ → List ℕ
decimal_onto zero n ds = ds
decimal_onto (suc k) n ds =
    let one = (byte "0" + n % 10) ∷ ds in
    let more = decimal_onto k (n / 10) one in
    cond (ltb n 10) one more

unfoldable pub decimal_text : ℕ → List ℕ
decimal_text n = decimal_onto (suc n) n []

unfoldable pub integer_text : ℤ → List ℕ
integer_text (pos n) = decimal_text n
integer_text (negsuc n) = byte "-" ∷ decimal_text (n + 1)

unfoldable pub digit_byte : Digit → ℕ
digit_byte S0 = byte "0"
digit_byte S1 = byte "1"
digit_byte Sx = byte "x"
digit_byte Sz = byte "z"
digit_byte Sm = byte "m"
digit_byte Sa = byte "-"

-- In strings `\"`, `\\`, `\n`, `\t`, other bytes below 32 as `\` and three octal digits
unfoldable pub escaped : ℕ → List ℕ
escaped b =
    cond (eqb b (byte "\"")) (bytes "\\\"")
    (cond (eqb b (byte "\\")) (bytes "\\\\")
    (cond (eqb b 10) (bytes "\\n")
    (cond (eqb b 9) (bytes "\\t")
    (cond (ltb b 32) (byte "\\" ∷ byte "0" ∷ (byte "0" + b / 8) ∷ (byte "0" + b % 8) ∷ []) (b ∷ [])))))

unfoldable pub literal_text : Literal → List ℕ
literal_text (value w ds) = decimal_text w ++ byte "'" ∷ map digit_byte ds
literal_text (integer i) = integer_text i
literal_text (string s) = byte "\"" ∷ flat_map escaped s ++ byte "\"" ∷ []

unfoldable pub token_text : Token → List ℕ
token_text (name n) = n
token_text (word w) = w
token_text (literal c) = literal_text c
token_text (mark m) = m ∷ []

-- single spaces between tokens, but none inside of `[h:l]`
unfoldable pub tight : Token → Token → Bool
tight (name n) u = false
tight (word w) u = false
tight (literal c) u = is_mark ":" u || is_mark "]" u
tight (mark m) u = is_mark "[" (mark m) || is_mark ":" (mark m)

unfoldable pub behind : Token → List Token → List ℕ
behind t [] = []
behind t (u ∷ us) = cond (tight t u) [] (32 ∷ []) ++ token_text u ++ behind u us

unfoldable pub spaced : List Token → List ℕ
spaced [] = []
spaced (t ∷ ts) = token_text t ++ behind t ts

-- Two spaces a level
unfoldable pub level : Scope → ℕ
level top = 0
level in_module = 1
level in_cell = 2
level in_process = 2
level in_tail = 2
level in_sync = 3
level (in_switch k) = 3 + 2 * k
level (in_case k) = 4 + 2 * k

-- (`end` stands at the level of the line that it closes; a case stands in its switch, and a sync in its process)
unfoldable pub holder : Scope → Step → Scope
holder p assign = p
holder p update = p
holder p switch = p
holder p case = in_switch (nested p)
holder p low = in_tail
holder p high = in_tail
holder p posedge = in_tail
holder p negedge = in_tail
holder p edge = in_tail
holder p global = in_tail
holder p init = in_tail
holder p always = in_tail

unfoldable pub indent : Scope → Statement → ℕ
indent p s = cond (is an_end s) (level (outer p)) (level (foldl holder p (contents s).steps))

-- attributes right before their object at its level
unfoldable pub object : Statement → List Statement → Statement
object s [] = s
object s (t ∷ ts) = let r = object t ts in cond (is an_attribute s) r s

-- line end 10, names as they are now
unfoldable pub line_text : ℕ → Past → Statement → List ℕ
line_text l ss s = replicate (2 * l) 32 ++ spaced (shape_tokens (written (wires ss) s))

unfoldable pub text_from : Past → List Statement → List ℕ
text_from ss [] = []
text_from ss (s ∷ more) = line_text (indent (scope ss) (object s more)) ss s ++ 10 ∷ text_from (s ∷ ss) more

unfoldable pub text : Design → List ℕ
text d = text_from [] (flatten d)

-- 12: text over 32,768 bytes or over the room lent. Measuring refuses as writing does, but for the room lent
unfoldable pub write_text : ℕ → List ℕ → Verdict (List ℕ)
write_text room t = verdict t (lowest ((12, ltb longest_file (length t) || ltb room (length t)) ∷ []))

unfoldable pub write : ℕ → Design → Verdict (List ℕ)
write room d = write_text room (text d)

unfoldable pub measure_text : List ℕ → Verdict ℕ
measure_text t = verdict (length t) (lowest ((12, ltb longest_file (length t)) ∷ []))

unfoldable pub measure : Design → Verdict ℕ
measure d = measure_text (text d)

-- The program writes its text, or number and place in decimal, a space between, line end 10
unfoldable pub refusal : ℕ → ℕ → List ℕ
refusal n p = decimal_text n ++ 32 ∷ decimal_text p ++ 10 ∷ []

unfoldable pub printed : Verdict (List ℕ) → List ℕ
printed (Verdict.accepted t) = t
printed (Verdict.refused n) = refusal n 0

unfoldable pub program_by : Answer → List ℕ
program_by (accepted ss) = printed (write longest_file (design ss))
program_by (refused n p) = refusal n p

unfoldable pub program : List ℕ → List ℕ
program file = program_by (read file)

unfoldable pub text_open : Unit {0}
unfolding flat_map Option-to_list join runs cut run_sig runs_sig sig literal_of setting unless direction_word wire_options memory_options written number_token word_token low_tokens sig_tokens option_tokens sort_tokens step_tokens between list_tokens shape_tokens decimal_onto decimal_text integer_text digit_byte escaped literal_text token_text tight behind spaced level holder indent object line_text text_from text write_text write measure_text measure refusal printed program_by program
text_open = tt
