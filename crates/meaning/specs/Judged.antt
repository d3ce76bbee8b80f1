-- What the constants of a written statement mean, what stands in it, and its name.
-- Assumes nothing.
use Rattle.std.specs.Prelude.{◌≡◌, true, length}
use Rattle.std.proofs.Math.Path.{refl}
use Rattle.std.proofs.Common.{ap, arith, le-leb}
use Rattle.std.proofs.lemmas.List.{length-reverse}
use Rattle.rules.specs.Statements.{Constant, Statement, holds, contents, is}
use Rattle.rules.specs.Numbers.{good_literal}
use Rattle.rules.specs.Signals.{Wires, literal_bits, kept}
use Rattle.rules.specs.Judgement.{Past, among, takes_name}
use Rattle.rules.specs.Text.{sig, literal_of, wire_options, memory_options, written}
use Rattle.admitted.specs.Admitted.{fine_constant}
use Rattle.context.specs.Forms.{translated, contents-translated}
use Rattle.meaning.specs.Bits.{fill-all}

-- ---- what it means

pub literal-back : (c : Constant) → kept (literal_of c) ≡ c
unfolding kept literal_of literal_bits
literal-back (Constant.value ds) = ap Constant.value (fill-all ds)
literal-back (Constant.integer i) = refl
literal-back (Constant.string s) = refl

pub literal-good : (c : Constant) → fine_constant c ≡ true → good_literal (literal_of c) ≡ true
unfolding fine_constant good_literal literal_of
literal-good (Constant.value ds) h = rw (h, length-reverse) (le-leb (length ds) (length ds) (omega arith))
literal-good (Constant.integer i) h = h
literal-good (Constant.string s) h = refl

-- ---- what stands in it

pub contents-written : (ws : Wires) (s : Statement) → contents (written ws s) ≡ translated literal_of (sig ws) wire_options memory_options (contents s)
unfolding written
contents-written ws s = contents-translated literal_of (sig ws) wire_options memory_options s

-- ---- 9: its name

pub takes-written : (ss : Past) (ws : Wires) (s : Statement) → takes_name ss (written ws s) ≡ takes_name ss s
unfolding takes_name among is translated holds
takes-written ss ws s = rw (contents-written ws s)
