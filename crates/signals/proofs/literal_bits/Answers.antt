-- `literal_bits` meets its contract: a constant that breaks the number rules, one that is too wide, and one whose codes are put.
-- Assumes nothing.
use mathlib.Core.Path.{sym, ◌∙◌}
use Prim.Native.Nat.{◌<◌}
use native.Mathlib.Omega.{arith}
use Rattle.literal_rules.proofs.ReadLaws.{width_small}
use Rattle.signals.proofs.HeldLaws.{put-not, put-over, constant-bad, constant-width, constant-fault, constant-put}
use Rattle.signals.proofs.literal_bits.Goals as goal

pub good_literal-requires : goal.good_literal-requires
good_literal-requires c = tt

pub returns-then-not-good_literal : goal.returns-then-not-good_literal
returns-then-not-good_literal c ws = put-not ws _ _ _ _ (omega arith) 7 (constant-bad ws _ (sym c.good_literal.ensures ∙ c.if-not-good_literal.true)) (omega arith) (omega arith)

pub literal_width-width-requires : goal.literal_width-width-requires
literal_width-width-requires c = tt

pub returns-then-width-gt-MOST_BITS : goal.returns-then-width-gt-MOST_BITS
returns-then-width-gt-MOST_BITS c ws =
    let e = sym c.good_literal.ensures ∙ c.if-not-good_literal.false in
    let q = c.literal_width-width.ensures.0 ∙ width_small c.args.f.now c.args.c (omega (arith, c.requires.0)) e in
    let few : c.literal_width-width.result < 4294967296 = omega (arith, c.literal_width-width.ensures.1) in
    put-over ws _ _ _ _ few (constant-fault ws _ _ e q) (constant-width ws _ _ e q) c.if-width-gt-MOST_BITS.true

pub put_literal-requires : goal.put_literal-requires
put_literal-requires c =
    let args = c.args in
    let pre = c.requires in
    let good-literal = c.good_literal in
    let if1 = c.if-not-good_literal in
    let literal-width = c.literal_width-width in
    let e = sym good-literal.ensures ∙ if1.false in
    let q = literal-width.ensures.0 ∙ width_small args.f.now args.c (omega (arith, pre.0)) e in
    record {
      c_value = e;
      c_bound = omega (arith, c.if-width-gt-MOST_BITS.false);
      c_in_bounds = omega (arith, c.if-width-gt-MOST_BITS.false, pre.1);
      whole = pre.2;
    }

pub returns : goal.returns
returns c ws =
    let args = c.args in
    let pre = c.requires in
    let good-literal = c.good_literal in
    let if1 = c.if-not-good_literal in
    let literal-width = c.literal_width-width in
    let if2 = c.if-width-gt-MOST_BITS in
    let put-literal = c.put_literal in
    let e = sym good-literal.ensures ∙ if1.false in
    let q = literal-width.ensures.0 ∙ width_small args.f.now args.c (omega (arith, pre.0)) e in
    constant-put ws _ _ e q _ _ _ if2.false pre.1 put-literal.ensures
