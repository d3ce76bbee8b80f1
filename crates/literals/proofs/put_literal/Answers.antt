-- By the constant.
use native.Mathlib.Omega.{arith}
use Rattle.rules.specs.Numbers.{good_literal}
use Rattle.rules.specs.Signals.{literal_width}
use Rattle.tokens.specs.Rows.{literal_in}
use Rattle.literals.proofs.put_literal.Goals as goal

pub put_integer-requires : goal.put_integer-requires
unfolding literal_in good_literal literal_width
put_integer-requires c = record {
  z_value = rw c.in-Integer.is at c.requires.c_value;
  at_in_bounds = rw c.in-Integer.is at c.requires.c_in_bounds;
}

pub put_text-requires : goal.put_text-requires
unfolding literal_in literal_width
put_text-requires c =
    let pre = c.requires in
    let w = rw c.in-Text.is at pre.c_bound in
    record {
      f_value = rw c.in-Text.is at pre.whole;
      f_len_bound = omega (arith, w);
      f_in_bounds = rw c.in-Text.is at pre.c_in_bounds;
    }

pub returns-in-Integer : goal.returns-in-Integer
unfolding literal_in
returns-in-Integer c = rw c.in-Integer.is c.put_integer.ensures

pub returns-in-Value : goal.returns-in-Value
returns-in-Value c = rw c.in-Value.is c.put_value.ensures

pub returns-in-Text : goal.returns-in-Text
unfolding literal_in
returns-in-Text c = rw c.in-Text.is c.put_text.ensures
