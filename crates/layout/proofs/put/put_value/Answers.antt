-- The digits stand in scratch, highest first; their width is below the cap with which it is read.
use mathlib.Core.Path.{ap, ◌∙◌}
use native.Mathlib.Omega.{arith}
use Rattle.tables.specs.Store.{store}
use Rattle.literal_rules.proofs.ReadLaws.{value-narrow, value-width, value-few}
use Rattle.layout.proofs.PutLaws.{value-stored}
use Rattle.layout.proofs.put.put_value.Goals as goal

pub put_literal-requires : goal.put_literal-requires
put_literal-requires c =
    let w = value-narrow _ _ _ _ c.requires.end_value in
    record {
      c_value = c.requires.end_value;
      c_bound = w;
      c_in_bounds = omega (arith, w, c.requires.most_width_in_bounds);
      whole = tt;
    }

pub reverse_words-requires : goal.reverse_words-requires
reverse_words-requires c =
    let pre = c.requires in
    let put-literal = c.put_literal in
    let literal-width = c.literal_width-width in
    let n = value-width _ _ _ _ pre.end_value _ literal-width.ensures.0 in
    let l = value-few _ _ _ _ pre.end_value in
    (omega arith, omega (arith, n, l, pre.most_width_in_bounds, put-literal.auto), omega (arith, n, pre.fits))

pub returns : goal.returns
returns c =
    let pre = c.requires in
    let args = c.args in
    let put-literal = c.put_literal in
    let literal-width = c.literal_width-width in
    let reverse-words = c.reverse_words in record {
      value = value-width _ _ _ _ pre.end_value _ literal-width.ensures.0;
      bits_after = reverse-words.ensures
          ∙ ap (store args.bits.now args.at)
          (value-stored _ _ _ _ pre.end_value _ _ _ pre.most_width_in_bounds literal-width.ensures.0 put-literal.ensures);
    }
