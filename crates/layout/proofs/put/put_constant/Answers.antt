-- By the constant.
use Rattle.rules.specs.Statements.{digits_of, bytes_of}
use Rattle.rules.specs.Numbers.{good_literal}
use Rattle.rules.specs.Signals.{literal_bits, kept}
use Rattle.rules.specs.Layout.{constant_columns}
use Rattle.tables.specs.Store.{store-none}
use Rattle.tokens.specs.Rows.{literal_in}
use Rattle.layout.proofs.put.put_constant.Goals as goal

pub integer_word-requires : goal.integer_word-requires
unfolding literal_in good_literal
integer_word-requires c = rw c.in-Integer.is at c.requires.constant_fits.good

pub put_value-requires : goal.put_value-requires
unfolding literal_in kept digits_of literal_bits
put_value-requires c =
    let pre = c.requires in
    record {
      end_value = rw c.in-Value.is at pre.constant_fits.good;
      most_width_in_bounds = pre.most_width_in_bounds;
      fits = rw c.in-Value.is at pre.constant_fits.bits_fit;
    }

pub put_text-requires : goal.put_text-requires
unfolding literal_in kept bytes_of
put_text-requires c =
    let pre = c.requires in
    record {
      f_value = rw c.in-Text.is at pre.constant_fits.whole;
      fits = rw c.in-Text.is at pre.constant_fits.strings-fit;
    }

pub returns-in-Integer : goal.returns-in-Integer
unfolding literal_in kept constant_columns bytes_of digits_of
returns-in-Integer c = record {
  c_value = rw (c.in-Integer.is, c.integer_word.ensures);
  strings_after = rw (c.in-Integer.is, store-none);
  bits_after = rw (c.in-Integer.is, store-none);
}

pub returns-in-Value : goal.returns-in-Value
unfolding literal_in kept constant_columns bytes_of digits_of literal_bits
returns-in-Value c =
    let put-value = c.put_value in record {
      c_value = rw (c.in-Value.is, put-value.ensures.value);
      strings_after = rw (c.in-Value.is, store-none);
      bits_after = rw c.in-Value.is put-value.ensures.bits_after;
    }

pub returns-in-Text : goal.returns-in-Text
unfolding literal_in kept constant_columns bytes_of digits_of
returns-in-Text c = record {
  c_value = rw (c.in-Text.is, c.put_text.ensures.value);
  strings_after = rw c.in-Text.is c.put_text.ensures.strings_after;
  bits_after = rw (c.in-Text.is, store-none);
}
