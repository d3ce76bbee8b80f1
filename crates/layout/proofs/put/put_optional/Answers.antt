use mathlib.Core.Option.{Option-elim}
use Rattle.tables.specs.Store.{store-none}
use Rattle.line_forms.specs.Forms.{value_in}
use Rattle.layout.specs.Put.{optional_columns, optional_bytes, optional_digits}
use Rattle.layout.proofs.put.put_optional.Goals as goal

pub returns-in-Some : goal.returns-in-Some
unfolding value_in Option-elim optional_columns optional_bytes optional_digits
returns-in-Some c = record {
  c_value = rw c.in-Some.is c.put_constant.ensures.c_value;
  strings_after = rw c.in-Some.is c.put_constant.ensures.strings_after;
  bits_after = rw c.in-Some.is c.put_constant.ensures.bits_after;
}

pub returns-in-None : goal.returns-in-None
unfolding value_in Option-elim optional_columns optional_bytes optional_digits
returns-in-None c = record {
  c_value = rw c.in-None.is;
  strings_after = rw (c.in-None.is, store-none);
  bits_after = rw (c.in-None.is, store-none);
}
