use Rattle.layout.specs.Put.{valued_row}
use Rattle.layout.proofs.put.put_valued.Goals as goal

pub returns : goal.returns
unfolding valued_row
returns c =
    let put-optional = c.put_optional-k in
    let put-named = c.put_named in record {
      names_after = put-named.ensures.names_after;
      strings_after = put-optional.ensures.strings_after;
      bits_after = put-optional.ensures.bits_after;
      rows_after = rw put-optional.ensures.c_value put-named.ensures.rows_after;
    }
