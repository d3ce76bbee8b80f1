-- The rows that the name to show of a wire stands in, for any tables: the wire's statement and its attribute `\hdlname`.
use Rattle.std.specs.Prelude.{ℕ, zero, suc, List, [], Bool, cond, ◌&&◌, eqb}
use Rattle.rules.specs.Bytes.{bytes, same}
use Rattle.rules.specs.Session.{plain_name, or_else}
use Rattle.wires.specs.Rows.{column, span_at}
use Rattle.netlist.specs.Rows.{kind_at, name_at}
use Rattle.wire_names.specs.Now.{name_now}

-- whether a row is the statement of the wire in row w of the table of wires; and the last such row of the first k
unfoldable pub declares : (rows : List ℕ) → (row w : ℕ) → Bool
declares rows k w = eqb (kind_at rows k) 5 && eqb (column rows k 3) w

unfoldable pub wire_line : (rows : List ℕ) → (k w : ℕ) → ℕ
wire_line rows zero w = 0
wire_line rows (suc k) w = let r = wire_line rows k w in cond (declares rows k w) k r

-- the row behind the first `\hdlname` of the attributes right before row k, or the one found behind them already
unfoldable pub is_hdlname : (names rows : List ℕ) → ℕ → Bool
is_hdlname names rows k = same (name_at names rows k) (bytes "\\hdlname")

unfoldable pub hdlname_row : (names rows : List ℕ) → (k found : ℕ) → ℕ
hdlname_row names rows zero found = found
hdlname_row names rows (suc k) found =
    let r = hdlname_row names rows k (cond (is_hdlname names rows k) (suc k) found) in
    cond (eqb (kind_at rows k) 2) r found

-- the string of the attribute in the row before this one; nothing if its constant is no string
unfoldable pub text_at : (strings rows : List ℕ) → ℕ → List ℕ
text_at strings rows zero = []
text_at strings rows (suc k) = cond (eqb (column rows k 3) 3) (span_at strings rows k 4) []

-- the name to show of wire n of module m, whose row in the table of wires is k, with the rows of the statements and behind them those of count renames
unfoldable pub shown_name : (names strings wires rows : List ℕ) → (statements count m n k : ℕ) → List ℕ
shown_name names strings wires rows statements count m n k =
    or_else (text_at strings rows (hdlname_row names rows (wire_line rows statements k) 0)) (plain_name (name_now names wires rows statements count m n k))
