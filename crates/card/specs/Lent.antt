-- What a call with a lent card answers and leaves.
use Rattle.std.specs.Prelude.{List, ℕ}
use Rattle.rules.specs.Layout.{Memory}
use Rattle.netlist.specs.Results.{Result, result, lent}
use Rattle.card.specs.declared.Card.{Card}
use Rattle.card.specs.declared.Answer.{Answer}

-- the design memory: five tables and the card
abbrev pub lent_with : Card → (names strings bits wires rows : List ℕ) → Memory
lent_with c n s b w r = lent n s b w r c.renames c.room

-- number, place, and all memory lent
abbrev pub answered : Answer → Memory → Result
answered a m = result a.number a.place m
