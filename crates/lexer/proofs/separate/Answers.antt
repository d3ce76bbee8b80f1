-- The token, if what follows parts it.
use Rattle.lexer.proofs.Steps.{separate-token, separate-wrong}
use Rattle.lexer.proofs.separate.Goals as goal

pub returns-then-parted : goal.returns-then-parted
returns-then-parted c = separate-token _ _ _ _ _ c.parted.ensures c.requires.p_lt_e c.if-parted.true

pub returns : goal.returns
returns c = separate-wrong _ _ _ _ _ c.parted.ensures c.requires.p_lt_e c.if-parted.false
