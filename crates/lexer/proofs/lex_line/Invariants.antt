-- A turn takes a token and puts it into the next row.
use Prim.Native.Nat.{◌-◌}
use Rattle.lexer.proofs.Reached.{Reached}
use Rattle.lexer.proofs.lex_line.Given as goal

abbrev pub invariant-loop-lexeme : goal.invariant-loop-lexeme
invariant-loop-lexeme l = Reached l.f l.initial.table l.table l.start l.end l.i l.n

abbrev pub decreases-loop-lexeme : goal.decreases-loop-lexeme
decreases-loop-lexeme l = l.end - l.i
