-- `code_number` meets its contract: the place of each key among the codes computes, and what is left is none of them.
-- Assumes nothing.
use native.Mathlib.Omega.{arith}
use Rattle.rules.specs.Tokens.{keywords}
use Rattle.scanner.specs.Words.{word_code, code_in, code_number}
use Rattle.scanner.proofs.CodeLaws.{short_codes, code-none}
use Rattle.scanner.proofs.words.code_number.Goals as goal

pub returns-in-105944995247453537 : goal.returns-in-105944995247453537
unfolding code_number code_in word_code keywords
returns-in-105944995247453537 c = rw c.in-105944995247453537.is

pub returns-in-392991477100397 : goal.returns-in-392991477100397
unfolding code_number code_in word_code keywords
returns-in-392991477100397 c = rw c.in-392991477100397.is

pub returns-in-23359077 : goal.returns-in-23359077
unfolding code_number code_in word_code keywords
returns-in-23359077 c = rw c.in-23359077.is

pub returns-in-104817978631941987 : goal.returns-in-104817978631941987
unfolding code_number code_in word_code keywords
returns-in-104817978631941987 c = rw c.in-104817978631941987.is

pub returns-in-5996964215 : goal.returns-in-5996964215
unfolding code_number code_in word_code keywords
returns-in-5996964215 c = rw c.in-5996964215.is

pub returns-in-1548140964215 : goal.returns-in-1548140964215
unfolding code_number code_in word_code keywords
returns-in-1548140964215 c = rw c.in-1548140964215.is

pub returns-in-409454053320303 : goal.returns-in-409454053320303
unfolding code_number code_in word_code keywords
returns-in-409454053320303 c = rw c.in-409454053320303.is

pub returns-in-1599698136681 : goal.returns-in-1599698136681
unfolding code_number code_in word_code keywords
returns-in-1599698136681 c = rw c.in-1599698136681.is

pub returns-in-409522723386735 : goal.returns-in-409522723386735
unfolding code_number code_in word_code keywords
returns-in-409522723386735 c = rw c.in-409522723386735.is

pub returns-in-1599698071145 : goal.returns-in-1599698071145
unfolding code_number code_in word_code keywords
returns-in-1599698071145 c = rw c.in-1599698071145.is

pub returns-in-6164869237 : goal.returns-in-6164869237
unfolding code_number code_in word_code keywords
returns-in-6164869237 c = rw c.in-6164869237.is

pub returns-in-391861783456115 : goal.returns-in-391861783456115
unfolding code_number code_in word_code keywords
returns-in-391861783456115 c = rw c.in-391861783456115.is

pub returns-in-415007379383661 : goal.returns-in-415007379383661
unfolding code_number code_in word_code keywords
returns-in-415007379383661 c = rw c.in-415007379383661.is

pub returns-in-5997488499 : goal.returns-in-5997488499
unfolding code_number code_in word_code keywords
returns-in-5997488499 c = rw c.in-5997488499.is

pub returns-in-6114010467 : goal.returns-in-6114010467
unfolding code_number code_in word_code keywords
returns-in-6114010467 c = rw c.in-6114010467.is

pub returns-in-6113289586 : goal.returns-in-6113289586
unfolding code_number code_in word_code keywords
returns-in-6113289586 c = rw c.in-6113289586.is

pub returns-in-104554095656792688 : goal.returns-in-104554095656792688
unfolding code_number code_in word_code keywords
returns-in-104554095656792688 c = rw c.in-104554095656792688.is

pub returns-in-402865406571361 : goal.returns-in-402865406571361
unfolding code_number code_in word_code keywords
returns-in-402865406571361 c = rw c.in-402865406571361.is

pub returns-in-396251340830579 : goal.returns-in-396251340830579
unfolding code_number code_in word_code keywords
returns-in-396251340830579 c = rw c.in-396251340830579.is

pub returns-in-5997027683 : goal.returns-in-5997027683
unfolding code_number code_in word_code keywords
returns-in-5997027683 c = rw c.in-5997027683.is

pub returns-in-5963151731 : goal.returns-in-5963151731
unfolding code_number code_in word_code keywords
returns-in-5963151731 c = rw c.in-5963151731.is

pub returns-in-400640495807591 : goal.returns-in-400640495807591
unfolding code_number code_in word_code keywords
returns-in-400640495807591 c = rw c.in-400640495807591.is

pub returns-in-6248033897 : goal.returns-in-6248033897
unfolding code_number code_in word_code keywords
returns-in-6248033897 c = rw c.in-6248033897.is

pub returns-in-408440140164193 : goal.returns-in-408440140164193
unfolding code_number code_in word_code keywords
returns-in-408440140164193 c = rw c.in-408440140164193.is

pub returns-in-24604524 : goal.returns-in-24604524
unfolding code_number code_in word_code keywords
returns-in-24604524 c = rw c.in-24604524.is

pub returns-in-6046574952 : goal.returns-in-6046574952
unfolding code_number code_in word_code keywords
returns-in-6046574952 c = rw c.in-6046574952.is

pub returns-in-100600247582158704 : goal.returns-in-100600247582158704
unfolding code_number code_in word_code keywords
returns-in-100600247582158704 c = rw c.in-100600247582158704.is

pub returns-in-100600247581369710 : goal.returns-in-100600247581369710
unfolding code_number code_in word_code keywords
returns-in-100600247581369710 c = rw c.in-100600247581369710.is

pub returns-in-5996242021 : goal.returns-in-5996242021
unfolding code_number code_in word_code keywords
returns-in-5996242021 c = rw c.in-5996242021.is

pub returns-in-393025501294709 : goal.returns-in-393025501294709
unfolding code_number code_in word_code keywords
returns-in-393025501294709 c = rw c.in-393025501294709.is

pub returns-in_default : goal.returns-in_default
unfolding short_codes word_code keywords
returns-in_default c = code-none c.args.n c.in_default.in_default-own.rest (omega arith)
