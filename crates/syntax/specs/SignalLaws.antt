-- A signal in scratch is as long as its width says.
-- Assumes nothing.
use Rattle.std.specs.Prelude.{ℕ, ◌+◌, ◌≤◌, ◌≡◌, List, reverse, length}
use Rattle.std.proofs.Common.{◌∙◌, arith}
use Rattle.std.proofs.lemmas.List.{length-reverse}
use Rattle.std.proofs.Math.Seq.{slice, length-slice}
use Rattle.numbers.specs.KindLaws.{length-signal}
use Rattle.syntax.specs.Statements.{signal_in}

module _ (scratch : List ℕ) (o w : ℕ) where
  -- how many words, and how many bits
  pub signal-words : o + w ≤ length scratch → length (reverse (slice o (o + w) scratch)) ≡ w
  signal-words h = length-reverse (slice o (o + w) scratch) ∙ length-slice o (o + w) scratch h ∙ omega arith

  pub signal-long : o + w ≤ length scratch → length (signal_in scratch o w) ≡ w
  unfolding signal_in
  signal-long h = length-signal (reverse (slice o (o + w) scratch)) ∙ signal-words h
