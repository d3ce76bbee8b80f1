-- Filling design memory with a file: what each outcome leaves.
-- Assumes nothing.
use Rattle.std.specs.Prelude.{ℕ, ◌≡◌, refl, List, [], true, cond}
use Rattle.rules.specs.Reading.{Answer, accepted, refused, read, checked}
use Rattle.rules.specs.Layout.{Memory, empty, memory, layout}
use Rattle.netlist.specs.Results.{Result, result}
use Rattle.netlist.specs.Lengths.{right_lengths}

-- on any other refusal all tables and the card are zero; on success unused room is zero
unfoldable pub leaves : Answer → Result
leaves (accepted ss) = result 0 0 (layout ss [])
leaves (refused n p) = result n p (memory empty 0)

-- on 1 nothing is touched
unfoldable pub fill_into : List ℕ → Memory → Result
fill_into file m = cond (right_lengths m) (leaves (read file)) (result 1 0 m)

-- The fill refuses what the check refuses, with its number and place
numbers-left : (a : Answer) → ◌≡◌ {A = ℕ × ℕ} ((leaves a).number, (leaves a).place) (checked a)
unfolding leaves checked
numbers-left (accepted ss) = refl
numbers-left (refused n p) = refl

pub fill-checked : (f : List ℕ) (m : Memory) → right_lengths m ≡ true → ◌≡◌ {A = ℕ × ℕ} ((fill_into f m).number, (fill_into f m).place) (checked (read f))
unfolding fill_into
fill-checked f m e = rw e (numbers-left (read f))
