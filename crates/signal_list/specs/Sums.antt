-- What is kept of the signals read so far, and what is told of them.
use Rattle.std.specs.Prelude.{ℕ, ◌+◌, Bool, true, cond, ◌&&◌, ltb, eqb}
use Rattle.rules.specs.Limits.{most_signal_bits}
use Rattle.faults.specs.Faults.{merge}
use Rattle.signals.specs.declared.Bits.{Bits}
use Rattle.signal_list.specs.declared.Sum.{Sum}
use Rattle.signal_list.specs.declared.Listed.{Listed}

-- where the bits of a signal go that stands behind so many bits
unfoldable pub place_of : ℕ → ℕ
place_of total = cond (ltb total most_signal_bits) total most_signal_bits

unfoldable pub added_to : Sum → Bits → Sum
added_to l b =
    record {
      width = cond (eqb l.count 0) b.width l.width;
      count = l.count + 1;
      total = l.total + b.width;
      even = cond (eqb l.count 0) true (l.even && eqb l.width b.width);
      fault = merge l.fault b.fault;
    }

-- the numbers of widths that are equal or not, and of so many bits
unfoldable pub uneven_fault : Bool → ℕ
uneven_fault even = cond even 0 10

unfoldable pub total_fault : ℕ → ℕ
total_fault total = cond (ltb most_signal_bits total) 11 0

unfoldable pub listed_of : Sum → Listed
listed_of l = record { width = l.width; count = l.count; fault = merge (total_fault l.total) (merge (uneven_fault l.even) l.fault) }
