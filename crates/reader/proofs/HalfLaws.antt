-- What the two halves of reading give of a file's answer, and what a fill leaves.
-- Assumes nothing.
use Prim.Native.Nat.{ℕ, ◌≤◌, ◌<◌}
use mathlib.Core.Path.{◌≡◌, refl, sym, ap, ◌∙◌, subst}
use mathlib.Core.Bool.{Bool, true, false}
use mathlib.Core.List.{List, reverse, reverse-reverse}
use lib.ListN.{length, replicate}
use Rattle.std.specs.Prelude.{Ok, Err, Result as Either}
use borrow.Author.Tests.{lt-ltb, le-ltb}
use Rattle.rules.specs.Statements.{Statement}
use Rattle.rules.specs.Reading as reading
use Rattle.rules.specs.Reading.{read_any, read, checked}
use Rattle.rules.specs.Layout.{Rooms, empty, put_all, put_renames, rooms, used, memory, layout}
use Rattle.rules.specs.Layout as layouts
use Rattle.context.specs.declared.place.Place.{Place}
use Rattle.context.specs.declared.sizes.Sizes.{Sizes}
use Rattle.context.specs.declared.sizes.Standing.{Standing}
use Rattle.netlist.specs.Laid.{rooms_of}
use Rattle.netlist.specs.LaidLaws.{rooms-past}
use Rattle.netlist.specs.UsedLaws.{used-past}
use Rattle.netlist.specs.Lengths.{sizes-exact, right_sizes, right_lengths}
use Rattle.netlist.specs.Tables.{Tables, tabled}
use Rattle.netlist.specs.Results.{Result, result, lent}
use Rattle.netlist.specs.declared.results.Refused.{Refused}
use Rattle.layout.specs.Put.{tables_of}
use Rattle.layout.specs.Stored.{Sized}
use Rattle.reading_step.specs.Steps.{Done}
use Rattle.file_lines.specs.Lines.{Landed}
use Rattle.file_reader.proofs.ZeroLaws.{zero-tables}
use Rattle.reader.specs.Fill.{leaves, fill_into}

-- ---- cleared tables

zeros : {k m : ℕ} → k ≡ m → replicate {A = ℕ} k 0 ≡ replicate m 0
zeros e = ap (λ (i : ℕ). replicate {A = ℕ} i 0) e

pub cleared :
    {n s b w r : List ℕ} (n₀ s₀ b₀ w₀ r₀ : List ℕ) → Sized (tabled n₀ s₀ b₀ w₀ r₀) →
    n ≡ replicate (length n₀) 0 → s ≡ replicate (length s₀) 0 → b ≡ replicate (length b₀) 0 → w ≡ replicate (length w₀) 0 → r ≡ replicate (length r₀) 0 →
    tabled n s b w r ≡ tables_of (memory empty 0)
cleared n₀ s₀ b₀ w₀ r₀ z en es eb ew er =
    zero-tables (en ∙ zeros z.names) (es ∙ zeros z.strings) (eb ∙ zeros z.bits) (ew ∙ zeros z.wires) (er ∙ zeros z.rows)

-- ---- the check

pub checked-long : (f : List ℕ) → 32768 < length f → ◌≡◌ {A = ℕ × ℕ} (2, 0) (checked (read f))
unfolding checked read
checked-long f h = rw (lt-ltb _ _ h)

pub read-any : (f : List ℕ) → length f ≤ 32768 → read f ≡ read_any f
unfolding read
read-any f h = rw (le-ltb _ _ h)

module _ (f : List ℕ) (short : length f ≤ 32768) (t : Tables) (a : Either Standing Refused) where
  accepted-by : (g : reading.Answer) (x : Standing) → Landed g t a → a ≡ Ok x → ◌≡◌ {A = ℕ × ℕ} (0, 0) (checked g)
  unfolding checked
  accepted-by (reading.accepted ss) x h e = refl
  accepted-by (reading.refused i q) x h e = cc

  refused-by : (g : reading.Answer) (r : Refused) → Landed g t a → a ≡ Err r → ◌≡◌ {A = ℕ × ℕ} (r.number, r.place) (checked g)
  unfolding checked
  refused-by (reading.accepted ss) r h e = absurd (subst (Landed (reading.accepted ss) t) e h)
  refused-by (reading.refused i p) r h e =
      let k : r ≡ record { number = i; place = p } = cc in ap (λ (x : Refused). (x.number, x.place)) k

  pub checked-accepted : (x : Standing) → Landed (read_any f) t a → a ≡ Ok x → ◌≡◌ {A = ℕ × ℕ} (0, 0) (checked (read f))
  checked-accepted x h e = accepted-by (read_any f) x h e ∙ ap checked (sym (read-any f short))

  pub checked_refused : (r : Refused) → Landed (read_any f) t a → a ≡ Err r → ◌≡◌ {A = ℕ × ℕ} (r.number, r.place) (checked (read f))
  checked_refused r h e = refused-by (read_any f) r h e ∙ ap checked (sym (read-any f short))

-- ---- the fill

module _ {n s b w r : List ℕ} where
  lent_is : (R : Rooms) (m : ℕ) → tabled n s b w r ≡ tables_of (memory R 0) → m ≡ length R.names → lent n s b w r 0 m ≡ memory R 0
  unfolding tables_of memory
  lent_is R m e k = λ i. record {
    names = (e i).names;
    strings = (e i).strings;
    bits = (e i).bits;
    wires = (e i).wires;
    rows = (e i).rows;
    renames = 0;
    room = k i;
  }

  module _ (ss : List Statement) (p : Place) (u : Sizes) (d : Done (reverse ss) p u (tabled n s b w r)) where
    rooms-are : rooms_of (reverse ss) ≡ put_all empty ss
    rooms-are = sym (rooms-past (reverse ss)) ∙ ap (put_all empty) (reverse-reverse ss)

    -- so many bytes of the name room are used
    room-used : u.name_bytes ≡ length (put_all empty ss).names
    unfolding used
    room-used =
        rw (← rooms-are, ← d.sums-are) (sym (ap (λ (v : layouts.Used). v.names) (used-past (reverse ss))))

    left-statements : lent n s b w r 0 u.name_bytes ≡ memory (put_all empty ss) 0
    left-statements =
        lent_is (put_all empty ss) u.name_bytes (d.tables-are ∙ ap (λ (R : Rooms). tables_of (memory R 0)) rooms-are) room-used

  pub left-accepted : (g : reading.Answer) (a : Either Standing Refused) (x : Standing) → Landed g (tabled n s b w r) a → a ≡ Ok x
      → result 0 0 (lent n s b w r 0 x.sums.name_bytes) ≡ leaves g
  unfolding leaves layout rooms put_renames
  left-accepted (reading.accepted ss) a x h e =
      ap (result 0 0) (left-statements ss x.place x.sums (subst (Landed (reading.accepted ss) (tabled n s b w r)) e h))
  left-accepted (reading.refused i q) a x h e = cc

  -- the tables are zero on a refusal
  left-zero : (i p : ℕ) → tabled n s b w r ≡ tables_of (memory empty 0) → result i p (lent n s b w r 0 0) ≡ result i p (memory empty 0)
  left-zero i p z = ap (result i p) (lent_is empty 0 z refl)

  pub left-refused : (g : reading.Answer) (t : Tables) (a : Either Standing Refused) (x : Refused) → Landed g t a → a ≡ Err x → tabled n s b w r ≡ tables_of (memory empty 0)
      → result x.number x.place (lent n s b w r 0 0) ≡ leaves g
  unfolding leaves
  left-refused (reading.accepted ss) t a x h e z = absurd (subst (Landed (reading.accepted ss) t) e h)
  left-refused (reading.refused j q) t a x h e z =
      let k : x ≡ record { number = j; place = q } = cc in rw k (left-zero j q z)

  pub left-long : (f : List ℕ) → 32768 < length f → tabled n s b w r ≡ tables_of (memory empty 0) → result 2 0 (lent n s b w r 0 0) ≡ leaves (read f)
  unfolding leaves read
  left-long f h z = rw (lt-ltb _ _ h) (left-zero 2 0 z)

-- ---- lengths

pub right-sized : (n s b w r : List ℕ) → right_sizes (length n) (length s) (length b) (length w) (length r) ≡ true → Sized (tabled n s b w r)
right-sized n s b w r e =
    let h = sizes-exact (length n) (length s) (length b) (length w) (length r) e in
    record { names = h.0; strings = h.1; bits = h.2; wires = h.3; rows = h.4 }

module _ (f n s b w r : List ℕ) (k m : ℕ) (t : Bool) (e : t ≡ right_sizes (length n) (length s) (length b) (length w) (length r)) where
  pub into-right : t ≡ true → (x : Result) → x ≡ leaves (read f) → x ≡ fill_into f (lent n s b w r k m)
  unfolding fill_into right_lengths
  into-right h x q = rw (← e, h) q

  pub into-wrong : t ≡ false → result 1 0 (lent n s b w r k m) ≡ fill_into f (lent n s b w r k m)
  unfolding fill_into right_lengths
  into-wrong h = rw (← e, h)
