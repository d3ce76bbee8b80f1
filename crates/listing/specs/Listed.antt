-- What the listing gives back, for all memory.
use Rattle.std.specs.Prelude.{ℕ, List, length}
use Rattle.rules.specs.Design.{design}
use Rattle.rules.specs.Session.{now}
use Rattle.rules.specs.Plain.{listing}
use Rattle.rules.specs.Layout.{Memory}
use Rattle.plain.specs.Put.{wrote}
use Rattle.session.specs.Called.{Called}
use Rattle.listing.specs.declared.Listed.{Listed}

-- 1 on wrong lengths, 3 where no design is held, else what the rules say of module k of the design with its names now
abbrev pub ListedAs : Memory → (k : ℕ) → (old new : List ℕ) → Listed → Type 0
ListedAs m k old new r = Called m (λ n. (n, 0, old)) (λ ss rs. wrote old (listing (length old) (now (design ss) rs) k)) (r.number, r.length, new)
