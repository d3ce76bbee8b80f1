-- What writing and measuring give, for all memory.
use Rattle.std.specs.Prelude.{ℕ, List, length}
use Rattle.rules.specs.Judgement.{Verdict, accepted, refused}
use Rattle.rules.specs.Design.{design}
use Rattle.rules.specs.Session.{now}
use Rattle.rules.specs.Text.{write, measure}
use Rattle.rules.specs.Layout.{Memory}
use Rattle.tables.specs.Store.{store}
use Rattle.session.specs.Called.{Called, answer}
use Rattle.writer.specs.declared.Written.{Written}

-- number, length and the room lent: the text stands at its start, and a refusal changes nothing
unfoldable pub wrote : List ℕ → Verdict (List ℕ) → ℕ × ℕ × List ℕ
wrote old (accepted t) = (0, length t, store old 0 t)
wrote old (refused n) = (n, 0, old)

-- for all memory: 1 on wrong lengths, 3 where no design is held, else what the rules say of the design with its names now
abbrev pub MeasuredAs : Memory → Written → Type 0
MeasuredAs m r = Called m (λ n. (n, 0)) (λ ss rs. answer 0 (measure (now (design ss) rs))) (r.number, r.length)

abbrev pub WrittenAs : Memory → (old new : List ℕ) → Written → Type 0
WrittenAs m old new r = Called m (λ n. (n, 0, old)) (λ ss rs. wrote old (write (length old) (now (design ss) rs))) (r.number, r.length, new)
