-- DEMAND 3 OF CALLS MADE BY ANYBODY: a file is read, then any renames and undos are made, each on the memory that the last one left. The answers in order, the memory
-- and the two counts of the card are those of the plain session. The contract of `fill` says that its result is `fill_into`'s; those of `rename` and `undo`, of
-- `session` and of the exported crate, give `CalledAs` of each call, with the counts behind the card at entry and at exit.
-- Assumes nothing.
use Rattle.std.specs.Prelude.{ℕ, ◌≡◌, refl, List, [], ◌∷◌, map, true, length}
use Rattle.std.proofs.Math.Path.{sym}
use Rattle.std.proofs.Common.{ap, ap₂, ◌∙◌}
use Rattle.rules.specs.Statements.{Statement}
use Rattle.rules.specs.Reading.{accepted, read}
use Rattle.rules.specs.Design.{design}
use Rattle.rules.specs.Session.{Rename, Call, rename, room_used, plain_session}
use Rattle.rules.specs.Layout.{Memory, memory, layout}
use Rattle.admitted.specs.Holds.{Holds, no-renames}
use Rattle.netlist.specs.Results.{Result}
use Rattle.netlist.specs.Lengths.{right_lengths}
use Rattle.reader.specs.Fill.{fill_into}
use Rattle.rename_rules.specs.RoomLaws.{room-used}
use Rattle.session.specs.Called.{CalledAs}
use Rattle.theorems.specs.StandingLaws.{allowed-session, session-allowed}
use Rattle.calls.specs.StepLaws.{answer_in, Stepped, called, read-leaves, read-holds, number_read}

-- calls from this memory on, and their results
abbrev pub Made : Memory → List Call → List Result → Type 0
Made m [] [] = Unit {0}
Made m [] (x ∷ xs) = ⊥
Made m (c ∷ cs) [] = ⊥
Made m (c ∷ cs) (x ∷ xs) = CalledAs m c x × Made x.memory cs xs

-- the memory behind the last of them
unfoldable pub last_memory : Memory → List Result → Memory
last_memory m [] = m
last_memory m (x ∷ xs) = last_memory x.memory xs

-- answers, memory and counts of the plain session
pub record AsPlain (ss : List Statement) (rs : List Rename) (cs : List Call) (xs : List Result) (end : Memory) : Type 0 where
  pub answers-are : map answer_in xs ≡ (plain_session (design ss) rs cs).0
  pub memory-is : end ≡ layout ss (plain_session (design ss) rs cs).1
  pub renames-are : end.renames ≡ length (plain_session (design ss) rs cs).1
  pub room-is : end.room ≡ room_used (design ss) (plain_session (design ss) rs cs).1

chain :
    (cs : List Call) (xs : List Result) {m : Memory} {ss : List Statement} {rs : List Rename} → Holds m ss rs → Made m cs xs →
    (map answer_in xs ≡ (plain_session (design ss) rs cs).0) × Holds (last_memory m xs) ss (plain_session (design ss) rs cs).1
unfolding plain_session last_memory
chain [] [] h k = (refl, h)
chain [] (x ∷ xs) h k = absurd k
chain (c ∷ cs) [] h k = absurd k
chain (c ∷ cs) (x ∷ xs) {ss = ss} {rs = rs} h k =
    let s : Stepped ss rs c x = called h c x k.0 in
    let r = chain cs xs s.holds k.1 in
    (ap₂ ◌∷◌ s.answer-is r.0, r.1)

-- the counts of memory that holds a design
module _ {m : Memory} {ss : List Statement} {rs : List Rename} (h : Holds m ss rs) where
  renames-held : m.renames ≡ length rs
  unfolding layout memory
  renames-held = sym (ap (λ (x : Memory). x.renames) h.is)

  room-held : m.room ≡ room_used (design ss) rs
  unfolding layout memory
  room-held = sym (ap (λ (x : Memory). x.room) h.is) ∙ sym (room-used ss rs h.admitted h.closes)

-- on memory that holds a design
pub made_plain : (cs : List Call) (xs : List Result) {m : Memory} {ss : List Statement} {rs : List Rename} → Holds m ss rs → Made m cs xs → AsPlain ss rs cs xs (last_memory m xs)
made_plain cs xs h k =
    let r = chain cs xs h k in
    record { answers-are = r.0; memory-is = sym r.1.is; renames-are = renames-held r.1; room-is = room-held r.1 }

module _ (file : List ℕ) (m : Memory) (x : Result) (e : x ≡ fill_into file m) where
  -- a file that the rules accept, read into tables of the right lengths
  pub read-and-made :
      right_lengths m ≡ true → (ss : List Statement) → read file ≡ accepted ss → (cs : List Call) (xs : List Result) → Made x.memory cs xs →
      (answer_in x ≡ (0, 0)) × AsPlain ss [] cs xs (last_memory x.memory xs)
  read-and-made l ss a cs xs k =
      let r = read-leaves file a m l e in
      (ap answer_in r, made_plain cs xs (read-holds file a r) k)

  -- the same by what the caller sees: a read that answered 0
  pub seen-and-made :
      x.number ≡ 0 → (cs : List Call) (xs : List Result) → Made x.memory cs xs →
      (ss : List Statement) × (read file ≡ accepted ss) × AsPlain ss [] cs xs (last_memory x.memory xs)
  seen-and-made z cs xs k =
      let r = number_read file m x e z in
      (r.statements, r.reads, made_plain cs xs (read-holds file r.reads r.is) k)

-- only the standing renames count: made alone, oldest first, on another read of the file, they leave the same memory
pub standing-made :
    (file : List ℕ) (ss : List Statement) → read file ≡ accepted ss → (m n : Memory) → right_lengths m ≡ true → right_lengths n ≡ true →
    (x y : Result) → x ≡ fill_into file m → y ≡ fill_into file n → (cs : List Call) (xs ys : List Result) → Made x.memory cs xs →
    Made y.memory (map rename (plain_session (design ss) [] cs).1) ys → last_memory x.memory xs ≡ last_memory y.memory ys
standing-made file ss a m n lm ln x y ex ey cs xs ys kx ky =
    let d = design ss in
    (read-and-made file m x ex lm ss a cs xs kx).1.memory-is
    ∙ ap (layout ss) (sym (session-allowed d (allowed-session d cs [] no-renames)))
    ∙ sym (read-and-made file n y ey ln ss a (map rename (plain_session d [] cs).1) ys ky).1.memory-is
