-- One call on memory that holds a design, and the memory that a read leaves.
-- Assumes nothing.
use Rattle.std.specs.Prelude.{ℕ, ◌≡◌, List, [], ◌∷◌, Bool, cond}
use Rattle.std.proofs.Math.Path.{refl, ap}
use Rattle.std.proofs.Common.{sym, ◌∙◌, arith}
use Rattle.std.proofs.Math.Bool.{true, false}
use borrow.Author.Tests.{leb-true}
use Rattle.rules.specs.Statements.{Statement}
use Rattle.rules.specs.Judgement as judgement
use Rattle.rules.specs.Judgement.{Verdict}
use Rattle.rules.specs.Reading.{Answer, accepted, refused, read}
use Rattle.rules.specs.Design.{design}
use Rattle.rules.specs.Session.{Rename, Call, call, number_of, answer_of, standing, plain_session}
use Rattle.rules.specs.Layout.{Memory, layout}
use Rattle.admitted.specs.Holds.{Allowed, Holds, no-renames}
use Rattle.netlist.specs.Results.{Result, result}
use Rattle.netlist.specs.Lengths.{right_lengths}
use Rattle.reader.specs.Fill.{leaves, fill_into}
use Rattle.soundness.specs.ReadLaws.{read-admitted, numbered, read-numbered}
use Rattle.memory_check.specs.HeldLaws.{holds-sizes}
use Rattle.session.specs.Called.{holding, after, CalledAs}
use Rattle.session.specs.CalledLaws.{called-one}
use Rattle.theorems.specs.StandingLaws.{allowed-session}
use Rattle.theorems.specs.ReadingBack.{read-any}

-- what a call answers
abbrev pub answer_in : Result → ℕ × ℕ
answer_in r = (r.number, r.place)

-- ONE CALL on memory that holds these statements and renames
pub record Stepped (ss : List Statement) (rs : List Rename) (c : Call) (r : Result) : Type 0 where
  pub answer-is : answer_in r ≡ answer_of (call (design ss) rs c)
  pub holds : Holds r.memory ss (standing rs (call (design ss) rs c))

module _ {m : Memory} {ss : List Statement} {rs : List Rename} (h : Holds m ss rs) (c : Call) where
  allowed-one : Allowed (design ss) (standing rs (call (design ss) rs c))
  unfolding plain_session
  allowed-one = allowed-session (design ss) (c ∷ []) rs h.allowed

  after-memory : (v : Verdict (List Rename)) → layout ss (standing rs v) ≡ (after m ss v).memory
  unfolding after standing
  after-memory (judgement.accepted qs) = refl
  after-memory (judgement.refused n) = h.is

  after-answer : (v : Verdict (List Rename)) → answer_in (after m ss v) ≡ answer_of v
  unfolding after number_of answer_of
  after-answer (judgement.accepted qs) = refl
  after-answer (judgement.refused n) = refl

  pub called : (r : Result) → CalledAs m c r → Stepped ss rs c r
  called r k =
      let v = call (design ss) rs c in
      let e : r ≡ after m ss v = called-one k (holding ss rs (holds-sizes h) h refl) in
      record {
        answer-is = ap answer_in e ∙ after-answer v;
        holds = record {
          admitted = h.admitted;
          closes = h.closes;
          allowed = allowed-one;
          is = after-memory v ∙ sym (ap (λ (x : Result). x.memory) e);
        };
      }

-- A FILE THAT IS READ
module _ (file : List ℕ) {x : Result} {ss : List Statement} (a : read file ≡ accepted ss) where
  -- into tables of the right lengths
  pub read-leaves : (m : Memory) → right_lengths m ≡ true → x ≡ fill_into file m → x ≡ result 0 0 (layout ss [])
  unfolding fill_into leaves
  read-leaves m l e = rw (l, a) at e

  pub read-holds : x ≡ result 0 0 (layout ss []) → Holds x.memory ss []
  read-holds e =
      let q = read-admitted file ss (read-any file ss a) in
      record { admitted = q.0; closes = q.1; allowed = no-renames; is = sym (ap (λ (y : Result). y.memory) e) }

-- a read that answers 0
pub record Accepted (file : List ℕ) (m : Memory) (x : Result) : Type 0 where
  pub statements : List Statement
  pub lengths : right_lengths m ≡ true
  pub reads : read file ≡ accepted statements
  pub is : x ≡ result 0 0 (layout statements [])

module _ (file : List ℕ) (m : Memory) (x : Result) where
  by_answer : (b : Bool) (a : Answer) → right_lengths m ≡ b → read file ≡ a → numbered a ≡ true → x ≡ cond b (leaves a) (result 1 0 m) → x.number ≡ 0 → Accepted file m x
  unfolding leaves numbered
  by_answer true (accepted ss) eb ea n e z = record { statements = ss; lengths = eb; reads = ea; is = e }
  by_answer true (refused k p) eb ea n e z =
      let q : x.number ≡ k = ap (λ (y : Result). y.number) e in
      absurd (omega (arith, leb-true 1 k n))
  by_answer false a eb ea n e z =
      let q : x.number ≡ 1 = ap (λ (y : Result). y.number) e in
      absurd (omega arith)

  pub number_read : x ≡ fill_into file m → x.number ≡ 0 → Accepted file m x
  unfolding fill_into
  number_read e z = by_answer (right_lengths m) (read file) refl refl (read-numbered file) e z
