-- A refusal's text is short; what is printed of the memory that a file leaves is the program's answer to the file.
-- Assumes nothing.
use Prim.Native.Nat.{ℕ, zero, suc, ◌+◌, ◌*◌, ◌/◌, ◌%◌, ◌≤◌, ◌<◌}
use mathlib.Core.Path.{◌≡◌, refl, sym, ap, ap₂, ◌∙◌}
use mathlib.Core.List.{List, [], ◌∷◌}
use mathlib.Core.Bool.{Bool, true, false, ◌||◌}
use native.Mathlib.Omega.{arith}
use lib.Dec.{ltb}
use lib.ListN.{length, length-append}
use borrow.Author.Tests.{lt-ltb, ltb-false}
use Rattle.rules.specs.Statements.{Statement}
use Rattle.rules.specs.Judgement.{Verdict, verdict, lowest}
use Rattle.rules.specs.Reading.{Answer, accepted, refused, read, checked}
use Rattle.rules.specs.Design.{design}
use Rattle.rules.specs.Session.{Rename, now}
use Rattle.rules.specs.Text.{decimal_onto, decimal_text, text, write_text, write, refusal, printed, program_by, program}
use Rattle.rules.specs.Layout.{Memory}
use Rattle.lists.specs.Tests.{by_cond}
use Rattle.netlist.specs.Lengths.{right_sizes, right_lengths}
use Rattle.text.specs.Written.{Written, written-end, written-whole}
use Rattle.netlist.specs.Results.{Result}
use Rattle.reader.specs.Fill.{fill_into, fill-checked}
use Rattle.memory_check.specs.HeldLaws.{holds-sizes}
use Rattle.session.specs.Called.{Called, wrong-lengths, damaged, holding}
use Rattle.writer.specs.Write.{wrote}
use Rattle.session.specs.CalledLaws.{called-one, called-turn}
use Rattle.calls.specs.StepLaws.{read-holds, Accepted, number_read}
use Rattle.answer.specs.Printed.{putting, PrintedAs}

-- A REFUSAL has at most 22 bytes
tens : ℕ → ℕ
tens zero = 10
tens (suc j) = 10 * tens j

onto-short : (j k n : ℕ) (ds : List ℕ) → n < tens j → length (decimal_onto k n ds) ≤ suc j + length ds
unfolding decimal_onto tens
onto-short j zero n ds h = omega arith
onto-short zero (suc k) n ds h = rw (lt-ltb n 10 h) (omega arith)
onto-short (suc j) (suc k) n ds h =
    by_cond (λ (l : List ℕ). length l ≤ suc (suc j) + length ds) (ltb n 10) (λ e. omega arith)
    (λ e. omega (arith, onto-short j k (n / 10) ((48 + n % 10) ∷ ds) (omega arith)))

decimal-short : (n : ℕ) → n < 4294967296 → length (decimal_text n) ≤ 10
unfolding decimal_text tens
decimal-short n h = onto-short 9 (suc n) n [] (omega arith)

refusal-short : (n p : ℕ) → n < 4294967296 → p < 4294967296 → length (refusal n p) ≤ 22
unfolding refusal
refusal-short n p h k = simp length-append (omega (arith, decimal-short n h, decimal-short p k))

module _ (n p : ℕ) (hn : n < 4294967296) (hp : p < 4294967296) {old new : List ℕ} {r : ℕ} (w : Written 0 (refusal n p) old new r) where
  fits : 0 + length (refusal n p) ≤ 32768
  fits = omega (arith, refusal-short n p hn hp)

  pub refusal-put : ◌≡◌ {A = ℕ × List ℕ} (r, new) (putting old (refusal n p))
  unfolding putting
  refusal-put =
      let z : r ≡ length (refusal n p) = omega (arith, written-end w fits) in
      λ i. (z i, written-whole w fits i)

  pub refusal-fits : r ≤ 32768
  refusal-fits = omega (arith, written-end w fits, fits)

-- WHAT IS WRITTEN of the memory, or refused
module _ (m : Memory) (old mid : List ℕ) (n len : ℕ) where
  abbrev Wrote : Type 0
  Wrote = Called m (λ k. (k, 0, old)) (λ ss rs. wrote old (write (length old) (now (design ss) rs))) (n, len, mid)

  abbrev By : List ℕ → Bool → Verdict (List ℕ)
  By t b = verdict t (lowest ((12, b) ∷ []))

  is : {k l : ℕ} {o : List ℕ} → ◌≡◌ {A = ℕ × ℕ × List ℕ} (n, len, mid) (k, l, o) → (n ≡ k) × (len ≡ l) × (mid ≡ o)
  is q = (ap (λ (a : ℕ × ℕ × List ℕ). a.0) q, ap (λ (a : ℕ × ℕ × List ℕ). a.1) q, ap (λ (a : ℕ × ℕ × List ℕ). a.2) q)

  -- a refused writing changed nothing
  module _ (z : n ≡ 0 → ⊥) (new : List ℕ) (r : ℕ) (p : ◌≡◌ {A = ℕ × List ℕ} (r, new) (putting mid (refusal n 0))) where
    put-number : (k : ℕ) → ◌≡◌ {A = ℕ × ℕ × List ℕ} (n, len, mid) (k, 0, old) → ◌≡◌ {A = ℕ × List ℕ} (r, new) (putting old (refusal k 0))
    put-number k q = p ∙ ap₂ (λ (l : List ℕ) (e : ℕ). putting l (refusal e 0)) (is q).2 (is q).0

    refused-by : (t : List ℕ) (b : Bool) → ◌≡◌ {A = ℕ × ℕ × List ℕ} (n, len, mid) (wrote old (By t b)) → ◌≡◌ {A = ℕ × List ℕ} (r, new) (putting old (printed (By t b)))
    unfolding wrote verdict lowest printed
    refused-by t true q = put-number 12 q
    refused-by t false q = absurd (z (is q).0)

    pub held-refused : Wrote → PrintedAs m old new r
    unfolding write write_text
    held-refused = called-turn (λ k h. put-number k) (λ ss rs. refused-by (text (now (design ss) rs)) _)

  module _ (z : n ≡ 0) where
    no_number : {A : Type 0} (k : ℕ) → 0 < k → ◌≡◌ {A = ℕ × ℕ × List ℕ} (n, len, mid) (k, 0, old) → A
    no_number k h q = absurd (omega (arith, (is q).0))

    written-by : (t : List ℕ) (b : Bool) → ◌≡◌ {A = ℕ × ℕ × List ℕ} (n, len, mid) (wrote old (By t b)) → ◌≡◌ {A = ℕ × List ℕ} (len, mid) (putting old (printed (By t b)))
    unfolding wrote verdict lowest printed putting
    written-by t true q = no_number 12 (omega arith) q
    written-by t false q = λ i. ((is q).1 i, (is q).2 i)

    pub held-written : Wrote → PrintedAs m old mid len
    unfolding write write_text
    held-written = called-turn (λ k. no_number k) (λ ss rs. written-by (text (now (design ss) rs)) _)

  fits_by : (t : List ℕ) (a b : Bool) → ltb 32768 (length t) ≡ a → ◌≡◌ {A = ℕ × ℕ × List ℕ} (n, len, mid) (wrote old (By t (a || b))) → len ≤ 32768
  unfolding wrote verdict lowest
  fits_by t true b e q = omega (arith, (is q).1)
  fits_by t false true e q = omega (arith, (is q).1)
  fits_by t false false e q = omega (arith, (is q).1, ltb-false 32768 (length t) e)

  pub written-fits : Wrote → len ≤ 32768
  unfolding write write_text
  written-fits (wrong-lengths e q) = omega (arith, (is q).1)
  written-fits (damaged e d q) = omega (arith, (is q).1)
  written-fits (holding ss rs e h q) = fits_by (text (now (design ss) rs)) _ _ refl q

-- TABLES of the lengths that calls ask for
pub right-lengths :
    (m : Memory) → length m.names ≡ 16384 → length m.strings ≡ 8192 → length m.bits ≡ 16384 → length m.wires ≡ 4096 → length m.rows ≡ 55560 →
    right_lengths m ≡ true
unfolding right_lengths right_sizes
right-lengths m n s b w r = rw (n, s, b, w, r)

-- WHAT THE FILE GIVES, n and p being what the check says of it
module _ (file : List ℕ) (n p : ℕ) (c : ◌≡◌ {A = ℕ × ℕ} (n, p) (checked (read file))) where
  refused-by-answer : (a : Answer) → ◌≡◌ {A = ℕ × ℕ} (n, p) (checked a) → (n ≡ 0 → ⊥) → refusal n p ≡ program_by a
  unfolding checked program_by
  refused-by-answer (accepted ss) e z = absurd (z (ap (λ (y : ℕ × ℕ). y.0) e))
  refused-by-answer (refused k q) e z = ap (λ (y : ℕ × ℕ). refusal y.0 y.1) e

  pub answer-refused : (n ≡ 0 → ⊥) → refusal n p ≡ program file
  unfolding program
  answer-refused z = refused-by-answer (read file) c z

  -- and x what the fill then left
  module _ (z : n ≡ 0) (m : Memory) (l : right_lengths m ≡ true) (x : Result) (e : x ≡ fill_into file m) (old : List ℕ) (size : length old ≡ 32768) where
    fill-taken : x.number ≡ 0
    fill-taken = ap (λ (y : Result). y.number) e ∙ ap (λ (y : ℕ × ℕ). y.0) (fill-checked file m l ∙ sym c) ∙ z

    abbrev says : List Statement → List Rename → ℕ × List ℕ
    says ss rs = putting old (printed (write (length old) (now (design ss) rs)))

    says-program : (a : Accepted file m x) → says a.statements [] ≡ putting old (program file)
    unfolding program program_by now
    says-program a = rw (a.reads, size)

    pub answer-held : (new : List ℕ) (r : ℕ) → PrintedAs x.memory old new r → ◌≡◌ {A = ℕ × List ℕ} (r, new) (putting old (program file))
    answer-held new r h =
        let a = number_read file m x e fill-taken in
        let held = read-holds file a.reads a.is in
        called-one h (holding a.statements [] (holds-sizes held) held refl) ∙ says-program a
