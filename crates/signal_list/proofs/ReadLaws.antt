-- The signals of a line as they come: those read so far, and those from a row on.
-- Assumes nothing.
use Prim.Native.Nat.{ℕ, suc, ◌+◌, ◌-◌, ◌*◌, ◌/◌, ◌<◌, ◌≤◌}
use mathlib.Core.Path.{◌≡◌, refl, sym, ap, ◌∙◌}
use mathlib.Core.List.{List, [], ◌∷◌, ◌++◌}
use mathlib.Core.Option.{Option, none, some}
use mathlib.Core.Bool.{Bool, true, false, ◌&&◌, and-true, and-false}
use native.Mathlib.Omega.{arith}
use lib.Dec.{ltb}
use lib.ListN.{length}
use borrow.Author.Tests.{lt-ltb}
use Rattle.std.specs.Prelude.{Some, None, Option as Optional}
use Rattle.rules.specs.Tokens.{Token}
use Rattle.rules.specs.Statements.{Sig}
use Rattle.rules.specs.Shapes.{nowhere, signal, sigspec}
use Rattle.rules.specs.Signals.{Wires}
use Rattle.tokens.specs.Rows.{line}
use Rattle.tokens.proofs.TokenLaws.{line-end, line_row, line-long}
use Rattle.signals.specs.Reads.{mark_at, AnswerRead, SignalIs}
use Rattle.signals.specs.declared.Answer.{Answer}
use Rattle.signals.proofs.Parses.{either-yes, either-not}
use Rattle.signal_list.specs.Lists.{further, onward, list_on, listed}
use Rattle.signal_list.specs.ListLaws.{list-end}
use Rattle.signal_list.specs.Sums.{place_of, added_to, listed_of}
use Rattle.signal_list.specs.Reads.{NextIs, ListedIs}
use Rattle.signal_list.specs.declared.Sum.{Sum}
use Rattle.signal_list.specs.declared.Listed.{Listed}
use Rattle.signal_list.proofs.SumLaws.{SumHeld, nothing_read, sum-start, sum_more, sum_told}

-- ---- the next signal, with a comma before it or without

module _ (f t : List ℕ) (ws : Wires) (i total : ℕ) (out : List ℕ) where
  next-plain : (out' : List ℕ) (r : Optional Answer) → SignalIs f t ws i 16 (place_of total) out out' r → NextIs f t ws i false total out out' r
  unfolding further sigspec
  next-plain out' r A = A

  pub next-none : mark_at t i 44 ≡ false → NextIs f t ws i true total out out None
  unfolding further nowhere
  next-none e = record { kept = record { long = refl; below = refl }; read = either-not t i f "," sigspec nowhere e }

  next-comma : (out' : List ℕ) (r : Optional Answer) → mark_at t i 44 ≡ true → SignalIs f t ws (i + 1) 16 (place_of total) out out' r → NextIs f t ws i true total out out' r
  unfolding further sigspec
  next-comma out' r e A = record { kept = A.kept; read = by r A.read }
    where
      is : further true (line f t i) ≡ signal 16 (line f t (i + 1))
      is = either-yes t i f "," sigspec nowhere e

      by : (r : Optional Answer) → AnswerRead f t ws (signal 16 (line f t (i + 1))) (i + 1) (place_of total) out' r → AnswerRead f t ws (further true (line f t i)) i (place_of total) out' r
      by (Some a) R =
          (omega (arith, R.0), R.1, omega (arith, R.0, R.2), record { sig = R.3.sig; is = is ∙ R.3.is; held = R.3.held })
      by None R = is ∙ R

  module _ (comma : Bool) (at o : ℕ) (place : o ≡ place_of total) (out' : List ℕ) (r : Optional Answer) (A : SignalIs f t ws at 16 o out out' r) where
    pub next-with : comma ≡ true → mark_at t i 44 ≡ true → at ≡ i + 1 → NextIs f t ws i comma total out out' r
    next-with h m e = rw h (next-comma out' r m (rw (e, place) at A))

    pub next-without : comma ≡ false → at ≡ i → NextIs f t ws i comma total out out' r
    next-without h e = rw h (next-plain out' r (rw (e, place) at A))

-- ---- the list, from a row on

-- behind those that were read
unfoldable pub resumed : Bool → ℕ → List Sig → List Token → Option (List Sig)
resumed comma k [] ts = listed comma ts
resumed comma k (s ∷ ss) ts = list_on comma k (s ∷ ss) ts

module _ (f t : List ℕ) (comma : Bool) (at : ℕ) where
  resumed-end : length t / 4 ≤ at → (k : ℕ) (ss : List Sig) → resumed comma k ss (line f t at) ≡ some ss
  unfolding resumed listed
  resumed-end h k [] = rw (line-end f t at h)
  resumed-end h k (s ∷ ss) = rw (line-end f t at h) (list-end comma k (s ∷ ss))

  module _ (here : at < length t / 4) where
    first_on : listed comma (line f t at) ≡ onward (sigspec (line f t at)) (λ s us. list_on comma (length us) (s ∷ []) us)
    unfolding listed
    first_on = rw (line_row f t at here)

    later-on : (k : ℕ) (ss : List Sig) → list_on comma (suc k) ss (line f t at) ≡ onward (further comma (line f t at)) (λ s us. list_on comma k (ss ++ s ∷ []) us)
    unfolding list_on
    later-on k ss = rw (line_row f t at here)

    -- a comma is due behind a signal
    abbrev Due : Bool → List Sig → Type 0
    Due due ss = due ≡ (comma && ltb 0 (length ss))

    no-comma : (due : Bool) → Due due [] → further due (line f t at) ≡ sigspec (line f t at)
    unfolding further
    no-comma due d = rw (d, and-false comma)

    own-comma : (due : Bool) (s : Sig) (ss : List Sig) → Due due (s ∷ ss) → further due (line f t at) ≡ further comma (line f t at)
    own-comma due s ss d = ap (λ (b : Bool). further b (line f t at)) (d ∙ rw (lt-ltb 0 (length (s ∷ ss)) (omega arith)) (and-true comma))

    module _ (due : Bool) (k : ℕ) (enough : length t / 4 - at ≤ k) where
      fuel : k ≡ suc (k - 1)
      fuel = omega arith

      resumed-none : (ss : List Sig) → Due due ss → further due (line f t at) ≡ none → resumed comma k ss (line f t at) ≡ none
      unfolding resumed onward
      resumed-none [] d e = first_on ∙ rw (sym (no-comma due d) ∙ e)
      resumed-none (s ∷ ss) d e = ap (λ (n : ℕ). list_on comma n (s ∷ ss) (line f t at)) fuel ∙ later-on (k - 1) (s ∷ ss) ∙ rw (sym (own-comma due s ss d) ∙ e)

      resumed-on :
          (ss : List Sig) → Due due ss → (s : Sig) (n : ℕ) → at < n → further due (line f t at) ≡ some (s, line f t n) →
          (j : ℕ) × (length t / 4 - n ≤ j) × (resumed comma k ss (line f t at) ≡ resumed comma j (ss ++ s ∷ []) (line f t n))
      unfolding resumed onward
      resumed-on [] d s n l e =
          (length (line f t n), omega (arith, line-long f t n), first_on ∙ rw (sym (no-comma due d) ∙ e))
      resumed-on (x ∷ ss) d s n l e =
          (k - 1, omega arith, ap (λ (m : ℕ). list_on comma m (x ∷ ss) (line f t at)) fuel ∙ later-on (k - 1) (x ∷ ss) ∙ rw (sym (own-comma due x ss d) ∙ e))

-- ---- where the loop stands: in row at

pub record ListOn (f t : List ℕ) (ws : Wires) (i : ℕ) (comma : Bool) (out₀ out : List ℕ) (at : ℕ) (l : Sum) : Type 0 where
  pub long : length out ≡ length out₀
  pub from : i ≤ at
  pub within : at ≤ length t / 4
  pub few : l.count ≤ at - i
  pub bits : l.total ≤ (at - i) * 4294967296
  pub read : List Sig
  pub fuel : ℕ
  pub enough : length t / 4 - at ≤ fuel
  pub is : listed comma (line f t i) ≡ resumed comma fuel read (line f t at)
  pub held : SumHeld ws read out l

module _ (f t : List ℕ) (ws : Wires) (i : ℕ) (comma : Bool) (out₀ : List ℕ) where
  pub list-start : i ≤ length t / 4 → ListOn f t ws i comma out₀ out₀ i nothing_read
  unfolding resumed
  list-start h =
      record {
        long = refl;
        from = omega arith;
        within = h;
        few = omega arith;
        bits = omega arith;
        read = [];
        fuel = length t / 4;
        enough = omega arith;
        is = refl;
        held = sum-start ws out₀;
      }

  module _ (out : List ℕ) (at : ℕ) (l : Sum) (S : ListOn f t ws i comma out₀ out at l) where
    pub list-told : (r : Listed) → length t / 4 ≤ at → r ≡ listed_of l → ListedIs f t ws i comma out₀ out (Some r)
    unfolding listed_of
    list-told r h e =
        rw e (record {
          long = S.long;
          read = record {
            sigs = S.read;
            is = S.is ∙ resumed-end f t comma at h S.fuel S.read;
            few = omega (arith, S.few, S.within);
            held = sum_told ws S.read out l S.held;
          };
        })

    module _ (due : Bool) (d : due ≡ (comma && ltb 0 l.count)) (here : at < length t / 4) (out' : List ℕ) where
      due-read : due ≡ (comma && ltb 0 (length S.read))
      due-read = d ∙ ap (λ (n : ℕ). comma && ltb 0 n) (sym S.held.many)

      pub list-broken : NextIs f t ws at due l.total out out' None → ListedIs f t ws i comma out₀ out' None
      list-broken A =
          record {
            long = A.kept.long ∙ S.long;
            read = S.is ∙ resumed-none f t comma at here due S.fuel S.enough S.read due-read A.read;
          }

      pub list_on_lem : (a : Answer) (r : Sum) → NextIs f t ws at due l.total out out' (Some a) → r ≡ added_to l a.bits → ListOn f t ws i comma out₀ out' a.next r
      unfolding added_to
      list_on_lem a r A e =
          let G = A.read.3 in
          let R = resumed-on f t comma at here due S.fuel S.enough S.read due-read G.sig a.next A.read.0 G.is in
          rw e (record {
            long = A.kept.long ∙ S.long;
            from = omega (arith, S.from, A.read.0);
            within = A.read.1;
            few = omega (arith, S.few, S.from, A.read.0);
            bits = omega (arith, S.bits, S.from, A.read.0, A.read.2);
            read = S.read ++ G.sig ∷ [];
            fuel = R.0;
            enough = R.1;
            is = S.is ∙ R.2;
            held = sum_more ws S.read G.sig out out' l a.bits S.held A.kept G.held;
          })
