-- The replay: the statements that the tables hold begin with those replayed so far.
-- Assumes nothing.
use Prim.Native.Nat.{ℕ, ◌+◌, ◌*◌}
use mathlib.Core.Path.{◌≡◌, refl, sym, ap, ◌∙◌, subst}
use mathlib.Core.List.{List, [], ◌∷◌, flat_map}
use mathlib.Core.Logic.{⊎_elim}
use mathlib.Core.Bool.{Bool, true, false}
use native.Mathlib.Omega.{arith}
use Rattle.std.specs.Prelude.{Some, None}
use Rattle.std.specs.Prelude.{Option as Optional}
use Rattle.std.specs.Bool.{then_some}
use lib.ListN.{length, get_or}
use Rattle.rules.specs.Bytes.{within}
use Rattle.rules.specs.Statements.{Statement}
use Rattle.rules.specs.Judgement.{Past}
use Rattle.admitted.specs.Admitted.{admits, admitted, closes}
use Rattle.admitted.specs.AdmitLaws.{admits-last, admitted-few, admitted-within}
use Rattle.lists.specs.Tests.{never}
use Rattle.wires.specs.Rows.{word_at}
use Rattle.netlist.specs.Laid.{rooms_of}
use Rattle.netlist.specs.LaidLaws.{length-rows}
use Rattle.context.specs.Place.{place_of, closes_at, Bounds}
use Rattle.context.specs.Sizes.{sums_of, Within}
use Rattle.context.specs.declared.place.Place.{Place}
use Rattle.context.specs.declared.sizes.Sizes.{Sizes}
use Rattle.context.specs.declared.sizes.Standing.{Standing}
use Rattle.context.proofs.PlaceLaws.{bounds, closes-place, place-rows}
use Rattle.row_statements.specs.Reads.{PartTables}
use Rattle.replay.specs.OneLaws.{next-kind, stored_next}
use Rattle.name_index.specs.Index.{key_at, Indexed}
use Rattle.replay.specs.Begins.{is_statement, Replays, IndexLeft}
use Rattle.replay.specs.Turns.{Ready, Reached, TurnIs}

pub record Done (t : PartTables) (rows : List ℕ) (p : Place) (u : Sizes) : Type 0 where
  pub past : Past
  pub reached : Reached t rows past p u

pub done-start : (t : PartTables) (rows : List ℕ) (p : Place) (u : Sizes) → p ≡ place_of [] → u ≡ sums_of [] → Done t rows p u
unfolding rooms_of admitted flat_map
done-start t rows p u ep eu =
    record {
      past = [];
      reached = record {
        admits = refl;
        fronts = record { names-start = (t.names, refl); strings-start = (t.strings, refl); bits-start = (t.bits, refl); wires-start = (t.wires, refl); rows_start = (rows, refl) };
        place = sym ep;
        sums = sym eu;
      };
    }

-- ---- the turns of the loop

module _ (t : PartTables) (rows : List ℕ) (p : Place) (u : Sizes) (d : Done t rows p u) where
  abbrev ss : Past
  ss = d.past

  rows_are : length ss ≡ p.rows
  rows_are = place-rows ss d.reached.place

  pub done-ready : Ready p u
  done-ready =
      record {
        bounds = subst Bounds d.reached.place (bounds ss);
        few = omega (arith, rows_are, admitted-few ss d.reached.admits);
        within = subst Within d.reached.sums (admitted-within ss d.reached.admits);
      }

  module _ (k : ℕ) (ek : k ≡ get_or rows (8 * p.rows) 0) where
    kind-is : is_statement (word_at rows (8 * length (rooms_of ss).rows)) ≡ is_statement k
    unfolding word_at
    kind-is = ap (λ (n : ℕ). is_statement (get_or rows (8 * n) 0)) (length-rows ss ∙ rows_are) ∙ ap is_statement (sym ek)

    pub done-closed : is_statement k ≡ false → closes_at p ≡ true → Replays t rows (Some (record { place = p; sums = u }))
    unfolding Replays closes
    done-closed e c = (
      ss,
      record {
        admits = d.reached.admits;
        closed = closes-place ss ∙ ap closes_at d.reached.place ∙ c;
        begins = record { fronts = d.reached.fronts; ends = kind-is ∙ e };
      },
      d.reached.place,
      d.reached.sums,
    )

    pub done-open : is_statement k ≡ false → closes_at p ≡ false → Replays t rows None
    unfolding Replays closes
    done-open e c qs h =
        ⊎_elim (λ q. never (closes ss) (ap closes (sym q) ∙ h.closed) (closes-place ss ∙ ap closes_at d.reached.place ∙ c))
        (λ q. never (is_statement k) (sym kind-is ∙ next-kind q.1 ss q.3) e)
        (stored_next qs ss h d.reached.admits d.reached.fronts)

    pub done_over : is_statement k ≡ false → (b : Bool) → b ≡ closes_at p → Replays t rows (then_some b (record { place = p; sums = u }))
    done_over e true c = done-closed e (sym c)
    done_over e false c = done-open e (sym c)

    pub done_stuck : is_statement k ≡ true → (o : Optional Standing) → TurnIs t rows p u o → o ≡ None → Replays t rows None
    unfolding Replays TurnIs
    done_stuck e o n eo qs h =
        let f = rw eo at n in
        ⊎_elim
        (λ q. never (is_statement k) e (sym kind-is ∙ ap (λ (l : Past). is_statement (word_at rows (8 * length (rooms_of l).rows))) (sym q) ∙ h.begins.ends))
        (λ q. f ss d.reached q.1 q.3 (admits-last q.1 ss q.4))
        (stored_next qs ss h d.reached.admits d.reached.fronts)

    module _ (e : is_statement k ≡ true) (o : Optional Standing) (x : Standing) (n : TurnIs t rows p u o) (eo : o ≡ Some x) where
      next-is : (s : Statement) × Reached t rows (s ∷ ss) x.place x.sums
      unfolding TurnIs
      next-is = let f = rw eo at n in f ss d.reached

      pub done_next : Done t rows x.place x.sums
      done_next = record { past = next-is.0 ∷ ss; reached = next-is.1 }

      pub next-rows : x.place.rows ≡ p.rows + 1
      next-rows = omega (arith, rows_are, place-rows (next-is.0 ∷ ss) next-is.1.place)

pub index_over :
    (heads chain names rows : List ℕ) (x : Standing) → Indexed heads chain (key_at names rows) x.place.rows → (b : Bool) →
    IndexLeft heads chain names rows (then_some b x)
unfolding IndexLeft
index_over heads chain names rows x h true = h
index_over heads chain names rows x h false = tt
