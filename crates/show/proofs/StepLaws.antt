-- The turns of the searches for a row, and the parts of each answer.
-- Assumes nothing.
use Prim.Native.Nat.{ℕ, suc, ◌+◌, ◌≤◌, ◌<◌}
use mathlib.Core.Path.{◌≡◌, ap, ◌∙◌}
use mathlib.Core.List.{List}
use mathlib.Core.Bool.{Bool, true, false, cond}
use mathlib.Core.Logic.{◌⊎◌, ⊎_elim}
use lib.Dec.{ltb}
use lib.ListN.{length, get_or}
use borrow.Author.Tests.{lt-ltb, le-ltb, le-leb, lt-leb, ne_eqb}
use Rattle.scanner.specs.declared.parts.Span.{Span}
use Rattle.wires.specs.Rows.{column}
use Rattle.netlist.specs.Rows.{kind_at}
use Rattle.wire_names.specs.Now.{last_rename}
use Rattle.show.specs.Rows.{declares, wire_line, is_hdlname, hdlname_row}
use Rattle.show.specs.Parts.{part, cut_of, span_part, text_part, part_by, name_part, plain_part, shown_of, shown_part}
use Rattle.show.specs.declared.Shown.{Shown}

-- THE WIRE'S STATEMENT
module _ (rows : List ℕ) (w k : ℕ) where
  pub line-end : k ≡ 0 → wire_line rows k w ≡ 0
  unfolding wire_line
  line-end e = rw e

  module _ (j : ℕ) (b : Bool) (e : k ≡ suc j) (eb : b ≡ declares rows j w) where
    pub line-here : b ≡ true → wire_line rows k w ≡ j
    unfolding wire_line
    line-here t = rw (e, ← eb, t)

    pub line-next : b ≡ false → wire_line rows k w ≡ wire_line rows j w
    unfolding wire_line
    line-next t = rw (e, ← eb, t)

-- ITS ATTRIBUTE
module _ (names rows : List ℕ) (k found : ℕ) where
  pub hdlname-end : k ≡ 0 → hdlname_row names rows k found ≡ found
  unfolding hdlname_row
  hdlname-end e = rw e

  module _ (j : ℕ) (e : k ≡ suc j) where
    pub hdlname-stop : (kind_at rows j ≡ 2 → ⊥) → hdlname_row names rows k found ≡ found
    unfolding hdlname_row
    hdlname-stop n = rw (e, ne_eqb (kind_at rows j) 2 n)

    module _ (q : kind_at rows j ≡ 2) (b : Bool) (eb : b ≡ is_hdlname names rows j) where
      pub hdlname-here : b ≡ true → hdlname_row names rows k found ≡ hdlname_row names rows j k
      unfolding hdlname_row
      hdlname-here t = rw (e, q, ← eb, t)

      pub hdlname-next : b ≡ false → hdlname_row names rows k found ≡ hdlname_row names rows j found
      unfolding hdlname_row
      hdlname-next t = rw (e, q, ← eb, t)

-- THE PARTS
module _ (t : List ℕ) (start end stop : ℕ) (came : ((end < length t) × (stop ≡ end)) ⊎ ((length t ≤ end) × (stop ≡ length t))) where
  e : stop ≡ cond (ltb end (length t)) end (length t)
  e = ⊎_elim (λ w. rw (w.1, lt-ltb _ _ w.0)) (λ w. rw (w.1, le-ltb _ _ w.0)) came

  pub cut-none : stop ≤ start → part 0 0 ≡ cut_of t start end
  unfolding cut_of
  cut-none h = rw (← e, le-leb stop start h)

  pub cut-some : start < stop → part start stop ≡ cut_of t start end
  unfolding cut_of
  cut-some h = rw (← e, lt-leb stop start h)

module _ (strings rows : List ℕ) (behind : ℕ) where
  pub text-none : behind ≡ 0 → part 0 0 ≡ text_part strings rows behind
  unfolding text_part
  text-none e = rw e

  module _ (j : ℕ) (e : behind ≡ suc j) where
    pub text-other : (column rows j 3 ≡ 3 → ⊥) → part 0 0 ≡ text_part strings rows behind
    unfolding text_part
    text-other n = rw (e, ne_eqb (column rows j 3) 3 n)

    pub text-string : column rows j 3 ≡ 3 → span_part strings rows j 4 ≡ text_part strings rows behind
    unfolding text_part
    text-string q = rw (e, q)

pub name-at : (names wires rows : List ℕ) (from count m n k last l : ℕ) → last ≡ last_rename rows from count m n → last ≡ l → part_by names wires rows from k l ≡ name_part names wires rows from count m n k
unfolding name_part
name-at names wires rows from count m n k last l el e = rw (← el, e)

module _ (names : List ℕ) (p : Span) where
  pub plain-public : p.start < p.end → get_or names p.start 0 ≡ 92 → part (p.start + 1) p.end ≡ plain_part names p
  unfolding plain_part
  plain-public h e = rw (lt-ltb p.start p.end h, e)

  pub plain_other : p.start < p.end → (get_or names p.start 0 ≡ 92 → ⊥) → p ≡ plain_part names p
  unfolding plain_part
  plain_other h n = rw (lt-ltb p.start p.end h, ne_eqb (get_or names p.start 0) 92 n)

  pub plain-none : p.end ≤ p.start → p ≡ plain_part names p
  unfolding plain_part
  plain-none h = rw (le-ltb p.start p.end h)

module _ (names strings wires rows : List ℕ) (from count m n k line behind : ℕ) (t : Span)
    (el : line ≡ wire_line rows from k) (eb : behind ≡ hdlname_row names rows line 0) (et : t ≡ text_part strings rows behind) where
  text-found : t ≡ text_part strings rows (hdlname_row names rows (wire_line rows from k) 0)
  text-found = et ∙ ap (text_part strings rows) (eb ∙ ap (λ (x : ℕ). hdlname_row names rows x 0) el)

  pub shows-text : t.start < t.end → Shown.Text t ≡ shown_part names strings wires rows from count m n k
  unfolding shown_part shown_of
  shows-text h = rw (← text-found, lt-ltb t.start t.end h)

  pub shows-name :
      t.end ≤ t.start → (now p : Span) → now ≡ name_part names wires rows from count m n k → p ≡ plain_part names now →
      Shown.Name p ≡ shown_part names strings wires rows from count m n k
  unfolding shown_part shown_of
  shows-name h now p en ep = rw (← text-found, le-ltb t.start t.end h, ← en, ← ep)
