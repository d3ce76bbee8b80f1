-- An index of the rows of statements and of those of wires in the same two tables: none yet, one row more, one wire more.
-- Assumes nothing.
use Rattle.std.specs.Prelude.{ℕ, ◌+◌, ◌<◌, ◌≤◌, ◌≡◌, refl, List, cond, eqb, length, get_or, set, drop, replicate}
use Rattle.std.proofs.Common.{sym, ap, ◌∙◌, arith, length-set, length-drop, get_or-drop, get_or-set_other, drop-set-lt, eq-eqb, ne_eqb}
use Rattle.std.proofs.lemmas.List.{length-replicate, drop-set-add}
use Rattle.wires.specs.Rows.{name_of}
use Rattle.name_index.specs.HashLaws.{hash-less}
use Rattle.name_index.specs.Index.{hash_count, key_count, row_room, wire_room, all_heads, all_chain, key_at, wire_key, Indexed, WiresIndexed, LinesIndexed}
use Rattle.name_index.specs.IndexLaws.{key-less, none_from, row_put, indexed-more}

-- no row yet
pub lines_none : (heads chain names wires rows : List ℕ) → heads ≡ replicate all_heads 0 → length chain ≡ all_chain → LinesIndexed heads chain names wires rows 0 0
lines_none heads chain names wires rows e l =
    record {
      heads-long = ap length e ∙ length-replicate {A = ℕ} all_heads 0;
      chain-long = l;
      by_row = rw e (none_from 0 all_heads chain (key_at names rows) (omega arith));
      by-wire = record { indexed = rw e (none_from key_count all_heads (drop row_room chain) (wire_key names wires) (omega arith)) };
    }

-- what stands elsewhere may change
apart :
    (heads chain heads' chain' : List ℕ) (key : ℕ → ℕ) (n : ℕ) → key_count ≤ length heads' → n ≤ length chain' →
    ((h : ℕ) → h < key_count → get_or heads' h 0 ≡ get_or heads h 0) → ((k : ℕ) → k < n → get_or chain' k 0 ≡ get_or chain k 0) →
    Indexed heads chain key n → Indexed heads' chain' key n
apart heads chain heads' chain' key n l m f g x =
    record { keys = l; room = m; head = λ h q. f h q ∙ x.head h q; older = λ k q. g k q ∙ x.older k q }

key-few : (names wires : List ℕ) (k : ℕ) → wire_key names wires k < hash_count
unfolding wire_key
key-few names wires k = hash-less (name_of names wires k)

module _ (heads chain names wires rows : List ℕ) (n m : ℕ) (x : LinesIndexed heads chain names wires rows n m) where
  module _ (h : ℕ) (eh : h ≡ key_at names rows n) where
    pub row_fits : h < length heads
    row_fits = omega (arith, x.heads-long, eh, key-less names rows n)

    pub line_row :
        n < row_room → (heads' chain' : List ℕ) → heads' ≡ set heads h (n + 1) → chain' ≡ set chain n (get_or heads h 0) →
        LinesIndexed heads' chain' names wires rows (n + 1) m
    line_row q heads' chain' a b =
        let l : h < key_count = omega (arith, eh, key-less names rows n) in
        record {
          heads-long = rw a (length-set heads h (n + 1) ∙ x.heads-long);
          chain-long = rw b (length-set chain n (get_or heads h 0) ∙ x.chain-long);
          by_row = row_put names rows heads chain n h x.by_row eh (omega (arith, x.chain-long)) heads' chain' a b;
          by-wire =
              record { indexed = rw (a, b, drop-set-lt key_count heads h (n + 1) l, drop-set-lt row_room chain n (get_or heads h 0) q) x.by-wire.indexed };
        }

  module _ (g : ℕ) (eg : g ≡ wire_key names wires m) where
    pub wire-fits : key_count + g < length heads
    wire-fits = omega (arith, x.heads-long, eg, key-few names wires m)

    pub line-wire :
        n ≤ row_room → m < wire_room → (heads' chain' : List ℕ) → heads' ≡ set heads (key_count + g) (m + 1) → chain' ≡ set chain (row_room + m) (get_or heads (key_count + g) 0) →
        LinesIndexed heads' chain' names wires rows n (m + 1)
    line-wire q r heads' chain' a b =
        let hl : length heads' ≡ all_heads = rw a (length-set heads (key_count + g) (m + 1) ∙ x.heads-long) in
        let cl : length chain' ≡ all_chain = rw b (length-set chain (row_room + m) (get_or heads (key_count + g) 0) ∙ x.chain-long) in
        let key : ℕ → ℕ = wire_key names wires in
        let da : drop key_count heads' ≡ set (drop key_count heads) g (m + 1) = ap (drop key_count) a ∙ drop-set-add key_count heads g (m + 1) in
        let db : drop row_room chain' ≡ set (drop row_room chain) m (get_or (drop key_count heads) g 0) =
        ap (drop row_room) b ∙ drop-set-add row_room chain m (get_or heads (key_count + g) 0) ∙ ap (set (drop row_room chain) m) (sym (get_or-drop key_count heads g 0)) in
        record {
          heads-long = hl;
          chain-long = cl;
          by_row =
              apart heads chain heads' chain' (key_at names rows) n (omega arith) (omega arith)
              (λ h p. rw a (get_or-set_other heads (key_count + g) h (m + 1) 0 (λ e. omega arith)))
              (λ k p. rw b (get_or-set_other chain (row_room + m) k (get_or heads (key_count + g) 0) 0 (λ e. omega arith)))
              x.by_row;
          by-wire =
              record {
                indexed = rw (da, db, eg)
                    (indexed-more (drop key_count heads) (drop row_room chain) key m x.by-wire.indexed (omega (arith, key-few names wires m))
                    (omega (arith, length-drop row_room chain, x.chain-long)));
              };
        }

pub lines-upto :
    {heads chain names wires rows : List ℕ} {n m k l : ℕ} → k ≡ n → l ≡ m → LinesIndexed heads chain names wires rows n m →
    LinesIndexed heads chain names wires rows k l
lines-upto e d x = rw (e, d) x

pub wires-upto : {heads chain names wires : List ℕ} {k n : ℕ} → k ≡ n → WiresIndexed heads chain names wires n → WiresIndexed heads chain names wires k
wires-upto e x = rw e x

-- by the kind of the line's statement
module _ {heads chain names wires rows : List ℕ} {n : ℕ} (m k : ℕ) where
  pub line_plain : (k ≡ 5 → ⊥) → LinesIndexed heads chain names wires rows n m → LinesIndexed heads chain names wires rows n (m + cond (eqb k 5) 1 0)
  line_plain e x = rw (ne_eqb k 5 e) (lines-upto refl (omega arith) x)

  pub line-declared : k ≡ 5 → LinesIndexed heads chain names wires rows n (m + 1) → LinesIndexed heads chain names wires rows n (m + cond (eqb k 5) 1 0)
  line-declared e x = rw (eq-eqb k 5 e) x
