-- Tables that hold the same statements have the same keys, so that an index of them stays one while tables grow.
-- Assumes nothing.
use Rattle.std.specs.Prelude.{ℕ, ◌+◌, ◌<◌, ◌≡◌, refl, cond, take, drop}
use Rattle.std.proofs.Math.Path.{sym, ap}
use Rattle.std.proofs.Common.{◌∙◌, arith, length-append}
use mathlib.Core.List.{List, [], ◌∷◌, zip, zip_with, flat_map, append-nil}
use Rattle.std.proofs.Math.ListN.{length}
use Rattle.rules.specs.Tokens.{Name}
use Rattle.rules.specs.Statements.{Statement, Wire, wire-stmt, code, contents, own_name, statements_open}
use Rattle.rules.specs.Judgement.{Past}
use Rattle.rules.specs.Layout.{used, put, name_bytes, wire_rows}
use Rattle.lists.specs.Tests.{by-test, by_order}
use Rattle.lists.specs.Lists.{zip-none}
use Rattle.context.specs.Forms.{by-wire}
use Rattle.wires.specs.Rows.{name_of}
use Rattle.wires.specs.RowLaws.{row-name}
use Rattle.netlist.specs.Kinds.{has_name}
use Rattle.netlist.specs.RowLaws.{row-kind, row-own}
use Rattle.netlist.specs.Spans.{Has, starts-has}
use Rattle.netlist.specs.Laid.{rooms_of, Laid, Wired}
use Rattle.netlist.specs.LaidLaws.{laid-names, laid-last, laid-before}
use Rattle.netlist.specs.WireLaws.{eights-wires, wired-put, wired-row}
use Rattle.name_index.specs.Index.{hash_count, hash_of, key_at, wire_key, Indexed, WiresIndexed, LinesIndexed}
use Rattle.name_index.specs.IndexLaws.{indexed-same}

-- the key of the last row is that of its statement
unfoldable pub key_of : Statement → ℕ
key_of s = cond (has_name (code (contents s).kind)) (hash_of (own_name (contents s).names)) hash_count

key-last : {names rows : List ℕ} (s : Statement) (ss : Past) (k : ℕ) → k ≡ length ss → Laid (rooms_of (s ∷ ss)) names rows → key_at names rows k ≡ key_of s
unfolding key_at key_of rooms_of used
key-last {names} {rows} s ss k e l =
    let r = laid-last s ss k e l in
    let q = row-kind rows k (used (rooms_of ss)) s r in
    by-test (has_name (code (contents s).kind))
    (λ h. rw (q, h) (ap hash_of (row-own names rows k (used (rooms_of ss)) s r h (laid-names (rooms_of ss) s l))))
    (λ h. rw (q, h))

module _ {names rows names' rows' : List ℕ} where
  pub keys-laid : (ss : Past) → Laid (rooms_of ss) names rows → Laid (rooms_of ss) names' rows' → (k : ℕ) → k < length ss → key_at names rows k ≡ key_at names' rows' k
  keys-laid [] l m k q = absurd (omega arith)
  keys-laid (s ∷ ss) l m k q =
      by_order (length ss) k
      (λ w. let e : k ≡ length ss = omega arith in key-last s ss k e l ∙ sym (key-last s ss k e m))
      (λ w. keys-laid ss (laid-before s ss l) (laid-before s ss m) k w)

  -- one statement more in the tables
  pub indexed-grown :
      (heads chain : List ℕ) (s : Statement) (ss : Past) (n : ℕ) → n ≡ length ss → Laid (rooms_of ss) names rows → Laid (rooms_of (s ∷ ss)) names' rows' →
      Indexed heads chain (key_at names rows) n → Indexed heads chain (key_at names' rows') n
  indexed-grown heads chain s ss n e l m x =
      indexed-same heads chain (key_at names rows) (key_at names' rows') n (λ k q. keys-laid ss l (laid-before s ss m) k (omega arith)) x

-- the same of the wires' names: the last wire's, and those before it
last-wire : {names t : List ℕ} (w : Wire) (n : Name) (ss : Past) (k : ℕ) → k ≡ length (rooms_of ss).wires → Wired (rooms_of (wire-stmt w n ∷ ss)) names t → name_of names t k ≡ n
unfolding rooms_of put used name_bytes flat_map statements_open Has
last-wire {names} {t} w n ss k e l =
    let R = rooms_of ss in
    let h : take (length n) (drop (length R.names) names) ≡ n = starts-has names R.names n (length R.names) refl (rw append-nil at l.names-start) in
    rw e (row-name t (length R.wires) (used R) n w (wired-row R w n l (eights-wires ss)) names h)

one-wire : (w : Wire) (n : Name) (ss : Past) → length (rooms_of (wire-stmt w n ∷ ss)).wires ≡ length (rooms_of ss).wires + 1
unfolding rooms_of put wire_rows zip zip_with statements_open
one-wire w n ss = length-append (rooms_of ss).wires _

no-wire : (s : Statement) (ss : Past) → (contents s).wires ≡ [] → length (rooms_of (s ∷ ss)).wires ≡ length (rooms_of ss).wires
unfolding rooms_of put wire_rows
no-wire s ss e = rw (e, zip-none (contents s).names, append-nil)

module _ {names t names' t' : List ℕ} where
  wires-same : (ss : Past) → Wired (rooms_of ss) names t → Wired (rooms_of ss) names' t' → (k : ℕ) → k < length (rooms_of ss).wires → name_of names t k ≡ name_of names' t' k
  unfolding rooms_of
  wires-same [] l m k q = absurd (omega arith)
  wires-same (s ∷ ss) l m k q =
      by-wire
      (λ x. Wired (rooms_of (x ∷ ss)) names t → Wired (rooms_of (x ∷ ss)) names' t' → k < length (rooms_of (x ∷ ss)).wires → name_of names t k ≡ name_of names' t' k)
      (λ w n a b p.
      by_order (length (rooms_of ss).wires) k
      (λ o. let e : k ≡ length (rooms_of ss).wires = omega (arith, one-wire w n ss) in last-wire w n ss k e a ∙ sym (last-wire w n ss k e b))
      (λ o. wires-same ss (wired-put (rooms_of ss) (wire-stmt w n) a) (wired-put (rooms_of ss) (wire-stmt w n) b) k o))
      (λ x _ e a b p. wires-same ss (wired-put (rooms_of ss) x a) (wired-put (rooms_of ss) x b) k (omega (arith, no-wire x ss e))) s l m q

  wires-grown :
      (heads chain : List ℕ) (s : Statement) (ss : Past) (n : ℕ) → n ≡ length (rooms_of ss).wires → Wired (rooms_of ss) names t → Wired (rooms_of (s ∷ ss)) names' t' →
      WiresIndexed heads chain names t n → WiresIndexed heads chain names' t' n
  unfolding rooms_of wire_key
  wires-grown heads chain s ss n e l m x =
      record {
        indexed = indexed-same _ _ (wire_key names t) (wire_key names' t') n
            (λ k q. ap hash_of (wires-same ss l (wired-put (rooms_of ss) s m) k (omega arith))) x.indexed;
      }

  -- of both tables
  pub lines-grown :
      {rows rows' : List ℕ} (heads chain : List ℕ) (s : Statement) (ss : Past) (n m : ℕ) → n ≡ length ss → m ≡ length (rooms_of ss).wires → Laid (rooms_of ss) names rows →
      Laid (rooms_of (s ∷ ss)) names' rows' → Wired (rooms_of ss) names t → Wired (rooms_of (s ∷ ss)) names' t' →
      LinesIndexed heads chain names t rows n m → LinesIndexed heads chain names' t' rows' n m
  lines-grown heads chain s ss n m e d a b a' b' x =
      record {
        heads-long = x.heads-long;
        chain-long = x.chain-long;
        by_row = indexed-grown heads chain s ss n e a b x.by_row;
        by-wire = wires-grown heads chain s ss m d a' b' x.by-wire;
      }
