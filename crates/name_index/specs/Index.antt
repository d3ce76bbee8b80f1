-- An index of rows by their keys: heads by key, and a chain by row. A key here is the hash of the row's name.
use Rattle.std.specs.Prelude.{ℕ, zero, suc, ◌+◌, ◌*◌, ◌%◌, ◌<◌, ◌≤◌, ◌≡◌, List, [], ◌∷◌, Bool, true, cond, eqb, length, get_or, drop}
use Rattle.rules.specs.Tokens.{Name}
use Rattle.wires.specs.Rows.{name_of}
use Rattle.netlist.specs.Rows.{kind_at, name_at}
use Rattle.netlist.specs.Kinds.{has_name}

-- how many hashes there are, and how many keys: one more, for the rows without a name
abbrev pub hash_count : ℕ
hash_count = 512

abbrev pub key_count : ℕ
key_count = 513

-- room for the rows of a file and for its wires, and one more of each
abbrev pub row_room : ℕ
row_room = 6882

abbrev pub wire_room : ℕ
wire_room = 513

-- the lengths of heads and chain with those of the wires behind those of the rows
abbrev pub all_heads : ℕ
all_heads = 1026

abbrev pub all_chain : ℕ
all_chain = 7395

-- the hash of a name
unfoldable pub hash_step : ℕ → ℕ → ℕ
hash_step h b = (h * 31 + b) % hash_count

unfoldable pub hash_from : ℕ → Name → ℕ
hash_from h [] = h
hash_from h (b ∷ bs) = hash_from (hash_step h b) bs

unfoldable pub hash_of : Name → ℕ
hash_of n = hash_from 0 n

-- the hash of a row's own name; of a row whose kind has none, a key that no name has
unfoldable pub key_at : List ℕ → List ℕ → ℕ → ℕ
key_at names rows k = cond (has_name (kind_at rows k)) (hash_of (name_at names rows k)) hash_count

-- the hash of a wire's name, by its row
unfoldable pub wire_key : List ℕ → List ℕ → ℕ → ℕ
wire_key names wires k = hash_of (name_of names wires k)

-- among these rows the kinds that pass a test have names
abbrev pub Named : (rows : List ℕ) → (test : ℕ → Bool) → (from count : ℕ) → Type 0
Named rows test from count = (k : ℕ) → from ≤ k → k < from + count → test (kind_at rows k) ≡ true → has_name (kind_at rows k) ≡ true

-- one more than the youngest row of a key among the first n rows, or 0
unfoldable pub youngest : (key : ℕ → ℕ) → (h n : ℕ) → ℕ
youngest key h zero = 0
youngest key h (suc k) = let r = youngest key h k in cond (eqb (key k) h) (suc k) r

-- heads and chain index the first n rows: the head of a key is its youngest row, and behind a row stands the next older one of its key
pub record Indexed (heads chain : List ℕ) (key : ℕ → ℕ) (n : ℕ) : Type 0 where
  pub keys : key_count ≤ length heads
  pub room : n ≤ length chain
  pub head : (h : ℕ) → h < key_count → get_or heads h 0 ≡ youngest key h n
  pub older : (k : ℕ) → k < n → get_or chain k 0 ≡ youngest key (key k) k

-- behind the rows' heads and chain they index the first n rows of the wires
pub record WiresIndexed (heads chain names wires : List ℕ) (n : ℕ) : Type 0 where
  pub indexed : Indexed (drop key_count heads) (drop row_room chain) (wire_key names wires) n

-- both: the first n rows of the statements, and the first m rows of the wires
pub record LinesIndexed (heads chain names wires rows : List ℕ) (n m : ℕ) : Type 0 where
  pub heads-long : length heads ≡ all_heads
  pub chain-long : length chain ≡ all_chain
  pub by_row : Indexed heads chain (key_at names rows) n
  pub by-wire : WiresIndexed heads chain names wires m
