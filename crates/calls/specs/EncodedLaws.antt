-- Every list of calls can be lent: `encoded` gives words and texts that say just these calls, words of 32 bits and bytes if the calls have no other.
-- Assumes nothing.
use Prim.Native.Nat.{ℕ, zero, suc, ◌+◌, ◌*◌, ◌/◌, ◌<◌}
use Rattle.std.specs.Prelude.{◌≡◌, List, [], ◌∷◌, ◌++◌, length}
use Rattle.std.proofs.Math.Path.{refl}
use Rattle.std.proofs.Common.{ap, ap₂, ◌∙◌, append_assoc, length-append}
use native.Mathlib.Omega.{arith}
use Rattle.rules.specs.Session.{Call, rename, undo}
use Rattle.lists.specs.Elements.{Each, each_append}
use Rattle.lists.specs.Parts.{slice-between}
use Rattle.calls.specs.Calls.{call_word, rename_at, call_at, calls_from, calls_in}

-- the names of renames, one behind the other
unfoldable pub names_in : List Call → List ℕ
names_in [] = []
names_in (rename r ∷ cs) = r.new_name ++ names_in cs
names_in (undo ∷ cs) = names_in cs

-- five words a call, whose names stand from a place on
unfoldable pub words_from : ℕ → List Call → List ℕ
words_from at [] = []
words_from at (rename r ∷ cs) = 1 ∷ r.module_number ∷ r.wire_number ∷ at ∷ length r.new_name ∷ words_from (at + length r.new_name) cs
words_from at (undo ∷ cs) = 0 ∷ 0 ∷ 0 ∷ 0 ∷ 0 ∷ words_from at cs

unfoldable pub encoded : List Call → List ℕ × List ℕ
encoded cs = (words_from 0 cs, names_in cs)

-- the calls behind the first one are those of the words behind its five
module _ (a b c d e : ℕ) (ws ts : List ℕ) where
  later-word : (i k : ℕ) → call_word (a ∷ b ∷ c ∷ d ∷ e ∷ ws) ts (i + 1) k ≡ call_word ws ts i k
  unfolding call_word
  later-word i k = let h : 5 * (i + 1) + k ≡ suc (suc (suc (suc (suc (5 * i + k))))) = omega arith in rw h

  later-calls : (many i : ℕ) → calls_from (a ∷ b ∷ c ∷ d ∷ e ∷ ws) ts many (i + 1) ≡ calls_from ws ts many i
  unfolding calls_from call_at rename_at
  later-calls zero i = refl
  later-calls (suc l) i = rw (later-word i 0, later-word i 1, later-word i 2, later-word i 3, later-word i 4, later-calls l (i + 1))

from_place : (ts : List ℕ) (cs : List Call) → calls_from (words_from (length ts) cs) (ts ++ names_in cs) (length cs) 0 ≡ cs
unfolding calls_from call_at rename_at call_word words_from names_in
from_place ts [] = refl
from_place ts (rename r ∷ cs) =
    let n = r.new_name in
    let rest = rw (length-append ts n, append_assoc ts n (names_in cs)) at (from_place (ts ++ n) cs) in
    ap₂ ◌∷◌ (ap (λ (m : List ℕ). rename (record { module_number = r.module_number; wire_number = r.wire_number; new_name = m })) (slice-between ts n (names_in cs)))
    (later-calls 1 r.module_number r.wire_number (length ts) (length n) (words_from (length ts + length n) cs) (ts ++ (n ++ names_in cs)) (length cs) 0 ∙ rest)
from_place ts (undo ∷ cs) = ap (λ (l : List Call). undo ∷ l) (later-calls 0 0 0 0 0 (words_from (length ts) cs) (ts ++ names_in cs) (length cs) 0 ∙ from_place ts cs)

five-each : (at : ℕ) (cs : List Call) → length (words_from at cs) ≡ 5 * length cs
unfolding words_from
five-each at [] = refl
five-each at (rename r ∷ cs) = omega (arith, five-each (at + length r.new_name) cs)
five-each at (undo ∷ cs) = omega (arith, five-each at cs)

pub encoded-back : (cs : List Call) → calls_in (encoded cs).0 (encoded cs).1 ≡ cs
unfolding calls_in encoded
encoded-back cs = let h : length (words_from 0 cs) / 5 ≡ length cs = omega (arith, five-each 0 cs) in rw h (from_place [] cs)

-- a call whose numbers are words of 32 bits and whose name is bytes
abbrev pub Lendable : Call → Type 0
Lendable (rename r) = (r.module_number < 4294967296) × (r.wire_number < 4294967296) × Each (λ b. b < 256) r.new_name
Lendable undo = Unit {0}

words-lendable : (at : ℕ) (cs : List Call) → Each Lendable cs → at + length (names_in cs) < 4294967296 → Each (λ w. w < 4294967296) (words_from at cs)
unfolding words_from names_in
words-lendable at [] hs k = tt
words-lendable at (rename r ∷ cs) hs k =
    let n = r.new_name in
    let more = length-append n (names_in cs) in
    (omega arith, (hs.0.0, (hs.0.1, (omega (arith, k, more), (omega (arith, k, more), words-lendable (at + length n) cs hs.1 (omega (arith, k, more)))))))
words-lendable at (undo ∷ cs) hs k = (omega arith, (omega arith, (omega arith, (omega arith, (omega arith, words-lendable at cs hs.1 k)))))

pub encoded-words : (cs : List Call) → Each Lendable cs → length (encoded cs).1 < 4294967296 → Each (λ w. w < 4294967296) (encoded cs).0
unfolding encoded
encoded-words cs hs k = words-lendable 0 cs hs (omega (arith, k))

pub encoded-bytes : (cs : List Call) → Each Lendable cs → Each (λ b. b < 256) (encoded cs).1
unfolding encoded names_in
encoded-bytes [] hs = tt
encoded-bytes (rename r ∷ cs) hs = each_append (λ b. b < 256) r.new_name (names_in cs) hs.0.2 (encoded-bytes cs hs.1)
encoded-bytes (undo ∷ cs) hs = encoded-bytes cs hs.1
