-- A bit is the one that its code stands for, and so is a sort.
use Rattle.std.specs.Prelude.{ℕ, zero, suc, ◌+◌, ◌-◌, ◌*◌, ◌/◌, ◌%◌, ◌<◌, ◌≤◌, ◌≡◌, refl, length, List, map}
use Rattle.std.proofs.Common.{ap, arith, lt-ltb, le-ltb}
use Rattle.std.proofs.lemmas.List.{length-map}
use Rattle.rules.specs.Tokens.{Digit, S0, S1, Sx, Sz, Sm, Sa}
use Rattle.rules.specs.Statements.{Bit, digit, bit, Signal, Sort}
use Rattle.rules.specs.Layout.{digit_code, bit_code, sort_code}
use Rattle.lists.specs.Tests.{by-lt}
use Rattle.lists.specs.Elements.{Each, each_all, map_back}
use Rattle.numbers.specs.Kinds.{digit_of, bit_of, bit_at, signal_of, sort_of}
use Rattle.numbers.specs.declared.kinds.SignalBit.{SignalBit}

pub digit-back : (d : Digit) → digit_of (digit_code d) ≡ d
unfolding digit_of digit_code
digit-back S0 = refl
digit-back S1 = refl
digit-back Sx = refl
digit-back Sz = refl
digit-back Sm = refl
digit-back Sa = refl

pub digit-code : (d : Digit) → digit_code d < 6
unfolding digit_code
digit-code S0 = omega arith
digit-code S1 = omega arith
digit-code Sx = omega arith
digit-code Sz = omega arith
digit-code Sm = omega arith
digit-code Sa = omega arith

pub code-digit : (c : ℕ) → c < 6 → digit_code (digit_of c) ≡ c
unfolding digit_of digit_code
code-digit zero h = refl
code-digit (suc zero) h = refl
code-digit (suc (suc zero)) h = refl
code-digit (suc (suc (suc zero))) h = refl
code-digit (suc (suc (suc (suc zero)))) h = refl
code-digit (suc (suc (suc (suc (suc zero))))) h = refl
code-digit (suc (suc (suc (suc (suc (suc c)))))) h = absurd (omega arith)

-- a digit, or one of the first 2,048 bits of a wire whose number is below n
unfoldable pub Within : ℕ → Bit → Type 0
Within n (digit d) = Unit {0}
Within n (bit w i) = (w < n) × (i < 2048)

high : (n i : ℕ) → i < 2048 → (6 + 2048 * n + i - 6) / 2048 ≡ n
high n i h = omega arith

low : (n i : ℕ) → i < 2048 → (6 + 2048 * n + i - 6) % 2048 ≡ i
low n i h = omega arith

pub bit-back : (n : ℕ) (b : Bit) → Within n b → bit_of (bit_at (bit_code b)) ≡ b
unfolding bit_of bit_at bit_code Within
bit-back n (digit d) h = rw (lt-ltb (digit_code d) 6 (digit-code d)) (ap digit (digit-back d))
bit-back n (bit w i) h = rw (le-ltb (6 + 2048 * w + i) 6 (omega arith), high w i h.1, low w i h.1)

-- what holds of digits and of bits of wires holds of the bit of each code
by_code :
    (P : SignalBit → Type 0) (c : ℕ) →
    (c < 6 → P (SignalBit.Digit c)) →
    (6 ≤ c → P (SignalBit.Wire (record { 0 = (c - 6) / 2048 }) ((c - 6) % 2048))) →
    P (bit_at c)
unfolding bit_at
by_code P c = by-lt P c 6

pub code-back : (c : ℕ) → bit_code (bit_of (bit_at c)) ≡ c
unfolding bit_of bit_code
code-back c = by_code (λ b. bit_code (bit_of b) ≡ c) c (λ l. code-digit c l) (λ l. omega arith)

-- codes and the signal of them
pub codes-back : (cs : List ℕ) → map bit_code (signal_of cs) ≡ cs
unfolding signal_of
codes-back cs = map_back (λ c. bit_of (bit_at c)) bit_code cs (each_all _ code-back cs)

pub signal-back : (x : Signal) → Each (λ b. bit_of (bit_at (bit_code b)) ≡ b) x → signal_of (map bit_code x) ≡ x
unfolding signal_of
signal-back x h = map_back bit_code (λ c. bit_of (bit_at c)) x h

pub length-signal : (cs : List ℕ) → length (signal_of cs) ≡ length cs
unfolding signal_of
length-signal cs = length-map cs _

pub sort-back : (o : Sort) → sort_of (sort_code o) ≡ o
unfolding sort_of sort_code
sort-back Sort.plain = refl
sort-back Sort.signed = refl
sort-back Sort.real = refl

pub sort-code : (c : ℕ) → c ≤ 2 → sort_code (sort_of c) ≡ c
unfolding sort_of sort_code
sort-code zero h = refl
sort-code (suc zero) h = refl
sort-code (suc (suc zero)) h = refl
sort-code (suc (suc (suc c))) h = absurd (omega arith)
