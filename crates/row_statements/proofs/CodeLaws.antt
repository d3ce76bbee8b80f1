-- Digits and bits by their codes, and a constant in its columns.
-- Assumes nothing.
use Prim.Native.Nat.{ℕ, ◌<◌}
use mathlib.Core.Path.{◌≡◌, refl, sym, ap, ◌∙◌}
use mathlib.Core.List.{List, [], ◌∷◌, ◌++◌, map}
use mathlib.Core.Bool.{true, false, ◌&&◌}
use lib.Dec.{leb}
use lib.ListN.{length, take, drop, length-map}
use Rattle.std.specs.Prelude.{Some, None}
use borrow.Author.Tests.{ltb-true, lt-ltb, ne_eqb}
use Rattle.rules.specs.Bytes.{all, within}
use Rattle.rules.specs.Tokens.{Digit}
use Rattle.rules.specs.Statements.{Constant, value, integer, string, digits_of, bytes_of}
use Rattle.rules.specs.Signals.{Wires}
use Rattle.rules.specs.Layout.{Used, padded, row, digit_code, constant_columns}
use Rattle.admitted.specs.Admitted.{fine_bit, fine_signal, fine_constant}
use Rattle.tables.specs.Row.{words}
use Rattle.tables.specs.declared.Row.{Row}
use Rattle.numbers.specs.Kinds.{digit_of, bit_of, bit_at, signal_of}
use Rattle.numbers.specs.KindLaws.{digit-code, code-digit, length-signal}
use Rattle.numbers.specs.SignedLaws.{word-signed, signed-int32}
use Rattle.lists.specs.Lists.{same_at}
use Rattle.lists.specs.Tests.{and-true-left, and-true-right, never}
use Rattle.lists.specs.Elements.{all_map, all-each, each_of, map_back}
use Rattle.row_statements.specs.Parts.{span, whole, is_digit, digits_stand, text_stands, signal_stands}
use Rattle.row_statements.specs.Reads.{constant_of, TellsConstant}
use Rattle.row_statements.specs.declared.statements.HeldConstant.{HeldConstant}
use Rattle.row_statements.proofs.Spans.{whole_long, long-whole, has-none, has_span, span-has, has-whole}

-- codes of digits are those of the digits that they mean, and digits have such codes
pub digits-back : (cs : List ℕ) → all is_digit cs ≡ true → map digit_code (map digit_of cs) ≡ cs
unfolding is_digit
digits-back cs h = map_back digit_of digit_code cs (each_of _ is_digit (λ c e. code-digit c (ltb-true c 6 e)) cs h)

pub all-digit : (ds : List Digit) → all is_digit (map digit_code ds) ≡ true
unfolding is_digit
all-digit ds = all_map is_digit digit_code ds ∙ all-each _ (λ d. lt-ltb (digit_code d) 6 (digit-code d)) ds

pub all-signal : (ws : Wires) (cs : List ℕ) → all (fine_bit ws) (signal_of cs) ≡ all (λ c. fine_bit ws (bit_of (bit_at c))) cs
unfolding signal_of
all-signal ws cs = all_map (fine_bit ws) (λ c. bit_of (bit_at c)) cs

-- a signal stands there just where it is whole and fine
pub signal-fine : (ws : Wires) (bits : List ℕ) (at n : ℕ) → whole bits at n ≡ true → signal_stands ws bits at n ≡ fine_signal ws (signal_of (span bits at n))
unfolding signal_stands fine_signal
signal-fine ws bits at n w = rw (w, length-signal, whole_long bits at n w, all-signal)

pub signal-whole : (ws : Wires) (bits : List ℕ) (at n : ℕ) → signal_stands ws bits at n ≡ true → whole bits at n ≡ true
unfolding signal_stands
signal-whole ws bits at n h = and-true-left _ _ h

pub signal-long : (bits : List ℕ) (at n : ℕ) → n ≡ length (signal_of (span bits at n)) → whole bits at n ≡ true
signal-long bits at n e = long-whole bits at n (sym (e ∙ length-signal (span bits at n)))

-- ---- a constant

-- what it holds
abbrev pub held : (v x : ℕ) → HeldConstant
held v x = record { values = v; strings = x }

module _ (strings bits : List ℕ) (u : Used) (a b : ℕ) where
  pub tells-value : a ≡ u.bits → digits_stand bits u.bits b ≡ true → TellsConstant strings bits u 1 a b (constant_of strings bits u 1 a b) (Some (held b 0))
  unfolding TellsConstant constant_of digits_stand digits_of bytes_of constant_columns fine_constant
  tells-value ea h =
      let cs = span bits u.bits b in
      let w : whole bits u.bits b ≡ true = and-true-left _ _ h in
      let q : leb b 2048 && all is_digit cs ≡ true = and-true-right (whole bits u.bits b) _ h in
      let l : length cs ≡ b = whole_long bits u.bits b w in (
        record {
          columns = rw (length-map cs digit_of, l, ea);
          strings-has = has-none strings u.strings;
          bits-has = rw (digits-back cs (and-true-right (leb b 2048) _ q)) (has_span bits u.bits b);
          fine = rw (length-map cs digit_of, l) (and-true-left (leb b 2048) _ q);
        },
        sym (length-map cs digit_of ∙ l),
        refl,
      )

  pub value-start : (a ≡ u.bits → ⊥) → TellsConstant strings bits u 1 a b (constant_of strings bits u 1 a b) None
  unfolding TellsConstant constant_of constant_columns
  value-start n r = n (sym (same_at 1 r.columns))

  pub value_not : digits_stand bits u.bits b ≡ false → TellsConstant strings bits u 1 a b (constant_of strings bits u 1 a b) None
  unfolding TellsConstant constant_of constant_columns digits_of fine_constant digits_stand
  value_not h r =
      let cs = span bits u.bits b in
      let ds = map digit_of cs in
      let l : b ≡ length ds = sym (same_at 2 r.columns) in
      let k : b ≡ length (map digit_code ds) = l ∙ sym (length-map ds digit_code) in
      let w : whole bits u.bits b ≡ true = has-whole bits u.bits b (map digit_code ds) r.bits-has k in
      let e : all is_digit cs ≡ true = ap (all is_digit) (span-has bits u.bits b (map digit_code ds) r.bits-has k) ∙ all-digit ds in
      let f : leb b 2048 ≡ true = ap (λ (n : ℕ). leb n 2048) l ∙ r.fine in
      never (whole bits u.bits b && (leb b 2048 && all is_digit cs)) (rw (w, f, e)) h

  pub tells-text : a ≡ u.strings → text_stands strings u.strings b ≡ true → TellsConstant strings bits u 3 a b (constant_of strings bits u 3 a b) (Some (held 0 b))
  unfolding TellsConstant constant_of text_stands digits_of bytes_of constant_columns fine_constant
  tells-text ea h =
      let l : length (span strings u.strings b) ≡ b = whole_long strings u.strings b (and-true-left _ _ h) in (
        record {
          columns = rw (l, ea);
          strings-has = has_span strings u.strings b;
          bits-has = has-none bits u.bits;
          fine = and-true-right (whole strings u.strings b) _ h;
        },
        refl,
        sym l,
      )

  pub text-start : (a ≡ u.strings → ⊥) → TellsConstant strings bits u 3 a b (constant_of strings bits u 3 a b) None
  unfolding TellsConstant constant_of constant_columns
  text-start n r = n (sym (same_at 1 r.columns))

  pub text-not : text_stands strings u.strings b ≡ false → TellsConstant strings bits u 3 a b (constant_of strings bits u 3 a b) None
  unfolding TellsConstant constant_of constant_columns fine_constant text_stands
  text-not h r =
      let w : whole strings u.strings b ≡ true = long-whole strings u.strings b (same_at 2 r.columns) in
      never (whole strings u.strings b && all (within 1 255) (span strings u.strings b)) (rw (w, r.fine)) h

  pub tells-integer : a < 4294967296 → b ≡ 0 → TellsConstant strings bits u 2 a b (constant_of strings bits u 2 a b) (Some (held 0 0))
  unfolding TellsConstant constant_of digits_of bytes_of constant_columns fine_constant
  tells-integer h e = (
    record {
      columns = rw (word-signed a h, e);
      strings-has = has-none strings u.strings;
      bits-has = has-none bits u.bits;
      fine = signed-int32 a;
    },
    refl,
    refl,
  )

  pub integer-not : (b ≡ 0 → ⊥) → TellsConstant strings bits u 2 a b (constant_of strings bits u 2 a b) None
  unfolding TellsConstant constant_of constant_columns
  integer-not n r = n (sym (same_at 2 r.columns))

  pub kind-not : (k : ℕ) → (k ≡ 1 → ⊥) → (k ≡ 3 → ⊥) → (k ≡ 2 → ⊥) → TellsConstant strings bits u k a b (constant_of strings bits u k a b) None
  unfolding TellsConstant constant_of constant_columns
  kind-not k x y z = rw (ne_eqb k 1 x, ne_eqb k 2 z) (λ r. y (sym (same_at 0 r.columns)))

-- the columns of a constant and what stands behind them, read from its row
pub constant-read :
    (u : Used) (c : Constant) (r : Row) (kind a n sort : ℕ) → words r ≡ row (kind ∷ a ∷ n ∷ constant_columns u c ++ sort ∷ []) →
    (constant_columns u c ≡ r.c ∷ r.d ∷ r.e ∷ []) × (r.f ≡ sort)
unfolding constant_columns words row padded
constant-read u (value ds) r kind a n sort e = (sym (ap (λ (l : List ℕ). take 3 (drop 3 l)) e), same_at 6 e)
constant-read u (integer i) r kind a n sort e = (sym (ap (λ (l : List ℕ). take 3 (drop 3 l)) e), same_at 6 e)
constant-read u (string s) r kind a n sort e = (sym (ap (λ (l : List ℕ). take 3 (drop 3 l)) e), same_at 6 e)
