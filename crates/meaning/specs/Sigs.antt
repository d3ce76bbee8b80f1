-- The tokens of a written signal read as that signal.
-- Assumes nothing.
use Rattle.std.specs.Prelude.{ℕ, zero, suc, ◌+◌, ◌-◌, ◌≤◌, ◌≡◌, refl, List, [], ◌∷◌, ◌++◌, map, reverse, Bool, false, not, cond, ℤ, pos, eqb, length, drop}
use Rattle.std.proofs.Common.{append_assoc, arith}
use Rattle.std.proofs.Math.Option.{Option, none, some}
use Rattle.rules.specs.Bytes.{byte}
use Rattle.rules.specs.Tokens.{Name, Literal, Token, mark}
use Rattle.rules.specs.Statements.{Sig, constant, wire, slice, bundle, nothing, Signal}
use Rattle.rules.specs.Shapes.{Parse, is_mark, bounds, repeat, several, sigs, signal, sigspec, shapes_open}
use Rattle.rules.specs.Signals.{Wires}
use Rattle.rules.specs.Text.{Run, digits, span, runs, cut, run_sig, runs_sig, sig, sig_tokens, sigs_tokens, text_open}
use Rattle.lists.specs.Tests.{by_cond}
use Rattle.lists.specs.Elements.{Each, each_map, each_all, each-through}
use Rattle.meaning.specs.Items.{Item, items-read}

-- a member of a written bundle
pub data Member : Sig → Type 0 where
  a-constant : (c : Literal) → Member (constant c)
  a-wire : (n : Name) → Member (wire n)
  a_slice : (n : Name) (h : ℤ) (l : Option ℤ) → Member (slice (wire n) h l)
  empty : Member (bundle nothing)

-- whether a slice stands next
unfoldable pub slices : List Token → Bool
slices [] = false
slices (t ∷ ts) = is_mark "[" t

-- ---- slices

no-slice : (k : ℕ) (bs : List (ℤ × Option ℤ)) (rest : List Token) → slices rest ≡ false → repeat (is_mark "[") bounds k bs rest ≡ some (bs, rest)
unfolding slices repeat
no-slice zero bs rest h = refl
no-slice (suc k) bs [] h = refl
no-slice (suc k) bs (t ∷ ts) h = rw h

-- ---- one member

pub member-reads : (k : ℕ) {s : Sig} (rest : List Token) → Member s → slices rest ≡ false → signal (suc k) (sig_tokens s ++ rest) ≡ some (s, rest)
unfolding shapes_open text_open
member-reads k rest (a-constant c) e = rw (no-slice (length rest) [] rest e)
member-reads k rest (a-wire n) e = rw (no-slice (length rest) [] rest e)
member-reads k rest (a_slice n h none) e = rw (no-slice (suc (suc (length rest))) ((h, none) ∷ []) rest e)
member-reads k rest (a_slice n h (some l)) e = rw (no-slice (suc (suc (suc (suc (length rest))))) ((h, some l) ∷ []) rest e)
member-reads k rest empty e = rw (no-slice (length rest) [] rest e)

member-no-slice : {s : Sig} (rest : List Token) → Member s → slices (sig_tokens s ++ rest) ≡ false
unfolding shapes_open text_open slices
member-no-slice rest (a-constant c) = refl
member-no-slice rest (a-wire n) = refl
member-no-slice rest (a_slice n h l) = refl
member-no-slice rest empty = refl

-- ---- several members

abbrev goes_on : Token → Bool
goes_on t = not (is_mark "}" t)

step-on : (p : Parse Sig) (m : ℕ) (as' : List Sig) {s : Sig} (rest : List Token) → Member s → p (sig_tokens s ++ rest) ≡ some (s, rest)
    → repeat goes_on p (suc m) as' (sig_tokens s ++ rest) ≡ repeat goes_on p m (s ∷ as') rest
unfolding shapes_open text_open
step-on p m as' rest (a-constant c) e = rw e
step-on p m as' rest (a-wire n) e = rw e
step-on p m as' rest (a_slice n h l) e = rw e
step-on p m as' rest empty e = rw e

at-end : (p : Parse Sig) (m : ℕ) (as' : List Sig) (rest : List Token) → repeat goes_on p m as' (mark (byte "}") ∷ rest) ≡ some (as', mark (byte "}") ∷ rest)
unfolding shapes_open
at-end p zero as' rest = refl
at-end p (suc m) as' rest = refl

member-long : {s : Sig} → Member s → 1 ≤ length (sig_tokens s)
unfolding sig_tokens
member-long (a-constant c) = omega arith
member-long (a-wire n) = omega arith
member-long (a_slice n h l) = omega arith
member-long empty = omega arith

member-item : (k : ℕ) (s : Sig) → Member s → Item goes_on (signal (suc k)) sig_tokens (λ ts. slices ts ≡ false) s
member-item k s g = record { long = member-long g; taken = λ m as' rest e. step-on (signal (suc k)) m as' rest g (member-reads k rest g e); behind = λ rest. member-no-slice rest g }

close-no-slice : (rest : List Token) → slices (mark (byte "}") ∷ rest) ≡ false
unfolding slices is_mark
close-no-slice rest = refl

members-read : (k : ℕ) (ss : List Sig) (rest : List Token) → Each Member ss
    → several goes_on (signal (suc k)) (sigs_tokens (sigs ss) ++ mark (byte "}") ∷ rest) ≡ some (ss, mark (byte "}") ∷ rest)
unfolding sig_tokens sigs
members-read k ss rest gs =
    items-read goes_on (signal (suc k)) sig_tokens (λ ts. slices ts ≡ false) (λ ss. sigs_tokens (sigs ss)) refl (λ s ss. refl) ss (mark (byte "}") ∷ rest)
    (each_map Member _ (member-item k) ss gs) (close-no-slice rest) (λ m as'. at-end (signal (suc k)) m as' rest)

-- ---- a written signal

bundle-reads : (k : ℕ) (ss : List Sig) (rest : List Token) → Each Member ss → slices rest ≡ false
    → signal (suc (suc k)) (sig_tokens (bundle (sigs ss)) ++ rest) ≡ some (bundle (sigs ss), rest)
unfolding shapes_open sig_tokens
bundle-reads k ss rest gs e =
    rw (append_assoc (sigs_tokens (sigs ss)) (mark (byte "}") ∷ []) rest, members-read k ss rest gs, no-slice (length rest) [] rest e)

pub written-reads : (ss : List Sig) (rest : List Token) → Each Member ss → slices rest ≡ false → sigspec (sig_tokens (runs_sig ss) ++ rest) ≡ some (runs_sig ss, rest)
unfolding sigspec runs_sig
written-reads [] rest gs e = member-reads 15 rest empty e
written-reads (s ∷ []) rest gs e = member-reads 15 rest gs.0 e
written-reads (s ∷ t ∷ ss) rest gs e = bundle-reads 14 (s ∷ t ∷ ss) rest gs e

written-no-slice : (ss : List Sig) (rest : List Token) → Each Member ss → slices (sig_tokens (runs_sig ss) ++ rest) ≡ false
unfolding runs_sig shapes_open text_open slices
written-no-slice [] rest gs = refl
written-no-slice (s ∷ []) rest gs = member-no-slice rest gs.0
written-no-slice (s ∷ t ∷ ss) rest gs = refl

written-long : (ss : List Sig) → Each Member ss → 1 ≤ length (sig_tokens (runs_sig ss))
unfolding runs_sig sig_tokens
written-long [] gs = omega arith
written-long (s ∷ []) gs = member-long gs.0
written-long (s ∷ t ∷ ss) gs = omega arith

-- ---- the runs of a signal are members

cut-member : (ws : Wires) (l n : ℕ) → Member (cut ws l n)
unfolding cut
cut-member [] l n = empty
cut-member (w ∷ ws) l n =
    by_cond Member (eqb n w.1.width) (λ e. a-wire w.0) (λ e. a_slice w.0 (pos (l + n - 1)) (cond (eqb n 1) none (some (pos l))))

run-member : (ws : Wires) (r : Run) → Member (run_sig ws r)
unfolding run_sig
run-member ws (digits ds) = a-constant (Literal.value (length ds) (reverse ds))
run-member ws (span n l k) = cut-member (drop (length ws - (n + 1)) ws) l k

pub run-members : (ws : Wires) (rs : List Run) → Each Member (map (run_sig ws) rs)
run-members ws rs = each-through _ (run_sig ws) Member (λ r u. run-member ws r) rs (each_all (λ r. Unit {0}) (λ r. tt) rs)

module _ (ws : Wires) (bs : Signal) (rest : List Token) where
  pub sig-reads : slices rest ≡ false → sigspec (sig_tokens (sig ws bs) ++ rest) ≡ some (sig ws bs, rest)
  unfolding sig
  sig-reads e = written-reads (map (run_sig ws) (runs bs)) rest (run-members ws (runs bs)) e

  pub sig-no-slice : slices (sig_tokens (sig ws bs) ++ rest) ≡ false
  unfolding sig
  sig-no-slice = written-no-slice (map (run_sig ws) (runs bs)) rest (run-members ws (runs bs))

pub sig-long : (ws : Wires) (bs : Signal) → 1 ≤ length (sig_tokens (sig ws bs))
unfolding sig
sig-long ws bs = written-long (map (run_sig ws) (runs bs)) (run-members ws (runs bs))
