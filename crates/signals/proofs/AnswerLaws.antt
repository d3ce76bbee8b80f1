-- What is answered of an atom and of a signal, from what its parts answered.
-- Assumes nothing.
use mathlib.Core.Path.{◌≡◌, refl, sym, ap, ◌∙◌}
use mathlib.Core.List.{List, []}
use mathlib.Core.Option.{Option, none, some}
use Prim.Native.Nat.{ℕ, ◌+◌, ◌≤◌}
use native.Mathlib.Omega.{arith}
use lib.ListN.{length}
use lib.Seq.{slice}
use Rattle.std.specs.Prelude.{Some, None, Option as Optional}
use Rattle.rules.specs.Tokens as rules
use Rattle.rules.specs.Statements.{Sig, constant, wire}
use Rattle.rules.specs.Signals.{Wires}
use Rattle.rules.specs.Shapes.{one, is_atom, atom, signal}
use Rattle.tokens.specs.Rows.{front, literal_in, token_at, line, Present}
use Rattle.tokens.specs.declared.ConstantSpan.{ConstantSpan}
use Rattle.tokens.specs.declared.Token.{Token}
use Rattle.tokens.specs.declared.Token.TheVariants.{Name, Constant as Constantly}
use Rattle.tokens.proofs.TokenLaws.{line_read, below}
use Rattle.signals.specs.Held.{Put}
use Rattle.signals.specs.Reads.{sliced_on, SlicesRead, SlicesIs, AnswerRead, AnswerIs, AtomIs, SignalIs}
use Rattle.signals.specs.declared.Bits.{Bits}
use Rattle.signals.specs.declared.Answer.{Answer}
use Rattle.signals.proofs.HeldLaws.{kept_same}
use Rattle.signals.proofs.SliceLaws.{kept_on}
use Rattle.signals.proofs.Parses.{head, signal-none, signal-sliced}

-- a signal of these bits, with the row behind it
abbrev pub answered : ℕ → Bits → Optional Answer
answered n b = Some (record { next = n; bits = b })

-- ---- an atom

module _ (f t : List ℕ) (ws : Wires) (i o : ℕ) (out : List ℕ) (x : Token) (e : x ≡ token_at t i) where
  pub atom-nothing : atom (front f x (line f t (i + 1))) ≡ none → AtomIs f t ws i o out out None
  atom-nothing q = record { kept = kept_same o out; read = ap atom (line_read f t i x e) ∙ q }

  atom-put : (s : Sig) (out' : List ℕ) (b : Bits) → Present x → atom (front f x (line f t (i + 1))) ≡ some (s, line f t (i + 1)) → Put ws s o out out' b → AtomIs f t ws i o out out' (answered (i + 1) b)
  atom-put s out' b p q P =
      record {
        kept = P.kept;
        read = (
          omega arith,
          omega (arith, below t i x e p),
          omega (arith, P.few),
          record { sig = s; is = ap atom (line_read f t i x e) ∙ q; held = P.held },
        );
      }

module _ (f t : List ℕ) (ws : Wires) (i o : ℕ) (out out' : List ℕ) (r : Bits) where
  pub atom-name : (a b : ℕ) (n : List ℕ) → Name a b ≡ token_at t i → n ≡ slice a b f → Put ws (wire n) o out out' r → AtomIs f t ws i o out out' (answered (i + 1) r)
  unfolding atom one is_atom front
  atom-name a b n e q P = atom-put f t ws i o out (Name a b) e (wire n) out' r tt (ap (λ (y : List ℕ). some (wire y, line f t (i + 1))) (sym q)) P

  pub atom-constant : (c : ConstantSpan) → Constantly c ≡ token_at t i → Put ws (constant (literal_in f c)) o out out' r → AtomIs f t ws i o out out' (answered (i + 1) r)
  unfolding atom one is_atom front
  atom-constant c e P = atom-put f t ws i o out (Constantly c) e (constant (literal_in f c)) out' r tt refl P

-- ---- a signal, by what stands in front of its slices

module _ (f t : List ℕ) (ws : Wires) (i d o : ℕ) (out : List ℕ) where
  pub signal-nowhere : head d (line f t i) ≡ none → SignalIs f t ws i d o out out None
  signal-nowhere e = record { kept = kept_same o out; read = signal-none f t i d e }

  module _ (parse : Option (Sig × List rules.Token)) (j : ℕ) (out₁ : List ℕ) (e : head d (line f t i) ≡ parse) where
    pub signal-no-head : AnswerIs f t ws parse j o out out₁ None → SignalIs f t ws i d o out out₁ None
    signal-no-head A = record { kept = A.kept; read = signal-none f t i d (e ∙ A.read) }

    module _ (a : Answer) (A : AnswerIs f t ws parse j o out out₁ (Some a)) where
      sliced-is : signal d (line f t i) ≡ sliced_on A.read.3.sig (length (line f t a.next)) [] (line f t a.next)
      sliced-is = signal-sliced f t i d A.read.3.sig a.next (e ∙ A.read.3.is)

      pub signal-with : (out₂ : List ℕ) (r : Optional Answer) → SlicesIs f t a.next o out₁ a.bits out₂ r → i ≤ j → SignalIs f t ws i d o out out₂ r
      signal-with out₂ r S l = record { kept = kept_on o out out₁ out₂ A.kept S.kept; read = by r S.read }
        where
          by : (r : Optional Answer) → SlicesRead f t a.next o out₁ a.bits out₂ r → AnswerRead f t ws (signal d (line f t i)) i o out₂ r
          by (Some b) R =
              let G = R.3 ws A.read.3.sig A.read.3.held in (
                omega (arith, A.read.0, R.0),
                R.1,
                omega (arith, A.read.0, A.read.2, R.0, R.2),
                record { sig = G.sig; is = sliced-is ∙ G.is; held = G.held },
              )
          by None R = sliced-is ∙ R ws A.read.3.sig A.read.3.held
