-- The members of a bundle as they come: each stands behind those before it.
-- Assumes nothing.
use mathlib.Core.Path.{◌≡◌, refl, sym, ap, ap₂, ◌∙◌}
use mathlib.Core.Bool.{true, false, ◌&&◌}
use mathlib.Core.List.{List, [], ◌∷◌, ◌++◌}
use Prim.Native.Nat.{ℕ, suc, ◌+◌, ◌-◌, ◌*◌, ◌/◌, ◌<◌, ◌≤◌}
use native.Mathlib.Nat.{add-zero}
use native.Mathlib.Omega.{arith}
use lib.ListN.{length}
use lib.Seq.{slice, slice_empty}
use Rattle.std.specs.Prelude.{Some, None}
use Rattle.rules.specs.Statements.{Sig, bundle}
use Rattle.rules.specs.Signals.{Wires, width, widths, bits, bits_of, parts, parts_of, declared_wire, good_slice}
use Rattle.rules.specs.Numbers.{good_numbers}
use Rattle.rules.specs.Shapes.{sigs, members, signal}
use Rattle.lists.specs.Tests.{and-true-left, and-true-right}
use Rattle.lists.specs.Parts.{slice-join, slice_kept, take-kept}
use Rattle.tokens.specs.Rows.{line}
use Rattle.tokens.proofs.TokenLaws.{line-long}
use Rattle.faults.specs.Faults.{faults, fault, merge, too_wide, mild}
use Rattle.signals.specs.Held.{codes, Held, Kept}
use Rattle.signals.specs.Reads.{mark_at, members_on, SignalIs, BundleIs}
use Rattle.signals.specs.declared.Bits.{Bits}
use Rattle.signals.specs.declared.Answer.{Answer}
use Rattle.faults.proofs.FaultLaws.{merge-zero, mild-merge, late-merge, too-wide-late, wide-zero, faults-none, faults-append, faults-front, own-width}
use Rattle.signals.proofs.Codes.{codes-append}
use Rattle.signals.proofs.HeldLaws.{sized, kept_same}
use Rattle.signals.proofs.SliceLaws.{kept_on}
use Rattle.signals.proofs.Parses.{mark-below, members-start, members-closed, members-next, members-none}

-- the members read so far, of this width and number: as Held, of a bundle that is not closed
pub record MembersHeld (ws : Wires) (ss : List Sig) (o : ℕ) (out : List ℕ) (width fault : ℕ) : Type 0 where
  pub refused : faults ws (parts_of (sigs ss)) ≡ fault
  pub wide : mild fault ≡ true → widths ws (sigs ss) ≡ width
  pub coded : fault ≡ 0 → width ≤ 2048 → slice o (o + width) out ≡ codes (bits_of ws (sigs ss))

-- where the loop stands: in row at
pub record MembersOn (f t : List ℕ) (ws : Wires) (i d o : ℕ) (out₀ out : List ℕ) (at width fault : ℕ) : Type 0 where
  pub from : i ≤ at
  pub within : at ≤ length t / 4
  pub few : width ≤ (at - i) * 4294967296
  pub kept : Kept o out₀ out
  pub read : List Sig
  pub fuel : ℕ
  pub enough : length t / 4 - at ≤ fuel
  pub is : members (signal d) (line f t i) ≡ members_on (signal d) fuel read (line f t at)
  pub held : MembersHeld ws read o out width fault

-- where the next member's bits go: behind those before it, or where 2,048 bits would end
pub record Place (o width put : ℕ) : Type 0 where
  pub from : o ≤ put
  pub upto : put ≤ o + 2048
  pub behind : width ≤ 2048 → put ≡ o + width

pub place-behind : (o width put : ℕ) → width < 2048 → put ≡ o + width → Place o width put
place-behind o width put h e = record { from = omega arith; upto = omega arith; behind = λ k. e }

pub place_end : (o width put : ℕ) → 2048 ≤ width → put ≡ o + 2048 → Place o width put
place_end o width put h e = record { from = omega arith; upto = omega arith; behind = λ k. omega arith }

pub members-on-start : (f t : List ℕ) (ws : Wires) (i d o : ℕ) (out : List ℕ) → i ≤ length t / 4 → MembersOn f t ws i d o out out i 0 0
unfolding sigs parts_of widths bits_of codes
members-on-start f t ws i d o out h =
    record {
      from = omega arith;
      within = h;
      few = omega arith;
      kept = kept_same o out;
      read = [];
      fuel = length (line f t i);
      enough = omega (arith, line-long f t i);
      is = members-start (signal d) (line f t i);
      held = record { refused = faults-none ws; wide = λ e. refl; coded = λ e l. ap (λ (k : ℕ). slice o k out) (add-zero o) ∙ slice_empty o out };
    }

-- one member more
module _ (ws : Wires) (ss : List Sig) (s : Sig) (o put : ℕ) (out out' : List ℕ) (w n : ℕ) (b : Bits) (M : MembersHeld ws ss o out w n) (P : Place o w put) (K : Kept put out out') (H : Held ws s put out' b) where
  more-refused : faults ws (parts_of (sigs (s ∷ ss))) ≡ merge b.fault n
  unfolding parts_of sigs fault
  more-refused = faults-append ws (parts s) (parts_of (sigs ss)) ∙ ap₂ merge H.refused M.refused

  more-wide : mild (merge b.fault n) ≡ true → widths ws (sigs (s ∷ ss)) ≡ w + b.width
  unfolding widths sigs
  more-wide e =
      let m : mild b.fault && mild n ≡ true = sym (mild-merge b.fault n) ∙ e in
      let p : width ws s ≡ b.width = H.wide (and-true-left _ _ m) in
      let q : widths ws (sigs ss) ≡ w = M.wide (and-true-right (mild b.fault) _ m) in
      omega arith

  more-coded : merge b.fault n ≡ 0 → w + b.width ≤ 2048 → slice o (o + (w + b.width)) out' ≡ codes (bits_of ws (sigs (s ∷ ss)))
  unfolding bits_of sigs
  more-coded e l =
      let z = merge-zero b.fault n e in
      let q : put ≡ o + w = P.behind (omega arith) in
      let first : slice o (o + w) out' ≡ codes (bits_of ws (sigs ss)) = slice_kept out out' put o (o + w) K.below (omega arith) ∙ M.coded z.1 (omega arith) in
      let second : slice (o + w) (o + w + b.width) out' ≡ codes (bits ws s) = ap (λ (k : ℕ). slice k (k + b.width) out') (sym q) ∙ H.coded z.0 in
      sym (slice-join out' o w b.width) ∙ ap₂ ◌++◌ first second ∙ sym (codes-append (bits ws s) (bits_of ws (sigs ss)))

  pub members-more : MembersHeld ws (s ∷ ss) o out' (w + b.width) (merge b.fault n)
  members-more = record { refused = more-refused; wide = more-wide; coded = more-coded }

-- the bundle closed
module _ (ws : Wires) (ss : List Sig) (o : ℕ) (out : List ℕ) (w n r : ℕ) (M : MembersHeld ws ss o out w n) (er : r ≡ merge (too_wide w) n) where
  bundle-own : faults ws (bundle (sigs ss) ∷ []) ≡ too_wide (widths ws (sigs ss))
  unfolding good_numbers declared_wire good_slice width
  bundle-own = own-width ws (bundle (sigs ss)) refl refl refl

  bundle-refused : fault ws (bundle (sigs ss)) ≡ r
  unfolding fault parts
  bundle-refused =
      faults-front ws (bundle (sigs ss)) (parts_of (sigs ss))
      ∙ ap₂ merge bundle-own M.refused
      ∙ late-merge (too_wide (widths ws (sigs ss))) (too_wide w) n (too-wide-late (widths ws (sigs ss))) (too-wide-late w) (λ e. ap too_wide (M.wide e))
      ∙ sym er

  bundle-wide : mild r ≡ true → width ws (bundle (sigs ss)) ≡ w
  unfolding width
  bundle-wide e = M.wide (and-true-right (mild (too_wide w)) _ (sym (mild-merge (too_wide w) n) ∙ ap mild (sym er) ∙ e))

  bundle-coded : r ≡ 0 → slice o (o + w) out ≡ codes (bits ws (bundle (sigs ss)))
  unfolding bits
  bundle-coded e = let z = wide-zero w n r er e in M.coded z.1 z.0

  pub bundle-held : Held ws (bundle (sigs ss)) o out (sized w r)
  bundle-held = record { refused = bundle-refused; wide = bundle-wide; small = λ e. (wide-zero w n r er e).0; coded = bundle-coded }

-- ---- what `bundle` promises

module _ (f t : List ℕ) (ws : Wires) (i d o : ℕ) (out₀ out : List ℕ) (at w n : ℕ) (S : MembersOn f t ws i d o out₀ out at w n) where
  pub bundle-closed : (m r : ℕ) → mark_at t at 125 ≡ true → m ≡ too_wide w → r ≡ merge m n → BundleIs f t ws i d o out₀ out (Some (record { next = at + 1; bits = sized w r }))
  bundle-closed m r e k q =
      record {
        kept = S.kept;
        read = (
          omega (arith, S.from),
          omega (arith, mark-below t at 125 e),
          omega (arith, S.from, S.few),
          record { sig = bundle (sigs S.read); is = S.is ∙ members-closed f t at (signal d) S.read S.fuel e; held = bundle-held ws S.read o out w n r S.held (q ∙ ap (λ (x : ℕ). merge x n) k) },
        );
      }

  module _ (put : ℕ) (P : Place o w put) (out' : List ℕ) (e : mark_at t at 125 ≡ false) where
    kept-below : Kept put out out' → Kept o out₀ out'
    kept-below K = kept_on o out₀ out out' S.kept (record { long = K.long; below = take-kept out out' put o K.below P.from })

    pub bundle-broken : SignalIs f t ws at d put out out' None → BundleIs f t ws i d o out₀ out' None
    bundle-broken A = record { kept = kept-below A.kept; read = S.is ∙ members-none f t at (signal d) S.read e S.fuel S.enough A.read }

    pub bundle-on : (a : Answer) (r : ℕ) → r ≡ merge a.bits.fault n → SignalIs f t ws at d put out out' (Some a) → MembersOn f t ws i d o out₀ out' a.next (w + a.bits.width) r
    bundle-on a r q A =
        let G = A.read.3 in
        let k : S.fuel ≡ suc (S.fuel - 1) = omega (arith, S.enough, A.read.0, A.read.1) in
        record {
          from = omega (arith, S.from, A.read.0);
          within = A.read.1;
          few = omega (arith, S.from, S.few, A.read.0, A.read.2);
          kept = kept-below A.kept;
          read = G.sig ∷ S.read;
          fuel = S.fuel - 1;
          enough = omega (arith, S.enough, A.read.0);
          is = S.is ∙ ap (λ (x : ℕ). members_on (signal d) x S.read (line f t at)) k ∙ members-next f t at (signal d) S.read e (S.fuel - 1) G.sig a.next (omega (arith, A.read.0, A.read.1)) G.is;
          held = rw q (members-more ws S.read G.sig o put out out' w n a.bits S.held P A.kept G.held);
        }
