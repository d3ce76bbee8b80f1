-- Document 02, request 12: "Bundling is associative and the empty bundle changes nothing. A slice that lies inside one
-- member of a bundle is a slice of that member, moved by the widths below it."
-- Assumes nothing.
use Rattle.std.specs.Prelude.{ℕ, ◌+◌, ◌-◌, ◌≤◌, ◌<◌, ◌≡◌, true, length}
use native.Mathlib.Omega.{arith}
use Rattle.std.proofs.Math.Path.{refl, sym, ap}
use Rattle.std.proofs.Common.{◌∙◌}
use mathlib.Core.List.{List, ◌++◌, append_assoc, append-nil}
use Rattle.std.proofs.Math.ListN.{take, drop, length-drop}
use Rattle.std.proofs.Math.Seq.{drop-append-add, drop-append-le, take-append-le}
use Rattle.rules.specs.Statements.{Sig, Sigs, bundle, nothing, ◌below◌, Signal}
use Rattle.rules.specs.Signals.{Wires, bits, bits_of, width, widths, span, lower, good_slice, parts, parts_of}
use Rattle.slices.specs.Slices.{taking, inside_is, inside-has}

-- the members of one bundle below those of another
unfoldable pub joined : Sigs → Sigs → Sigs
joined nothing t = t
joined (s below ss) t = s below joined ss t

-- a bundle of two, the first one lower
abbrev pub two : Sig → Sig → Sig
two a b = bundle (a below (b below nothing))

pub parts-joined : (ss ts : Sigs) → parts_of (joined ss ts) ≡ parts_of ss ++ parts_of ts
unfolding joined parts
parts-joined nothing ts = refl
parts-joined (s below ss) ts = ap (λ (r : List Sig). parts s ++ r) (parts-joined ss ts) ∙ sym (append_assoc (parts s) (parts_of ss) (parts_of ts))

module _ (ws : Wires) where
  pub bits-joined : (ss ts : Sigs) → bits_of ws (joined ss ts) ≡ bits_of ws ss ++ bits_of ws ts
  unfolding joined bits
  bits-joined nothing ts = refl
  bits-joined (s below ss) ts = ap (λ (r : Signal). bits ws s ++ r) (bits-joined ss ts) ∙ sym (append_assoc (bits ws s) (bits_of ws ss) (bits_of ws ts))

  pub widths-joined : (ss ts : Sigs) → widths ws (joined ss ts) ≡ widths ws ss + widths ws ts
  unfolding joined width
  widths-joined nothing ts = omega arith
  widths-joined (s below ss) ts = omega (arith, widths-joined ss ts)

  -- "Bundling is associative": the members of a bundle may stand in its place, wherever it stands in another; so with two of two
  pub bundle-flat : (ss ts us : Sigs) → bits ws (bundle (joined ss (bundle ts below us))) ≡ bits ws (bundle (joined ss (joined ts us)))
  unfolding bits
  bundle-flat ss ts us =
      bits-joined ss (bundle ts below us)
      ∙ ap (λ (r : Signal). bits_of ws ss ++ r) (sym (bits-joined ts us))
      ∙ sym (bits-joined ss (joined ts us))

  pub bundle-flat-width : (ss ts us : Sigs) → width ws (bundle (joined ss (bundle ts below us))) ≡ width ws (bundle (joined ss (joined ts us)))
  unfolding width
  bundle-flat-width ss ts us = omega (arith, widths-joined ss (bundle ts below us), widths-joined ss (joined ts us), widths-joined ts us)

  pub bundle-assoc : (a b c : Sig) → bits ws (two (two a b) c) ≡ bits ws (two a (two b c))
  unfolding joined
  bundle-assoc a b c =
      bundle-flat nothing (a below (b below nothing)) (c below nothing)
      ∙ sym (bundle-flat (a below nothing) (b below (c below nothing)) nothing)

  -- "and the empty bundle changes nothing": wherever it stands
  pub bundle-empty : (ss us : Sigs) → bits ws (bundle (joined ss (bundle nothing below us))) ≡ bits ws (bundle (joined ss us))
  unfolding joined
  bundle-empty ss us = bundle-flat ss nothing us

  pub bundle-empty-width : (ss us : Sigs) → width ws (bundle (joined ss (bundle nothing below us))) ≡ width ws (bundle (joined ss us))
  unfolding joined
  bundle-empty-width ss us = bundle-flat-width ss nothing us

  pub empty-below : (a : Sig) → bits ws (two (bundle nothing) a) ≡ bits ws a
  unfolding bits
  empty-below a = append-nil (bits ws a)

  pub empty-above : (a : Sig) → bits ws (two a (bundle nothing)) ≡ bits ws a
  unfolding bits
  empty-above a = append-nil (bits ws a)

  -- "A slice that lies inside one member of a bundle is a slice of that member, moved by the widths below it": n is how many bits
  -- the members below have; where numbers and slices are good that is their width (`member-sliced` of `soundness`)
  module _ (ss us : Sigs) (m : Sig) (n k j : ℕ) where
    pub slice-member : length (bits_of ws ss) ≡ n → j ≤ k → k < length (bits ws m) → bits ws (taking (bundle (joined ss (m below us))) (n + k) (n + j)) ≡ bits ws (taking m k j)
    unfolding bits span lower
    slice-member e a b =
        ap (λ (r : Signal). take (n + k + 1 - (n + j)) (drop (n + j) r)) (bits-joined ss (m below us))
        ∙ ap (take (n + k + 1 - (n + j)))
        (ap (λ (i : ℕ). drop (i + j) (bits_of ws ss ++ (bits ws m ++ bits_of ws us))) (sym e)
        ∙ drop-append-add (bits_of ws ss) (bits ws m ++ bits_of ws us) j
        ∙ drop-append-le j (bits ws m) (bits_of ws us) (omega arith))
        ∙ take-append-le (n + k + 1 - (n + j)) (drop j (bits ws m)) (bits_of ws us) (simp length-drop (omega arith))
        ∙ ap (λ (i : ℕ). take i (drop j (bits ws m))) (let z : n + k + 1 - (n + j) ≡ k + 1 - j = omega arith in z)

    pub slice-member-width : width ws (taking (bundle (joined ss (m below us))) (n + k) (n + j)) ≡ width ws (taking m k j)
    unfolding width span lower
    slice-member-width = omega arith

    -- a slice inside the member, moved, is inside the bundle
    pub member-inside : widths ws ss ≡ n → good_slice ws (taking m k j) ≡ true → good_slice ws (taking (bundle (joined ss (m below us))) (n + k) (n + j)) ≡ true
    unfolding good_slice width lower
    member-inside e g =
        let i = inside-has (width ws m) k j g in
        inside_is (widths ws (joined ss (m below us))) (n + k) (n + j) (omega (arith, i.0)) (omega (arith, i.1, widths-joined ss (m below us)))
