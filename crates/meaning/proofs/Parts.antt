-- A written signal means the bits that it was written from, and its parts keep the rules.
-- Assumes nothing.
use Prim.Native.Nat.{ℕ, ◌+◌, ◌<◌, ◌≤◌}
use Rattle.std.specs.Prelude.{◌≡◌, true, leb}
use Rattle.std.proofs.Math.Path.{refl, sym, ap, ap₂}
use Rattle.std.proofs.Common.{◌∙◌}
use mathlib.Core.List.{List, [], ◌∷◌, ◌++◌, map, reverse, append-nil}
use Rattle.std.proofs.Math.Option.{Option-elim}
use native.Mathlib.Omega.{arith}
use Rattle.std.proofs.Math.ListN.{length, length-append, length-reverse, length-map}
use borrow.Author.Tests.{le-leb, leb-true}
use Rattle.rules.specs.Bytes.{all}
use Rattle.rules.specs.Statements.{Sigs, bundle, digit, Signal}
use Rattle.rules.specs.Shapes.{sigs}
use Rattle.rules.specs.Numbers.{good_numbers}
use Rattle.rules.specs.Signals.{Wires, width, widths, bits, bits_of, declared_wire, good_slice, parts, parts_of}
use Rattle.rules.specs.Text.{Run, runs, run_sig, runs_sig, sig}
use Rattle.admitted.specs.Admitted.{fine_signal}
use Rattle.lists.specs.Tests.{by_order, and-true-left, and-true-right}
use Rattle.lists.specs.Lists.{element-none}
use Rattle.lists.specs.Elements.{all_append, Each}
use Rattle.meaning.specs.Wires.{Sound, Located, located}
use Rattle.meaning.specs.Bits.{run_bits, all_bits, runs-bits, width_at, Inside, digits_in, span-in, runs-inside}
use Rattle.meaning.specs.Parts.{good_part, Means, digits-mean, span-means}

-- ---- any run

module _ (ws : Wires) (sound : Sound ws) where
  width-located : (w : ℕ) (v : Located ws w) → width_at ws w ≡ v.wire.1.width
  unfolding width_at Option-elim
  width-located w v = rw v.numbered

  -- a wire that has bits is there
  there : (w : ℕ) → 0 < width_at ws w → w < length ws
  unfolding width_at Option-elim
  there w h =
      by_order (length ws) w
      (λ t. let e : width_at ws w ≡ 0 = rw (element-none (reverse ws) w (omega (arith, length-reverse ws))) in absurd (omega arith))
      (λ t. t)

  run-means : {r : Run} → Inside ws r → length (run_bits r) ≤ 2048 → Means ws (run_sig ws r) (run_bits r)
  unfolding run_bits
  run-means (digits_in ds) h = digits-mean ws ds (omega (arith, length-map ds digit))
  run-means (span-in {w = w} {l = l} {n = n} p q) h =
      let v : Located ws w = located w sound (there w (omega arith)) in
      span-means ws w l n v p (omega (arith, width-located w v))

  -- ---- a bundle of runs

  abbrev sigs_of : List Run → Sigs
  sigs_of rs = sigs (map (run_sig ws) rs)

  pub record MeansAll (rs : List Run) : Type 0 where
    pub same_bits : bits_of ws (sigs_of rs) ≡ all_bits rs
    pub same_width : widths ws (sigs_of rs) ≡ length (all_bits rs)
    pub good-parts : all (good_part ws) (parts_of (sigs_of rs)) ≡ true

  runs-mean : (rs : List Run) → Each (Inside ws) rs → length (all_bits rs) ≤ 2048 → MeansAll rs
  unfolding bits width parts sigs all_bits all
  runs-mean [] i h = record { same_bits = refl; same_width = refl; good-parts = refl }
  runs-mean (r ∷ rs) i h =
      let e : length (run_bits r ++ all_bits rs) ≡ length (run_bits r) + length (all_bits rs) = length-append (run_bits r) (all_bits rs) in
      let m : Means ws (run_sig ws r) (run_bits r) = run-means i.0 (omega arith) in
      let ms : MeansAll rs = runs-mean rs i.1 (omega arith) in
      record {
        same_bits = ap₂ ◌++◌ m.same_bits ms.same_bits;
        same_width = ap₂ ◌+◌ m.same_width ms.same_width ∙ sym e;
        good-parts = all_append (good_part ws) (parts (run_sig ws r)) (parts_of (sigs_of rs)) m.good-parts ms.good-parts;
      }

  bundle-means : (rs : List Run) → MeansAll rs → length (all_bits rs) ≤ 2048 → Means ws (bundle (sigs_of rs)) (all_bits rs)
  unfolding bits width parts all good_part good_numbers declared_wire good_slice
  bundle-means rs m h =
      record {
        same_bits = m.same_bits;
        same_width = m.same_width;
        good-parts = rw (m.same_width, le-leb (length (all_bits rs)) 2048 h) m.good-parts;
      }

  -- one run stands bare
  written-means : (rs : List Run) → Each (Inside ws) rs → length (all_bits rs) ≤ 2048 → Means ws (runs_sig (map (run_sig ws) rs)) (all_bits rs)
  unfolding runs_sig all_bits sigs
  written-means [] i h = bundle-means [] (runs-mean [] i h) h
  written-means (r ∷ []) i h = rw (append-nil (run_bits r)) (run-means i.0 (omega (arith, ap length (append-nil (run_bits r)))))
  written-means (r ∷ q ∷ rs) i h = bundle-means (r ∷ q ∷ rs) (runs-mean (r ∷ q ∷ rs) i h) h

  pub sig-means : (bs : Signal) → fine_signal ws bs ≡ true → Means ws (sig ws bs) bs
  unfolding sig fine_signal
  sig-means bs h =
      let n : length bs ≤ 2048 = leb-true (length bs) 2048 (and-true-left (leb (length bs) 2048) _ h) in
      let m : Means ws (runs_sig (map (run_sig ws) (runs bs))) (all_bits (runs bs)) =
      written-means (runs bs) (runs-inside ws bs (and-true-right (leb (length bs) 2048) _ h)) (omega (arith, ap length (runs-bits bs))) in
      rw (runs-bits bs) at m
