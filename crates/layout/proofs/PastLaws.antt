-- A statement with which the sums are within the limits has room in the tables.
-- Assumes nothing.
use Prim.Native.Nat.{◌<◌}
use mathlib.Core.Path.{◌≡◌, sym, ap, ◌∙◌}
use mathlib.Core.List.{◌∷◌}
use native.Mathlib.Omega.{arith}
use lib.ListN.{length}
use Rattle.rules.specs.Statements.{Statement}
use Rattle.rules.specs.Judgement.{Past}
use Rattle.rules.specs.Layout.{Used, used}
use Rattle.context.specs.Place.{place_of, wires_in}
use Rattle.context.specs.Sizes.{sizes_by, sums_of, Within}
use Rattle.netlist.specs.Laid.{rooms_of}
use Rattle.netlist.specs.Used.{used_by}
use Rattle.netlist.specs.UsedLaws.{used-past}
use Rattle.layout.specs.Put.{used_after, RoomFor}
use Rattle.layout.specs.RoomLaws.{used-put}

-- what is used with one statement more
used-more : (s : Statement) (ss : Past) → used_after (used (rooms_of ss)) s ≡ used_by (place_of (s ∷ ss)) (sums_of (s ∷ ss))
unfolding rooms_of
used-more s ss = sym (used-put (rooms_of ss) s) ∙ used-past (s ∷ ss)

pub room-past : (ss : Past) (x : Statement) → Within (sums_of (x ∷ ss)) → length ss < 6945 → RoomFor (used (rooms_of ss)) x
unfolding used_after place_of sums_of sizes_by wires_in
room-past ss x w h =
    let q : used_after (used (rooms_of ss)) x ≡ used_by (place_of (x ∷ ss)) (sums_of (x ∷ ss)) = used-more x ss in
    record {
      names = omega (arith, ap (λ (u : Used). u.names) q, w.name-bytes);
      strings = omega (arith, ap (λ (u : Used). u.strings) q, w.string-bytes);
      bits = omega (arith, ap (λ (u : Used). u.bits) q, w.value-bits, w.signal-bits);
      wires = omega (arith, ap (λ (u : Used). u.wires) q, w.wires);
      rows = omega (arith, ap (λ (u : Used). u.rows) q, h);
    }
