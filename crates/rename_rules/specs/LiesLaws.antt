-- What statements and renames that lie in the tables have: their design's wires and names now, by the rows.
-- Assumes nothing.
use Rattle.std.specs.Prelude.{ℕ, ◌+◌, ◌≤◌, ◌<◌, ◌≡◌, List, map, reverse, length}
use Rattle.std.proofs.Common.{sym, ◌∙◌}
use Rattle.std.proofs.Math.Path.{ap}
use Rattle.std.proofs.lemmas.List.{reverse-reverse}
use Rattle.std.proofs.Math.Option.{Option-elim}
use Rattle.std.proofs.Math.ListN.{get_elem?}
use Rattle.rules.specs.Statements.{Statement, Wire}
use Rattle.rules.specs.Design.{design}
use Rattle.rules.specs.Session.{Rename, wires_at, wire_at, now}
use Rattle.rules.specs.Layout.{put_renames}
use Rattle.wires.specs.Rows.{name_of, wire_of, wires_from}
use Rattle.wires.specs.RowLaws.{wire-numbered, wire-past}
use Rattle.context.specs.Place.{wires_in, place_of}
use Rattle.context.specs.Offsets.{Offsets}
use Rattle.context.specs.declared.place.Place.{Place}
use Rattle.context.proofs.PlaceLaws.{place-rows}
use Rattle.admitted.specs.AdmitLaws.{admitted-standing, admitted-offsets}
use Rattle.netlist.specs.Laid.{rooms_of, Laid, Wired}
use Rattle.netlist.specs.LaidLaws.{length-rows, eights-rows}
use Rattle.netlist.specs.WireLaws.{wired-renames}
use Rattle.netlist.specs.RoomLaws.{rooms-file}
use Rattle.modules.specs.Modules.{Headed}
use Rattle.modules.specs.HeadLaws.{standing-headed}
use Rattle.modules.specs.Ranges.{wire_range}
use Rattle.modules.specs.declared.Range.{Range}
use Rattle.modules.specs.Now.{name_now}
use Rattle.wire_names.specs.Now as rows
use Rattle.rename_rules.specs.Judged.{module_by, Lies}
use Rattle.rename_rules.specs.NowLaws.{names_up, name-now-laid, names-laid}
use Rattle.rename_rules.specs.TakenLaws.{wire-by}

module _ {names wires t : List ℕ} {p : Place} {standing room : ℕ} {ss : List Statement} {rs : List Rename} (l : Lies names wires t p standing room ss rs) where
  pub headed : Headed (reverse ss)
  headed = standing-headed (admitted-standing (reverse ss) l.admitted)

  pub offsets : Offsets (reverse ss)
  offsets = admitted-offsets (reverse ss) l.admitted

  pub laid : Laid (put_renames (rooms_of (reverse ss)) rs) names t
  laid = rw rooms-file at l.laid

  pub wired : Wired (rooms_of (reverse ss)) names wires
  wired = wired-renames (rooms_of (reverse ss)) rs (rw rooms-file at l.wired)

  pub all-wires : wires_in (reverse ss) ≡ p.wires
  unfolding place_of
  all-wires = ap (λ (x : Place). x.wires) l.place

  module _ (m : ℕ) where
    pub name-now-is : (j k : ℕ) → name_now rs m j (name_of names wires k) ≡ rows.name_now names wires t p.rows standing m j k
    name-now-is j k =
        let e : length (rooms_of (reverse ss)).rows ≡ p.rows = length-rows (reverse ss) ∙ place-rows (reverse ss) l.place in
        sym (rw (← e, ← l.standing) (name-now-laid wires (rooms_of (reverse ss)) (eights-rows (reverse ss)) m j k rs laid))

    pub names-are : map (λ o. o.name) (wires_at (now (design ss) rs) m) ≡ names_up names wires t (module_by wires p standing m)
    names-are =
        ap (λ (qs : List Statement). map (λ o. o.name) (wires_at (now (design qs) rs) m)) (sym (reverse-reverse ss))
        ∙ rw (← l.place, ← l.standing) (names-laid m (reverse ss) headed offsets rs laid wired)

    -- a wire by its number
    module _ (w : ℕ) {C : Type 0} (z : C) (g : Wire → C) where
      abbrev own : Range
      own = wire_range wires p.wires m

      wire-is : Option-elim (wire_at (design ss) m w) z (λ o. g o.body) ≡ Option-elim (get_elem? (reverse (wires_from names wires own.first own.count)) w) z (λ x. g x.1)
      wire-is = rw (← reverse-reverse ss, ← all-wires) (wire-by m w (reverse ss) headed offsets wired z g)

      pub there : w < own.count → Option-elim (wire_at (design ss) m w) z (λ o. g o.body) ≡ g (wire_of wires (own.first + w))
      unfolding Option-elim
      there h = wire-is ∙ rw (wire-numbered names wires own.first w own.count h)

      pub missing : own.count ≤ w → Option-elim (wire_at (design ss) m w) z (λ o. g o.body) ≡ z
      unfolding Option-elim
      missing h = wire-is ∙ rw (wire-past names wires own.first w own.count h)
