-- A fine design is admitted in canonical order.
-- Assumes nothing.
use Rattle.std.specs.Prelude.{ℕ, ◌≤◌, ◌≡◌, refl, Bool, true, ℤ}
use Rattle.std.proofs.Common.{sym, ap, ◌∙◌, arith}
use mathlib.Core.List.{List, [], map, flat_map, reverse, reverse_aux, reverse_aux-append, Option-to_list, map-map}
use Rattle.std.proofs.Math.Option.{Option, none, some}
use Rattle.rules.specs.Bytes.{any, all}
use Rattle.rules.specs.Tokens.{Name}
use Rattle.rules.specs.Statements.{Statement, autoidx-stmt, statements_open}
use Rattle.rules.specs.Judgement.{Past, sum, among, space}
use Rattle.rules.specs.Design.{Object, Cell, Module, Design, flatten}
use Rattle.lists.specs.Elements.{Each, each_map, each-through}
use Rattle.lists.specs.Lists.{flat_map-map}
use Rattle.lists.specs.Sums.{sum-reverse}
use Rattle.admitted.specs.Admitted.{admitted, closes}
use Rattle.canonical.specs.Nesting.{Entry, File, lines_of_module, lines_of_file, body_of, module_in, as_file, file_of}
use Rattle.canonical.specs.DesignLaws.{body-entries, flatten-file}
use Rattle.canonical.specs.Fine.{FineCell, FineModule, FineDesign}
use Rattle.canonical.specs.Tally.{Through, Tally, name_tally, attribute_names}
use Rattle.canonical.specs.Sums.{all-fewer, sizes-fewer}
use Rattle.canonical.specs.Apart.{sees, ApartAll, apart-admitted}
use Rattle.canonical.specs.Walks.{opening-clean, behind-each, OfModule, autoidx-new, modules-new, objects, parameters, port-numbers, OfCell, autoidx-outside, cells-new, cell-parameters, cell-ports, attributes-new, modules-named}
use Rattle.canonical.specs.Places.{file-ready, ready-closes}
use Rattle.canonical.specs.Seen.{module-sees}

-- an `autoidx` line is new for every tally
abbrev opening : Option ℤ → Past
opening o = reverse_aux (map autoidx-stmt (Option-to_list o)) []

module _ (f : Past → Statement → Bool) (h : (i : ℤ) → f [] (autoidx-stmt i) ≡ true) where
  opening-new : (o : Option ℤ) → Through f (opening o)
  unfolding Option-to_list
  opening-new none = tt
  opening-new (some i) = (h i, tt)

autoidx-attribute : (i : ℤ) → attribute_names.new [] (autoidx-stmt i) ≡ true
unfolding name_tally space among any statements_open
autoidx-attribute i = refl

autoidx-sees : (i : ℤ) → sees [] (autoidx-stmt i) ≡ true
unfolding sees all statements_open
autoidx-sees i = refl

map-names : (os : List (Object Module)) → map (λ o. o.name) (map as_file os) ≡ map (λ o. o.name) os
map-names os = map-map (λ (o : Object (List Entry)). o.name) as_file os

behind-file :
    (f : Past → Statement → Bool) (x : File) → Through f (reverse_aux (flat_map lines_of_module x.modules) (opening x.autoidx)) →
    Through f (reverse (lines_of_file x))
unfolding lines_of_file
behind-file f x h = rw (reverse_aux-append (map autoidx-stmt (Option-to_list x.autoidx))) h

module _ (d : Design) (fine : FineDesign d) where
  abbrev file : File
  file = file_of d

  file-sum : (f : Statement → ℕ) → sum f (reverse (lines_of_file file)) ≡ sum f (flatten d)
  file-sum f = sum-reverse f (lines_of_file file) ∙ ap (sum f) (sym (flatten-file d))

  modules-fine : Each (λ o. FineModule (module_in o)) file.modules
  unfolding file_of module_in
  modules-fine = each-through FineModule as_file _ (λ o f. rw (body-entries o.body) f) d.modules fine.modules

  signals-seen : Through sees (reverse (lines_of_file file))
  unfolding file_of
  signals-seen =
      behind-file sees file
      (rw (flat_map-map lines_of_module as_file d.modules)
      (behind-each (λ (o : Object Module). lines_of_module (as_file o)) FineModule (Through sees) (λ o p f h. module-sees o p f.signals h) d.modules (opening d.autoidx) fine.modules
      (opening-new sees autoidx-sees d.autoidx)))

  -- what stands once in each module, and in each cell, is new
  module-tally :
      {I : Type 0} {t : Tally I} {of : Module → I → ℕ} → OfModule t of → ((o : Object Module) → FineModule o → (i : I) → of o.body i ≤ 1) →
      Through t.new (reverse (lines_of_file file))
  unfolding module_in
  module-tally w h =
      behind-file _ file
      (modules-new w file.modules _ (each_map (λ o. FineModule (module_in o)) _ (λ o. h (module_in o)) file.modules modules-fine) (opening-new _ (autoidx-new w) file.autoidx))

  cell-tally :
      {t : Tally Name} {of : Cell → Name → ℕ} → OfCell t of → ((c : Object Cell) → FineCell c → (i : Name) → of c.body i ≤ 1) →
      Through t.new (reverse (lines_of_file file))
  unfolding module_in
  cell-tally w h =
      behind-file _ file
      (cells-new w file.modules _ (each_map (λ o. FineModule (module_in o)) _ (λ o f. each_map FineCell _ h (body_of o.body).cells f.cells) file.modules modules-fine)
      (opening-new _ (autoidx-outside w) file.autoidx))

  fine-apart : ApartAll (reverse (lines_of_file file))
  unfolding file_of
  fine-apart =
      record {
        standing = (file-ready file modules-fine).at.standing;
        alone = all-fewer (reverse (lines_of_file file)) (flatten d) (λ f. omega (arith, file-sum f)) _ fine.statements;
        ports = module-tally port-numbers (λ o f. f.port-numbers);
        signals = signals-seen;
        module-names = modules-named file (rw (map-names d.modules) fine.names);
        object-names = module-tally objects (λ o f. f.names);
        attribute-names =
            behind-file attribute_names.new file
            (attributes-new file.modules _ modules-fine (opening-new attribute_names.new autoidx-attribute d.autoidx) (opening-clean d.autoidx));
        parameter-names = module-tally parameters (λ o f. f.parameters);
        cell-parameter-names = cell-tally cell-parameters (λ c f. f.parameters);
        cell-port-names = cell-tally cell-ports (λ c f. f.ports);
        room = sizes-fewer (reverse (lines_of_file file)) (flatten d) (λ f. omega (arith, file-sum f)) fine.sizes;
      }

  pub fine-admitted : (admitted (reverse (flatten d)) ≡ true) × (closes (reverse (flatten d)) ≡ true)
  fine-admitted = rw (flatten-file d) (apart-admitted (reverse (lines_of_file file)) fine-apart, ready-closes (reverse (lines_of_file file)) (file-ready file modules-fine))
