use mathlib.Core.Path.{refl, ap}
use Rattle.rules.specs.Judgement.{sum}
use Rattle.context.specs.Place.{place_of, wires_in}
use Rattle.context.specs.declared.place.Place.{Place}
use Rattle.name_index.specs.LineLaws.{lines_none, lines-upto}
use Rattle.file_lines.proofs.FileLaws.{none-settled, before, reached-start}
use Rattle.file_reader.proofs.read_until.Goals as goal

pub read_lines-requires : goal.read_lines-requires
unfolding place_of wires_in sum
read_lines-requires c =
    record {
      before = before _ _ (reached-start _ _ _ _ _ _ (c.requires.f_len_bound, refl, c.requires.rows_value) c.start.ensures c.none.ensures (none-settled _ _)) c.line_at.ensures;
      lines_indexed = lines-upto (ap (λ (p : Place). p.rows) c.start.ensures) (ap (λ (p : Place). p.wires) c.start.ensures) (lines_none _ _ _ _ _ refl refl);
    }
