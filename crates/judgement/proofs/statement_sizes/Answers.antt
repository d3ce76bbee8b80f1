-- The signals of a sound statement are narrow, and its other parts are no longer than the file.
use mathlib.Core.Path.{refl}
use native.Mathlib.Omega.{arith}
use Rattle.context.proofs.SizeLaws.{kind-sizes-are}
use Rattle.judgement.proofs.PartLaws.{parts-good, parts-few, parts-narrow, name-few, sizes-are, sizes-few}
use Rattle.judgement.proofs.statement_sizes.Goals as goal

pub overflow_add-names : goal.overflow_add-names
overflow_add-names c =
    let args = c.args in
    let pre = c.requires in
    let parts-of = c.parts_of-parts in
    omega (
      arith,
      c.span_size.ensures,
      c.span_size-2.ensures,
      name-few args.f.now parts-of.result.first,
      name-few args.f.now parts-of.result.name,
      pre.f_len_bound,
    )

pub overflow_cast-parts : goal.overflow_cast-parts
overflow_cast-parts c = omega (arith, parts-few c.args.f.now _ _ c.parts_of-parts.ensures c.requires.sound)

pub signal_bits-requires : goal.signal_bits-requires
signal_bits-requires c =
    let args = c.args in
    let pre = c.requires in
    parts-narrow args.f.now _ _ c.parts_of-parts.ensures pre.sound pre.statement_value

pub value_bits-requires : goal.value_bits-requires
value_bits-requires c =
    let args = c.args in
    let pre = c.requires in
    parts-good args.f.now _ _ c.parts_of-parts.ensures pre.sound

pub returns-clause-sizes_are : goal.returns-clause-sizes_are
returns-clause-sizes_are c =
    sizes-are c.args.f.now _ _ _ _ _ _ _ _ _ c.parts_of-parts.ensures c.requires.sound c.requires.statement_value refl c.signal_bits.ensures c.value_bits.ensures c.string_bytes.ensures c.span_size.ensures c.span_size-2.ensures
    (kind-sizes-are _ _ _ _ _ _ _ c.kind_sizes.ensures)

pub returns-clause-at_most : goal.returns-clause-at_most
returns-clause-at_most c =
    sizes-few c.args.f.now _ _ _ _ _ _ _ _ _ c.parts_of-parts.ensures c.requires.sound c.requires.statement_value refl c.signal_bits.ensures c.value_bits.ensures c.string_bytes.ensures c.span_size.ensures c.span_size-2.ensures
    (kind-sizes-are _ _ _ _ _ _ _ c.kind_sizes.ensures) c.requires.f_len_bound
