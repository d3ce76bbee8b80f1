-- What a word announces that may begin a line here.
use mathlib.Core.Path.{◌∙◌, sym}
use mathlib.Core.Bool.{false}
use Rattle.line_forms.proofs.ProcessLaws.{begins-some, begun-shape, no-shape}
use Rattle.line_forms.proofs.process_line_kind.Goals as goal

pub returns-then-not-begins_line : goal.returns-then-not-begins_line
returns-then-not-begins_line c = (λ f first. no-shape _ _ first _ _ c.requires f _ c.word_at-c.ensures (sym (c.begins_line.ensures first) ∙ c.if-not-begins_line.true), tt)

pub begun_line-requires-clause-c_value : goal.begun_line-requires-clause-c_value
begun_line-requires-clause-c_value c = begins-some _ _ false _ _ c.requires (sym (c.begins_line.ensures false) ∙ c.if-not-begins_line.false)

pub returns : goal.returns
returns c = (λ f first. begun-shape _ _ first _ _ c.requires f _ c.word_at-c.ensures (sym (c.begins_line.ensures first) ∙ c.if-not-begins_line.false) ∙ c.begun_line.ensures.0 f, c.begun_line.ensures.1)
