use Rattle.std.proofs.Common.{◌+◌, ap, ◌∙◌, arith}
use Rattle.std.specs.List.{count_by}
use Rattle.std.proofs.lemmas.List.{take_all}
use Rattle.report_text.specs.Fields.{is_space}
use Rattle.message_lines.proofs.Cutting.{fields_counted}
use Rattle.message_lines.proofs.fields.count_of.Goals as goal

pub returns : goal.returns
returns c = fields_counted c.args.rest c.in-Some.text c.loop-byte.count c.in-Some.is (c.loop-byte.invariant ∙ ap (λ bytes. count_by is_space bytes + 1) (take_all c.loop-byte.byte-index c.in-Some.text.now (omega arith)))
