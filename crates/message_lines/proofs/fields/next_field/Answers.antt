use Rattle.message_lines.proofs.Cutting.{field_cut}
use Rattle.message_lines.proofs.fields.next_field.Goals as goal

pub returns : goal.returns
returns c = field_cut c.args.rest c.cut.result.1 c.in_ok-text.text _ c.in_ok-text.ensures.ok_part c.cut.ensures
