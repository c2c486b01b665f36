-- Where the edge gives no report, nothing is written.
use Rattle.std.proofs.Common.{subst, sym, ◌∙◌, List, ℕ}
use Rattle.decode_command.specs.Writes.{Takes}
use Rattle.receiver_core.proofs.CountedReports.{no-reports}
use Rattle.decode_command.proofs.Writing.{takes-nothing}
use Rattle.decode_command.proofs.Taking.{told-nothing}
use Rattle.decode_command.proofs.channels.take_edge_on.Goals as goal

pub returns-then-is_empty-clause-written : goal.returns-then-is_empty-clause-written
returns-then-is_empty-clause-written g c = λ edges before.
    subst (λ (text : List ℕ). Takes (record { got = g.K.Sink.got c.args.out.now; gathered = c.args.text.now }) (record { got = g.K.Sink.got c.args.out.now; gathered = c.args.text.now }) text)
    (sym (told-nothing c.args.told c.args.number _ (sym (c.hand_edge.ensures.given edges before) ∙ no-reports _ (sym c.is_empty.ensures ∙ c.if-is_empty.true)))) (takes-nothing _)
