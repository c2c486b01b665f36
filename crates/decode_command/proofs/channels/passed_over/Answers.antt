-- One channel more is passed over.
use Rattle.std.proofs.Common.{sym, ◌∙◌}
use Rattle.decode_command.proofs.Passing.{pass-more}
use Rattle.decode_command.proofs.channels.passed_over.Goals as goal

pub channels-preserved : goal.channels-preserved
channels-preserved c =
    pass-more c.args.channels.now c.args.line c.channels.count c.channels.rest.now c.in-Some.channel.now c.in-Some.others.now c.in-Some.ensures.cases.0 (sym c.reads.ensures ∙ c.if-reads.false) c.channels.invariant
