-- A new channel has sent nothing.
use Rattle.loop_command.proofs.Turns.{sent-nothing}
use Rattle.loop_command.proofs.channel.Channel.new.Goals as goal

pub returns-clause-sent : goal.returns-clause-sent
returns-clause-sent c = sent-nothing _ c.args.setup.now c.requires c.setups_are_accepted.ensures c.new.ensures c.new-3.ensures
