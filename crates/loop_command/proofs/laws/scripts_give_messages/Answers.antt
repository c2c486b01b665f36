-- A script gives these messages.
use Rattle.loop_command.proofs.Turns.{goes-on, these-alone}
use Rattle.loop_command.proofs.laws.scripts_give_messages.Goals as goal

pub returns-clause-given : goal.returns-clause-given
returns-clause-given c = goes-on

pub returns-clause-alone : goal.returns-clause-alone
returns-clause-alone c = these-alone
