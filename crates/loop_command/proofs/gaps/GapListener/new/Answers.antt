-- A new listener has got nothing.
use Rattle.loop_command.proofs.ThinnedListeners.{got-none}
use Rattle.loop_command.proofs.gaps.GapListener.new.Goals as goal

pub returns : goal.returns
returns c = got-none c.new.result c.args.setup.now (record { is_of = c.new.ensures.setup; taken = c.new.ensures.taken })
