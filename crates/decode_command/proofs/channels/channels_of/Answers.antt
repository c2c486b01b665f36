-- One channel more is made.
use Rattle.std.proofs.Common.{sym, subst, List}
use Rattle.receiver_core.specs.declared.counted_receiver.CountedReceiver.{CountedReceiver}
use Rattle.decode_command.proofs.OneMore.{nothing-follows}
use Rattle.decode_command.proofs.Taking.{MadeSoFar, made-one, next-sound}
use Rattle.decode_command.proofs.channels.channels_of.Goals as goal

pub new-requires : goal.new-requires
new-requires c = next-sound c.args.setups.now c.setups.rest.now c.in-Some.setup.now c.in-Some.others.now c.setups.channels.items c.setups.invariant c.in-Some.ensures.cases.0

pub setups-preserved : goal.setups-preserved
setups-preserved c =
    subst (λ (made : List CountedReceiver). MadeSoFar c.args.setups.now c.in-Some.others.now made) (sym c.in_ok-push.ensures.items)
    (made-one c.args.setups.now c.setups.rest.now c.in-Some.setup.now c.in-Some.others.now c.setups.channels.items c.new.result c.setups.invariant c.in-Some.ensures.cases.0 c.new.ensures.setup (nothing-follows _ c.new.ensures.taken))
