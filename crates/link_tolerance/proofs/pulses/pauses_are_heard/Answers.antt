-- The law is a lemma.
use Rattle.link_tolerance.proofs.HeardPulses.{pause_heard}
use Rattle.link_tolerance.proofs.pulses.pauses_are_heard.Goals as goal

pub returns : goal.returns
returns c = pause_heard
