-- Both laws are lemmas.
use Rattle.link_tolerance.proofs.HeardPulses.{nibble_heard, value_heard}
use Rattle.link_tolerance.proofs.pulses.nibbles_are_heard.Goals as goal

pub returns-clause-carried : goal.returns-clause-carried
returns-clause-carried c = nibble_heard

pub returns-clause-value : goal.returns-clause-value
returns-clause-value c = value_heard
