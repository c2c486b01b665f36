-- The law is a lemma.
use Rattle.sensor_script.proofs.SignalCodes.{signal-is}
use Rattle.sensor_script.proofs.laws.drawn_codes_are_signals.Goals as goal

pub returns : goal.returns
returns c = signal-is
