-- The law is a lemma.
use Rattle.receiver_core.proofs.NominalChannels.{tooth-honest}
use Rattle.receiver_core.proofs.nominal.downlink_messages_have_honest_traces.Goals as goal

pub returns : goal.returns
returns c = tooth-honest
