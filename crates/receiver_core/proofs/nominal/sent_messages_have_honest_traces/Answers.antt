-- The law is a lemma.
use Rattle.receiver_core.proofs.NominalChannels.{sent-honest}
use Rattle.receiver_core.proofs.nominal.sent_messages_have_honest_traces.Goals as goal

pub returns : goal.returns
returns c = sent-honest
