-- The law is a lemma.
use Rattle.receiver_core.proofs.NominalChannels.{psi5-honest}
use Rattle.receiver_core.proofs.nominal.psi5_messages_have_honest_traces.Goals as goal

pub returns : goal.returns
returns c = psi5-honest
