-- The law is a lemma.
use Rattle.receiver_core.proofs.NominalChannels.{spc-honest}
use Rattle.receiver_core.proofs.nominal.spc_messages_have_honest_traces.Goals as goal

pub returns : goal.returns
returns c = spc-honest
