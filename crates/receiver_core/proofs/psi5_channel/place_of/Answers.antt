-- A channel without slots asks for none.
use Rattle.receiver_core.proofs.Psi5Channels.{free-place}
use Rattle.receiver_core.proofs.psi5_channel.place_of.Goals as goal

pub returns-in-None-clause-place : goal.returns-in-None-clause-place
returns-in-None-clause-place c = λ s slots seen before. free-place s slots seen _ (rw c.in-None.is at before)
