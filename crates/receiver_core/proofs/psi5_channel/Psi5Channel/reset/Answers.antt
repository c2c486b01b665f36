-- No edge was seen.
use Rattle.std.proofs.Common.{refl}
use Rattle.receiver_core.specs.Psi5Places.{data_edges}
use Rattle.receiver_core.proofs.Psi5Stretches.{bursts-none}
use Rattle.receiver_core.proofs.psi5_channel.Psi5Channel.reset.Goals as goal

pub returns : goal.returns
returns c = λ s slots repeats seen before.
    bursts-none s slots repeats _ (c.forget_syncs.ensures s slots seen before.syncs) (c.reset.ensures s (data_edges slots seen) before.reads) refl
    (record { codes = before.codes.codes; same_codes = before.codes.same_codes; has_read = c.forget.ensures repeats _ before.codes.has_read })
