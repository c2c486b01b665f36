-- No edge was seen.
use Rattle.std.proofs.Common.{refl, ap, nat_eq}
use Rattle.psi5_frame.specs.declared.setup.Parts.{Parts}
use Rattle.receiver_core.proofs.Psi5Stretches.{bursts-none}
use Rattle.receiver_core.proofs.Psi5Channels.{has-codes}
use Rattle.receiver_core.proofs.psi5_channel.Psi5Channel.new.Goals as goal

pub returns : goal.returns
returns c =
    bursts-none c.args.setup c.args.slots c.args.init _ (c.sync_line.ensures c.args.setup) c.new.ensures refl
    (record { codes = has-codes c.args.setup c.args.init c.requires; same_codes = ap (λ (parts : Parts). nat_eq parts.a 10) c.parts.ensures.value; has_read = c.init_readers.ensures })
