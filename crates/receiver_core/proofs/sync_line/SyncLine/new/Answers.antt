-- No edge was seen.
use Rattle.std.proofs.Common.{refl}
use Rattle.receiver_core.proofs.SyncLines.{line-none}
use Rattle.receiver_core.proofs.sync_line.SyncLine.new.Goals as goal

pub returns : goal.returns
returns c = λ s. line-none s c.args.slots c.args.slots.line c.new.result refl c.new.ensures
