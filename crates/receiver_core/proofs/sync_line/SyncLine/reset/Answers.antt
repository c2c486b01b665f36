-- No edge was seen.
use Rattle.receiver_core.proofs.SyncLines.{line-none}
use Rattle.receiver_core.proofs.sync_line.SyncLine.reset.Goals as goal

pub returns : goal.returns
returns c = λ s slots seen before. line-none s slots c.args.self.now.line c.reset.new.self before.same_line (c.reset.ensures slots.setup _ before.reads)
