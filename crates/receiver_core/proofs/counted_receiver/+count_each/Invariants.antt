use Rattle.std.proofs.Common.{length}
use Rattle.receiver_core.proofs.counted_receiver.+count_each.Given as goal

abbrev pub decreases-count_each : goal.decreases-count_each
decreases-count_each l = length l.reports.now
