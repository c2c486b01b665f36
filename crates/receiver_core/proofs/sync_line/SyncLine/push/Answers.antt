-- A rise behind another edge is a sync.
use Rattle.std.proofs.Common.{◌≡◌, ◌&&◌, false}
use Rattle.receiver_core.proofs.SyncLines.{line-synced, line-opened, no_rise, no_opening}
use Rattle.receiver_core.proofs.sync_line.SyncLine.push.Goals as goal
use Rattle.receiver_core.proofs.sync_line.SyncLine.push.Goals.{else-edge-via-then-edge+else-self, else-edge-via-else-edge}

pub returns-then-self : goal.returns-then-self
returns-then-self c = λ s slots seen number before on.
    line-synced s slots c.args.self.now seen (record { number = number; edge = c.args.edge }) c.sync.new.self before on c.if-edge.true c.if-self.true
    (c.sync.ensures slots.setup _ before.reads)

pub returns : goal.returns
returns c = λ s slots seen number before on.
    line-opened s slots c.args.self.now seen (record { number = number; edge = c.args.edge }) before on none
  where
    none : (c.args.edge.level && c.args.self.now.opened) ≡ false
    none = elim c.else-edge.branch [
      | else-edge-via-then-edge+else-self w ↦ no_opening c.args.edge.level c.args.self.now.opened w.if-self.false
      | else-edge-via-else-edge w ↦ no_rise c.args.edge.level c.args.self.now.opened w.if-edge.false
    ]
