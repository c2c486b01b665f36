-- One group more.
use Rattle.std.proofs.Common.{◌++◌, arith}
use Rattle.psi5_downlink.specs.Frames.{with_ones}
use Rattle.psi5_downlink.proofs.Encoding.{groups_all, groups_more}
use Rattle.psi5_downlink.proofs.bits.push_groups.Goals as goal

pub groups-preserved : goal.groups-preserved
groups-preserved c =
    let next = groups_more c.groups.bits.items c.push.new.self.items c.push-in-groups.new.self.items c.push-in-groups-2.new.self.items c.push-in-groups-3.new.self.items c.groups.rest.now c.split_at.result.0.now c.split_at.result.1.now
    (c.args.bits.now.items ++ with_ones c.args.ungrouped.now) c.split_at.ensures.front c.split_at.ensures.back c.push.ensures.items c.push-in-groups.ensures.items c.push-in-groups-2.ensures.items c.push-in-groups-3.ensures.items
    (omega (arith, c.groups-test.true)) c.groups.invariant.bits c.groups.invariant.room in
    record { bits = next.0; room = next.1 }

pub returns : goal.returns
returns c = groups_all c.groups.bits.items c.groups.rest.now (c.args.bits.now.items ++ with_ones c.args.ungrouped.now) (omega (arith, c.groups-test.false)) c.groups.invariant.bits
