-- One group more.
use Rattle.std.proofs.Common.{arith}
use Rattle.psi5_downlink.specs.Frames as frames
use Rattle.psi5_downlink.proofs.Judging.{group_kept, group_last}
use Rattle.psi5_downlink.proofs.verdict.without_ones.Goals as goal

pub groups-preserved : goal.groups-preserved
groups-preserved c =
    let next = group_kept c.groups.fields c.push.new.self c.push-in-groups.new.self c.push-in-groups-2.new.self c.groups.rest.now c.split_at.result.0.now c.split_at.result.1.now (frames.without_ones c.args.bits.now)
    c.split_at.ensures.front c.split_at.ensures.back c.push.ensures c.push-in-groups.ensures c.push-in-groups-2.ensures (omega (arith, c.groups-test.true)) c.groups.invariant.bits c.groups.invariant.room in
    record { bits = next.0; room = next.1 }

pub returns : goal.returns
returns c = group_last c.groups.fields c.groups.rest.now (frames.without_ones c.args.bits.now) (omega (arith, c.groups-test.false)) c.groups.invariant.bits
