-- The start, and then the groups.
use Rattle.std.proofs.Common.{◌∙◌}
use Rattle.psi5_downlink.proofs.Encoding.{frame_is}
use Rattle.psi5_downlink.proofs.bits.down_bits.Goals as goal

pub returns : goal.returns
returns c = frame_is c.args.form c.args.down.now c.new-bits.result.items c.push.new.self.items c.push-2.new.self.items c.push_groups.new.bits.items c.as_slice.result.now c.new-bits.ensures c.push.ensures.items c.push-2.ensures.items
    (c.as_slice.ensures.value ∙ c.data_bits-data.ensures.bits) c.push_groups.ensures
