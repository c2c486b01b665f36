-- One cell more.
use Rattle.std.proofs.Common.{sym}
use Rattle.psi5_downlink.proofs.KeptBits.{kept_more}
use Rattle.psi5_downlink.proofs.frame_bits.FrameBits.push.Goals as goal

pub invariant_of-self : goal.invariant_of-self
invariant_of-self c = kept_more c.self.inside.cells c.self.inside.count c.args.bit c.self.invariant (rw (sym c.self.view_is) at c.requires)
