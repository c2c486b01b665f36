-- A step gives three bits.
use Rattle.link_math.proofs.FrameRegister.{upper_below}
use Rattle.link_math.proofs.frame_check.shifted.Goals as goal

pub returns-else-register-lt4-clause-is_three_bits : goal.returns-else-register-lt4-clause-is_three_bits
returns-else-register-lt4-clause-is_three_bits c =
    upper_below c.args.register c.from.result c.args.bit c.if-register-lt4.false c.requires c.from.ensures
