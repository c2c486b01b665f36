-- A step gives six bits.
use Rattle.link_math.proofs.CheckRegister.{upper_below}
use Rattle.link_math.proofs.message_check.shifted.Goals as goal

pub returns-else-register-lt32-clause-is_six_bits : goal.returns-else-register-lt32-clause-is_six_bits
returns-else-register-lt32-clause-is_six_bits c =
    upper_below c.args.register c.from.result c.args.bit c.if-register-lt32.false c.requires c.from.ensures
