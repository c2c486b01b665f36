-- An enhanced message is what a sensor sends, and is read as what it says.
use Rattle.std.proofs.Common.{◌∙◌, ap}
use Rattle.link_math.specs.Checks.{crc6_of}
use Rattle.sent_serial.proofs.EncodedStatuses.{check-encoded}
use Rattle.sent_serial.proofs.SentMessages.{enhanced-sent}
use Rattle.sent_serial.proofs.encoders.message.Goals as goal

pub returns-clause-message : goal.returns-clause-message
returns-clause-message c =
    let values = rw c.from.ensures at c.spread.ensures.values in
    enhanced-sent c.spread.new.statuses c.crc6-check.result c.args.values c.args.starts c.requires.starts c.requires.zero_13 c.requires.zero_18 c.requires.values c.crc6-check.ensures.is_six_bits
    (c.crc6-check.ensures.value ∙ ap crc6_of c.checked.ensures) values c.spread.ensures.starts

pub returns-clause-statuses : goal.returns-clause-statuses
returns-clause-statuses c =
    let values = rw c.from.ensures at c.spread.ensures.values in
    check-encoded c.spread.new.statuses c.crc6-check.result c.args.values c.args.starts c.requires.starts c.requires.values c.crc6-check.ensures.is_six_bits
    (c.crc6-check.ensures.value ∙ ap crc6_of c.checked.ensures) values c.spread.ensures.starts c.spread.ensures.two_bits
