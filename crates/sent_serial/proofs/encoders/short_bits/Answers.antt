-- A short message is what a sensor sends, and is read as what it says.
use Rattle.sent_serial.proofs.EncodedStatuses.{short-encoded}
use Rattle.sent_serial.proofs.SentMessages.{short-sent}
use Rattle.sent_serial.proofs.encoders.short_bits.Goals as goal

pub returns-clause-read_alone : goal.returns-clause-read_alone
returns-clause-read_alone c =
    let values = rw (c.from.ensures, c.from-2.ensures, c.from-3.ensures) at c.spread.ensures.values in
    short-sent c.spread.new.statuses c.args.id c.args.value c.check_of-check.result c.requires c.ranges.value.fits c.check_of-check.ensures.is_nibble c.check_of-check.ensures.value
    values c.spread.ensures.starts

pub returns-clause-statuses : goal.returns-clause-statuses
returns-clause-statuses c =
    let values = rw (c.from.ensures, c.from-2.ensures, c.from-3.ensures) at c.spread.ensures.values in
    short-encoded c.spread.new.statuses c.args.id c.args.value c.check_of-check.result c.requires c.ranges.value.fits c.check_of-check.ensures.value values c.spread.ensures.starts c.spread.ensures.two_bits
