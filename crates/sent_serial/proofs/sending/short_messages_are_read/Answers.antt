-- The law is a lemma on any kind of message.
use Rattle.sent_serial.specs.Short.{short_reading}
use Rattle.sent_serial.specs.Sendings.{IsShort}
use Rattle.sent_serial.proofs.SentShort.{short-is_reading}
use Rattle.sent_serial.proofs.SentParts.{part_reads}
use Rattle.sent_serial.proofs.sending.short_messages_are_read.Goals as goal

pub returns : goal.returns
returns c = λ sendings cut count fits. part_reads IsShort short_reading short-is_reading sendings cut count fits
