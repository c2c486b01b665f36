-- The law is a lemma on any kind of message.
use Rattle.sent_serial.specs.Enhanced.{enhanced_reading}
use Rattle.sent_serial.specs.Sendings.{IsEnhanced}
use Rattle.sent_serial.proofs.SentEnhanced.{enhanced-is_reading}
use Rattle.sent_serial.proofs.SentParts.{part_reads}
use Rattle.sent_serial.proofs.sending.enhanced_messages_are_read.Goals as goal

pub returns : goal.returns
returns c = λ sendings cut count fits. part_reads IsEnhanced enhanced_reading enhanced-is_reading sendings cut count fits
