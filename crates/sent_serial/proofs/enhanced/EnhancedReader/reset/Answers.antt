-- A reader that forgets all stands for no status.
use Rattle.sent_serial.proofs.EnhancedLeads.{enhanced-fresh}
use Rattle.sent_serial.proofs.enhanced.EnhancedReader.reset.Goals as goal

pub returns : goal.returns
returns c = enhanced-fresh
