-- A new reader stands for no status.
use Rattle.sent_serial.proofs.EnhancedLeads.{enhanced-fresh}
use Rattle.sent_serial.proofs.enhanced.EnhancedReader.new.Goals as goal

pub returns : goal.returns
returns c = enhanced-fresh
