-- A new reader stands for no status.
use Rattle.sent_serial.proofs.ShortLeads.{short-fresh}
use Rattle.sent_serial.proofs.short.ShortReader.new.Goals as goal

pub returns : goal.returns
returns c = short-fresh
