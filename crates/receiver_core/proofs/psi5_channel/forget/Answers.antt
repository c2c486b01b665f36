-- No code was read.
use Rattle.std.proofs.Common.{[]}
use Rattle.receiver_core.proofs.InitReaders.{where-read}
use Rattle.receiver_core.proofs.psi5_channel.forget.Goals as goal

pub returns-in-Some : goal.returns-in-Some
returns-in-Some c = λ repeats since before. where-read repeats c.in-Some.readers c.reset.new.self since [] (rw c.in-Some.is at before) (λ count stands. c.reset.ensures count since stands)
