-- A new receiver has taken nothing.
use Rattle.std.proofs.Common.{ap, sym, ◌∙◌, arith}
use Rattle.receiver_core.specs.Tallies.{tally_of}
use Rattle.receiver_core.proofs.ReportFronts.{so_far-none}
use Rattle.receiver_core.proofs.counted_receiver.CountedReceiver.new.Goals as goal

pub returns-clause-taken : goal.returns-clause-taken
returns-clause-taken c = record {
  reads = c.new.ensures;
  counted_are = c.new-2.ensures ∙ ap tally_of (sym (so_far-none c.args.setup.now));
  few = rw c.new-2.ensures (omega arith);
}
