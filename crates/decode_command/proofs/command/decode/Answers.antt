use Rattle.std.proofs.Common.{refl}
use Rattle.command_base.proofs.Pulls.{no-memory}
use Rattle.decode_command.specs.Channels.{decoding_task}
use Rattle.decode_command.proofs.EdgeLists.{fault-nil}
use Rattle.decode_command.proofs.Steady.{decoding-steady}
use Rattle.decode_command.proofs.command.decode.Goals as goal

pub run_over-requires-clause-stands : goal.run_over-requires-clause-stands
run_over-requires-clause-stands g c = (
  decoding_task (record { setups = c.args.setups.now; told = c.args.told }),
  decoding-steady _,
  fault-nil,
  record {
    decodes = rw (c.new-run.ensures.channels, c.new-run.ensures.told, c.in-Ok.ensures.setups) refl;
    gathered = c.new-run.ensures.gathered;
    reads = c.new-run.ensures.reads;
  },
)

pub returns-in_default-clause-ended : goal.returns-in_default-clause-ended
returns-in_default-clause-ended g c = no-memory _ (g.S.Source.left c.args.source.now) (g.K.Sink.got c.args.out.now)

pub returns-in-Ok-read_buffer-clause-ended : goal.returns-in-Ok-read_buffer-clause-ended
returns-in-Ok-read_buffer-clause-ended g c = c.run_over.ensures.ended (decoding_task (record { setups = c.args.setups.now; told = c.args.told })) (decoding-steady _) fault-nil (record {
  decodes = rw (c.new-run.ensures.channels, c.new-run.ensures.told, c.in-Ok.ensures.setups) refl;
  gathered = c.new-run.ensures.gathered;
  reads = c.new-run.ensures.reads;
})

pub returns-in-Err-clause-ended : goal.returns-in-Err-clause-ended
returns-in-Err-clause-ended g c = no-memory _ (g.S.Source.left c.args.source.now) (g.K.Sink.got c.args.out.now)
