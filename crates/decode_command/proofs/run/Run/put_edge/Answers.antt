-- The text grows by the lines of the edge.
use Rattle.decode_command.proofs.Answers.{on-ok, on-err}
use Rattle.decode_command.proofs.Rows.{text-one}
use Rattle.decode_command.specs.Runs.{decoding_of}
use Rattle.decode_command.proofs.run.Run.put_edge.Goals as goal

pub returns-clause-written : goal.returns-clause-written
returns-clause-written g c =
    on-ok c.take_edge.result (rw c.as_mut_slice.ensures.value at c.take_edge.ensures.written) (λ written edges before. record { more = _; is = text-one (decoding_of c.args.self.now) edges c.args.edge; taken = written edges before })

pub returns-clause-cut : goal.returns-clause-cut
returns-clause-cut g c =
    on-err c.take_edge.result (rw c.as_mut_slice.ensures.value at c.take_edge.ensures.cut) (λ cut edges before. record { more = _; is = text-one (decoding_of c.args.self.now) edges c.args.edge; front = cut edges before })
