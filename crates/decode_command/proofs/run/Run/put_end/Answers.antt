-- The text is whole with what the end adds.
use Rattle.decode_command.specs.Runs.{decoding_of}
use Rattle.decode_command.proofs.Answers.{on-ok, on-err}
use Rattle.decode_command.proofs.Fronts.{whole-more}
use Rattle.decode_command.proofs.run.Run.put_end.Goals as goal

pub returns-clause-written : goal.returns-clause-written
returns-clause-written g c =
    on-ok c.put_end.result (rw c.as_mut_slice.ensures.value at c.put_end.ensures.written) (λ written edges before. record { more = _; is = whole-more (decoding_of c.args.self.now) edges; taken = written edges before })

pub returns-clause-cut : goal.returns-clause-cut
returns-clause-cut g c =
    on-err c.put_end.result (rw c.as_mut_slice.ensures.value at c.put_end.ensures.cut) (λ cut edges before. record { more = _; is = whole-more (decoding_of c.args.self.now) edges; front = cut edges before })
