use Rattle.std.proofs.Common.{refl}
use Rattle.edge_trace.proofs.StandingFor.{going_of, ended_of, stopped_finishes}
use Rattle.edge_trace.proofs.Growth.{ended_at_whole}
use Rattle.edge_trace.proofs.reader.EdgeReader.finish.Goals as goal

pub returns-in_err-state-clause-whole : goal.returns-in_err-state-clause-whole
returns-in_err-state-clause-whole c = λ seen stands. rw c.from_residual.ensures (stopped_finishes c.args.self.now seen stands c.in_err-state.was)

pub returns-in_err-state-clause-ends : goal.returns-in_err-state-clause-ends
returns-in_err-state-clause-ends c = λ seen stands. ended_of c.args.self.now seen stands c.in_err-state.was

pub returns-in_err-state-clause-stops : goal.returns-in_err-state-clause-stops
returns-in_err-state-clause-stops c = λ seen number fault stands e. ended_at_whole c.args.self.now seen number fault (ended_of c.args.self.now seen stands c.in_err-state.was) e

pub returns-clause-whole : goal.returns-clause-whole
returns-clause-whole c = λ seen stands. c.end_input-answer.ensures.whole seen (going_of c.args.self.now c.in_ok-state.state seen stands c.in_ok-state.was)

pub returns-clause-ends : goal.returns-clause-ends
returns-clause-ends c = λ seen stands.
    let going = going_of c.args.self.now c.in_ok-state.state seen stands c.in_ok-state.was in
    record {
      ended = refl;
      closed = refl;
      number_is = c.end_input-answer.ensures.number seen going;
      small = c.end_input-answer.ensures.small seen going;
    }

pub returns-clause-stops : goal.returns-clause-stops
returns-clause-stops c = λ seen number fault stands e.
    let going = going_of c.args.self.now c.in_ok-state.state seen stands c.in_ok-state.was in
    ended_at_whole _ seen number fault (record {
      ended = refl;
      closed = refl;
      number_is = c.end_input-answer.ensures.number seen going;
      small = c.end_input-answer.ensures.small seen going;
    }) e
