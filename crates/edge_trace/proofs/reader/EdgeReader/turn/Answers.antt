use Rattle.std.proofs.Common.{◌≤◌, length, arith, inl, inr}
use Rattle.edge_trace.proofs.StandingFor.{going_of, stopped_takes}
use Rattle.edge_trace.proofs.Feeding.{takes_past, takes_lf, takes_too_long}
use Rattle.edge_trace.proofs.reader.EdgeReader.turn.Goals as goal

pub returns-in_err-state-clause-takes : goal.returns-in_err-state-clause-takes
returns-in_err-state-clause-takes c = λ seen stands h. rw c.from_residual.ensures (stopped_takes c.args.self.now seen c.args.byte stands c.in_err-state.was)

pub returns-then-len-self-clause-takes : goal.returns-then-len-self-clause-takes
returns-then-len-self-clause-takes c = λ seen stands h.
    rw c.stop.ensures.answer (takes_past c.args.self.now c.in_ok-state.state seen (going_of c.args.self.now c.in_ok-state.state seen stands c.in_ok-state.was) c.stop.new.self c.args.byte (let l = c.len.ensures.length in omega arith) c.stop.ensures.state c.stop.ensures.room c.stop.ensures.line c.stop.ensures.number)

pub returns-then-byte-eq10-clause-takes : goal.returns-then-byte-eq10-clause-takes
returns-then-byte-eq10-clause-takes c = λ seen stands h.
    let going = going_of c.args.self.now c.in_ok-state.state seen stands c.in_ok-state.was in
    takes_lf c.args.self.now c.in_ok-state.state seen going c.end_line.new.self c.args.byte c.end_line.result c.if-byte-eq10.true (let l = c.len.ensures.length in omega arith) (c.end_line.ensures.read going.standing going.at) c.end_line.ensures.line c.end_line.ensures.number c.end_line.ensures.left

pub returns-clause-takes : goal.returns-clause-takes
returns-clause-takes c = λ seen stands h.
    let going = going_of c.args.self.now c.in_ok-state.state seen stands c.in_ok-state.was in
    let no_room : c.args.self.now.room ≤ length c.args.self.now.line = elim h [ inl e ↦ absurd (c.if-byte-eq10.false e) | inr few ↦ few ] in
    rw c.stop-2.ensures.answer (takes_too_long c.args.self.now c.in_ok-state.state seen going c.stop-2.new.self c.args.byte (let l = c.len.ensures.length in omega arith) c.if-byte-eq10.false no_room c.stop-2.ensures.state c.stop-2.ensures.room c.stop-2.ensures.line c.stop-2.ensures.number)
