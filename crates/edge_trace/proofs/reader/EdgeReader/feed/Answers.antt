use Rattle.std.proofs.Common.{◌≡◌, ◌≤◌, ◌⊎◌, length, ◌∷◌, ◌++◌, [], refl, arith, inl, inr}
use Rattle.edge_trace.proofs.StandingFor.{ended_at_fault}
use Rattle.edge_trace.proofs.Feeding.{stands_byte, grows_byte}
use Rattle.edge_trace.proofs.reader.EdgeReader.feed.Goals as goal
use Rattle.edge_trace.proofs.reader.EdgeReader.feed.Goals.{else-byte-ne10-via-then-byte-ne10+else-len-self, else-byte-ne10-via-else-byte-ne10}

pub returns-then-len-self-clause-stands : goal.returns-then-len-self-clause-stands
returns-then-len-self-clause-stands c = λ seen stands. stands_byte c.args.self.now _ seen c.args.byte stands c.if-byte-ne10.true (let l = c.len.ensures.length in omega arith) refl refl c.push.ensures refl refl refl

pub returns-then-len-self-clause-grows : goal.returns-then-len-self-clause-grows
returns-then-len-self-clause-grows c = λ seen stands. grows_byte c.args.self.now seen c.args.byte stands c.if-byte-ne10.true (let l = c.len.ensures.length in omega arith)

pub returns-then-len-self-clause-stops : goal.returns-then-len-self-clause-stops
returns-then-len-self-clause-stops c = λ seen number fault stands e. ended_at_fault _ (seen ++ c.args.byte ∷ []) number fault (stands_byte c.args.self.now _ seen c.args.byte stands c.if-byte-ne10.true (let l = c.len.ensures.length in omega arith) refl refl c.push.ensures refl refl refl) e

pub returns-clause-stops : goal.returns-clause-stops
returns-clause-stops c = λ seen number fault stands e.
    let full : (c.args.byte ≡ 10) ⊎ (c.args.self.now.room ≤ length c.args.self.now.line) = elim c.else-byte-ne10.branch [
      | else-byte-ne10-via-then-byte-ne10+else-len-self w ↦ inr (let l = w.len.ensures.length in omega arith)
      | else-byte-ne10-via-else-byte-ne10 w ↦ inl w.if-byte-ne10.false
    ] in
    ended_at_fault c.turn.new.self (seen ++ c.args.byte ∷ []) number fault (c.turn.ensures.takes seen stands full).stands e
