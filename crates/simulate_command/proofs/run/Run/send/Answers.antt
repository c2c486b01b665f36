use Rattle.simulate_command.proofs.Sending.{sent-tellable, sent-one, cut-one, refused-one}
use Rattle.simulate_command.proofs.run.Run.send.Goals as goal

pub put_rows-requires-clause-tellable : goal.put_rows-requires-clause-tellable
put_rows-requires-clause-tellable g c =
    let before = c.requires in
    rw c.as_slice.ensures.value (sent-tellable before.0 before.1 c.args.self.now before.2 before.3 c.args.message.now _ _ _ c.in-Ok.ensures)

pub returns-in-Ok-put_rows-clause-sent : goal.returns-in-Ok-put_rows-clause-sent
returns-in-Ok-put_rows-clause-sent g c = λ setup seed number told before.
    sent-one setup seed c.args.self.now told before (record { reader = c.args.self.now.reader; sim = c.next.new.self; wobble = c.next.new.wobble }) number c.args.message.now _ _ _ c.in-Ok.ensures (rw c.as_slice.ensures.value at c.in-Ok-put_rows.ensures.put)

pub returns-in-Err-put_rows-clause-stopped : goal.returns-in-Err-put_rows-clause-stopped
returns-in-Err-put_rows-clause-stopped g c = λ setup seed number told before.
    cut-one setup seed c.args.self.now told before number c.args.message.now _ _ _ _ _ c.in-Ok.ensures (rw c.as_slice.ensures.value at c.in-Err-put_rows.ensures.cut)

pub returns-in-Err-clause-stopped : goal.returns-in-Err-clause-stopped
returns-in-Err-clause-stopped g c = λ setup seed number told before.
    refused-one setup seed c.args.self.now told before number c.args.message.now _ _ _ _ _ c.in-Err.ensures c.fault_told.ensures
