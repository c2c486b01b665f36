use Rattle.std.proofs.Common.{refl, arith}
use Rattle.edge_trace.proofs.Runs.{takes_front, longest_run, room_left}
use Rattle.edge_trace.proofs.reader.EdgeReader.take_run.Goals as goal

pub returns-clause-stands : goal.returns-clause-stands
returns-clause-stands c = λ seen stands.
    let front = c.length_before-count.ensures in
    let line = c.len.ensures.length in
    (takes_front c.args.self.now _ seen c.args.block.now c.length_before-count.result stands front.fits (let few = front.few in omega arith) front.none refl refl c.extend.ensures refl refl refl).stands

pub returns-clause-quiet : goal.returns-clause-quiet
returns-clause-quiet c = λ seen stands.
    let front = c.length_before-count.ensures in
    let line = c.len.ensures.length in
    (takes_front c.args.self.now (record c.args.self.now { line = c.extend.new.self }) seen c.args.block.now c.length_before-count.result stands front.fits (let few = front.few in omega arith) front.none refl refl c.extend.ensures refl refl refl).quiet

pub returns-clause-longest : goal.returns-clause-longest
returns-clause-longest c = λ seen stands sound less.
    let front = c.length_before-count.ensures in
    let line = c.len.ensures.length in
    longest_run c.args.self.now seen c.args.block.now c.length_before-count.result stands sound front.fits front.none (room_left _ _ _ _ (front.stops less) (omega arith))
