-- Each place adds its time.
use Rattle.std.proofs.Common.{◌+◌, ◌*◌, ◌≤◌, [], ◌∷◌, ◌++◌, map, take, ap, subst, sym, ◌∙◌, arith}
use Rattle.psi5_frame.specs.Frames.{waveform}
use Rattle.spc_tolerance.specs.Trains.{last_of}
use Rattle.psi5_sim.proofs.BurstTimes.{AreTimes, begins-frame, time_at, times-all, times-more}
use Rattle.psi5_sim.proofs.bursts.times_of.Goals as goal

pub loop-place-preserved : goal.loop-place-preserved
loop-place-preserved c = record {
  times = subst (λ n. AreTimes c.args.start c.args.half (take (c.loop-place.place-index + 1) c.as_slice-place-items.result.now) c.push.new.self.items (c.args.start + n * c.args.half)) (sym c.from.ensures)
      (times-more c.args.start c.args.half c.as_slice-place-items.result.now c.loop-place.place-index c.loop-place.times.items c.push.new.self.items c.loop-place.last c.requires.half
      (omega (arith, c.type_inv.place-items c.loop-place.place-index)) (omega arith) c.loop-place.invariant.times (c.push.ensures.items ∙ ap (λ n. c.loop-place.times.items ++ (c.args.start + n * c.args.half) ∷ []) c.from.ensures));
  count = omega arith;
}

pub returns-clause-begins : goal.returns-clause-begins
returns-clause-begins c =
    let places = c.as_slice-place-items.result.now in
    let times = times-all c.args.start c.args.half places c.loop-place.place-index c.loop-place.times.items c.loop-place.last (omega arith) c.loop-place.invariant.times in
    let bits = c.as_slice-place-items.ensures.value ∙ c.edges_of-places.ensures ∙ ap waveform (c.as_slice.ensures.value ∙ c.bits_of-bits.ensures) in
    let last = times.last_is ∙ ap (last_of 0) (times.times_are ∙ ap (map (time_at c.args.start c.args.half)) bits) in
    subst (λ n. c.args.start ≤ n) (sym last) (begins-frame c.args.setup.now c.args.payload.now c.args.start c.args.half)
