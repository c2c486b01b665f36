-- The edges are those of the burst.
use Rattle.std.proofs.Common.{◌≡◌, ◌+◌, ◌*◌, ◌++◌, true, Some, length, ap, ap₂, sym, ◌∙◌}
use Rattle.psi5_tolerance.specs.Trains.{FrameSent, FrameAt}
use Rattle.spc_tolerance.specs.Trains.{last_of}
use Rattle.sim_base.specs.Recordings.{recorded_by}
use Rattle.sim_base.specs.Wobbles.{past, words}
use Rattle.psi5_sim.specs.Psi5Sims.{alternating, behind, message_edges, openings, times_sent}
use Rattle.psi5_sim.specs.Psi5States.{Psi5State}
use Rattle.psi5_sim.proofs.Psi5Outcomes.{frame-edges, frame-times, refuses-late, sends-edges}
use Rattle.psi5_sim.proofs.psi5_sim.Psi5Sim.send_burst.Goals as goal

pub returns-then-burst-gt-MAX_IDEAL : goal.returns-then-burst-gt-MAX_IDEAL
returns-then-burst-gt-MAX_IDEAL c =
    let state = c.args.self.now in
    let f : FrameSent = record { slot = c.args.slot; payload = c.args.payload.now; start = c.args.start; half = c.args.half } in
    let times : c.times_of-burst.result.times.items ≡ times_sent state.setup (FrameAt f) =
    c.times_of-burst.ensures.times ∙ sym (frame-times c.self.inside.setup f) ∙ ap (λ (s : Psi5State). times_sent s.setup (FrameAt f)) c.self.view_is in
    refuses-late state (FrameAt f) c.args.wobble.now c.times_of-burst.result.last (c.times_of-burst.ensures.last ∙ ap (last_of 0) times) c.if-burst-gt-MAX_IDEAL.true

pub returns : goal.returns
returns c =
    let state = c.args.self.now in
    let g = c.args.wobble.now in
    let f : FrameSent = record { slot = c.args.slot; payload = c.args.payload.now; start = c.args.start; half = c.args.half } in
    let items = c.times_of-burst.result.times.items in
    let times : items ≡ times_sent state.setup (FrameAt f) =
    c.times_of-burst.ensures.times ∙ sym (frame-times c.self.inside.setup f) ∙ ap (λ (s : Psi5State). times_sent s.setup (FrameAt f)) c.self.view_is in
    let drawn = words (length items) g in
    let opened = openings c.self.inside.line c.self.inside.slots c.self.inside.frame_end c.self.inside.sync in
    let edges = c.push_alternating.ensures.edges
    ∙ ap (λ l. c.openings-edges.result.items ++ alternating c.self.inside.line true (recorded_by c.jitter.result l (words (length l) g))) c.as_slice.ensures.value
    ∙ ap₂ (λ l j. l ++ alternating c.self.inside.line true (recorded_by j items drawn)) c.openings-edges.ensures.edges c.jitter.ensures.value
    ∙ ap (λ (s : Psi5State). openings s.line s.slots s.before.frame_end s.before.sync ++ alternating s.line true (recorded_by s.setup.jitter items drawn)) c.self.view_is in
    sends-edges state (FrameAt f) g c.times_of-burst.result.last c.push_alternating.new.edges.items _ c.push_alternating.new.wobble (c.times_of-burst.ensures.last ∙ ap (last_of 0) times) c.if-burst-gt-MAX_IDEAL.false
    (frame-edges state f items drawn c.push_alternating.new.edges.items times edges ∙ ap (λ l. message_edges state (FrameAt f) (words (length l) g)) times)
    (ap (λ n. record { line = c.self.inside.line; setup = c.self.inside.setup; slots = c.self.inside.slots; before = record { frame_end = Some (c.args.start + 2 * n * c.args.half); sync = c.self.inside.sync; slot = c.args.slot } })
    (c.from.ensures ∙ c.bit_count.ensures.value) ∙ ap (λ (s : Psi5State). behind s (FrameAt f)) c.self.view_is)
    (c.push_alternating.ensures.next ∙ ap (λ l. past (length l) g) (c.as_slice.ensures.value ∙ times))
