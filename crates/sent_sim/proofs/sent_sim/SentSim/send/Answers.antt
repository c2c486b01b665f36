-- A frame is sent, but where it comes too late.
use Rattle.std.proofs.Common.{◌≡◌, ◌*◌, ◌++◌, length, true, ap, ap₂, subst, sym, ◌∙◌}
use Rattle.sim_base.specs.declared.sim_fault.SimFault.TheVariants as fault
use Rattle.sim_base.specs.Outcomes.{Refused}
use Rattle.sim_base.specs.Recordings.{falls_with_rises, opening_of, recorded_by}
use Rattle.sent_sim.specs.SentSims.{completed, ends_at, frame_next, frame_sent, frame_words, ideal_of}
use Rattle.sent_sim.specs.SentStates.{MayBeLeft, SentState}
use Rattle.sim_base.specs.Wobbles.{past, words}
use Rattle.sent_sim.proofs.SentOutcomes.{IsFrameSent, left-drop, refuses-late, sends-falls}
use Rattle.sent_sim.proofs.sent_sim.SentSim.send.Goals as goal

pub returns-then-drawn-gt-MAX_IDEAL : goal.returns-then-drawn-gt-MAX_IDEAL
returns-then-drawn-gt-MAX_IDEAL c =
    let before : SentState = record { line = c.self.inside.line; setup = c.self.inside.setup; serial = c.self.inside.serial; last = c.self.inside.last; tick = c.self.inside.tick; left = c.self.inside.left.items } in
    let drawn = c.draw_frame-drawn in
    let frame : c.completed-frame.result ≡ completed before.left c.args.frame.now = c.completed-frame.ensures.value ∙ ap (λ (s : SentState). completed s.left c.args.frame.now) (sym c.self.view_is) in
    let last = drawn.ensures.last ∙ ap (λ f. ends_at before.setup before.last (frame_sent before.setup before.tick f (frame_words before.setup c.args.wobble.now))) frame in
    subst (λ (s : SentState). Refused fault.Late s drawn.new.wobble ≡ frame_next s c.args.frame.now c.args.wobble.now) c.self.view_is
    (refuses-late before c.args.frame.now c.args.wobble.now drawn.result.last drawn.new.wobble last c.if-drawn-gt-MAX_IDEAL.true drawn.ensures.next)

pub invariant_of-self : goal.invariant_of-self
invariant_of-self c = record {
  in_time = (c.draw_frame-drawn.ensures.first, c.if-drawn-gt-MAX_IDEAL.false);
  is_tick = c.draw_frame-drawn.ensures.range;
  may_be_left = subst (MayBeLeft c.self.inside.serial) (sym c.drop_first.ensures) (left-drop c.self.inside.serial c.self.inside.left.items c.self.invariant.may_be_left);
}

pub returns : goal.returns
returns c =
    let before : SentState = record { line = c.self.inside.line; setup = c.self.inside.setup; serial = c.self.inside.serial; last = c.self.inside.last; tick = c.self.inside.tick; left = c.self.inside.left.items } in
    let drawn = c.draw_frame-drawn in
    let g = c.args.wobble.now in
    let frame : c.completed-frame.result ≡ completed before.left c.args.frame.now = c.completed-frame.ensures.value ∙ ap (λ (s : SentState). completed s.left c.args.frame.now) (sym c.self.view_is) in
    let low = ap (λ n. 4 * n) (c.from.ensures ∙ c.tick.ensures.value) in
    let sent : IsFrameSent before c.args.frame.now g c.push_edges.new.edges.items drawn.result.last drawn.result.tick c.drop_first.new.statuses.items c.push_edges.new.wobble = record {
      falls = drawn.result.falls.items;
      drawn = drawn.new.wobble;
      falls_are = drawn.ensures.falls ∙ ap (λ f. ideal_of before.setup before.last (frame_sent before.setup before.tick f (frame_words before.setup g))) frame;
      last_is = drawn.ensures.last ∙ ap (λ f. ends_at before.setup before.last (frame_sent before.setup before.tick f (frame_words before.setup g))) frame;
      tick_is = drawn.ensures.tick ∙ ap (λ f. (frame_sent before.setup before.tick f (frame_words before.setup g)).tick) frame;
      drawn_is = drawn.ensures.next;
      in_time = c.if-drawn-gt-MAX_IDEAL.false;
      edges_are =
          c.push_edges.ensures.edges
          ∙ ap₂ (λ first falls. first ++ falls_with_rises before.line (4 * c.from.result) (recorded_by c.jitter.result falls (words (length falls) drawn.new.wobble))) c.opening-edges.ensures c.as_slice.ensures.value
          ∙ ap₂ (λ low jitter. opening_of before.line true before.last ++ falls_with_rises before.line low (recorded_by jitter drawn.result.falls.items (words (length drawn.result.falls.items) drawn.new.wobble))) low c.jitter.ensures.value;
      behind_is = c.push_edges.ensures.next ∙ ap (λ l. past (length l) drawn.new.wobble) c.as_slice.ensures.value;
      left_is = c.drop_first.ensures;
    } in
    sends-falls before c.args.frame.now g c.push_edges.new.edges.items drawn.result.last drawn.result.tick c.drop_first.new.statuses.items c.push_edges.new.wobble sent ∙ ap (λ s. frame_next s c.args.frame.now g) c.self.view_is
