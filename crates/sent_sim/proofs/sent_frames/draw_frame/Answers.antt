-- What is drawn is what the definitions say.
use Rattle.std.proofs.Common.{◌≡◌, ◌+◌, ◌-◌, ◌*◌, ◌≤◌, [], ◌∷◌, ◌++◌, drop, get_or, length, take, ap, ap₂, sym, subst, ◌∙◌, if◌then◌else◌, arith}
use Rattle.std.specs.List.{All}
use Rattle.std.proofs.lemmas.List.{take_rest}
use Rattle.sent_frame.specs.Frames.{ticks_of}
use Rattle.sim_base.specs.DrawnTicks.{next_tick, pause_ticks}
use Rattle.sent_sim.specs.SentSims.{ends_at, frame_sent, frame_words, ideal_of, pause_count}
use Rattle.sim_base.specs.Wobbles.{past, word}
use Rattle.sent_sim.proofs.SentFrames.{IsDrawn, drawn-falls, drawn-last, drawn-next, drawn-late, drawn-in_time}
use Rattle.sent_sim.proofs.sent_frames.draw_frame.Goals as goal
use Rattle.sent_sim.proofs.sent_frames.draw_frame.Goals.{After-push_pulses-last}

-- the code's values are those of the definitions
is-drawn : (c : After-push_pulses-last) → IsDrawn c.args.setup.now c.args.last c.args.before c.args.frame.now c.args.wobble.now c.push.new.self.items (c.begin.result + c.from.result * c.next_tick-tick.result) c.next_tick-tick.result (take (length c.deref-2.result.now - 1) (drop 1 c.deref-2.result.now)) c.pause_of-pause.new.wobble
unfolding frame_sent frame_words
is-drawn c =
    let s = c.args.setup.now in
    let frame = c.args.frame.now in
    let pause : c.pause_of-pause.result ≡ (frame_sent s c.args.before frame (frame_words s c.args.wobble.now)).pause =
    c.pause_of-pause.ensures.value ∙ ap (λ w. if s.pause then pause_ticks (word w) else 0) c.next_tick-tick.ensures.next in
    let ticks = c.pulses_of-counts.ensures.ticks in
    let counted : c.from.result ≡ 56 = c.from.ensures ∙ ap (λ l. get_or l 0 0) (c.deref.ensures.0 ∙ ticks) in
    let start = ap₂ (λ begins count. begins + count * c.next_tick-tick.result) c.begin.ensures.value counted in
    record {
      fits = c.requires.as_many;
      tick_is = c.next_tick-tick.ensures.value ∙ ap (λ n. next_tick n c.args.before (word c.args.wobble.now)) c.tick.ensures.value;
      counts_are = take_rest c.deref-2.result.now 1 ∙ ap (drop 1) (c.deref-2.ensures.0 ∙ ticks ∙ ap (ticks_of s frame) pause);
      behind_is = c.pause_of-pause.ensures.next ∙ ap (past (pause_count s)) c.next_tick-tick.ensures.next;
      start_is = start;
      falls_are = c.push.ensures.items ∙ ap (λ l. l ++ (c.begin.result + c.from.result * c.next_tick-tick.result) ∷ []) c.begin.ensures.falls;
    }

pub returns-clause-falls : goal.returns-clause-falls
returns-clause-falls c = drawn-falls (is-drawn c) c.push_pulses-last.new.falls.items c.push_pulses-last.ensures.falls

pub returns-clause-last : goal.returns-clause-last
returns-clause-last c = drawn-last (is-drawn c) c.push_pulses-last.result c.push_pulses-last.ensures.last

pub returns-clause-tick : goal.returns-clause-tick
returns-clause-tick c = (is-drawn c).tick_is

pub returns-clause-next : goal.returns-clause-next
returns-clause-next c = drawn-next (is-drawn c) c.push_pulses-last.new.wobble c.push_pulses-last.ensures.next

pub returns-clause-first : goal.returns-clause-first
returns-clause-first c =
    let s = c.args.setup.now in
    omega (arith, drawn-late s c.args.last (frame_sent s c.args.before c.args.frame.now (frame_words s c.args.wobble.now)) c.requires.in_time, returns-clause-last c)

pub returns-clause-in_time : goal.returns-clause-in_time
returns-clause-in_time c =
    let s = c.args.setup.now in
    let f = frame_sent s c.args.before c.args.frame.now (frame_words s c.args.wobble.now) in
    let last : c.push_pulses-last.result ≡ ends_at s c.args.last f = returns-clause-last c in
    let falls : c.push_pulses-last.new.falls.items ≡ ideal_of s c.args.last f = returns-clause-falls c in
    subst (λ l. All (λ fall. (100000 * s.tick ≤ fall) × (fall ≤ c.push_pulses-last.result)) l) (sym falls)
    (subst (λ e. All (λ fall. (100000 * s.tick ≤ fall) × (fall ≤ e)) (ideal_of s c.args.last f)) (sym last) (drawn-in_time s c.args.last f c.requires.in_time))
