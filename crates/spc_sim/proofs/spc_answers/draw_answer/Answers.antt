-- What is drawn is what the definitions say.
use Rattle.std.proofs.Common.{◌≡◌, ℕ, ◌+◌, ◌-◌, ◌*◌, ◌≤◌, List, [], ◌∷◌, ◌++◌, drop, length, take, ap, subst, sym, ◌∙◌, arith}
use Rattle.std.proofs.lemmas.List.{take_rest}
use Rattle.line_base.specs.declared.edge.Span.{Span}
use Rattle.spc_tolerance.proofs.NominalTrains.{delay_wide}
use Rattle.link_tolerance.specs.Pulses.{falls_behind, lengths_of}
use Rattle.sim_base.specs.DrawnTicks.{own_ticks}
use Rattle.spc_sim.specs.SpcSims.{inside}
use Rattle.sim_base.specs.Wobbles.{word, words}
use Rattle.spc_sim.proofs.SpcAnswers.{IsDrawn, answer-drawn, answer-next, answer-within}
use Rattle.spc_sim.proofs.spc_answers.draw_answer.Goals as goal
use Rattle.spc_sim.proofs.spc_answers.draw_answer.Goals.{After-push_pulses-last}

pub inside-requires : goal.inside-requires
inside-requires c = subst (λ (span : Span). span.low + 10 ≤ span.high) (sym c.delay.ensures.value) (delay_wide c.args.setup.now c.delay.ensures.range)

-- the ticks behind those of the calibration pulse
abbrev others : After-push_pulses-last → List ℕ
others c = take (length c.deref.result.now - 1) (drop 1 c.deref.result.now)

-- the lengths of those pulses
abbrev lengths : After-push_pulses-last → List ℕ
lengths c = lengths_of (others c) (own_ticks c.args.tick (words (length (others c)) c.inside.new.wobble))

-- the code's values are those of the definitions
is-drawn : (c : After-push_pulses-last) → IsDrawn c.args.setup.now c.args.frame.now c.args.rise c.args.tick c.args.wobble.now (c.args.rise + c.inside.result) (others c) c.inside.new.wobble
is-drawn c = record {
  fits = c.requires.as_many;
  start_is = ap (λ n. c.args.rise + n) (c.inside.ensures.value ∙ ap (λ span. inside c.args.setup.now span (word c.args.wobble.now)) c.delay.ensures.value);
  counts_are = take_rest c.deref.result.now 1 ∙ ap (drop 1) (c.deref.ensures.0 ∙ c.counts_of-counts.ensures.ticks);
  behind_is = c.inside.ensures.next;
}

falls-are : (c : After-push_pulses-last) → c.push_pulses-last.new.falls.items
    ≡ ((c.args.rise + c.inside.result) ∷ (c.args.rise + c.inside.result + 56 * c.args.tick) ∷ []) ++ falls_behind (c.args.rise + c.inside.result + 56 * c.args.tick) (lengths c)
falls-are c =
    let start = c.args.rise + c.inside.result in
    let calibrated = start + 56 * c.args.tick in
    c.push_pulses-last.ensures.falls
    ∙ ap (λ l. l ++ falls_behind calibrated (lengths c)) (c.push-2.ensures.items ∙ ap (λ l. l ++ calibrated ∷ []) (c.push.ensures.items ∙ ap (λ l. l ++ start ∷ []) c.new-falls.ensures))

pub returns-clause-drawn : goal.returns-clause-drawn
returns-clause-drawn c =
    answer-drawn (is-drawn c) c.push_pulses-last.new.falls.items c.push_pulses-last.result (falls-are c) c.push_pulses-last.ensures.last

pub returns-clause-next : goal.returns-clause-next
returns-clause-next c = answer-next (is-drawn c) c.push_pulses-last.new.wobble c.push_pulses-last.ensures.next

pub returns-clause-in_time : goal.returns-clause-in_time
returns-clause-in_time c = answer-within c.args.rise (c.args.rise + c.inside.result) (c.args.rise + c.inside.result + 56 * c.args.tick) (lengths c) c.push_pulses-last.new.falls.items c.push_pulses-last.result (omega arith) (omega arith) (falls-are c) c.push_pulses-last.ensures.last
