-- What is drawn is what the definitions say.
use Rattle.std.proofs.Common.{◌+◌, ◌*◌, ◌≤◌, ℕ, [], ◌∷◌, ◌++◌, length, refl, ap, subst, sym, ◌∙◌}
use Rattle.std.specs.List.{All}
use Rattle.psi5_downlink.specs.Frames.{frame_of}
use Rattle.psi5_downlink_tolerance.specs.Trains.{rises_behind}
use Rattle.psi5_downlink_sim.specs.ToothSims.{IsDrawnMessage, ideal_of, missing_drawn, past_words, period_drawn, tooth_words}
use Rattle.sim_base.specs.Wobbles.{behind_word, word}
use Rattle.psi5_downlink_sim.proofs.PushedBits.{spans_left}
use Rattle.psi5_downlink_sim.proofs.ToothMessages.{message-drawn, message-few, message-in_time, message-late}
use Rattle.psi5_downlink_sim.proofs.tooth_rises.draw_message.Goals as goal
use Rattle.psi5_downlink_sim.proofs.tooth_rises.draw_message.Goals.{After-push_bits-last}

-- the pulse behind the gap
abbrev gap_end : After-push_bits-last → ℕ
gap_end c = c.begin-start.result + (c.draw_gap-missing.result + 1) * c.draw_period-period.result

is-drawn : (c : After-push_bits-last) → IsDrawnMessage c.args.setup.now c.args.last c.args.down.now (tooth_words c.args.wobble.now) c.push_bits-last.new.rises.items c.push_bits-last.result
unfolding tooth_words
is-drawn c =
    let g = c.args.wobble.now in
    let period = c.draw_period-period in
    let rises = c.push_bits-last.ensures.rises ∙ ap (λ l. l ++ rises_behind (gap_end c) (spans_left period.result 0 c.as_slice.result.now)) (c.push-2.ensures.items ∙ ap (λ l. l ++ gap_end c ∷ []) (c.push.ensures.items ∙ ap (λ l. l ++ c.begin-start.result ∷ []) c.new-rises.ensures)) in
    message-drawn c.args.setup.now c.args.last c.args.down.now (tooth_words g) period.result c.draw_gap-missing.result c.begin-start.result (gap_end c) c.as_slice.result.now c.push_bits-last.new.rises.items c.push_bits-last.result
    (period.ensures.value ∙ ap (λ n. period_drawn n (word g)) c.period.ensures.value) (c.draw_gap-missing.ensures.value ∙ ap (λ b. missing_drawn (word b)) period.ensures.next) c.begin-start.ensures.value refl
    (c.as_slice.ensures.value ∙ c.down_bits-bits.ensures ∙ ap (λ f. frame_of f c.args.down.now) c.form.ensures.value) rises c.push_bits-last.ensures.last

pub returns-clause-drawn : goal.returns-clause-drawn
returns-clause-drawn c = is-drawn c

pub returns-clause-next : goal.returns-clause-next
unfolding past_words
returns-clause-next c = c.draw_gap-missing.ensures.next ∙ ap behind_word c.draw_period-period.ensures.next

-- the period and the gap that are drawn
abbrev period_of : After-push_bits-last → ℕ
period_of c = period_drawn c.args.setup.now.period (tooth_words c.args.wobble.now).period

abbrev missing_of : After-push_bits-last → ℕ
missing_of c = missing_drawn (tooth_words c.args.wobble.now).gap

pub returns-clause-few : goal.returns-clause-few
returns-clause-few c = subst (λ l. length l ≤ 39) (sym (is-drawn c).rises_are) (message-few c.args.setup.now c.args.last c.args.down.now (period_of c) (missing_of c))

pub returns-clause-first : goal.returns-clause-first
returns-clause-first c = subst (λ e. 1000 * c.args.setup.now.period ≤ e) (sym (is-drawn c).end_is) (message-late c.args.setup.now c.args.last c.args.down.now (period_of c) (missing_of c) c.requires.in_time)

pub returns-clause-in_time : goal.returns-clause-in_time
returns-clause-in_time c =
    let s = c.args.setup.now in
    subst (λ l. All (λ rise. (1000 * s.period ≤ rise) × (rise ≤ c.push_bits-last.result)) l) (sym (is-drawn c).rises_are)
    (subst (λ e. All (λ rise. (1000 * s.period ≤ rise) × (rise ≤ e)) (ideal_of s c.args.last c.args.down.now (period_of c) (missing_of c))) (sym (is-drawn c).end_is)
    (message-in_time s c.args.last c.args.down.now (period_of c) (missing_of c) c.requires.in_time))
