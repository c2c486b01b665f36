-- Widths, delays and pulses of SPC that are drawn lie within their bounds.
--     inside-lasts             a time that is drawn in a span lies in it
--     trigger-is_sent, answer-is_sent      triggers and answers that are drawn may be sent
--     pulses-long              the pulses of an answer
use Rattle.std.proofs.Common.{◌≡◌, ℕ, suc, ◌+◌, ◌-◌, ◌*◌, ◌%◌, ◌<◌, ◌≤◌, None, ◌∷◌, length, map, get_or, ap, sym, ◌∙◌, arith}
use Rattle.std.specs.List.{All}
use Rattle.std.proofs.Math.Nat.{mul-le-mul_left}
use Rattle.std.proofs.lemmas.List.{length-map}
use Rattle.std.proofs.lemmas.List.Elements.{All-cons, All-map}
use Rattle.std.proofs.lemmas.Nat.{mod_below}
use Rattle.line_base.specs.Spans.{no_span}
use Rattle.line_base.specs.declared.edge.Span.{Span}
use Rattle.sent_frame.specs.declared.frame.SentFrame.{SentFrame}
use Rattle.sent_frame.specs.Setup.{InRange}
use Rattle.spc_link.specs.Setup.{Settings, fault_of}
use Rattle.spc_tolerance.specs.Trains.{FitsSetup, IsAnswerSent, IsTriggerSent, LastsInside, SentAnswer, Trigger, pulses_sent, ticks_in, values_in}
use Rattle.spc_tolerance.proofs.NominalTrains.{delay_wide, windows_wide}
use Rattle.sim_base.specs.DrawnTicks.{any_tick, own_tick}
use Rattle.spc_sim.specs.SpcSims.{AnswerWords, TriggerWords, answer_sent, inside, own_count, trigger_sent}
use Rattle.sim_base.proofs.PulseLengths.{lengths-least, owns-long}
use Rattle.spc_sim.proofs.SpcAnswers.{as_many_own}
use Rattle.sim_base.proofs.TickBounds.{all-near, any-is_tick}

-- ---- times in spans
-- so far behind the lower end
lasts : (s : Settings) (span : Span) (wide pick : ℕ) → s.sent.jitter * 10 ≤ s.sent.tick → span.low + wide ≡ span.high → 10 ≤ wide → pick < 100 * s.sent.tick * wide - 4000 * s.sent.jitter + 1
    → LastsInside s span (100 * s.sent.tick * span.low + 2000 * s.sent.jitter + pick)
lasts s span wide pick small is least below =
    let room = mul-le-mul_left s.sent.tick least in
    let parts : s.sent.tick * span.high ≡ s.sent.tick * span.low + s.sent.tick * wide = ap (λ h. s.sent.tick * h) (sym is) ∙ omega arith in
    record { not_too_short = omega arith; not_too_long = omega (arith, room, parts) }

pub inside-lasts : (s : Settings) (span : Span) (word : ℕ) → InRange s.sent.tick s.sent.jitter s.sent.nibbles → span.low + 10 ≤ span.high → LastsInside s span (inside s span word)
unfolding inside
inside-lasts s span word range wide =
    let room = 100 * s.sent.tick * (span.high - span.low) - 4000 * s.sent.jitter + 1 in
    lasts s span (span.high - span.low) (word % room) (omega arith) (omega arith) (omega arith) (mod_below word room (omega arith))

-- behind a time
behind-lasts : (s : Settings) (span : Span) (time long : ℕ) → LastsInside s span long → LastsInside s span (time + long - time)
behind-lasts s span time long lasting = record { not_too_short = omega arith; not_too_long = omega arith }

-- ---- what is drawn may be sent
module _ (s : Settings) (accepted : fault_of s.sent s.windows s.delay s.quiet ≡ None) (range : InRange s.sent.tick s.sent.jitter s.sent.nibbles) where
  pub trigger-is_sent : (fall code : ℕ) (drawn : TriggerWords) → code < length s.windows → IsTriggerSent s (trigger_sent s fall code drawn)
  unfolding trigger_sent
  trigger-is_sent fall code drawn there =
      let window = get_or s.windows code no_span in
      record { code = there; width = behind-lasts s window fall (inside s window drawn.width) (inside-lasts s window drawn.width range (windows_wide s code accepted there)) }

  pub answer-is_sent : (trigger : Trigger) (frame : SentFrame) (tick : ℕ) (drawn : AnswerWords) → FitsSetup s frame → length drawn.own ≡ own_count s → IsAnswerSent s trigger (answer_sent s trigger frame tick drawn)
  unfolding answer_sent
  answer-is_sent trigger frame tick drawn fits as_many = record {
    fits = fits;
    delay = behind-lasts s s.delay trigger.rise (inside s s.delay drawn.delay) (inside-lasts s s.delay drawn.delay range (delay_wide s accepted));
    tick = any-is_tick s.sent.tick tick;
    one_for_each = ap suc (length-map drawn.own (own_tick (any_tick s.sent.tick tick)) ∙ as_many ∙ sym (as_many_own s frame fits.as_many));
    own_ticks = all-near (any_tick s.sent.tick tick) drawn.own;
  }

-- ---- pulses
pub pulses-long : (s : Settings) (trigger : Trigger) (answer : SentAnswer) → IsAnswerSent s trigger answer → All (λ pulse. 12 * (798 * s.sent.tick) ≤ pulse) (pulses_sent s answer)
pulses-long s trigger answer is_sent =
    let P : ℕ → Type 0 = λ count. 12 ≤ count in
    let values = map (λ value. 12 + value) (values_in s answer.frame) in
    lengths-least 12 (798 * s.sent.tick) (ticks_in s answer.frame) (answer.tick ∷ answer.own_ticks)
    (All-cons P 56 values (omega arith) (All-map P (λ value. 12 + value) (values_in s answer.frame) (λ k d within. omega arith)))
    (All-cons (λ t. 798 * s.sent.tick ≤ t) answer.tick answer.own_ticks (omega (arith, is_sent.tick)) (owns-long s.sent.tick answer.tick answer.own_ticks is_sent.tick is_sent.own_ticks))
