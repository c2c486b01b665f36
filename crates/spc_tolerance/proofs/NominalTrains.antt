-- Messages that are sent with the nominal tick are a train that keeps the quiet time.
--     windows_wide, delay_wide      there is room for twice the jitter to each side of the middle
--     nominal_sent, nominal_quiet, nominal_says      the train
--     nominal_honest                so it has an honest trace
use Rattle.std.proofs.Common.{◌≡◌, ℕ, zero, suc, ◌+◌, ◌-◌, ◌*◌, ◌<◌, ◌≤◌, Bool, true, false, not, ◌&&◌, cond, nat_le, nat_lt, None, Some, List, [], ◌∷◌, length, get_or, refl, ap, ap₂, sym, ◌∙◌, subst, arith}
use Rattle.std.proofs.Math.Nat.{mul-le-mul_left}
use Rattle.std.proofs.lemmas.Bool.{and_parts}
use Rattle.std.proofs.lemmas.Bool.Decides.{nat_tests}
use Rattle.std.proofs.lemmas.List.{length-map}
use Rattle.std.proofs.lemmas.List.Elements.{All-head, All-map, All-tail}
use Rattle.std.specs.List.{All}
use Rattle.line_base.specs.Spans.{no_span}
use Rattle.line_base.specs.declared.edge.Span.{Span}
use Rattle.line_base.specs.declared.faults.SetupFault.TheVariants as fault
use Rattle.sent_frame.specs.declared.frame.SentFrame.{SentFrame}
use Rattle.sent_frame.specs.Setup as frame
use Rattle.spc_link.specs.Setup.{Settings, are_apart, are_windows, fault_of, is_behind, is_wide}
use Rattle.link_tolerance.specs.Ticks.{IsOwnTick}
use Rattle.spc_tolerance.specs.Trains.{Answer, Answered, BeginsAfter, FitsMessage, FitsSetup, IsAnswerSent, IsSent, IsTrain, IsTriggerSent, LastsInside, Silent, SpcMessage, Transaction, Unanswered, ends_at, message_of, trigger_in, values_in}
use Rattle.spc_tolerance.specs.Traces.{IsHonest}
use Rattle.spc_tolerance.specs.Nominal.{KeepsQuietTimes, RestsBefore, middle_of, nominal_answer, nominal_edges, nominal_train, nominal_transaction, nominal_trigger, quiet_behind, rests_at}
use Rattle.spc_tolerance.proofs.RecordedTimes.{frame_range}
use Rattle.spc_tolerance.proofs.EdgeCounts.{messages_of}
use Rattle.spc_tolerance.proofs.ExactClocks.{exact_honest}

-- ---- the setup
wide_span : (span : Span) → is_wide span ≡ true → span.low + 10 ≤ span.high
wide_span span wide = let parts = and_parts (nat_le 10 span.low) (nat_le (span.low + 10) span.high) wide in grind (arith, nat_tests, parts.1)

apart_wide : (before : ℕ) (windows : List Span) (code : ℕ) → are_apart before windows ≡ true → code < length windows → (get_or windows code no_span).low + 10 ≤ (get_or windows code no_span).high
unfolding are_apart
apart_wide before [] code apart there = absurd (omega arith)
apart_wide before (window ∷ windows) zero apart there =
    let parts = and_parts (is_behind before window) (are_apart window.high windows) apart in
    wide_span window (and_parts (nat_lt before window.low) (is_wide window) parts.0).1
apart_wide before (window ∷ windows) (suc code) apart there =
    let parts = and_parts (is_behind before window) (are_apart window.high windows) apart in
    apart_wide window.high windows code parts.1 (omega arith)

-- the windows and the delay are those that were accepted
both_accepted : (pause windows delay quiet : Bool)
    → cond pause (Some fault.Pause) (cond (not windows) (Some fault.Windows) (cond (not delay) (Some fault.Delay) (cond quiet (Some fault.Quiet) None))) ≡ None → (windows ≡ true) × (delay ≡ true)
both_accepted true windows delay quiet e = absurd (cc)
both_accepted false false delay quiet e = absurd (cc)
both_accepted false true false quiet e = absurd (cc)
both_accepted false true true quiet e = (refl, refl)

pub windows_wide : (s : Settings) (code : ℕ) → fault_of s.sent s.windows s.delay s.quiet ≡ None → code < length s.windows → (get_or s.windows code no_span).low + 10 ≤ (get_or s.windows code no_span).high
windows_wide s code accepted there =
    let both = both_accepted s.sent.pause (are_windows s.windows) (is_wide s.delay) _ accepted in
    let parts = and_parts (nat_le 1 (length s.windows)) (nat_le (length s.windows) 8 && are_apart 0 s.windows) both.0 in
    apart_wide 0 s.windows code (and_parts (nat_le (length s.windows) 8) (are_apart 0 s.windows) parts.1).1 there

pub delay_wide : (s : Settings) → fault_of s.sent s.windows s.delay s.quiet ≡ None → s.delay.low + 10 ≤ s.delay.high
delay_wide s accepted = wide_span s.delay (both_accepted s.sent.pause (are_windows s.windows) (is_wide s.delay) _ accepted).1

middle_inside : (s : Settings) (span : Span) (time : ℕ) → 10 * s.sent.jitter ≤ s.sent.tick → span.low + 10 ≤ span.high → LastsInside s span (time + middle_of s span - time)
middle_inside s span time small wide =
    let room = mul-le-mul_left s.sent.tick wide in
    record { not_too_short = omega (arith, room); not_too_long = omega (arith, room) }

-- ---- the train
trigger_sent : (s : Settings) (time code : ℕ) → fault_of s.sent s.windows s.delay s.quiet ≡ None → 10 * s.sent.jitter ≤ s.sent.tick → code < length s.windows → IsTriggerSent s (nominal_trigger s time code)
trigger_sent s time code accepted small there = record { code = there; width = middle_inside s (get_or s.windows code no_span) time small (windows_wide s code accepted there) }

answer_sent : (s : Settings) (time code : ℕ) (frame : SentFrame) → fault_of s.sent s.windows s.delay s.quiet ≡ None → 10 * s.sent.jitter ≤ s.sent.tick → FitsSetup s frame
    → IsAnswerSent s (nominal_trigger s time code) (nominal_answer s (nominal_trigger s time code).rise frame)
answer_sent s time code frame accepted small fits = record {
  fits = fits;
  delay = middle_inside s s.delay (nominal_trigger s time code).rise small (delay_wide s accepted);
  tick = record { not_below = omega arith; not_above = omega arith };
  one_for_each = ap suc (length-map (values_in s frame) (λ value. 1000 * s.sent.tick) ∙ sym (length-map (values_in s frame) (λ value. 12 + value)));
  own_ticks = All-map (IsOwnTick (1000 * s.sent.tick)) (λ value. 1000 * s.sent.tick) (values_in s frame) (λ k d within. record { not_below = omega arith; not_above = omega arith });
}

transaction_sent : (s : Settings) (time : ℕ) (message : SpcMessage) → fault_of s.sent s.windows s.delay s.quiet ≡ None → 10 * s.sent.jitter ≤ s.sent.tick → FitsMessage s message → IsSent s (nominal_transaction s time message)
transaction_sent s time (Answer code frame) accepted small fits = record { trigger = trigger_sent s time code accepted small fits.0; answer = answer_sent s time code frame accepted small fits.1 }
transaction_sent s time (Silent code) accepted small fits = record { trigger = trigger_sent s time code accepted small fits; answer = tt }

ends_before : (s : Settings) (t : Transaction) → ends_at s t ≤ rests_at s t
ends_before s (Answered trigger answer) = omega arith
ends_before s (Unanswered trigger) = omega arith

falls_at : (s : Settings) (time : ℕ) (message : SpcMessage) → (trigger_in (nominal_transaction s time message)).fall ≡ time
falls_at s time (Answer code frame) = refl
falls_at s time (Silent code) = refl

begins_after : (s : Settings) (time rest : ℕ) (messages : List SpcMessage) → time ≤ rest → 1 ≤ s.sent.jitter → BeginsAfter time (nominal_train s (quiet_behind s rest) messages)
unfolding nominal_train
begins_after s time rest [] before some = tt
begins_after s time rest (message ∷ messages) before some = omega (arith, falls_at s (quiet_behind s rest) message)

pub nominal_sent : (s : Settings) → fault_of s.sent s.windows s.delay s.quiet ≡ None → 1 ≤ s.sent.jitter → 10 * s.sent.jitter ≤ s.sent.tick → (time : ℕ) (messages : List SpcMessage) → All (FitsMessage s) messages → IsTrain s (nominal_train s time messages)
unfolding nominal_train
nominal_sent s accepted some small time [] fit = tt
nominal_sent s accepted some small time (message ∷ messages) fit =
    let t = nominal_transaction s time message in (
      transaction_sent s time message accepted small (All-head (FitsMessage s) message messages fit),
      begins_after s (ends_at s t) (rests_at s t) messages (ends_before s t) some,
      nominal_sent s accepted some small (quiet_behind s (rests_at s t)) messages (All-tail (FitsMessage s) message messages fit),
    )

rests_before : (s : Settings) (time : ℕ) (messages : List SpcMessage) → RestsBefore s time (nominal_train s (quiet_behind s time) messages)
unfolding nominal_train
rests_before s time [] = tt
rests_before s time (message ∷ messages) = omega (arith, falls_at s (quiet_behind s time) message)

pub nominal_quiet : (s : Settings) (time : ℕ) (messages : List SpcMessage) → KeepsQuietTimes s (nominal_train s time messages)
unfolding nominal_train
nominal_quiet s time [] = tt
nominal_quiet s time (message ∷ messages) =
    let rest = rests_at s (nominal_transaction s time message) in
    (rests_before s rest messages, nominal_quiet s (quiet_behind s rest) messages)

says_message : (s : Settings) (time : ℕ) (message : SpcMessage) → message_of (nominal_transaction s time message) ≡ message
says_message s time (Answer code frame) = refl
says_message s time (Silent code) = refl

pub nominal_says : (s : Settings) (time : ℕ) (messages : List SpcMessage) → messages_of (nominal_train s time messages) ≡ messages
unfolding nominal_train
nominal_says s time [] = refl
nominal_says s time (message ∷ messages) =
    ap₂ (λ first rest. first ∷ rest) (says_message s time message) (nominal_says s (quiet_behind s (rests_at s (nominal_transaction s time message))) messages)

pub nominal_honest : (s : Settings) (time : ℕ) (messages : List SpcMessage) → fault_of s.sent s.windows s.delay s.quiet ≡ None → frame.fault_of s.sent.tick s.sent.jitter s.sent.nibbles ≡ None → All (FitsMessage s) messages
    → IsHonest s messages (nominal_edges s time messages)
nominal_honest s time messages accepted accepted_frame fit =
    let range = frame_range s.sent.tick s.sent.jitter s.sent.nibbles accepted_frame in
    subst (λ (said : List SpcMessage). IsHonest s said (nominal_edges s time messages)) (nominal_says s time messages)
    (exact_honest s (nominal_train s time messages) accepted accepted_frame (nominal_sent s accepted range.jitter_low range.jitter_high time messages fit) (nominal_quiet s time messages))
