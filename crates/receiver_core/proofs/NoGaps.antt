-- Reports of edges alone tell of no gap.
use Rattle.std.proofs.Common.{◌≡◌, ℕ, zero, suc, ◌+◌, ◌%◌, ◌==◌, Bool, true, false, cond, List, [], ◌∷◌, ◌++◌, Option, None, Some, Result, Ok, Err, length, drop, map, flat_map, count_by, sum_by, refl, ◌∙◌}
use Rattle.std.proofs.lemmas.List.Sums.{sum_by-cons}
use Rattle.line_base.specs.Edges.{NumberedEdge}
use Rattle.line_base.specs.declared.edge.Edge.{Edge}
use Rattle.line_base.specs.declared.edge.Item.TheVariants as item
use Rattle.line_base.specs.declared.rule.Rule.{Rule}
use Rattle.sent_frame.specs.declared.frame.SentFrame.{SentFrame}
use Rattle.sent_frame.specs.declared.frame.SentStep.{SentStep}
use Rattle.sent_frame.specs.declared.frame.SentStep.TheVariants.{Nothing, Good, Bad}
use Rattle.sent_frame.specs.Reading.{sent_reading}
use Rattle.sent_fast.specs.declared.layout.Layout.{Layout}
use Rattle.sent_fast.specs.declared.layout.Fast.{Fast}
use Rattle.sent_fast.specs.declared.layout.Fast.TheVariants as fast
use Rattle.sent_fast.specs.Layouts.{fast_of}
use Rattle.sent_serial.specs.declared.step.SerialStep.{SerialStep}
use Rattle.sent_serial.specs.declared.step.SerialStep.TheVariants as serial
use Rattle.psi5_frame.specs.Setup as frames
use Rattle.spc_link.specs.Setup as spc_setup
use Rattle.spc_link.specs.declared.step.SpcStep.{SpcStep}
use Rattle.spc_link.specs.declared.step.SpcStep.TheVariants as spc_step
use Rattle.spc_link.specs.Reading.{spc_reading, spc_ends}
use Rattle.psi5_downlink.specs.Setup as downlink
use Rattle.psi5_downlink.specs.declared.step.ToothStep.{ToothStep}
use Rattle.psi5_downlink.specs.declared.step.ToothStep.TheVariants as tooth_step
use Rattle.psi5_downlink.specs.Reading.{tooth_reading}
use Rattle.receiver_core.specs.SpcReports.{answer_report, spc_so_far, spc_end}
use Rattle.receiver_core.specs.ToothReports.{down_report, rises_of, tooth_so_far}
use Rattle.psi5_init.specs.declared.code.Code.{Code}
use Rattle.psi5_init.specs.declared.step.InitStep.{InitStep}
use Rattle.psi5_init.specs.declared.step.InitStep.TheVariants as steps
use Rattle.psi5_init.specs.Codes.{class_in}
use Rattle.psi5_init.specs.Readings.{init_reading}
use Rattle.receiver_core.specs.declared.setup.SyncSlots.{SyncSlots}
use Rattle.receiver_core.specs.declared.psi5_burst.Told.{Told}
use Rattle.receiver_core.specs.declared.psi5_burst.Told.TheVariants as told
use Rattle.receiver_core.specs.Psi5Places.{grown}
use Rattle.receiver_core.specs.Psi5Reports.{slot_number, codes_of, init_report, init_reports, told_reports, told_with, burst_reports, told_so_far, told_at_end, psi5_so_far, psi5_at_end}
use Rattle.receiver_core.specs.declared.report.Report.{Report}
use Rattle.receiver_core.specs.declared.report.What.TheVariants as what
use Rattle.receiver_core.specs.declared.setup.Serial.{Serial}
use Rattle.receiver_core.specs.declared.setup.ChannelSetup.{ChannelSetup}
use Rattle.receiver_core.specs.declared.setup.ChannelSetup.TheVariants.{Sent, Psi5, Spc, Tooth}
use Rattle.receiver_core.specs.Serials.{serial_steps}
use Rattle.receiver_core.specs.SentReports.{counter_reports, value_reports, serial_report, serial_reports, step_reports, last_counter, statuses_of, frames_with, sent_reports}
use Rattle.receiver_core.specs.Channels.{stretch_reports, end_reports, reports_from, so_far, final}
use Rattle.receiver_core.specs.Tallies.{counts_as, is_gap, lost_in, TellNoGap}

tell-append : (xs ys : List Report) → TellNoGap xs → TellNoGap ys → TellNoGap (xs ++ ys)
tell-append [] ys none more = more
tell-append (x ∷ xs) ys (here, never, none) more = (here, never, tell-append xs ys none more)

-- and so does each part of them
pub tell-behind : (xs ys : List Report) → TellNoGap (xs ++ ys) → TellNoGap ys
tell-behind [] ys none = none
tell-behind (x ∷ xs) ys (here, never, none) = tell-behind xs ys none

one_counter : (place before now : ℕ) (t : Bool) → TellNoGap (cond t [] (record { place = place; what = what.Counter before now } ∷ []))
one_counter place before now true = tt
one_counter place before now false = (refl, refl, tt)

counter-none : (place : ℕ) (before : Option ℕ) (now : ℕ) → TellNoGap (counter_reports place before now)
counter-none place None now = tt
counter-none place (Some before) now = one_counter place before now (now == (before + 1) % 256)

value-none : (place : ℕ) (before : Option ℕ) (value : Result Fast Rule) → TellNoGap (value_reports place before value)
value-none place before (Err rule) = (refl, refl, tt)
value-none place before (Ok fast.Raw) = tt
value-none place before (Ok (fast.One a)) = (refl, refl, tt)
value-none place before (Ok (fast.Two a b)) = (refl, refl, tt)
value-none place before (Ok (fast.Secure a counter)) = (refl, refl, counter-none place before counter)
value-none place before (Ok (fast.Split a b)) = (refl, refl, tt)

one-serial : (place : ℕ) (step : SerialStep) → TellNoGap (serial_report place step)
one-serial place serial.Nothing = tt
one-serial place (serial.Short id value) = (refl, refl, tt)
one-serial place (serial.Enhanced id value wide) = (refl, refl, tt)
one-serial place (serial.Bad rule) = (refl, refl, tt)

serial-none : (place : ℕ) (steps : List SerialStep) → TellNoGap (flat_map (serial_report place) steps)
serial-none place [] = tt
serial-none place (step ∷ steps) = tell-append (serial_report place step) (flat_map (serial_report place) steps) (one-serial place step) (serial-none place steps)

step-none : (layout : Layout) (form : Serial) (before : Option ℕ) (statuses : List ℕ) (step : SentStep) → TellNoGap (step_reports layout form before statuses step)
step-none layout form before statuses Nothing = tt
step-none layout form before statuses (Good place frame) = (
  refl,
  refl,
  tell-append (value_reports place before (fast_of layout frame.nibbles)) (serial_reports form place statuses frame.status)
      (value-none place before (fast_of layout frame.nibbles)) (serial-none place (serial_steps form statuses frame.status)),
)
step-none layout form before statuses (Bad place rule) = (refl, refl, tt)

sent-none : (layout : Layout) (form : Serial) (frames : List SentFrame) (steps : List SentStep) → TellNoGap (sent_reports layout form frames steps)
unfolding sent_reports
sent-none layout form frames [] = tt
sent-none layout form frames (step ∷ steps) =
    tell-append (step_reports layout form (last_counter layout frames) (statuses_of frames) step) (sent_reports layout form (frames_with frames step) steps)
    (step-none layout form (last_counter layout frames) (statuses_of frames) step) (sent-none layout form (frames_with frames step) steps)

one-step : (place : ℕ) (step : InitStep) → TellNoGap (init_report place step)
one-step place steps.Nothing = tt
one-step place (steps.Block id value) = (refl, refl, tt)
one-step place (steps.Done blocks) = (refl, refl, tt)
one-step place (steps.Bad rule) = (refl, refl, tt)

steps-none : (place : ℕ) (all : List InitStep) → TellNoGap (flat_map (init_report place) all)
steps-none place [] = tt
steps-none place (step ∷ all) = tell-append (init_report place step) (flat_map (init_report place) all) (one-step place step) (steps-none place all)

init-none : (init : Option ℕ) (place : ℕ) (before : List Code) (code : Code) → TellNoGap (init_reports init place before code)
init-none None place before code = tt
init-none (Some repeats) place before code = steps-none place (grown (init_reading repeats before) (init_reading repeats (before ++ code ∷ [])))

told-none : (s : frames.Settings) (init : Option ℕ) (since : List Told) (next : Told) → TellNoGap (told_reports s init since next)
told-none s init since (told.Good place slot payload) = (refl, refl, init-none init place (codes_of (slot_number slot) since) (class_in payload.a))
told-none s init since (told.Bad place rule) = (refl, refl, tt)

bursts-none : (s : frames.Settings) (init : Option ℕ) (since all : List Told) → TellNoGap (burst_reports s init since all)
unfolding burst_reports
bursts-none s init since [] = tt
bursts-none s init since (next ∷ all) = tell-append (told_reports s init since next) (burst_reports s init (told_with since next) all) (told-none s init since next) (bursts-none s init (told_with since next) all)

tell-drop : (count : ℕ) (reports : List Report) → TellNoGap reports → TellNoGap (drop count reports)
tell-drop zero reports none = none
tell-drop (suc count) [] none = tt
tell-drop (suc count) (x ∷ reports) (here, never, none) = tell-drop count reports none

so_far-none : (s : frames.Settings) (slots : Option SyncSlots) (init : Option ℕ) (stretch : List NumberedEdge) → TellNoGap (psi5_so_far s slots init stretch)
unfolding psi5_so_far
so_far-none s slots init stretch = bursts-none s init [] (told_so_far s slots stretch)

at_end-none : (s : frames.Settings) (slots : Option SyncSlots) (init : Option ℕ) (stretch : List NumberedEdge) → TellNoGap (psi5_at_end s slots init stretch)
unfolding psi5_at_end
at_end-none s slots init stretch = bursts-none s init [] (told_at_end s slots stretch)

one-answer : (step : SpcStep) → TellNoGap (answer_report step)
one-answer spc_step.Nothing = tt
one-answer (spc_step.Good place code frame) = (refl, refl, tt)
one-answer (spc_step.Bad place rule) = (refl, refl, tt)
one-answer (spc_step.NoAnswer place code) = (refl, refl, tt)

answers-tell : (all : List SpcStep) → TellNoGap (flat_map answer_report all)
answers-tell [] = tt
answers-tell (step ∷ all) = tell-append (answer_report step) (flat_map answer_report all) (one-answer step) (answers-tell all)

spc-tells : (s : spc_setup.Settings) (stretch : List NumberedEdge) → TellNoGap (spc_so_far s stretch)
unfolding spc_so_far
spc-tells s stretch = answers-tell (spc_reading s stretch)

spc-end-tells : (s : spc_setup.Settings) (stretch : List NumberedEdge) → TellNoGap (spc_end s stretch)
unfolding spc_end
spc-end-tells s stretch = answers-tell (spc_ends s stretch)

one-down : (step : ToothStep) → TellNoGap (down_report step)
one-down tooth_step.Nothing = tt
one-down (tooth_step.Good place down) = (refl, refl, tt)
one-down (tooth_step.Bad place rule) = (refl, refl, tt)

downs-tell : (all : List ToothStep) → TellNoGap (flat_map down_report all)
downs-tell [] = tt
downs-tell (step ∷ all) = tell-append (down_report step) (flat_map down_report all) (one-down step) (downs-tell all)

tooth-tells : (s : downlink.Settings) (stretch : List NumberedEdge) → TellNoGap (tooth_so_far s stretch)
unfolding tooth_so_far
tooth-tells s stretch = downs-tell (tooth_reading s (rises_of stretch))

-- the reports of a stretch tell of no gap
pub stretch-tells : (setup : ChannelSetup) (stretch : List NumberedEdge) → TellNoGap (stretch_reports setup stretch)
unfolding stretch_reports
stretch-tells (Sent line s layout form) stretch = sent-none layout form [] (sent_reading s stretch)
stretch-tells (Psi5 line s slots init) stretch = so_far-none s slots init stretch
stretch-tells (Spc line s) stretch = spc-tells s stretch
stretch-tells (Tooth line s) stretch = tooth-tells s stretch

-- nor do those that an end adds
pub end-tells : (setup : ChannelSetup) (stretch : List NumberedEdge) → TellNoGap (end_reports setup stretch)
unfolding end_reports
end-tells (Sent line s layout form) stretch = tt
end-tells (Psi5 line s slots init) stretch = tell-drop (length (psi5_so_far s slots init stretch)) (psi5_at_end s slots init stretch) (at_end-none s slots init stretch)
end-tells (Spc line s) stretch = spc-end-tells s stretch
end-tells (Tooth line s) stretch = tt

edges-tell : (setup : ChannelSetup) (number : ℕ) (stretch : List NumberedEdge) (edges : List Edge) → TellNoGap (reports_from setup number stretch (map item.Edge edges))
unfolding reports_from
edges-tell setup number stretch [] = stretch-tells setup stretch
edges-tell setup number stretch (edge ∷ edges) = edges-tell setup (number + 1) (stretch ++ record { number = number; edge = edge } ∷ []) edges

ends-tell : (setup : ChannelSetup) (number : ℕ) (stretch : List NumberedEdge) (edges : List Edge) → TellNoGap (reports_from setup number stretch (map item.Edge edges ++ item.End ∷ []))
unfolding reports_from
ends-tell setup number stretch [] = tell-append (stretch_reports setup stretch) (end_reports setup stretch) (stretch-tells setup stretch) (end-tells setup stretch)
ends-tell setup number stretch (edge ∷ edges) = ends-tell setup (number + 1) (stretch ++ record { number = number; edge = edge } ∷ []) edges

-- the reports of edges tell of no gap
pub so_far-tells : (setup : ChannelSetup) (edges : List Edge) → TellNoGap (so_far setup (map item.Edge edges))
unfolding so_far
so_far-tells setup edges = edges-tell setup 0 [] edges

-- and those with the end neither
pub final-tells : (setup : ChannelSetup) (edges : List Edge) → TellNoGap (final setup (map item.Edge edges))
unfolding final so_far
final-tells setup edges = ends-tell setup 0 [] edges

one-more_lost : (x : Report) (lost : ℕ) → lost_in (counts_as x.what) ≡ 0 → lost ≡ 0 → lost_in (counts_as x.what) + lost ≡ 0
one-more_lost x lost none before = rw (none, before) refl

-- so no edge is counted as lost
pub none-lost : (reports : List Report) → TellNoGap reports → sum_by (λ report. lost_in (counts_as report.what)) reports ≡ 0
none-lost [] tells = refl
none-lost (x ∷ xs) (here, never, tells) = sum_by-cons (λ (report : Report). lost_in (counts_as report.what)) x xs ∙ one-more_lost x (sum_by (λ report. lost_in (counts_as report.what)) xs) here (none-lost xs tells)

one-more_gap : (x : Report) (gaps : ℕ) → is_gap (counts_as x.what) ≡ false → gaps ≡ 0 → cond (is_gap (counts_as x.what)) 1 0 + gaps ≡ 0
one-more_gap x gaps none before = rw (none, before) refl

-- and no gap
pub none-gaps : (reports : List Report) → TellNoGap reports → count_by (λ report. is_gap (counts_as report.what)) reports ≡ 0
none-gaps [] tells = refl
none-gaps (x ∷ xs) (here, never, tells) = sum_by-cons (λ (report : Report). cond (is_gap (counts_as report.what)) 1 0) x xs ∙ one-more_gap x (count_by (λ report. is_gap (counts_as report.what)) xs) never (none-gaps xs tells)
