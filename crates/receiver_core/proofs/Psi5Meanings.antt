-- What the reports of a PSI5 channel say stands in its edges.
--     bursts-stand      all reports at the end
--     psi5-stand, psi5-end-stand      those so far, and those that the end adds
use Rattle.std.proofs.Common.{◌≡◌, ◌≢◌, ℕ, ◌+◌, ◌-◌, ◌⊎◌, Bool, true, false, if◌then◌else◌, Option, None, Some, List, [], ◌∷◌, ◌++◌, flat_map, length, map, refl, ap, sym, subst, ◌∙◌, inl, inr, append_assoc, append-nil, arith}
use Rattle.std.specs.List.{All}
use Rattle.std.proofs.lemmas.List.{length-append, take_at}
use Rattle.std.proofs.lemmas.List.Elements.{All-append, All-cons, All-drop, All-head, All-nil, All-tail, All-take}
use Rattle.line_base.specs.Edges.{NumberedEdge}
use Rattle.line_base.specs.declared.rule.Rule.{Rule}
use Rattle.line_base.specs.declared.rule.Rule.TheVariants as rule
use Rattle.line_base.specs.declared.edge.Span.{Span}
use Rattle.psi5_frame.specs.declared.burst.Payload.{Payload}
use Rattle.psi5_frame.specs.declared.burst.Burst.{Burst}
use Rattle.psi5_frame.specs.declared.burst.Burst.TheVariants.{Good, Bad}
use Rattle.psi5_frame.specs.Setup.{Settings}
use Rattle.psi5_frame.specs.Edges.{changes_of}
use Rattle.psi5_frame.specs.Bursts.{bursts_at_end}
use Rattle.psi5_frame.specs.Meanings.{Means}
use Rattle.psi5_frame.proofs.Meanings.{all-mean}
use Rattle.psi5_slots.specs.declared.placed.Placed.{Placed}
use Rattle.psi5_slots.specs.declared.placed.Placed.TheVariants as placed
use Rattle.psi5_slots.specs.History.{Event, last_sync, starts_since, offsets_from, placed_in}
use Rattle.psi5_slots.specs.Meanings.{OffsetStands, StandsSince}
use Rattle.psi5_slots.proofs.Meanings.{place-stands}
use Rattle.psi5_init.specs.declared.code.Code.{Code}
use Rattle.psi5_init.specs.declared.step.InitStep.{InitStep}
use Rattle.psi5_init.specs.declared.step.InitStep.TheVariants as step
use Rattle.psi5_init.specs.Codes.{class_in}
use Rattle.psi5_init.specs.Readings.{init_reading}
use Rattle.psi5_init.specs.Meanings.{IsInitRule, IsInitStep}
use Rattle.psi5_init.proofs.Stays.{steps-front, length-steps}
use Rattle.psi5_init.proofs.Rules.{last-breaks}
use Rattle.receiver_core.specs.declared.setup.SyncSlots.{SyncSlots}
use Rattle.receiver_core.specs.declared.psi5_burst.BurstPlace.{BurstPlace}
use Rattle.receiver_core.specs.declared.psi5_burst.BurstPlace.TheVariants as at
use Rattle.receiver_core.specs.declared.psi5_burst.Told.{Told}
use Rattle.receiver_core.specs.declared.psi5_burst.Told.TheVariants as told
use Rattle.receiver_core.specs.declared.report.Report.{Report}
use Rattle.receiver_core.specs.declared.report.What.TheVariants as what
use Rattle.receiver_core.specs.Psi5Places.{data_edges, starts_added, slot_history, place_in_slots, burst_place, places_after, burst_places, grown}
use Rattle.receiver_core.specs.Psi5Reports.{code_of, codes_of, slot_number, told_of, told_at, told_at_end, told_past, told_with, told_reports, init_report, init_reports, burst_reports, psi5_so_far, psi5_at_end}
use Rattle.receiver_core.specs.Psi5Meanings.{IsBurstAt, BeginsAt, HasBurst, HasWrongBurst, HasWrongPlace, HasStep, BurstRuleStands, BurstStands}
use Rattle.receiver_core.proofs.Psi5Places.{grown-by}
use Rattle.receiver_core.proofs.Psi5Reports.{past-append, past-one}
use Rattle.receiver_core.proofs.Psi5Stretches.{end-front}

-- ---- where each burst begins
all-same : (P : BurstPlace → Type 0) (numbers : List ℕ) (place : BurstPlace) → (numbers ≢ [] → P place) → All P (map (λ number. place) numbers)
all-same P [] place holds = All-nil P
all-same P (number ∷ numbers) place holds = All-cons P place (map (λ number. place) numbers) (holds (λ e. absurd cc)) (all-same P numbers place (λ some. holds (λ e. absurd cc)))

begin-after : (s : Settings) (slots : Option SyncSlots) (before edges : List NumberedEdge) → All (BeginsAt s slots (before ++ edges)) (places_after s slots before edges)
unfolding places_after
begin-after s slots before [] = All-nil (BeginsAt s slots (before ++ []))
begin-after s slots before (x ∷ edges) =
    let rest = subst (λ l. All (BeginsAt s slots l) (places_after s slots (before ++ x ∷ []) edges)) (append_assoc before (x ∷ []) edges) (begin-after s slots (before ++ x ∷ []) edges) in
    All-append (BeginsAt s slots (before ++ x ∷ edges)) (map (λ number. burst_place s slots before x) (starts_added s slots before x)) (places_after s slots (before ++ x ∷ []) edges)
    (all-same (BeginsAt s slots (before ++ x ∷ edges)) (starts_added s slots before x) (burst_place s slots before x)
    (λ some. record { before = before; first = x; after = edges; stands = refl; begins = some; there = refl })) rest

-- ---- the rules of slots
-- a rule that a place violates
abbrev IsSlotRule : Rule → Type 0
IsSlotRule rule.NoCalibration = ⊥
IsSlotRule rule.Drift = ⊥
IsSlotRule rule.NibbleRange = ⊥
IsSlotRule rule.Check = ⊥
IsSlotRule rule.PauseRange = ⊥
IsSlotRule rule.Copy = ⊥
IsSlotRule rule.Restart = ⊥
IsSlotRule rule.Zero13 = ⊥
IsSlotRule rule.Zero18 = ⊥
IsSlotRule rule.SerialCheck = ⊥
IsSlotRule rule.TriggerWidth = ⊥
IsSlotRule rule.Delay = ⊥
IsSlotRule rule.FirstFall = ⊥
IsSlotRule rule.TooShort = ⊥
IsSlotRule rule.Phase = ⊥
IsSlotRule rule.StartBit = ⊥
IsSlotRule rule.TooLong = ⊥
IsSlotRule rule.TooFew = ⊥
IsSlotRule rule.EndsHigh = ⊥
IsSlotRule rule.Psi5Check = ⊥
IsSlotRule rule.NoSync = Unit {0}
IsSlotRule rule.NoSlot = Unit {0}
IsSlotRule rule.SlotTwice = Unit {0}
IsSlotRule rule.InitOrder = ⊥
IsSlotRule rule.InitRepeat = ⊥
IsSlotRule rule.SyncBit = ⊥
IsSlotRule rule.DownCheck = ⊥
IsSlotRule rule.StartPattern = ⊥

by-offset : (windows : List Span) (earlier : List ℕ) (offset : ℕ) (broken : Rule) → OffsetStands windows earlier offset (placed.Bad broken) → IsSlotRule broken
by-offset windows earlier offset rule.NoCalibration stands = stands
by-offset windows earlier offset rule.Drift stands = stands
by-offset windows earlier offset rule.NibbleRange stands = stands
by-offset windows earlier offset rule.Check stands = stands
by-offset windows earlier offset rule.PauseRange stands = stands
by-offset windows earlier offset rule.Copy stands = stands
by-offset windows earlier offset rule.Restart stands = stands
by-offset windows earlier offset rule.Zero13 stands = stands
by-offset windows earlier offset rule.Zero18 stands = stands
by-offset windows earlier offset rule.SerialCheck stands = stands
by-offset windows earlier offset rule.TriggerWidth stands = stands
by-offset windows earlier offset rule.Delay stands = stands
by-offset windows earlier offset rule.FirstFall stands = stands
by-offset windows earlier offset rule.TooShort stands = stands
by-offset windows earlier offset rule.Phase stands = stands
by-offset windows earlier offset rule.StartBit stands = stands
by-offset windows earlier offset rule.TooLong stands = stands
by-offset windows earlier offset rule.TooFew stands = stands
by-offset windows earlier offset rule.EndsHigh stands = stands
by-offset windows earlier offset rule.Psi5Check stands = stands
by-offset windows earlier offset rule.NoSync stands = tt
by-offset windows earlier offset rule.NoSlot stands = tt
by-offset windows earlier offset rule.SlotTwice stands = tt
by-offset windows earlier offset rule.InitOrder stands = stands
by-offset windows earlier offset rule.InitRepeat stands = stands
by-offset windows earlier offset rule.SyncBit stands = stands
by-offset windows earlier offset rule.DownCheck stands = stands
by-offset windows earlier offset rule.StartPattern stands = stands

by-sync : (windows : List Span) (sync : Option ℕ) (starts : List ℕ) (time : ℕ) (broken : Rule) → StandsSince windows sync starts time (placed.Bad broken) → IsSlotRule broken
by-sync windows None starts time broken stands = absurd cc
by-sync windows (Some sync) starts time broken stands = by-offset windows (offsets_from sync starts) (time - sync) broken stands

of-placed : (windows : List Span) (history : List Event) (time number first : ℕ) (broken : Rule) (place : Placed) → placed_in windows history time ≡ place → place_in_slots number place ≡ at.Outside first broken → IsSlotRule broken
of-placed windows history time number first broken placed.Before is outside = absurd cc
of-placed windows history time number first broken (placed.Slot slot) is outside = absurd cc
of-placed windows history time number first broken (placed.Bad other) is outside =
    let stands = subst (λ (p : Placed). StandsSince windows (last_sync history) (starts_since history) time p) is (place-stands windows history time) in
    let same : other ≡ broken = cc in
    subst IsSlotRule same (by-sync windows (last_sync history) (starts_since history) time other stands)

by-level : (windows : List Span) (history : List Event) (time number first : ℕ) (broken : Rule) (level synced : Bool)
    → (if level then place_in_slots number (placed_in windows history time) else (if synced then at.Free else at.Unread)) ≡ at.Outside first broken → IsSlotRule broken
by-level windows history time number first broken true synced outside = of-placed windows history time number first broken (placed_in windows history time) refl outside
by-level windows history time number first broken false true outside = absurd cc
by-level windows history time number first broken false false outside = absurd cc

-- only rules of slots put a burst outside
outside-rule : (s : Settings) (slots : Option SyncSlots) (before : List NumberedEdge) (e : NumberedEdge) (first : ℕ) (broken : Rule) → burst_place s slots before e ≡ at.Outside first broken → IsSlotRule broken
unfolding burst_place
outside-rule s None before e first broken outside = absurd cc
outside-rule s (Some slots) before e first broken outside =
    by-level slots.setup.windows (slot_history s (Some slots) before) e.edge.time e.number first broken e.edge.level _ outside

-- ---- what is told of each burst
-- what is told stands for
abbrev ToldStands : Settings → Option SyncSlots → List NumberedEdge → Told → Type 0
ToldStands s slots edges (told.Good number slot payload) = HasBurst s slots edges number slot payload
ToldStands s slots edges (told.Bad number broken) = HasWrongBurst s slots edges number broken ⊎ HasWrongPlace s slots edges number broken

-- what this is to stand in
abbrev Line : Settings → Option SyncSlots → List NumberedEdge → Burst → Type 0
Line s slots edges burst = Means s (changes_of s.bit (data_edges slots edges)) burst

one-told : (s : Settings) (slots : Option SyncSlots) (edges : List NumberedEdge) (place : BurstPlace) (burst : Burst) → IsBurstAt s slots edges place burst → BeginsAt s slots edges place → Line s slots edges burst
    → All (ToldStands s slots edges) (told_of place burst)
one-told s slots edges at.Unread burst there begins means = All-nil (ToldStands s slots edges)
one-told s slots edges at.Free (Good number payload) there begins means =
    All-cons (ToldStands s slots edges) (told.Good number None payload) [] (record { place = at.Free; is_there = there; begins = begins; answers = tt; frame = means }) (All-nil (ToldStands s slots edges))
one-told s slots edges at.Free (Bad number broken) there begins means =
    All-cons (ToldStands s slots edges) (told.Bad number broken) [] (inl (record { place = at.Free; is_there = there; begins = begins; is_read = λ e. absurd cc; violation = means })) (All-nil (ToldStands s slots edges))
one-told s slots edges (at.Slot slot) (Good number payload) there begins means =
    All-cons (ToldStands s slots edges) (told.Good number (Some slot) payload) [] (record { place = at.Slot slot; is_there = there; begins = begins; answers = refl; frame = means }) (All-nil (ToldStands s slots edges))
one-told s slots edges (at.Slot slot) (Bad number broken) there begins means =
    All-cons (ToldStands s slots edges) (told.Bad number broken) [] (inl (record { place = at.Slot slot; is_there = there; begins = begins; is_read = λ e. absurd cc; violation = means })) (All-nil (ToldStands s slots edges))
one-told s slots edges (at.Outside first wrong) (Good number payload) there begins means =
    All-cons (ToldStands s slots edges) (told.Bad first wrong) [] (inr (record { last = number; payload = payload; is_there = there; begins = begins })) (All-nil (ToldStands s slots edges))
one-told s slots edges (at.Outside first wrong) (Bad number broken) there begins means =
    All-cons (ToldStands s slots edges) (told.Bad number broken) [] (inl (record { place = at.Outside first wrong; is_there = there; begins = begins; is_read = λ e. absurd cc; violation = means })) (All-nil (ToldStands s slots edges))

told-walk : (s : Settings) (slots : Option SyncSlots) (edges : List NumberedEdge) (places_before places : List BurstPlace) (bursts_before bursts : List Burst)
    → burst_places s slots edges ≡ places_before ++ places → bursts_at_end s (data_edges slots edges) ≡ bursts_before ++ bursts → length places_before ≡ length bursts_before
    → All (BeginsAt s slots edges) places → All (Line s slots edges) bursts → All (ToldStands s slots edges) (told_at places bursts)
unfolding told_at
told-walk s slots edges places_before [] bursts_before bursts are said same begin mean = All-nil (ToldStands s slots edges)
told-walk s slots edges places_before (place ∷ places) bursts_before [] are said same begin mean = All-nil (ToldStands s slots edges)
told-walk s slots edges places_before (place ∷ places) bursts_before (burst ∷ bursts) are said same begin mean =
    All-append (ToldStands s slots edges) (told_of place burst) (told_at places bursts)
    (one-told s slots edges place burst
    (record { earlier_places = places_before; later_places = places; earlier = bursts_before; later = bursts; places = are; bursts = said; as_many = same })
    (All-head (BeginsAt s slots edges) place places begin) (All-head (Line s slots edges) burst bursts mean))
    (told-walk s slots edges (places_before ++ place ∷ []) places (bursts_before ++ burst ∷ []) bursts
    (are ∙ sym (append_assoc places_before (place ∷ []) places)) (said ∙ sym (append_assoc bursts_before (burst ∷ []) bursts))
    (omega (arith, same, length-append places_before (place ∷ []), length-append bursts_before (burst ∷ [])))
    (All-tail (BeginsAt s slots edges) place places begin) (All-tail (Line s slots edges) burst bursts mean))

told-stand : (s : Settings) (slots : Option SyncSlots) (edges : List NumberedEdge) → All (ToldStands s slots edges) (told_at_end s slots edges)
unfolding told_at_end
told-stand s slots edges =
    told-walk s slots edges [] (burst_places s slots edges) [] (bursts_at_end s (data_edges slots edges)) refl refl refl (begin-after s slots [] edges) (all-mean s (data_edges slots edges))

-- ---- the reports
-- a report stands for
abbrev Stands : Settings → Option SyncSlots → Option ℕ → List NumberedEdge → Report → Type 0
Stands s slots init edges r = BurstStands s slots init edges r.place r.what

burst-rule : (s : Settings) (slots : Option SyncSlots) (init : Option ℕ) (edges : List NumberedEdge) (number : ℕ) (broken : Rule) → HasWrongBurst s slots edges number broken → BurstRuleStands s slots init edges number broken
burst-rule s slots init edges number rule.NoCalibration has = absurd has.violation.violates
burst-rule s slots init edges number rule.Drift has = absurd has.violation.violates
burst-rule s slots init edges number rule.NibbleRange has = absurd has.violation.violates
burst-rule s slots init edges number rule.Check has = absurd has.violation.violates
burst-rule s slots init edges number rule.PauseRange has = absurd has.violation.violates
burst-rule s slots init edges number rule.Copy has = absurd has.violation.violates
burst-rule s slots init edges number rule.Restart has = absurd has.violation.violates
burst-rule s slots init edges number rule.Zero13 has = absurd has.violation.violates
burst-rule s slots init edges number rule.Zero18 has = absurd has.violation.violates
burst-rule s slots init edges number rule.SerialCheck has = absurd has.violation.violates
burst-rule s slots init edges number rule.TriggerWidth has = absurd has.violation.violates
burst-rule s slots init edges number rule.Delay has = absurd has.violation.violates
burst-rule s slots init edges number rule.FirstFall has = has
burst-rule s slots init edges number rule.TooShort has = has
burst-rule s slots init edges number rule.Phase has = has
burst-rule s slots init edges number rule.StartBit has = has
burst-rule s slots init edges number rule.TooLong has = has
burst-rule s slots init edges number rule.TooFew has = has
burst-rule s slots init edges number rule.EndsHigh has = has
burst-rule s slots init edges number rule.Psi5Check has = has
burst-rule s slots init edges number rule.NoSync has = absurd has.violation.violates
burst-rule s slots init edges number rule.NoSlot has = absurd has.violation.violates
burst-rule s slots init edges number rule.SlotTwice has = absurd has.violation.violates
burst-rule s slots init edges number rule.InitOrder has = absurd has.violation.violates
burst-rule s slots init edges number rule.InitRepeat has = absurd has.violation.violates
burst-rule s slots init edges number rule.SyncBit has = absurd has.violation.violates
burst-rule s slots init edges number rule.DownCheck has = absurd has.violation.violates
burst-rule s slots init edges number rule.StartPattern has = absurd has.violation.violates

place-rule : (s : Settings) (slots : Option SyncSlots) (init : Option ℕ) (edges : List NumberedEdge) (number : ℕ) (broken : Rule) → IsSlotRule broken → HasWrongPlace s slots edges number broken → BurstRuleStands s slots init edges number broken
place-rule s slots init edges number rule.NoCalibration may has = absurd may
place-rule s slots init edges number rule.Drift may has = absurd may
place-rule s slots init edges number rule.NibbleRange may has = absurd may
place-rule s slots init edges number rule.Check may has = absurd may
place-rule s slots init edges number rule.PauseRange may has = absurd may
place-rule s slots init edges number rule.Copy may has = absurd may
place-rule s slots init edges number rule.Restart may has = absurd may
place-rule s slots init edges number rule.Zero13 may has = absurd may
place-rule s slots init edges number rule.Zero18 may has = absurd may
place-rule s slots init edges number rule.SerialCheck may has = absurd may
place-rule s slots init edges number rule.TriggerWidth may has = absurd may
place-rule s slots init edges number rule.Delay may has = absurd may
place-rule s slots init edges number rule.FirstFall may has = absurd may
place-rule s slots init edges number rule.TooShort may has = absurd may
place-rule s slots init edges number rule.Phase may has = absurd may
place-rule s slots init edges number rule.StartBit may has = absurd may
place-rule s slots init edges number rule.TooLong may has = absurd may
place-rule s slots init edges number rule.TooFew may has = absurd may
place-rule s slots init edges number rule.EndsHigh may has = absurd may
place-rule s slots init edges number rule.Psi5Check may has = absurd may
place-rule s slots init edges number rule.NoSync may has = has
place-rule s slots init edges number rule.NoSlot may has = has
place-rule s slots init edges number rule.SlotTwice may has = has
place-rule s slots init edges number rule.InitOrder may has = absurd may
place-rule s slots init edges number rule.InitRepeat may has = absurd may
place-rule s slots init edges number rule.SyncBit may has = absurd may
place-rule s slots init edges number rule.DownCheck may has = absurd may
place-rule s slots init edges number rule.StartPattern may has = absurd may

rule-stands : (s : Settings) (slots : Option SyncSlots) (init : Option ℕ) (edges : List NumberedEdge) (number : ℕ) (broken : Rule) → ToldStands s slots edges (told.Bad number broken) → BurstRuleStands s slots init edges number broken
rule-stands s slots init edges number broken (inl has) = burst-rule s slots init edges number broken has
rule-stands s slots init edges number broken (inr has) =
    place-rule s slots init edges number broken (outside-rule s slots has.begins.before has.begins.first number broken has.begins.there) has

-- what a step of an initialisation says stands, if it says something
init-rule : (s : Settings) (slots : Option SyncSlots) (init : Option ℕ) (edges : List NumberedEdge) (number : ℕ) (broken : Rule) → IsInitRule broken → HasStep s slots init edges number (step.Bad broken) → BurstRuleStands s slots init edges number broken
init-rule s slots init edges number rule.NoCalibration may has = absurd may
init-rule s slots init edges number rule.Drift may has = absurd may
init-rule s slots init edges number rule.NibbleRange may has = absurd may
init-rule s slots init edges number rule.Check may has = absurd may
init-rule s slots init edges number rule.PauseRange may has = absurd may
init-rule s slots init edges number rule.Copy may has = absurd may
init-rule s slots init edges number rule.Restart may has = absurd may
init-rule s slots init edges number rule.Zero13 may has = absurd may
init-rule s slots init edges number rule.Zero18 may has = absurd may
init-rule s slots init edges number rule.SerialCheck may has = absurd may
init-rule s slots init edges number rule.TriggerWidth may has = absurd may
init-rule s slots init edges number rule.Delay may has = absurd may
init-rule s slots init edges number rule.FirstFall may has = absurd may
init-rule s slots init edges number rule.TooShort may has = absurd may
init-rule s slots init edges number rule.Phase may has = absurd may
init-rule s slots init edges number rule.StartBit may has = absurd may
init-rule s slots init edges number rule.TooLong may has = absurd may
init-rule s slots init edges number rule.TooFew may has = absurd may
init-rule s slots init edges number rule.EndsHigh may has = absurd may
init-rule s slots init edges number rule.Psi5Check may has = absurd may
init-rule s slots init edges number rule.NoSync may has = absurd may
init-rule s slots init edges number rule.NoSlot may has = absurd may
init-rule s slots init edges number rule.SlotTwice may has = absurd may
init-rule s slots init edges number rule.InitOrder may has = has
init-rule s slots init edges number rule.InitRepeat may has = has
init-rule s slots init edges number rule.SyncBit may has = absurd may
init-rule s slots init edges number rule.DownCheck may has = absurd may
init-rule s slots init edges number rule.StartPattern may has = absurd may

one-step : (s : Settings) (slots : Option SyncSlots) (init : Option ℕ) (edges : List NumberedEdge) (number : ℕ) (says : InitStep) → IsInitStep says → HasStep s slots init edges number says → All (Stands s slots init edges) (init_report number says)
one-step s slots init edges number step.Nothing may has = All-nil (Stands s slots init edges)
one-step s slots init edges number (step.Block id value) may has = All-cons (Stands s slots init edges) (record { place = number; what = what.Block id value }) [] has (All-nil (Stands s slots init edges))
one-step s slots init edges number (step.Done blocks) may has = All-cons (Stands s slots init edges) (record { place = number; what = what.Done blocks }) [] has (All-nil (Stands s slots init edges))
one-step s slots init edges number (step.Bad broken) may has =
    All-cons (Stands s slots init edges) (record { place = number; what = what.Bad broken }) [] (init-rule s slots init edges number broken may has) (All-nil (Stands s slots init edges))

-- one more code has one more step
single : (steps : List InitStep) → length steps ≡ 1 → (says : InitStep) × (steps ≡ says ∷ [])
single [] long = absurd cc
single (says ∷ []) long = (says, refl)
single (says ∷ other ∷ steps) long = absurd cc

next-step : (repeats : ℕ) (codes : List Code) (code : Code) → (says : InitStep) × (init_reading repeats (codes ++ code ∷ []) ≡ init_reading repeats codes ++ says ∷ [])
next-step repeats codes code =
    let front = steps-front repeats codes (code ∷ []) in
    let before = length-steps repeats codes in
    let after = length-steps repeats (codes ++ code ∷ []) in
    let all : length (init_reading repeats (codes ++ code ∷ [])) ≡ length (init_reading repeats codes) + length front.rest = ap length front.is ∙ length-append (init_reading repeats codes) front.rest in
    let one = single front.rest (omega (arith, before, after, all, length-append codes (code ∷ []))) in
    (one.0, front.is ∙ ap (λ l. init_reading repeats codes ++ l) one.1)

code-stands : (s : Settings) (slots : Option SyncSlots) (init : Option ℕ) (edges : List NumberedEdge) (before after : List Told) (number : ℕ) (slot : Option ℕ) (payload : Payload)
    → told_at_end s slots edges ≡ before ++ told.Good number slot payload ∷ after
    → All (Stands s slots init edges) (init_reports init number (codes_of (slot_number slot) (told_past [] before)) (class_in payload.a))
code-stands s slots None edges before after number slot payload stands = All-nil (Stands s slots None edges)
code-stands s slots (Some repeats) edges before after number slot payload stands =
    let codes = codes_of (slot_number slot) (told_past [] before) in
    let next = next-step repeats codes (class_in payload.a) in
    let new = grown-by (init_reading repeats codes) (init_reading repeats (codes ++ class_in payload.a ∷ [])) (next.0 ∷ []) next.1 in
    let is : flat_map (init_report number) (grown (init_reading repeats codes) (init_reading repeats (codes ++ class_in payload.a ∷ []))) ≡ init_report number next.0 =
    ap (flat_map (init_report number)) new ∙ append-nil (init_report number next.0) in
    subst (λ (l : List Report). All (Stands s slots (Some repeats) edges) l) (sym is)
    (one-step s slots (Some repeats) edges number next.0 (last-breaks repeats (codes ++ class_in payload.a ∷ []) (init_reading repeats codes) next.0 next.1)
    (record { repeats = repeats; is_read = refl; before = before; slot = slot; payload = payload; after = after; stands = stands; ends = next.1 }))

reports-walk : (s : Settings) (slots : Option SyncSlots) (init : Option ℕ) (edges : List NumberedEdge) (before rest : List Told) → told_at_end s slots edges ≡ before ++ rest → All (ToldStands s slots edges) rest
    → All (Stands s slots init edges) (burst_reports s init (told_past [] before) rest)
unfolding burst_reports
reports-walk s slots init edges before [] stands each = All-nil (Stands s slots init edges)
reports-walk s slots init edges before (told.Good number slot payload ∷ rest) stands each =
    let next : Told = told.Good number slot payload in
    let here : All (Stands s slots init edges) (told_reports s init (told_past [] before) next) =
    All-cons (Stands s slots init edges) (record { place = number; what = what.Burst slot payload (code_of s payload) }) (init_reports init number (codes_of (slot_number slot) (told_past [] before)) (class_in payload.a))
    (All-head (ToldStands s slots edges) next rest each, refl) (code-stands s slots init edges before rest number slot payload stands) in
    All-append (Stands s slots init edges) (told_reports s init (told_past [] before) next) (burst_reports s init (told_with (told_past [] before) next) rest) here
    (subst (λ (l : List Told). All (Stands s slots init edges) (burst_reports s init l rest)) (past-append [] before (next ∷ []) ∙ past-one (told_past [] before) next)
    (reports-walk s slots init edges (before ++ next ∷ []) rest (stands ∙ sym (append_assoc before (next ∷ []) rest)) (All-tail (ToldStands s slots edges) next rest each)))
reports-walk s slots init edges before (told.Bad number broken ∷ rest) stands each =
    let next : Told = told.Bad number broken in
    let here : All (Stands s slots init edges) (told_reports s init (told_past [] before) next) =
    All-cons (Stands s slots init edges) (record { place = number; what = what.Bad broken }) [] (rule-stands s slots init edges number broken (All-head (ToldStands s slots edges) next rest each)) (All-nil (Stands s slots init edges)) in
    All-append (Stands s slots init edges) (told_reports s init (told_past [] before) next) (burst_reports s init (told_with (told_past [] before) next) rest) here
    (subst (λ (l : List Told). All (Stands s slots init edges) (burst_reports s init l rest)) (past-append [] before (next ∷ []) ∙ past-one (told_past [] before) next)
    (reports-walk s slots init edges (before ++ next ∷ []) rest (stands ∙ sym (append_assoc before (next ∷ []) rest)) (All-tail (ToldStands s slots edges) next rest each)))

nothing-before : told_past [] [] ≡ []
unfolding told_past
nothing-before = refl

-- all reports at the end
pub bursts-stand : (s : Settings) (slots : Option SyncSlots) (init : Option ℕ) (edges : List NumberedEdge) → All (Stands s slots init edges) (psi5_at_end s slots init edges)
unfolding psi5_at_end
bursts-stand s slots init edges =
    subst (λ (l : List Told). All (Stands s slots init edges) (burst_reports s init l (told_at_end s slots edges))) nothing-before
    (reports-walk s slots init edges [] (told_at_end s slots edges) refl (told-stand s slots edges))

-- so each of those so far
pub psi5-stand : (s : Settings) (slots : Option SyncSlots) (init : Option ℕ) (edges : List NumberedEdge) → All (Stands s slots init edges) (psi5_so_far s slots init edges)
psi5-stand s slots init edges =
    let so_far = psi5_so_far s slots init edges in
    let front = end-front s slots init edges in
    let each : All (Stands s slots init edges) (so_far ++ front.rest) = subst (λ (l : List Report). All (Stands s slots init edges) l) front.is (bursts-stand s slots init edges) in
    subst (λ (l : List Report). All (Stands s slots init edges) l) (take_at so_far front.rest (length so_far) refl) (All-take (Stands s slots init edges) (length so_far) (so_far ++ front.rest) each)

-- and each that the end adds
pub psi5-end-stand : (s : Settings) (slots : Option SyncSlots) (init : Option ℕ) (edges : List NumberedEdge) → All (Stands s slots init edges) (grown (psi5_so_far s slots init edges) (psi5_at_end s slots init edges))
psi5-end-stand s slots init edges = All-drop (Stands s slots init edges) (length (psi5_so_far s slots init edges)) (psi5_at_end s slots init edges) (bursts-stand s slots init edges)
