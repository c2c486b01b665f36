-- What was reported stays when more edges come.
--     found-keeps      what is found stays
--     reading-front, ends-front      so the reports are a front of those of more edges, and of those at the end
use Rattle.std.proofs.Common.{◌≡◌, ◌⊎◌, inl, inr, ℕ, zero, suc, ◌-◌, ◌<◌, ◌≤◌, List, [], ◌∷◌, ◌++◌, Option, None, Some, length, refl, ap, ◌∙◌, append_assoc, arith}
use Rattle.line_base.specs.Edges.{NumberedEdge}
use Rattle.line_base.specs.Readings.{ended, skipped}
use Rattle.line_base.specs.Streams.{IsFrontOf}
use Rattle.line_base.specs.declared.rule.Rule.TheVariants as rule
use Rattle.line_base.proofs.Readings.{Keeps, KeepsFound, keeps-alike, keeps-cond, keeps-same, keeps-waits, read-front}
use Rattle.link_math.specs.Sent.{value_of}
use Rattle.sent_frame.specs.Pulses.{Pulse, falls_in, pulses_after}
use Rattle.sent_frame.specs.Reading.{Values, Carried, Broken, Short, values_of, with_value, may_calibrate, place_at, checked_over}
use Rattle.sent_frame.proofs.Prefixes.{falls_in-append, places-stay, pulses_after-front, values-stay}
use Rattle.spc_link.specs.declared.step.SpcStep.{SpcStep}
use Rattle.spc_link.specs.declared.step.SpcStep.TheVariants.{Bad, NoAnswer}
use Rattle.spc_link.specs.Setup.{Settings}
use Rattle.spc_link.specs.Reading.{after_trigger, answer_of, answered, at_fall, by_code, code_of, found, frame_of, is_after_quiet, lasts, spc_at_end, spc_ends, spc_reading, triggered}
use Rattle.spc_link.proofs.FallCounts.{as-many-pulses, edges-stay}

-- ---- the pulses that decide are there
-- as many pulses as are told of
abbrev pub Reaches : ℕ → ℕ → Values → Type 0
Reaches long count (Carried values) = count ≤ long
Reaches long count (Broken used broken) = used < long
Reaches long count Short = Unit {0}

reach_first : (long count : ℕ) (p : Pulse) (answer : Option ℕ) (values : Values) → Reaches long count values → Reaches (suc long) (suc count) (with_value p answer values)
reach_first long count p None values reaches = omega arith
reach_first long count p (Some v) (Carried values) reaches = omega (arith, reaches)
reach_first long count p (Some v) (Broken used broken) reaches = omega (arith, reaches)
reach_first long count p (Some v) Short reaches = tt

pub values-reach : (c count : ℕ) (pulses : List Pulse) → Reaches (length pulses) count (values_of c count pulses)
unfolding values_of
values-reach c zero pulses = omega arith
values-reach c (suc count) [] = tt
values-reach c (suc count) (p ∷ pulses) = reach_first (length pulses) count p (value_of p.length c) (values_of c count pulses) (values-reach c count pulses)

-- ---- what is found
fall_keeps : (report : SpcStep) (pulse : ℕ) (es more : List NumberedEdge) → pulse < length (falls_in es) → Keeps (at_fall report pulse es) (at_fall report pulse (es ++ more))
fall_keeps report pulse es more there =
    keeps-alike (at_fall report pulse es) (at_fall report pulse (es ++ more)) (at_fall report pulse es) refl (ap (λ n. ended report (suc (suc n))) (edges-stay pulse es more there))

frame_keeps : (s : Settings) (code c : ℕ) (es more : List NumberedEdge) (ps rest : List Pulse) (v w : Values)
    → suc (length ps) ≡ length (falls_in es) → values_of c (suc (suc s.sent.nibbles)) ps ≡ v → Reaches (length ps) (suc (suc s.sent.nibbles)) v → (v ≡ Short) ⊎ (w ≡ v)
    → Keeps (frame_of s code es ps v) (frame_of s code (es ++ more) (ps ++ rest) w)
frame_keeps s code c es more ps rest v w long e reaches (inl short) = keeps-waits (frame_of s code es ps v) (frame_of s code (es ++ more) (ps ++ rest) w) [] (ap (frame_of s code es ps) short)
frame_keeps s code c es more ps rest (Carried values) w long e reaches (inr same) =
    let n = suc (suc s.sent.nibbles) in
    rw same (rw (places-stay c (suc s.sent.nibbles) ps rest values e) (fall_keeps (answered code (checked_over s.cover s.sent (place_at ps (suc s.sent.nibbles)) values)) n es more (omega (arith, reaches, long))))
frame_keeps s code c es more ps rest (Broken used broken) w long e reaches (inr same) =
    rw same (fall_keeps (Bad broken.place rule.NibbleRange) (suc used) es more (omega (arith, reaches, long)))
frame_keeps s code c es more ps rest Short w long e reaches (inr same) = tt

answer_keeps : (s : Settings) (code : ℕ) (es more : List NumberedEdge) (ps rest : List Pulse) → length ps ≡ length (falls_in es) → Keeps (answer_of s code es ps) (answer_of s code (es ++ more) (ps ++ rest))
answer_keeps s code es more [] rest long = tt
answer_keeps s code es more (p ∷ ps) rest long =
    let count = suc (suc s.sent.nibbles) in
    keeps-cond (may_calibrate s.sent p) (frame_of s code es ps (values_of p.length count ps)) (frame_of s code (es ++ more) (ps ++ rest) (values_of p.length count (ps ++ rest)))
    (at_fall (Bad p.place rule.NoCalibration) 0 es) (at_fall (Bad p.place rule.NoCalibration) 0 (es ++ more))
    (frame_keeps s code p.length es more ps rest (values_of p.length count ps) (values_of p.length count (ps ++ rest)) long refl (values-reach p.length count ps) (values-stay p.length count ps rest))
    (fall_keeps (Bad p.place rule.NoCalibration) 0 es more (omega (arith, long)))

begun_keeps : (s : Settings) (code time : ℕ) (es more : List NumberedEdge) → Keeps (answer_of s code es (pulses_after time (falls_in es))) (answer_of s code (es ++ more) (pulses_after time (falls_in (es ++ more))))
begun_keeps s code time es more =
    let front = pulses_after-front time (falls_in es) (falls_in more) in
    let all : pulses_after time (falls_in (es ++ more)) ≡ pulses_after time (falls_in es) ++ front.rest = ap (pulses_after time) (falls_in-append es more) ∙ front.is in
    rw all (answer_keeps s code es more (pulses_after time (falls_in es)) front.rest (as-many-pulses time (falls_in es)))

after_keeps : (s : Settings) (code : ℕ) (rise : NumberedEdge) (es more : List NumberedEdge) → Keeps (after_trigger s code rise es) (after_trigger s code rise (es ++ more))
after_keeps s code rise [] more = tt
after_keeps s code rise (start ∷ es) more =
    let silent = ended (NoAnswer rise.number code) 1 in
    let late = ended (Bad start.number rule.Delay) 2 in
    keeps-cond (is_after_quiet s rise.edge.time start.edge) silent silent _ _ (keeps-same silent)
    (keeps-cond (lasts s.sent.tick s.delay (start.edge.time - rise.edge.time)) (answer_of s code es (pulses_after start.edge.time (falls_in es))) (answer_of s code (es ++ more) (pulses_after start.edge.time (falls_in (es ++ more)))) late late
    (begun_keeps s code start.edge.time es more) (keeps-same late))

code_keeps : (s : Settings) (rise : NumberedEdge) (es more : List NumberedEdge) (code : Option ℕ) → Keeps (by_code s rise es code) (by_code s rise (es ++ more) code)
code_keeps s rise es more None = keeps-same (ended (Bad rise.number rule.TriggerWidth) 1)
code_keeps s rise es more (Some code) = after_keeps s code rise es more

trigger_keeps : (s : Settings) (fall : NumberedEdge) (es more : List NumberedEdge) → Keeps (triggered s fall es) (triggered s fall (es ++ more))
trigger_keeps s fall [] more = tt
trigger_keeps s fall (rise ∷ es) more = code_keeps s rise es more (code_of s (rise.edge.time - fall.edge.time))

found_keeps : (s : Settings) (due : Unit {0}) (before : NumberedEdge) (es more : List NumberedEdge) → Keeps (found s due before es) (found s due before (es ++ more))
unfolding found
found_keeps s due before [] more = tt
found_keeps s due before (e ∷ es) more = keeps-cond (is_after_quiet s before.edge.time e.edge) (triggered s e es) (triggered s e (es ++ more)) skipped skipped (trigger_keeps s e es more) refl

-- what is found stays when more edges come
pub found-keeps : (s : Settings) → KeepsFound (found s)
found-keeps s = record { each = λ due before es more. found_keeps s due before es more }

-- ---- what was reported
-- the reports of some edges are a front of those of these and more
pub reading-front : (s : Settings) (es more : List NumberedEdge) → IsFrontOf (spc_reading s es) (spc_reading s (es ++ more))
reading-front s es more = read-front (found s) (found-keeps s) 0 tt es more

-- and of those at the end
pub ends-front : (s : Settings) (es more : List NumberedEdge) → IsFrontOf (spc_reading s es) (spc_at_end s (es ++ more))
ends-front s es more =
    let reports = reading-front s es more in
    let ends = spc_ends s (es ++ more) in
    record { rest = reports.rest ++ ends; is = ap (λ l. l ++ ends) reports.is ∙ append_assoc (spc_reading s es) reports.rest ends }
