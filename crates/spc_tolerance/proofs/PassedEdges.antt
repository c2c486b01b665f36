-- Edges of a transaction that are passed over: no fall among them is after quiet.
--     answer_passable       those of an answer
--     passing_cut           those of which the first ones are left out
--     read_passed           nothing is read of them
--     ready_behind          and behind them the next transaction is recorded
use Rattle.std.proofs.Common.{◌≡◌, ℕ, zero, suc, ◌+◌, ◌*◌, ◌<◌, ◌≤◌, List, [], ◌∷◌, ◌++◌, false, length, map, drop, take, refl, ap, sym, ◌∙◌, arith}
use Rattle.std.proofs.lemmas.List.{drop_all}
use Rattle.std.proofs.lemmas.List.Elements.{All-head, All-tail}
use Rattle.std.specs.List.{All}
use Rattle.line_base.specs.Edges.{NumberedEdge}
use Rattle.line_base.specs.declared.edge.Edge.{Edge}
use Rattle.sent_frame.specs.Setup as frame
use Rattle.spc_link.specs.Setup.{Settings}
use Rattle.spc_link.specs.Reading.{is_after_quiet, spc_at_end}
use Rattle.link_tolerance.specs.Recorded.{OpensAfter}
use Rattle.link_tolerance.specs.Ticks.{IsTick, IsOwnTick}
use Rattle.spc_tolerance.specs.Trains.{AnswerFall, AnswerRise, IdealEdge, IsAnswerSent, SentAnswer, Trigger, TriggerFall, TriggerRise, answer_edges, answer_falls, ideal_times, values_in}
use Rattle.link_tolerance.specs.Pulses.{falls_behind, lengths_of}
use Rattle.spc_tolerance.specs.Traces.{AreInOrder, AreRecordedAs, IsRecordedAs, KeepsQuiet, MayBeMissing}
use Rattle.spc_tolerance.proofs.RecordedTimes.{IsQuietLong, IsSoon, calibration_soon, delay_soon, fall_passed, rise_passed, value_soon}
use Rattle.spc_tolerance.proofs.HeardAnswers.{values_small}
use Rattle.spc_tolerance.proofs.Steps.{at_last, at_passed, over_edge, over_last, read_none}

-- behind an edge at this ideal time none of these is a trigger's fall, and each fall comes soon
abbrev pub IsPassable : Settings → ℕ → List IdealEdge → Type 0
IsPassable s last [] = Unit {0}
IsPassable s last (TriggerFall time ∷ ideals) = ⊥
IsPassable s last (TriggerRise time ∷ ideals) = IsPassable s time ideals
IsPassable s last (AnswerFall time ∷ ideals) = IsSoon s last time × IsPassable s time ideals
IsPassable s last (AnswerRise ∷ ideals) = IsPassable s last ideals

-- so do these, behind an edge that is recorded at this time
pub record IsPassing (s : Settings) (before : ℕ) (ideals : List IdealEdge) : Type 0 where
  pub last : ℕ
  pub there : last ≤ 1000 * (before + s.sent.jitter)
  pub passable : IsPassable s last ideals

-- ---- an answer
values_passable : (s : Settings) (tick : ℕ) → frame.InRange s.sent.tick s.sent.jitter s.sent.nibbles → IsQuietLong s → IsTick s.sent.tick tick
    → (values own : List ℕ) (last : ℕ) → All (λ value. value < 16) values → All (IsOwnTick tick) own → IsPassable s last (answer_edges (falls_behind last (lengths_of (map (λ value. 12 + value) values) own)))
unfolding falls_behind
values_passable s tick range quiet is_tick [] own last below are_own = tt
values_passable s tick range quiet is_tick (value ∷ values) [] last below are_own = tt
values_passable s tick range quiet is_tick (value ∷ values) (own ∷ owns) last below are_own = (
  value_soon s last tick own value range quiet is_tick (All-head (IsOwnTick tick) own owns are_own) (All-head (λ v. v < 16) value values below),
  values_passable s tick range quiet is_tick values owns (last + (12 + value) * own) (All-tail (λ v. v < 16) value values below) (All-tail (IsOwnTick tick) own owns are_own),
)

pub answer_passable : (s : Settings) (trigger : Trigger) (answer : SentAnswer) → frame.InRange s.sent.tick s.sent.jitter s.sent.nibbles → IsQuietLong s → IsAnswerSent s trigger answer → IsPassable s trigger.rise (answer_edges (answer_falls s answer))
unfolding falls_behind
answer_passable s trigger answer range quiet sent = (
  delay_soon s trigger.rise answer.start quiet (omega arith) sent.delay,
  (
    calibration_soon s answer.start answer.tick range quiet sent.tick,
    values_passable s answer.tick range quiet sent.tick (values_in s answer.frame) answer.own_ticks (answer.start + 56 * answer.tick) (values_small s answer.frame sent.fits) sent.own_ticks,
  ),
)

-- ---- a cut
pub passing_cut : (s : Settings) (last : ℕ) (ideals : List IdealEdge) (missing opening : ℕ) → IsPassable s last ideals → OpensAfter s.sent.jitter opening (last ∷ ideal_times (take missing ideals)) → IsPassing s opening (drop missing ideals)
passing_cut s last ideals zero opening passable opens = record { last = last; there = opens; passable = passable }
passing_cut s last [] (suc missing) opening passable opens = record { last = last; there = opens; passable = passable }
passing_cut s last (TriggerFall time ∷ ideals) (suc missing) opening passable opens = absurd passable
passing_cut s last (TriggerRise time ∷ ideals) (suc missing) opening passable opens = passing_cut s time ideals missing opening passable opens
passing_cut s last (AnswerFall time ∷ ideals) (suc missing) opening passable opens = passing_cut s time ideals missing opening passable.1 opens
passing_cut s last (AnswerRise ∷ ideals) (suc missing) opening passable opens = passing_cut s last ideals missing opening passable opens

-- ---- what is read
-- the next edge isn't after quiet, and the others are passed as well
record IsNextPassed (s : Settings) (before : ℕ) (e : Edge) (ideals : List IdealEdge) : Type 0 where
  passed : is_after_quiet s before e ≡ false
  passing : IsPassing s e.time ideals

next_passed : (s : Settings) (before : ℕ) (e : Edge) (ideal : IdealEdge) (ideals : List IdealEdge) → IsPassing s before (ideal ∷ ideals) → IsRecordedAs s.sent.jitter ideal e → before ≤ e.time → IsNextPassed s before e ideals
next_passed s before e (TriggerFall time) ideals passing recorded later = absurd passing.passable
next_passed s before e (TriggerRise time) ideals passing recorded later = record {
  passed = rise_passed s before e recorded.0;
  passing = record { last = time; there = recorded.1.not_too_early; passable = passing.passable };
}
next_passed s before e (AnswerFall time) ideals passing recorded later = record {
  passed = fall_passed s before passing.last time e passing.there passing.passable.0 recorded.1;
  passing = record { last = time; there = recorded.1.not_too_early; passable = passing.passable.1 };
}
next_passed s before e AnswerRise ideals passing recorded later = record {
  passed = rise_passed s before e recorded;
  passing = record { last = passing.last; there = omega arith; passable = passing.passable };
}

pub read_alone : (s : Settings) (before : NumberedEdge) → spc_at_end s (before ∷ []) ≡ []
read_alone s before = over_last s before [] [] (at_last s before)

pub read_passed : (s : Settings) (count : ℕ) (ideals more : List IdealEdge) (before : NumberedEdge) (edges : List NumberedEdge) → count ≤ length ideals → IsPassing s before.edge.time ideals → AreRecordedAs s (ideals ++ more) edges → AreInOrder (before ∷ edges)
    → spc_at_end s (before ∷ edges) ≡ spc_at_end s (drop count (before ∷ edges))
read_passed s zero ideals more before edges within passing recorded ordered = refl
read_passed s (suc count) [] more before edges within passing recorded ordered = absurd (omega arith)
read_passed s (suc count) (ideal ∷ ideals) more before [] within passing recorded ordered =
    read_alone s before ∙ sym (ap (spc_at_end s) (drop_all count [] (omega arith)) ∙ read_none s)
read_passed s (suc count) (ideal ∷ ideals) more before (e ∷ edges) within passing recorded ordered =
    let next = next_passed s before.edge.time e.edge ideal ideals passing recorded.0 ordered.0 in
    over_edge s before (e ∷ edges) (at_passed s before e edges next.passed)
    ∙ read_passed s count ideals more e edges (omega arith) next.passing recorded.2 ordered.1

-- ---- what comes behind
-- these ideal edges are recorded behind the first of these edges, which keeps quiet; or there are none
abbrev pub AreReady : Settings → List IdealEdge → List NumberedEdge → Type 0
AreReady s ideals [] = ideals ≡ []
AreReady s ideals (before ∷ edges) = AreRecordedAs s ideals edges × KeepsQuiet s before.edge.time ideals × AreInOrder (before ∷ edges)

last_missing : (ideal : IdealEdge) (ideals : List IdealEdge) → MayBeMissing (ideal ∷ ideals) → ideals ≡ []
last_missing (TriggerFall time) ideals may = absurd may
last_missing (TriggerRise time) ideals may = absurd may
last_missing (AnswerFall time) ideals may = absurd may
last_missing AnswerRise [] may = refl
last_missing AnswerRise (ideal ∷ ideals) may = absurd may

pub ready_behind : (s : Settings) (ideals more : List IdealEdge) (before : NumberedEdge) (edges : List NumberedEdge) → 1 ≤ length ideals → AreRecordedAs s (ideals ++ more) edges → AreInOrder (before ∷ edges) → AreReady s more (drop (length ideals) (before ∷ edges))
ready_behind s [] more before edges some recorded ordered = absurd (omega arith)
ready_behind s (ideal ∷ []) more before [] some recorded ordered = last_missing ideal more recorded
ready_behind s (ideal ∷ []) more before (e ∷ edges) some recorded ordered = (recorded.2, recorded.1, ordered.1)
ready_behind s (ideal ∷ next ∷ ideals) more before [] some recorded ordered = let none : next ∷ (ideals ++ more) ≡ [] = last_missing ideal (next ∷ (ideals ++ more)) recorded in absurd (cc)
ready_behind s (ideal ∷ next ∷ ideals) more before (e ∷ edges) some recorded ordered = ready_behind s (next ∷ ideals) more e edges (omega arith) recorded.2 ordered.1
