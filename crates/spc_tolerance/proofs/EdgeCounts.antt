-- How many edges are sent and recorded.
--     length_sent         of a transaction
--     length_ideal        of transactions
--     whole_recorded      recorded edges and, where it is missing, the last rise are as many as were sent
--     next_opposite       recorded levels alternate
use Rattle.std.proofs.Common.{◌≡◌, ◌≢◌, ℕ, zero, suc, ◌+◌, ◌*◌, List, [], ◌∷◌, ◌++◌, Bool, true, false, not, if◌then◌else◌, length, map, drop, refl, ap, ap₂, sym, ◌∙◌, arith}
use Rattle.std.proofs.lemmas.List.{length-append, length-map}
use Rattle.line_base.specs.Edges.{NumberedEdge}
use Rattle.line_base.specs.declared.edge.Edge.{Edge}
use Rattle.spc_link.specs.Setup.{Settings}
use Rattle.spc_tolerance.specs.Trains.{AnswerFall, AnswerRise, Answered, IdealEdge, IsAnswerSent, IsSent, IsTrain, SentAnswer, SpcMessage, Transaction, Trigger, TriggerFall, TriggerRise, Unanswered, answer_edges, answer_falls, edges_in_answer, edges_sent, ideal_edges, message_of, pulses_sent, ticks_in, values_in}
use Rattle.link_tolerance.specs.Pulses.{falls_behind, lengths_of}
use Rattle.spc_tolerance.specs.Traces.{AreRecordedAs, IsRecordedAs, MayBeMissing}
use Rattle.spc_tolerance.specs.FromFirst.{all_edges, edge_count, whole_count}
use Rattle.spc_tolerance.proofs.HeardAnswers.{length_values}

-- ---- of a transaction
length_falls : (time : ℕ) (lengths : List ℕ) → length (falls_behind time lengths) ≡ length lengths
unfolding falls_behind
length_falls time [] = refl
length_falls time (sent ∷ lengths) = ap suc (length_falls (time + sent) lengths)

length_lengths : (counts ticks : List ℕ) → length ticks ≡ length counts → length (lengths_of counts ticks) ≡ length counts
length_lengths [] ticks e = refl
length_lengths (count ∷ counts) [] e = absurd (omega arith)
length_lengths (count ∷ counts) (tick ∷ ticks) e = ap suc (length_lengths counts ticks (omega arith))

pub length_pulses : (s : Settings) (trigger : Trigger) (answer : SentAnswer) → IsAnswerSent s trigger answer → length (pulses_sent s answer) ≡ suc (suc (suc s.sent.nibbles))
length_pulses s trigger answer sent =
    length_lengths (ticks_in s answer.frame) (answer.tick ∷ answer.own_ticks) sent.one_for_each
    ∙ ap suc (length-map (values_in s answer.frame) (λ value. 12 + value) ∙ length_values s answer.frame sent.fits)

two_for_each : (falls : List ℕ) → length (answer_edges falls) ≡ 2 * length falls
two_for_each [] = refl
two_for_each (fall ∷ falls) = let rest = two_for_each falls in omega (arith, rest)

pub length_in_answer : (s : Settings) (trigger : Trigger) (answer : SentAnswer) → IsAnswerSent s trigger answer → length (answer_edges (answer_falls s answer)) ≡ 2 * s.sent.nibbles + 8
length_in_answer s trigger answer sent =
    omega (arith, two_for_each (answer_falls s answer), length_falls answer.start (pulses_sent s answer), length_pulses s trigger answer sent)

pub length_sent : (s : Settings) (t : Transaction) → IsSent s t → length (edges_sent s t) ≡ edge_count s (message_of t)
length_sent s (Answered trigger answer) sent = omega (arith, length_in_answer s trigger answer sent.answer)
length_sent s (Unanswered trigger) sent = refl

-- ---- of transactions
-- what they say
abbrev pub messages_of : List Transaction → List SpcMessage
messages_of train = map message_of train

pub length_ideal : (s : Settings) (train : List Transaction) → IsTrain s train → length (ideal_edges s train) ≡ all_edges s (messages_of train)
length_ideal s [] sent = refl
length_ideal s (t ∷ train) sent = length-append (edges_sent s t) (ideal_edges s train) ∙ ap₂ (λ a b. a + b) (length_sent s t sent.0) (length_ideal s train sent.2)

-- ---- of what is recorded
-- an ideal edge's level
abbrev pub level_of : IdealEdge → Bool
level_of (TriggerFall time) = false
level_of (TriggerRise time) = true
level_of (AnswerFall time) = false
level_of AnswerRise = true

-- the levels of these ideal edges alternate from this one on, and the last is high
abbrev pub Alternate : Bool → List IdealEdge → Type 0
Alternate false [] = Unit {0}
Alternate true [] = ⊥
Alternate level (ideal ∷ ideals) = (level_of ideal ≡ level) × Alternate (not level) ideals

pub record AreAlternating (ideals : List IdealEdge) : Type 0 where
  pub level : Bool
  pub alternate : Alternate level ideals

pub alternate_behind : (level : Bool) (ideal : IdealEdge) (ideals : List IdealEdge) → Alternate level (ideal ∷ ideals) → AreAlternating ideals
alternate_behind true ideal ideals alternate = record { level = false; alternate = alternate.1 }
alternate_behind false ideal ideals alternate = record { level = true; alternate = alternate.1 }

pub alternate_cut : (count : ℕ) (ideals : List IdealEdge) → AreAlternating ideals → AreAlternating (drop count ideals)
alternate_cut zero ideals are = are
alternate_cut (suc count) [] are = are
alternate_cut (suc count) (ideal ∷ ideals) are = alternate_cut count ideals (alternate_behind are.level ideal ideals are.alternate)

alternate_answer : (falls : List ℕ) (ideals : List IdealEdge) → Alternate false ideals → Alternate false (answer_edges falls ++ ideals)
alternate_answer [] ideals alternate = alternate
alternate_answer (fall ∷ falls) ideals alternate = (refl, (refl, alternate_answer falls ideals alternate))

alternate_in_answer : (s : Settings) (t : Transaction) (ideals : List IdealEdge) → Alternate false ideals → Alternate false (edges_in_answer s t ++ ideals)
alternate_in_answer s (Answered trigger answer) ideals alternate = alternate_answer (answer_falls s answer) ideals alternate
alternate_in_answer s (Unanswered trigger) ideals alternate = alternate

alternate_train : (s : Settings) (train : List Transaction) → Alternate false (ideal_edges s train)
alternate_train s [] = tt
alternate_train s (t ∷ train) = (refl, (refl, alternate_in_answer s t (ideal_edges s train) (alternate_train s train)))

pub train-alternates : (s : Settings) (train : List Transaction) → AreAlternating (ideal_edges s train)
train-alternates s train = record { level = false; alternate = alternate_train s train }

same_level : (jitter : ℕ) (ideal : IdealEdge) (e : Edge) → IsRecordedAs jitter ideal e → e.level ≡ level_of ideal
same_level jitter (TriggerFall time) e recorded = recorded.0
same_level jitter (TriggerRise time) e recorded = recorded.0
same_level jitter (AnswerFall time) e recorded = recorded.0
same_level jitter AnswerRise e recorded = recorded

one_or_two : (level : Bool) (whole : ℕ) (e : Bool) → e ≡ level → whole ≡ (if level then 1 else 2) → whole ≡ (if e then 1 else 2)
one_or_two level whole e same is = is ∙ ap (λ b. if b then 1 else 2) (sym same)

-- the last of these edges is recorded as the first ideal edge, behind which at most a rise is missing
last_count : (level : Bool) (ideal : IdealEdge) (ideals : List IdealEdge) (e : Bool) → Alternate level (ideal ∷ ideals) → MayBeMissing ideals → e ≡ level_of ideal → length (ideal ∷ ideals) ≡ (if e then 1 else 2)
last_count true ideal [] e alternate may same = one_or_two true 1 e (same ∙ alternate.0) refl
last_count false ideal [] e alternate may same = absurd alternate.1
last_count level ideal (TriggerFall time ∷ ideals) e alternate may same = absurd may
last_count level ideal (TriggerRise time ∷ ideals) e alternate may same = absurd may
last_count level ideal (AnswerFall time ∷ ideals) e alternate may same = absurd may
last_count true ideal (AnswerRise ∷ []) e alternate may same = let never : true ≡ false = alternate.1.0 in absurd (cc)
last_count false ideal (AnswerRise ∷ []) e alternate may same = one_or_two false 2 e (same ∙ alternate.0) refl
last_count level ideal (AnswerRise ∷ next ∷ ideals) e alternate may same = absurd may

pub whole_recorded : (s : Settings) (ideals : List IdealEdge) (e : NumberedEdge) (edges : List NumberedEdge) → AreAlternating ideals → AreRecordedAs s ideals (e ∷ edges) → length ideals ≡ whole_count (e ∷ edges)
whole_recorded s [] e edges are recorded = absurd recorded
whole_recorded s (ideal ∷ ideals) e [] are recorded = last_count are.level ideal ideals e.edge.level are.alternate recorded.2 (same_level s.sent.jitter ideal e.edge recorded.0)
whole_recorded s (ideal ∷ ideals) e (next ∷ edges) are recorded = ap suc (whole_recorded s ideals next edges (alternate_behind are.level ideal ideals are.alternate) recorded.2)

-- ---- levels that are recorded
not_same : (level a b : Bool) → a ≡ level → b ≡ not level → a ≢ b
not_same true a b e e' = λ same. (cc)
not_same false a b e e' = λ same. (cc)

two_levels : (level : Bool) (ideal next : IdealEdge) (ideals : List IdealEdge) → Alternate level (ideal ∷ next ∷ ideals) → (level_of ideal ≡ level) × (level_of next ≡ not level)
two_levels true ideal next ideals alternate = (alternate.0, alternate.1.0)
two_levels false ideal next ideals alternate = (alternate.0, alternate.1.0)

pub next_opposite : (s : Settings) (ideals : List IdealEdge) (e next : NumberedEdge) (edges : List NumberedEdge) → AreAlternating ideals → AreRecordedAs s ideals (e ∷ next ∷ edges) → e.edge.level ≢ next.edge.level
next_opposite s [] e next edges are recorded = absurd recorded
next_opposite s (ideal ∷ []) e next edges are recorded = absurd recorded.2
next_opposite s (ideal ∷ ideal' ∷ ideals) e next edges are recorded =
    let two = two_levels are.level ideal ideal' ideals are.alternate in
    not_same are.level e.edge.level next.edge.level
    (same_level s.sent.jitter ideal e.edge recorded.0 ∙ two.0) (same_level s.sent.jitter ideal' next.edge recorded.2.0 ∙ two.1)

before_rise : (level before : Bool) → before ≡ level → true ≡ not level → before ≡ false
before_rise true before same next = absurd (cc)
before_rise false before same next = same

-- the edge before a rise in an answer is recorded as a fall
pub first_level : (s : Settings) (ideal : IdealEdge) (e : NumberedEdge) → AreAlternating (ideal ∷ AnswerRise ∷ []) → AreRecordedAs s (ideal ∷ AnswerRise ∷ []) (e ∷ []) → e.edge.level ≡ false
first_level s ideal e are recorded =
    let two = two_levels are.level ideal AnswerRise [] are.alternate in
    same_level s.sent.jitter ideal e.edge recorded.0 ∙ before_rise are.level (level_of ideal) two.0 two.1
