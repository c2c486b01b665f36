-- Honest traces of an SPC line: which edges may be recorded of the transactions that are sent. The bounds are this project's own.
use Rattle.std.specs.Prelude.{◌≡◌, ◌≢◌, ℕ, ◌+◌, ◌*◌, ◌≤◌, None, true, false, List, [], ◌∷◌, map, take, drop}
use Rattle.line_base.specs.Edges.{NumberedEdge}
use Rattle.line_base.specs.declared.edge.Edge.{Edge}
use Rattle.sent_frame.specs.Setup as frame
use Rattle.spc_link.specs.Setup.{Settings, fault_of}
use Rattle.link_tolerance.specs.Recorded.{IsRecorded, OpensAfter}
use Rattle.spc_tolerance.specs.Trains.{SpcMessage, Transaction, message_of, IdealEdge, TriggerFall, TriggerRise, AnswerFall, AnswerRise, ideal_edges, ideal_times, IsTrain}

-- an ideal edge is recorded as this one: at the same level and, where it has a time, within the jitter
abbrev pub IsRecordedAs : ℕ → IdealEdge → Edge → Type 0
IsRecordedAs jitter (TriggerFall time) edge = (edge.level ≡ false) × IsRecorded jitter time edge.time
IsRecordedAs jitter (TriggerRise time) edge = (edge.level ≡ true) × IsRecorded jitter time edge.time
IsRecordedAs jitter (AnswerFall time) edge = (edge.level ≡ false) × IsRecorded jitter time edge.time
IsRecordedAs jitter AnswerRise edge = edge.level ≡ true

-- a trigger that falls at this ideal time in ps keeps the quiet time behind a rise that is recorded at this time in ns, and twice the jitter more
pub record IsQuiet (s : Settings) (rise fall : ℕ) : Type 0 where
  pub quiet : 1000 * rise + 100 * s.sent.tick * s.quiet + 2000 * s.sent.jitter ≤ fall

-- where a trigger's fall is the next of these ideal edges, it keeps the quiet time behind the edge that is recorded before it at this time
abbrev pub KeepsQuiet : Settings → ℕ → List IdealEdge → Type 0
KeepsQuiet s before [] = Unit {0}
KeepsQuiet s before (TriggerFall time ∷ ideals) = IsQuiet s before time
KeepsQuiet s before (TriggerRise time ∷ ideals) = Unit {0}
KeepsQuiet s before (AnswerFall time ∷ ideals) = Unit {0}
KeepsQuiet s before (AnswerRise ∷ ideals) = Unit {0}

-- at most a last rise of an answer is left of these ideal edges
abbrev pub MayBeMissing : List IdealEdge → Type 0
MayBeMissing [] = Unit {0}
MayBeMissing (AnswerRise ∷ []) = Unit {0}
MayBeMissing (ideal ∷ ideals) = ⊥

-- these ideal edges are recorded as these edges, one by one, and triggers keep the quiet time behind the recorded edge before; the last rise of an answer may be missing
abbrev pub AreRecordedAs : Settings → List IdealEdge → List NumberedEdge → Type 0
AreRecordedAs s ideals [] = MayBeMissing ideals
AreRecordedAs s [] (e ∷ edges) = ⊥
AreRecordedAs s (ideal ∷ ideals) (e ∷ edges) = IsRecordedAs s.sent.jitter ideal e.edge × KeepsQuiet s e.edge.time ideals × AreRecordedAs s ideals edges

-- the line was opened after these ideal times, where it has an edge
abbrev pub OpensBehind : ℕ → List NumberedEdge → List ℕ → Type 0
OpensBehind jitter [] ideals = Unit {0}
OpensBehind jitter (opening ∷ edges) ideals = OpensAfter jitter opening.edge.time ideals

-- the opening has the other level than the edge behind it
abbrev pub OpensOpposite : List NumberedEdge → Type 0
OpensOpposite [] = Unit {0}
OpensOpposite (opening ∷ []) = Unit {0}
OpensOpposite (opening ∷ next ∷ edges) = opening.edge.level ≢ next.edge.level

-- the times of these edges don't go back
abbrev pub AreInOrder : List NumberedEdge → Type 0
AreInOrder [] = Unit {0}
AreInOrder (e ∷ []) = Unit {0}
AreInOrder (e ∷ next ∷ edges) = (e.edge.time ≤ next.edge.time) × AreInOrder (next ∷ edges)

-- these edges, the first an opening, are an honest trace of these messages, of a setup that is accepted: those behind the opening are recorded of a train of the messages, but for the first so many of its edges, which were before the opening
pub record IsHonest (s : Settings) (messages : List SpcMessage) (edges : List NumberedEdge) : Type 0 where
  pub accepted : fault_of s.sent s.windows s.delay s.quiet ≡ None
  pub accepted_frame : frame.fault_of s.sent.tick s.sent.jitter s.sent.nibbles ≡ None
  pub train : List Transaction
  pub says : map message_of train ≡ messages
  pub sent : IsTrain s train
  pub left_out : ℕ
  pub recorded : AreRecordedAs s (drop left_out (ideal_edges s train)) (drop 1 edges)
  pub opens : OpensBehind s.sent.jitter edges (ideal_times (take left_out (ideal_edges s train)))
  pub opposite : OpensOpposite edges
  pub in_order : AreInOrder edges
