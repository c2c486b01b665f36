-- Honest traces of a SENT line: which edges may be recorded of the frames that a sensor sends. The bounds are this project's own.
use Rattle.std.specs.Prelude.{◌≡◌, ℕ, None, List, [], ◌∷◌, map, take, drop}
use Rattle.line_base.specs.Edges.{NumberedEdge}
use Rattle.sent_frame.specs.declared.frame.SentFrame.{SentFrame}
use Rattle.sent_frame.specs.Setup.{Settings, fault_of}
use Rattle.sent_frame.specs.Pulses.{Fall, falls_of}
use Rattle.link_tolerance.specs.Recorded.{AreRecorded, OpensAfter}
use Rattle.sent_tolerance.specs.Trains.{Sending, ideal_falls, IsTrain}

-- the line was opened after these ideal falls, where it has an edge
abbrev pub OpensBehind : ℕ → List NumberedEdge → List ℕ → Type 0
OpensBehind jitter [] ideals = Unit {0}
OpensBehind jitter (opening ∷ edges) ideals = OpensAfter jitter opening.edge.time ideals

-- these edges are an honest trace of these frames, of a setup that is accepted: their falls are recorded of a train of the frames, but for the first so many falls, which were before the opening; rises stand anywhere between two falls
pub record IsHonest (s : Settings) (frames : List SentFrame) (edges : List NumberedEdge) : Type 0 where
  pub accepted : fault_of s.tick s.jitter s.nibbles ≡ None
  pub sent : List Sending
  pub carries : map (λ (f : Sending). f.frame) sent ≡ frames
  pub train : IsTrain s sent
  pub start : ℕ
  pub left_out : ℕ
  pub recorded : AreRecorded s.jitter (drop left_out (ideal_falls s start sent)) (map (λ (fall : Fall). fall.time) (falls_of edges))
  pub opens : OpensBehind s.jitter edges (take left_out (ideal_falls s start sent))
