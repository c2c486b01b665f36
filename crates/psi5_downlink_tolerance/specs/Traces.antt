-- Honest traces of a sync line: which rises may be recorded of the messages that a control unit sends. The bounds are this project's own.
use Rattle.std.specs.Prelude.{◌≡◌, ℕ, Option, None, Some, List, All, map, take, drop}
use Rattle.psi5_downlink.specs.declared.down.Down.{Down}
use Rattle.psi5_downlink.specs.Setup.{Settings, fault_of}
use Rattle.psi5_downlink.specs.Rises.{Rise}
use Rattle.link_tolerance.specs.Recorded.{AreRecorded, OpensAfter}
use Rattle.psi5_downlink_tolerance.specs.Trains.{IsTrain, Lasts, Sending, Span, ideal_rises, train_periods}

-- the line was opened after these ideal rises, where it has an opening, at this time in ns
abbrev pub OpensBehind : ℕ → Option ℕ → List ℕ → Type 0
OpensBehind jitter None ideals = Unit {0}
OpensBehind jitter (Some opening) ideals = OpensAfter jitter opening ideals

-- the rises behind an opening are an honest trace of these messages, of a setup that is accepted: they are recorded of a train of the messages, but for the first so many rises, which were before the opening
pub record IsHonest (s : Settings) (messages : List Down) (opening : Option ℕ) (rises : List Rise) : Type 0 where
  pub accepted : fault_of s.period s.jitter ≡ None
  pub sent : List Sending
  pub carries : map (λ (sending : Sending). sending.down) sent ≡ messages
  pub train : IsTrain s.form sent
  pub idle : ℕ
  pub spans : List Span
  pub periods : map (λ (span : Span). span.periods) spans ≡ train_periods s.form sent idle
  pub lasting : All (Lasts s.period) spans
  pub start : ℕ
  pub left_out : ℕ
  pub recorded : AreRecorded s.jitter (drop left_out (ideal_rises start spans)) (map (λ (rise : Rise). rise.time) rises)
  pub opens : OpensBehind s.jitter opening (take left_out (ideal_rises start spans))
