-- What a simulator of PSI5 has come to; this project's own.
use Rattle.std.specs.Prelude.{◌≡◌, ℕ, ◌*◌, ◌^◌, ◌≤◌, Option, None, Some, IfSome, List, [], ◌∷◌}
use Rattle.psi5_frame.specs.Setup.{Settings}
use Rattle.psi5_slots.specs.Setup as slots
use Rattle.psi5_tolerance.specs.Trains.{SentBefore}
use Rattle.receiver_core.specs.declared.setup.SyncSlots.{SyncSlots}

-- bursts of this setup on this data line, in these slots behind sync pulses where there are any: what was sent before
pub record Psi5State : Type 0 where
  pub line : ℕ
  pub setup : Settings
  pub slots : Option SyncSlots
  pub before : SentBefore

-- the lines of a channel: its data line, and the sync line where there are slots
abbrev pub lines_of : ℕ → Option SyncSlots → List ℕ
lines_of line None = line ∷ []
lines_of line (Some slots) = line ∷ slots.line ∷ []

-- the windows of the slots, if there are any, are accepted
abbrev pub AreAccepted : Option SyncSlots → Type 0
AreAccepted None = Unit {0}
AreAccepted (Some sync) = slots.fault_of sync.setup.windows sync.setup.frame ≡ None

-- what was sent before was sent within what numbers of ps hold
pub record IsEarly (before : SentBefore) : Type 0 where
  pub frame_end : IfSome before.frame_end (λ end. end ≤ 10 ^ 18)
  pub sync : IfSome before.sync (λ time. time ≤ 9 * 10 ^ 17)
