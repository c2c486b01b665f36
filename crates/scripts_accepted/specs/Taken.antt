-- What becomes of messages that fit; this project's own.
use Rattle.sim_base.specs.declared.sim_fault.SimFault.{SimFault}
use Rattle.sim_base.specs.declared.sim_fault.SimFault.TheVariants as fault
use Rattle.sim_base.specs.Outcomes.{Outcome, Sent, Refused}

-- the message is sent
abbrev pub IsSent : {A : Type 0} → Outcome A → Type 0
IsSent (Sent edges state g) = Unit {0}
IsSent (Refused fault state g) = ⊥

-- a message is refused for where it comes, and not for what it is
abbrev pub IsOfPlace : SimFault → Type 0
IsOfPlace fault.Kind = ⊥
IsOfPlace fault.Range = ⊥
IsOfPlace fault.Order = Unit {0}
IsOfPlace fault.Late = Unit {0}

-- the message is one of the setup whose values fit: it is sent, or it is refused for where it comes
abbrev pub IsOfSetup : {A : Type 0} → Outcome A → Type 0
IsOfSetup (Sent edges state g) = Unit {0}
IsOfSetup (Refused fault state g) = IsOfPlace fault
