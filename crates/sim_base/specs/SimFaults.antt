-- The simulators' faults: their numbers and printed names; this project's own.
use Rattle.std.specs.Prelude.{ℕ, List, codes}
use Rattle.sim_base.specs.declared.sim_fault.SimFault.{SimFault}
use Rattle.sim_base.specs.declared.sim_fault.SimFault.TheVariants as fault

-- the number of a fault, 1 to 4
abbrev pub sim_fault_number : SimFault → ℕ
sim_fault_number fault.Kind = 1
sim_fault_number fault.Range = 2
sim_fault_number fault.Order = 3
sim_fault_number fault.Late = 4

-- the name by which a fault is printed
abbrev pub sim_fault_name : SimFault → List ℕ
sim_fault_name fault.Kind = codes "Kind"
sim_fault_name fault.Range = codes "Range"
sim_fault_name fault.Order = codes "Order"
sim_fault_name fault.Late = codes "Late"
