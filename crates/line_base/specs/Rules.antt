-- The rules' numbers; this project's own.
use Rattle.std.specs.Prelude.{ℕ}
use Rattle.line_base.specs.declared.rule.Rule.{Rule}
use Rattle.line_base.specs.declared.rule.Rule.TheVariants.{NoCalibration, Drift, NibbleRange, Check, PauseRange, Copy, Restart, Zero13, Zero18, SerialCheck, TriggerWidth, Delay, FirstFall, TooShort, Phase, StartBit, TooLong, TooFew, EndsHigh, Psi5Check, NoSync, NoSlot, SlotTwice, InitOrder, InitRepeat, SyncBit, DownCheck, StartPattern}

-- the number of a rule, 1 to 28
abbrev pub rule_number : Rule → ℕ
rule_number NoCalibration = 1
rule_number Drift = 2
rule_number NibbleRange = 3
rule_number Check = 4
rule_number PauseRange = 5
rule_number Copy = 6
rule_number Restart = 7
rule_number Zero13 = 8
rule_number Zero18 = 9
rule_number SerialCheck = 10
rule_number TriggerWidth = 11
rule_number Delay = 12
rule_number FirstFall = 13
rule_number TooShort = 14
rule_number Phase = 15
rule_number StartBit = 16
rule_number TooLong = 17
rule_number TooFew = 18
rule_number EndsHigh = 19
rule_number Psi5Check = 20
rule_number NoSync = 21
rule_number NoSlot = 22
rule_number SlotTwice = 23
rule_number InitOrder = 24
rule_number InitRepeat = 25
rule_number SyncBit = 26
rule_number DownCheck = 27
rule_number StartPattern = 28
