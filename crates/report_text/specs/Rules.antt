-- The names of the rules, and the line of a violated one; this project's own.
use Rattle.std.specs.Prelude.{ℕ, ok_or, find, Option, Result, Ok, List, [], ◌∷◌, codes}
use Rattle.std.specs.Str.{bytes_eq}
use Rattle.line_base.specs.declared.rule.Rule.{Rule}
use Rattle.line_base.specs.declared.rule.Rule.TheVariants as rule
use Rattle.receiver_core.specs.declared.report.What.{What}
use Rattle.receiver_core.specs.declared.report.What.TheVariants.{Bad}
use Rattle.report_text.specs.declared.fault.TextFault.{TextFault}
use Rattle.report_text.specs.declared.fault.TextFault.TheVariants.{Word}
use Rattle.line_base.specs.Steps.{◌>>=◌}
use Rattle.report_text.specs.Fields.{value_read}

-- the name of a rule
abbrev pub rule_name : Rule → List ℕ
rule_name rule.NoCalibration = codes "NoCalibration"
rule_name rule.Drift = codes "Drift"
rule_name rule.NibbleRange = codes "NibbleRange"
rule_name rule.Check = codes "Check"
rule_name rule.PauseRange = codes "PauseRange"
rule_name rule.Copy = codes "Copy"
rule_name rule.Restart = codes "Restart"
rule_name rule.Zero13 = codes "Zero13"
rule_name rule.Zero18 = codes "Zero18"
rule_name rule.SerialCheck = codes "SerialCheck"
rule_name rule.TriggerWidth = codes "TriggerWidth"
rule_name rule.Delay = codes "Delay"
rule_name rule.FirstFall = codes "FirstFall"
rule_name rule.TooShort = codes "TooShort"
rule_name rule.Phase = codes "Phase"
rule_name rule.StartBit = codes "StartBit"
rule_name rule.TooLong = codes "TooLong"
rule_name rule.TooFew = codes "TooFew"
rule_name rule.EndsHigh = codes "EndsHigh"
rule_name rule.Psi5Check = codes "Psi5Check"
rule_name rule.NoSync = codes "NoSync"
rule_name rule.NoSlot = codes "NoSlot"
rule_name rule.SlotTwice = codes "SlotTwice"
rule_name rule.InitOrder = codes "InitOrder"
rule_name rule.InitRepeat = codes "InitRepeat"
rule_name rule.SyncBit = codes "SyncBit"
rule_name rule.DownCheck = codes "DownCheck"
rule_name rule.StartPattern = codes "StartPattern"

-- all rules, in the order of their numbers
abbrev pub all_rules : List Rule
all_rules =
    rule.NoCalibration ∷ rule.Drift ∷ rule.NibbleRange ∷ rule.Check ∷ rule.PauseRange ∷ rule.Copy ∷ rule.Restart
    ∷ rule.Zero13 ∷ rule.Zero18 ∷ rule.SerialCheck ∷ rule.TriggerWidth ∷ rule.Delay ∷ rule.FirstFall ∷ rule.TooShort
    ∷ rule.Phase ∷ rule.StartBit ∷ rule.TooLong ∷ rule.TooFew ∷ rule.EndsHigh ∷ rule.Psi5Check ∷ rule.NoSync
    ∷ rule.NoSlot ∷ rule.SlotTwice ∷ rule.InitOrder ∷ rule.InitRepeat ∷ rule.SyncBit ∷ rule.DownCheck ∷ rule.StartPattern
    ∷ []

-- the rule of this name, if there is one
unfoldable pub rule_named : List ℕ → Option Rule
rule_named name = find (λ rule. bytes_eq name (rule_name rule)) all_rules

-- the rule whose name a field is; Word for no name of a rule
abbrev pub rule_in : List ℕ → Result Rule TextFault
rule_in field = ok_or (rule_named field) Word

-- the fields of a violated rule: its name
abbrev pub bad_fields : Rule → List (List ℕ)
bad_fields rule = codes "bad" ∷ rule_name rule ∷ []

-- what is read behind `bad`
unfoldable pub bad_read : List (List ℕ) → Result (What × List (List ℕ)) TextFault
bad_read fields = do
  rule ← value_read rule_in fields
  Ok (Bad rule.0, rule.1)
