-- The names of the rules differ, so that each is read as its rule.
use Rattle.std.proofs.Common.{◌≡◌, ℕ, ◌<◌, Bool, true, false, cond, Option, Some, Ok, List, [], ◌∷◌, length, find, bytes_eq, refl, sym, ◌∙◌, ap, arith}
use Rattle.std.specs.List.{list_all}
use Rattle.std.proofs.lemmas.Slice.Eq.{bytes_eq-Decides}
use Rattle.line_base.specs.declared.rule.Rule.{Rule}
use Rattle.line_base.specs.declared.rule.Rule.TheVariants as rule
use Rattle.report_text.specs.declared.fault.TextFault.TheVariants.{Word}
use Rattle.report_text.specs.Rules.{rule_name, all_rules, rule_named, rule_in}
use Rattle.report_text.proofs.Steps.{some_ok}
use Rattle.report_text.proofs.Cutting.{is_other}

found_step : {X : Type 0} (test : X → Bool) (x found : X) (others : Option X) (t : Bool) → test x ≡ t → cond t (Some x) others ≡ Some found → (others ≡ Some found → test found ≡ true) → test found ≡ true
found_step test x found others true e here later = (let same : x ≡ found = cc in ap test (sym same) ∙ e)
found_step test x found others false e here later = later here

-- what is found passes the test
found_passes : {X : Type 0} (test : X → Bool) (xs : List X) (found : X) → find test xs ≡ Some found → test found ≡ true
found_passes test [] found e = absurd cc
found_passes test (x ∷ xs) found e = found_step test x found (find test xs) (test x) refl e (found_passes test xs found)

-- a name that is read is the rule's
pub name_taken : (name : List ℕ) (rule : Rule) → rule_in name ≡ Ok rule → name ≡ rule_name rule
unfolding rule_named
name_taken name rule e = (bytes_eq-Decides name (rule_name rule)).0 (found_passes (λ r. bytes_eq name (rule_name r)) all_rules rule (some_ok (rule_named name) Word rule e))

-- each rule is read from its name
pub name_again : (rule : Rule) → rule_in (rule_name rule) ≡ Ok rule
unfolding rule_named
name_again rule.NoCalibration = refl
name_again rule.Drift = refl
name_again rule.NibbleRange = refl
name_again rule.Check = refl
name_again rule.PauseRange = refl
name_again rule.Copy = refl
name_again rule.Restart = refl
name_again rule.Zero13 = refl
name_again rule.Zero18 = refl
name_again rule.SerialCheck = refl
name_again rule.TriggerWidth = refl
name_again rule.Delay = refl
name_again rule.FirstFall = refl
name_again rule.TooShort = refl
name_again rule.Phase = refl
name_again rule.StartBit = refl
name_again rule.TooLong = refl
name_again rule.TooFew = refl
name_again rule.EndsHigh = refl
name_again rule.Psi5Check = refl
name_again rule.NoSync = refl
name_again rule.NoSlot = refl
name_again rule.SlotTwice = refl
name_again rule.InitOrder = refl
name_again rule.InitRepeat = refl
name_again rule.SyncBit = refl
name_again rule.DownCheck = refl
name_again rule.StartPattern = refl

-- no space stands in a name
pub name_free : (rule : Rule) → list_all is_other (rule_name rule) ≡ true
name_free rule.NoCalibration = refl
name_free rule.Drift = refl
name_free rule.NibbleRange = refl
name_free rule.Check = refl
name_free rule.PauseRange = refl
name_free rule.Copy = refl
name_free rule.Restart = refl
name_free rule.Zero13 = refl
name_free rule.Zero18 = refl
name_free rule.SerialCheck = refl
name_free rule.TriggerWidth = refl
name_free rule.Delay = refl
name_free rule.FirstFall = refl
name_free rule.TooShort = refl
name_free rule.Phase = refl
name_free rule.StartBit = refl
name_free rule.TooLong = refl
name_free rule.TooFew = refl
name_free rule.EndsHigh = refl
name_free rule.Psi5Check = refl
name_free rule.NoSync = refl
name_free rule.NoSlot = refl
name_free rule.SlotTwice = refl
name_free rule.InitOrder = refl
name_free rule.InitRepeat = refl
name_free rule.SyncBit = refl
name_free rule.DownCheck = refl
name_free rule.StartPattern = refl

pub name_some : (rule : Rule) → 0 < length (rule_name rule)
name_some rule.NoCalibration = omega arith
name_some rule.Drift = omega arith
name_some rule.NibbleRange = omega arith
name_some rule.Check = omega arith
name_some rule.PauseRange = omega arith
name_some rule.Copy = omega arith
name_some rule.Restart = omega arith
name_some rule.Zero13 = omega arith
name_some rule.Zero18 = omega arith
name_some rule.SerialCheck = omega arith
name_some rule.TriggerWidth = omega arith
name_some rule.Delay = omega arith
name_some rule.FirstFall = omega arith
name_some rule.TooShort = omega arith
name_some rule.Phase = omega arith
name_some rule.StartBit = omega arith
name_some rule.TooLong = omega arith
name_some rule.TooFew = omega arith
name_some rule.EndsHigh = omega arith
name_some rule.Psi5Check = omega arith
name_some rule.NoSync = omega arith
name_some rule.NoSlot = omega arith
name_some rule.SlotTwice = omega arith
name_some rule.InitOrder = omega arith
name_some rule.InitRepeat = omega arith
name_some rule.SyncBit = omega arith
name_some rule.DownCheck = omega arith
name_some rule.StartPattern = omega arith
