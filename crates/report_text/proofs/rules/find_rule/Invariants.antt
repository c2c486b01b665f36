use Rattle.std.proofs.Common.{◌≡◌, drop, find, bytes_eq}
use Rattle.report_text.specs.Rules.{rule_name}
use Rattle.report_text.proofs.rules.find_rule.Given as goal

abbrev pub invariant-loop-rule : goal.invariant-loop-rule
invariant-loop-rule l = find (λ rule. bytes_eq l.name (rule_name rule)) (drop l.rule-index l.rules) ≡ find (λ rule. bytes_eq l.name (rule_name rule)) l.rules
