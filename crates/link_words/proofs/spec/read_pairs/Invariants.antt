use Rattle.std.specs.Option.{option_copied}
use Rattle.line_base.proofs.Cuts.{left_len}
use Rattle.link_words.proofs.Pairs.{ReadSoFar}
use Rattle.link_words.proofs.spec.read_pairs.Given as goal

abbrev pub invariant-pairs : goal.invariant-pairs
invariant-pairs l = ReadSoFar l.fn.kind l.fn.text l.chosen (option_copied l.rest)

abbrev pub decreases-pairs : goal.decreases-pairs
decreases-pairs l = left_len (option_copied l.rest)
