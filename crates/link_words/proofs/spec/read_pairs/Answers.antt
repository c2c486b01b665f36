use Rattle.std.proofs.Common.{None}
use Rattle.std.proofs.lemmas.Result.{err_from_is_err_and}
use Rattle.line_base.proofs.Cuts.{less_left_of}
use Rattle.link_words.proofs.Pairs.{so_far_at, one_more, bad_pair, all_read}
use Rattle.link_words.proofs.spec.read_pairs.Goals as goal

pub returns-in_err-read_pair-clause-fault : goal.returns-in_err-read_pair-clause-fault
returns-in_err-read_pair-clause-fault c =
    let so_far = so_far_at _ _ _ _ _ c.pairs.invariant c.in-Some.is in
    let p = err_from_is_err_and c.from_residual.result c.from_residual.ensures.1 in
    rw (p.1, p.2) (bad_pair _ _ c.in-Some.text.now _ _ _ _ so_far c.cut.ensures c.in_err-read_pair.ensures)

pub pairs-smaller : goal.pairs-smaller
pairs-smaller c = less_left_of 44 _ _ _ _ c.in-Some.is c.cut.ensures

pub pairs-preserved : goal.pairs-preserved
pairs-preserved c =
    let so_far = so_far_at _ _ _ _ _ c.pairs.invariant c.in-Some.is in
    one_more _ _ c.in-Some.text.now _ _ _ _ _ so_far c.cut.ensures c.in_ok-read_pair.ensures c.put.ensures

pub returns-clause-good : goal.returns-clause-good
returns-clause-good c = all_read _ _ _ (so_far_at _ _ _ _ None c.pairs.invariant c.in_default.is)
