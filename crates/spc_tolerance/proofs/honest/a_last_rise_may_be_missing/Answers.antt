-- The law is a lemma.
use Rattle.spc_tolerance.proofs.MissingRises.{honest_without}
use Rattle.spc_tolerance.proofs.honest.a_last_rise_may_be_missing.Goals as goal

pub returns : goal.returns
returns c = honest_without
