use Rattle.std.proofs.Common.{Some, refl, arith}
use Rattle.edge_trace.proofs.UnitFronts.{not_capped}
use Rattle.edge_trace.proofs.units.in_units.Goals as goal

pub returns-clause-known : goal.returns-clause-known
returns-clause-known c = record {
  time_is = c.in-Ok.ensures.value (Some c.args.written.time) (not_capped c.args.written.time (omega arith));
  line_is = refl;
  level_is = refl;
  later = omega arith;
}
