use Rattle.edge_trace.specs.declared.form.Form.TheVariants as form
use Rattle.edge_trace.proofs.Reading.{narrow_read}
use Rattle.edge_trace.proofs.rows.read_plain.Goals as goal

pub returns-clause-read : goal.returns-clause-read
returns-clause-read c =
    λ stamps rows e has. narrow_read stamps rows c.args.before c.in_ok-edge.edge.time c.args.content.now c.args.levels.now c.keep_level.new.levels c.keep_level.new.edges form.Narrow c.in_ok-edge.edge (λ columns f. cc) e has c.in_ok-edge.ensures.good c.keep_level.ensures.edges c.keep_level.ensures.levels c.in_ok-edge.ensures.time tt
