-- What the link makes of it.
use Rattle.std.proofs.Common.{ap, sym, ◌∙◌}
use Rattle.sensor_sim.specs.Sims.{outcome_by, sim_next}
use Rattle.sensor_sim.specs.declared.sim.Sim.TheVariants as sim
use Rattle.sensor_sim.proofs.LinkRuns.{outcome-by}
use Rattle.sensor_sim.proofs.HonestRuns.{psi5-sends, sent-sends, spc-sends, tooth-sends}
use Rattle.sensor_sim.proofs.sim.Sim.next.Goals as goal

pub returns-in-Sent : goal.returns-in-Sent
returns-in-Sent c =
    outcome-by sim.Sent c.next.result c.next.new.self c.next.new.wobble ∙ ap (outcome_by sim.Sent) c.next.ensures
    ∙ sym (sent-sends c.in-Sent.sim c.args.message.now c.args.wobble.now) ∙ ap (λ s. sim_next s c.args.message.now c.args.wobble.now) (sym c.in-Sent.is)

pub returns-in-Psi5 : goal.returns-in-Psi5
returns-in-Psi5 c =
    outcome-by sim.Psi5 c.next-in-Psi5.result c.next-in-Psi5.new.self c.next-in-Psi5.new.wobble ∙ ap (outcome_by sim.Psi5) c.next-in-Psi5.ensures
    ∙ sym (psi5-sends c.in-Psi5.sim c.args.message.now c.args.wobble.now) ∙ ap (λ s. sim_next s c.args.message.now c.args.wobble.now) (sym c.in-Psi5.is)

pub returns-in-Spc : goal.returns-in-Spc
returns-in-Spc c =
    outcome-by sim.Spc c.next-in-Spc.result c.next-in-Spc.new.self c.next-in-Spc.new.wobble ∙ ap (outcome_by sim.Spc) c.next-in-Spc.ensures
    ∙ sym (spc-sends c.in-Spc.sim c.args.message.now c.args.wobble.now) ∙ ap (λ s. sim_next s c.args.message.now c.args.wobble.now) (sym c.in-Spc.is)

pub returns-in-Tooth : goal.returns-in-Tooth
returns-in-Tooth c =
    outcome-by sim.Tooth c.next-in-Tooth.result c.next-in-Tooth.new.self c.next-in-Tooth.new.wobble ∙ ap (outcome_by sim.Tooth) c.next-in-Tooth.ensures
    ∙ sym (tooth-sends c.in-Tooth.sim c.args.message.now c.args.wobble.now) ∙ ap (λ s. sim_next s c.args.message.now c.args.wobble.now) (sym c.in-Tooth.is)
