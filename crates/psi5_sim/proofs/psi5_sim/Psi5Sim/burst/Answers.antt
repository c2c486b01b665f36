-- A burst that fits and comes in order is drawn and sent.
use Rattle.std.proofs.Common.{ap, sym, ◌∙◌}
use Rattle.sim_base.specs.Wobbles.{behind_word, word}
use Rattle.psi5_sim.specs.Psi5Sims.{fits_burst, half_of, start_of}
use Rattle.psi5_sim.specs.Psi5States.{Psi5State}
use Rattle.psi5_sim.proofs.Psi5Outcomes.{refuses-order, refuses-range, sends-burst}
use Rattle.psi5_sim.proofs.psi5_sim.Psi5Sim.burst.Goals as goal

pub returns-then-not-fits_burst : goal.returns-then-not-fits_burst
returns-then-not-fits_burst c =
    refuses-range c.args.self.now c.args.slot c.args.payload.now c.args.wobble.now
    (ap (λ (s : Psi5State). fits_burst s.setup s.slots c.args.slot c.args.payload.now) (sym c.self.view_is) ∙ sym c.fits_burst.ensures ∙ c.if-not-fits_burst.true)

pub returns-then-not-is_in_order : goal.returns-then-not-is_in_order
returns-then-not-is_in_order c =
    refuses-order c.args.self.now c.args.slot c.args.payload.now c.args.wobble.now
    (ap (λ (s : Psi5State). fits_burst s.setup s.slots c.args.slot c.args.payload.now) (sym c.self.view_is) ∙ sym c.fits_burst.ensures ∙ c.if-not-fits_burst.false)
    (sym c.is_in_order.ensures ∙ c.if-not-is_in_order.true)

pub returns : goal.returns
returns c =
    let state = c.args.self.now in
    let slot = c.args.slot in
    let payload = c.args.payload.now in
    let g = c.args.wobble.now in
    let fits = ap (λ (s : Psi5State). fits_burst s.setup s.slots slot payload) (sym c.self.view_is) ∙ sym c.fits_burst.ensures ∙ c.if-not-fits_burst.false in
    let order = sym c.is_in_order.ensures ∙ c.if-not-is_in_order.false in
    let half = c.draw_half-half.ensures.value ∙ ap (λ (s : Psi5State). half_of s.setup.bit (word g)) c.self.view_is in
    let start = c.start-start.ensures.value ∙ ap (λ b. start_of state.setup state.slots state.before slot c.draw_half-half.result (word b)) c.draw_half-half.ensures.next in
    c.send_burst.ensures
    ∙ sends-burst state slot payload g c.start-start.result c.draw_half-half.result c.start-start.new.wobble fits order half start (c.start-start.ensures.next ∙ ap behind_word c.draw_half-half.ensures.next)
