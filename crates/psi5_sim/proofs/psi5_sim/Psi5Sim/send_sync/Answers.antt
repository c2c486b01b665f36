-- The edges are those of the sync pulse.
use Rattle.std.proofs.Common.{◌*◌, [], ◌∷◌, ◌++◌, true, length, ap, ap₂, sym, ◌∙◌}
use Rattle.psi5_tolerance.specs.Trains.{SyncAt}
use Rattle.spc_tolerance.specs.Trains.{last_of}
use Rattle.sim_base.specs.Recordings.{pulses_at, recorded_by}
use Rattle.sim_base.specs.Wobbles.{past, words}
use Rattle.psi5_sim.specs.Psi5Sims.{behind, message_edges, openings}
use Rattle.psi5_sim.specs.Psi5States.{Psi5State}
use Rattle.psi5_sim.proofs.Psi5Outcomes.{refuses-late, sends-edges, sync-edges, sync-times}
use Rattle.psi5_sim.proofs.psi5_sim.Psi5Sim.send_sync.Goals as goal

pub returns-then-rise-gt-MAX_IDEAL : goal.returns-then-rise-gt-MAX_IDEAL
returns-then-rise-gt-MAX_IDEAL c = λ slots has line_is.
    refuses-late c.args.self.now (SyncAt c.args.rise) c.args.wobble.now c.args.rise (ap (last_of 0) (sym (sync-times c.args.self.now.setup c.args.rise))) c.if-rise-gt-MAX_IDEAL.true

pub returns : goal.returns
returns c = λ slots has line_is.
    let state = c.args.self.now in
    let g = c.args.wobble.now in
    let line = c.args.line in
    let rise = c.args.rise in
    let drawn = words (length (rise ∷ [])) g in
    let times = sym (sync-times state.setup rise) in
    let opened = openings c.self.inside.line c.self.inside.slots c.self.inside.frame_end c.self.inside.sync in
    let edges = c.push_edges.ensures.edges
    ∙ ap (λ l. l ++ pulses_at line true (2 * c.from.result) (recorded_by c.jitter.result (rise ∷ []) drawn)) c.openings-edges.ensures.edges
    ∙ ap₂ (λ b j. opened ++ pulses_at line true (2 * b) (recorded_by j (rise ∷ []) drawn)) (c.from.ensures ∙ c.bit.ensures.value) c.jitter.ensures.value
    ∙ ap (λ (s : Psi5State). openings s.line s.slots s.before.frame_end s.before.sync ++ pulses_at line true (2 * s.setup.bit) (recorded_by s.setup.jitter (rise ∷ []) drawn)) c.self.view_is in
    sends-edges state (SyncAt rise) g rise c.push_edges.new.edges.items _ c.push_edges.new.wobble (ap (last_of 0) times) c.if-rise-gt-MAX_IDEAL.false
    (sync-edges state slots line rise drawn c.push_edges.new.edges.items has line_is edges ∙ ap (λ l. message_edges state (SyncAt rise) (words (length l) g)) times)
    (ap (λ (s : Psi5State). behind s (SyncAt rise)) c.self.view_is) (c.push_edges.ensures.next ∙ ap (λ l. past (length l) g) times)
