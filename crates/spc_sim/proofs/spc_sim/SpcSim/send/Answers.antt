-- The edges are those of the transaction.
use Rattle.std.proofs.Common.{◌≡◌, ◌+◌, ◌*◌, [], ◌∷◌, ◌++◌, true, false, Some, length, ap, ap₂, ◌∙◌, append_assoc}
use Rattle.sim_base.specs.Outcomes.{Sent}
use Rattle.sim_base.specs.Recordings.{edge_at, falls_with_rises, opening_of, recorded_at, recorded_by}
use Rattle.spc_sim.specs.SpcStates.{SpcState}
use Rattle.sim_base.specs.Wobbles.{behind_word, past, word, words}
use Rattle.spc_sim.proofs.SpcOutcomes.{refuses-late, sends-edges}
use Rattle.spc_sim.proofs.spc_sim.SpcSim.send.Goals as goal

pub returns-then-last-gt-MAX_IDEAL : goal.returns-then-last-gt-MAX_IDEAL
returns-then-last-gt-MAX_IDEAL c = λ t times. refuses-late c.args.self.now t c.args.wobble.now c.args.last times.last_is c.if-last-gt-MAX_IDEAL.true

pub returns : goal.returns
returns c = λ t times.
    let state = c.args.self.now in
    let g = c.args.wobble.now in
    let drawn = behind_word (behind_word g) in
    let line : c.self.inside.line ≡ state.line = ap (λ (s : SpcState). s.line) c.self.view_is in
    let next : c.self.inside.next ≡ state.next = ap (λ (s : SpcState). s.next) c.self.view_is in
    let jitter : c.jitter-jitter.result ≡ state.setup.sent.jitter = c.jitter-jitter.ensures.value ∙ ap (λ s. s.jitter) c.sent-2.ensures.value ∙ ap (λ (s : SpcState). s.setup.sent.jitter) c.self.view_is in
    let low : 4 * c.from.result ≡ 4 * state.setup.sent.tick = ap (λ n. 4 * n) (c.from.ensures ∙ c.tick.ensures.value ∙ ap (λ s. s.tick) c.sent.ensures.value ∙ ap (λ (s : SpcState). s.setup.sent.tick) c.self.view_is) in
    let second : c.record-2.new.wobble ≡ drawn = c.record-2.ensures.next ∙ ap behind_word c.record.ensures.next in
    let fall : c.record.result ≡ recorded_at state.setup.sent.jitter c.args.fall (word g) = c.record.ensures.value ∙ ap (λ j. recorded_at j c.args.fall (word g)) jitter in
    let rise : c.record-2.result ≡ recorded_at state.setup.sent.jitter c.args.rise (word (behind_word g)) =
    c.record-2.ensures.value ∙ ap₂ (λ j b. recorded_at j c.args.rise (word b)) jitter c.record.ensures.next in
    let falls = c.args.falls.now in
    let opened : c.opening-edges.result.items ≡ opening_of state.line true state.next = c.opening-edges.ensures ∙ ap₂ (λ l n. opening_of l true n) line next in
    let first : edge_at c.self.inside.line c.record.result false ≡ edge_at state.line (recorded_at state.setup.sent.jitter c.args.fall (word g)) false = ap₂ (λ l t. edge_at l t false) line fall in
    let other : edge_at c.self.inside.line c.record-2.result true ≡ edge_at state.line (recorded_at state.setup.sent.jitter c.args.rise (word (behind_word g))) true = ap₂ (λ l t. edge_at l t true) line rise in
    let more : falls_with_rises c.self.inside.line (4 * c.from.result) (recorded_by c.jitter-jitter.result falls (words (length falls) c.record-2.new.wobble))
    ≡ falls_with_rises state.line (4 * state.setup.sent.tick) (recorded_by state.setup.sent.jitter falls (words (length falls) drawn)) =
    ap₂ (λ l w. falls_with_rises l w (recorded_by c.jitter-jitter.result falls (words (length falls) c.record-2.new.wobble))) line low
    ∙ ap₂ (λ j b. falls_with_rises state.line (4 * state.setup.sent.tick) (recorded_by j falls (words (length falls) b))) jitter second in
    let edges = c.push_edges.ensures.edges ∙ ap (λ l. l ++ falls_with_rises c.self.inside.line (4 * c.from.result) (recorded_by c.jitter-jitter.result falls (words (length falls) c.record-2.new.wobble)))
    (c.push-2.ensures.items ∙ ap (λ l. l ++ edge_at c.self.inside.line c.record-2.result true ∷ []) (c.push.ensures.items ∙ ap (λ l. l ++ edge_at c.self.inside.line c.record.result false ∷ []) opened))
    ∙ ap₂ (λ e f. ((opening_of state.line true state.next ++ e ∷ []) ++ f ∷ []) ++ falls_with_rises c.self.inside.line (4 * c.from.result) (recorded_by c.jitter-jitter.result falls (words (length falls) c.record-2.new.wobble))) first other
    ∙ ap (λ l. ((opening_of state.line true state.next ++ edge_at state.line (recorded_at state.setup.sent.jitter c.args.fall (word g)) false ∷ []) ++ edge_at state.line (recorded_at state.setup.sent.jitter c.args.rise (word (behind_word g))) true ∷ []) ++ l) more
    ∙ append_assoc (opening_of state.line true state.next ++ edge_at state.line (recorded_at state.setup.sent.jitter c.args.fall (word g)) false ∷ []) (edge_at state.line (recorded_at state.setup.sent.jitter c.args.rise (word (behind_word g))) true ∷ []) (falls_with_rises state.line (4 * state.setup.sent.tick) (recorded_by state.setup.sent.jitter falls (words (length falls) drawn)))
    ∙ append_assoc (opening_of state.line true state.next) (edge_at state.line (recorded_at state.setup.sent.jitter c.args.fall (word g)) false ∷ []) (edge_at state.line (recorded_at state.setup.sent.jitter c.args.rise (word (behind_word g))) true ∷ falls_with_rises state.line (4 * state.setup.sent.tick) (recorded_by state.setup.sent.jitter falls (words (length falls) drawn))) in
    let later : c.next_trigger.result ≡ c.args.last + 1000 * c.args.rest * state.setup.sent.tick + 100 * state.setup.sent.tick * state.setup.quiet + 2000 * state.setup.sent.jitter =
    c.next_trigger.ensures.value ∙ ap (λ (s : SpcState). c.args.last + 1000 * c.args.rest * s.setup.sent.tick + 100 * s.setup.sent.tick * s.setup.quiet + 2000 * s.setup.sent.jitter) c.self.view_is in
    ap (λ (s : SpcState). Sent c.push_edges.new.edges.items (record s { next = Some c.next_trigger.result }) c.push_edges.new.wobble) c.self.view_is
    ∙ sends-edges state t g c.args.fall c.args.rise falls c.args.last c.args.rest c.next_trigger.result c.push_edges.new.edges.items c.push_edges.new.wobble times c.if-last-gt-MAX_IDEAL.false edges later
    (c.push_edges.ensures.next ∙ ap (past (length falls)) second)
