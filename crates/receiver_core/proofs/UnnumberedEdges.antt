-- Edges that are numbered from 0 are their edges without numbers, numbered again.
--     sent-numbers, spc-numbers, psi5-numbers      of the nominal traces
--     tooth-rises      the rises of pulses
use Rattle.std.proofs.Common.{◌≡◌, ℕ, suc, ◌+◌, ◌*◌, true, false, Option, None, Some, List, [], ◌∷◌, flat_map, refl, ap, ◌∙◌, arith}
use Rattle.line_base.specs.Edges.{NumberedEdge}
use Rattle.line_base.specs.declared.edge.Edge.{Edge}
use Rattle.sent_tolerance.specs.Nominal.{edges_from}
use Rattle.spc_tolerance.specs.Nominal.{exact_edges}
use Rattle.spc_tolerance.specs.Trains.{IdealEdge as SpcEdge, TriggerFall, TriggerRise, AnswerFall, AnswerRise}
use Rattle.psi5_tolerance.specs.Exact.{exact_from, exact_trace}
use Rattle.psi5_tolerance.specs.Lines.{SyncWindows}
use Rattle.psi5_tolerance.specs.Trains.{IdealEdge, Sending, ideal_edges}
use Rattle.psi5_frame.specs.Setup.{Settings}
use Rattle.psi5_downlink_tolerance.specs.Nominal.{rises_at}
use Rattle.receiver_core.specs.Traces.{numbered}
use Rattle.receiver_core.specs.ToothReports.{rise_at}
use Rattle.receiver_core.specs.Nominal.{pulses_at, without_numbers}

-- one edge more
pub next-number : (number : ℕ) (edge : Edge) (edges : List NumberedEdge) → numbered (suc number) (without_numbers edges) ≡ edges → numbered number (edge ∷ without_numbers edges) ≡ record { number = number; edge = edge } ∷ edges
unfolding numbered
next-number number edge edges e =
    let more : number + 1 ≡ suc number = omega arith in
    ap (λ l. record { number = number; edge = edge } ∷ l) (ap (λ n. numbered n (without_numbers edges)) more ∙ e)

pub no-number : (number : ℕ) → numbered number [] ≡ []
unfolding numbered
no-number number = refl

pub sent-from : (tick number : ℕ) (times : List ℕ) → numbered number (without_numbers (edges_from tick number times)) ≡ edges_from tick number times
unfolding edges_from
sent-from tick number [] = no-number number
sent-from tick number (time ∷ times) =
    next-number number _ (record { number = suc number; edge = record { line = 0; time = time + 4 * tick; level = true } } ∷ edges_from tick (suc (suc number)) times)
    (next-number (suc number) _ (edges_from tick (suc (suc number)) times) (sent-from tick (suc (suc number)) times))

pub spc-from : (tick number before : ℕ) (ideals : List SpcEdge) → numbered number (without_numbers (exact_edges tick number before ideals)) ≡ exact_edges tick number before ideals
unfolding exact_edges
spc-from tick number before [] = no-number number
spc-from tick number before (TriggerFall time ∷ ideals) = next-number number _ (exact_edges tick (suc number) time ideals) (spc-from tick (suc number) time ideals)
spc-from tick number before (TriggerRise time ∷ ideals) = next-number number _ (exact_edges tick (suc number) time ideals) (spc-from tick (suc number) time ideals)
spc-from tick number before (AnswerFall time ∷ ideals) = next-number number _ (exact_edges tick (suc number) time ideals) (spc-from tick (suc number) time ideals)
spc-from tick number before (AnswerRise ∷ ideals) = next-number number _ (exact_edges tick (suc number) (before + 4000 * tick) ideals) (spc-from tick (suc number) (before + 4000 * tick) ideals)

psi5-from : (line : ℕ) (sync : Option SyncWindows) (number : ℕ) (ideals : List IdealEdge) → numbered number (without_numbers (exact_from line sync number ideals)) ≡ exact_from line sync number ideals
unfolding exact_from
psi5-from line sync number [] = no-number number
psi5-from line sync number (ideal ∷ ideals) = next-number number _ (exact_from line sync (suc number) ideals) (psi5-from line sync (suc number) ideals)

pub psi5-numbers : (line : ℕ) (s : Settings) (sync : Option SyncWindows) (sent : List Sending) → numbered 0 (without_numbers (exact_trace line s sync sent)) ≡ exact_trace line s sync sent
psi5-numbers line s None sent = next-number 0 _ (exact_from line None 1 (ideal_edges s sent)) (psi5-from line None 1 (ideal_edges s sent))
psi5-numbers line s (Some sync) sent =
    next-number 0 _ (record { number = 1; edge = record { line = sync.line; time = 0; level = false } } ∷ exact_from line (Some sync) 2 (ideal_edges s sent))
    (next-number 1 _ (exact_from line (Some sync) 2 (ideal_edges s sent)) (psi5-from line (Some sync) 2 (ideal_edges s sent)))

-- the rises of pulses
pub tooth-rises : (number : ℕ) (times : List ℕ) → flat_map rise_at (numbered number (pulses_at times)) ≡ rises_at number times
unfolding numbered pulses_at rises_at
tooth-rises number [] = refl
tooth-rises number (time ∷ times) =
    let more : number + 1 + 1 ≡ suc (suc number) = omega arith in
    ap (λ l. record { number = number; time = time } ∷ l) (ap (λ n. flat_map rise_at (numbered n (pulses_at times))) more ∙ tooth-rises (suc (suc number)) times)
