-- Where the next edge leads a SENT reader.
--     edge-opening, edge-early_rise, edge-rise, edge-first_fall      an edge that ends no pulse
--     edge-fall      an edge that ends one
--     state-waits, made-none      what is kept has no report, and makes no pulse
use Rattle.std.proofs.Common.{◌≡◌, ℕ, ◌-◌, List, [], ◌∷◌, true, false, refl}
use Rattle.line_base.specs.Edges.{NumberedEdge}
use Rattle.line_base.specs.Standing.{Leads}
use Rattle.line_base.proofs.Standing.{Waits, leads-still}
use Rattle.sent_frame.specs.declared.frame.SentStep.{SentStep}
use Rattle.sent_frame.specs.declared.position.Position.{Position}
use Rattle.sent_frame.specs.declared.position.Position.TheVariants as position
use Rattle.sent_frame.specs.declared.reader.State.{State}
use Rattle.sent_frame.specs.declared.reader.State.TheVariants.{Fresh, Opened, Reading}
use Rattle.sent_frame.specs.Setup.{Settings}
use Rattle.sent_frame.specs.Reading.{found}
use Rattle.sent_frame.specs.Positions.{AgreesPosition}
use Rattle.sent_frame.specs.Kept.{AgreesState, EdgeLeads, IsState, pulses_made}
use Rattle.sent_frame.proofs.PulseLeads.{position-waits}

-- the first edge is an opening
pub edge-opening : (s : Settings) (e : NumberedEdge) → EdgeLeads s Fresh Opened e []
edge-opening s e = record { news = []; makes = λ edges. refl; leads = leads-still (λ due kept agrees. agrees) }

-- a rise is no fall
pub edge-early_rise : (s : Settings) (e : NumberedEdge) → e.edge.level ≡ true → EdgeLeads s Opened Opened e []
edge-early_rise s e rise = record { news = []; makes = λ edges. rw rise refl; leads = leads-still (λ due kept agrees. agrees) }

-- the first fall ends no pulse
pub edge-first_fall : (s : Settings) (e : NumberedEdge) → e.edge.level ≡ false → EdgeLeads s Opened (Reading e.edge.time position.Hunting) e []
edge-first_fall s e fall = record { news = []; makes = λ edges. rw fall refl; leads = leads-still (λ due kept agrees. agrees) }

-- a rise ends no pulse
pub edge-rise : (s : Settings) (fall : ℕ) (p : Position) (e : NumberedEdge) → e.edge.level ≡ true → EdgeLeads s (Reading fall p) (Reading fall p) e []
edge-rise s fall p e rise = record { news = []; makes = λ edges. rw rise refl; leads = leads-still (λ due kept agrees. agrees) }

-- any other fall ends a pulse
pub edge-fall : (s : Settings) (before : ℕ) (p next : Position) (e : NumberedEdge) (reports : List SentStep) → e.edge.level ≡ false
    → Leads (found s) (AgreesPosition s p) (AgreesPosition s next) (record { place = e.number; length = e.edge.time - before } ∷ []) reports → EdgeLeads s (Reading before p) (Reading e.edge.time next) e reports
edge-fall s before p next e reports fall leads = record { news = record { place = e.number; length = e.edge.time - before } ∷ []; makes = λ edges. rw fall refl; leads = leads }

-- what is kept has no report yet
pub state-waits : (s : Settings) (state : State) → IsState s state → Waits (found s) (AgreesState s state) []
state-waits s Fresh valid = position-waits s position.Hunting tt
state-waits s Opened valid = position-waits s position.Hunting tt
state-waits s (Reading fall p) valid = position-waits s p valid

-- no edge makes no pulse
pub made-none : (state : State) → pulses_made state [] ≡ []
made-none Fresh = refl
made-none Opened = refl
made-none (Reading fall p) = refl
