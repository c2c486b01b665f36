-- A reader that has taken one edge more stands for one edge more.
use Rattle.std.proofs.Common.{◌≡◌, List, [], ◌∷◌, ◌++◌, refl, subst, sym}
use Rattle.std.specs.List.{All}
use Rattle.line_base.specs.Edges.{NumberedEdge}
use Rattle.line_base.proofs.Standing.{over-more, over-none, over-reads}
use Rattle.sent_frame.specs.declared.frame.SentStep.{SentStep}
use Rattle.sent_frame.specs.declared.reader.State.{State}
use Rattle.sent_frame.specs.declared.reader.State.TheVariants.{Fresh}
use Rattle.sent_frame.specs.declared.reader.SentReader.{SentReader}
use Rattle.sent_frame.specs.Setup.{Settings}
use Rattle.sent_frame.specs.Pulses.{pulses_of}
use Rattle.sent_frame.specs.Reading.{Hunting, found, sent_reading}
use Rattle.sent_frame.specs.Frames.{Means}
use Rattle.sent_frame.specs.Kept.{AgreesState, EdgeLeads, IsState, pulses_made}
use Rattle.sent_frame.specs.Readers.{StandsFor}
use Rattle.sent_frame.proofs.Edges.{made-none, state-waits}
use Rattle.sent_frame.proofs.Meanings.{reports_mean, later_mean}

-- a state that the reader can have leads to another one
pub record Goes (s : Settings) (state next : State) (e : NumberedEdge) (answers : List SentStep) : Type 0 where
  pub leads : EdgeLeads s state next e answers
  pub valid : IsState s next

-- and so does what is the same as the first
pub goes-from : {s : Settings} {state kept next : State} {e : NumberedEdge} {answers : List SentStep} → kept ≡ state → EdgeLeads s kept next e answers → IsState s next → Goes s state next e answers
goes-from {s = s} {next = next} {e = e} {answers = answers} same leads valid = record { leads = subst (λ (st : State). EdgeLeads s st next e answers) same leads; valid = valid }

pub stands-in : (setup inside : Settings) (state : State) (old : SentReader) (seen : List NumberedEdge) → (inside, state) ≡ old → StandsFor setup old seen → StandsFor setup (inside, state) seen
stands-in setup inside state old seen view before = subst (λ (r : SentReader). StandsFor setup r seen) (sym view) before

-- it stands for the edge as well
pub pushed : (setup inside : Settings) (state next : State) (old : SentReader) (seen : List NumberedEdge) (e : NumberedEdge) (answers : List SentStep)
    → (inside, state) ≡ old → StandsFor setup old seen → Goes inside state next e answers → StandsFor setup (inside, next) (seen ++ e ∷ [])
pushed setup inside state next old seen e answers view before step =
    let now = stands-in setup inside state old seen view before in
    let goes : Goes setup state next e answers = subst (λ (s : Settings). Goes s state next e answers) now.same_setup step in
    record {
      same_setup = now.same_setup;
      stands = over-more pulses_of (pulses_made state) (pulses_made next) (found setup) Hunting (AgreesState setup state) (AgreesState setup next) seen e answers [] now.stands goes.leads (made-none next) (state-waits setup next goes.valid);
    }

-- the reports grow by those that the edge leads to
pub pushed-grows : (setup inside : Settings) (state next : State) (old : SentReader) (seen : List NumberedEdge) (e : NumberedEdge) (answers : List SentStep)
    → (inside, state) ≡ old → StandsFor setup old seen → Goes inside state next e answers → sent_reading setup (seen ++ e ∷ []) ≡ sent_reading setup seen ++ answers
pushed-grows setup inside state next old seen e answers view before step =
    let now = stands-in setup inside state old seen view before in
    let goes : Goes setup state next e answers = subst (λ (s : Settings). Goes s state next e answers) now.same_setup step in
    over-reads pulses_of (pulses_made state) (pulses_made next) (found setup) Hunting (AgreesState setup state) (AgreesState setup next) seen e answers [] now.stands goes.leads (made-none next) (state-waits setup next goes.valid)

-- each of those reports means something in the pulses of the edges and this one
pub pushed-means : (setup inside : Settings) (state next : State) (old : SentReader) (seen : List NumberedEdge) (e : NumberedEdge) (answers : List SentStep)
    → (inside, state) ≡ old → StandsFor setup old seen → Goes inside state next e answers → All (Means setup (pulses_of (seen ++ e ∷ []))) answers
pushed-means setup inside state next old seen e answers view before step =
    let pulses = pulses_of (seen ++ e ∷ []) in
    later_mean (Means setup pulses) (sent_reading setup (seen ++ e ∷ [])) (sent_reading setup seen) answers
    (pushed-grows setup inside state next old seen e answers view before step) (reports_mean setup pulses)

-- a reader that has seen no edge stands for no edge
pub fresh : (setup inside : Settings) → inside ≡ setup → StandsFor setup (inside, Fresh) []
fresh setup inside same = record { same_setup = same; stands = over-none pulses_of (found setup) Hunting (AgreesState setup Fresh) refl (refl, refl) }

-- a reader that forgets all stands for no edge
pub forgotten : (setup inside : Settings) (state : State) (old : SentReader) (seen : List NumberedEdge) → (inside, state) ≡ old → StandsFor setup old seen → StandsFor setup (inside, Fresh) []
forgotten setup inside state old seen view before = fresh setup inside (stands-in setup inside state old seen view before).same_setup
