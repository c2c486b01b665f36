-- A reader that has taken one edge more stands for one edge more.
use Rattle.std.proofs.Common.{◌≡◌, List, [], ◌∷◌, ◌++◌, refl, ap, subst, sym, ◌∙◌}
use Rattle.std.proofs.lemmas.List.Elements.{All-same}
use Rattle.std.specs.List.{All}
use Rattle.line_base.specs.Edges.{NumberedEdge}
use Rattle.line_base.proofs.Standing.{ends-so, reads-more, stands-more, stands-none}
use Rattle.spc_link.specs.declared.state.State.{State}
use Rattle.spc_link.specs.declared.state.State.TheVariants.{Fresh}
use Rattle.spc_link.specs.declared.reader.SpcReader.{SpcReader}
use Rattle.spc_link.specs.declared.step.SpcStep.{SpcStep}
use Rattle.spc_link.specs.Setup.{Settings}
use Rattle.spc_link.specs.Reading.{found, spc_at_end, spc_ends, spc_reading}
use Rattle.spc_link.specs.Kept.{AgreesState, EdgeLeads, IsState, ends_of}
use Rattle.spc_link.specs.Readers.{StandsFor}
use Rattle.spc_link.specs.Transactions.{Means, MeansAtEnd}
use Rattle.spc_link.proofs.EdgeLeads.{state-waits}
use Rattle.spc_link.proofs.Meanings.{ends-mean, later-mean, reports-mean}

-- a state that the reader can have leads to another one
pub record Goes (s : Settings) (state next : State) (e : NumberedEdge) (answers : List SpcStep) : Type 0 where
  pub leads : EdgeLeads s state next e answers
  pub valid : IsState s next

stands_in : (setup inside : Settings) (state : State) (old : SpcReader) (seen : List NumberedEdge) → (inside, state) ≡ old → StandsFor setup old seen → StandsFor setup (inside, state) seen
stands_in setup inside state old seen view before = subst (λ (r : SpcReader). StandsFor setup r seen) (sym view) before

-- it stands for the edge as well
pub pushed : (setup inside : Settings) (state next : State) (old : SpcReader) (seen : List NumberedEdge) (e : NumberedEdge) (answers : List SpcStep)
    → (inside, state) ≡ old → StandsFor setup old seen → Goes inside state next e answers → StandsFor setup (inside, next) (seen ++ e ∷ [])
pushed setup inside state next old seen e answers view before step =
    let now = stands_in setup inside state old seen view before in
    let goes : Goes setup state next e answers = subst (λ (s : Settings). Goes s state next e answers) now.same_setup step in
    record {
      same_setup = now.same_setup;
      stands = stands-more (found setup) tt (AgreesState setup state) (AgreesState setup next) seen (e ∷ []) answers (ends_of next) now.stands goes.leads (state-waits setup next goes.valid);
    }

-- the reports grow by those that the edge leads to
pub pushed-grows : (setup inside : Settings) (state next : State) (old : SpcReader) (seen : List NumberedEdge) (e : NumberedEdge) (answers : List SpcStep)
    → (inside, state) ≡ old → StandsFor setup old seen → Goes inside state next e answers → spc_reading setup (seen ++ e ∷ []) ≡ spc_reading setup seen ++ answers
pushed-grows setup inside state next old seen e answers view before step =
    let now = stands_in setup inside state old seen view before in
    let goes : Goes setup state next e answers = subst (λ (s : Settings). Goes s state next e answers) now.same_setup step in
    reads-more (found setup) tt (AgreesState setup state) (AgreesState setup next) seen (e ∷ []) answers (ends_of next) now.stands goes.leads (state-waits setup next goes.valid)

-- each of those reports means something in the edges and this one
pub pushed-means : (setup inside : Settings) (state next : State) (old : SpcReader) (seen : List NumberedEdge) (e : NumberedEdge) (answers : List SpcStep)
    → (inside, state) ≡ old → StandsFor setup old seen → Goes inside state next e answers → All (Means setup (seen ++ e ∷ [])) answers
pushed-means setup inside state next old seen e answers view before step =
    later-mean (Means setup (seen ++ e ∷ [])) (spc_reading setup (seen ++ e ∷ [])) (spc_reading setup seen) answers
    (pushed-grows setup inside state next old seen e answers view before step) (reports-mean setup (seen ++ e ∷ []))

-- a reader that has seen no edge stands for no edge
pub fresh : (setup inside : Settings) → inside ≡ setup → StandsFor setup (inside, Fresh) []
fresh setup inside same = record { same_setup = same; stands = stands-none (found setup) tt (AgreesState setup Fresh) refl }

-- a reader that forgets all stands for no edge
pub forgotten : (setup inside : Settings) (state : State) (old : SpcReader) (seen : List NumberedEdge) → (inside, state) ≡ old → StandsFor setup old seen → StandsFor setup (inside, Fresh) []
forgotten setup inside state old seen view before = fresh setup inside (stands_in setup inside state old seen view before).same_setup

-- what the end adds is what the state says
ended_so : (setup inside : Settings) (state : State) (old : SpcReader) (seen : List NumberedEdge) (said : List SpcStep)
    → (inside, state) ≡ old → StandsFor setup old seen → IsState inside state → said ≡ ends_of state → spc_ends setup seen ≡ said
ended_so setup inside state old seen said view before valid ends =
    let now = stands_in setup inside state old seen view before in
    let valid_here : IsState setup state = subst (λ (s : Settings). IsState s state) now.same_setup valid in
    ends-so (found setup) tt (AgreesState setup state) seen (ends_of state) now.stands (state-waits setup state valid_here) ∙ sym ends

-- so the reports at the end are those so far and this
pub finished : (setup inside : Settings) (state : State) (old : SpcReader) (seen : List NumberedEdge) (said : List SpcStep)
    → (inside, state) ≡ old → StandsFor setup old seen → IsState inside state → said ≡ ends_of state → spc_at_end setup seen ≡ spc_reading setup seen ++ said
finished setup inside state old seen said view before valid ends = ap (λ l. spc_reading setup seen ++ l) (ended_so setup inside state old seen said view before valid ends)

-- and it means that a trigger has no answer
pub finished-means : (setup inside : Settings) (state : State) (old : SpcReader) (seen : List NumberedEdge) (said : List SpcStep)
    → (inside, state) ≡ old → StandsFor setup old seen → IsState inside state → said ≡ ends_of state → All (MeansAtEnd setup seen) said
finished-means setup inside state old seen said view before valid ends =
    All-same (MeansAtEnd setup seen) said (spc_ends setup seen) (sym (ended_so setup inside state old seen said view before valid ends)) (ends-mean setup seen)
