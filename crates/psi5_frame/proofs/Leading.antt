-- One edge more, from each state of a reader.
--     leads-opened      the first edge of all
--     leads-skipped, leads-extended      an edge that goes on with the burst of the edge before it
--     leads-begun-skipping, leads-begun-open      an edge that begins a burst
--     ended-none, ended-open      the burst that isn't complete at the end
use Rattle.std.proofs.Common.{◌≡◌, ℕ, ◌-◌, true, false, ◌||◌, Option, None, Some, option_to_list, List, [], ◌∷◌, ◌++◌, refl, sym, ◌∙◌, ap, ap₂, append_assoc, append-nil}
use Rattle.line_base.specs.Edges.{NumberedEdge}
use Rattle.link_math.specs.Manchester.{halves_in}
use Rattle.psi5_frame.specs.declared.burst.Burst.{Burst}
use Rattle.psi5_frame.specs.declared.burst.BurstStep.{BurstStep}
use Rattle.psi5_frame.specs.declared.open.OpenBurst.{OpenBurst}
use Rattle.psi5_frame.specs.declared.reader.State.{State}
use Rattle.psi5_frame.specs.declared.reader.State.TheVariants.{Fresh, Skipping, Open}
use Rattle.psi5_frame.specs.Intervals.{is_quiet}
use Rattle.psi5_frame.specs.Setup.{Settings, bit_count}
use Rattle.psi5_frame.specs.Edges.{Change, change_at, changes_of, changes_after}
use Rattle.psi5_frame.specs.Bursts.{begins, has_start, judged, complete_bursts, all_bursts, starts_in}
use Rattle.psi5_frame.specs.Kept.{Agrees, AgreesWith, EndsInBurst, Leads, began_at, next_changes, nothing}
use Rattle.psi5_frame.proofs.Runs.{no_bursts, complete-open, all-open, complete-start, starts-append, starts-start, has_start-append, has_start-loud, no_start}

-- ---- the end
pub ended-none : (s : Settings) (seen : List Change) → has_start seen ≡ false → all_bursts s seen ≡ complete_bursts s seen ++ []
ended-none s seen none = (no_bursts s seen none).all ∙ sym (ap (λ l. l ++ []) (no_bursts s seen none).complete)

pub ended-fresh : (s : Settings) (seen : List Change) → seen ≡ [] → all_bursts s seen ≡ complete_bursts s seen ++ []
ended-fresh s seen none = ended-none s seen (ap has_start none ∙ no_start)

pub ended-open : (s : Settings) (burst : OpenBurst) (said : Burst) (seen : List Change) → EndsInBurst (bit_count s) burst seen
    → ((first : Change) (later : List Change) → Agrees (bit_count s) burst first later → said ≡ judged s first later)
    → all_bursts s seen ≡ complete_bursts s seen ++ said ∷ []
ended-open s burst said seen e says =
    ap (all_bursts s) e.stands ∙ all-open s e.before e.first e.later e.starts e.goes_on
    ∙ ap₂ (λ l b. l ++ b ∷ []) (sym (ap (complete_bursts s) e.stands ∙ complete-open s e.before e.first e.later e.starts e.goes_on)) (sym (says e.first e.later e.agrees))

-- ---- one change more
-- one more change leads to this answer, and what is kept then agrees
record Changed (s : Settings) (next : State) (edge : Change) (seen : List Change) (step : BurstStep) : Type 0 where
  agreed : AgreesWith s next (seen ++ edge ∷ [])
  grows : complete_bursts s (seen ++ edge ∷ []) ≡ complete_bursts s seen ++ option_to_list step.ended
  began : starts_in (seen ++ edge ∷ []) ≡ starts_in seen ++ began_at edge.number step

begun : (s : Settings) (time : ℕ) (burst : OpenBurst) (edge : Change) (seen : List Change) (ended : Option Burst) → begins edge ≡ true → Agrees (bit_count s) burst edge []
    → all_bursts s seen ≡ complete_bursts s seen ++ option_to_list ended → Changed s (Open time burst) edge seen (record { ended = ended; began = true })
begun s time burst edge seen ended starts agrees says = record {
  agreed = record { before = seen; first = edge; later = []; stands = refl; starts = starts; goes_on = no_start; agrees = agrees };
  grows = complete-start s seen edge starts ∙ says;
  began = starts-append seen (edge ∷ []) ∙ ap (λ l. starts_in seen ++ l) (starts-start edge starts);
}

still_none : (seen : List Change) (edge : Change) → begins edge ≡ false → has_start seen ≡ false → has_start (seen ++ edge ∷ []) ≡ false
still_none seen edge loud none = has_start-append seen (edge ∷ []) ∙ ap₂ (λ a b. a || b) none (has_start-loud edge loud)

no_start_more : (s : Settings) (seen : List Change) (edge : Change) → begins edge ≡ false → starts_in (seen ++ edge ∷ []) ≡ starts_in seen ++ []
no_start_more s seen edge loud = starts-append seen (edge ∷ []) ∙ ap (λ l. starts_in seen ++ l) (no_bursts s (edge ∷ []) (has_start-loud edge loud)).starts

skipped : (s : Settings) (time : ℕ) (edge : Change) (seen : List Change) → begins edge ≡ false → has_start seen ≡ false → Changed s (Skipping time) edge seen nothing
skipped s time edge seen loud none = record {
  agreed = still_none seen edge loud none;
  grows = (no_bursts s (seen ++ edge ∷ []) (still_none seen edge loud none)).complete ∙ sym (ap (λ l. l ++ []) (no_bursts s seen none).complete);
  began = no_start_more s seen edge loud;
}

extended : (s : Settings) (time : ℕ) (old new : OpenBurst) (edge : Change) (seen : List Change) → begins edge ≡ false → EndsInBurst (bit_count s) old seen
    → ((first : Change) (later : List Change) → Agrees (bit_count s) old first later → Agrees (bit_count s) new first (later ++ edge ∷ []))
    → Changed s (Open time new) edge seen nothing
extended s time old new edge seen loud e agrees =
    let longer = e.later ++ edge ∷ [] in
    let whole : seen ++ edge ∷ [] ≡ e.before ++ e.first ∷ longer = ap (λ l. l ++ edge ∷ []) e.stands ∙ append_assoc e.before (e.first ∷ e.later) (edge ∷ []) in
    let quiet : has_start longer ≡ false = still_none e.later edge loud e.goes_on in
    record {
      agreed = record { before = e.before; first = e.first; later = longer; stands = whole; starts = e.starts; goes_on = quiet; agrees = agrees e.first e.later e.agrees };
      grows = ap (complete_bursts s) whole ∙ complete-open s e.before e.first longer e.starts quiet
          ∙ sym (ap (λ l. l ++ []) (ap (complete_bursts s) e.stands ∙ complete-open s e.before e.first e.later e.starts e.goes_on) ∙ append-nil (all_bursts s e.before));
      began = no_start_more s seen edge loud;
    }

-- ---- one edge more
pub leads-opened : (s : Settings) (e : NumberedEdge) (seen : List Change) → seen ≡ [] → Leads s Fresh (Skipping e.edge.time) e seen nothing
unfolding next_changes changes_of has_start
leads-opened s e seen none = record {
  arrived = [];
  measured = λ edges. refl;
  agreed = ap has_start (append-nil seen ∙ none);
  grows = ap (complete_bursts s) (append-nil seen) ∙ sym (append-nil (complete_bursts s seen));
  began = ap starts_in (append-nil seen) ∙ sym (append-nil (starts_in seen));
}

pub leads-skipped : (s : Settings) (before : ℕ) (e : NumberedEdge) (seen : List Change) → is_quiet (halves_in (e.edge.time - before) s.bit) ≡ false → has_start seen ≡ false
    → Leads s (Skipping before) (Skipping e.edge.time) e seen nothing
unfolding next_changes changes_after
leads-skipped s before e seen loud none =
    let edge = change_at s.bit before e in
    let h = skipped s e.edge.time edge seen loud none in
    record { arrived = edge ∷ []; measured = λ edges. refl; agreed = h.agreed; grows = h.grows; began = h.began }

pub leads-extended : (s : Settings) (before : ℕ) (old new : OpenBurst) (e : NumberedEdge) (seen : List Change) → is_quiet (halves_in (e.edge.time - before) s.bit) ≡ false → EndsInBurst (bit_count s) old seen
    → ((first : Change) (later : List Change) → Agrees (bit_count s) old first later → Agrees (bit_count s) new first (later ++ change_at s.bit before e ∷ []))
    → Leads s (Open before old) (Open e.edge.time new) e seen nothing
unfolding next_changes changes_after
leads-extended s before old new e seen loud ends agrees =
    let edge = change_at s.bit before e in
    let h = extended s e.edge.time old new edge seen loud ends agrees in
    record { arrived = edge ∷ []; measured = λ edges. refl; agreed = h.agreed; grows = h.grows; began = h.began }

pub leads-begun-skipping : (s : Settings) (before : ℕ) (burst : OpenBurst) (e : NumberedEdge) (seen : List Change) → is_quiet (halves_in (e.edge.time - before) s.bit) ≡ true → has_start seen ≡ false
    → Agrees (bit_count s) burst (change_at s.bit before e) [] → Leads s (Skipping before) (Open e.edge.time burst) e seen (record { ended = None; began = true })
unfolding next_changes changes_after
leads-begun-skipping s before burst e seen quiet none agrees =
    let edge = change_at s.bit before e in
    let h = begun s e.edge.time burst edge seen None quiet agrees (ended-none s seen none) in
    record { arrived = edge ∷ []; measured = λ edges. refl; agreed = h.agreed; grows = h.grows; began = h.began }

pub leads-begun-open : (s : Settings) (before : ℕ) (old burst : OpenBurst) (said : Burst) (e : NumberedEdge) (seen : List Change) → is_quiet (halves_in (e.edge.time - before) s.bit) ≡ true
    → EndsInBurst (bit_count s) old seen → ((first : Change) (later : List Change) → Agrees (bit_count s) old first later → said ≡ judged s first later)
    → Agrees (bit_count s) burst (change_at s.bit before e) [] → Leads s (Open before old) (Open e.edge.time burst) e seen (record { ended = Some said; began = true })
unfolding next_changes changes_after
leads-begun-open s before old burst said e seen quiet ends says agrees =
    let edge = change_at s.bit before e in
    let h = begun s e.edge.time burst edge seen (Some said) quiet agrees (ended-open s old said seen ends says) in
    record { arrived = edge ∷ []; measured = λ edges. refl; agreed = h.agreed; grows = h.grows; began = h.began }
