-- What a reader of slots stands for.
--     synced-stands      one sync pulse more
--     says-synced      whether there was a sync pulse
--     first-placed, first-stands      one start more, before the first sync pulse
--     later-placed, later-stands      one start more, behind a sync pulse
use Rattle.std.proofs.Common.{◌≡◌, ℕ, ◌-◌, Bool, false, Option, None, Some, is_some, List, [], ◌∷◌, ◌++◌, sym, subst, ◌∙◌, ap}
use Rattle.psi5_slots.specs.declared.placed.Placed.{Placed}
use Rattle.psi5_slots.specs.declared.placed.Placed.TheVariants.{Before}
use Rattle.psi5_slots.specs.declared.reader.SlotReader.{SlotReader}
use Rattle.psi5_slots.specs.Setup.{InRange, Settings}
use Rattle.psi5_slots.specs.History.{Event, has_sync, last_sync, offsets_from, placed_behind, placed_in, starts_since}
use Rattle.psi5_slots.specs.History.Event.{Sync, Start}
use Rattle.psi5_slots.specs.Kept.{AnsweredIn}
use Rattle.psi5_slots.specs.Readers.{StandsFor}
use Rattle.psi5_slots.proofs.Slots.{answered-none}
use Rattle.psi5_slots.proofs.Histories.{answered-start, has-last, last-start, last-sync, placed-after, placed-first, starts-sync}

-- a reader that is seen as its model
stands_as : (setup inside : Settings) (last : Option ℕ) (flags : List Bool) (old : SlotReader) (history : List Event) → (inside, last, flags) ≡ old → StandsFor setup old history → StandsFor setup (inside, last, flags) history
stands_as setup inside last flags old history view before = subst (λ (r : SlotReader). StandsFor setup r history) (sym view) before

pub synced-stands : (setup inside : Settings) (last : Option ℕ) (flags : List Bool) (old : SlotReader) (history : List Event) (time : ℕ) → InRange inside.windows inside.frame
    → (inside, last, flags) ≡ old → StandsFor setup old history
    → StandsFor setup (inside, Some time, false ∷ false ∷ false ∷ false ∷ false ∷ false ∷ false ∷ false ∷ []) (history ++ Sync time ∷ [])
synced-stands setup inside last flags old history time range view before =
    let same = (stands_as setup inside last flags old history view before).same_setup in
    record {
      same_setup = same;
      last = sym (last-sync history time);
      answered = rw (last-sync history time, starts-sync history time) (answered-none setup.frame setup.windows (rw same at range));
    }

pub says-synced : (setup inside : Settings) (last : Option ℕ) (flags : List Bool) (old : SlotReader) (history : List Event) → (inside, last, flags) ≡ old → StandsFor setup old history
    → is_some last ≡ has_sync history
says-synced setup inside last flags old history view before = ap is_some (stands_as setup inside last flags old history view before).last ∙ has-last history

-- ---- before the first sync pulse
pub first-placed : (setup inside : Settings) (last : Option ℕ) (flags : List Bool) (old : SlotReader) (history : List Event) (time : ℕ) → (inside, last, flags) ≡ old → last ≡ None → StandsFor setup old history
    → Before ≡ placed_in setup.windows history time
first-placed setup inside last flags old history time view none before =
    placed-first setup.windows history time (sym none ∙ (stands_as setup inside last flags old history view before).last)

pub first-stands : (setup inside : Settings) (last : Option ℕ) (flags : List Bool) (old : SlotReader) (history : List Event) (time : ℕ) → (inside, last, flags) ≡ old → last ≡ None → StandsFor setup old history
    → StandsFor setup old (history ++ Start time ∷ [])
first-stands setup inside last flags old history time view none before =
    let never : last_sync history ≡ None = sym (stands_as setup inside last flags old history view before).last ∙ none in
    record {
      same_setup = before.same_setup;
      last = before.last ∙ sym (last-start history time);
      answered = rw (last-start history time, never) tt;
    }

-- ---- behind a sync pulse
abbrev pub Places : Settings → List Bool → Placed → ℕ → Type 0
Places inside flags place offset = (earlier : List ℕ) → AnsweredIn inside.windows flags earlier → place ≡ placed_behind inside.windows earlier offset

abbrev pub Keeps : Settings → List Bool → List Bool → ℕ → Type 0
Keeps inside flags next offset = (earlier : List ℕ) → AnsweredIn inside.windows flags earlier → AnsweredIn inside.windows next (earlier ++ offset ∷ [])

pub later-placed : (setup inside : Settings) (last : Option ℕ) (flags : List Bool) (old : SlotReader) (history : List Event) (sync time : ℕ) (place : Placed) → (inside, last, flags) ≡ old → last ≡ Some sync
    → Places inside flags place (time - sync) → StandsFor setup old history → place ≡ placed_in setup.windows history time
later-placed setup inside last flags old history sync time place view some places before =
    let now = stands_as setup inside last flags old history view before in
    let is : Some sync ≡ last_sync history = sym some ∙ now.last in
    let answered = rw (sym is) at now.answered in
    rw now.same_setup at places (offsets_from sync (starts_since history)) answered ∙ placed-after setup.windows history sync time is

pub later-stands : (setup inside : Settings) (last : Option ℕ) (flags next : List Bool) (old : SlotReader) (history : List Event) (sync time : ℕ) → (inside, last, flags) ≡ old → last ≡ Some sync
    → Keeps inside flags next (time - sync) → StandsFor setup old history → StandsFor setup (inside, last, next) (history ++ Start time ∷ [])
later-stands setup inside last flags next old history sync time view some keeps before =
    let now = stands_as setup inside last flags old history view before in
    let is : Some sync ≡ last_sync history = sym some ∙ now.last in
    let answered = rw (sym is) at now.answered in
    let keeps-now = subst (λ (s : Settings). Keeps s flags next (time - sync)) now.same_setup keeps in
    record {
      same_setup = now.same_setup;
      last = now.last ∙ sym (last-start history time);
      answered = answered-start setup.windows next history sync time is (keeps-now (offsets_from sync (starts_since history)) answered);
    }
