-- What a PSI5 channel is made of, by its setup.
--     free-place      no slots
--     where-on, where-synced      a sync line
--     has-codes, right-repeats      initialisations
use Rattle.std.proofs.Common.{◌≡◌, ℕ, Bool, true, false, ◌||◌, not, nat_eq, nat_lt, Option, None, Some, List, refl}
use Rattle.line_base.specs.Edges.{NumberedEdge}
use Rattle.psi5_frame.specs.Setup.{Settings}
use Rattle.receiver_core.specs.declared.setup.SyncSlots.{SyncSlots}
use Rattle.receiver_core.specs.declared.psi5_burst.BurstPlace.TheVariants as place
use Rattle.receiver_core.specs.declared.sync_line.SyncLine.{SyncLine}
use Rattle.receiver_core.specs.Setups.{are_wrong_repeats}
use Rattle.receiver_core.specs.Psi5Places.{is_on_sync, burst_place}
use Rattle.receiver_core.specs.Psi5Stretches.{LineStandsFor, SyncStandsFor, HasCodes}

-- without a sync line a burst asks for no slot
pub free-place : (s : Settings) (slots : Option SyncSlots) (seen : List NumberedEdge) (e : NumberedEdge) → SyncStandsFor s slots None seen → place.Free ≡ burst_place s slots seen e
unfolding burst_place
free-place s None seen e stands = refl
free-place s (Some slots) seen e stands = absurd stands

-- an edge is on the line where the line says so
pub where-on : (s : Settings) (slots : Option SyncSlots) (sync : SyncLine) (seen : List NumberedEdge) (e : NumberedEdge) (on : Bool) → SyncStandsFor s slots (Some sync) seen
    → ((line : SyncSlots) → LineStandsFor s line sync seen → on ≡ is_on_sync (Some line) e) → on ≡ is_on_sync slots e
where-on s None sync seen e on stands says = absurd stands
where-on s (Some line) sync seen e on stands says = says line stands

-- and then the line stands for it
pub where-synced : (s : Settings) (slots : Option SyncSlots) (old new : SyncLine) (seen after : List NumberedEdge) (e : NumberedEdge) → SyncStandsFor s slots (Some old) seen
    → ((line : SyncSlots) → LineStandsFor s line old seen → LineStandsFor s line new after) → SyncStandsFor s slots (Some new) after
where-synced s None old new seen after e stands more = absurd stands
where-synced s (Some line) old new seen after e stands more = more line stands

or-parts : (a b c : Bool) → (a || b || c) ≡ false → (a ≡ false) × (b ≡ false) × (c ≡ false)
or-parts true b c h = absurd cc
or-parts false true c h = absurd cc
or-parts false false c h = (refl, refl, h)

yes : (b : Bool) → not b ≡ false → b ≡ true
yes true h = refl
yes false h = absurd cc

-- an initialisation is read of codes
pub has-codes : (s : Settings) (repeats : Option ℕ) → are_wrong_repeats s repeats ≡ false → HasCodes s repeats
has-codes s None right = tt
has-codes s (Some repeats) right = yes (nat_eq s.parts.a 10) ((or-parts (nat_lt repeats 1) (nat_lt 16 repeats) (not (nat_eq s.parts.a 10)) right).2)
