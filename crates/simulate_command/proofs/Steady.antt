-- What a simulation has told and written stands whatever follows.
use Rattle.std.proofs.Common.{◌≡◌, ◌<◌, ◌^◌, ℕ, Option, Some, None, List, [], ◌++◌, refl, sym, ◌∙◌, ap, arith}
use Rattle.std.proofs.lemmas.List.{append-nil}
use Rattle.line_base.specs.Streams.{IsFrontOf}
use Rattle.line_base.specs.declared.faults.LineFault.{LineFault}
use Rattle.text_lines.specs.Inputs.{Numbered, input_limit}
use Rattle.text_lines.proofs.Stays.{lines_front, whole_front, no_lines}
use Rattle.receiver_core.specs.declared.message.Message.{Message}
use Rattle.receiver_core.specs.declared.setup.ChannelSetup.{ChannelSetup}
use Rattle.message_lines.specs.Inputs as lines
use Rattle.message_lines.specs.Inputs.{told_in, told_of, whole_told_of}
use Rattle.message_lines.proofs.Telling.{told_stays, whole_told_stays, told_more, whole_told_more}
use Rattle.sensor_sim.specs.Sims.{started_by}
use Rattle.sensor_sim.specs.Played.{played_from, wobble_of}
use Rattle.command_base.specs.Tasks.{IsSteady}
use Rattle.simulate_command.specs.Rows.{rows_of}
use Rattle.simulate_command.specs.Playing.{fault_played, messages_told}
use Rattle.simulate_command.specs.Simulations.{messages_of, whole_messages_of, edges_of, fault_of, whole_edges_of, whole_fault_of, simulation}
use Rattle.simulate_command.specs.Runs.{edges_by, fault_by}
use Rattle.simulate_command.proofs.Numbers.{within-limit}
use Rattle.simulate_command.proofs.Playing.{fault-stays, edges-stay, edges-front, no-fault}
use Rattle.simulate_command.proofs.WrittenRows.{rows-append, rows-none}

-- ---- the edges and the fault are those of what is told
pub edges-told : (setup : ChannelSetup) (seed : ℕ) (bytes : List ℕ) → edges_of setup seed bytes ≡ edges_by setup seed (told_of setup bytes)
unfolding edges_of messages_of
edges-told setup seed bytes = refl

pub whole_edges-told : (setup : ChannelSetup) (seed : ℕ) (bytes : List ℕ) → whole_edges_of setup seed bytes ≡ edges_by setup seed (whole_told_of setup bytes)
unfolding whole_edges_of whole_messages_of
whole_edges-told setup seed bytes = refl

pub fault-by : (setup : ChannelSetup) (seed : ℕ) (bytes : List ℕ) → fault_of setup seed bytes ≡ fault_by setup seed (told_of setup bytes)
unfolding fault_of
fault-by setup seed bytes = refl

pub whole_fault-by : (setup : ChannelSetup) (seed : ℕ) (bytes : List ℕ) → whole_fault_of setup seed bytes ≡ fault_by setup seed (whole_told_of setup bytes)
unfolding whole_fault_of
whole_fault-by setup seed bytes = refl

-- ---- what is told grows at its end
told_grows : (setup : ChannelSetup) (bytes more : List ℕ) (o : Option (ℕ × LineFault)) → lines.fault_of setup bytes ≡ o → IsFrontOf (told_of setup bytes) (told_of setup (bytes ++ more))
told_grows setup bytes more (Some fault) e = record { rest = []; is = told_stays setup bytes more fault e ∙ sym (append-nil (told_of setup bytes)) }
told_grows setup bytes more None e =
    let front = lines_front bytes more in
    record { rest = told_in setup front.rest; is = told_more setup bytes (bytes ++ more) front.rest e front.is }

pub told-grows : (setup : ChannelSetup) (bytes more : List ℕ) → IsFrontOf (told_of setup bytes) (told_of setup (bytes ++ more))
told-grows setup bytes more = told_grows setup bytes more (lines.fault_of setup bytes) refl

whole_grows : (setup : ChannelSetup) (bytes : List ℕ) (o : Option (ℕ × LineFault)) → lines.fault_of setup bytes ≡ o → IsFrontOf (told_of setup bytes) (whole_told_of setup bytes)
whole_grows setup bytes (Some fault) e = record { rest = []; is = whole_told_stays setup bytes fault e ∙ sym (append-nil (told_of setup bytes)) }
whole_grows setup bytes None e =
    let front = whole_front bytes in
    record { rest = told_in setup front.rest; is = whole_told_more setup bytes front.rest e front.is }

pub whole_told-grows : (setup : ChannelSetup) (bytes : List ℕ) → IsFrontOf (told_of setup bytes) (whole_told_of setup bytes)
whole_told-grows setup bytes = whole_grows setup bytes (lines.fault_of setup bytes) refl

-- no byte tells nothing
pub told-none : (setup : ChannelSetup) → told_of setup [] ≡ []
unfolding told_of told_in
told-none setup = ap (told_in setup) no_lines

-- ---- over what is told
module _ (setup : ChannelSetup) (seed : ℕ) (told later : List (Numbered Message)) (front : IsFrontOf told later) where
  fault_later : (fault : ℕ × LineFault) → fault_by setup seed told ≡ Some fault → fault_by setup seed later ≡ Some fault
  fault_later fault e = ap (fault_by setup seed) front.is ∙ fault-stays (started_by setup) (wobble_of seed) told front.rest fault e

  edges_later : (fault : ℕ × LineFault) → fault_by setup seed told ≡ Some fault → edges_by setup seed later ≡ edges_by setup seed told
  edges_later fault e = ap (edges_by setup seed) front.is ∙ edges-stay (started_by setup) (wobble_of seed) told front.rest fault e

  rows_later : IsFrontOf (rows_of (edges_by setup seed told)) (rows_of (edges_by setup seed later))
  rows_later =
      let edges = edges-front (started_by setup) (wobble_of seed) told front.rest in
      record { rest = rows_of edges.rest; is = ap (λ ts. rows_of (edges_by setup seed ts)) front.is ∙ ap rows_of edges.is ∙ rows-append (edges_by setup seed told) edges.rest }

-- lines without a fault have no fault of their own
pub lines-sound : (setup : ChannelSetup) (seed : ℕ) (bytes : List ℕ) → fault_by setup seed (told_of setup bytes) ≡ None → lines.fault_of setup bytes ≡ None
unfolding lines.fault_of
lines-sound setup seed bytes e = no-fault (started_by setup) (wobble_of seed) (told_of setup bytes) e

limit_is : input_limit < 2 ^ 36
unfolding input_limit
limit_is = omega arith

rows_same : (setup : ChannelSetup) (seed : ℕ) (bytes : List ℕ) → rows_of (edges_of setup seed bytes) ≡ rows_of (edges_by setup seed (told_of setup bytes))
rows_same setup seed bytes = ap rows_of (edges-told setup seed bytes)

whole_rows_same : (setup : ChannelSetup) (seed : ℕ) (bytes : List ℕ) → rows_of (whole_edges_of setup seed bytes) ≡ rows_of (edges_by setup seed (whole_told_of setup bytes))
whole_rows_same setup seed bytes = ap rows_of (whole_edges-told setup seed bytes)

front_same : (xs ys xs' ys' : List ℕ) → xs ≡ xs' → ys ≡ ys' → IsFrontOf xs' ys' → IsFrontOf xs ys
front_same xs ys xs' ys' e f front = record { rest = front.rest; is = f ∙ front.is ∙ ap (λ l. l ++ front.rest) (sym e) }

no_edges : (setup : ChannelSetup) (seed : ℕ) → edges_by setup seed [] ≡ []
unfolding played_from messages_told
no_edges setup seed = refl

nothing_wrong : (setup : ChannelSetup) (seed : ℕ) → fault_by setup seed [] ≡ None
unfolding fault_played
nothing_wrong setup seed = refl

-- no byte has no fault
pub fault-none : (setup : ChannelSetup) (seed : ℕ) → fault_of setup seed [] ≡ None
fault-none setup seed = fault-by setup seed [] ∙ ap (fault_by setup seed) (told-none setup) ∙ nothing_wrong setup seed

-- the simulation's faults end an input, and what was written of some bytes stands
pub simulation-steady : (setup : ChannelSetup) (seed : ℕ) → IsSteady (simulation setup seed)
simulation-steady setup seed = record {
  nothing = rows_same setup seed [] ∙ ap (λ ts. rows_of (edges_by setup seed ts)) (told-none setup) ∙ ap rows_of (no_edges setup seed) ∙ rows-none;
  few = λ bytes none. (let within = within-limit setup bytes (lines-sound setup seed bytes (sym (fault-by setup seed bytes) ∙ none)) in let limit = limit_is in omega (arith, within, limit));
  fault_stays = λ bytes more fault e. fault-by setup seed (bytes ++ more) ∙ fault_later setup seed (told_of setup bytes) (told_of setup (bytes ++ more)) (told-grows setup bytes more) fault (sym (fault-by setup seed bytes) ∙ e);
  text_stays = λ bytes more fault e.
      rows_same setup seed (bytes ++ more) ∙ ap rows_of (edges_later setup seed (told_of setup bytes) (told_of setup (bytes ++ more)) (told-grows setup bytes more) fault (sym (fault-by setup seed bytes) ∙ e)) ∙ sym (rows_same setup seed bytes);
  whole_fault_stays = λ bytes fault e. whole_fault-by setup seed bytes ∙ fault_later setup seed (told_of setup bytes) (whole_told_of setup bytes) (whole_told-grows setup bytes) fault (sym (fault-by setup seed bytes) ∙ e);
  whole_text_stays = λ bytes fault e.
      whole_rows_same setup seed bytes ∙ ap rows_of (edges_later setup seed (told_of setup bytes) (whole_told_of setup bytes) (whole_told-grows setup bytes) fault (sym (fault-by setup seed bytes) ∙ e)) ∙ sym (rows_same setup seed bytes);
  grows = λ bytes more. front_same _ _ _ _ (rows_same setup seed bytes) (rows_same setup seed (bytes ++ more)) (rows_later setup seed (told_of setup bytes) (told_of setup (bytes ++ more)) (told-grows setup bytes more));
  whole_grows = λ bytes. front_same _ _ _ _ (rows_same setup seed bytes) (whole_rows_same setup seed bytes) (rows_later setup seed (told_of setup bytes) (whole_told_of setup bytes) (whole_told-grows setup bytes));
}
