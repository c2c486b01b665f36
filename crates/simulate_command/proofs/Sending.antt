-- A message that is sent, and the rows of its edges.
use Rattle.std.proofs.Common.{◌≡◌, ℕ, ◌+◌, ◌<◌, Bool, append-nil, Option, Some, None, Ok, Err, List, [], ◌∷◌, ◌++◌, All, map, sym, ◌∙◌, ap, subst}
use Rattle.std.specs.Io.KnownBytes.{Appends}
use Rattle.std.proofs.lemmas.List.Elements.{All-nil, All-cons, All-tail, All-contains}
use Rattle.rand_pcg.specs.Lcg.{Lcg}
use Rattle.line_base.specs.Orderly.{IsOrderly, IsOrderlyFrom}
use Rattle.line_base.specs.Streams.{AppendsFront}
use Rattle.line_base.specs.declared.edge.Edge.{Edge}
use Rattle.line_base.specs.declared.edge.Item.TheVariants as Item
use Rattle.line_base.specs.declared.faults.LineFault.{LineFault}
use Rattle.text_lines.specs.Inputs.{Numbered}
use Rattle.receiver_core.specs.declared.message.Message.{Message}
use Rattle.receiver_core.specs.declared.setup.ChannelSetup.{ChannelSetup}
use Rattle.sim_base.specs.declared.sim_fault.SimFault.{SimFault}
use Rattle.sim_base.specs.Outcomes.{Sent, Refused}
use Rattle.sensor_sim.specs.Sims.{SimState, sim_next, started_by, lines_of}
use Rattle.sensor_sim.specs.Played.{wobble_of}
use Rattle.command_base.specs.Grown.{GrowsAlong, GrowsTowards}
use Rattle.command_base.proofs.Growing.{grows-by, towards-by, grows-nothing}
use Rattle.simulate_command.specs.declared.run.Run.{Run}
use Rattle.simulate_command.specs.Rows.{rows_of, IsTellable}
use Rattle.simulate_command.specs.Playing.{fault_told, edges_played, messages_told}
use Rattle.simulate_command.specs.Runs.{HasSent, SentOne, edges_by, fault_by}
use Rattle.simulate_command.proofs.Playing.{plays-more, edges-sent, refused-fault, refused-edges, line-fault, line-edges}
use Rattle.simulate_command.proofs.WrittenRows.{rows-append}

-- orderly edges of such lines can be told by rows
all_tellable : (lines : List ℕ) (number time : ℕ) (levels : ℕ → Option Bool) (edges : List Edge) → All (λ line. line < 16) lines → IsOrderlyFrom lines number time levels (map Item.Edge edges) → All IsTellable edges
unfolding IsOrderlyFrom
all_tellable lines number time levels [] low orderly = All-nil IsTellable
all_tellable lines number time levels (edge ∷ edges) low orderly =
    All-cons IsTellable edge edges (record { line = All-contains (λ line. line < 16) lines edge.line low orderly.0.on_a_line; time = orderly.0.in_range }) (all_tellable lines (number + 1) edge.time _ edges low orderly.1)

tellable_edges : (lines : List ℕ) (edges : List Edge) → All (λ line. line < 16) lines → IsOrderly lines (map Item.Edge edges) → All IsTellable edges
unfolding IsOrderly
tellable_edges lines edges low orderly = all_tellable lines 0 0 (λ _. None) edges low orderly

all_behind : (front edges : List Edge) → All IsTellable (front ++ edges) → All IsTellable edges
all_behind [] edges all = all
all_behind (edge ∷ front) edges all = all_behind front edges (All-tail IsTellable edge (front ++ edges) all)

module _ (setup : ChannelSetup) (seed : ℕ) (run : Run) (told : List (Numbered Message)) (before : HasSent setup seed run told) where
  -- the edges of the next message
  pub sent-tellable : (message : Message) (edges : List Edge) (behind : SimState) (later : Lcg) → Sent edges behind later ≡ sim_next run.sim message run.wobble → All IsTellable edges
  sent-tellable message edges behind later e =
      let first = started_by setup in
      let g = wobble_of seed in
      let one = (0, Ok message) ∷ [] in
      let plays = plays-more first g run.sim run.wobble told before.plays 0 message edges behind later (sym e) in
      let grown = edges-sent first g run.sim run.wobble told before.plays 0 message edges behind later (sym e) in
      let orderly = before.orderly behind (messages_told (told ++ one)) (edges_played first g (told ++ one)) plays.ran in
      all_behind (edges_by setup seed told) edges (subst (λ (es : List Edge). All IsTellable es) grown (tellable_edges (lines_of setup) (edges_by setup seed (told ++ one)) before.low orderly))

  sent_rows : (number : ℕ) (message : Message) (edges : List Edge) (behind : SimState) (later : Lcg) → Sent edges behind later ≡ sim_next run.sim message run.wobble
      → rows_of (edges_by setup seed (told ++ (number, Ok message) ∷ [])) ≡ rows_of (edges_by setup seed told) ++ rows_of edges
  sent_rows number message edges behind later e =
      ap rows_of (edges-sent (started_by setup) (wobble_of seed) run.sim run.wobble told before.plays number message edges behind later (sym e)) ∙ rows-append (edges_by setup seed told) edges

  -- a message was sent, and its rows were put
  pub sent-one : (new : Run) (number : ℕ) (message : Message) (edges : List Edge) (got got' : Option (List ℕ)) → Sent edges new.sim new.wobble ≡ sim_next run.sim message run.wobble → Appends got got' (rows_of edges)
      → SentOne setup seed new got got' told (told ++ (number, Ok message) ∷ [])
  sent-one new number message edges got got' e appended = record {
    sent = record { orderly = before.orderly; low = before.low; plays = plays-more (started_by setup) (wobble_of seed) run.sim run.wobble told before.plays number message edges new.sim new.wobble (sym e) };
    grows = grows-by got got' (rows_of (edges_by setup seed told)) (rows_of (edges_by setup seed (told ++ (number, Ok message) ∷ []))) (rows_of edges) (sent_rows number message edges new.sim new.wobble e) appended;
  }

  -- or a front of them
  pub cut-one : (number : ℕ) (message : Message) (edges : List Edge) (behind : SimState) (later : Lcg) (got got' : Option (List ℕ)) → Sent edges behind later ≡ sim_next run.sim message run.wobble → AppendsFront got got' (rows_of edges)
      → GrowsTowards got got' (rows_of (edges_by setup seed told)) (rows_of (edges_by setup seed (told ++ (number, Ok message) ∷ [])))
  cut-one number message edges behind later got got' e cut =
      towards-by got got' (rows_of (edges_by setup seed told)) (rows_of (edges_by setup seed (told ++ (number, Ok message) ∷ []))) (rows_of edges) (sent_rows number message edges behind later e) cut

  grows_same : (got : Option (List ℕ)) (later : List (Numbered Message)) → edges_by setup seed later ≡ edges_by setup seed told → GrowsAlong got got (rows_of (edges_by setup seed told)) (rows_of (edges_by setup seed later))
  grows_same got later e = subst (λ (es : List Edge). GrowsAlong got got (rows_of (edges_by setup seed told)) (rows_of es)) (sym e) (grows-nothing got (rows_of (edges_by setup seed told)))

  -- a message was refused
  pub refused-one : (number : ℕ) (message : Message) (own : SimFault) (fault : LineFault) (behind : SimState) (later : Lcg) (got : Option (List ℕ)) → Refused own behind later ≡ sim_next run.sim message run.wobble → fault ≡ fault_told own
      → (fault_by setup seed (told ++ (number, Ok message) ∷ []) ≡ Some (number, fault)) × GrowsAlong got got (rows_of (edges_by setup seed told)) (rows_of (edges_by setup seed (told ++ (number, Ok message) ∷ [])))
  refused-one number message own fault behind later got e same = (
    refused-fault (started_by setup) (wobble_of seed) run.sim run.wobble told before.plays number message own behind later (sym e) ∙ ap (λ f. Some (number, f)) (sym same),
    grows_same got (told ++ (number, Ok message) ∷ []) (refused-edges (started_by setup) (wobble_of seed) run.sim run.wobble told before.plays number message own behind later (sym e)),
  )

  -- a line has a fault
  pub faulty-one : (number : ℕ) (fault : LineFault) (got : Option (List ℕ))
      → (fault_by setup seed (told ++ (number, Err fault) ∷ []) ≡ Some (number, fault)) × GrowsAlong got got (rows_of (edges_by setup seed told)) (rows_of (edges_by setup seed (told ++ (number, Err fault) ∷ [])))
  faulty-one number fault got = (
    line-fault (started_by setup) (wobble_of seed) run.sim run.wobble told before.plays number fault,
    grows_same got (told ++ (number, Err fault) ∷ []) (line-edges (started_by setup) (wobble_of seed) run.sim run.wobble told before.plays number fault),
  )

  -- nothing is told
  pub told-nothing : HasSent setup seed run (told ++ [])
  told-nothing = subst (λ (ts : List (Numbered Message)). HasSent setup seed run ts) (sym (append-nil told)) before
