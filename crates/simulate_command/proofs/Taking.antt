-- Bytes that are taken, and the end of the input.
use Rattle.std.proofs.Common.{◌≡◌, ℕ, ◌+◌, ◌<◌, ◌≤◌, Option, Some, None, Result, Ok, Err, List, [], ◌∷◌, ◌++◌, length, take, drop, get_or, refl, sym, ◌∙◌, ap, subst, append-nil, append_assoc}
use Rattle.std.proofs.lemmas.List.{take_more, take_all, drop_more, take-append-drop}
use Rattle.line_base.specs.declared.faults.LineFault.{LineFault}
use Rattle.line_base.specs.declared.reason.Reason.{Reason}
use Rattle.line_base.specs.declared.reason.Reason.TheVariants as reason
use Rattle.text_lines.specs.Inputs.{Numbered}
use Rattle.receiver_core.specs.declared.message.Message.{Message}
use Rattle.receiver_core.specs.declared.setup.ChannelSetup.{ChannelSetup}
use Rattle.message_lines.specs.Inputs as lines
use Rattle.message_lines.specs.Inputs.{told_of, whole_told_of, answers_of, whole_answers_of, line_number_of}
use Rattle.message_lines.specs.Readers.{StandsFor}
use Rattle.message_lines.specs.declared.reader.MessageReader.{MessageReader}
use Rattle.command_base.specs.Grown.{GrowsAlong, GrowsTowards}
use Rattle.command_base.specs.Parts.{Stopped, Finished}
use Rattle.command_base.proofs.Growing.{grows-nothing, grows-twice}
use Rattle.command_base.proofs.Pulls.{stopped-behind}
use Rattle.simulate_command.specs.declared.run.Run.{Run}
use Rattle.simulate_command.specs.declared.run.Stop.TheVariants as stop
use Rattle.simulate_command.specs.Rows.{rows_of}
use Rattle.simulate_command.specs.Simulations.{edges_of, fault_of, whole_edges_of, whole_fault_of, simulation}
use Rattle.simulate_command.specs.Runs.{HasSent, Reads, SentOne, StoppedBy, Took, edges_by, fault_by}
use Rattle.simulate_command.proofs.Numbers.{answers_sound, numbered, told-byte, told-end, told-fault, still-sound}
use Rattle.simulate_command.proofs.Steady.{edges-told, whole_edges-told, fault-by, whole_fault-by, lines-sound, simulation-steady}
use Rattle.simulate_command.proofs.Sending.{faulty-one}

-- the same sensor and wobble, beside another reader
pub sent-beside : (setup : ChannelSetup) (seed : ℕ) (run new : Run) (told : List (Numbered Message)) → new.sim ≡ run.sim → new.wobble ≡ run.wobble → HasSent setup seed run told → HasSent setup seed new told
sent-beside setup seed run new told sim wobble before = record { orderly = before.orderly; low = before.low; plays = rw (sim, wobble) before.plays }

sent_of : (setup : ChannelSetup) (seed : ℕ) (run : Run) (told later : List (Numbered Message)) → later ≡ told → HasSent setup seed run told → HasSent setup seed run later
sent_of setup seed run told later e before = subst (λ (ts : List (Numbered Message)). HasSent setup seed run ts) (sym e) before

module _ (setup : ChannelSetup) (seed : ℕ) where
  rows_told : (bytes : List ℕ) → rows_of (edges_of setup seed bytes) ≡ rows_of (edges_by setup seed (told_of setup bytes))
  rows_told bytes = ap rows_of (edges-told setup seed bytes)

  grows_text : (got got' : Option (List ℕ)) (bytes later : List ℕ) (told : List (Numbered Message)) → told_of setup later ≡ told → GrowsAlong got got' (rows_of (edges_by setup seed (told_of setup bytes))) (rows_of (edges_by setup seed told))
      → GrowsAlong got got' (rows_of (edges_of setup seed bytes)) (rows_of (edges_of setup seed later))
  grows_text got got' bytes later told e grows =
      subst (λ (t : List ℕ). GrowsAlong got got' t (rows_of (edges_of setup seed later))) (sym (rows_told bytes))
      (subst (λ (t : List ℕ). GrowsAlong got got' (rows_of (edges_by setup seed (told_of setup bytes))) t) (sym (rows_told later ∙ ap (λ ts. rows_of (edges_by setup seed ts)) e)) grows)

  towards_text : (got got' : Option (List ℕ)) (bytes later : List ℕ) (told : List (Numbered Message)) → told_of setup later ≡ told → GrowsTowards got got' (rows_of (edges_by setup seed (told_of setup bytes))) (rows_of (edges_by setup seed told))
      → GrowsTowards got got' (rows_of (edges_of setup seed bytes)) (rows_of (edges_of setup seed later))
  towards_text got got' bytes later told e grows =
      subst (λ (t : List ℕ). GrowsTowards got got' t (rows_of (edges_of setup seed later))) (sym (rows_told bytes))
      (subst (λ (t : List ℕ). GrowsTowards got got' (rows_of (edges_by setup seed (told_of setup bytes))) t) (sym (rows_told later ∙ ap (λ ts. rows_of (edges_by setup seed ts)) e)) grows)

  fault_text : (later : List ℕ) (told : List (Numbered Message)) (fault : ℕ × LineFault) → told_of setup later ≡ told → fault_by setup seed told ≡ Some fault → fault_of setup seed later ≡ Some fault
  fault_text later told fault e found = fault-by setup seed later ∙ ap (fault_by setup seed) e ∙ found

  -- ---- the same of a whole input
  whole_rows_told : (bytes : List ℕ) → rows_of (whole_edges_of setup seed bytes) ≡ rows_of (edges_by setup seed (whole_told_of setup bytes))
  whole_rows_told bytes = ap rows_of (whole_edges-told setup seed bytes)

  whole_grows : (got got' : Option (List ℕ)) (bytes : List ℕ) (told : List (Numbered Message)) → whole_told_of setup bytes ≡ told → GrowsAlong got got' (rows_of (edges_by setup seed (told_of setup bytes))) (rows_of (edges_by setup seed told))
      → GrowsAlong got got' (rows_of (edges_of setup seed bytes)) (rows_of (whole_edges_of setup seed bytes))
  whole_grows got got' bytes told e grows =
      subst (λ (t : List ℕ). GrowsAlong got got' t (rows_of (whole_edges_of setup seed bytes))) (sym (rows_told bytes))
      (subst (λ (t : List ℕ). GrowsAlong got got' (rows_of (edges_by setup seed (told_of setup bytes))) t) (sym (whole_rows_told bytes ∙ ap (λ ts. rows_of (edges_by setup seed ts)) e)) grows)

  whole_towards : (got got' : Option (List ℕ)) (bytes : List ℕ) (told : List (Numbered Message)) → whole_told_of setup bytes ≡ told → GrowsTowards got got' (rows_of (edges_by setup seed (told_of setup bytes))) (rows_of (edges_by setup seed told))
      → GrowsTowards got got' (rows_of (edges_of setup seed bytes)) (rows_of (whole_edges_of setup seed bytes))
  whole_towards got got' bytes told e grows =
      subst (λ (t : List ℕ). GrowsTowards got got' t (rows_of (whole_edges_of setup seed bytes))) (sym (rows_told bytes))
      (subst (λ (t : List ℕ). GrowsTowards got got' (rows_of (edges_by setup seed (told_of setup bytes))) t) (sym (whole_rows_told bytes ∙ ap (λ ts. rows_of (edges_by setup seed ts)) e)) grows)

  whole_fault_text : (bytes : List ℕ) (told : List (Numbered Message)) (o : Option (ℕ × LineFault)) → whole_told_of setup bytes ≡ told → fault_by setup seed told ≡ o → whole_fault_of setup seed bytes ≡ o
  whole_fault_text bytes told o e found = whole_fault-by setup seed bytes ∙ ap (fault_by setup seed) e ∙ found

  -- ---- one more byte
  module _ (run : Run) (bytes : List ℕ) (before : Reads setup seed run bytes) where
    no_line_fault : lines.fault_of setup bytes ≡ None
    no_line_fault = lines-sound setup seed bytes before.sent.plays.sound

    told_more : (byte : ℕ) (answers : List (Result Message LineFault)) → answers_of setup (bytes ++ byte ∷ []) ≡ answers_of setup bytes ++ answers → answers_sound answers → told_of setup (bytes ++ byte ∷ []) ≡ told_of setup bytes ++ numbered (line_number_of setup (bytes ++ byte ∷ [])) answers
    told_more byte answers grows sound = told-byte setup bytes byte answers no_line_fault (still-sound setup bytes byte answers no_line_fault grows sound) grows

    -- the byte ends no message
    pub took-nothing : (byte : ℕ) (new : Run) (got : Option (List ℕ)) → new.sim ≡ run.sim → new.wobble ≡ run.wobble → StandsFor setup new.reader (bytes ++ byte ∷ []) → answers_of setup (bytes ++ byte ∷ []) ≡ answers_of setup bytes ++ []
        → Took setup seed new got got bytes (bytes ++ byte ∷ [])
    took-nothing byte new got sim wobble stands grows =
        let same : told_of setup (bytes ++ byte ∷ []) ≡ told_of setup bytes = told_more byte [] grows tt ∙ append-nil (told_of setup bytes) in
        record {
          reads = record { lines = stands; sent = sent_of setup seed new (told_of setup bytes) (told_of setup (bytes ++ byte ∷ [])) same (sent-beside setup seed run new (told_of setup bytes) sim wobble before.sent) };
          grows = grows_text got got bytes (bytes ++ byte ∷ []) (told_of setup bytes) same (grows-nothing got (rows_of (edges_by setup seed (told_of setup bytes))));
        }

    -- the byte ends a message, which is sent
    pub took-one : (byte : ℕ) (message : Message) (reader : MessageReader) (new : Run) (got got' : Option (List ℕ)) → new.reader ≡ reader → StandsFor setup reader (bytes ++ byte ∷ []) → answers_of setup (bytes ++ byte ∷ []) ≡ answers_of setup bytes ++ Ok message ∷ []
        → SentOne setup seed new got got' (told_of setup bytes) (told_of setup bytes ++ (line_number_of setup (bytes ++ byte ∷ []), Ok message) ∷ []) → Took setup seed new got got' bytes (bytes ++ byte ∷ [])
    took-one byte message reader new got got' same stands grows sent =
        let told = told_more byte (Ok message ∷ []) grows tt in
        record {
          reads = record { lines = rw same stands; sent = sent_of setup seed new _ (told_of setup (bytes ++ byte ∷ [])) told sent.sent };
          grows = grows_text got got' bytes (bytes ++ byte ∷ []) _ told sent.grows;
        }

    -- and its put fails
    pub put-one : (byte : ℕ) (message : Message) (got got' : Option (List ℕ)) → answers_of setup (bytes ++ byte ∷ []) ≡ answers_of setup bytes ++ Ok message ∷ []
        → StoppedBy setup seed (line_number_of setup (bytes ++ byte ∷ [])) stop.Put got got' (told_of setup bytes) (told_of setup bytes ++ (line_number_of setup (bytes ++ byte ∷ []), Ok message) ∷ [])
        → Stopped (simulation setup seed) (reason.WriteFault None) got got' bytes (bytes ++ byte ∷ [])
    put-one byte message got got' grows cut = towards_text got got' bytes (bytes ++ byte ∷ []) _ (told_more byte (Ok message ∷ []) grows tt) cut

    -- or it is refused
    pub refused-at : (byte : ℕ) (message : Message) (number : ℕ) (fault : LineFault) (got got' : Option (List ℕ)) → answers_of setup (bytes ++ byte ∷ []) ≡ answers_of setup bytes ++ Ok message ∷ [] → number ≡ line_number_of setup (bytes ++ byte ∷ [])
        → StoppedBy setup seed (line_number_of setup (bytes ++ byte ∷ [])) (stop.Line fault) got got' (told_of setup bytes) (told_of setup bytes ++ (line_number_of setup (bytes ++ byte ∷ []), Ok message) ∷ [])
        → Stopped (simulation setup seed) (reason.Input number fault) got got' bytes (bytes ++ byte ∷ [])
    refused-at byte message number fault got got' grows same stopped =
        let told = told_more byte (Ok message ∷ []) grows tt in
        (fault_text (bytes ++ byte ∷ []) _ (number, fault) told (stopped.0 ∙ ap (λ n. Some (n, fault)) (sym same)), grows_text got got' bytes (bytes ++ byte ∷ []) _ told stopped.1)

    -- the line has a fault
    pub faulty-at : (byte : ℕ) (number : ℕ) (fault : LineFault) (got : Option (List ℕ)) → answers_of setup (bytes ++ byte ∷ []) ≡ answers_of setup bytes ++ Err fault ∷ []
        → ((n : ℕ) → lines.fault_of setup (bytes ++ byte ∷ []) ≡ Some (n, fault) → number ≡ n) → Stopped (simulation setup seed) (reason.Input number fault) got got bytes (bytes ++ byte ∷ [])
    faulty-at byte number fault got grows same =
        let found = told-fault setup bytes byte fault no_line_fault grows in
        let stopped = faulty-one setup seed run (told_of setup bytes) before.sent found.number fault got in
        (fault_text (bytes ++ byte ∷ []) _ (number, fault) found.told (stopped.0 ∙ ap (λ n. Some (n, fault)) (sym (same found.number found.is))), grows_text got got bytes (bytes ++ byte ∷ []) _ found.told stopped.1)

    -- ---- the end of the input
    told_last : (answers : List (Result Message LineFault)) → whole_answers_of setup bytes ≡ answers_of setup bytes ++ answers → whole_told_of setup bytes ≡ told_of setup bytes ++ numbered (line_number_of setup bytes) answers
    told_last answers grows = told-end setup bytes answers no_line_fault grows

    -- no line is unfinished that says anything
    pub ends-with_nothing : (got : Option (List ℕ)) → whole_answers_of setup bytes ≡ answers_of setup bytes ++ [] → Finished (simulation setup seed) reason.Clean got got bytes
    ends-with_nothing got grows =
        let same : whole_told_of setup bytes ≡ told_of setup bytes = told_last [] grows ∙ append-nil (told_of setup bytes) in
        (whole_fault_text bytes (told_of setup bytes) None same before.sent.plays.sound, refl, whole_grows got got bytes (told_of setup bytes) same (grows-nothing got (rows_of (edges_by setup seed (told_of setup bytes)))))

    -- the last message is sent
    pub ends-with_one : (message : Message) (new : Run) (got got' : Option (List ℕ)) → whole_answers_of setup bytes ≡ answers_of setup bytes ++ Ok message ∷ []
        → SentOne setup seed new got got' (told_of setup bytes) (told_of setup bytes ++ (line_number_of setup bytes, Ok message) ∷ []) → Finished (simulation setup seed) reason.Clean got got' bytes
    ends-with_one message new got got' grows sent =
        let told = told_last (Ok message ∷ []) grows in
        (whole_fault_text bytes _ None told sent.sent.plays.sound, refl, whole_grows got got' bytes _ told sent.grows)

    -- its put fails
    pub ends-with_put : (message : Message) (got got' : Option (List ℕ)) → whole_answers_of setup bytes ≡ answers_of setup bytes ++ Ok message ∷ []
        → StoppedBy setup seed (line_number_of setup bytes) stop.Put got got' (told_of setup bytes) (told_of setup bytes ++ (line_number_of setup bytes, Ok message) ∷ []) → Finished (simulation setup seed) (reason.WriteFault None) got got' bytes
    ends-with_put message got got' grows cut = whole_towards got got' bytes _ (told_last (Ok message ∷ []) grows) cut

    -- it is refused
    pub ends-with_refusal : (message : Message) (number : ℕ) (fault : LineFault) (got got' : Option (List ℕ)) → whole_answers_of setup bytes ≡ answers_of setup bytes ++ Ok message ∷ [] → number ≡ line_number_of setup bytes
        → StoppedBy setup seed (line_number_of setup bytes) (stop.Line fault) got got' (told_of setup bytes) (told_of setup bytes ++ (line_number_of setup bytes, Ok message) ∷ []) → Finished (simulation setup seed) (reason.Input number fault) got got' bytes
    ends-with_refusal message number fault got got' grows same stopped =
        let told = told_last (Ok message ∷ []) grows in
        (whole_fault_text bytes _ (Some (number, fault)) told (stopped.0 ∙ ap (λ n. Some (n, fault)) (sym same)), whole_grows got got' bytes _ told stopped.1)

    -- the last line has a fault
    pub ends-with_fault : (number : ℕ) (fault : LineFault) (got : Option (List ℕ)) → whole_answers_of setup bytes ≡ answers_of setup bytes ++ Err fault ∷ [] → number ≡ line_number_of setup bytes → Finished (simulation setup seed) (reason.Input number fault) got got bytes
    ends-with_fault number fault got grows same =
        let told = told_last (Err fault ∷ []) grows in
        let stopped = faulty-one setup seed run (told_of setup bytes) before.sent (line_number_of setup bytes) fault got in
        (whole_fault_text bytes _ (Some (number, fault)) told (stopped.0 ∙ ap (λ n. Some (n, fault)) (sym same)), whole_grows got got bytes _ told stopped.1)

-- ---- the bytes of a block

-- these bytes of a block were taken
pub record BlockSoFar (old new : Run) (got got' : Option (List ℕ)) (faults faults' : ℕ) (taken : List ℕ) : Type 0 where
  pub took : (setup : ChannelSetup) (seed : ℕ) (bytes : List ℕ) → Reads setup seed old bytes → Took setup seed new got got' bytes (bytes ++ taken)
  pub kept : faults' ≡ faults

-- none yet
pub block-begun : (run : Run) (got : Option (List ℕ)) (faults : ℕ) → BlockSoFar run run got got faults faults []
block-begun run got faults = record {
  took = λ setup seed bytes before. record {
    reads = subst (λ (bs : List ℕ). Reads setup seed run bs) (sym (append-nil bytes)) before;
    grows = subst (λ (bs : List ℕ). GrowsAlong got got ((simulation setup seed).text bytes) ((simulation setup seed).text bs)) (sym (append-nil bytes)) (grows-nothing got ((simulation setup seed).text bytes));
  };
  kept = refl;
}

-- one byte more
pub block-more : (old mid new : Run) (a b c : Option (List ℕ)) (f h k : ℕ) (block : List ℕ) (i d : ℕ) → BlockSoFar old mid a b f h (take i block) → i < length block
    → ((setup : ChannelSetup) (seed : ℕ) (bytes : List ℕ) → Reads setup seed mid bytes → Took setup seed new b c bytes (bytes ++ get_or block i d ∷ [])) → k ≡ h → BlockSoFar old new a c f k (take (i + 1) block)
block-more old mid new a b c f h k block i d first within took kept = record {
  took = λ setup seed bytes before.
      let one = first.took setup seed bytes before in
      let two = took setup seed (bytes ++ take i block) one.reads in
      let all : (bytes ++ take i block) ++ get_or block i d ∷ [] ≡ bytes ++ take (i + 1) block = append_assoc bytes (take i block) (get_or block i d ∷ []) ∙ ap (λ bs. bytes ++ bs) (sym (take_more block i d within)) in
      subst (λ (bs : List ℕ). Took setup seed new a c bytes bs) all (record {
        reads = two.reads;
        grows = grows-twice a b c _ _ _ one.grows two.grows;
      });
  kept = kept ∙ first.kept;
}

-- the whole block
pub block-whole : (old new : Run) (a b : Option (List ℕ)) (f h : ℕ) (block : List ℕ) (i : ℕ) → BlockSoFar old new a b f h (take i block) → length block ≤ i → BlockSoFar old new a b f h block
block-whole old new a b f h block i so_far past = subst (λ (bs : List ℕ). BlockSoFar old new a b f h bs) (take_all i block past) so_far

-- a byte of the block stopped the run
pub block-stopped : (setup : ChannelSetup) (seed : ℕ) (why : Reason) (old mid : Run) (a b c : Option (List ℕ)) (f h : ℕ) (block : List ℕ) (i d : ℕ) (bytes : List ℕ) → BlockSoFar old mid a b f h (take i block) → i < length block → Reads setup seed old bytes
    → ((bs : List ℕ) → Reads setup seed mid bs → Stopped (simulation setup seed) why b c bs (bs ++ get_or block i d ∷ [])) → Stopped (simulation setup seed) why a c bytes (bytes ++ block)
block-stopped setup seed why old mid a b c f h block i d bytes first within before stopped =
    let one = first.took setup seed bytes before in
    let here = stopped (bytes ++ take i block) one.reads in
    let all : ((bytes ++ take i block) ++ get_or block i d ∷ []) ++ drop (i + 1) block ≡ bytes ++ block =
    append_assoc (bytes ++ take i block) (get_or block i d ∷ []) (drop (i + 1) block) ∙ append_assoc bytes (take i block) (get_or block i d ∷ drop (i + 1) block)
    ∙ ap (λ bs. bytes ++ (take i block ++ bs)) (sym (drop_more block i d within)) ∙ ap (λ bs. bytes ++ bs) (take-append-drop i block) in
    subst (λ (bs : List ℕ). Stopped (simulation setup seed) why a c bytes bs) all
    (stopped-behind (simulation setup seed) why a b c bytes (bytes ++ take i block) ((bytes ++ take i block) ++ get_or block i d ∷ []) (drop (i + 1) block) (simulation-steady setup seed) one.grows here)
