-- Blocks that are taken, byte after byte.
use Rattle.std.proofs.Common.{◌≡◌, ℕ, ◌-◌, List, [], ◌∷◌, ◌++◌, length, take, drop, Option, refl, ap, sym, subst, ◌∙◌, append_assoc, append-nil, take-append-drop, arith, length-drop}
use Rattle.std.proofs.lemmas.List.{take_all}
use Rattle.line_base.specs.Streams.{IsFrontOf}
use Rattle.line_base.specs.declared.edge.Edge.{Edge}
use Rattle.decode_command.specs.declared.run.Stop.{Stop}
use Rattle.decode_command.specs.declared.run.Stop.TheVariants as stop
use Rattle.edge_trace.specs.Limits.{edges_of, answers_of}
use Rattle.edge_trace.specs.Readers.{StandsFor}
use Rattle.decode_command.proofs.TakeBytes.{none-took}
use Rattle.decode_command.proofs.EdgeLists.{fault-stays, edges-stay, edges-front}
use Rattle.decode_command.specs.declared.run.Run.{Run}
use Rattle.decode_command.specs.Channels.{Decoding, text_so_far}
use Rattle.decode_command.specs.Writes.{Written, GrowsAlong, GrowsTowards}
use Rattle.decode_command.specs.Runs.{decoding_of, written_by, Reads, StoppedAt, TookBytes}
use Rattle.decode_command.proofs.Writing.{grows-twice, grows-cut, cut-longer, grows-nothing}
use Rattle.decode_command.proofs.Fronts.{text-front}

-- these bytes of a block were taken
pub record BlockSoFar (old new : Run) (got got' : Option (List ℕ)) (faults faults' : ℕ) (taken : List ℕ) : Type 0 where
  pub decoding : decoding_of new ≡ decoding_of old
  pub took : (bytes : List ℕ) → Reads old bytes → TookBytes old new got got' bytes (bytes ++ taken)
  pub kept : faults' ≡ faults

-- a front of a block was taken, and this is the rest of it
pub record BlockBefore (old new : Run) (got got' : Option (List ℕ)) (faults faults' : ℕ) (block rest : List ℕ) : Type 0 where
  pub taken : List ℕ
  pub so_far : BlockSoFar old new got got' faults faults' taken
  pub parts : taken ++ rest ≡ block

-- the text of bytes is a front of that of more
pub bytes-front : (decoding : Decoding) (bytes more : List ℕ) → IsFrontOf (text_so_far decoding (edges_of bytes)) (text_so_far decoding (edges_of (bytes ++ more)))
bytes-front decoding bytes more =
    let edges = edges-front bytes more in
    subst (λ (es : List Edge). IsFrontOf (text_so_far decoding (edges_of bytes)) (text_so_far decoding es)) (sym edges.is) (text-front decoding (edges_of bytes) edges.rest)

-- what stopped a run stays the reason when more bytes come
pub stopped-longer : (decoding : Decoding) (why : Stop) (a b : Written) (earlier bytes more : List ℕ) → StoppedAt decoding why a b earlier bytes → StoppedAt decoding why a b earlier (bytes ++ more)
stopped-longer decoding (stop.Line number fault) a b earlier bytes more (found, grows) =
    (fault-stays bytes more (number, fault) found, subst (λ (es : List Edge). GrowsAlong a b (text_so_far decoding (edges_of earlier)) (text_so_far decoding es)) (sym (edges-stay bytes more (number, fault) found)) grows)
stopped-longer decoding stop.Put a b earlier bytes more cut = cut-longer a b.got (text_so_far decoding (edges_of earlier)) (text_so_far decoding (edges_of bytes)) (text_so_far decoding (edges_of (bytes ++ more))) cut (bytes-front decoding bytes more)

-- a put that fails at bytes at the front of a block fails in the block
pub cut-in : (decoding : Decoding) (old : Written) (got : Option (List ℕ)) (bytes block : List ℕ) (count : ℕ) → GrowsTowards old got (text_so_far decoding (edges_of bytes)) (text_so_far decoding (edges_of (bytes ++ take count block)))
    → GrowsTowards old got (text_so_far decoding (edges_of bytes)) (text_so_far decoding (edges_of (bytes ++ block)))
cut-in decoding old got bytes block count cut =
    subst (λ (bs : List ℕ). GrowsTowards old got (text_so_far decoding (edges_of bytes)) (text_so_far decoding (edges_of bs))) (append_assoc bytes (take count block) (drop count block) ∙ ap (λ bs. bytes ++ bs) (take-append-drop count block))
    (cut-longer old got (text_so_far decoding (edges_of bytes)) (text_so_far decoding (edges_of (bytes ++ take count block))) (text_so_far decoding (edges_of ((bytes ++ take count block) ++ drop count block))) cut (bytes-front decoding (bytes ++ take count block) (drop count block)))

-- what stopped a run counts from earlier bytes too
pub stopped-earlier : (decoding : Decoding) (why : Stop) (a b c : Written) (first earlier bytes : List ℕ) → GrowsAlong a b (text_so_far decoding (edges_of first)) (text_so_far decoding (edges_of earlier))
    → StoppedAt decoding why b c earlier bytes → StoppedAt decoding why a c first bytes
stopped-earlier decoding (stop.Line number fault) a b c first earlier bytes before (found, grows) =
    (found, grows-twice a b c (text_so_far decoding (edges_of first)) (text_so_far decoding (edges_of earlier)) (text_so_far decoding (edges_of bytes)) before grows)
stopped-earlier decoding stop.Put a b c first earlier bytes before cut = grows-cut a b c.got (text_so_far decoding (edges_of first)) (text_so_far decoding (edges_of earlier)) (text_so_far decoding (edges_of bytes)) before cut

-- nothing is taken yet
pub block-begun : (run : Run) (got : Option (List ℕ)) (faults : ℕ) → BlockSoFar run run got got faults faults []
block-begun run got faults = record {
  decoding = refl;
  took = λ bytes before. record {
    reads = subst (λ (bs : List ℕ). Reads run bs) (sym (append-nil bytes)) before;
    grows = subst (λ (bs : List ℕ). GrowsAlong (written_by run got) (written_by run got) (text_so_far (decoding_of run) (edges_of bytes)) (text_so_far (decoding_of run) (edges_of bs))) (sym (append-nil bytes)) (grows-nothing (written_by run got) (text_so_far (decoding_of run) (edges_of bytes)));
  };
  kept = refl;
}

-- bytes that are taken behind others
pub block-behind : (old mid new : Run) (a b c : Option (List ℕ)) (f h k : ℕ) (taken more : List ℕ) → BlockSoFar old mid a b f h taken → BlockSoFar mid new b c h k more → BlockSoFar old new a c f k (taken ++ more)
block-behind old mid new a b c f h k taken more first second = record {
  decoding = second.decoding ∙ first.decoding;
  took = λ bytes before.
      let one = first.took bytes before in
      let two = second.took (bytes ++ taken) one.reads in
      subst (λ (bs : List ℕ). TookBytes old new a c bytes bs) (append_assoc bytes taken more) (record {
        reads = two.reads;
        grows = grows-twice (written_by old a) (written_by mid b) (written_by new c) (text_so_far (decoding_of old) (edges_of bytes)) (text_so_far (decoding_of old) (edges_of (bytes ++ taken))) (text_so_far (decoding_of old) (edges_of ((bytes ++ taken) ++ more))) one.grows
            (subst (λ (decoding : Decoding). GrowsAlong (written_by mid b) (written_by new c) (text_so_far decoding (edges_of (bytes ++ taken))) (text_so_far decoding (edges_of ((bytes ++ taken) ++ more)))) first.decoding two.grows);
      });
  kept = second.kept ∙ first.kept;
}

-- what stopped a run behind a front of a block stopped it in the block
pub block-stopped : (old mid : Run) (why : Stop) (a b : Option (List ℕ)) (c : Written) (f h : ℕ) (taken more after bytes : List ℕ) → BlockSoFar old mid a b f h taken → Reads old bytes
    → ((bs : List ℕ) → Reads mid bs → StoppedAt (decoding_of mid) why (written_by mid b) c bs (bs ++ more)) → StoppedAt (decoding_of old) why (written_by old a) c bytes (bytes ++ ((taken ++ more) ++ after))
block-stopped old mid why a b c f h taken more after bytes first before stopped =
    let one = first.took bytes before in
    let here : StoppedAt (decoding_of old) why (written_by mid b) c (bytes ++ taken) ((bytes ++ taken) ++ more) = subst (λ (decoding : Decoding). StoppedAt decoding why (written_by mid b) c (bytes ++ taken) ((bytes ++ taken) ++ more)) first.decoding (stopped (bytes ++ taken) one.reads) in
    let from_first : StoppedAt (decoding_of old) why (written_by old a) c bytes ((bytes ++ taken) ++ more) = stopped-earlier (decoding_of old) why (written_by old a) (written_by mid b) c bytes (bytes ++ taken) ((bytes ++ taken) ++ more) one.grows here in
    subst (λ (bs : List ℕ). StoppedAt (decoding_of old) why (written_by old a) c bytes bs) (append_assoc (bytes ++ taken) more after ∙ append_assoc bytes taken (more ++ after) ∙ ap (λ bs. bytes ++ bs) (sym (append_assoc taken more after)))
    (stopped-longer (decoding_of old) why (written_by old a) c bytes ((bytes ++ taken) ++ more) after from_first)

-- bytes that are taken and give no answer
pub run-taken : (run new : Run) (got : Option (List ℕ)) (faults : ℕ) (more : List ℕ) → new.channels ≡ run.channels → new.told ≡ run.told → new.text ≡ run.text
    → ((seen : List ℕ) → StandsFor run.lines seen → StandsFor new.lines (seen ++ more)) → ((seen : List ℕ) → StandsFor run.lines seen → answers_of (seen ++ more) ≡ answers_of seen)
    → BlockSoFar run new got got faults faults more
run-taken run new got faults more channels told text stands quiet = record {
  decoding = rw (channels, told) refl;
  took = λ bytes before. none-took run new got bytes (bytes ++ more) before channels text (stands bytes before.lines) (quiet bytes before.lines ∙ sym (append-nil (answers_of bytes)));
  kept = refl;
}

-- nothing of a block is taken yet
pub whole-left : (run : Run) (got : Option (List ℕ)) (faults : ℕ) (block : List ℕ) → BlockBefore run run got got faults faults block block
whole-left run got faults block = record { taken = []; so_far = block-begun run got faults; parts = refl }

-- more bytes of a block are taken
pub less-left : (old mid new : Run) (a b c : Option (List ℕ)) (f h k : ℕ) (block more rest : List ℕ) → BlockBefore old mid a b f h block (more ++ rest) → BlockSoFar mid new b c h k more → BlockBefore old new a c f k block rest
less-left old mid new a b c f h k block more rest before second = record {
  taken = before.taken ++ more;
  so_far = block-behind old mid new a b c f h k before.taken more before.so_far second;
  parts = append_assoc before.taken more rest ∙ before.parts;
}

-- the rest of a block, as it is cut
pub block-rest : (old mid : Run) (a b : Option (List ℕ)) (f h : ℕ) (block rest others : List ℕ) → rest ≡ others → BlockBefore old mid a b f h block rest → BlockBefore old mid a b f h block others
block-rest old mid a b f h block rest others same before = subst (λ (bs : List ℕ). BlockBefore old mid a b f h block bs) same before

-- bytes at the front of the rest of a block that give no answer
pub run-behind : (old mid new : Run) (a b : Option (List ℕ)) (f h : ℕ) (block rest : List ℕ) (count : ℕ) → BlockBefore old mid a b f h block rest → new.channels ≡ mid.channels → new.told ≡ mid.told → new.text ≡ mid.text
    → ((seen : List ℕ) → StandsFor mid.lines seen → StandsFor new.lines (seen ++ take count rest)) → ((seen : List ℕ) → StandsFor mid.lines seen → answers_of (seen ++ take count rest) ≡ answers_of seen)
    → BlockBefore old new a b f h block (drop count rest)
run-behind old mid new a b f h block rest count before channels told text stands quiet =
    let parted : BlockBefore old mid a b f h block (take count rest ++ drop count rest) = subst (λ (bs : List ℕ). BlockBefore old mid a b f h block bs) (sym (take-append-drop count rest)) before in
    less-left old mid new a b b f h h block (take count rest) (drop count rest) parted (run-taken mid new b h (take count rest) channels told text stands quiet)

-- the same, with the rest as a slice gives it
pub run-sliced : (old mid new : Run) (a b : Option (List ℕ)) (f h : ℕ) (block rest : List ℕ) (count : ℕ) → BlockBefore old mid a b f h block rest → new.channels ≡ mid.channels → new.told ≡ mid.told → new.text ≡ mid.text
    → ((seen : List ℕ) → StandsFor mid.lines seen → StandsFor new.lines (seen ++ take count rest)) → ((seen : List ℕ) → StandsFor mid.lines seen → answers_of (seen ++ take count rest) ≡ answers_of seen)
    → BlockBefore old new a b f h block (take (length rest - count) (drop count rest))
run-sliced old mid new a b f h block rest count before channels told text stands quiet =
    subst (λ (bs : List ℕ). BlockBefore old new a b f h block bs) (sym (take_all (length rest - count) (drop count rest) (omega (arith, length-drop count rest))))
    (run-behind old mid new a b f h block rest count before channels told text stands quiet)

-- a row at the front of the rest of a block is taken, with the rest as a slice gives it
pub row-sliced : (old mid new : Run) (a b c : Option (List ℕ)) (f h k : ℕ) (block rest : List ℕ) (count : ℕ) → BlockBefore old mid a b f h block rest → BlockSoFar mid new b c h k (take count rest)
    → BlockBefore old new a c f k block (take (length rest - count) (drop count rest))
row-sliced old mid new a b c f h k block rest count before taken =
    let parted : BlockBefore old mid a b f h block (take count rest ++ drop count rest) = subst (λ (bs : List ℕ). BlockBefore old mid a b f h block bs) (sym (take-append-drop count rest)) before in
    subst (λ (bs : List ℕ). BlockBefore old new a c f k block bs) (sym (take_all (length rest - count) (drop count rest) (omega (arith, length-drop count rest))))
    (less-left old mid new a b c f h k block (take count rest) (drop count rest) parted taken)

-- none is
pub none-sliced : (old mid new : Run) (a b c : Option (List ℕ)) (f h k : ℕ) (block rest : List ℕ) (count : ℕ) → count ≡ 0 → BlockBefore old mid a b f h block rest → BlockSoFar mid new b c h k (take count rest)
    → BlockBefore old new a c f k block rest
none-sliced old mid new a b c f h k block rest count none before taken =
    let nothing : BlockSoFar mid new b c h k [] = subst (λ (n : ℕ). BlockSoFar mid new b c h k (take n rest)) none taken in
    less-left old mid new a b c f h k block [] rest before nothing

-- a whole block is taken
pub none-left : (old new : Run) (a b : Option (List ℕ)) (f h : ℕ) (block rest : List ℕ) → BlockBefore old new a b f h block rest → length rest ≡ 0 → BlockSoFar old new a b f h block
none-left old new a b f h block [] before none = subst (λ (bs : List ℕ). BlockSoFar old new a b f h bs) (sym (append-nil before.taken) ∙ before.parts) before.so_far
none-left old new a b f h block (byte ∷ rest) before none = absurd (omega arith)

-- what stopped a run at bytes in a block stopped it in the block
pub stopped-in : (old mid : Run) (why : Stop) (a b : Option (List ℕ)) (c : Written) (f h : ℕ) (block more rest bytes : List ℕ) → BlockBefore old mid a b f h block (more ++ rest) → Reads old bytes
    → ((bs : List ℕ) → Reads mid bs → StoppedAt (decoding_of mid) why (written_by mid b) c bs (bs ++ more)) → StoppedAt (decoding_of old) why (written_by old a) c bytes (bytes ++ block)
stopped-in old mid why a b c f h block more rest bytes before reads stopped =
    subst (λ (bs : List ℕ). StoppedAt (decoding_of old) why (written_by old a) c bytes (bytes ++ bs)) (append_assoc before.taken more rest ∙ before.parts)
    (block-stopped old mid why a b c f h before.taken more rest bytes before.so_far reads stopped)

-- none of a block was taken, and then so many bytes
pub none-then : (old mid new : Run) (a b c : Option (List ℕ)) (f h k : ℕ) (block : List ℕ) (none count : ℕ) → none ≡ 0 → BlockSoFar old mid a b f h (take none block) → BlockSoFar mid new b c h k (take count block)
    → BlockSoFar old new a c f k (take count block)
none-then old mid new a b c f h k block none count e first second =
    subst (λ (n : ℕ). BlockSoFar old new a c f k (take n block ++ take count block)) e (block-behind old mid new a b c f h k (take none block) (take count block) first second)

-- what stopped a run behind none of a block stopped it in the block
pub none-then-stopped : (old mid : Run) (why : Stop) (a b : Option (List ℕ)) (c : Written) (f h : ℕ) (block : List ℕ) (none : ℕ) (bytes : List ℕ) → none ≡ 0 → BlockSoFar old mid a b f h (take none block) → Reads old bytes
    → ((bs : List ℕ) → Reads mid bs → StoppedAt (decoding_of mid) why (written_by mid b) c bs (bs ++ block)) → StoppedAt (decoding_of old) why (written_by old a) c bytes (bytes ++ block)
none-then-stopped old mid why a b c f h block none bytes e first reads stopped =
    subst (λ (bs : List ℕ). StoppedAt (decoding_of old) why (written_by old a) c bytes (bytes ++ bs)) (ap (λ (n : ℕ). (take n block ++ block) ++ []) e ∙ append-nil block)
    (block-stopped old mid why a b c f h (take none block) block [] bytes first reads stopped)
