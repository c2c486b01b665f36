-- Pulls, one after another, and how they end.
use Rattle.std.proofs.Common.{◌≡◌, ℕ, List, [], ◌++◌, Option, None, Some, refl, ap, sym, subst, ◌∙◌, append_assoc, append-nil, arith, IfSome, ◌+◌, ◌<◌, ◌^◌, ◌≤◌, length, length-append}
use Rattle.std.specs.Io.KnownBytes.{Appends, Consumes, Keeps, IsAtEnd}
use Rattle.std.proofs.KnownBytes.{Appends-nil, Appends-trans, Consumes-nil, Consumes-trans}
use Rattle.line_base.proofs.Fronts.{IsFrontOf-trans}
use Rattle.line_base.specs.declared.reason.Reason.{Reason}
use Rattle.line_base.specs.declared.reason.Reason.TheVariants as reason
use Rattle.command_base.specs.Tasks.{Task, IsSteady}
use Rattle.command_base.specs.Grown.{GrowsAlong}
use Rattle.command_base.specs.Parts.{Stopped, Finished}
use Rattle.command_base.specs.Ended.{HasReadTo, Ended}
use Rattle.command_base.proofs.Growing.{grows-twice, grows-cut, cut-longer, written-behind, cut-behind, front-longer}

-- how far a run has come after so many pulls that gave bytes; what it has read of them is told by `Reads`
pub record PulledSoFar (task : Task) (Reads : List ℕ → Type 0) (pulls : ℕ) (left left' got got' : Option (List ℕ)) (faults faults' puts puts' : ℕ) : Type 0 where
  pub taken : List ℕ
  pub reads : Reads taken
  pub sound : task.fault taken ≡ None
  pub at_least : pulls ≤ length taken
  pub consumed : Consumes left left' taken
  pub written : Appends got got' (task.text taken)
  pub source_kept : faults' ≡ faults
  pub output_kept : puts' ≡ puts

-- before the first pull
pub pulled-nothing : (task : Task) (Reads : List ℕ → Type 0) (left got : Option (List ℕ)) (faults puts : ℕ) → IsSteady task → Reads [] → task.fault [] ≡ None → PulledSoFar task Reads 0 left left got got faults faults puts puts
pulled-nothing task Reads left got faults puts steady reads sound = record {
  taken = [];
  reads = reads;
  sound = sound;
  at_least = omega arith;
  consumed = Consumes-nil left;
  written = subst (λ (text : List ℕ). Appends got got text) (sym steady.nothing) (Appends-nil got);
  source_kept = refl;
  output_kept = refl;
}

-- a pull's block was taken, and its text was put
pub pulled-more : (task : Task) (Reads Reads' : List ℕ → Type 0) (pulls : ℕ) (left mid left' got mid' got' : Option (List ℕ)) (f f' f'' p p' p'' : ℕ) (block : List ℕ) (so_far : PulledSoFar task Reads pulls left mid got mid' f f' p p')
    → 1 ≤ length block → Consumes mid left' block → Reads' (so_far.taken ++ block) → task.fault (so_far.taken ++ block) ≡ None → GrowsAlong mid' got' (task.text so_far.taken) (task.text (so_far.taken ++ block)) → f'' ≡ f' → p'' ≡ p'
    → PulledSoFar task Reads' (pulls + 1) left left' got got' f f'' p p''
pulled-more task Reads Reads' pulls left mid left' got mid' got' f f' f'' p p' p'' block so_far some consumed reads sound grows source sink = record {
  taken = so_far.taken ++ block;
  reads = reads;
  sound = sound;
  at_least = (let few = so_far.at_least in let both = length-append so_far.taken block in omega arith);
  consumed = Consumes-trans left mid left' so_far.taken block so_far.consumed consumed;
  written = written-behind got mid' got' (task.text so_far.taken) (task.text (so_far.taken ++ block)) so_far.written grows;
  source_kept = source ∙ so_far.source_kept;
  output_kept = sink ∙ so_far.output_kept;
}

-- so many pulls as there may be bytes aren't made
pub pulls-end : (task : Task) (Reads : List ℕ → Type 0) (pulls : ℕ) (left left' got got' : Option (List ℕ)) (faults faults' puts puts' : ℕ) → IsSteady task → PulledSoFar task Reads pulls left left' got got' faults faults' puts puts' → pulls < 2 ^ 36
pulls-end task Reads pulls left left' got got' faults faults' puts puts' steady so_far =
    let few = steady.few so_far.taken so_far.sound in
    let some = so_far.at_least in
    omega (arith, few, some)

-- a run whose pull failed
pub pull-failed : (task : Task) (Reads : List ℕ → Type 0) (pulls : ℕ) (left mid left' got got' : Option (List ℕ)) (faults faults' puts puts' : ℕ) → PulledSoFar task Reads pulls left mid got got' faults faults' puts puts' → Keeps mid left'
    → IfSome left (λ bytes. Ended task reason.ReadFault bytes left' got got')
unfolding Ended
pull-failed task Reads pulls None mid left' got got' faults faults' puts puts' so_far keeps = tt
pull-failed task Reads pulls (Some bytes) None left' got got' faults faults' puts puts' so_far keeps = absurd so_far.consumed
pull-failed task Reads pulls (Some bytes) (Some rest) None got got' faults faults' puts puts' so_far keeps = absurd keeps
pull-failed task Reads pulls (Some bytes) (Some rest) (Some after) got got' faults faults' puts puts' so_far keeps =
    (so_far.taken, rest, so_far.consumed, ap Some keeps, so_far.sound, so_far.written)

-- a run that stopped within a block, once the text of the bytes before it was written
read_to : (task : Task) (earlier block rest more : List ℕ) (got mid got' : Option (List ℕ)) → length block ≤ 4096 → task.fault earlier ≡ None → Appends got mid (task.text earlier)
    → Appends mid got' more → HasReadTo task ((earlier ++ block) ++ rest) (Some rest) got got'
read_to task earlier block rest more got mid got' small sound written appended = record {
  taken = earlier;
  block = block;
  rest = rest;
  parts = refl;
  left_is = refl;
  small = small;
  sound = sound;
  more = more;
  written = Appends-trans got mid got' (task.text earlier) more written appended;
}

-- the same at the end of the input
read_whole : (task : Task) (bytes more : List ℕ) (got mid got' : Option (List ℕ)) → task.fault bytes ≡ None → Appends got mid (task.text bytes) → Appends mid got' more → HasReadTo task bytes (Some []) got got'
read_whole task bytes more got mid got' sound written appended =
    subst (λ (bs : List ℕ). HasReadTo task bs (Some []) got got') (append-nil (bytes ++ []) ∙ append-nil bytes) (read_to task bytes [] [] more got mid got' (omega arith) sound written appended)

-- a run that came to the end of its input, over bytes that were all taken
ended-whole : (task : Task) (why : Reason) (bytes : List ℕ) (got mid got' : Option (List ℕ)) → task.fault bytes ≡ None → Appends got mid (task.text bytes) → Finished task why mid got' bytes → Ended task why bytes (Some []) got got'
unfolding Ended
ended-whole task reason.Clean bytes got mid got' none written (sound, unmarked, grows) = (refl, sound, unmarked, written-behind got mid got' (task.text bytes) (task.whole_text bytes) written grows)
ended-whole task reason.Marked bytes got mid got' none written (sound, marked, grows) = (refl, sound, marked, written-behind got mid got' (task.text bytes) (task.whole_text bytes) written grows)
ended-whole task (reason.Input number fault) bytes got mid got' none written (found, grows) =
    (found, written-behind got mid got' (task.text bytes) (task.whole_text bytes) written grows, read_whole task bytes grows.more got mid got' none written grows.appended)
ended-whole task (reason.WriteFault None) bytes got mid got' none written cut =
    (cut-behind got mid got' (task.text bytes) (task.whole_text bytes) written cut, read_whole task bytes cut.front.front got mid got' none written cut.front.appended)
ended-whole task (reason.WriteFault (Some lane)) bytes got mid got' none written never = never
ended-whole task (reason.Words place fault) bytes got mid got' none written never = never
ended-whole task reason.ReadFault bytes got mid got' none written never = absurd never
ended-whole task reason.OutOfMemory bytes got mid got' none written never = absurd never
ended-whole task (reason.Archive at fault) bytes got mid got' none written never = never

-- a run whose pull gave no byte
pub pull-ended : (task : Task) (Reads : List ℕ → Type 0) (pulls : ℕ) (why : Reason) (left mid left' got mid' got' : Option (List ℕ)) (faults faults' puts puts' : ℕ) (so_far : PulledSoFar task Reads pulls left mid got mid' faults faults' puts puts')
    → Consumes mid left' [] → IsAtEnd left' → Finished task why mid' got' so_far.taken → IfSome left (λ bytes. Ended task why bytes left' got got')
pull-ended task Reads pulls why None mid left' got mid' got' faults faults' puts puts' so_far none at_end finished = tt
pull-ended task Reads pulls why (Some bytes) None left' got mid' got' faults faults' puts puts' so_far none at_end finished = absurd so_far.consumed
pull-ended task Reads pulls why (Some bytes) (Some rest) None got mid' got' faults faults' puts puts' so_far none at_end finished = absurd none
pull-ended task Reads pulls why (Some bytes) (Some rest) (Some after) got mid' got' faults faults' puts puts' so_far none at_end finished =
    let all : bytes ≡ so_far.taken = so_far.consumed ∙ ap (λ r. so_far.taken ++ r) (none ∙ at_end) ∙ append-nil so_far.taken in
    subst (λ (bs : List ℕ). Ended task why bs (Some after) got got') (sym all)
    (subst (λ (r : List ℕ). Ended task why so_far.taken (Some r) got got') (sym at_end) (ended-whole task why so_far.taken got mid' got' so_far.sound so_far.written finished))

-- a run that stopped within a block
stopped-ended : (task : Task) (why : Reason) (earlier block rest : List ℕ) (got mid got' : Option (List ℕ)) → IsSteady task → length block ≤ 4096 → task.fault earlier ≡ None
    → Appends got mid (task.text earlier) → Stopped task why mid got' earlier (earlier ++ block) → Ended task why ((earlier ++ block) ++ rest) (Some rest) got got'
unfolding Ended
stopped-ended task (reason.Input number fault) earlier block rest got mid got' steady small sound written (found, grows) =
    let bytes = earlier ++ block in
    let later = steady.fault_stays bytes rest (number, fault) found in
    let same : task.text bytes ≡ task.whole_text (bytes ++ rest) = sym (steady.text_stays bytes rest (number, fault) found) ∙ sym (steady.whole_text_stays (bytes ++ rest) (number, fault) later) in (
      steady.whole_fault_stays (bytes ++ rest) (number, fault) later,
      subst (λ (t : List ℕ). Appends got got' t) same (written-behind got mid got' (task.text earlier) (task.text bytes) written grows),
      read_to task earlier block rest grows.more got mid got' small sound written grows.appended,
    )
stopped-ended task (reason.WriteFault None) earlier block rest got mid got' steady small sound written cut =
    let bytes = earlier ++ block in (
      front-longer got got' (task.text bytes) (task.whole_text (bytes ++ rest)) (cut-behind got mid got' (task.text earlier) (task.text bytes) written cut) (IsFrontOf-trans (steady.grows bytes rest) (steady.whole_grows (bytes ++ rest))),
      read_to task earlier block rest cut.front.front got mid got' small sound written cut.front.appended,
    )
stopped-ended task (reason.WriteFault (Some lane)) earlier block rest got mid got' steady small sound written never = never
stopped-ended task (reason.Words place fault) earlier block rest got mid got' steady small sound written never = never
stopped-ended task reason.Clean earlier block rest got mid got' steady small sound written never = absurd never
stopped-ended task reason.Marked earlier block rest got mid got' steady small sound written never = absurd never
stopped-ended task reason.ReadFault earlier block rest got mid got' steady small sound written never = absurd never
stopped-ended task reason.OutOfMemory earlier block rest got mid got' steady small sound written never = absurd never
stopped-ended task (reason.Archive at fault) earlier block rest got mid got' steady small sound written never = never

-- a run that stopped at a pull's block
pub pull-stopped : (task : Task) (Reads : List ℕ → Type 0) (pulls : ℕ) (why : Reason) (left mid left' got mid' got' : Option (List ℕ)) (faults faults' puts puts' : ℕ) (block : List ℕ) (so_far : PulledSoFar task Reads pulls left mid got mid' faults faults' puts puts')
    → IsSteady task → length block ≤ 4096 → Consumes mid left' block → Stopped task why mid' got' so_far.taken (so_far.taken ++ block) → IfSome left (λ bytes. Ended task why bytes left' got got')
pull-stopped task Reads pulls why None mid left' got mid' got' faults faults' puts puts' block so_far steady small consumed stopped = tt
pull-stopped task Reads pulls why (Some bytes) None left' got mid' got' faults faults' puts puts' block so_far steady small consumed stopped = absurd so_far.consumed
pull-stopped task Reads pulls why (Some bytes) (Some rest) None got mid' got' faults faults' puts puts' block so_far steady small consumed stopped = absurd consumed
pull-stopped task Reads pulls why (Some bytes) (Some rest) (Some after) got mid' got' faults faults' puts puts' block so_far steady small consumed stopped =
    let all : bytes ≡ (so_far.taken ++ block) ++ after = so_far.consumed ∙ ap (λ r. so_far.taken ++ r) consumed ∙ sym (append_assoc so_far.taken block after) in
    subst (λ (bs : List ℕ). Ended task why bs (Some after) got got') (sym all) (stopped-ended task why so_far.taken block after got mid' got' steady small so_far.sound so_far.written stopped)

-- a run for which there was no memory
pub no-memory : (task : Task) (left got : Option (List ℕ)) → IfSome left (λ bytes. Ended task reason.OutOfMemory bytes left got got)
unfolding Ended
no-memory task None got = tt
no-memory task (Some bytes) got = (refl, Appends-nil got)

-- what stopped a run behind more of its bytes, and counts from earlier ones, stopped it whatever follows
pub stopped-behind : (task : Task) (why : Reason) (a b c : Option (List ℕ)) (first earlier bytes more : List ℕ) → IsSteady task → GrowsAlong a b (task.text first) (task.text earlier) → Stopped task why b c earlier bytes → Stopped task why a c first (bytes ++ more)
stopped-behind task (reason.Input number fault) a b c first earlier bytes more steady before (found, grows) = (
  steady.fault_stays bytes more (number, fault) found,
  subst (λ (t : List ℕ). GrowsAlong a c (task.text first) t) (sym (steady.text_stays bytes more (number, fault) found)) (grows-twice a b c (task.text first) (task.text earlier) (task.text bytes) before grows),
)
stopped-behind task (reason.WriteFault None) a b c first earlier bytes more steady before cut =
    cut-longer a c (task.text first) (task.text bytes) (task.text (bytes ++ more)) (grows-cut a b c (task.text first) (task.text earlier) (task.text bytes) before cut) (steady.grows bytes more)
stopped-behind task (reason.WriteFault (Some lane)) a b c first earlier bytes more steady before never = never
stopped-behind task (reason.Words place fault) a b c first earlier bytes more steady before never = never
stopped-behind task reason.Clean a b c first earlier bytes more steady before never = never
stopped-behind task reason.Marked a b c first earlier bytes more steady before never = never
stopped-behind task reason.ReadFault a b c first earlier bytes more steady before never = never
stopped-behind task reason.OutOfMemory a b c first earlier bytes more steady before never = never
stopped-behind task (reason.Archive at fault) a b c first earlier bytes more steady before never = never
