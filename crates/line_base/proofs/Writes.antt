-- Bytes that are written a front at a time.
use Rattle.std.proofs.Common.{◌≡◌, ℕ, ◌-◌, List, ◌++◌, length, take, drop, sym, ap, subst, ◌∙◌, append_assoc, take-append-drop}
use Rattle.std.proofs.KnownBytes.{Appends-trans}
use Rattle.std.proofs.lemmas.List.{take_rest}
use Rattle.std.specs.Io.KnownBytes.{Appends}
use Rattle.std.specs.declared.option.Option.{Option}

-- some front of the bytes was written, and the rest is still to be
pub record WrittenSoFar (old now : Option (List ℕ)) (bytes rest : List ℕ) : Type 0 where
  pub front : List ℕ
  pub is : bytes ≡ front ++ rest
  pub appended : Appends old now front

-- the writer took so many bytes more, and `&rest[count..]` is what is left
pub WrittenSoFar-more : {old now : Option (List ℕ)} {bytes rest : List ℕ} (new : Option (List ℕ)) (count : ℕ)
    → WrittenSoFar old now bytes rest → Appends now new (take count rest)
    → WrittenSoFar old new bytes (take (length rest - count) (drop count rest))
WrittenSoFar-more {old = old} {now = now} {bytes = bytes} {rest = rest} new count so_far taken =
    subst (WrittenSoFar old new bytes) (sym (take_rest rest count)) (record {
      front = so_far.front ++ take count rest;
      is =
          so_far.is ∙ ap (λ l. so_far.front ++ l) (sym (take-append-drop count rest))
          ∙ sym (append_assoc so_far.front (take count rest) (drop count rest));
      appended = Appends-trans old now new so_far.front (take count rest) so_far.appended taken;
    })
