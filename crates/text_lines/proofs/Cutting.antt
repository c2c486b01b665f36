-- Lines that are cut byte by byte are those that stand between the LFs.
use Rattle.std.proofs.Common.{◌≡◌, ◌≢◌, ℕ, ◌==◌, Bool, true, false, cond, List, [], ◌∷◌, ◌++◌, All, flat_map, refl, sym, ◌∙◌, ap}
use Rattle.std.specs.List.{slice_split, onto_first}
use Rattle.std.proofs.lemmas.Bool.{false≢true, eq-eqb, eqb-true, ne_eqb}
use Rattle.std.proofs.lemmas.List.{append_assoc, append-nil}
use Rattle.std.proofs.lemmas.List.Elements.{All-nil, All-cons, All-head, All-tail, All-same, All-weaker}
use Rattle.std.proofs.lemmas.List.Splits.{slice_split_none}
use Rattle.text_lines.specs.Lines.{is_lf, all_but_last, last_of, ended_lines, open_line}

-- the line that goes on behind a byte: an empty one behind an LF
abbrev pub line_after : List ℕ → ℕ → List ℕ
line_after line byte = cond (byte == 10) [] (line ++ byte ∷ [])

-- the line that a byte ends, if it is an LF
abbrev pub ended_by : List ℕ → ℕ → List (List ℕ)
ended_by line byte = cond (byte == 10) (line ∷ []) []

-- the lines that end in these bytes, where the first of them has begun with `line`
unfoldable ended_from : List ℕ → List ℕ → List (List ℕ)
ended_from line [] = []
ended_from line (byte ∷ bytes) = ended_by line byte ++ ended_from (line_after line byte) bytes

-- the line that goes on behind these bytes, where the first line has begun with `line`
unfoldable open_from : List ℕ → List ℕ → List ℕ
open_from line [] = line
open_from line (byte ∷ bytes) = open_from (line_after line byte) bytes

-- the first part goes on behind this
onto : List ℕ → List (List ℕ) → List (List ℕ)
onto line [] = []
onto line (part ∷ parts) = (line ++ part) ∷ parts

onto_nothing : (parts : List (List ℕ)) → onto [] parts ≡ parts
unfolding onto
onto_nothing [] = refl
onto_nothing (part ∷ parts) = refl

-- a part in front of others isn't the last
record HasParts (parts : List (List ℕ)) : Type 0 where
  first : List ℕ
  others : List (List ℕ)
  is : parts ≡ first ∷ others

split_parts : (t : Bool) (byte : ℕ) (parts : List (List ℕ)) → HasParts (cond t ([] ∷ parts) (onto_first byte parts))
split_parts true byte parts = record { first = []; others = parts; is = refl }
split_parts false byte [] = record { first = byte ∷ []; others = []; is = refl }
split_parts false byte (part ∷ parts) = record { first = byte ∷ part; others = parts; is = refl }

has_parts : (bytes : List ℕ) → HasParts (slice_split is_lf bytes)
has_parts [] = record { first = []; others = []; is = refl }
has_parts (byte ∷ bytes) = split_parts (is_lf byte) byte (slice_split is_lf bytes)

front_behind : (part : List ℕ) (parts : List (List ℕ)) → HasParts parts → all_but_last (part ∷ parts) ≡ part ∷ all_but_last parts
front_behind part parts some = ap (λ ps. all_but_last (part ∷ ps)) some.is ∙ ap (λ ps. part ∷ all_but_last ps) (sym some.is)

last_behind : (part : List ℕ) (parts : List (List ℕ)) → HasParts parts → last_of (part ∷ parts) ≡ last_of parts
last_behind part parts some = ap (λ ps. last_of (part ∷ ps)) some.is ∙ ap last_of (sym some.is)

onto_more : (line : List ℕ) (byte : ℕ) (parts : List (List ℕ)) → HasParts parts → onto line (onto_first byte parts) ≡ onto (line ++ byte ∷ []) parts
unfolding onto
onto_more line byte [] some = (let e : [] ≡ some.first ∷ some.others = some.is in cc)
onto_more line byte (part ∷ parts) some = ap (λ l. l ∷ parts) (sym (append_assoc line (byte ∷ []) part))

ended_step : (t : Bool) (line : List ℕ) (byte : ℕ) (bytes : List ℕ) → ((begun : List ℕ) → ended_from begun bytes ≡ all_but_last (onto begun (slice_split is_lf bytes)))
    → cond t (line ∷ []) [] ++ ended_from (cond t [] (line ++ byte ∷ [])) bytes ≡ all_but_last (onto line (cond t ([] ∷ slice_split is_lf bytes) (onto_first byte (slice_split is_lf bytes))))
unfolding onto
ended_step true line byte bytes later =
    ap (λ lines. line ∷ lines) (later [] ∙ ap all_but_last (onto_nothing (slice_split is_lf bytes)))
    ∙ ap (λ l. l ∷ all_but_last (slice_split is_lf bytes)) (sym (append-nil line))
    ∙ sym (front_behind (line ++ []) (slice_split is_lf bytes) (has_parts bytes))
ended_step false line byte bytes later = later (line ++ byte ∷ []) ∙ ap all_but_last (sym (onto_more line byte (slice_split is_lf bytes) (has_parts bytes)))

ended_cut : (line bytes : List ℕ) → ended_from line bytes ≡ all_but_last (onto line (slice_split is_lf bytes))
unfolding ended_from onto
ended_cut line [] = refl
ended_cut line (byte ∷ bytes) = ended_step (is_lf byte) line byte bytes (λ begun. ended_cut begun bytes)

open_step : (t : Bool) (line : List ℕ) (byte : ℕ) (bytes : List ℕ) → ((begun : List ℕ) → open_from begun bytes ≡ last_of (onto begun (slice_split is_lf bytes)))
    → open_from (cond t [] (line ++ byte ∷ [])) bytes ≡ last_of (onto line (cond t ([] ∷ slice_split is_lf bytes) (onto_first byte (slice_split is_lf bytes))))
unfolding onto
open_step true line byte bytes later =
    later [] ∙ ap last_of (onto_nothing (slice_split is_lf bytes))
    ∙ sym (last_behind (line ++ []) (slice_split is_lf bytes) (has_parts bytes))
open_step false line byte bytes later = later (line ++ byte ∷ []) ∙ ap last_of (sym (onto_more line byte (slice_split is_lf bytes) (has_parts bytes)))

open_cut : (line bytes : List ℕ) → open_from line bytes ≡ last_of (onto line (slice_split is_lf bytes))
unfolding open_from onto
open_cut line [] = sym (append-nil line)
open_cut line (byte ∷ bytes) = open_step (is_lf byte) line byte bytes (λ begun. open_cut begun bytes)

ended_is : (bytes : List ℕ) → ended_lines bytes ≡ ended_from [] bytes
unfolding ended_lines
ended_is bytes = ap all_but_last (sym (onto_nothing (slice_split is_lf bytes))) ∙ sym (ended_cut [] bytes)

open_is : (bytes : List ℕ) → open_line bytes ≡ open_from [] bytes
unfolding open_line
open_is bytes = ap last_of (sym (onto_nothing (slice_split is_lf bytes))) ∙ sym (open_cut [] bytes)

-- one more byte of the lines
ended_more : (line bytes : List ℕ) (byte : ℕ) → ended_from line (bytes ++ byte ∷ []) ≡ ended_from line bytes ++ ended_by (open_from line bytes) byte
unfolding ended_from open_from
ended_more line [] byte = append-nil (ended_by line byte)
ended_more line (first ∷ bytes) byte =
    ap (λ lines. ended_by line first ++ lines) (ended_more (line_after line first) bytes byte)
    ∙ sym (append_assoc (ended_by line first) (ended_from (line_after line first) bytes) (ended_by (open_from (line_after line first) bytes) byte))

open_more : (line bytes : List ℕ) (byte : ℕ) → open_from line (bytes ++ byte ∷ []) ≡ line_after (open_from line bytes) byte
unfolding open_from
open_more line [] byte = refl
open_more line (first ∷ bytes) byte = open_more (line_after line first) bytes byte

pub ended_push : (bytes : List ℕ) (byte : ℕ) → ended_lines (bytes ++ byte ∷ []) ≡ ended_lines bytes ++ ended_by (open_line bytes) byte
ended_push bytes byte = ended_is (bytes ++ byte ∷ []) ∙ ended_more [] bytes byte ∙ sym (ap (λ lines. lines ++ ended_by (open_line bytes) byte) (ended_is bytes) ∙ ap (λ line. ended_from [] bytes ++ ended_by line byte) (open_is bytes))

pub open_push : (bytes : List ℕ) (byte : ℕ) → open_line (bytes ++ byte ∷ []) ≡ line_after (open_line bytes) byte
open_push bytes byte = open_is (bytes ++ byte ∷ []) ∙ open_more [] bytes byte ∙ ap (λ line. line_after line byte) (sym (open_is bytes))

-- the parts are the lines
all_of : (parts : List (List ℕ)) → HasParts parts → all_but_last parts ++ last_of parts ∷ [] ≡ parts
all_of [] some = (let e : [] ≡ some.first ∷ some.others = some.is in cc)
all_of (part ∷ []) some = refl
all_of (part ∷ next ∷ parts) some = ap (λ ps. part ∷ ps) (all_of (next ∷ parts) (record { first = next; others = parts; is = refl }))

lines_are : (bytes : List ℕ) → ended_lines bytes ++ open_line bytes ∷ [] ≡ slice_split is_lf bytes
unfolding ended_lines open_line
lines_are bytes = all_of (slice_split is_lf bytes) (has_parts bytes)

-- the lines with their LFs, one behind the other, and the open line, are the bytes
with_lf : List ℕ → List ℕ
with_lf line = line ++ 10 ∷ []

joined_step : (t : Bool) (line : List ℕ) (byte : ℕ) (bytes : List ℕ) → byte == 10 ≡ t → ((begun : List ℕ) → flat_map with_lf (ended_from begun bytes) ++ open_from begun bytes ≡ begun ++ bytes)
    → flat_map with_lf (cond t (line ∷ []) [] ++ ended_from (cond t [] (line ++ byte ∷ [])) bytes) ++ open_from (cond t [] (line ++ byte ∷ [])) bytes ≡ line ++ byte ∷ bytes
unfolding with_lf
joined_step true line byte bytes e later =
    append_assoc (line ++ 10 ∷ []) (flat_map with_lf (ended_from [] bytes)) (open_from [] bytes)
    ∙ ap (λ rest. (line ++ 10 ∷ []) ++ rest) (later [])
    ∙ append_assoc line (10 ∷ []) bytes
    ∙ ap (λ (b : ℕ). line ++ b ∷ bytes) (sym (eqb-true byte 10 e))
joined_step false line byte bytes e later = later (line ++ byte ∷ []) ∙ append_assoc line (byte ∷ []) bytes

joined_from : (line bytes : List ℕ) → flat_map with_lf (ended_from line bytes) ++ open_from line bytes ≡ line ++ bytes
unfolding ended_from open_from
joined_from line [] = sym (append-nil line)
joined_from line (byte ∷ bytes) = joined_step (byte == 10) line byte bytes refl (λ begun. joined_from begun bytes)

pub lines_joined : (bytes : List ℕ) → flat_map (λ line. line ++ 10 ∷ []) (ended_lines bytes) ++ open_line bytes ≡ bytes
unfolding with_lf
lines_joined bytes =
    ap (λ lines. flat_map with_lf lines ++ open_line bytes) (ended_is bytes)
    ∙ ap (λ line. flat_map with_lf (ended_from [] bytes) ++ line) (open_is bytes)
    ∙ joined_from [] bytes

-- no LF stands in a line
free_step : (t : Bool) (byte : ℕ) (parts : List (List ℕ)) → byte == 10 ≡ t → All (All (λ b. b ≢ 10)) parts → All (All (λ b. b ≢ 10)) (cond t ([] ∷ parts) (onto_first byte parts))
free_step true byte parts e free = All-cons (All (λ b. b ≢ 10)) [] parts (All-nil (λ b. b ≢ 10)) free
free_step false byte [] e free = All-cons (All (λ b. b ≢ 10)) (byte ∷ []) [] (All-cons (λ b. b ≢ 10) byte [] (λ lf. false≢true (sym e ∙ eq-eqb byte 10 lf)) (All-nil (λ b. b ≢ 10))) (All-nil (All (λ b. b ≢ 10)))
free_step false byte (part ∷ parts) e free =
    All-cons (All (λ b. b ≢ 10)) (byte ∷ part) parts
    (All-cons (λ b. b ≢ 10) byte part (λ lf. false≢true (sym e ∙ eq-eqb byte 10 lf)) (All-head (All (λ b. b ≢ 10)) part parts free))
    (All-tail (All (λ b. b ≢ 10)) part parts free)

free_parts : (bytes : List ℕ) → All (All (λ b. b ≢ 10)) (slice_split is_lf bytes)
free_parts [] = All-cons (All (λ b. b ≢ 10)) [] [] (All-nil (λ b. b ≢ 10)) (All-nil (All (λ b. b ≢ 10)))
free_parts (byte ∷ bytes) = free_step (byte == 10) byte (slice_split is_lf bytes) refl (free_parts bytes)

pub lines_free : (bytes : List ℕ) → All (All (λ b. b ≢ 10)) (ended_lines bytes ++ open_line bytes ∷ [])
lines_free bytes = All-same (All (λ b. b ≢ 10)) (ended_lines bytes ++ open_line bytes ∷ []) (slice_split is_lf bytes) (lines_are bytes) (free_parts bytes)

-- bytes without an LF are one line, which goes on
pub record IsOneLine (bytes : List ℕ) : Type 0 where
  pub none_ended : ended_lines bytes ≡ []
  pub open_is : open_line bytes ≡ bytes

pub one_line : (bytes : List ℕ) → All (λ b. b ≢ 10) bytes → IsOneLine bytes
unfolding ended_lines open_line
one_line bytes free =
    let one = slice_split_none is_lf bytes (All-weaker (λ b. b ≢ 10) (λ b. is_lf b ≡ false) (λ b ne. ne_eqb b 10 ne) bytes free) in
    record { none_ended = ap all_but_last one; open_is = ap last_of one }
