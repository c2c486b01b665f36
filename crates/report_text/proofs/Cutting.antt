-- Fields that are cut off a text one by one are those of the text.
use Rattle.std.proofs.Common.{◌≡◌, ℕ, ◌<◌, ◌==◌, not, Bool, true, false, cond, Option, Some, None, Ok, Err, List, [], ◌∷◌, ◌++◌, length, option_copied, refl, sym, ◌∙◌, ap, arith}
use Rattle.std.specs.List.{slice_split, onto_first, list_all}
use Rattle.std.proofs.lemmas.Bool.{and_parts, not-true, ne_eqb}
use Rattle.std.proofs.lemmas.List.{append-nil, append_assoc}
use Rattle.std.proofs.lemmas.List.Splits.{length-slice_split}
use denote.Ref.{Bor}
use Rattle.line_base.specs.Texts.{cut_at}
use Rattle.line_base.proofs.Cuts.{split_none, split_some}
use Rattle.report_text.specs.declared.fault.TextFault.TheVariants.{Word}
use Rattle.report_text.specs.Fields.{is_space, line_of, fields_of, fields_left, field_read, spaced}
use Rattle.report_text.specs.Readings.{left}
use Rattle.report_text.proofs.Steps.{ok_is}

cut_fields : (text field : List ℕ) (rest : Option (List ℕ)) → (field, rest) ≡ cut_at 32 text → fields_of text ≡ field ∷ fields_left rest
cut_fields text field None e = split_none 32 text field e
cut_fields text field (Some rest) e = split_some 32 text field rest e

empty_field : (field : List ℕ) (fields : List (List ℕ)) → length field ≡ 0 → field_read (field ∷ fields) ≡ Err Word
empty_field [] fields e = refl
empty_field (byte ∷ bytes) fields e = absurd (omega arith)

some_field : (field : List ℕ) (fields : List (List ℕ)) → (length field ≡ 0 → ⊥) → field_read (field ∷ fields) ≡ Ok (field, fields)
some_field [] fields ne = absurd (ne refl)
some_field (byte ∷ bytes) fields ne = refl

-- an empty field is no field
pub next_empty : (text field : List ℕ) (rest : Option (List ℕ)) → (field, rest) ≡ cut_at 32 text → length field ≡ 0 → field_read (fields_of text) ≡ Err Word
next_empty text field rest e empty = ap field_read (cut_fields text field rest e) ∙ empty_field field (fields_left rest) empty

-- the field up to the next space
pub next_field : (text field : List ℕ) (rest : Option (List ℕ)) → (field, rest) ≡ cut_at 32 text → (length field ≡ 0 → ⊥) → field_read (fields_of text) ≡ Ok (field, fields_left rest)
next_field text field rest e some = ap field_read (cut_fields text field rest e) ∙ some_field field (fields_left rest) some

-- the same of what is left of a text
pub left_empty : (rest others : Option (Bor (List ℕ))) (text : Bor (List ℕ)) (field : List ℕ) → rest ≡ Some text → (field, option_copied others) ≡ cut_at 32 text.now → length field ≡ 0 → field_read (left rest) ≡ Err Word
left_empty rest others text field is e empty = ap (λ (r : Option (Bor (List ℕ))). field_read (left r)) is ∙ next_empty text.now field (option_copied others) e empty

pub left_field : (rest others : Option (Bor (List ℕ))) (text : Bor (List ℕ)) (field : List ℕ) → rest ≡ Some text → (field, option_copied others) ≡ cut_at 32 text.now → (length field ≡ 0 → ⊥) → field_read (left rest) ≡ Ok (field, left others)
left_field rest others text field is e some = ap (λ (r : Option (Bor (List ℕ))). field_read (left r)) is ∙ next_field text.now field (option_copied others) e some

-- what a field is read from
pub field_taken : (fields : List (List ℕ)) (field : List ℕ) (others : List (List ℕ)) → field_read fields ≡ Ok (field, others) → fields ≡ field ∷ others
field_taken [] field others e = absurd cc
field_taken ([] ∷ fields) field others e = absurd cc
field_taken ((byte ∷ bytes) ∷ fields) field others e =
    let made : List ℕ × List (List ℕ) = (byte ∷ bytes, fields) in
    let same : made ≡ (field, others) = ok_is made (field, others) e in
    ap (λ (f : List ℕ × List (List ℕ)). f.0 ∷ f.1) same

-- a field that isn't empty is read
pub field_again : (field : List ℕ) (others : List (List ℕ)) → 0 < length field → field_read (field ∷ others) ≡ Ok (field, others)
field_again [] others some = absurd (omega arith)
field_again (byte ∷ bytes) others some = refl

-- the byte is no space
abbrev pub is_other : ℕ → Bool
is_other byte = not (byte == 32)

-- no space stands in these fields
abbrev pub are_free : List (List ℕ) → Bool
are_free fields = list_all (list_all is_other) fields

split_last : (field : List ℕ) → list_all is_other field ≡ true → slice_split is_space field ≡ field ∷ []
split_last [] free = refl
split_last (byte ∷ bytes) free =
    let parts = and_parts (is_other byte) (list_all is_other bytes) free in
    ap (λ t. cond t ([] ∷ slice_split is_space bytes) (onto_first byte (slice_split is_space bytes))) (not-true (byte == 32) parts.0)
    ∙ ap (onto_first byte) (split_last bytes parts.1)

split_more : (field rest : List ℕ) → list_all is_other field ≡ true → slice_split is_space (field ++ (32 ∷ rest)) ≡ field ∷ slice_split is_space rest
split_more [] rest free = refl
split_more (byte ∷ bytes) rest free =
    let parts = and_parts (is_other byte) (list_all is_other bytes) free in
    ap (λ t. cond t ([] ∷ slice_split is_space (bytes ++ (32 ∷ rest))) (onto_first byte (slice_split is_space (bytes ++ (32 ∷ rest))))) (not-true (byte == 32) parts.0)
    ∙ ap (onto_first byte) (split_more bytes rest parts.1)

-- fields without a space are those of their line
pub fields_back : (field : List ℕ) (fields : List (List ℕ)) → are_free (field ∷ fields) ≡ true → fields_of (line_of (field ∷ fields)) ≡ field ∷ fields
fields_back field [] free = split_last field (and_parts (list_all is_other field) (are_free []) free).0
fields_back field (next ∷ fields) free =
    let parts = and_parts (list_all is_other field) (are_free (next ∷ fields)) free in
    split_more field (line_of (next ∷ fields)) parts.0 ∙ ap (λ others. field ∷ others) (fields_back next fields parts.1)

-- a line is its first field, and the others with their spaces
pub line_spaced : (field : List ℕ) (fields : List (List ℕ)) → line_of (field ∷ fields) ≡ field ++ spaced fields
line_spaced field [] = sym (append-nil field)
line_spaced field (next ∷ fields) = refl

-- a line that was written field by field
pub written : (channel place : List ℕ) (said : List (List ℕ)) (empty first parted second whole : List ℕ) → empty ≡ [] → first ≡ empty ++ channel → parted ≡ first ++ (32 ∷ []) → second ≡ parted ++ place → whole ≡ second ++ spaced said → whole ≡ line_of (channel ∷ place ∷ said)
written channel place said empty first parted second whole none a b c d =
    let front : second ≡ (channel ++ (32 ∷ [])) ++ place = c ∙ ap (λ (t : List ℕ). t ++ place) (b ∙ ap (λ (t : List ℕ). t ++ (32 ∷ [])) (a ∙ ap (λ (t : List ℕ). t ++ channel) none)) in
    d ∙ ap (λ (t : List ℕ). t ++ spaced said) (front ∙ append_assoc channel (32 ∷ []) place)
    ∙ append_assoc channel (32 ∷ place) (spaced said)
    ∙ ap (λ (t : List ℕ). channel ++ (32 ∷ t)) (sym (line_spaced place said))

-- a text has a field
pub fields_some : (text : List ℕ) → (length (fields_of text) == 0) ≡ false
fields_some text = (let count = length-slice_split is_space text in ne_eqb (length (fields_of text)) 0 (λ e. omega (arith, e, count)))
