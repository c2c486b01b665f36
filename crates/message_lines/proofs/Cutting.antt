-- The fields of a line, as they are cut from it and counted.
use Rattle.std.proofs.Common.{◌≡◌, ℕ, ◌+◌, Option, Some, None, Ok, List, ◌∷◌, length, option_copied, sym, ◌∙◌, ap}
use Rattle.std.specs.List.{count_by}
use Rattle.std.proofs.lemmas.List.Splits.{length-slice_split}
use denote.Ref.{Bor}
use Rattle.line_base.specs.Texts.{cut_at}
use Rattle.line_base.proofs.Cuts.{split_none, split_some}
use Rattle.report_text.specs.Fields.{is_space, fields_of, fields_left}
use Rattle.report_text.specs.Readings.{left}
use Rattle.message_lines.specs.Fields.{next_field}

cut_fields : (text field : List ℕ) (rest : Option (List ℕ)) → (field, rest) ≡ cut_at 32 text → fields_of text ≡ field ∷ fields_left rest
cut_fields text field None e = split_none 32 text field e
cut_fields text field (Some rest) e = split_some 32 text field rest e

-- the field up to the next space
pub field_cut : (rest others : Option (Bor (List ℕ))) (text : Bor (List ℕ)) (field : List ℕ) → rest ≡ Some text → (field, option_copied others) ≡ cut_at 32 text.now → next_field (left rest) ≡ Ok (field, left others)
field_cut rest others text field is e = ap (λ (r : Option (Bor (List ℕ))). next_field (left r)) is ∙ ap next_field (cut_fields text.now field (option_copied others) e)

-- one field more than spaces
pub fields_counted : (rest : Option (Bor (List ℕ))) (text : Bor (List ℕ)) (count : ℕ) → rest ≡ Some text → count ≡ count_by is_space text.now + 1 → count ≡ length (left rest)
fields_counted rest text count is e = e ∙ sym (ap (λ (r : Option (Bor (List ℕ))). length (left r)) is ∙ length-slice_split is_space text.now)
