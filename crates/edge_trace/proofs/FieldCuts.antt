-- Fields that are cut.
use Rattle.std.proofs.Common.{◌≡◌, ℕ, map, Option, Some, None, List, [], ◌∷◌, refl, ap}
use Rattle.line_base.specs.Texts.{cut_at}
use Rattle.line_base.proofs.Cuts.{split_none, split_some}
use Rattle.edge_trace.specs.Fields.{without_blanks, fields}

-- the last field, and a field with others behind it
pub fields_last : (text before : List ℕ) → (before, None) ≡ cut_at 44 text → fields text ≡ without_blanks before ∷ []
unfolding fields
fields_last text before e = ap (map without_blanks) (split_none 44 text before e)

pub fields_more : (text before rest : List ℕ) → (before, Some rest) ≡ cut_at 44 text → fields text ≡ without_blanks before ∷ fields rest
unfolding fields
fields_more text before rest e = ap (map without_blanks) (split_some 44 text before rest e)

-- there is always a first field
pub record HasField (text : List ℕ) : Type 0 where
  pub first : List ℕ
  pub others : List (List ℕ)
  pub is : fields text ≡ first ∷ others

has_field : (text : List ℕ) (cut : List ℕ × Option (List ℕ)) → cut ≡ cut_at 44 text → HasField text
has_field text (before, None) e = record { first = without_blanks before; others = []; is = fields_last text before e }
has_field text (before, Some rest) e = record { first = without_blanks before; others = fields rest; is = fields_more text before rest e }

pub has_first_field : (text : List ℕ) → HasField text
has_first_field text = has_field text (cut_at 44 text) refl
