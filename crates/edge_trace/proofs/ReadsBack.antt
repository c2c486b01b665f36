-- A written edge reads back as the row that it was written from.
use Rattle.std.proofs.Common.{◌≡◌, ℕ, ◌+◌, ◌*◌, ◌^◌, ◌≤◌, ◌==◌, ◌&&◌, nat_le, Bool, true, false, cond, Some, None, Ok, List, [], ◌∷◌, ◌++◌, map, decimal, refl, sym, ◌∙◌, ap, arith}
use Rattle.std.specs.List.{slice_split, onto_first, list_all}
use Rattle.std.specs.Option.{ok_or}
use Rattle.std.proofs.lemmas.Bool.{le-leb, ne_eqb, and_parts}
use Rattle.line_base.specs.declared.edge.Edge.{Edge}
use Rattle.line_base.specs.declared.faults.LineFault.TheVariants.{Number, Line, TooLarge}
use Rattle.line_base.specs.Texts.{is_digit, number_after, number_in}
use Rattle.edge_trace.specs.Fields.{fields, without_blanks, level_in}
use Rattle.line_base.specs.Steps.{◌>>=◌, check}
use Rattle.edge_trace.specs.Rows.{Narrow, time_field, line_field, narrow_row}
use Rattle.edge_trace.specs.Readings.{stamp_time, time_behind, seen_by, IsStamped}
use Rattle.edge_trace.specs.Texts.{level_digit, narrow_text}
use Rattle.edge_trace.proofs.Judging.{narrow_time, stamped}
use Rattle.line_base.proofs.Decimals.{digit_bounds, number_back}

-- digits up to a comma are one field
split_digits : (digits rest : List ℕ) → list_all is_digit digits ≡ true → slice_split (λ byte. byte == 44) (digits ++ 44 ∷ rest) ≡ digits ∷ slice_split (λ byte. byte == 44) rest
split_digits [] rest e = refl
split_digits (digit ∷ digits) rest e =
    let parts = and_parts (is_digit digit) (list_all is_digit digits) e in
    let bounds = digit_bounds digit parts.0 in
    let low = bounds.0 in
    ap (λ t. cond t ([] ∷ slice_split (λ byte. byte == 44) (digits ++ 44 ∷ rest)) (onto_first digit (slice_split (λ byte. byte == 44) (digits ++ 44 ∷ rest)))) (ne_eqb digit 44 (λ f. omega (arith, f, low)))
    ∙ ap (onto_first digit) (split_digits digits rest parts.1)

all_digits : (t : Bool) (n found : ℕ) → Some found ≡ cond t (Some n) None → (t ≡ true) × (found ≡ n)
all_digits true n found e = (refl, cc)
all_digits false n found e = cc

plain_time : (time : List ℕ) (found : ℕ) → Some found ≡ number_in time → (list_all is_digit time ≡ true) × (without_blanks time ≡ time)
unfolding number_in
plain_time [] found e = cc
plain_time (byte ∷ bytes) found e =
    let all = (all_digits (is_digit byte && list_all is_digit bytes) (number_after 0 (byte ∷ bytes)) found e).0 in
    let parts = and_parts (is_digit byte) (list_all is_digit bytes) all in
    let bounds = digit_bounds byte parts.0 in
    let low = bounds.0 in
    (all, ap (λ t. cond t (without_blanks bytes) (byte ∷ bytes)) (ne_eqb byte 32 (λ f. omega (arith, f, low))))

plain_stamp : (before seen : ℕ) (time : List ℕ) → Some seen ≡ number_in time → seen ≤ 10 ^ 15 → Ok seen ≡ seen_by (stamp_time 1 before) (time_field Narrow (stamp_time 1 before) time)
plain_stamp before seen time e range =
    let value : 0 + 1 * seen ≡ seen = omega arith in
    sym (ap (λ n. check (nat_le n (10 ^ 15)) TooLarge >>= λ _. Ok n) value ∙ ap (λ t. check t TooLarge >>= λ _. Ok seen) (le-leb seen (10 ^ 15) range))
    ∙ ap (time_behind 0 1) e ∙ narrow_time before time

level_back : (level : Bool) → Some level ≡ level_in (level_digit level ∷ [])
level_back true = refl
level_back false = refl

level_field : (level : Bool) → map without_blanks (slice_split (λ byte. byte == 44) (level_digit level ∷ [])) ≡ (level_digit level ∷ []) ∷ []
level_field true = refl
level_field false = refl

line_back : (line : ℕ) → line ≤ 15 → Ok line ≡ line_field (decimal line)
line_back line low =
    sym (ap (λ t. check t Line >>= λ _. Ok line) (le-leb line 15 low))
    ∙ ap (λ o. ok_or o Number >>= λ n. check (nat_le n 15) Line >>= λ _. Ok n) (number_back line (omega arith))

fields_back : (edge : Edge) → edge.time ≤ 10 ^ 15 → edge.line ≤ 15 → fields (narrow_text edge) ≡ decimal edge.time ∷ decimal edge.line ∷ (level_digit edge.level ∷ []) ∷ []
unfolding fields narrow_text
fields_back edge range low =
    let time = plain_time (decimal edge.time) edge.time (number_back edge.time (omega arith)) in
    let line = plain_time (decimal edge.line) edge.line (number_back edge.line (omega arith)) in
    ap (map without_blanks) (split_digits (decimal edge.time) (decimal edge.line ++ (44 ∷ level_digit edge.level ∷ [])) time.0
    ∙ ap (λ parts. decimal edge.time ∷ parts) (split_digits (decimal edge.line) (level_digit edge.level ∷ []) line.0))
    ∙ ap (λ t. t ∷ without_blanks (decimal edge.line) ∷ map without_blanks (slice_split (λ byte. byte == 44) (level_digit edge.level ∷ []))) time.1
    ∙ ap (λ l. decimal edge.time ∷ l ∷ map without_blanks (slice_split (λ byte. byte == 44) (level_digit edge.level ∷ []))) line.1
    ∙ ap (λ parts. decimal edge.time ∷ decimal edge.line ∷ parts) (level_field edge.level)

-- the narrow row of an edge is a row with its time, and says its line and level
pub row_back : (edge : Edge) (before : ℕ) → edge.line ≤ 15 → edge.time ≤ 10 ^ 15 → before ≤ edge.time → IsStamped (stamp_time 1 before) (narrow_row Narrow (stamp_time 1 before) before (fields (narrow_text edge))) edge.time (edge ∷ [])
row_back edge before low range later =
    stamped Narrow (stamp_time 1 before) before (narrow_text edge) (decimal edge.time) (decimal edge.line) (level_digit edge.level ∷ []) edge.time edge.line edge.level (fields_back edge range low)
    (plain_stamp before edge.time (decimal edge.time) (number_back edge.time (omega arith)) range) (line_back edge.line low) (level_back edge.level) later
