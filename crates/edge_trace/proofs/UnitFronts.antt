-- Plain rows of version 2 at the front of a text, whose times count units.
use Rattle.std.proofs.Common.{◌≡◌, ℕ, ◌+◌, ◌≤◌, cond, Option, Some, None, List, [], ◌∷◌, take, refl, sym, ◌∙◌, ap, subst, inl, inr, arith, add-one}
use Rattle.std.specs.Option.{option_map}
use Rattle.std.specs.List.{onto_first}
use Rattle.std.proofs.lemmas.Bool.{cases_eq, ne_eqb}
use Rattle.line_base.specs.declared.edge.Edge.{Edge}
use Rattle.line_base.specs.Texts.{cut_at, number_in, capped}
use Rattle.edge_trace.specs.Fields.{fields, without_blanks}
use Rattle.edge_trace.specs.Rows.{Units, time_field, narrow_row}
use Rattle.edge_trace.specs.Readings.{stamp_time, time_behind, seen_by, IsStamped}
use Rattle.edge_trace.specs.PlainRows.{IsHigh, IsPlainFront, IsRowFront, IsInUnits}
use Rattle.line_base.proofs.Cuts.{cut_at_mark, cut_at_other, cut_at_nil}
use Rattle.edge_trace.proofs.FieldCuts.{fields_last, fields_more}
use Rattle.edge_trace.proofs.Judging.{stamped, step_time, no_field_time, absolute_time}
use Rattle.edge_trace.proofs.PlainRows.{line_is_in_range}

-- a number that is small enough is what it is capped to
pub not_capped : (number : ℕ) → number ≤ 1000000000000000 → Some number ≡ option_map capped (Some number)
not_capped number small = (let same : number ≡ capped number = omega arith in ap (λ (n : ℕ). Some n) same)

-- a plus begins no number
not_plus : (byte : ℕ) (bytes : List ℕ) (number : ℕ) → number_in (byte ∷ bytes) ≡ Some number → byte ≡ 43 → ⊥
unfolding number_in
not_plus byte bytes number e plus = (let none : None ≡ Some number = subst (λ (b : ℕ). number_in (b ∷ bytes) ≡ Some number) plus e in cc)

number_time : (unit before number : ℕ) (field : List ℕ) → number_in field ≡ Some number → time_behind 0 unit (number_in field) ≡ seen_by (stamp_time unit before) (time_field (Units unit) (stamp_time unit before) field)
number_time unit before number [] e = no_field_time unit before [] refl
number_time unit before number (byte ∷ bytes) e = absolute_time unit before (byte ∷ bytes) bytes byte refl (not_plus byte bytes number e)

-- a plus before a text belongs to its first field
front_unblanked : (content front : List ℕ) (rest : Option (List ℕ)) → (front, rest) ≡ cut_at 44 content → IsHigh content → without_blanks front ≡ front
front_unblanked [] front rest e high =
    let none : front ≡ [] = ap (λ (q : List ℕ × Option (List ℕ)). q.0) (e ∙ cut_at_nil 44) in
    subst (λ (f : List ℕ). without_blanks f ≡ f) (sym none) refl
front_unblanked (byte ∷ bytes) front rest e high = elim (cases_eq byte 44) [
  | inl same ↦ (let none : front ≡ [] = ap (λ (q : List ℕ × Option (List ℕ)). q.0) (e ∙ cut_at_mark 44 byte bytes same) in
      subst (λ (f : List ℕ). without_blanks f ≡ f) (sym none) refl)
  | inr other ↦ (let some : front ≡ byte ∷ (cut_at 44 bytes).0 = ap (λ (q : List ℕ × Option (List ℕ)). q.0) (e ∙ cut_at_other 44 byte bytes other) in
      subst (λ (f : List ℕ). without_blanks f ≡ f) (sym some)
      (ap (λ t. cond t (without_blanks (cut_at 44 bytes).0) (byte ∷ (cut_at 44 bytes).0)) (ne_eqb byte 32 (λ blank. (let h = high.0 in omega arith)))))
]

plus_cut : (content : List ℕ) (cut : List ℕ × Option (List ℕ)) → cut ≡ cut_at 44 content → (43 ∷ cut.0, cut.1) ≡ cut_at 44 (43 ∷ content)
plus_cut content cut e = ap (λ (q : List ℕ × Option (List ℕ)). (43 ∷ q.0, q.1)) e ∙ sym (cut_at_other 44 43 content (λ f. omega arith))

plus_parts : (content : List ℕ) (cut : List ℕ × Option (List ℕ)) → cut ≡ cut_at 44 content → IsHigh content → fields (43 ∷ content) ≡ onto_first 43 (fields content)
plus_parts content (front, None) e high =
    fields_last (43 ∷ content) (43 ∷ front) (plus_cut content (front, None) e)
    ∙ ap (λ (f : List ℕ). (43 ∷ f) ∷ []) (sym (front_unblanked content front None e high))
    ∙ ap (onto_first 43) (sym (fields_last content front e))
plus_parts content (front, Some rest) e high =
    fields_more (43 ∷ content) (43 ∷ front) rest (plus_cut content (front, Some rest) e)
    ∙ ap (λ (f : List ℕ). (43 ∷ f) ∷ fields rest) (sym (front_unblanked content front (Some rest) e high))
    ∙ ap (onto_first 43) (sym (fields_more content front rest e))

plus_fields : (content time : List ℕ) (others : List (List ℕ)) → fields content ≡ time ∷ others → IsHigh content → fields (43 ∷ content) ≡ (43 ∷ time) ∷ others
plus_fields content time others e high = plus_parts content (cut_at 44 content) refl high ∙ ap (onto_first 43) e

same_edge : (start unit before : ℕ) (written edge : Edge) → IsInUnits start unit before written edge → record { line = written.line; time = edge.time; level = written.level } ≡ edge
same_edge start unit before written edge known =
    ap (λ (line : ℕ). record { line = line; time = edge.time; level = written.level }) (sym known.line_is)
    ∙ ap (λ level. record { line = edge.line; time = edge.time; level = level }) (sym known.level_is)

module _ (unit before : ℕ) (text : List ℕ) (written edge : Edge) (count : ℕ) where
  -- a number of units from the start of the list
  pub absolute_front_is : IsPlainFront text written count → IsInUnits 0 unit before written edge → written.line ≤ 15 → IsRowFront (Units unit) before text edge count
  absolute_front_is plain known line =
      let spells = plain.spells in
      record {
        front = plain.front;
        row = subst (λ (said : Edge). IsStamped (stamp_time unit before) (narrow_row (Units unit) (stamp_time unit before) before (fields (take count text))) edge.time (said ∷ [])) (same_edge 0 unit before written edge known)
            (stamped (Units unit) (stamp_time unit before) before (take count text) spells.time spells.line spells.level edge.time written.line written.level spells.parts
            (known.time_is ∙ ap (time_behind 0 unit) (sym spells.time_is) ∙ number_time unit before written.time spells.time spells.time_is)
            (line_is_in_range spells.line written.line spells.line_is line) (sym spells.level_is) known.later);
      }

  -- a number of units since the row before, behind a plus
  pub step_front_is : IsPlainFront text written count → IsInUnits before unit before written edge → written.line ≤ 15 → IsRowFront (Units unit) before (43 ∷ text) edge (count + 1)
  step_front_is plain known line =
      let spells = plain.spells in
      let front = plain.front in
      let high : IsHigh (take count text) = front.high in
      rw (add-one count) (record {
        front = record {
          within = (let w = front.within in omega arith);
          ends = front.ends;
          some = omega arith;
          high = (omega arith, high);
        };
        row = subst (λ (said : Edge). IsStamped (stamp_time unit before) (narrow_row (Units unit) (stamp_time unit before) before (fields (43 ∷ take count text))) edge.time (said ∷ [])) (same_edge before unit before written edge known)
            (stamped (Units unit) (stamp_time unit before) before (43 ∷ take count text) (43 ∷ spells.time) spells.line spells.level edge.time written.line written.level
            (plus_fields (take count text) spells.time (spells.line ∷ spells.level ∷ []) spells.parts high)
            (known.time_is ∙ ap (time_behind before unit) (sym spells.time_is) ∙ step_time unit before (43 ∷ spells.time) spells.time 43 refl refl)
            (line_is_in_range spells.line written.line spells.line_is line) (sym spells.level_is) known.later);
      })
