-- Plain rows at the front of a text.
use Rattle.std.proofs.Common.{◌≡◌, ℕ, zero, suc, ◌+◌, ◌-◌, ◌<◌, ◌≤◌, ◌==◌, ◌&&◌, Bool, true, false, cond, Option, Some, None, List, [], ◌∷◌, ◌++◌, length, get_or, take, refl, sym, ◌∙◌, ap, subst, inl, inr, arith}
use Rattle.std.proofs.Math.Seq.{take-append-add}
use Rattle.std.proofs.lemmas.Bool.{ne_eqb, cases_eq, cases_Bool}
use Rattle.std.proofs.lemmas.List.{append_assoc, length-append, get_or-append-add}
use Rattle.std.specs.List.{list_all}
use Rattle.text_lines.specs.Lines.{without_cr}
use Rattle.line_base.specs.Texts.{cut_at, is_digit, is_number, number_after, number_in}
use Rattle.edge_trace.specs.Fields.{level_in}
use Rattle.edge_trace.specs.EdgeLists.{is_skipped}
use Rattle.edge_trace.specs.PlainRows.{BeginsWithNumber, SpellsEdge, IsHigh, IsPlainFront}
use Rattle.line_base.proofs.Cuts.{cut_at_mark, cut_at_other, cut_at_nil}
use Rattle.edge_trace.proofs.PlainRows.{plain_edge}

-- a text that is cut is its parts with the mark between them, and other bytes behind the mark are cut off alike
pub record IsCut (mark : ℕ) (text front rest : List ℕ) : Type 0 where
  pub joined : text ≡ front ++ mark ∷ rest
  pub again : (ys : List ℕ) → (front, Some ys) ≡ cut_at mark (front ++ mark ∷ ys)

some_is : {A : Type 0} (x y : A) → Some x ≡ Some y → x ≡ y
some_is x y e = cc

cut_here : (mark byte : ℕ) (bytes front rest : List ℕ) → byte ≡ mark → front ≡ [] → rest ≡ bytes → IsCut mark (byte ∷ bytes) front rest
cut_here mark byte bytes front rest same none e = record {
  joined = ap (λ (b : ℕ). b ∷ bytes) same ∙ ap (λ xs. mark ∷ xs) (sym e) ∙ ap (λ xs. xs ++ mark ∷ rest) (sym none);
  again = λ ys. subst (λ (f : List ℕ). (f, Some ys) ≡ cut_at mark (f ++ mark ∷ ys)) (sym none) (sym (cut_at_mark mark mark ys refl));
}

cut_later : (mark byte : ℕ) (bytes front inner rest : List ℕ) → (byte ≡ mark → ⊥) → front ≡ byte ∷ inner → IsCut mark bytes inner rest → IsCut mark (byte ∷ bytes) front rest
cut_later mark byte bytes front inner rest other e later = record {
  joined = ap (λ xs. byte ∷ xs) later.joined ∙ ap (λ xs. xs ++ mark ∷ rest) (sym e);
  again = λ ys. subst (λ (f : List ℕ). (f, Some ys) ≡ cut_at mark (f ++ mark ∷ ys)) (sym e)
      (sym (cut_at_other mark byte (inner ++ mark ∷ ys) other ∙ ap (λ (q : List ℕ × Option (List ℕ)). (byte ∷ q.0, q.1)) (sym (later.again ys))));
}

pub cut_parts : (mark : ℕ) (text front rest : List ℕ) → (front, Some rest) ≡ cut_at mark text → IsCut mark text front rest
cut_parts mark [] front rest e = let none : Some rest ≡ None = ap (λ (q : List ℕ × Option (List ℕ)). q.1) (e ∙ cut_at_nil mark) in absurd (cc)
cut_parts mark (byte ∷ bytes) front rest e = elim (cases_eq byte mark) [
  | inl same ↦ (let p = e ∙ cut_at_mark mark byte bytes same in cut_here mark byte bytes front rest same (ap (λ (q : List ℕ × Option (List ℕ)). q.0) p) (some_is rest bytes (ap (λ (q : List ℕ × Option (List ℕ)). q.1) p)))
  | inr other ↦ (let p = e ∙ cut_at_other mark byte bytes other in
      cut_later mark byte bytes front (cut_at mark bytes).0 rest other (ap (λ (q : List ℕ × Option (List ℕ)). q.0) p)
      (cut_parts mark bytes (cut_at mark bytes).0 rest (ap (λ (o : Option (List ℕ)). ((cut_at mark bytes).0, o)) (ap (λ (q : List ℕ × Option (List ℕ)). q.1) p))))
]

-- digits stand above a plus
digit_high : (byte : ℕ) (t : Bool) → (is_digit byte && t) ≡ true → (43 ≤ byte) × (t ≡ true)
digit_high byte t e = grind arith

pub digits_high : (field : List ℕ) → list_all is_digit field ≡ true → IsHigh field
digits_high [] e = tt
digits_high (byte ∷ bytes) e = let d = digit_high byte (list_all is_digit bytes) e in (d.0, digits_high bytes d.1)

number_high : (field : List ℕ) (number : ℕ) → number_in field ≡ Some number → IsHigh field
unfolding number_in
number_high [] number e = absurd (cc)
number_high (byte ∷ bytes) number e = elim (cases_Bool (is_number (byte ∷ bytes))) [
  | inl all ↦ digits_high (byte ∷ bytes) all
  | inr not ↦ (let none : None ≡ Some number = sym (ap (λ t. cond t (Some (number_after 0 (byte ∷ bytes))) None) not) ∙ e in absurd (cc))
]

pub high_append : (xs ys : List ℕ) → IsHigh xs → IsHigh ys → IsHigh (xs ++ ys)
high_append [] ys high more = more
high_append (x ∷ xs) ys high more = (high.0, high_append xs ys high.1 more)

pub no_low : (xs : List ℕ) (k : ℕ) → IsHigh xs → k < length xs → 43 ≤ get_or xs k 0
no_low [] k high within = absurd (omega arith)
no_low (x ∷ xs) zero high within = high.0
no_low (x ∷ xs) (suc k) high within = no_low xs k high.1 (omega arith)

pub no_cr : (xs : List ℕ) → IsHigh xs → without_cr xs ≡ xs
no_cr [] high = refl
no_cr (x ∷ []) high = ap (λ t. cond t [] (x ∷ [])) (ne_eqb x 13 (λ e. let h = high.0 in omega arith))
no_cr (x ∷ y ∷ xs) high = ap (λ line. x ∷ line) (no_cr (y ∷ xs) high.1)

pub not_skipped : (xs : List ℕ) → 0 < length xs → IsHigh xs → is_skipped xs ≡ false
not_skipped [] some high = absurd (omega arith)
not_skipped (x ∷ xs) some high = ne_eqb x 35 (λ e. let h = high.0 in omega arith)

level_high : (field : List ℕ) (high : Bool) → Some high ≡ level_in field → IsHigh field
level_high [] high e = tt
level_high (byte ∷ []) high e = elim (cases_eq byte 48) [
  | inl low ↦ (omega arith, tt)
  | inr other ↦ elim (cases_eq byte 49) [
    | inl one ↦ (omega arith, tt)
    | inr neither ↦ (let none : Some high ≡ None = e ∙ ap (λ t. cond t (Some false) (cond (byte == 49) (Some true) None)) (ne_eqb byte 48 other) ∙ ap (λ t. cond t (Some true) None) (ne_eqb byte 49 neither) in absurd (cc))
  ]
]
level_high (byte ∷ next ∷ bytes) high e = absurd (cc)

begins_again : (text rest ys : List ℕ) (number : ℕ) → (begins : BeginsWithNumber 44 text number rest) → BeginsWithNumber 44 (begins.front ++ 44 ∷ ys) number ys
begins_again text rest ys number begins = record {
  front = begins.front;
  cut = (cut_parts 44 text begins.front rest begins.cut).again ys;
  spelled = begins.spelled;
  no_blanks = begins.no_blanks;
}

module _ (text rest last : List ℕ) (time line : ℕ) (level : Bool) (first : BeginsWithNumber 44 text time rest) (second : BeginsWithNumber 44 rest line last) where
  -- what stands before the level
  abbrev lead : List ℕ
  lead = first.front ++ 44 ∷ (second.front ++ 44 ∷ [])

  lead_is : (ys : List ℕ) → lead ++ ys ≡ first.front ++ 44 ∷ (second.front ++ 44 ∷ ys)
  lead_is ys = append_assoc first.front (44 ∷ (second.front ++ 44 ∷ [])) ys ∙ ap (λ xs. first.front ++ 44 ∷ xs) (append_assoc second.front (44 ∷ []) ys)

  whole : text ≡ lead ++ last
  whole = (cut_parts 44 text first.front rest first.cut).joined ∙ ap (λ xs. first.front ++ 44 ∷ xs) (cut_parts 44 rest second.front last second.cut).joined ∙ sym (lead_is last)

  pub longer : length text ≡ length lead + length last
  longer = ap length whole ∙ length-append lead last

  lead_high : IsHigh lead
  lead_high = high_append first.front (44 ∷ (second.front ++ 44 ∷ [])) (number_high first.front time first.spelled)
      (omega arith, high_append second.front (44 ∷ []) (number_high second.front line second.spelled) (omega arith, tt))

  content_is : take (length lead + 1) text ≡ lead ++ take 1 last
  content_is = ap (take (length lead + 1)) whole ∙ take-append-add lead last 1

  pub plain_front_is : 2 ≤ length last → get_or last 1 0 ≡ 10 → Some level ≡ level_in (take 1 last) → (count : ℕ) → count ≡ length text - length last + 1 → IsPlainFront text (record { line = line; time = time; level = level }) count
  plain_front_is long lf e count count_is =
      let all = longer in
      let same : count ≡ length lead + 1 = omega arith in
      let content : take count text ≡ lead ++ take 1 last = ap (λ (n : ℕ). take n text) same ∙ content_is in
      record {
        front = record {
          within = omega arith;
          ends = ap (λ (n : ℕ). get_or text n 0) same ∙ ap (λ xs. get_or xs (length lead + 1) 0) whole ∙ get_or-append-add lead last 1 0 ∙ lf;
          some = omega arith;
          high = subst IsHigh (sym content) (high_append lead (take 1 last) lead_high (level_high (take 1 last) level e));
        };
        spells = subst (λ (xs : List ℕ). SpellsEdge xs (record { line = line; time = time; level = level })) (sym (content ∙ lead_is (take 1 last)))
            (plain_edge (first.front ++ 44 ∷ (second.front ++ 44 ∷ take 1 last)) (second.front ++ 44 ∷ take 1 last) (take 1 last) time line level
            (begins_again text rest (second.front ++ 44 ∷ take 1 last) time first) (begins_again rest last (take 1 last) line second) e);
      }
