-- Plain wide rows at the front of a text.
use Rattle.std.proofs.Common.{◌≡◌, ℕ, suc, ◌+◌, ◌-◌, ◌*◌, ◌^◌, ◌<◌, ◌≤◌, ◌&&◌, Bool, true, false, cond, replicate, Option, Some, None, List, [], ◌∷◌, ◌++◌, length, take, get_or, refl, sym, ◌∙◌, ap, subst, arith}
use Rattle.std.specs.Option.{option_map}
use Rattle.std.specs.List.{list_all}
use Rattle.std.proofs.Math.Seq.{take-append-add}
use Rattle.std.proofs.lemmas.Bool.{le-leb, ne_eqb}
use Rattle.std.proofs.lemmas.List.{take_more, append_assoc, append-nil, length-append, length_push, get_or-append-add}
use Rattle.line_base.specs.Texts.{cut_at, is_digit, is_number, number_after, number_in}
use Rattle.line_base.proofs.Cuts.{cut_at_other}
use Rattle.line_base.proofs.Numbers.{number_after_append}
use Rattle.edge_trace.specs.Fields.{fields, without_blanks, seconds_at, seconds_in, nanoseconds, level_in, levels_in}
use Rattle.edge_trace.specs.Readings.{stamp_time, time_behind}
use Rattle.edge_trace.specs.PlainRows.{BeginsWithNumber, IsHigh}
use Rattle.edge_trace.specs.WideFronts.{BeginsWithSeconds, level_byte, SpellsLevels, BeginsWithLevels, IsWideFront}
use Rattle.edge_trace.proofs.FieldCuts.{fields_last, fields_more}
use Rattle.edge_trace.proofs.Judging.{wide_time}
use Rattle.edge_trace.proofs.PlainRows.{time_is_in_range}
use Rattle.edge_trace.proofs.PlainFronts.{cut_parts, digits_high, high_append}
use Rattle.edge_trace.proofs.WideRows.{levels_cons, stamped_wide}

-- nine more digits
nine : (w : ℕ) (digits : List ℕ) → length digits ≡ 9 → number_after w digits ≡ w * 1000000000 + number_after 0 digits
nine w [] e = absurd (omega arith)
nine w (a ∷ []) e = absurd (omega arith)
nine w (a ∷ b ∷ []) e = absurd (omega arith)
nine w (a ∷ b ∷ c ∷ []) e = absurd (omega arith)
nine w (a ∷ b ∷ c ∷ d ∷ []) e = absurd (omega arith)
nine w (a ∷ b ∷ c ∷ d ∷ f ∷ []) e = absurd (omega arith)
nine w (a ∷ b ∷ c ∷ d ∷ f ∷ g ∷ []) e = absurd (omega arith)
nine w (a ∷ b ∷ c ∷ d ∷ f ∷ g ∷ h ∷ []) e = absurd (omega arith)
nine w (a ∷ b ∷ c ∷ d ∷ f ∷ g ∷ h ∷ i ∷ []) e = absurd (omega arith)
nine w (a ∷ b ∷ c ∷ d ∷ f ∷ g ∷ h ∷ i ∷ j ∷ []) e = omega arith
nine w (a ∷ b ∷ c ∷ d ∷ f ∷ g ∷ h ∷ i ∷ j ∷ k ∷ more) e = absurd (omega arith)

-- a field that is a number has digits alone
some_cond : (t : Bool) (x y : ℕ) → cond t (Some x) None ≡ Some y → (t ≡ true) × (x ≡ y)
some_cond true x y e = (refl, cc)
some_cond false x y e = cc

number_known : (field : List ℕ) (number : ℕ) → number_in field ≡ Some number → (is_number field ≡ true) × (number_after 0 field ≡ number)
unfolding number_in
number_known field number e = some_cond (is_number field) (number_after 0 field) number e

all_digits : (field : List ℕ) → is_number field ≡ true → list_all is_digit field ≡ true
all_digits [] e = refl
all_digits (byte ∷ bytes) e = e

digit_low : (byte : ℕ) (t : Bool) → (is_digit byte && t) ≡ true → (48 ≤ byte) × (t ≡ true)
digit_low byte t e = grind arith

-- a comma is not among digits
cut_past : (digits xs : List ℕ) → list_all is_digit digits ≡ true → cut_at 44 (digits ++ xs) ≡ (digits ++ (cut_at 44 xs).0, (cut_at 44 xs).1)
cut_past [] xs e = refl
cut_past (byte ∷ digits) xs e =
    let d = digit_low byte (list_all is_digit digits) e in
    cut_at_other 44 byte (digits ++ xs) (λ same. (let low = d.0 in omega arith))
    ∙ ap (λ (q : List ℕ × Option (List ℕ)). (byte ∷ q.0, q.1)) (cut_past digits xs d.1)

nine_decimals : (whole decimals : List ℕ) (time : ℕ) → is_number whole ≡ true → is_number decimals ≡ true → length decimals ≡ 9 → number_after 0 (whole ++ decimals) ≡ time → seconds_at (whole, Some decimals) ≡ Some time
unfolding seconds_at
nine_decimals whole decimals time t u long e =
    let none : 9 - length decimals ≡ 0 = omega arith in
    let digits : nanoseconds whole decimals ≡ time =
    ap (λ (n : ℕ). number_after 0 (whole ++ (decimals ++ replicate n 48))) none
    ∙ ap (λ (ds : List ℕ). number_after 0 (whole ++ ds)) (append-nil decimals) ∙ e in
    rw (t, u, le-leb (length decimals) 9 (omega arith)) (ap (λ (n : ℕ). Some n) digits)

seconds_cut : (field whole decimals : List ℕ) (time : ℕ) → (whole, Some decimals) ≡ cut_at 46 field → seconds_at (whole, Some decimals) ≡ Some time → seconds_in field ≡ Some time
seconds_cut field whole decimals time e f = ap seconds_at (sym e) ∙ f

module _ (text decimals rest : List ℕ) (whole part : ℕ) (first : BeginsWithNumber 46 text whole decimals) (second : BeginsWithNumber 44 decimals part rest) where
  pub shorter : length rest + length second.front + 1 ≡ length decimals
  shorter =
      let parts = (cut_parts 44 decimals second.front rest second.cut).joined in
      let all : length decimals ≡ length second.front + length (44 ∷ rest) = ap length parts ∙ length-append second.front (44 ∷ rest) in
      omega arith

  -- the seconds with their point and their decimals
  abbrev field : List ℕ
  field = first.front ++ 46 ∷ second.front

  seconds_cut_off : (field, Some rest) ≡ cut_at 44 text
  seconds_cut_off =
      let digits = all_digits first.front (number_known first.front whole first.spelled).0 in
      sym (ap (cut_at 44) (cut_parts 46 text first.front decimals first.cut).joined ∙ cut_past first.front (46 ∷ decimals) digits
      ∙ ap (λ (q : List ℕ × Option (List ℕ)). (first.front ++ q.0, q.1)) (cut_at_other 44 46 decimals (λ e. omega arith) ∙ ap (λ (q : List ℕ × Option (List ℕ)). (46 ∷ q.0, q.1)) (sym second.cut)))

  seconds_spelled : length decimals ≡ length rest + 10 → seconds_in field ≡ Some (whole * 1000000000 + part)
  seconds_spelled ten =
      let one = number_known first.front whole first.spelled in
      let two = number_known second.front part second.spelled in
      let longer = shorter in
      let long : length second.front ≡ 9 = omega arith in
      seconds_cut field first.front second.front (whole * 1000000000 + part) ((cut_parts 46 text first.front decimals first.cut).again second.front)
      (nine_decimals first.front second.front (whole * 1000000000 + part) one.0 two.0 long
      (number_after_append 0 first.front second.front ∙ nine (number_after 0 first.front) second.front long
      ∙ ap (λ (w : ℕ). w * 1000000000 + number_after 0 second.front) one.1 ∙ ap (λ (p : ℕ). whole * 1000000000 + p) two.1))

  unblanked : (front : List ℕ) → is_number front ≡ true → without_blanks (front ++ 46 ∷ second.front) ≡ front ++ 46 ∷ second.front
  unblanked [] e = refl
  unblanked (byte ∷ bytes) e =
      let d = digit_low byte (list_all is_digit bytes) e in
      ap (λ t. cond t (without_blanks (bytes ++ 46 ∷ second.front)) (byte ∷ (bytes ++ 46 ∷ second.front))) (ne_eqb byte 32 (λ blank. (let low = d.0 in omega arith)))

  pub begins_with_seconds : length decimals ≡ length rest + 10 → BeginsWithSeconds text (whole * 1000000000 + part) rest
  begins_with_seconds ten =
      let one = (number_known first.front whole first.spelled).0 in
      let two = (number_known second.front part second.spelled).0 in
      record {
        front = field;
        cut = seconds_cut_off;
        spelled = seconds_spelled ten;
        no_blanks = unblanked first.front one;
        high = high_append first.front (46 ∷ second.front) (digits_high first.front (all_digits first.front one)) (omega arith, digits_high second.front (all_digits second.front two));
      }

-- the bytes of levels, each with a comma
abbrev pub pairs : List Bool → List ℕ
pairs [] = []
pairs (level ∷ levels) = level_byte level ∷ 44 ∷ pairs levels

-- so many levels were read at the front of a text
pub record LevelsBefore (text : List ℕ) (i : ℕ) (levels : List Bool) : Type 0 where
  pub long : length levels ≡ i
  pub is : take (2 * i) text ≡ pairs levels

pub no_levels : (text : List ℕ) (levels : List Bool) → levels ≡ [] → LevelsBefore text 0 levels
no_levels text levels e = record { long = ap length e; is = sym (ap pairs e) }

pairs_push : (levels : List Bool) (level : Bool) → pairs (levels ++ level ∷ []) ≡ pairs levels ++ level_byte level ∷ 44 ∷ []
pairs_push [] level = refl
pairs_push (first ∷ levels) level = ap (λ (ps : List ℕ). level_byte first ∷ 44 ∷ ps) (pairs_push levels level)

level_read : (text : List ℕ) (i : ℕ) (levels : List Bool) (level : Bool) → LevelsBefore text i levels → 2 * i < length text → get_or text (2 * i) 0 ≡ level_byte level → take (2 * i + 1) text ≡ pairs levels ++ level_byte level ∷ []
level_read text i levels level so_far within e =
    take_more text (2 * i) 0 within ∙ ap (λ (xs : List ℕ). xs ++ get_or text (2 * i) 0 ∷ []) so_far.is ∙ ap (λ (b : ℕ). pairs levels ++ b ∷ []) e

pub one_more_pair : (text : List ℕ) (i : ℕ) (levels : List Bool) (level : Bool) → LevelsBefore text i levels → 2 * i + 1 < length text → get_or text (2 * i) 0 ≡ level_byte level → get_or text (2 * i + 1) 0 ≡ 44 → LevelsBefore text (i + 1) (levels ++ level ∷ [])
one_more_pair text i levels level so_far within e f =
    let next : 2 * (i + 1) ≡ 2 * i + 1 + 1 = omega arith in
    record {
      long = length_push levels level ∙ ap (λ (n : ℕ). n + 1) so_far.long;
      is = ap (λ (n : ℕ). take n text) next ∙ take_more text (2 * i + 1) 0 within
          ∙ ap (λ (xs : List ℕ). xs ++ get_or text (2 * i + 1) 0 ∷ []) (level_read text i levels level so_far (omega arith) e)
          ∙ append_assoc (pairs levels) (level_byte level ∷ []) (get_or text (2 * i + 1) 0 ∷ [])
          ∙ ap (λ (b : ℕ). pairs levels ++ level_byte level ∷ b ∷ []) f
          ∙ sym (pairs_push levels level);
    }

-- the fields of levels
no_fields : levels_in [] ≡ Some []
unfolding levels_in
no_fields = refl

last_cut : (level : Bool) → (level_byte level ∷ [], None) ≡ cut_at 44 (level_byte level ∷ [])
unfolding cut_at
last_cut false = refl
last_cut true = refl

pair_cut : (level : Bool) (rest : List ℕ) → (level_byte level ∷ [], Some rest) ≡ cut_at 44 (level_byte level ∷ 44 ∷ rest)
unfolding cut_at
pair_cut false rest = refl
pair_cut true rest = refl

bare : (level : Bool) → without_blanks (level_byte level ∷ []) ≡ level_byte level ∷ []
bare false = refl
bare true = refl

byte_is : (level : Bool) → level_in (level_byte level ∷ []) ≡ Some level
byte_is false = refl
byte_is true = refl

byte_high : (level : Bool) → 43 ≤ level_byte level
byte_high false = omega arith
byte_high true = omega arith

pairs_spell : (levels : List Bool) (last : Bool) → SpellsLevels (pairs levels ++ level_byte last ∷ []) (levels ++ last ∷ [])
pairs_spell [] last =
    let parts : fields (level_byte last ∷ []) ≡ (level_byte last ∷ []) ∷ [] = fields_last (level_byte last ∷ []) (level_byte last ∷ []) (last_cut last) ∙ ap (λ (f : List ℕ). f ∷ []) (bare last) in
    record {
      counted = ap length parts;
      spelled = ap levels_in parts ∙ levels_cons (level_byte last ∷ []) [] last (byte_is last) ∙ ap (option_map (λ more. last ∷ more)) no_fields;
      high = (byte_high last, tt);
    }
pairs_spell (level ∷ levels) last =
    let later = pairs_spell levels last in
    let rest : List ℕ = pairs levels ++ level_byte last ∷ [] in
    let parts : fields (level_byte level ∷ 44 ∷ rest) ≡ (level_byte level ∷ []) ∷ fields rest = fields_more (level_byte level ∷ 44 ∷ rest) (level_byte level ∷ []) rest (pair_cut level rest) ∙ ap (λ (f : List ℕ). f ∷ fields rest) (bare level) in
    record {
      counted = ap length parts ∙ ap suc later.counted;
      spelled = ap levels_in parts ∙ levels_cons (level_byte level ∷ []) (fields rest) level (byte_is level) ∙ ap (option_map (λ more. level ∷ more)) later.spelled;
      high = (byte_high level, (omega arith, later.high));
    }

pub begins_with_levels : (text : List ℕ) (others : ℕ) (levels : List Bool) (last : Bool) → LevelsBefore text others levels → 2 * others + 1 < length text → get_or text (2 * others) 0 ≡ level_byte last → get_or text (2 * others + 1) 0 ≡ 10 → BeginsWithLevels text others (levels ++ last ∷ [])
begins_with_levels text others levels last so_far within e lf = record {
  within = within;
  ends = lf;
  counted = length_push levels last ∙ ap (λ (n : ℕ). n + 1) so_far.long;
  spells = subst (λ (xs : List ℕ). SpellsLevels xs (levels ++ last ∷ [])) (sym (level_read text others levels last so_far (omega arith) e)) (pairs_spell levels last);
}

pub behind_seconds : (text rest : List ℕ) (time : ℕ) → (seconds : BeginsWithSeconds text time rest) → length text ≡ length seconds.front + 1 + length rest
behind_seconds text rest time seconds =
    let all : length text ≡ length seconds.front + length (44 ∷ rest) = ap length (cut_parts 44 text seconds.front rest seconds.cut).joined ∙ length-append seconds.front (44 ∷ rest) in
    omega arith

-- a wide row without a fault
module _ (columns before others count time : ℕ) (text rest : List ℕ) (levels : List Bool) (seconds : BeginsWithSeconds text time rest) (row : BeginsWithLevels rest others levels) where
  abbrev line : List ℕ
  line = take (2 * others + 1) rest

  abbrev lead : List ℕ
  lead = seconds.front ++ 44 ∷ []

  lead_is : (ys : List ℕ) → lead ++ ys ≡ seconds.front ++ 44 ∷ ys
  lead_is ys = append_assoc seconds.front (44 ∷ []) ys

  whole : text ≡ lead ++ rest
  whole = (cut_parts 44 text seconds.front rest seconds.cut).joined ∙ sym (lead_is rest)

  pub wide_front_is : columns ≡ others + 1 → before ≤ time → time ≤ 10 ^ 15 → count + length rest ≡ length text + (2 * others + 1) → IsWideFront columns before text time levels count
  wide_front_is columns_are later in_range count_is =
      let all : length text ≡ length lead + length rest = ap length whole ∙ length-append lead rest in
      let same : count ≡ length lead + (2 * others + 1) = omega arith in
      let within : 2 * others + 1 < length rest = row.within in
      let spells = row.spells in
      let content : take count text ≡ lead ++ line = ap (λ (n : ℕ). take n text) same ∙ ap (take (length lead + (2 * others + 1))) whole ∙ take-append-add lead rest (2 * others + 1) in
      let parts : fields (take count text) ≡ seconds.front ∷ fields line =
      ap fields (content ∙ lead_is line) ∙ fields_more (seconds.front ++ 44 ∷ line) seconds.front line ((cut_parts 44 text seconds.front rest seconds.cut).again line)
      ∙ ap (λ (f : List ℕ). f ∷ fields line) seconds.no_blanks in
      record {
        front = record {
          within = omega arith;
          ends = ap (λ (n : ℕ). get_or text n 0) same ∙ ap (λ (xs : List ℕ). get_or xs (length lead + (2 * others + 1)) 0) whole ∙ get_or-append-add lead rest (2 * others + 1) 0 ∙ row.ends;
          some = omega arith;
          high = subst IsHigh (sym content) (high_append lead line (high_append seconds.front (44 ∷ []) seconds.high (omega arith, tt)) spells.high);
        };
        row = stamped_wide columns (stamp_time 1 before) before (take count text) seconds.front (fields line) time levels parts (spells.counted ∙ row.counted ∙ sym columns_are)
            (time_is_in_range time in_range ∙ ap (time_behind 0 1) (sym seconds.spelled) ∙ wide_time columns before seconds.front) (sym spells.spelled) later;
      }
