-- The inserted ones of a frame, and how many bits it has.
--     misses_first, misses_more, misses_few      the next inserted one, and the group behind it
--     without-more, without-few      the next group
--     one_at      an inserted one, where none is missed
--     not_longer      a frame of which no bit is forbidden isn't too long
--     length-without_ones, all_groups      how many bits the groups have
--     goes-on, open-more      an interval that leaves a frame unfinished
--     verdict-none, verdict-broken, verdict-unfinished, verdict-whole      what an interval comes to
use Rattle.std.proofs.Common.{◌≡◌, ℕ, zero, suc, ◌+◌, ◌*◌, ◌-◌, ◌/◌, ◌%◌, ◌<◌, ◌≤◌, ◌⊎◌, Bool, true, false, if◌then◌else◌, None, Some, List, [], ◌∷◌, ◌++◌, length, take, drop, replicate, get_or, refl, sym, ◌∙◌, ap, subst, append_assoc, append-nil, inl, inr, arith}
use Rattle.std.proofs.Math.Nat.{div-add-mod, mod-lt}
use Rattle.std.proofs.lemmas.Bool.{cases_lt, eq-eqb, ne_eqb}
use Rattle.std.proofs.lemmas.List.{length-append, length-drop, length-replicate}
use Rattle.line_base.specs.declared.rule.Rule.{Rule}
use Rattle.line_base.specs.declared.rule.Rule.TheVariants.{SyncBit}
use Rattle.psi5_downlink.specs.declared.down.Form.{Form}
use Rattle.psi5_downlink.specs.declared.down.Form.TheVariants.{Short, Long, XLong}
use Rattle.psi5_downlink.specs.declared.verdict.Verdict.TheVariants.{Broken, Unfinished}
use Rattle.psi5_downlink.specs.Frames.{field_width, frame_length, group_count, without_ones}
use Rattle.psi5_downlink.specs.Kept.{IsOpen, MayGoOn}
use Rattle.psi5_downlink.specs.Reading.{bits_in, checked_groups, forbidden, misses_one, verdict}

-- ---- the next inserted one
pub misses_none : misses_one [] ≡ false
unfolding misses_one
misses_none = refl

pub misses_first : (bits : List Bool) → misses_one (false ∷ bits) ≡ true
unfolding misses_one
misses_first bits = refl

pub misses_more : (bits : List Bool) → 3 ≤ length bits → misses_one (true ∷ bits) ≡ misses_one (drop 3 bits)
unfolding misses_one
misses_more [] many = absurd (omega (arith, many))
misses_more (a ∷ []) many = absurd (omega (arith, many))
misses_more (a ∷ b ∷ []) many = absurd (omega (arith, many))
misses_more (a ∷ b ∷ c ∷ bits) many = refl

pub misses_few : (bits : List Bool) → length bits < 3 → misses_one (true ∷ bits) ≡ false
unfolding misses_one
misses_few [] few = refl
misses_few (a ∷ []) few = refl
misses_few (a ∷ b ∷ []) few = refl
misses_few (a ∷ b ∷ c ∷ bits) few = absurd (omega (arith, few))

-- ---- the next group
pub without-none : (bits : List Bool) → length bits < 4 → without_ones bits ≡ []
unfolding without_ones
without-none [] few = refl
without-none (a ∷ []) few = refl
without-none (a ∷ b ∷ []) few = refl
without-none (a ∷ b ∷ c ∷ []) few = refl
without-none (a ∷ b ∷ c ∷ d ∷ bits) few = absurd (omega (arith, few))

pub without-more : (bits : List Bool) → 4 ≤ length bits → without_ones bits ≡ get_or (take 4 bits) 0 false ∷ get_or (take 4 bits) 1 false ∷ get_or (take 4 bits) 2 false ∷ without_ones (drop 4 bits)
unfolding without_ones
without-more [] many = absurd (omega (arith, many))
without-more (a ∷ []) many = absurd (omega (arith, many))
without-more (a ∷ b ∷ []) many = absurd (omega (arith, many))
without-more (a ∷ b ∷ c ∷ []) many = absurd (omega (arith, many))
without-more (a ∷ b ∷ c ∷ d ∷ bits) many = refl

pub group_more : (kept one two three rest whole : List Bool) → one ≡ kept ++ get_or (take 4 rest) 0 false ∷ [] → two ≡ one ++ get_or (take 4 rest) 1 false ∷ [] → three ≡ two ++ get_or (take 4 rest) 2 false ∷ []
    → 4 ≤ length rest → kept ++ without_ones rest ≡ whole → three ++ without_ones (drop 4 rest) ≡ whole
group_more kept one two three rest whole first second third many before =
    let a = get_or (take 4 rest) 0 false in
    let b = get_or (take 4 rest) 1 false in
    let c = get_or (take 4 rest) 2 false in
    let left = without_ones (drop 4 rest) in
    ap (λ l. l ++ left) third ∙ append_assoc two (c ∷ []) left
    ∙ ap (λ l. l ++ c ∷ left) second ∙ append_assoc one (b ∷ []) (c ∷ left)
    ∙ ap (λ l. l ++ b ∷ c ∷ left) first ∙ append_assoc kept (a ∷ []) (b ∷ c ∷ left)
    ∙ ap (λ l. kept ++ l) (sym (without-more rest many)) ∙ before

pub group_kept : (kept one two three rest group others whole : List Bool) → group ≡ take 4 rest → others ≡ drop 4 rest → one ≡ kept ++ get_or group 0 false ∷ [] → two ≡ one ++ get_or group 1 false ∷ []
    → three ≡ two ++ get_or group 2 false ∷ [] → 4 ≤ length rest → kept ++ without_ones rest ≡ whole → length kept + length rest ≤ 44
    → (three ++ without_ones others ≡ whole) × (length three + length others ≤ 44)
group_kept kept one two three rest group others whole front back first second third many before room =
    let first4 = rw front at first in
    let second4 = rw front at second in
    let third4 = rw front at third in
    let left : length others ≡ length rest - 4 = ap length back ∙ length-drop 4 rest in
    let longer : length three ≡ length kept + 3 =
    omega (arith, ap length third, length-append two (get_or group 2 false ∷ []), ap length second, length-append one (get_or group 1 false ∷ []), ap length first, length-append kept (get_or group 0 false ∷ [])) in
    (ap (λ l. three ++ without_ones l) back ∙ group_more kept one two three rest whole first4 second4 third4 many before, omega (arith, longer, left, room, many))

pub group_last : (kept rest whole : List Bool) → length rest < 4 → kept ++ without_ones rest ≡ whole → kept ≡ whole
group_last kept rest whole few before = sym (append-nil kept) ∙ ap (λ l. kept ++ l) (sym (without-none rest few)) ∙ before

pub length-without_ones : (groups : ℕ) (bits : List Bool) → length bits ≡ 4 * groups → length (without_ones bits) ≡ 3 * groups
unfolding without_ones
length-without_ones zero [] e = omega arith
length-without_ones zero (a ∷ bits) e = absurd (omega (arith, e))
length-without_ones (suc groups) [] e = absurd (omega (arith, e))
length-without_ones (suc groups) (a ∷ []) e = absurd (omega (arith, e))
length-without_ones (suc groups) (a ∷ b ∷ []) e = absurd (omega (arith, e))
length-without_ones (suc groups) (a ∷ b ∷ c ∷ []) e = absurd (omega (arith, e))
length-without_ones (suc groups) (a ∷ b ∷ c ∷ d ∷ bits) e = omega (arith, length-without_ones groups bits (omega (arith, e)))

-- ---- a frame isn't too long
pub one_at : (groups : ℕ) (bits : List Bool) → misses_one bits ≡ false → 4 * groups < length bits → get_or bits (4 * groups) false ≡ true
unfolding misses_one
one_at groups [] ones within = absurd (omega (arith, within))
one_at groups (false ∷ bits) ones within = absurd cc
one_at zero (true ∷ bits) ones within = refl
one_at (suc groups) (true ∷ []) ones within = absurd (omega (arith, within))
one_at (suc groups) (true ∷ a ∷ []) ones within = absurd (omega (arith, within))
one_at (suc groups) (true ∷ a ∷ b ∷ []) ones within = absurd (omega (arith, within))
one_at (suc groups) (true ∷ a ∷ b ∷ c ∷ bits) ones within =
    let e : 4 * suc groups ≡ suc (suc (suc (suc (4 * groups)))) = omega arith in
    ap (λ n. get_or (true ∷ a ∷ b ∷ c ∷ bits) n false) e ∙ one_at groups bits ones (omega (arith, within))

-- a zero among those of an interval
zero_at : (bits : List Bool) (missing place : ℕ) → length bits ≤ place → place < length bits + missing → get_or (bits ++ (replicate missing false ++ true ∷ [])) place false ≡ false
zero_at [] zero place low high = absurd (omega (arith, low, high))
zero_at [] (suc missing) zero low high = refl
zero_at [] (suc missing) (suc place) low high = zero_at [] missing place (omega arith) (omega (arith, high))
zero_at (b ∷ bits) missing zero low high = absurd (omega (arith, low))
zero_at (b ∷ bits) missing (suc place) low high = zero_at bits missing place (omega (arith, low)) (omega (arith, high))

allowed : (bits : List Bool) (groups : ℕ) → forbidden bits ≡ None → 1 + 4 * groups < length bits → get_or bits (1 + 4 * groups) false ≡ true
allowed [] groups fine within = absurd (omega (arith, within))
allowed (true ∷ bits) groups fine within = absurd cc
allowed (false ∷ bits) groups fine within =
    let e : 1 + 4 * groups ≡ suc (4 * groups) = omega arith in
    ap (λ n. get_or (false ∷ bits) n false) e ∙ one_at groups bits (by_test (misses_one bits) fine) (omega (arith, within))
  where
    by_test : (misses : Bool) → (if misses then Some SyncBit else None) ≡ None → misses ≡ false
    by_test true e = absurd cc
    by_test false e = refl

long : (bits : List Bool) (missing : ℕ) → length (bits ++ (replicate missing false ++ true ∷ [])) ≡ length bits + missing + 1
long bits missing = omega (arith, length-append bits (replicate missing false ++ true ∷ []), length-append (replicate missing false) (true ∷ []), length-replicate missing false)

pub not_longer : (groups periods : ℕ) (bits : List Bool) → length bits < 2 + 4 * groups → forbidden (bits ++ bits_in periods) ≡ None → length (bits ++ bits_in periods) ≤ 2 + 4 * groups
not_longer groups periods bits due fine = by_order (cases_lt (1 + 4 * groups) (length bits + (periods - 1)))
  where
    by_order : (1 + 4 * groups < length bits + (periods - 1)) ⊎ (length bits + (periods - 1) ≤ 1 + 4 * groups) → length (bits ++ bits_in periods) ≤ 2 + 4 * groups
    by_order (inl more) =
        let none : false ≡ true = sym (zero_at bits (periods - 1) (1 + 4 * groups) (omega (arith, due)) more) ∙ allowed (bits ++ bits_in periods) groups fine (omega (arith, more, long bits (periods - 1))) in
        absurd cc
    by_order (inr fits) = omega (arith, fits, long bits (periods - 1))

-- ---- an interval that leaves a frame unfinished
-- no inserted one is missed where the zeros are bits of one group
none-missed : (groups free missing : ℕ) (bits : List Bool) → misses_one bits ≡ false → length bits + free ≡ 4 * groups → free ≤ 3 → missing ≤ free → misses_one (bits ++ (replicate missing false ++ true ∷ [])) ≡ false
unfolding misses_one
none-missed groups free zero [] ones all few fits = refl
none-missed groups free (suc missing) [] ones all few fits = absurd (omega (arith, all, few, fits))
none-missed groups free missing (false ∷ bits) ones all few fits = absurd cc
none-missed groups free zero (true ∷ []) ones all few fits = refl
none-missed groups free (suc zero) (true ∷ []) ones all few fits = refl
none-missed groups free (suc (suc zero)) (true ∷ []) ones all few fits = refl
none-missed groups free (suc (suc (suc zero))) (true ∷ []) ones all few fits = refl
none-missed groups free (suc (suc (suc (suc missing)))) (true ∷ []) ones all few fits = absurd (omega (arith, few, fits))
none-missed groups free zero (true ∷ a ∷ []) ones all few fits = refl
none-missed groups free (suc zero) (true ∷ a ∷ []) ones all few fits = refl
none-missed groups free (suc (suc zero)) (true ∷ a ∷ []) ones all few fits = refl
none-missed groups free (suc (suc (suc missing))) (true ∷ a ∷ []) ones all few fits = absurd (omega (arith, all, few, fits))
none-missed groups free zero (true ∷ a ∷ b ∷ []) ones all few fits = refl
none-missed groups free (suc zero) (true ∷ a ∷ b ∷ []) ones all few fits = refl
none-missed groups free (suc (suc missing)) (true ∷ a ∷ b ∷ []) ones all few fits = absurd (omega (arith, all, few, fits))
none-missed zero free missing (true ∷ a ∷ b ∷ c ∷ bits) ones all few fits = absurd (omega (arith, all))
none-missed (suc groups) free missing (true ∷ a ∷ b ∷ c ∷ bits) ones all few fits = none-missed groups free missing bits ones (omega (arith, all)) few fits

-- how many bits there are before the next inserted 1
free_of : (count : ℕ) → 1 ≤ count → count ≤ 45 → ((count - 1) + (45 - count) % 4 ≡ 4 * (11 - (45 - count) / 4)) × ((45 - count) % 4 ≤ 3)
free_of count some few =
    let parts : 4 * ((45 - count) / 4) + (45 - count) % 4 ≡ 45 - count = div-add-mod (45 - count) 4 in
    let below : (45 - count) % 4 < 4 = mod-lt (45 - count) (omega arith) in
    (omega (arith, parts, below, some, few), omega (arith, below))

-- whether an inserted one is missed, where no bit is forbidden
none_of : (misses : Bool) → (if misses then Some SyncBit else None) ≡ None → misses ≡ false
none_of true e = absurd cc
none_of false e = refl

pub goes-on : (form : Form) (bits : List Bool) (periods : ℕ) → length bits ≤ 38 → forbidden bits ≡ None → MayGoOn form (length bits) periods → forbidden (bits ++ bits_in periods) ≡ None
goes-on form bits periods few fine may = subst (λ (n : ℕ). forbidden (bits ++ (replicate n false ++ true ∷ [])) ≡ None) (omega (arith, may.is)) (by_bits bits may.missing few fine may.fits)
  where
    by_bits : (bits : List Bool) (missing : ℕ) → length bits ≤ 38 → forbidden bits ≡ None → ((length bits ≡ 0) × (missing ≡ 1)) ⊎ ((1 ≤ length bits) × (missing ≤ (45 - length bits) % 4))
        → forbidden (bits ++ (replicate missing false ++ true ∷ [])) ≡ None
    by_bits [] missing few fine (inl first) = rw first.1 (rw (misses_few [] (omega arith)) refl)
    by_bits [] missing few fine (inr later) = absurd (omega (arith, later.0))
    by_bits (true ∷ bits) missing few fine fits = absurd cc
    by_bits (false ∷ bits) missing few fine (inl first) = absurd (omega (arith, first.0))
    by_bits (false ∷ bits) missing few fine (inr later) =
        let count = suc (length bits) in
        let free = free_of count (omega arith) (omega (arith, few)) in
        let none : misses_one (bits ++ (replicate missing false ++ true ∷ [])) ≡ false =
        none-missed (11 - (45 - count) / 4) ((45 - count) % 4) missing bits (none_of (misses_one bits) fine) (omega (arith, free.0)) free.1 later.1 in
        ap (λ (m : Bool). if m then Some SyncBit else None) none

-- a frame that isn't whole has at most 37 bits
pub open-few : (form : Form) (bits : List Bool) → length bits < frame_length form → length bits ≤ 38
open-few Short bits due = omega (arith, due)
open-few Long bits due = omega (arith, due)
open-few XLong bits due = omega (arith, due)

pub open-more : (form : Form) (bits joined : List Bool) (periods : ℕ) → joined ≡ bits ++ bits_in periods → IsOpen form bits → MayGoOn form (length bits) periods → IsOpen form joined
open-more form bits joined periods is before may =
    let longer : length (bits ++ bits_in periods) ≡ length bits + (periods - 1) + 1 = long bits (periods - 1) in
    record {
      due = omega (arith, ap length is, longer, may.is, may.is_short);
      allowed = ap forbidden is ∙ goes-on form bits periods (open-few form bits before.due) before.allowed may;
    }

-- ---- what an interval comes to
pub due_more : (form : Form) (periods : ℕ) (bits joined : List Bool) → joined ≡ bits ++ bits_in periods → length bits < frame_length form → forbidden joined ≡ None
    → (length joined ≡ frame_length form → ⊥) → length joined < frame_length form
due_more form periods bits joined is due fine short =
    let few : length joined ≤ frame_length form = subst (λ (l : List Bool). length l ≤ frame_length form) (sym is) (not_longer (group_count form) periods bits due (ap forbidden (sym is) ∙ fine)) in
    omega (arith, few, short)

pub as_many : (form : Form) → 3 * group_count form ≡ field_width form + 3
as_many Short = refl
as_many Long = refl
as_many XLong = refl

pub all_groups : (form : Form) (joined : List Bool) → length joined ≡ frame_length form → length (without_ones (drop 2 joined)) ≡ field_width form + 3
all_groups form joined all = length-without_ones (group_count form) (drop 2 joined) (omega (arith, length-drop 2 joined, all)) ∙ as_many form

pub verdict-none : (form : Form) (bits : List Bool) → Broken SyncBit ≡ verdict form bits 0
unfolding verdict
verdict-none form bits = refl

pub verdict-broken : (form : Form) (bits joined : List Bool) (periods : ℕ) (rule : Rule) → (periods ≡ 0 → ⊥) → joined ≡ bits ++ bits_in periods → forbidden joined ≡ Some rule → Broken rule ≡ verdict form bits periods
unfolding verdict
verdict-broken form bits joined periods rule some is breaks = rw (ne_eqb periods 0 some, sym is, breaks) refl

pub verdict-unfinished : (form : Form) (bits joined : List Bool) (periods : ℕ) → (periods ≡ 0 → ⊥) → joined ≡ bits ++ bits_in periods → forbidden joined ≡ None → (length joined ≡ frame_length form → ⊥)
    → Unfinished joined ≡ verdict form bits periods
unfolding verdict
verdict-unfinished form bits joined periods some is fine short = rw (ne_eqb periods 0 some, sym is, fine, ne_eqb (length joined) (frame_length form) short) refl

pub verdict-whole : (form : Form) (bits joined : List Bool) (periods : ℕ) → (periods ≡ 0 → ⊥) → joined ≡ bits ++ bits_in periods → forbidden joined ≡ None → length joined ≡ frame_length form
    → checked_groups form (without_ones (drop 2 joined)) ≡ verdict form bits periods
unfolding verdict
verdict-whole form bits joined periods some is fine all = rw (ne_eqb periods 0 some, sym is, fine, eq-eqb (length joined) (frame_length form) all) refl
