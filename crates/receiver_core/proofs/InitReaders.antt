-- The codes of each slot, and the readers of their initialisations, with one burst more.
--     codes-own, codes-other, codes-few      the codes of a slot
--     readers-none, readers-more      the readers
use Rattle.std.proofs.Common.{◌≡◌, ◌≢◌, ℕ, zero, suc, ◌<◌, ◌≤◌, Bool, true, false, if◌then◌else◌, nat_eq, ◌^◌, Option, None, Some, List, [], ◌∷◌, ◌++◌, length, slice_index_or, slice_set, replicate, refl, ap, sym, subst, ◌∙◌, append-nil, inl, inr, ◌⊎◌, arith}
use Rattle.std.proofs.lemmas.List.{get_or-set_same, get_or-set_other, length-set}
use Rattle.std.proofs.lemmas.Bool.{cases_eq, eq-eqb, eqb-true}
use Rattle.psi5_frame.specs.declared.burst.Payload.{Payload}
use Rattle.psi5_init.specs.declared.code.Code.{Code}
use Rattle.psi5_init.specs.Codes.{class_in}
use Rattle.psi5_init.specs.declared.reader.InitReader.{InitReader}
use Rattle.psi5_init.specs.Readers.{StandsFor}
use Rattle.receiver_core.specs.declared.psi5_burst.Told.{Told}
use Rattle.receiver_core.specs.declared.psi5_burst.Told.TheVariants as told
use Rattle.receiver_core.specs.declared.init_readers.InitReaders.{InitReaders}
use Rattle.receiver_core.specs.Psi5Reports.{codes_of, slot_number}
use Rattle.psi5_frame.specs.Setup.{Settings}
use Rattle.psi5_frame.specs.Frames.{Fits}
use Rattle.receiver_core.specs.Psi5Stretches.{ReadersStandFor, InitStandsFor, HasCodes, IsSmall, ReadsCodes}

with_code : (b : Bool) (code : Code) (codes more : List Code) → (if b then code ∷ (codes ++ more) else codes ++ more) ≡ (if b then code ∷ codes else codes) ++ more
with_code true code codes more = refl
with_code false code codes more = refl

codes-append : (number : ℕ) (xs ys : List Told) → codes_of number (xs ++ ys) ≡ codes_of number xs ++ codes_of number ys
unfolding codes_of
codes-append number [] ys = refl
codes-append number (told.Good place slot payload ∷ xs) ys =
    ap (λ l. if nat_eq (slot_number slot) number then class_in payload.a ∷ l else l) (codes-append number xs ys)
    ∙ with_code (nat_eq (slot_number slot) number) (class_in payload.a) (codes_of number xs) (codes_of number ys)
codes-append number (told.Bad place rule ∷ xs) ys = codes-append number xs ys

one-own : (number : ℕ) (place : ℕ) (slot : Option ℕ) (payload : Payload) → slot_number slot ≡ number → codes_of number (told.Good place slot payload ∷ []) ≡ class_in payload.a ∷ []
unfolding codes_of
one-own number place slot payload own = ap (λ (b : Bool). if b then class_in payload.a ∷ [] else []) (eq-eqb (slot_number slot) number own)

unequal : (m n : ℕ) → m ≢ n → (b : Bool) → nat_eq m n ≡ b → nat_eq m n ≡ false
unequal m n other true same = absurd (other (eqb-true m n same))
unequal m n other false differs = differs

one-other : (number : ℕ) (place : ℕ) (slot : Option ℕ) (payload : Payload) → slot_number slot ≢ number → codes_of number (told.Good place slot payload ∷ []) ≡ []
unfolding codes_of
one-other number place slot payload other = ap (λ (b : Bool). if b then class_in payload.a ∷ [] else []) (unequal (slot_number slot) number other (nat_eq (slot_number slot) number) refl)

-- a burst of the slot says one code more
pub codes-own : (number : ℕ) (since : List Told) (place : ℕ) (slot : Option ℕ) (payload : Payload) → slot_number slot ≡ number
    → codes_of number (since ++ told.Good place slot payload ∷ []) ≡ codes_of number since ++ class_in payload.a ∷ []
codes-own number since place slot payload own = codes-append number since (told.Good place slot payload ∷ []) ∙ ap (λ l. codes_of number since ++ l) (one-own number place slot payload own)

-- a burst of another slot says none
pub codes-other : (number : ℕ) (since : List Told) (place : ℕ) (slot : Option ℕ) (payload : Payload) → slot_number slot ≢ number
    → codes_of number (since ++ told.Good place slot payload ∷ []) ≡ codes_of number since
codes-other number since place slot payload other =
    codes-append number since (told.Good place slot payload ∷ []) ∙ ap (λ l. codes_of number since ++ l) (one-other number place slot payload other) ∙ append-nil (codes_of number since)

few_more : (b : Bool) (code : Code) (codes : List Code) (n : ℕ) → length codes ≤ n → length (if b then code ∷ codes else codes) ≤ suc n
few_more true code codes n few = omega (arith, few)
few_more false code codes n few = omega (arith, few)

-- a slot has at most as many codes as there are bursts
pub codes-few : (number : ℕ) (since : List Told) → length (codes_of number since) ≤ length since
unfolding codes_of
codes-few number [] = omega arith
codes-few number (told.Good place slot payload ∷ since) = few_more (nat_eq (slot_number slot) number) (class_in payload.a) (codes_of number since) (length since) (codes-few number since)
codes-few number (told.Bad place rule ∷ since) = let few = codes-few number since in omega (arith, few)

no-codes : (number : ℕ) → codes_of number [] ≡ []
unfolding codes_of
no-codes number = refl

each_same : (reader : InitReader) (count number : ℕ) (other : InitReader) → number < count → reader ≡ slice_index_or (replicate count reader) number other
each_same reader zero number other within = absurd (omega (arith, within))
each_same reader (suc count) zero other within = refl
each_same reader (suc count) (suc number) other within = each_same reader count number other (omega (arith, within))

-- eight readers that have read no code
pub readers-none : (repeats same : ℕ) (reader : InitReader) (slots : List InitReader) → slots ≡ replicate 8 reader → same ≡ repeats → 1 ≤ repeats → repeats ≤ 16 → StandsFor repeats reader [] → ReadersStandFor repeats (record { repeats = same; slots = slots }) []
readers-none repeats same reader slots eight is some few stands = record {
  same_repeats = is;
  some = some;
  few = few;
  eight = ap length eight;
  each = λ number other within. subst (λ (l : List InitReader). StandsFor repeats (slice_index_or l number other) (codes_of number [])) (sym eight) (subst (λ (r : InitReader). StandsFor repeats r (codes_of number [])) (each_same reader 8 number other within) (subst (λ (l : List Code). StandsFor repeats reader l) (sym (no-codes number)) stands));
}

-- the reader of the slot has read its code
pub readers-more : (repeats : ℕ) (old : InitReaders) (since : List Told) (place : ℕ) (slot : Option ℕ) (payload : Payload) (number : ℕ) (reader : InitReader) → ReadersStandFor repeats old since
    → slot_number slot ≡ number → number < 8 → StandsFor repeats reader (codes_of number since ++ class_in payload.a ∷ [])
    → ReadersStandFor repeats (record { repeats = old.repeats; slots = slice_set old.slots number reader }) (since ++ told.Good place slot payload ∷ [])
readers-more repeats old since place slot payload number reader before own within stands = record {
  same_repeats = before.same_repeats;
  some = before.some;
  few = before.few;
  eight = length-set old.slots number reader ∙ before.eight;
  each = λ n other inside. by_slot n other inside (cases_eq n number);
}
  where
    by_slot : (n : ℕ) (other : InitReader) → n < 8 → (n ≡ number) ⊎ (n ≢ number) → StandsFor repeats (slice_index_or (slice_set old.slots number reader) n other) (codes_of n (since ++ told.Good place slot payload ∷ []))
    by_slot n other inside (inl here) =
        subst (λ (k : ℕ). StandsFor repeats (slice_index_or (slice_set old.slots number reader) k other) (codes_of k (since ++ told.Good place slot payload ∷ []))) (sym here)
        (subst (λ (r : InitReader). StandsFor repeats r (codes_of number (since ++ told.Good place slot payload ∷ []))) (sym (get_or-set_same old.slots number reader other (omega (arith, within, before.eight))))
        (subst (λ (l : List Code). StandsFor repeats reader l) (sym (codes-own number since place slot payload own)) stands))
    by_slot n other inside (inr there) =
        subst (λ (r : InitReader). StandsFor repeats r (codes_of n (since ++ told.Good place slot payload ∷ []))) (sym (get_or-set_other old.slots number n reader other there))
        (subst (λ (l : List Code). StandsFor repeats (slice_index_or old.slots n other) l) (sym (codes-other n since place slot payload (λ same. there (sym same ∙ own)))) (before.each n other inside))

-- ---- a channel that may read initialisations
-- where it does, its readers stand for these bursts
pub where-read : (repeats : Option ℕ) (old new : InitReaders) (since after : List Told) → InitStandsFor repeats (Some old) since
    → ((count : ℕ) → ReadersStandFor count old since → ReadersStandFor count new after) → InitStandsFor repeats (Some new) after
where-read None old new since after before more = absurd before
where-read (Some count) old new since after before more = more count before

-- data A of a frame with codes is below 1,024
pub small-code : (s : Settings) (repeats : Option ℕ) (payload : Payload) → HasCodes s repeats → Fits s.parts payload → IsSmall repeats payload
small-code s None payload codes fits = tt
small-code s (Some count) payload codes fits = subst (λ (width : ℕ). payload.a < 2 ^ width) (eqb-true s.parts.a 10 codes) fits.a

-- one burst more is one more since the last break, or a break
pub told-reads : (s : Settings) (repeats : Option ℕ) (has_codes : Bool) (old new : Option InitReaders) (since after : List Told) → ReadsCodes s repeats has_codes old since
    → (InitStandsFor repeats old since → InitStandsFor repeats new after) → ReadsCodes s repeats has_codes new after
told-reads s repeats has_codes old new since after before more = record { codes = before.codes; same_codes = before.same_codes; has_read = more before.has_read }
