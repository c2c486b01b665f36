-- What stands behind each keyword is read from its own fields alone.
use Rattle.std.proofs.Common.{◌≡◌, ℕ, suc, ◌^◌, ◌<◌, ◌≤◌, true, false, Result, Ok, List, [], ◌∷◌, ◌++◌, codes, map, decimal, refl, ◌∙◌, ap, arith}
use Rattle.std.proofs.lemmas.List.{append_assoc}
use Rattle.line_base.specs.Nibbles.{AreNibbles}
use Rattle.sent_frame.specs.declared.frame.SentFrame.{SentFrame}
use Rattle.sent_fast.specs.declared.layout.Fast.TheVariants as fast
use Rattle.psi5_downlink.specs.declared.down.Down.{Down}
use Rattle.receiver_core.specs.declared.report.What.{What}
use Rattle.receiver_core.specs.declared.report.What.TheVariants as what
use Rattle.report_text.specs.declared.fault.TextFault.{TextFault}
use Rattle.line_base.specs.Steps.{◌>>=◌}
use Rattle.report_text.specs.Fields.{value_read}
use Rattle.report_text.specs.Decimals.{IsBetween, number_spelled, number_between, count_spelled}
use Rattle.report_text.specs.Hex.{hex_digit, hex_text, hex_in, hex_to, data_in}
use Rattle.report_text.specs.Sent.{IsFrameTold, parts_fields, frame_fields, parts_read, frame_read, one_read, two_read, secure_read, split_read, counter_read, short_read, narrow_read, wide_read}
use Rattle.report_text.specs.Spc.{answer_fields, answer_read, no_answer_read}
use Rattle.report_text.specs.Codes.{IsCodeTold, code_fields, code_read}
use Rattle.report_text.specs.Psi5.{slot_text, payload_fields, burst_fields, IsSlotTold, IsPayloadTold, slot_in, payload_read, burst_read, init_read, done_read}
use Rattle.report_text.specs.Downlink.{down_fields, down_read}
use Rattle.report_text.specs.Rules.{rule_name, rule_in, bad_read}
use Rattle.report_text.specs.Gaps.{IsGapTold, gap_read}
use Rattle.report_text.specs.Reports.{says, IsTold, keywords, behind_word, what_read}
use Rattle.report_text.proofs.Cutting.{are_free}
use Rattle.report_text.proofs.Spellings.{Spells, value_again, numbers, betweens, hex, hex_tos, data_nibbles, rules, counts}
use Rattle.report_text.proofs.Told.{TakenAs, at_end, after_read, after_field, AreTaken, table_taken, field_free}
use Rattle.report_text.proofs.Codes.{code_taken, code_again, code_free}
use Rattle.report_text.proofs.Bursts.{slots, payload_taken, payload_again, payload_free}

-- what is read behind this word is what its fields say, and has a line
abbrev IsLine : List ℕ → (List (List ℕ) → Result (What × List (List ℕ)) TextFault) → Type 0
IsLine word read = TakenAs says IsTold (word ∷ []) read

-- ---- lines of one value and of two

-- a line of one value
one_line : {A : Type 0} (text : A → List ℕ) (spelled : List ℕ → Result A TextFault) (Fits : A → Type 0) (s : Spells text spelled Fits) (word : List ℕ) (make : A → What)
    → ((a : A) → word ∷ text a ∷ [] ≡ says (make a)) → ((a : A) → Fits a → IsTold (make a)) → IsLine word (λ fields. value_read spelled fields >>= λ a. Ok (make a.0, a.1))
one_line text spelled Fits s word make said told = after_field says IsTold (word ∷ []) text spelled Fits s (λ a fields. Ok (make a, fields)) (λ a fits. at_end says IsTold (word ∷ text a ∷ []) (make a) (said a) (told a fits))

-- a line of two values
two_line : {A B : Type 0} (text : A → List ℕ) (spelled : List ℕ → Result A TextFault) (Fits : A → Type 0) (s : Spells text spelled Fits) (text' : B → List ℕ) (spelled' : List ℕ → Result B TextFault) (Fits' : B → Type 0) (s' : Spells text' spelled' Fits') (word : List ℕ) (make : A → B → What)
    → ((a : A) (b : B) → word ∷ text a ∷ text' b ∷ [] ≡ says (make a b)) → ((a : A) (b : B) → Fits a → Fits' b → IsTold (make a b)) → IsLine word (λ fields. value_read spelled fields >>= λ a. value_read spelled' a.1 >>= λ b. Ok (make a.0 b.0, b.1))
two_line text spelled Fits s text' spelled' Fits' s' word make said told =
    after_field says IsTold (word ∷ []) text spelled Fits s (λ a fields. value_read spelled' fields >>= λ b. Ok (make a b.0, b.1)) (λ a fits.
    after_field says IsTold (word ∷ text a ∷ []) text' spelled' Fits' s' (λ b fields. Ok (make a b, fields)) (λ b fits'.
    at_end says IsTold (word ∷ text a ∷ text' b ∷ []) (make a b) (said a b) (told a b fits fits')))

-- a line of two numbers in hexadecimal digits
hex_line : (width width' : ℕ) (word : List ℕ) (make : ℕ → ℕ → What)
    → ((a b : ℕ) → word ∷ hex_text (suc width) a ∷ hex_text (suc width') b ∷ [] ≡ says (make a b)) → ((a b : ℕ) → a < 16 ^ suc width → b < 16 ^ suc width' → IsTold (make a b)) → IsLine word (λ fields. value_read (hex_in (suc width)) fields >>= λ a. value_read (hex_in (suc width')) a.1 >>= λ b. Ok (make a.0 b.0, b.1))
hex_line width width' word make said told = two_line (hex_text (suc width)) (hex_in (suc width)) (λ n. n < 16 ^ suc width) (hex width) (hex_text (suc width')) (hex_in (suc width')) (λ n. n < 16 ^ suc width') (hex width') word make said told

-- what is made of a value, with the fields behind it
abbrev built : {A : Type 0} → (A → What) → A × List (List ℕ) → Result (What × List (List ℕ)) TextFault
built make a = Ok (make a.0, a.1)

one_again : {A : Type 0} (text : A → List ℕ) (spelled : List ℕ → Result A TextFault) (Fits : A → Type 0) (s : Spells text spelled Fits) (make : A → What) (a : A) (others : List (List ℕ)) → Fits a → (value_read spelled (text a ∷ others) >>= λ a. built make a) ≡ Ok (make a, others)
one_again {A} text spelled Fits s make a others fits = ap (λ (r : Result (A × List (List ℕ)) TextFault). r >>= λ a. built make a) (value_again text spelled Fits s a others fits)

two_again : {A B : Type 0} (text : A → List ℕ) (spelled : List ℕ → Result A TextFault) (Fits : A → Type 0) (s : Spells text spelled Fits) (text' : B → List ℕ) (spelled' : List ℕ → Result B TextFault) (Fits' : B → Type 0) (s' : Spells text' spelled' Fits') (make : A → B → What) (a : A) (b : B) (others : List (List ℕ)) → Fits a → Fits' b → (value_read spelled (text a ∷ text' b ∷ others) >>= λ a. value_read spelled' a.1 >>= λ b. built (make a.0) b) ≡ Ok (make a b, others)
two_again {A} {B} text spelled Fits s text' spelled' Fits' s' make a b others fits fits' =
    ap (λ (r : Result (A × List (List ℕ)) TextFault). r >>= λ a. value_read spelled' a.1 >>= λ b. built (make a.0) b) (value_again text spelled Fits s a (text' b ∷ others) fits)
    ∙ one_again text' spelled' Fits' s' (make a) b others fits'

hexes_again : (width width' : ℕ) (make : ℕ → ℕ → What) (a b : ℕ) (others : List (List ℕ)) → a < 16 ^ suc width → b < 16 ^ suc width' → (value_read (hex_in (suc width)) (hex_text (suc width) a ∷ hex_text (suc width') b ∷ others) >>= λ a. value_read (hex_in (suc width')) a.1 >>= λ b. built (make a.0) b) ≡ Ok (make a b, others)
hexes_again width width' make a b others fits fits' = two_again (hex_text (suc width)) (hex_in (suc width)) (λ n. n < 16 ^ suc width) (hex width) (hex_text (suc width')) (hex_in (suc width')) (λ n. n < 16 ^ suc width') (hex width') make a b others fits fits'

-- ---- the parts of a frame

parts_taken : TakenAs parts_fields IsFrameTold [] parts_read
unfolding parts_read
parts_taken =
    after_field parts_fields IsFrameTold [] (hex_text 1) (hex_in 1) (λ n. n < 16 ^ 1) (hex 0) (λ status fields. value_read data_in fields >>= λ nibbles. Ok (record { status = status; nibbles = nibbles.0 }, nibbles.1)) (λ status low.
    after_field parts_fields IsFrameTold (hex_text 1 status ∷ []) (map hex_digit) data_in AreNibbles data_nibbles (λ nibbles fields. Ok (record { status = status; nibbles = nibbles }, fields)) (λ nibbles own.
    at_end parts_fields IsFrameTold (hex_text 1 status ∷ map hex_digit nibbles ∷ []) (record { status = status; nibbles = nibbles }) refl (record { status = low; nibbles = own })))

parts_again : (frame : SentFrame) (others : List (List ℕ)) → IsFrameTold frame → parts_read (parts_fields frame ++ others) ≡ Ok (frame, others)
unfolding parts_read
parts_again frame others own =
    rw (
      value_again (hex_text 1) (hex_in 1) (λ n. n < 16 ^ 1) (hex 0) frame.status (map hex_digit frame.nibbles ∷ others) own.status,
      value_again (map hex_digit) data_in AreNibbles data_nibbles frame.nibbles others own.nibbles,
    ) refl

parts_free : (frame : SentFrame) → IsFrameTold frame → are_free (parts_fields frame) ≡ true
parts_free frame own = field_free (hex_text 1) (hex_in 1) (λ n. n < 16 ^ 1) (hex 0) frame.status (map hex_digit frame.nibbles ∷ []) own.status (field_free (map hex_digit) data_in AreNibbles data_nibbles frame.nibbles [] own.nibbles refl)

-- an address, a function or a code of 3 bits
three_bits : Spells decimal (number_between 0 7) (IsBetween 0 7)
three_bits = betweens 0 7 (omega arith)

-- the ID of a block
ids : Spells decimal (number_between 1 16) (IsBetween 1 16)
ids = betweens 1 16 (omega arith)

-- a register or a value of 9 bits
nine_bits : Spells (hex_text 3) (hex_to 3 0x1FF) (λ n. n ≤ 0x1FF)
nine_bits = hex_tos 2 0x1FF (omega arith)

-- a downlink frame of these values
abbrev down_of : ℕ → ℕ → ℕ → ℕ → Down
down_of a f r v = record { address = a; function = f; register = r; value = v }

-- ---- the lines

frame_line : IsLine (codes "frame") frame_read
unfolding frame_read
frame_line = after_read says IsTold (codes "frame" ∷ []) parts_fields IsFrameTold parts_read parts_taken (λ frame fields. Ok (what.Frame frame, fields)) (λ frame own. at_end says IsTold (frame_fields frame) (what.Frame frame) refl own)

one_value_line : IsLine (codes "one") one_read
unfolding one_read
one_value_line = one_line (hex_text 3) (hex_in 3) (λ n. n < 16 ^ 3) (hex 2) (codes "one") (λ a. what.Fast (fast.One a)) (λ a. refl) (λ a fits. fits)

two_values_line : IsLine (codes "two") two_read
unfolding two_read
two_values_line = hex_line 2 2 (codes "two") (λ a b. what.Fast (fast.Two a b)) (λ a b. refl) (λ a b fits fits'. (fits, fits'))

secure_line : IsLine (codes "secure") secure_read
unfolding secure_read
secure_line = hex_line 2 1 (codes "secure") (λ a b. what.Fast (fast.Secure a b)) (λ a b. refl) (λ a b fits fits'. (fits, fits'))

split_line : IsLine (codes "split") split_read
unfolding split_read
split_line = hex_line 3 1 (codes "split") (λ a b. what.Fast (fast.Split a b)) (λ a b. refl) (λ a b fits fits'. (fits, fits'))

counter_line : IsLine (codes "counter") counter_read
unfolding counter_read
counter_line = hex_line 1 1 (codes "counter") (λ a b. what.Counter a b) (λ a b. refl) (λ a b fits fits'. (fits, fits'))

short_line : IsLine (codes "short") short_read
unfolding short_read
short_line = hex_line 0 1 (codes "short") (λ a b. what.Short a b) (λ a b. refl) (λ a b fits fits'. (fits, fits'))

narrow_line : IsLine (codes "enhanced8") narrow_read
unfolding narrow_read
narrow_line = hex_line 1 2 (codes "enhanced8") (λ a b. what.Enhanced a b false) (λ a b. refl) (λ a b fits fits'. (fits, fits'))

wide_line : IsLine (codes "enhanced4") wide_read
unfolding wide_read
wide_line = hex_line 0 3 (codes "enhanced4") (λ a b. what.Enhanced a b true) (λ a b. refl) (λ a b fits fits'. (fits, fits'))

answer_line : IsLine (codes "answer") answer_read
unfolding answer_read
answer_line =
    after_field says IsTold (codes "answer" ∷ []) decimal (number_between 0 7) (IsBetween 0 7) three_bits (λ code fields. parts_read fields >>= λ frame. Ok (what.Answer code frame.0, frame.1)) (λ code fits.
    after_read says IsTold (codes "answer" ∷ decimal code ∷ []) parts_fields IsFrameTold parts_read parts_taken (λ frame fields. Ok (what.Answer code frame, fields)) (λ frame own.
    at_end says IsTold (answer_fields code frame) (what.Answer code frame) refl (fits, own)))

no_answer_line : IsLine (codes "noanswer") no_answer_read
unfolding no_answer_read
no_answer_line = one_line decimal (number_between 0 7) (IsBetween 0 7) three_bits (codes "noanswer") (λ code. what.NoAnswer code) (λ code. refl) (λ code fits. fits)

burst_line : IsLine (codes "psi5") burst_read
unfolding burst_read
burst_line =
    after_field says IsTold (codes "psi5" ∷ []) slot_text slot_in IsSlotTold slots (λ slot fields. payload_read fields >>= λ payload. code_read payload.1 >>= λ code. Ok (what.Burst slot payload.0 code.0, code.1)) (λ slot in_slot.
    after_read says IsTold (codes "psi5" ∷ slot_text slot ∷ []) payload_fields IsPayloadTold payload_read payload_taken (λ payload fields. code_read fields >>= λ code. Ok (what.Burst slot payload code.0, code.1)) (λ payload parts.
    after_read says IsTold (codes "psi5" ∷ slot_text slot ∷ payload_fields payload) code_fields IsCodeTold code_read code_taken (λ code fields. Ok (what.Burst slot payload code, fields)) (λ code own.
    at_end says IsTold (burst_fields slot payload code) (what.Burst slot payload code) refl (record { in_slot = in_slot; parts = parts; says = own }))))

init_line : IsLine (codes "init") init_read
unfolding init_read
init_line = two_line decimal (number_between 1 16) (IsBetween 1 16) ids (hex_text 1) (hex_in 1) (λ n. n < 16 ^ 1) (hex 0) (codes "init") (λ id value. what.Block id value) (λ id value. refl) (λ id value fits fits'. (fits, fits'))

done_line : IsLine (codes "initdone") done_read
unfolding done_read
done_line = one_line decimal number_spelled (λ n. n < 2 ^ 64) numbers (codes "initdone") (λ blocks. what.Done blocks) (λ blocks. refl) (λ blocks fits. fits)

down_line : IsLine (codes "down") down_read
unfolding down_read
down_line =
    after_field says IsTold (codes "down" ∷ []) decimal (number_between 0 7) (IsBetween 0 7) three_bits (λ a fields. value_read (number_between 0 7) fields >>= λ f. value_read (hex_to 3 0x1FF) f.1 >>= λ r. value_read (hex_to 3 0x1FF) r.1 >>= λ v. Ok (what.Down (down_of a f.0 r.0 v.0), v.1)) (λ a own_a.
    after_field says IsTold (codes "down" ∷ decimal a ∷ []) decimal (number_between 0 7) (IsBetween 0 7) three_bits (λ f fields. value_read (hex_to 3 0x1FF) fields >>= λ r. value_read (hex_to 3 0x1FF) r.1 >>= λ v. Ok (what.Down (down_of a f r.0 v.0), v.1)) (λ f own_f.
    after_field says IsTold (codes "down" ∷ decimal a ∷ decimal f ∷ []) (hex_text 3) (hex_to 3 0x1FF) (λ n. n ≤ 0x1FF) nine_bits (λ r fields. value_read (hex_to 3 0x1FF) fields >>= λ v. Ok (what.Down (down_of a f r v.0), v.1)) (λ r own_r.
    after_field says IsTold (codes "down" ∷ decimal a ∷ decimal f ∷ hex_text 3 r ∷ []) (hex_text 3) (hex_to 3 0x1FF) (λ n. n ≤ 0x1FF) nine_bits (λ v fields. Ok (what.Down (down_of a f r v), fields)) (λ v own_v.
    at_end says IsTold (down_fields (down_of a f r v)) (what.Down (down_of a f r v)) refl (record { address = own_a; function = own_f; register = own_r; value = own_v })))))

bad_line : IsLine (codes "bad") bad_read
unfolding bad_read
bad_line = one_line rule_name rule_in (λ r. Unit {0}) rules (codes "bad") (λ r. what.Bad r) (λ r. refl) (λ r fits. tt)

gap_line : IsLine (codes "gap") gap_read
unfolding gap_read
gap_line = one_line decimal count_spelled IsGapTold counts (codes "gap") (λ n. what.Gap n) (λ n. refl) (λ n fits. fits)

-- ---- the table

lines : AreTaken says IsTold keywords
lines = (frame_line, (one_value_line, (two_values_line, (secure_line, (split_line, (counter_line, (short_line, (narrow_line, (wide_line, (answer_line, (no_answer_line, (burst_line, (init_line, (done_line, (down_line, (bad_line, (gap_line, tt)))))))))))))))))

what_taken : TakenAs says IsTold [] what_read
unfolding what_read behind_word
what_taken = table_taken says IsTold keywords lines

-- what was read are the fields of what is said
pub said_taken : (fields : List (List ℕ)) (found : What × List (List ℕ)) → what_read fields ≡ Ok found → (fields ≡ says found.0 ++ found.1) × IsTold found.0
said_taken fields found e = what_taken.taken fields found e

-- what is said is read from its fields
pub said_again : (said : What) (others : List (List ℕ)) → IsTold said → what_read (says said ++ others) ≡ Ok (said, others)
unfolding what_read behind_word frame_read one_read two_read secure_read split_read counter_read short_read narrow_read wide_read answer_read no_answer_read burst_read init_read done_read down_read bad_read gap_read
said_again (what.Frame frame) others told = rw (parts_again frame others told) refl
said_again (what.Fast fast.Raw) others told = absurd told
said_again (what.Fast (fast.One a)) others told = one_again (hex_text 3) (hex_in 3) (λ n. n < 16 ^ 3) (hex 2) (λ a. what.Fast (fast.One a)) a others told
said_again (what.Fast (fast.Two a b)) others told = hexes_again 2 2 (λ a b. what.Fast (fast.Two a b)) a b others told.0 told.1
said_again (what.Fast (fast.Secure a b)) others told = hexes_again 2 1 (λ a b. what.Fast (fast.Secure a b)) a b others told.0 told.1
said_again (what.Fast (fast.Split a b)) others told = hexes_again 3 1 (λ a b. what.Fast (fast.Split a b)) a b others told.0 told.1
said_again (what.Counter a b) others told = hexes_again 1 1 (λ a b. what.Counter a b) a b others told.0 told.1
said_again (what.Short a b) others told = hexes_again 0 1 (λ a b. what.Short a b) a b others told.0 told.1
said_again (what.Enhanced a b false) others told = hexes_again 1 2 (λ a b. what.Enhanced a b false) a b others told.0 told.1
said_again (what.Enhanced a b true) others told = hexes_again 0 3 (λ a b. what.Enhanced a b true) a b others told.0 told.1
said_again (what.Answer code frame) others told = rw (value_again decimal (number_between 0 7) (IsBetween 0 7) three_bits code (parts_fields frame ++ others) told.0, parts_again frame others told.1) refl
said_again (what.NoAnswer code) others told = one_again decimal (number_between 0 7) (IsBetween 0 7) three_bits (λ code. what.NoAnswer code) code others told
said_again (what.Burst slot payload code) others told =
    rw (
      append_assoc (payload_fields payload) (code_fields code) others,
      value_again slot_text slot_in IsSlotTold slots slot (payload_fields payload ++ (code_fields code ++ others)) told.in_slot,
      payload_again payload (code_fields code ++ others) told.parts,
      code_again code others told.says,
    ) refl
said_again (what.Block id value) others told = two_again decimal (number_between 1 16) (IsBetween 1 16) ids (hex_text 1) (hex_in 1) (λ n. n < 16 ^ 1) (hex 0) (λ id value. what.Block id value) id value others told.0 told.1
said_again (what.Done blocks) others told = one_again decimal number_spelled (λ n. n < 2 ^ 64) numbers (λ blocks. what.Done blocks) blocks others told
said_again (what.Down down) others told =
    rw (
      value_again decimal (number_between 0 7) (IsBetween 0 7) three_bits down.address (decimal down.function ∷ hex_text 3 down.register ∷ hex_text 3 down.value ∷ others) told.address,
      value_again decimal (number_between 0 7) (IsBetween 0 7) three_bits down.function (hex_text 3 down.register ∷ hex_text 3 down.value ∷ others) told.function,
      value_again (hex_text 3) (hex_to 3 0x1FF) (λ n. n ≤ 0x1FF) nine_bits down.register (hex_text 3 down.value ∷ others) told.register,
      value_again (hex_text 3) (hex_to 3 0x1FF) (λ n. n ≤ 0x1FF) nine_bits down.value others told.value,
    ) refl
said_again (what.Bad rule) others told = one_again rule_name rule_in (λ r. Unit {0}) rules (λ r. what.Bad r) rule others tt
said_again (what.Gap count) others told = one_again decimal count_spelled IsGapTold counts (λ n. what.Gap n) count others told

one_free : {A : Type 0} (text : A → List ℕ) (spelled : List ℕ → Result A TextFault) (Fits : A → Type 0) (s : Spells text spelled Fits) (a : A) → Fits a → are_free (text a ∷ []) ≡ true
one_free text spelled Fits s a fits = field_free text spelled Fits s a [] fits refl

hexes_free : (width width' a b : ℕ) → a < 16 ^ suc width → b < 16 ^ suc width' → are_free (hex_text (suc width) a ∷ hex_text (suc width') b ∷ []) ≡ true
hexes_free width width' a b low low' = field_free (hex_text (suc width)) (hex_in (suc width)) (λ n. n < 16 ^ suc width) (hex width) a (hex_text (suc width') b ∷ []) low (one_free (hex_text (suc width')) (hex_in (suc width')) (λ n. n < 16 ^ suc width') (hex width') b low')

-- no space stands in a field
pub said_free : (said : What) → IsTold said → are_free (says said) ≡ true
said_free (what.Frame frame) told = parts_free frame told
said_free (what.Fast fast.Raw) told = absurd told
said_free (what.Fast (fast.One a)) told = one_free (hex_text 3) (hex_in 3) (λ n. n < 16 ^ 3) (hex 2) a told
said_free (what.Fast (fast.Two a b)) told = hexes_free 2 2 a b told.0 told.1
said_free (what.Fast (fast.Secure a b)) told = hexes_free 2 1 a b told.0 told.1
said_free (what.Fast (fast.Split a b)) told = hexes_free 3 1 a b told.0 told.1
said_free (what.Counter a b) told = hexes_free 1 1 a b told.0 told.1
said_free (what.Short a b) told = hexes_free 0 1 a b told.0 told.1
said_free (what.Enhanced a b false) told = hexes_free 1 2 a b told.0 told.1
said_free (what.Enhanced a b true) told = hexes_free 0 3 a b told.0 told.1
said_free (what.Answer code frame) told = field_free decimal (number_between 0 7) (IsBetween 0 7) three_bits code (parts_fields frame) told.0 (parts_free frame told.1)
said_free (what.NoAnswer code) told = one_free decimal (number_between 0 7) (IsBetween 0 7) three_bits code told
said_free (what.Burst slot payload code) told = field_free slot_text slot_in IsSlotTold slots slot (payload_fields payload ++ code_fields code) told.in_slot (payload_free payload (code_fields code) told.parts (code_free code told.says))
said_free (what.Block id value) told = field_free decimal (number_between 1 16) (IsBetween 1 16) ids id (hex_text 1 value ∷ []) told.0 (one_free (hex_text 1) (hex_in 1) (λ n. n < 16 ^ 1) (hex 0) value told.1)
said_free (what.Done blocks) told = one_free decimal number_spelled (λ n. n < 2 ^ 64) numbers blocks told
said_free (what.Down down) told =
    field_free decimal (number_between 0 7) (IsBetween 0 7) three_bits down.address (decimal down.function ∷ hex_text 3 down.register ∷ hex_text 3 down.value ∷ []) told.address
    (field_free decimal (number_between 0 7) (IsBetween 0 7) three_bits down.function (hex_text 3 down.register ∷ hex_text 3 down.value ∷ []) told.function
    (field_free (hex_text 3) (hex_to 3 0x1FF) (λ n. n ≤ 0x1FF) nine_bits down.register (hex_text 3 down.value ∷ []) told.register
    (one_free (hex_text 3) (hex_to 3 0x1FF) (λ n. n ≤ 0x1FF) nine_bits down.value told.value)))
said_free (what.Bad rule) told = one_free rule_name rule_in (λ r. Unit {0}) rules rule tt
said_free (what.Gap count) told = one_free decimal count_spelled IsGapTold counts count told
