-- Which messages are told of what is sent.
--     told-append      of one frame more
--     told_here, not_told      at the frame that ends a message, by whether its first frame is there
use Rattle.std.proofs.Common.{◌≡◌, ℕ, suc, ◌+◌, ◌<◌, ◌≤◌, List, [], ◌∷◌, ◌++◌, Some, nat_le, true, false, length, refl, ap, ◌∙◌, append-nil, append_assoc, sym, arith}
use Rattle.std.proofs.lemmas.Bool.Decides.{nat_tests}
use Rattle.sent_serial.specs.declared.step.SerialStep.{SerialStep}
use Rattle.sent_serial.specs.SentStatuses.{statuses_sent}
use Rattle.sent_serial.specs.Sendings.{SentStatus, told_at, messages_told}

-- what is told of one frame more stands behind what is told of those before it
pub told-append : (before : ℕ) (sent : List SentStatus) (last : SentStatus) → messages_told before (sent ++ last ∷ []) ≡ messages_told before sent ++ told_at (before + length sent) last.ends
unfolding messages_told
told-append before [] last =
    let here : before ≡ before + 0 = omega arith in
    append-nil (told_at before last.ends) ∙ ap (λ n. told_at n last.ends) here
told-append before (first ∷ sent) last =
    let next : suc before + length sent ≡ before + suc (length sent) = omega arith in
    ap (λ told. told_at before first.ends ++ told) (told-append (suc before) sent last ∙ ap (λ n. messages_told (suc before) sent ++ told_at n last.ends) next)
    ∙ sym (append_assoc (told_at before first.ends) (messages_told (suc before) sent) (told_at (before + suc (length sent)) last.ends))

at_most : (n m : ℕ) → n ≤ m → nat_le n m ≡ true
at_most n m h = grind (arith, nat_tests)

above : (n m : ℕ) → m < n → nat_le n m ≡ false
above n m h = grind (arith, nat_tests)

pub told_here : (before : ℕ) (message : SerialStep) → length (statuses_sent message) ≤ suc before → told_at before (Some message) ≡ message ∷ []
told_here before message whole =
    let there : nat_le (length (statuses_sent message)) (suc before) ≡ true = at_most (length (statuses_sent message)) (suc before) whole in
    rw there refl

pub not_told : (before : ℕ) (message : SerialStep) → suc before < length (statuses_sent message) → told_at before (Some message) ≡ []
not_told before message part =
    let missing : nat_le (length (statuses_sent message)) (suc before) ≡ false = above (length (statuses_sent message)) (suc before) part in
    rw missing refl
