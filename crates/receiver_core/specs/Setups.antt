-- Which setups a channel may have; this project's own.
use Rattle.std.specs.Prelude.{ℕ, ◌==◌, nat_eq, nat_lt, Bool, true, false, ◌&&◌, ◌||◌, not, Option, None, Some, if◌then◌else◌}
use Rattle.line_base.specs.declared.faults.SetupFault.{SetupFault}
use Rattle.line_base.specs.declared.faults.SetupFault.TheVariants as fault
use Rattle.sent_fast.specs.declared.layout.Layout.{Layout}
use Rattle.sent_fast.specs.declared.layout.Layout.TheVariants as layout
use Rattle.psi5_frame.specs.Setup.{Settings}
use Rattle.psi5_frame.specs.declared.setup.Parts.{Parts}
use Rattle.psi5_frame.specs.declared.setup.Check.{Check}
use Rattle.psi5_frame.specs.declared.setup.Check.TheVariants as check
use Rattle.receiver_core.specs.declared.setup.SyncSlots.{SyncSlots}
use Rattle.receiver_core.specs.declared.setup.ChannelSetup.{ChannelSetup}
use Rattle.receiver_core.specs.declared.setup.ChannelSetup.TheVariants.{Sent, Psi5, Spc, Tooth}

-- the layout has so many nibbles: 3 in one12, any number in raw, 6 in the others
abbrev pub nibbles_fit : Layout → ℕ → Bool
nibbles_fit layout.Raw nibbles = true
nibbles_fit layout.One12 nibbles = nibbles == 3
nibbles_fit layout.Two12 nibbles = nibbles == 6
nibbles_fit layout.Secure12 nibbles = nibbles == 6
nibbles_fit layout.Split16x8 nibbles = nibbles == 6

-- the line of a channel of this setup, its data line where it has a sync line too
abbrev pub line_of_setup : ChannelSetup → ℕ
line_of_setup (Sent line setup layout serial) = line
line_of_setup (Psi5 line setup slots init) = line
line_of_setup (Spc line setup) = line
line_of_setup (Tooth line setup) = line

-- a channel of this setup reads the line
abbrev pub reads_line : ChannelSetup → ℕ → Bool
reads_line (Sent line setup layout serial) number = nat_eq number line
reads_line (Psi5 line setup None init) number = nat_eq number line
reads_line (Psi5 line setup (Some slots) init) number = nat_eq number line || nat_eq number slots.line
reads_line (Spc line setup) number = nat_eq number line
reads_line (Tooth line setup) number = nat_eq number line

-- the two frames end in the same check
abbrev pub same_check : Check → Check → Bool
same_check check.Parity check.Parity = true
same_check check.Parity check.Crc = false
same_check check.Crc check.Parity = false
same_check check.Crc check.Crc = true

-- the two frames have parts of the same widths
abbrev pub same_parts : Parts → Parts → Bool
same_parts p q = nat_eq p.m q.m && nat_eq p.f q.f && nat_eq p.s q.s && nat_eq p.b q.b && nat_eq p.a q.a

-- two PSI5 setups are the same
abbrev pub same_setup : Settings → Settings → Bool
same_setup s t = nat_eq s.bit t.bit && same_parts s.parts t.parts && same_check s.check t.check && nat_eq s.jitter t.jitter

-- a sync line above 15, or the same as the data line
abbrev pub are_wrong_lines : ℕ → Option SyncSlots → Bool
are_wrong_lines line None = nat_lt 15 line
are_wrong_lines line (Some slots) = nat_lt 15 line || nat_lt 15 slots.line || nat_eq slots.line line

-- the slots were made for other frames
abbrev pub are_other_slots : Settings → Option SyncSlots → Bool
are_other_slots setup None = false
are_other_slots setup (Some slots) = not (same_setup slots.setup.frame setup)

-- how often a block is sent is outside 1 to 16, or data A doesn't have the 10 bits of a code
abbrev pub are_wrong_repeats : Settings → Option ℕ → Bool
are_wrong_repeats setup None = false
are_wrong_repeats setup (Some repeats) = nat_lt repeats 1 || nat_lt 16 repeats || not (nat_eq setup.parts.a 10)

-- the fault of a line above 15
abbrev pub high_line_fault : ℕ → Option SetupFault
high_line_fault line = if nat_lt 15 line then Some fault.Lines else None

-- the first fault of a setup: a line above 15, or two that are the same; then a layout that hasn't the frame's number of nibbles, slots of other frames, and a wrong number of repeats
abbrev pub setup_fault_of : ChannelSetup → Option SetupFault
setup_fault_of (Sent line setup layout serial) =
    if nat_lt 15 line then Some fault.Lines
    else (if not (nibbles_fit layout setup.nibbles) then Some fault.Layout
    else None)
setup_fault_of (Psi5 line setup slots init) =
    if are_wrong_lines line slots then Some fault.Lines
    else (if are_other_slots setup slots then Some fault.Slots
    else (if are_wrong_repeats setup init then Some fault.Repeats
    else None))
setup_fault_of (Spc line setup) = high_line_fault line
setup_fault_of (Tooth line setup) = high_line_fault line
