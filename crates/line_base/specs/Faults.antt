-- The faults' numbers and printed names; this project's own.
use Rattle.std.specs.Prelude.{ℕ, List, codes}
use Rattle.line_base.specs.declared.faults.WordFault.{WordFault}
use Rattle.line_base.specs.declared.faults.WordFault.TheVariants as word
use Rattle.line_base.specs.declared.faults.LineFault.{LineFault}
use Rattle.line_base.specs.declared.faults.LineFault.TheVariants as line
use Rattle.line_base.specs.declared.archive_fault.ArchiveFault.{ArchiveFault}
use Rattle.line_base.specs.declared.archive_fault.ArchiveFault.TheVariants as archive
use Rattle.line_base.specs.declared.faults.SetupFault.{SetupFault}
use Rattle.line_base.specs.declared.faults.SetupFault.TheVariants as setup

-- the number of a word's fault, 1 to 11
abbrev pub word_fault_number : WordFault → ℕ
word_fault_number word.Missing = 1
word_fault_number word.Command = 2
word_fault_number word.Kind = 3
word_fault_number word.Key = 4
word_fault_number word.Value = 5
word_fault_number word.Absent = 6
word_fault_number word.Setup = 7
word_fault_number word.Channels = 8
word_fault_number word.Extra = 9
word_fault_number word.NotBuilt = 10
word_fault_number word.Unfit = 11

-- the number of a line's fault, 1 to 9 or 11; 10 is no number of a fault
abbrev pub line_fault_number : LineFault → ℕ
line_fault_number line.Field = 1
line_fault_number line.Number = 2
line_fault_number line.Line = 3
line_fault_number line.Level = 4
line_fault_number line.TimeBack = 5
line_fault_number line.TooLarge = 6
line_fault_number line.LineTooLong = 7
line_fault_number line.InputTooLong = 8
line_fault_number line.Order = 9
line_fault_number line.Version = 11

-- the number of a setup's fault, 1 to 14
abbrev pub setup_fault_number : SetupFault → ℕ
setup_fault_number setup.Tick = 1
setup_fault_number setup.Jitter = 2
setup_fault_number setup.Nibbles = 3
setup_fault_number setup.Layout = 4
setup_fault_number setup.Pause = 5
setup_fault_number setup.Windows = 6
setup_fault_number setup.Delay = 7
setup_fault_number setup.Quiet = 8
setup_fault_number setup.Bit = 9
setup_fault_number setup.Parts = 10
setup_fault_number setup.Slots = 11
setup_fault_number setup.Repeats = 12
setup_fault_number setup.Period = 13
setup_fault_number setup.Lines = 14

-- the name by which a word's fault is printed
abbrev pub word_fault_name : WordFault → List ℕ
word_fault_name word.Missing = codes "Missing"
word_fault_name word.Command = codes "Command"
word_fault_name word.Kind = codes "Kind"
word_fault_name word.Key = codes "Key"
word_fault_name word.Value = codes "Value"
word_fault_name word.Absent = codes "Absent"
word_fault_name word.Setup = codes "Setup"
word_fault_name word.Channels = codes "Channels"
word_fault_name word.Extra = codes "Extra"
word_fault_name word.NotBuilt = codes "NotBuilt"
word_fault_name word.Unfit = codes "Unfit"

-- the name by which a line's fault is printed
abbrev pub line_fault_name : LineFault → List ℕ
line_fault_name line.Field = codes "Field"
line_fault_name line.Number = codes "Number"
line_fault_name line.Line = codes "Line"
line_fault_name line.Level = codes "Level"
line_fault_name line.TimeBack = codes "TimeBack"
line_fault_name line.TooLarge = codes "TooLarge"
line_fault_name line.LineTooLong = codes "LineTooLong"
line_fault_name line.InputTooLong = codes "InputTooLong"
line_fault_name line.Order = codes "Order"
line_fault_name line.Version = codes "Version"

-- the number of a fault of an archive, 1 to 9
abbrev pub archive_fault_number : ArchiveFault → ℕ
archive_fault_number archive.Header = 1
archive_fault_number archive.Channel = 2
archive_fault_number archive.Tag = 3
archive_fault_number archive.Number = 4
archive_fault_number archive.Range = 5
archive_fault_number archive.Count = 6
archive_fault_number archive.Trailing = 7
archive_fault_number archive.Truncated = 8
archive_fault_number archive.TooLong = 9

-- the name by which a fault of an archive is printed
abbrev pub archive_fault_name : ArchiveFault → List ℕ
archive_fault_name archive.Header = codes "Header"
archive_fault_name archive.Channel = codes "Channel"
archive_fault_name archive.Tag = codes "Tag"
archive_fault_name archive.Number = codes "Number"
archive_fault_name archive.Range = codes "Range"
archive_fault_name archive.Count = codes "Count"
archive_fault_name archive.Trailing = codes "Trailing"
archive_fault_name archive.Truncated = codes "Truncated"
archive_fault_name archive.TooLong = codes "TooLong"
