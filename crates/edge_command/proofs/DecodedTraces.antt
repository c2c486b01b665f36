-- What decoding has told of honest traces follows from how it ended.
use Rattle.std.proofs.Common.{ℕ, Option, None, Some, IfSome, List}
use Rattle.line_base.specs.declared.reason.Reason.{Reason}
use Rattle.command_base.specs.Ended.{Ended}
use Rattle.decode_command.specs.Channels.{Decoding, decoding_task}
use Rattle.decode_command.specs.Traces.{ToldTraces}
use Rattle.decode_command.proofs.Traces.{told-traces}
use Rattle.edge_command.specs.Commands.{Decoded, Ran}

told : (decoding : Decoding) (why : Reason) (left left' got got' : Option (List ℕ)) → IfSome left (λ bytes. Ended (decoding_task decoding) why bytes left' got got') → IfSome left (λ bytes. ToldTraces decoding why bytes got got')
told decoding why None left' got got' ended = tt
told decoding why (Some bytes) left' got got' ended = told-traces decoding why bytes left' got got' ended

-- decoding that ended so did what is said of it
pub decoded : (decoding : Decoding) (why : Reason) (left left' got got' : Option (List ℕ)) → IfSome left (λ bytes. Ended (decoding_task decoding) why bytes left' got got')
    → Decoded decoding why (record { left = left; left_now = left'; got = got; got_now = got' })
decoded decoding why left left' got got' ended = record { ended = ended; tolerance = told decoding why left left' got got' ended }
