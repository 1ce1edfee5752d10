-- What a read replies.
use Rattle.std.specs.Prelude.{ℕ, ◌==◌, Option, Some, None, if◌then◌else◌}
use Rattle.iob_base.specs.declared.answer.Fault.{Fault}
use Rattle.iob_base.specs.declared.answer.Reply.{Reply}
use Rattle.iob_base.specs.declared.answer.Reply.TheVariants.{Ok, Err}
use Rattle.iob_base.specs.declared.answer.Stop.{Stop}
use Rattle.iob_base.specs.declared.answer.Stop.TheVariants.{Whole, End}
use Rattle.iob_base.specs.declared.answer.Stop.TheVariants.{Fault as Short}

-- how a read ends that did the bytes that the file has of those asked
abbrev pub end_stop : ℕ → ℕ → Stop
end_stop asked met = if met == asked then Whole else End

-- the reply of a read that did so many bytes and then met a fault
abbrev pub short_reply : ℕ → Fault → Reply
short_reply count fault = if count == 0 then Err fault 0 else Ok count (Short fault)

-- the reply of a read that did so many bytes: all that the file has of those asked, or those before a fault
abbrev pub read_reply : ℕ → ℕ → ℕ → Option Fault → Reply
read_reply asked met count None = Ok count (end_stop asked met)
read_reply asked met count (Some fault) = short_reply count fault
