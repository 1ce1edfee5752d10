use Rattle.std.specs.Prelude.{ℕ, Bool, ◌&&◌, ◌||◌, ◌==◌, nat_le, nat_lt, ◌+◌, ◌-◌}
use Rattle.io_model.specs.Calls.{asked_of, is_writeback, offset_of}
use Rattle.io_model.specs.declared.script.Call.{Call}
use Rattle.io_model.specs.declared.script.Verb.{Verb}
use Rattle.io_script.specs.Generated.{first_byte, stripe_of}

-- all bytes that a call asks lie in a stripe; a writeback asks for none
abbrev pub asks_in_stripe : ℕ → Verb → Bool
asks_in_stripe stripe verb =
    is_writeback verb || (nat_le (first_byte stripe) (offset_of verb) && nat_le (offset_of verb + asked_of verb) (first_byte stripe + 32768))

-- one of eight callers keeps to the stripe that it has in the phase of a call, on the first file
abbrev pub keeps_to_stripe : Call → Bool
keeps_to_stripe call =
    nat_lt call.caller 8 && (nat_lt 0 call.phase && (call.file.0 == 0 && asks_in_stripe (stripe_of call.caller (call.phase - 1)) call.verb))
