use Rattle.std.specs.Prelude.{ℕ, Bool, ◌&&◌, ◌+◌, ◌*◌, ◌/◌, min, if◌then◌else◌}
use Rattle.iob_base.specs.declared.answer.Reply.{Reply}
use Rattle.iob_base.specs.declared.answer.Reply.TheVariants.{Ok, Err}
use Rattle.io_model.specs.Calls.{is_data_call, is_direct}
use Rattle.io_model.specs.Parts.{Span, span, meets}
use Rattle.io_model.specs.Ranges.{Ranged}

-- the bytes of a range that a reply speaks of: the first so many that an Ok counts, and of a direct call
-- that failed those of the first so many blocks that it sent
abbrev pub answered_in : ℕ → Span → Bool → Reply → Span
answered_in size range direct (Ok count _) = span range.from (min range.to (range.from + count))
answered_in size range direct (Err _ sent) = if direct then span range.from (min range.to ((range.from / size + sent) * size)) else span 0 0

abbrev pub answered_span : ℕ → Ranged → Reply → Span
answered_span size r reply = answered_in size r.range (is_direct r.call.verb) reply

-- the answered blocks of a data call are those that have such bytes
abbrev pub is_answered : ℕ → Ranged → Reply → ℕ → Bool
is_answered size r reply b = is_data_call r.call.verb && meets size (answered_span size r reply) b
