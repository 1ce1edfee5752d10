use Rattle.std.specs.Prelude.{ℕ, zero, suc, Bool, not, ◌&&◌, ◌||◌, ◌==◌, nat_le, ◌-◌, ◌*◌, List, [], ◌∷◌, length, IsTrue, if◌then◌else◌}
use Rattle.std.specs.List.{take_while}
use Rattle.std.specs.Str.{bytes_eq}
use Rattle.iob_base.specs.declared.answer.Reply.{Reply}
use Rattle.iob_base.specs.declared.answer.Reply.TheVariants.{Ok, Err}
use Rattle.iob_base.specs.declared.stamp.Stamp.{Stamp}
use Rattle.io_model.specs.Answered.{answered_span, is_answered}
use Rattle.io_model.specs.Calls.{is_read, offset_of}
use Rattle.io_model.specs.Effects.{replayed}
use Rattle.io_model.specs.Lists.{both_from, each_from, bytes_between}
use Rattle.io_model.specs.Parts.{part_in, span_length}
use Rattle.io_model.specs.Ranges.{Ranged, ranged_calls}
use Rattle.io_model.specs.declared.file.BlockEnd.{BlockEnd}
use Rattle.io_model.specs.declared.file.FileEnd.{FileEnd}
use Rattle.io_model.specs.declared.run.CallEnd.{CallEnd}
use Rattle.io_model.specs.declared.run.Run.{Run}
use Rattle.io_model.specs.declared.script.Script.{Script}

-- the stamps that stand before that of a call
abbrev pub stamps_before : ℕ → List Stamp → List Stamp
stamps_before n stamps = take_while (λ st. not (st.call == n)) stamps

-- what a read gave of a block is what the replay of the stamps before its own has there
abbrev pub gives_block : Script → List Ranged → ℕ → Ranged → CallEnd → ℕ → BlockEnd → Bool
gives_block script calls n r end b block =
    let size = script.geometry.block_size in
    let part = part_in size (answered_span size r end.answer.reply) b in
    let first = b * size in
    not (is_answered size r end.answer.reply b)
    || bytes_eq (bytes_between (part.from - offset_of r.call.verb) (part.to - offset_of r.call.verb) end.got)
    (bytes_between (part.from - first) (part.to - first) (replayed script calls r.call.file.0 b (stamps_before n block.journal)))

abbrev pub blocks_at : List FileEnd → ℕ → List BlockEnd
blocks_at [] f = []
blocks_at (file ∷ files) zero = file.blocks
blocks_at (file ∷ files) (suc f) = blocks_at files f

-- a read that answered Ok gave as many bytes as it counts, at most those of its range, each of them as
-- replayed; one that failed owes no bytes and gave none
abbrev pub gives_bytes : Script → List Ranged → List BlockEnd → ℕ → Ranged → CallEnd → Reply → Bool
gives_bytes script calls blocks n r end (Ok count _) =
    count == length end.got && (nat_le count (span_length r.range) && each_from (gives_block script calls n r end) 0 blocks)
gives_bytes script calls blocks n r end (Err _ _) = length end.got == 0

-- a read gives what its reply owes; another call gives no bytes
abbrev pub is_read_reply : Script → List Ranged → List FileEnd → ℕ → Ranged → CallEnd → Bool
is_read_reply script calls files n r end =
    if is_read r.call.verb then gives_bytes script calls (blocks_at files r.call.file.0) n r end end.answer.reply else length end.got == 0

-- every byte read in a run is the one that the journals give
abbrev pub IsReadReply : Script → Run → Type 0
IsReadReply script run = IsTrue (both_from (is_read_reply script (ranged_calls script run) run.ends.files) 1 (ranged_calls script run) run.calls)
