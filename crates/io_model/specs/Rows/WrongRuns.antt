use Rattle.std.specs.Prelude.{ℕ, List, [], ◌∷◌, map, replicate}
use Rattle.std.specs.List.{range_with_len}
use Rattle.iob_base.specs.declared.answer.Fault.TheVariants.{Eio}
use Rattle.iob_base.specs.declared.answer.Reply.TheVariants.{Ok, Err}
use Rattle.iob_base.specs.declared.answer.Stop.TheVariants.{Whole}
use Rattle.iob_base.specs.declared.stamp.Stamp.{Stamp}
use Rattle.io_model.specs.Rows.ClosingSyncFails
use Rattle.io_model.specs.Rows.FailedDirectWriteLandsAPrefix
use Rattle.io_model.specs.Rows.HoleAndUnwrittenReadZeros
use Rattle.io_model.specs.Rows.OneBioForThreeDirtyBlocks
use Rattle.io_model.specs.Rows.Parts.{extent, gave, returned, done, done_by, missed_by, block_with, block_without, filled}
use Rattle.io_model.specs.Rows.ReadsOneMappedBlock
use Rattle.io_model.specs.Rows.ShortReadAtAFault
use Rattle.io_model.specs.Rows.TwoDirectWritesInOnePhase
use Rattle.io_model.specs.Rows.WriteIntoUnwrittenConvertsAtClose
use Rattle.io_model.specs.declared.file.BlockEnd.{BlockEnd}
use Rattle.io_model.specs.declared.file.Extent.{Extent}
use Rattle.io_model.specs.declared.file.FileEnd.{FileEnd}
use Rattle.io_model.specs.declared.file.Kind.TheVariants.{Hole, Mapped}
use Rattle.io_model.specs.declared.run.CallEnd.{CallEnd}
use Rattle.io_model.specs.declared.run.Run.{Run}

-- right runs of one file, each with one thing wrong

abbrev pub with_calls : List CallEnd → Run → Run
with_calls calls run = record run { calls = calls }

abbrev pub with_files : (FileEnd → FileEnd) → Run → Run
with_files f run = record run { ends = record run.ends { files = map f run.ends.files } }

abbrev pub with_blocks : List BlockEnd → Run → Run
with_blocks blocks run = with_files (λ file. record file { blocks = blocks }) run

abbrev pub with_extents : List Extent → Run → Run
with_extents extents run = with_files (λ file. record file { extents = extents }) run

-- other stamps on a block
abbrev pub restamped : List Stamp → BlockEnd → BlockEnd
restamped journal block = record block { journal = journal }

-- where the file has one block: other stamps there
abbrev pub with_journal : List Stamp → Run → Run
with_journal journal run = with_files (λ file. record file { blocks = map (restamped journal) file.blocks }) run

-- Reads

-- the first byte read is 1, where the block has 0
abbrev pub wrong_byte : Run
wrong_byte = with_calls (gave (1 ∷ range_with_len 1 15) (Ok 16 Whole) 1 ∷ []) ReadsOneMappedBlock.run

-- the second read ends in the bytes that the device has for an unwritten block
abbrev pub stale_bytes : Run
stale_bytes = with_calls
    (gave (238 ∷ 238 ∷ 0 ∷ 0 ∷ []) (Ok 4 Whole) 1 ∷ gave (0 ∷ 0 ∷ 238 ∷ 238 ∷ []) (Ok 4 Whole) 0 ∷ [])
    HoleAndUnwrittenReadZeros.run

-- a byte fewer than the count
abbrev pub byte_short : Run
byte_short = with_calls (gave (range_with_len 0 15) (Ok 16 Whole) 1 ∷ []) ReadsOneMappedBlock.run

-- Journals

-- the hole's journal lacks the first of its two reads
abbrev pub stamp_left_out : Run
stamp_left_out = with_blocks
    (block_with (filled 5) (done 1 ∷ []) ∷ block_without (done 2 ∷ []) ∷ block_with (filled 6) (done 2 ∷ []) ∷ [])
    HoleAndUnwrittenReadZeros.run

-- the read stands in the block after the fault too
abbrev pub stamp_past_the_answer : Run
stamp_past_the_answer = with_blocks
    (block_with (filled 0) []
    ∷ block_with (filled 1) []
    ∷ block_with (filled 2) []
    ∷ block_with (filled 3) (done 1 ∷ [])
    ∷ block_with (filled 4) (done 1 ∷ [])
    ∷ block_with (filled 5) []
    ∷ block_with (filled 6) []
    ∷ block_with (filled 7) []
    ∷ [])
    ShortReadAtAFault.run

-- the read stands twice
abbrev pub stamp_twice : Run
stamp_twice = with_journal (done_by 1 1 ∷ done_by 2 2 ∷ done_by 3 3 ∷ done_by 3 3 ∷ []) TwoDirectWritesInOnePhase.run

-- the second write is said to be of the pass that made the first
abbrev pub stamp_of_another_pass : Run
stamp_of_another_pass = with_journal (done_by 1 1 ∷ done_by 1 2 ∷ done_by 3 3 ∷ []) TwoDirectWritesInOnePhase.run

-- the hole's journal has the second read of the one caller before its first
abbrev pub swapped_stamps : Run
swapped_stamps = with_blocks
    (block_with (filled 5) (done 1 ∷ []) ∷ block_without (done 2 ∷ done 1 ∷ []) ∷ block_with (filled 6) (done 2 ∷ []) ∷ [])
    HoleAndUnwrittenReadZeros.run

-- the read of the second phase stands before a write of the first, and gives the bytes of that place
abbrev pub later_phase_first : Run
later_phase_first = with_calls
    (returned (0 ∷ []) [] (Ok 16 Whole) 1 ∷ returned (1 ∷ []) [] (Ok 16 Whole) 1 ∷ returned (2 ∷ []) (replicate 16 65) (Ok 16 Whole) 1 ∷ [])
    (with_journal (done_by 1 1 ∷ done_by 3 3 ∷ done_by 2 2 ∷ []) TwoDirectWritesInOnePhase.run)

-- the first write answered Ok, and its stamp says that it failed
abbrev pub failed_mark_of_a_done_call : Run
failed_mark_of_a_done_call = with_journal (missed_by 1 1 ∷ done_by 2 2 ∷ done_by 3 3 ∷ []) TwoDirectWritesInOnePhase.run

-- Contents

-- the block is mapped, and its sector has the device's old bytes
abbrev pub lost_write : Run
lost_write = with_blocks (block_with (filled 3) (done 1 ∷ done 2 ∷ []) ∷ block_without [] ∷ []) WriteIntoUnwrittenConvertsAtClose.run

-- the block whose writeback failed lost its page
abbrev pub lost_page : Run
lost_page = with_blocks (block_with (filled 0) (done 1 ∷ []) ∷ []) ClosingSyncFails.run

-- User pages

abbrev pub with_pages : List ℕ → Run
with_pages pages = with_calls
    (returned pages [] (Err (Eio 0 0 1) 4) 1 ∷ gave (65 ∷ 65 ∷ 238 ∷ 238 ∷ []) (Ok 4 Whole) 1 ∷ [])
    FailedDirectWriteLandsAPrefix.run

abbrev pub missing_user_page : Run
missing_user_page = with_pages (0 ∷ 1 ∷ 3 ∷ [])

abbrev pub swapped_user_pages : Run
swapped_user_pages = with_pages (1 ∷ 0 ∷ 2 ∷ 3 ∷ [])

-- The form of a run

-- two neighbours of the extents could be one
abbrev pub split_extent : Run
split_extent = with_extents (extent 0 1 Hole ∷ extent 1 1 (Mapped 0) ∷ extent 2 2 (Mapped 1) ∷ []) OneBioForThreeDirtyBlocks.run

-- the unwritten block has no sector
abbrev pub missing_sector : Run
missing_sector = with_blocks
    (block_with (filled 5) (done 1 ∷ []) ∷ block_without (done 1 ∷ done 2 ∷ []) ∷ block_without (done 2 ∷ []) ∷ [])
    HoleAndUnwrittenReadZeros.run
