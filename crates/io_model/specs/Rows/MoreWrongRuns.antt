use Rattle.std.specs.Prelude.{ℕ, List, [], ◌∷◌, ◌++◌, Some, None, replicate}
use Rattle.std.specs.List.{range_with_len}
use Rattle.iob_base.specs.DeviceBlock.{DeviceBlock, device_block}
use Rattle.iob_base.specs.declared.answer.Alignment.TheVariants.{Offset, Segment}
use Rattle.iob_base.specs.declared.answer.Answer.{Answer}
use Rattle.iob_base.specs.declared.answer.Fault.TheVariants.{Eio, SyncEio, NotAligned, NoSpace}
use Rattle.iob_base.specs.declared.answer.Reply.{Reply}
use Rattle.iob_base.specs.declared.answer.Reply.TheVariants.{Ok, Err}
use Rattle.iob_base.specs.declared.answer.Stop.TheVariants.{Whole, End, Fault as Short}
use Rattle.io_model.specs.Rows.AllocatesAndPunches
use Rattle.io_model.specs.Rows.ClosingSyncFails
use Rattle.io_model.specs.Rows.HoleAndUnwrittenReadZeros
use Rattle.io_model.specs.Rows.OneBioForThreeDirtyBlocks
use Rattle.io_model.specs.Rows.Parts.{small, cached, extent, call, answer, ended, gave, returned, done, block_with, block_without, filled, free_blocks, lane, outer_lanes}
use Rattle.io_model.specs.Rows.ReadsOneMappedBlock
use Rattle.io_model.specs.Rows.RunsOutOfSpace
use Rattle.io_model.specs.Rows.SizesCutAndGrow
use Rattle.io_model.specs.Rows.TwoFaultsTwoReplies
use Rattle.io_model.specs.Rows.UnalignedDirectCallsAreRefused
use Rattle.io_model.specs.Rows.WrongRuns.{with_calls, with_files, with_blocks, with_extents}
use Rattle.io_model.specs.declared.file.Kind.TheVariants.{Hole, Unwritten, Mapped}
use Rattle.io_model.specs.declared.run.Run.{Run}
use Rattle.io_model.specs.declared.script.Script.{Script}
use Rattle.io_model.specs.declared.script.Verb.TheVariants.{Sync, Alloc}

-- more right runs of one file, each with one thing wrong

abbrev pub with_close : Answer → Run → Run
with_close close run = record run { closes = close ∷ [] }

abbrev pub with_free : List DeviceBlock → Run → Run
with_free free run = record run { ends = record run.ends { free = free } }

-- Replies

-- the read of the mapped block answers this, and gives so many bytes of it, which no journal has where there are none
abbrev pub read_answers : List ℕ → Reply → Run
read_answers got reply = with_calls (gave got reply 1 ∷ []) ReadsOneMappedBlock.run

abbrev pub read_answers_without_stamp : Reply → Run
read_answers_without_stamp reply =
    with_blocks (block_with (device_block 2 ReadsOneMappedBlock.counted) [] ∷ replicate 3 (block_without [])) (read_answers [] reply)

-- the read of 16 bytes counts none
abbrev pub nothing_read : Run
nothing_read = read_answers_without_stamp (Ok 0 Whole)

-- it counts four, and stops as if the file ended there
abbrev pub early_end : Run
early_end = read_answers (range_with_len 0 4) (Ok 4 End)

-- it counts 16 bytes more than it asked
abbrev pub too_many_bytes : Run
too_many_bytes = with_blocks (block_with (device_block 2 ReadsOneMappedBlock.counted) (done 1 ∷ []) ∷ replicate 3 (block_without []))
    (read_answers (ReadsOneMappedBlock.counted ++ replicate 16 0) (Ok 32 Whole))

-- it is refused as unaligned
abbrev pub aligned_call_refused : Run
aligned_call_refused = read_answers_without_stamp (Err (NotAligned (Offset 0)) 0)

-- a direct write is refused as unaligned, and its bytes stand in the block
abbrev pub refused_and_written : Run
refused_and_written = with_calls
    (returned (0 ∷ []) [] (Err (NotAligned (Offset 8)) 1) 0 ∷ returned (1 ∷ 2 ∷ []) [] (Err (NotAligned (Segment 1 8)) 0) 0 ∷ [])
    (with_blocks (block_with (device_block 5 (replicate 8 238 ++ replicate 8 66)) (done 1 ∷ []) ∷ []) UnalignedDirectCallsAreRefused.run)

-- a close tells an error of a lane
abbrev pub close_of_a_lane : Run
close_of_a_lane = with_close (answer (Err (Eio 0 0 1) 0) 0) ReadsOneMappedBlock.run

-- Causes

-- an allocation was refused although nine blocks were found for one
abbrev pub space_was_found : Run
space_was_found = with_calls
    (ended (Err (NoSpace 1 9) 0) 0 ∷ ended (Ok 64 (Short (NoSpace 1 0))) 0 ∷ [])
    RunsOutOfSpace.run

-- two calls tell one rise of the lane
abbrev pub one_fault_two_replies : Run
one_fault_two_replies = with_calls (ended (Err (Eio 0 0 1) 0) 1 ∷ ended (Err (Eio 0 0 1) 0) 1 ∷ []) TwoFaultsTwoReplies.run

-- a close tells a failed writeback, and no lane may fail
abbrev pub close_without_cause : Run
close_without_cause = with_close (answer (Err (SyncEio 0 1) 0) 0) ReadsOneMappedBlock.run

-- The device

-- no block is free, and one is in use
abbrev pub nothing_free : Run
nothing_free = with_free [] ReadsOneMappedBlock.run

-- two blocks of the file are on device block 0
abbrev pub shared_block : Run
shared_block = with_extents (extent 0 1 Hole ∷ extent 1 1 (Mapped 0) ∷ extent 2 2 (Mapped 0) ∷ [])
    (with_blocks
    (block_without []
    ∷ block_with (device_block 0 (replicate 16 65)) (done 1 ∷ [])
    ∷ block_with (device_block 0 (replicate 16 65)) (done 1 ∷ [])
    ∷ block_with (device_block 1 (replicate 16 65)) (done 1 ∷ [])
    ∷ []) OneBioForThreeDirtyBlocks.run)

-- Conversion

-- allocated space that nobody wrote is mapped, and has zeros
abbrev pub mapped_without_write : Run
mapped_without_write = with_extents (extent 0 1 (Unwritten 0) ∷ extent 1 1 Hole ∷ extent 2 1 (Mapped 2) ∷ extent 3 1 Hole ∷ [])
    (with_blocks
    (block_with (filled 0) (done 3 ∷ [])
    ∷ block_without (done 2 ∷ done 3 ∷ [])
    ∷ block_with (device_block 2 (replicate 16 0)) []
    ∷ block_without []
    ∷ []) AllocatesAndPunches.run)

-- a hole that nobody wrote is mapped, and has zeros
abbrev pub mapped_hole : Run
mapped_hole = with_free (free_blocks (0 ∷ 1 ∷ 2 ∷ 3 ∷ 4 ∷ []))
    (with_extents (extent 0 1 (Mapped 5) ∷ extent 1 1 (Mapped 7) ∷ extent 2 1 (Unwritten 6) ∷ [])
    (with_blocks
    (block_with (filled 5) (done 1 ∷ [])
    ∷ block_with (device_block 7 (replicate 16 0)) (done 1 ∷ done 2 ∷ [])
    ∷ block_with (filled 6) (done 2 ∷ [])
    ∷ []) HoleAndUnwrittenReadZeros.run))

-- the block is mapped although its one writeback failed
abbrev pub mapped_after_failure : Run
mapped_after_failure = with_extents (extent 0 1 (Mapped 0) ∷ [])
    (with_blocks (block_with (device_block 0 (replicate 16 65)) (done 1 ∷ []) ∷ []) ClosingSyncFails.run)

-- Space

-- the mapped block is on another device block, with its bytes
abbrev pub moved_block : Run
moved_block = with_free (free_blocks (0 ∷ 1 ∷ 2 ∷ 4 ∷ 5 ∷ 6 ∷ 7 ∷ []))
    (with_extents (extent 0 1 (Mapped 3) ∷ extent 1 3 Hole ∷ [])
    (with_blocks (block_with (device_block 3 ReadsOneMappedBlock.counted) (done 1 ∷ []) ∷ replicate 3 (block_without [])) ReadsOneMappedBlock.run))

-- the unwritten block is a hole
abbrev pub vanished_extent : Run
vanished_extent = with_free (free_blocks (0 ∷ 1 ∷ 2 ∷ 3 ∷ 4 ∷ 6 ∷ 7 ∷ []))
    (with_extents (extent 0 1 (Mapped 5) ∷ extent 1 2 Hole ∷ [])
    (with_blocks (block_with (filled 5) (done 1 ∷ []) ∷ block_without (done 1 ∷ done 2 ∷ []) ∷ block_without (done 2 ∷ []) ∷ []) HoleAndUnwrittenReadZeros.run))

-- iomap 1, dev 16 8 ee, folio 4, file f cached 3, phase, 0 alloc f 0 48
abbrev pub alloc_script : Script
alloc_script = record small { files = cached 3 [] ∷ []; calls = call (Alloc 0 48) ∷ [] }

-- the allocation answers three blocks, and the file is a hole
abbrev pub alloc_without_space : Run
alloc_without_space = record {
  calls = ended (Ok 3 Whole) 0 ∷ [];
  closes = answer (Ok 0 Whole) 0 ∷ [];
  ends = record {
    files = record { size = None; sizes = []; extents = extent 0 3 Hole ∷ []; blocks = replicate 3 (block_without []) } ∷ [];
    free = free_blocks (range_with_len 0 8);
  };
  lanes = outer_lanes (lane 0 0) (lane 0 0);
}

-- the close is Ok, and the block is dirty
abbrev pub dirty_after_close : Run
dirty_after_close = with_close (answer (Ok 0 Whole) 1) ClosingSyncFails.run

-- Bios

-- iomap 1, dev 16 8 ee, folio 4, file f cached 3, ext f 0 0 3 mapped, phase, 0 sync f
abbrev pub sync_script : Script
sync_script = record small { files = cached 3 (extent 0 3 (Mapped 0) ∷ []) ∷ []; calls = call Sync ∷ [] }

-- the sync counts three blocks and made no bio
abbrev pub sync_without_bio : Run
sync_without_bio = record {
  calls = ended (Ok 3 Whole) 0 ∷ [];
  closes = answer (Ok 0 Whole) 0 ∷ [];
  ends = record {
    files = record {
      size = None;
      sizes = [];
      extents = extent 0 3 (Mapped 0) ∷ [];
      blocks = block_with (filled 0) [] ∷ block_with (filled 1) [] ∷ block_with (filled 2) [] ∷ [];
    } ∷ [];
    free = free_blocks (range_with_len 3 5);
  };
  lanes = outer_lanes (lane 0 0) (lane 0 0);
}

-- a read of one block made two bios
abbrev pub two_bios_for_a_block : Run
two_bios_for_a_block = with_calls (gave ReadsOneMappedBlock.counted (Ok 16 Whole) 2 ∷ []) ReadsOneMappedBlock.run

-- Sizes

-- the file is printed with another size than the last cut set
abbrev pub wrong_size : Run
wrong_size = with_files (λ file. record file { size = Some 4 }) SizesCutAndGrow.run
