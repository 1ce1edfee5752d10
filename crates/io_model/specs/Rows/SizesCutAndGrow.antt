use Rattle.std.specs.Prelude.{[], ◌∷◌, ◌++◌, Some, replicate}
use Rattle.iob_base.specs.DeviceBlock.{device_block}
use Rattle.iob_base.specs.declared.answer.Reply.TheVariants.{Ok}
use Rattle.iob_base.specs.declared.answer.Stop.TheVariants.{Whole, End}
use Rattle.io_model.specs.Rows.Parts.{small, cached, extent, call, answer, ended, gave, done, block_with, block_without, free_blocks, lane, outer_lanes, size_stamp}
use Rattle.io_model.specs.declared.file.Kind.TheVariants.{Hole, Mapped}
use Rattle.io_model.specs.declared.file.SizeMark.TheVariants.{See, Grow, Cut}
use Rattle.io_model.specs.declared.script.Script.{Script}
use Rattle.io_model.specs.declared.script.Verb.TheVariants.{Pread, Pwrite, Trunc}
use Rattle.io_model.specs.declared.run.Run.{Run}

-- iomap 1, dev 16 8 ee, folio 4, file f cached 4, size f 5, ext f 0 2 1 mapped, phase,
-- 0 pread f 0 16, 0 pwrite f 20 41, 0 pread f 0 24, 0 trunc f 3, 0 pread f 0 8
abbrev pub script : Script
script = record small {
  files = record (cached 4 (extent 0 1 (Mapped 2) ∷ [])) { size = Some 5 } ∷ [];
  calls = call (Pread 0 (16 ∷ [])) ∷ call (Pwrite 20 ((65 ∷ []) ∷ [])) ∷ call (Pread 0 (24 ∷ [])) ∷ call (Trunc 3) ∷ call (Pread 0 (8 ∷ [])) ∷ [];
}

abbrev pub run : Run
run = record {
  calls =
      gave (replicate 5 238) (Ok 5 End) 1
      ∷ ended (Ok 1 Whole) 0
      ∷ gave (replicate 5 238 ++ (replicate 15 0 ++ 65 ∷ [])) (Ok 21 End) 0
      ∷ ended (Ok 29 Whole) 0
      ∷ gave (replicate 3 238) (Ok 3 End) 0
      ∷ [];
  closes = answer (Ok 1 Whole) 1 ∷ [];
  ends = record {
    files = record {
      size = Some 3;
      sizes = size_stamp 1 (See 5) ∷ size_stamp 2 (Grow 21) ∷ size_stamp 3 (See 21) ∷ size_stamp 4 (See 21) ∷ size_stamp 4 (Cut 3) ∷ size_stamp 5 (See 3) ∷ [];
      extents = extent 0 1 (Mapped 2) ∷ extent 1 3 Hole ∷ [];
      blocks = block_with (device_block 2 (replicate 3 238 ++ replicate 13 0)) (done 1 ∷ done 3 ∷ done 4 ∷ done 5 ∷ []) ∷ block_without (done 2 ∷ done 3 ∷ done 4 ∷ []) ∷ block_without [] ∷ block_without [] ∷ [];
    } ∷ [];
    free = free_blocks (0 ∷ 1 ∷ 3 ∷ 4 ∷ 5 ∷ 6 ∷ 7 ∷ []);
  };
  lanes = outer_lanes (lane 1 0) (lane 1 0);
}
