use Rattle.std.specs.Prelude.{[], ◌∷◌, ◌++◌, Some, replicate}
use Rattle.iob_base.specs.DeviceBlock.{device_block}
use Rattle.iob_base.specs.declared.answer.Fault.TheVariants.{TooFar}
use Rattle.iob_base.specs.declared.answer.Reply.TheVariants.{Ok, Err}
use Rattle.iob_base.specs.declared.answer.Stop.TheVariants.{Whole}
use Rattle.io_model.specs.Rows.Parts.{small, cached, extent, call, answer, ended, block_with, block_without, free_blocks, lane, outer_lanes}
use Rattle.io_model.specs.declared.file.Kind.TheVariants.{Hole, Mapped}
use Rattle.io_model.specs.declared.script.Script.{Script}
use Rattle.io_model.specs.declared.script.Verb.TheVariants.{Trunc}
use Rattle.io_model.specs.declared.run.Run.{Run}

-- iomap 1, dev 16 8 ee, folio 4, file f cached 4, size f 5, ext f 0 2 1 mapped, phase, 0 trunc f 65
abbrev pub script : Script
script = record small {
  files = record (cached 4 (extent 0 1 (Mapped 2) ∷ [])) { size = Some 5 } ∷ [];
  calls = call (Trunc 65) ∷ [];
}

abbrev pub run : Run
run = record {
  calls =
      ended (Err (TooFar 65 64) 0) 0
      ∷ [];
  closes = answer (Ok 0 Whole) 0 ∷ [];
  ends = record {
    files = record {
      size = Some 5;
      sizes = [];
      extents = extent 0 1 (Mapped 2) ∷ extent 1 3 Hole ∷ [];
      blocks = block_with (device_block 2 (replicate 5 238 ++ replicate 11 0)) [] ∷ block_without [] ∷ block_without [] ∷ block_without [] ∷ [];
    } ∷ [];
    free = free_blocks (0 ∷ 1 ∷ 3 ∷ 4 ∷ 5 ∷ 6 ∷ 7 ∷ []);
  };
  lanes = outer_lanes (lane 0 0) (lane 0 0);
}
