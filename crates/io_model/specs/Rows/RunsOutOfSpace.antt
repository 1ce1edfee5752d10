use Rattle.std.specs.Prelude.{ℕ, List, [], ◌∷◌, codes, replicate, None}
use Rattle.iob_base.specs.DeviceBlock.{device_block}
use Rattle.iob_base.specs.declared.answer.Fault.TheVariants.{NoSpace}
use Rattle.iob_base.specs.declared.answer.Reply.TheVariants.{Ok, Err}
use Rattle.iob_base.specs.declared.answer.Stop.TheVariants.{Fault as Short}
use Rattle.iob_base.specs.declared.answer.Stop.TheVariants.{Whole}
use Rattle.io_model.specs.Rows.Parts.{small, cached, extent, call, answer, ended, done, block_with, block_without, lane, outer_lanes}
use Rattle.io_model.specs.Text.{◌⋅◌}
use Rattle.io_model.specs.declared.file.BlockEnd.{BlockEnd}
use Rattle.io_model.specs.declared.file.Kind.TheVariants.{Hole, Mapped}
use Rattle.io_model.specs.declared.script.Script.{Script}
use Rattle.io_model.specs.declared.script.Verb.TheVariants.{Pwrite, Alloc}
use Rattle.io_model.specs.declared.run.Run.{Run}

-- iomap 1, dev 16 4 ee, folio 4, file f cached 8, phase, 0 alloc f 0 80, 0 pwrite f 16 43x80
abbrev pub script : Script
script = record small {
  device_blocks = 4;
  files = cached 8 [] ∷ [];
  calls = call (Alloc 0 80) ∷ call (Pwrite 16 (replicate 80 67 ∷ [])) ∷ [];
}

-- a whole block of the written bytes
abbrev pub written : ℕ → BlockEnd
written n = block_with (device_block n (replicate 16 67)) (done 2 ∷ [])

abbrev pub run : Run
run = record {
  calls = ended (Err (NoSpace 5 4) 0) 0 ∷ ended (Ok 64 (Short (NoSpace 1 0))) 0 ∷ [];
  closes = answer (Ok 4 Whole) 2 ∷ [];
  ends = record {
    files = record {
      size = None;
      sizes = [];
      extents = extent 0 1 Hole ∷ extent 1 4 (Mapped 0) ∷ extent 5 3 Hole ∷ [];
      blocks =
          block_without []
          ∷ written 0
          ∷ written 1
          ∷ written 2
          ∷ written 3
          ∷ block_without []
          ∷ block_without []
          ∷ block_without []
          ∷ [];
    } ∷ [];
    free = [];
  };
  lanes = outer_lanes (lane 0 0) (lane 2 0);
}

abbrev pub text : List ℕ
text =
    codes "run 1\n"
    ⋅ codes "call 1 0 alloc err ENOSPC wanted 5 found 4 bios 0\n"
    ⋅ codes "call 2 0 pwrite ok 64 short ENOSPC wanted 1 found 0 bios 0\n"
    ⋅ codes "close f ok 4 bios 2\n"
    ⋅ codes "journal f 1 2\n"
    ⋅ codes "journal f 2 2\n"
    ⋅ codes "journal f 3 2\n"
    ⋅ codes "journal f 4 2\n"
    ⋅ codes "map f 1 4 mapped 0\n"
    ⋅ codes "free 0\n"
    ⋅ codes "bios 0\n"
    ⋅ codes "lane 16 ops 2 faults 0\n"
    ⋅ codes "end\n"
