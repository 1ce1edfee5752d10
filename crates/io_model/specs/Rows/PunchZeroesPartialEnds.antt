use Rattle.std.specs.Prelude.{ℕ, List, [], ◌∷◌, ◌++◌, codes, replicate, None}
use Rattle.iob_base.specs.DeviceBlock.{device_block}
use Rattle.iob_base.specs.declared.answer.Reply.TheVariants.{Ok}
use Rattle.iob_base.specs.declared.answer.Stop.TheVariants.{Whole}
use Rattle.io_model.specs.Rows.Parts.{small, cached, extent, call, answer, ended, gave, done, block_with, block_without, free_blocks, lane, outer_lanes}
use Rattle.io_model.specs.Text.{◌⋅◌}
use Rattle.io_model.specs.declared.file.Kind.TheVariants.{Hole, Mapped}
use Rattle.io_model.specs.declared.script.Script.{Script}
use Rattle.io_model.specs.declared.script.Verb.TheVariants.{Pread, Zero, Punch}
use Rattle.io_model.specs.declared.run.Run.{Run}

-- iomap 1, dev 16 8 ee, folio 4, file f cached 3, ext f 0 0 3 mapped, phase,
-- 0 punch f 8 32, 0 pread f 6 4, 0 zero f 44 2, 0 pread f 40 8
abbrev pub script : Script
script = record small {
  files = cached 3 (extent 0 3 (Mapped 0) ∷ []) ∷ [];
  calls = call (Punch 8 32) ∷ call (Pread 6 (4 ∷ [])) ∷ call (Zero 44 2) ∷ call (Pread 40 (8 ∷ [])) ∷ [];
}

-- the bytes from 40 on, where the last call reads
abbrev pub tail : List ℕ
tail = replicate 4 238 ++ 0 ∷ 0 ∷ 238 ∷ 238 ∷ []

abbrev pub run : Run
run = record {
  calls =
      ended (Ok 32 Whole) 2
      ∷ gave (238 ∷ 238 ∷ 0 ∷ 0 ∷ []) (Ok 4 Whole) 0
      ∷ ended (Ok 2 Whole) 0
      ∷ gave tail (Ok 8 Whole) 0
      ∷ [];
  closes = answer (Ok 2 Whole) 2 ∷ [];
  ends = record {
    files = record {
      size = None;
      sizes = [];
      extents = extent 0 1 (Mapped 0) ∷ extent 1 1 Hole ∷ extent 2 1 (Mapped 2) ∷ [];
      blocks =
          block_with (device_block 0 (replicate 8 238 ++ replicate 8 0)) (done 1 ∷ done 2 ∷ [])
          ∷ block_without (done 1 ∷ [])
          ∷ block_with (device_block 2 (replicate 8 0 ++ tail)) (done 1 ∷ done 3 ∷ done 4 ∷ [])
          ∷ [];
    } ∷ [];
    free = free_blocks (1 ∷ 3 ∷ 4 ∷ 5 ∷ 6 ∷ 7 ∷ []);
  };
  lanes = outer_lanes (lane 2 0) (lane 2 0);
}

abbrev pub text : List ℕ
text =
    codes "run 1\n"
    ⋅ codes "call 1 0 punch ok 32 bios 2\n"
    ⋅ codes "call 2 0 pread ok 4 eeee0000 bios 0\n"
    ⋅ codes "call 3 0 zero ok 2 bios 0\n"
    ⋅ codes "call 4 0 pread ok 8 eeeeeeee0000eeee bios 0\n"
    ⋅ codes "close f ok 2 bios 2\n"
    ⋅ codes "journal f 0 1 2\n"
    ⋅ codes "journal f 1 1\n"
    ⋅ codes "journal f 2 1 3 4\n"
    ⋅ codes "map f 0 1 mapped 0\n"
    ⋅ codes "map f 2 1 mapped 2\n"
    ⋅ codes "free 6\n"
    ⋅ codes "bios 2\n"
    ⋅ codes "lane 0 ops 2 faults 0\n"
    ⋅ codes "lane 16 ops 2 faults 0\n"
    ⋅ codes "end\n"
