use Rattle.std.specs.Prelude.{ℕ, List, [], ◌∷◌, codes, replicate, None}
use Rattle.iob_base.specs.DeviceBlock.{device_block}
use Rattle.iob_base.specs.declared.answer.Reply.TheVariants.{Ok}
use Rattle.iob_base.specs.declared.answer.Stop.TheVariants.{Whole}
use Rattle.io_model.specs.Rows.Parts.{small, cached, extent, call, answer, ended, gave, done, block_with, block_without, free_blocks, lane, outer_lanes}
use Rattle.io_model.specs.Text.{◌⋅◌}
use Rattle.io_model.specs.declared.file.Kind.TheVariants.{Hole, Mapped, Unwritten}
use Rattle.io_model.specs.declared.script.Script.{Script}
use Rattle.io_model.specs.declared.script.Verb.TheVariants.{Pread, Pwrite}
use Rattle.io_model.specs.declared.run.Run.{Run}

-- iomap 1, dev 16 8 ee, folio 4, file f cached 2, ext f 0 3 1 unwritten, phase,
-- 0 pwrite f 4 4142434445, 0 pread f 0 16
abbrev pub script : Script
script = record small {
  files = cached 2 (extent 0 1 (Unwritten 3) ∷ []) ∷ [];
  calls = call (Pwrite 4 ((65 ∷ 66 ∷ 67 ∷ 68 ∷ 69 ∷ []) ∷ [])) ∷ call (Pread 0 (16 ∷ [])) ∷ [];
}

-- the written bytes among zeros
abbrev pub written : List ℕ
written = 0 ∷ 0 ∷ 0 ∷ 0 ∷ 65 ∷ 66 ∷ 67 ∷ 68 ∷ 69 ∷ replicate 7 0

abbrev pub run : Run
run = record {
  calls = ended (Ok 5 Whole) 0 ∷ gave written (Ok 16 Whole) 0 ∷ [];
  closes = answer (Ok 1 Whole) 1 ∷ [];
  ends = record {
    files = record {
      size = None;
      sizes = [];
      extents = extent 0 1 (Mapped 3) ∷ extent 1 1 Hole ∷ [];
      blocks = block_with (device_block 3 written) (done 1 ∷ done 2 ∷ []) ∷ block_without [] ∷ [];
    } ∷ [];
    free = free_blocks (0 ∷ 1 ∷ 2 ∷ 4 ∷ 5 ∷ 6 ∷ 7 ∷ []);
  };
  lanes = outer_lanes (lane 0 0) (lane 1 0);
}

abbrev pub text : List ℕ
text =
    codes "run 1\n"
    ⋅ codes "call 1 0 pwrite ok 5 bios 0\n"
    ⋅ codes "call 2 0 pread ok 16 00000000414243444500000000000000 bios 0\n"
    ⋅ codes "close f ok 1 bios 1\n"
    ⋅ codes "journal f 0 1 2\n"
    ⋅ codes "map f 0 1 mapped 3\n"
    ⋅ codes "free 7\n"
    ⋅ codes "bios 0\n"
    ⋅ codes "lane 16 ops 1 faults 0\n"
    ⋅ codes "end\n"
