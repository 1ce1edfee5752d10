use Rattle.std.specs.Prelude.{ℕ, List, [], ◌∷◌, codes, replicate, None}
use Rattle.iob_base.specs.DeviceBlock.{device_block}
use Rattle.iob_base.specs.declared.answer.Reply.TheVariants.{Ok}
use Rattle.iob_base.specs.declared.answer.Stop.TheVariants.{Whole}
use Rattle.io_model.specs.Rows.Parts.{small, cached, extent, call, answer, ended, gave, done, block_with, free_blocks, lane, outer_lanes}
use Rattle.io_model.specs.Text.{◌⋅◌}
use Rattle.io_model.specs.declared.file.Kind.TheVariants.{Mapped}
use Rattle.io_model.specs.declared.script.Script.{Script}
use Rattle.io_model.specs.declared.script.Verb.TheVariants.{Pread, Pwrite}
use Rattle.io_model.specs.declared.run.Run.{Run}

-- iomap 1, dev 16 8 ee, folio 4, file f cached 1, ext f 0 5 1 mapped, phase,
-- 0 pwrite f 2 4142, 0 pread f 0 6
abbrev pub script : Script
script = record small {
  files = cached 1 (extent 0 1 (Mapped 5) ∷ []) ∷ [];
  calls = call (Pwrite 2 ((65 ∷ 66 ∷ []) ∷ [])) ∷ call (Pread 0 (6 ∷ [])) ∷ [];
}

abbrev pub run : Run
run = record {
  calls = ended (Ok 2 Whole) 1 ∷ gave (238 ∷ 238 ∷ 65 ∷ 66 ∷ 238 ∷ 238 ∷ []) (Ok 6 Whole) 0 ∷ [];
  closes = answer (Ok 1 Whole) 1 ∷ [];
  ends = record {
    files = record {
      size = None;
      sizes = [];
      extents = extent 0 1 (Mapped 5) ∷ [];
      blocks = block_with (device_block 5 (238 ∷ 238 ∷ 65 ∷ 66 ∷ replicate 12 238)) (done 1 ∷ done 2 ∷ []) ∷ [];
    } ∷ [];
    free = free_blocks (0 ∷ 1 ∷ 2 ∷ 3 ∷ 4 ∷ 6 ∷ 7 ∷ []);
  };
  lanes = outer_lanes (lane 1 0) (lane 1 0);
}

abbrev pub text : List ℕ
text =
    codes "run 1\n"
    ⋅ codes "call 1 0 pwrite ok 2 bios 1\n"
    ⋅ codes "call 2 0 pread ok 6 eeee4142eeee bios 0\n"
    ⋅ codes "close f ok 1 bios 1\n"
    ⋅ codes "journal f 0 1 2\n"
    ⋅ codes "map f 0 1 mapped 5\n"
    ⋅ codes "free 7\n"
    ⋅ codes "bios 1\n"
    ⋅ codes "lane 0 ops 1 faults 0\n"
    ⋅ codes "lane 16 ops 1 faults 0\n"
    ⋅ codes "end\n"
