use Rattle.std.specs.Prelude.{ℕ, List, [], ◌∷◌, None, codes, replicate}
use Rattle.iob_base.specs.DeviceBlock.{device_block}
use Rattle.iob_base.specs.declared.answer.Reply.TheVariants.{Ok}
use Rattle.iob_base.specs.declared.answer.Stop.TheVariants.{Whole}
use Rattle.io_model.specs.Rows.Parts.{small, cached, extent, call, call_in, answer, gave, returned, done, block_with, free_blocks, lane, outer_lanes}
use Rattle.io_model.specs.Text.{◌⋅◌}
use Rattle.io_model.specs.declared.file.Kind.TheVariants.{Mapped}
use Rattle.io_model.specs.declared.script.Script.{Script}
use Rattle.io_model.specs.declared.script.Verb.TheVariants.{Pread, Dwrite}
use Rattle.io_model.specs.declared.run.Run.{Run}

-- iomap 1, dev 16 8 ee, folio 4, file f cached 1, ext f 0 5 1 mapped, phase,
-- 0 pread f 0 2, 0 dwrite f 0 42x16, 0 pread f 0 2
abbrev pub script : Script
script = record small {
  files = cached 1 (extent 0 1 (Mapped 5) ∷ []) ∷ [];
  calls = call (Pread 0 (2 ∷ [])) ∷ call (Dwrite 0 (replicate 16 66 ∷ [])) ∷ call_in 1 0 1 (Pread 0 (2 ∷ [])) ∷ [];
}

abbrev pub run : Run
run = record {
  calls =
      gave (replicate 2 238) (Ok 2 Whole) 1
      ∷ returned (0 ∷ []) [] (Ok 16 Whole) 1
      ∷ gave (replicate 2 66) (Ok 2 Whole) 1
      ∷ [];
  closes = answer (Ok 0 Whole) 0 ∷ [];
  ends = record {
    files = record {
      size = None;
      sizes = [];
      extents = extent 0 1 (Mapped 5) ∷ [];
      blocks = block_with (device_block 5 (replicate 16 66)) (done 1 ∷ done 2 ∷ done 3 ∷ []) ∷ [];
    } ∷ [];
    free = free_blocks (0 ∷ 1 ∷ 2 ∷ 3 ∷ 4 ∷ 6 ∷ 7 ∷ []);
  };
  lanes = outer_lanes (lane 3 0) (lane 0 0);
}

abbrev pub text : List ℕ
text =
    codes "run 1\n"
    ⋅ codes "call 1 0 pread ok 2 eeee bios 1\n"
    ⋅ codes "call 2 0 dwrite ok 16 bios 1 pages 0+1\n"
    ⋅ codes "call 3 0 pread ok 2 4242 bios 1\n"
    ⋅ codes "close f ok 0 bios 0\n"
    ⋅ codes "journal f 0 1 2 3\n"
    ⋅ codes "map f 0 1 mapped 5\n"
    ⋅ codes "free 7\n"
    ⋅ codes "bios 3\n"
    ⋅ codes "lane 0 ops 3 faults 0\n"
    ⋅ codes "end\n"
