use Rattle.std.specs.Prelude.{ℕ, List, [], ◌∷◌, ◌++◌, None, codes, replicate}
use Rattle.iob_base.specs.DeviceBlock.{device_block}
use Rattle.iob_base.specs.Layout.{layout_with_grain}
use Rattle.iob_base.specs.declared.answer.Alignment.TheVariants.{Offset}
use Rattle.iob_base.specs.declared.answer.Fault.TheVariants.{NotAligned}
use Rattle.iob_base.specs.declared.answer.Reply.TheVariants.{Ok, Err}
use Rattle.iob_base.specs.declared.answer.Stop.TheVariants.{Whole}
use Rattle.io_model.specs.Rows.Parts.{small, cached, extent, call, call_in, answer, gave, returned, done, block_with, block_without, free_blocks, lane, outer_lanes}
use Rattle.io_model.specs.Text.{◌⋅◌}
use Rattle.io_model.specs.declared.file.Kind.TheVariants.{Hole, Unwritten, Mapped}
use Rattle.io_model.specs.declared.script.Script.{Script}
use Rattle.io_model.specs.declared.script.Verb.TheVariants.{Pread, Dread, Dwrite}
use Rattle.io_model.specs.declared.run.Run.{Run}

-- iomap 2, dev 32 8 ee, folio 4, grain 16, file f cached 2, ext f 0 3 1 unwritten, phase,
-- 0 dwrite f 16 41x16, 0 pread f 0 32, 0 dread f 16 16, 0 dwrite f 8 42x16
abbrev pub script : Script
script = record small {
  geometry = layout_with_grain 32 4 16;
  files = cached 2 (extent 0 1 (Unwritten 3) ∷ []) ∷ [];
  calls = call (Dwrite 16 (replicate 16 65 ∷ [])) ∷ call_in 1 0 1 (Pread 0 (32 ∷ [])) ∷ call_in 1 0 1 (Dread 16 (16 ∷ [])) ∷ call_in 1 0 2 (Dwrite 8 (replicate 16 66 ∷ [])) ∷ [];
}

abbrev pub run : Run
run = record {
  calls =
      returned (0 ∷ []) [] (Ok 16 Whole) 1
      ∷ gave (replicate 16 0 ++ replicate 16 65) (Ok 32 Whole) 1
      ∷ returned (1 ∷ []) (replicate 16 65) (Ok 16 Whole) 1
      ∷ returned (2 ∷ []) [] (Err (NotAligned (Offset 8)) 0) 0
      ∷ [];
  closes = answer (Ok 0 Whole) 0 ∷ [];
  ends = record {
    files = record {
      size = None;
      sizes = [];
      extents = extent 0 1 (Mapped 3) ∷ extent 1 1 Hole ∷ [];
      blocks = block_with (device_block 3 (replicate 16 0 ++ replicate 16 65)) (done 1 ∷ done 2 ∷ done 3 ∷ []) ∷ block_without [] ∷ [];
    } ∷ [];
    free = free_blocks (0 ∷ 1 ∷ 2 ∷ 4 ∷ 5 ∷ 6 ∷ 7 ∷ []);
  };
  lanes = outer_lanes (lane 3 0) (lane 0 0);
}

abbrev pub text : List ℕ
text =
    codes "run 1\n"
    ⋅ codes "call 1 0 dwrite ok 16 bios 1 pages 0+1\n"
    ⋅ codes "call 2 0 pread ok 32 0000000000000000000000000000000041414141414141414141414141414141 bios 1\n"
    ⋅ codes "call 3 0 dread ok 16 41414141414141414141414141414141 bios 1 pages 1+1\n"
    ⋅ codes "call 4 0 dwrite err EINVAL offset 8 sent 0 bios 0 pages 2+1\n"
    ⋅ codes "close f ok 0 bios 0\n"
    ⋅ codes "journal f 0 1 2 3\n"
    ⋅ codes "map f 0 1 mapped 3\n"
    ⋅ codes "free 7\n"
    ⋅ codes "bios 3\n"
    ⋅ codes "lane 0 ops 3 faults 0\n"
    ⋅ codes "end\n"
