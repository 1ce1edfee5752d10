use Rattle.std.specs.Prelude.{ℕ, List, [], ◌∷◌, None, codes, replicate}
use Rattle.iob_base.specs.DeviceBlock.{device_block}
use Rattle.iob_base.specs.declared.answer.Reply.TheVariants.{Ok}
use Rattle.iob_base.specs.declared.answer.Stop.TheVariants.{Whole}
use Rattle.io_model.specs.Rows.Parts.{small, cached, extent, call, answer, ended, returned, done, block_with, free_blocks, lane, outer_lanes}
use Rattle.io_model.specs.Text.{◌⋅◌}
use Rattle.io_model.specs.declared.file.Kind.TheVariants.{Mapped}
use Rattle.io_model.specs.declared.script.Script.{Script}
use Rattle.io_model.specs.declared.script.Verb.TheVariants.{Pwrite, Dread}
use Rattle.io_model.specs.declared.run.Run.{Run}

-- iomap 1, dev 16 8 ee, folio 4, file f cached 1, phase, 0 pwrite f 0 41x16, 0 dread f 0 16
abbrev pub script : Script
script = record small {
  files = cached 1 [] ∷ [];
  calls = call (Pwrite 0 (replicate 16 65 ∷ [])) ∷ call (Dread 0 (16 ∷ [])) ∷ [];
}

abbrev pub run : Run
run = record {
  calls =
      ended (Ok 16 Whole) 0
      ∷ returned (0 ∷ []) (replicate 16 65) (Ok 16 Whole) 2
      ∷ [];
  closes = answer (Ok 0 Whole) 0 ∷ [];
  ends = record {
    files = record {
      size = None;
      sizes = [];
      extents = extent 0 1 (Mapped 0) ∷ [];
      blocks = block_with (device_block 0 (replicate 16 65)) (done 1 ∷ done 2 ∷ []) ∷ [];
    } ∷ [];
    free = free_blocks (1 ∷ 2 ∷ 3 ∷ 4 ∷ 5 ∷ 6 ∷ 7 ∷ []);
  };
  lanes = outer_lanes (lane 2 0) (lane 0 0);
}

abbrev pub text : List ℕ
text =
    codes "run 1\n"
    ⋅ codes "call 1 0 pwrite ok 16 bios 0\n"
    ⋅ codes "call 2 0 dread ok 16 41414141414141414141414141414141 bios 2 pages 0+1\n"
    ⋅ codes "close f ok 0 bios 0\n"
    ⋅ codes "journal f 0 1 2\n"
    ⋅ codes "map f 0 1 mapped 0\n"
    ⋅ codes "free 7\n"
    ⋅ codes "bios 2\n"
    ⋅ codes "lane 0 ops 2 faults 0\n"
    ⋅ codes "end\n"
