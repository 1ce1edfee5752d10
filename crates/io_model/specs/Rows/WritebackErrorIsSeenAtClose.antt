use Rattle.std.specs.Prelude.{ℕ, List, [], ◌∷◌, None, codes, replicate}
use Rattle.iob_base.specs.DeviceBlock.{device_block}
use Rattle.iob_base.specs.declared.answer.Fault.TheVariants.{SyncEio}
use Rattle.iob_base.specs.declared.answer.Reply.TheVariants.{Ok, Err}
use Rattle.iob_base.specs.declared.answer.Stop.TheVariants.{Whole}
use Rattle.io_model.specs.Rows.Parts.{small, cached, extent, call, answer, ended, gave, done, block_with, free_blocks, lane, outer_lanes}
use Rattle.io_model.specs.Text.{◌⋅◌}
use Rattle.io_model.specs.declared.file.Kind.TheVariants.{Mapped}
use Rattle.io_model.specs.declared.script.Script.{Script}
use Rattle.io_model.specs.declared.script.Verb.TheVariants.{Pread, Pwrite, Wb, Drop}
use Rattle.io_model.specs.declared.run.Run.{Run}

-- iomap 1, dev 16 8 ee, folio 4, file f cached 1, fault 0 1, phase,
-- 0 pwrite f 0 41x16, 0 wb f 0 1, 0 drop f, 0 pread f 0 2
abbrev pub script : Script
script = record small {
  files = cached 1 [] ∷ [];
  faults = (0, 1) ∷ [];
  calls = call (Pwrite 0 (replicate 16 65 ∷ [])) ∷ call (Wb 0 1) ∷ call Drop ∷ call (Pread 0 (2 ∷ [])) ∷ [];
}

abbrev pub run : Run
run = record {
  calls =
      ended (Ok 16 Whole) 0
      ∷ ended (Ok 0 Whole) 1
      ∷ ended (Ok 0 Whole) 0
      ∷ gave (replicate 2 65) (Ok 2 Whole) 0
      ∷ [];
  closes = answer (Err (SyncEio 0 1) 0) 1 ∷ [];
  ends = record {
    files = record {
      size = None;
      sizes = [];
      extents = extent 0 1 (Mapped 0) ∷ [];
      blocks = block_with (device_block 0 (replicate 16 65)) (done 1 ∷ done 4 ∷ []) ∷ [];
    } ∷ [];
    free = free_blocks (1 ∷ 2 ∷ 3 ∷ 4 ∷ 5 ∷ 6 ∷ 7 ∷ []);
  };
  lanes = outer_lanes (lane 1 1) (lane 1 0);
}

abbrev pub text : List ℕ
text =
    codes "run 1\n"
    ⋅ codes "call 1 0 pwrite ok 16 bios 0\n"
    ⋅ codes "call 2 0 wb ok 0 bios 1\n"
    ⋅ codes "call 3 0 drop ok 0 bios 0\n"
    ⋅ codes "call 4 0 pread ok 2 4141 bios 0\n"
    ⋅ codes "close f err EIO seen 0 count 1 bios 1\n"
    ⋅ codes "journal f 0 1 4\n"
    ⋅ codes "map f 0 1 mapped 0\n"
    ⋅ codes "free 7\n"
    ⋅ codes "bios 1\n"
    ⋅ codes "lane 0 ops 1 faults 1\n"
    ⋅ codes "lane 16 ops 1 faults 0\n"
    ⋅ codes "end\n"
