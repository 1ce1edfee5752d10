use Rattle.std.specs.Prelude.{ℕ, List, [], ◌∷◌, None, codes, replicate}
use Rattle.iob_base.specs.DeviceBlock.{device_block}
use Rattle.iob_base.specs.declared.answer.Fault.TheVariants.{SyncEio}
use Rattle.iob_base.specs.declared.answer.Reply.TheVariants.{Ok, Err}
use Rattle.iob_base.specs.declared.answer.Stop.TheVariants.{Whole}
use Rattle.io_model.specs.Rows.Parts.{small, cached, extent, call, answer, ended, done, block_with, free_blocks, lane, outer_lanes}
use Rattle.io_model.specs.Text.{◌⋅◌}
use Rattle.io_model.specs.declared.file.Kind.TheVariants.{Unwritten, Mapped}
use Rattle.io_model.specs.declared.script.Script.{Script}
use Rattle.io_model.specs.declared.script.Verb.TheVariants.{Pwrite, Sync}
use Rattle.io_model.specs.declared.run.Run.{Run}

-- iomap 1, dev 16 8 ee, folio 4, file f cached 1, ext f 0 3 1 unwritten, fault 0 1, phase,
-- 0 pwrite f 0 41x16, 0 sync f, 0 sync f
abbrev pub script : Script
script = record small {
  files = cached 1 (extent 0 1 (Unwritten 3) ∷ []) ∷ [];
  faults = (0, 1) ∷ [];
  calls = call (Pwrite 0 (replicate 16 65 ∷ [])) ∷ call Sync ∷ call Sync ∷ [];
}

abbrev pub run : Run
run = record {
  calls =
      ended (Ok 16 Whole) 0
      ∷ ended (Err (SyncEio 0 1) 0) 1
      ∷ ended (Ok 1 Whole) 1
      ∷ [];
  closes = answer (Ok 0 Whole) 0 ∷ [];
  ends = record {
    files = record {
      size = None;
      sizes = [];
      extents = extent 0 1 (Mapped 3) ∷ [];
      blocks = block_with (device_block 3 (replicate 16 65)) (done 1 ∷ []) ∷ [];
    } ∷ [];
    free = free_blocks (0 ∷ 1 ∷ 2 ∷ 4 ∷ 5 ∷ 6 ∷ 7 ∷ []);
  };
  lanes = outer_lanes (lane 2 1) (lane 0 0);
}

abbrev pub text : List ℕ
text =
    codes "run 1\n"
    ⋅ codes "call 1 0 pwrite ok 16 bios 0\n"
    ⋅ codes "call 2 0 sync err EIO seen 0 count 1 bios 1\n"
    ⋅ codes "call 3 0 sync ok 1 bios 1\n"
    ⋅ codes "close f ok 0 bios 0\n"
    ⋅ codes "journal f 0 1\n"
    ⋅ codes "map f 0 1 mapped 3\n"
    ⋅ codes "free 7\n"
    ⋅ codes "bios 2\n"
    ⋅ codes "lane 0 ops 2 faults 1\n"
    ⋅ codes "end\n"
