use Rattle.std.specs.Prelude.{ℕ, List, [], ◌∷◌, codes, replicate, None}
use Rattle.iob_base.specs.DeviceBlock.{device_block}
use Rattle.iob_base.specs.declared.answer.Fault.TheVariants.{Eio}
use Rattle.iob_base.specs.declared.answer.Reply.TheVariants.{Ok, Err}
use Rattle.iob_base.specs.declared.answer.Stop.TheVariants.{Whole}
use Rattle.io_model.specs.Rows.Parts.{small, cached, extent, call, call_in, answer, gave, returned, done, missed, block_with, filled, free_blocks, lane, outer_lanes}
use Rattle.io_model.specs.Text.{◌⋅◌}
use Rattle.io_model.specs.declared.file.Kind.TheVariants.{Unwritten}
use Rattle.io_model.specs.declared.script.Script.{Script}
use Rattle.io_model.specs.declared.script.Verb.TheVariants.{Pread, Dwrite}
use Rattle.io_model.specs.declared.run.Run.{Run}

-- iomap 1, dev 16 8 ee, folio 4, file f cached 4, ext f 0 0 4 unwritten, fault 0 1, phase,
-- 0 dwrite f 0 41x64, 0 pread f 0 4
abbrev pub script : Script
script = record small {
  files = cached 4 (extent 0 4 (Unwritten 0) ∷ []) ∷ [];
  faults = (0, 1) ∷ [];
  calls = call (Dwrite 0 (replicate 64 65 ∷ [])) ∷ call_in 1 0 4 (Pread 0 (4 ∷ [])) ∷ [];
}

-- the failed transfer has moved the first two blocks
abbrev pub run : Run
run = record {
  calls = returned (0 ∷ 1 ∷ 2 ∷ 3 ∷ []) [] (Err (Eio 0 0 1) 4) 1 ∷ gave (replicate 4 0) (Ok 4 Whole) 0 ∷ [];
  closes = answer (Ok 0 Whole) 0 ∷ [];
  ends = record {
    files = record {
      size = None;
      sizes = [];
      extents = extent 0 4 (Unwritten 0) ∷ [];
      blocks =
          block_with (device_block 0 (replicate 16 65)) (missed 1 ∷ done 2 ∷ [])
          ∷ block_with (device_block 1 (replicate 16 65)) (missed 1 ∷ [])
          ∷ block_with (filled 2) (missed 1 ∷ [])
          ∷ block_with (filled 3) (missed 1 ∷ [])
          ∷ [];
    } ∷ [];
    free = free_blocks (4 ∷ 5 ∷ 6 ∷ 7 ∷ []);
  };
  lanes = outer_lanes (lane 1 1) (lane 0 0);
}

abbrev pub text : List ℕ
text =
    codes "run 1\n"
    ⋅ codes "call 1 0 dwrite err EIO lane 0 rose 0 1 sent 4 bios 1 pages 0+4\n"
    ⋅ codes "call 2 0 pread ok 4 00000000 bios 0\n"
    ⋅ codes "close f ok 0 bios 0\n"
    ⋅ codes "journal f 0 1M 2\n"
    ⋅ codes "journal f 1 1M\n"
    ⋅ codes "journal f 2 1M\n"
    ⋅ codes "journal f 3 1M\n"
    ⋅ codes "map f 0 4 unwritten 0\n"
    ⋅ codes "free 4\n"
    ⋅ codes "bios 1\n"
    ⋅ codes "lane 0 ops 1 faults 1\n"
    ⋅ codes "end\n"
