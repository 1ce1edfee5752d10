use Rattle.std.specs.Prelude.{ℕ, List, [], ◌∷◌, ◌++◌, codes, replicate, None}
use Rattle.iob_base.specs.DeviceBlock.{device_block}
use Rattle.iob_base.specs.declared.answer.Fault.TheVariants.{TooFar}
use Rattle.iob_base.specs.declared.answer.Reply.TheVariants.{Ok, Err}
use Rattle.iob_base.specs.declared.answer.Stop.TheVariants.{Whole, End}
use Rattle.io_model.specs.Rows.Parts.{small, cached, extent, call, answer, ended, gave, done, block_with, block_without, free_blocks, lane, outer_lanes}
use Rattle.io_model.specs.Text.{◌⋅◌}
use Rattle.io_model.specs.declared.file.Kind.TheVariants.{Hole, Mapped}
use Rattle.io_model.specs.declared.script.Script.{Script}
use Rattle.io_model.specs.declared.script.Verb.TheVariants.{Pread, Pwrite}
use Rattle.io_model.specs.declared.run.Run.{Run}

-- iomap 1, dev 16 8 ee, folio 4, file f cached 2, phase, 0 pwrite f 31 41, 0 pwrite f 30 424344,
-- 0 pwrite f 32 45, 0 pwrite f 32 -, 0 pread f 30 4, 0 pread f 40 1
abbrev pub script : Script
script = record small {
  files = cached 2 [] ∷ [];
  calls =
      call (Pwrite 31 ((65 ∷ []) ∷ []))
      ∷ call (Pwrite 30 ((66 ∷ 67 ∷ 68 ∷ []) ∷ []))
      ∷ call (Pwrite 32 ((69 ∷ []) ∷ []))
      ∷ call (Pwrite 32 ([] ∷ []))
      ∷ call (Pread 30 (4 ∷ []))
      ∷ call (Pread 40 (1 ∷ []))
      ∷ [];
}

abbrev pub run : Run
run = record {
  calls =
      ended (Ok 1 Whole) 0
      ∷ ended (Ok 2 End) 0
      ∷ ended (Err (TooFar 32 32) 0) 0
      ∷ ended (Ok 0 Whole) 0
      ∷ gave (66 ∷ 67 ∷ []) (Ok 2 End) 0
      ∷ gave [] (Ok 0 End) 0
      ∷ [];
  closes = answer (Ok 1 Whole) 1 ∷ [];
  ends = record {
    files = record {
      size = None;
      sizes = [];
      extents = extent 0 1 Hole ∷ extent 1 1 (Mapped 0) ∷ [];
      blocks = block_without [] ∷ block_with (device_block 0 (replicate 14 0 ++ 66 ∷ 67 ∷ [])) (done 1 ∷ done 2 ∷ done 5 ∷ []) ∷ [];
    } ∷ [];
    free = free_blocks (1 ∷ 2 ∷ 3 ∷ 4 ∷ 5 ∷ 6 ∷ 7 ∷ []);
  };
  lanes = outer_lanes (lane 0 0) (lane 1 0);
}

abbrev pub text : List ℕ
text =
    codes "run 1\n"
    ⋅ codes "call 1 0 pwrite ok 1 bios 0\n"
    ⋅ codes "call 2 0 pwrite ok 2 short END bios 0\n"
    ⋅ codes "call 3 0 pwrite err EFBIG offset 32 end 32 bios 0\n"
    ⋅ codes "call 4 0 pwrite ok 0 bios 0\n"
    ⋅ codes "call 5 0 pread ok 2 4243 short END bios 0\n"
    ⋅ codes "call 6 0 pread ok 0 - short END bios 0\n"
    ⋅ codes "close f ok 1 bios 1\n"
    ⋅ codes "journal f 1 1 2 5\n"
    ⋅ codes "map f 1 1 mapped 0\n"
    ⋅ codes "free 7\n"
    ⋅ codes "bios 0\n"
    ⋅ codes "lane 16 ops 1 faults 0\n"
    ⋅ codes "end\n"
