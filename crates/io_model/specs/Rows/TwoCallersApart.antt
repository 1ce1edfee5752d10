use Rattle.std.specs.Prelude.{ℕ, List, [], ◌∷◌, ◌++◌, codes, replicate, None}
use Rattle.iob_base.specs.DeviceBlock.{device_block}
use Rattle.iob_base.specs.declared.answer.Reply.TheVariants.{Ok}
use Rattle.iob_base.specs.declared.answer.Stop.TheVariants.{Whole}
use Rattle.iob_base.specs.declared.stamp.Stamp.{Stamp}
use Rattle.io_model.specs.Rows.Parts.{small, cached, extent, call_in, answer, returned, done_by, block_with, filled, free_blocks, lane}
use Rattle.io_model.specs.Text.{◌⋅◌}
use Rattle.io_model.specs.declared.file.Kind.TheVariants.{Mapped}
use Rattle.io_model.specs.declared.script.Script.{Script}
use Rattle.io_model.specs.declared.script.Verb.TheVariants.{Dread, Dwrite}
use Rattle.io_model.specs.declared.run.Run.{Run}

-- iomap 1, dev 16 8 ee, folio 4, file f cached 2, file g cached 1, ext f 0 5 2 mapped, ext g 0 7 1 mapped,
-- phase, 0 dwrite f 0 41x16, 1 dwrite f 16 42x16, 0 dread f 0 16, 1 dread g 0 16, phase, 2 dread f 0 32
abbrev pub script : Script
script = record small {
  names = codes "f" ∷ codes "g" ∷ [];
  files = cached 2 (extent 0 2 (Mapped 5) ∷ []) ∷ cached 1 (extent 0 1 (Mapped 7) ∷ []) ∷ [];
  calls =
      call_in 1 0 0 (Dwrite 0 (replicate 16 65 ∷ []))
      ∷ call_in 1 1 1 (Dwrite 16 (replicate 16 66 ∷ []))
      ∷ call_in 1 0 2 (Dread 0 (16 ∷ []))
      ∷ record (call_in 1 1 3 (Dread 0 (16 ∷ []))) { file = record { 0 = 1 } }
      ∷ call_in 2 2 4 (Dread 0 (32 ∷ []))
      ∷ [];
}

-- each caller's calls were made by one pass
abbrev pub makers : List ℕ
makers = 1 ∷ 2 ∷ 1 ∷ 2 ∷ 3 ∷ []

-- a run that left such a journal on the first block
abbrev pub run_with : List Stamp → Run
run_with journal = record {
  calls =
      returned (0 ∷ []) [] (Ok 16 Whole) 1
      ∷ returned (1 ∷ []) [] (Ok 16 Whole) 1
      ∷ returned (2 ∷ []) (replicate 16 65) (Ok 16 Whole) 1
      ∷ returned (3 ∷ []) (replicate 16 238) (Ok 16 Whole) 1
      ∷ returned (4 ∷ 5 ∷ []) (replicate 16 65 ++ replicate 16 66) (Ok 32 Whole) 1
      ∷ [];
  closes = answer (Ok 0 Whole) 0 ∷ answer (Ok 0 Whole) 0 ∷ [];
  ends = record {
    files =
        record {
          size = None;
          sizes = [];
          extents = extent 0 2 (Mapped 5) ∷ [];
          blocks =
              block_with (device_block 5 (replicate 16 65)) journal
              ∷ block_with (device_block 6 (replicate 16 66)) (done_by 2 2 ∷ done_by 3 5 ∷ [])
              ∷ [];
        }
        ∷ record {
          size = None;
          sizes = [];
          extents = extent 0 1 (Mapped 7) ∷ [];
          blocks = block_with (filled 7) (done_by 2 4 ∷ []) ∷ [];
        }
        ∷ [];
    free = free_blocks (0 ∷ 1 ∷ 2 ∷ 3 ∷ 4 ∷ []);
  };
  lanes = lane 2 0 ∷ lane 2 0 ∷ lane 1 0 ∷ replicate 14 (lane 0 0);
}

abbrev pub run : Run
run = run_with (done_by 1 1 ∷ done_by 1 3 ∷ done_by 3 5 ∷ [])

-- the read of the later phase stands before that of the earlier one
abbrev pub wrong_run : Run
wrong_run = run_with (done_by 1 1 ∷ done_by 3 5 ∷ done_by 1 3 ∷ [])

abbrev pub text : List ℕ
text =
    codes "run 1\n"
    ⋅ codes "call 1 0 dwrite ok 16 bios 1 pages 0+1\n"
    ⋅ codes "call 2 1 dwrite ok 16 bios 1 pages 1+1\n"
    ⋅ codes "call 3 0 dread ok 16 41414141414141414141414141414141 bios 1 pages 2+1\n"
    ⋅ codes "call 4 1 dread ok 16 eeeeeeeeeeeeeeeeeeeeeeeeeeeeeeee bios 1 pages 3+1\n"
    ⋅ codes "call 5 2 dread ok 32 4141414141414141414141414141414142424242424242424242424242424242 bios 1 pages 4+2\n"
    ⋅ codes "close f ok 0 bios 0\n"
    ⋅ codes "close g ok 0 bios 0\n"
    ⋅ codes "journal f 0 1 3 5\n"
    ⋅ codes "journal f 1 2 5\n"
    ⋅ codes "map f 0 2 mapped 5\n"
    ⋅ codes "journal g 0 4\n"
    ⋅ codes "map g 0 1 mapped 7\n"
    ⋅ codes "free 5\n"
    ⋅ codes "bios 5\n"
    ⋅ codes "lane 0 ops 2 faults 0\n"
    ⋅ codes "lane 1 ops 2 faults 0\n"
    ⋅ codes "lane 2 ops 1 faults 0\n"
    ⋅ codes "end\n"
