use Rattle.std.specs.Prelude.{ℕ, List, [], ◌∷◌, codes, replicate, None}
use Rattle.std.specs.List.{range_with_len}
use Rattle.iob_base.specs.Layout.{layout}
use Rattle.iob_base.specs.DeviceBlock.{device_block}
use Rattle.iob_base.specs.declared.answer.Reply.TheVariants.{Ok}
use Rattle.iob_base.specs.declared.answer.Stop.TheVariants.{Whole}
use Rattle.iob_base.specs.declared.stamp.Mode.TheVariants.{Cached}
use Rattle.io_model.specs.Rows.Parts.{extent, answer, done, block_with, block_without, free_blocks, lane}
use Rattle.io_model.specs.Text.{◌⋅◌}
use Rattle.io_model.specs.declared.file.Kind.TheVariants.{Hole, Mapped}
use Rattle.io_model.specs.declared.script.Script.{Script}
use Rattle.io_model.specs.declared.script.Verb.TheVariants.{Pread}
use Rattle.io_model.specs.declared.run.Run.{Run}

-- the bytes from 0 to 15
abbrev pub counted : List ℕ
counted = range_with_len 0 16

-- iomap 1, dev 16 8 ee, folio 4, data 2 000102030405060708090a0b0c0d0e0f, file f cached 4,
-- ext f 0 2 1 mapped, phase, 0 pread f 0 16
abbrev pub script : Script
script = record {
  geometry = layout 16 4;
  device_blocks = 8;
  fill = 238;
  blocks = (2, counted) ∷ [];
  names = codes "f" ∷ [];
  files = record { mode = Cached; blocks = 4; size = None; extents = extent 0 1 (Mapped 2) ∷ [] } ∷ [];
  faults = [];
  calls = record { phase = 1; caller = 0; file = record { 0 = 0 }; first_page = 0; verb = Pread 0 (16 ∷ []) } ∷ [];
}

abbrev pub run : Run
run = record {
  calls = record { answer = answer (Ok 16 Whole) 1; got = counted; pages = [] } ∷ [];
  closes = answer (Ok 0 Whole) 0 ∷ [];
  ends = record {
    files = record {
      size = None;
      sizes = [];
      extents = extent 0 1 (Mapped 2) ∷ extent 1 3 Hole ∷ [];
      blocks = block_with (device_block 2 counted) (done 1 ∷ []) ∷ replicate 3 (block_without []);
    } ∷ [];
    free = free_blocks (0 ∷ 1 ∷ 3 ∷ 4 ∷ 5 ∷ 6 ∷ 7 ∷ []);
  };
  lanes = lane 1 0 ∷ replicate 16 (lane 0 0);
}

abbrev pub text : List ℕ
text =
    codes "run 1\n"
    ⋅ codes "call 1 0 pread ok 16 000102030405060708090a0b0c0d0e0f bios 1\n"
    ⋅ codes "close f ok 0 bios 0\n"
    ⋅ codes "journal f 0 1\n"
    ⋅ codes "map f 0 1 mapped 2\n"
    ⋅ codes "free 7\n"
    ⋅ codes "bios 1\n"
    ⋅ codes "lane 0 ops 1 faults 0\n"
    ⋅ codes "end\n"
