use Rattle.std.specs.Prelude.{ℕ, List, [], ◌∷◌, codes, replicate, None}
use Rattle.iob_base.specs.DeviceBlock.{device_block}
use Rattle.iob_base.specs.declared.answer.Reply.TheVariants.{Ok}
use Rattle.iob_base.specs.declared.answer.Stop.TheVariants.{Whole}
use Rattle.iob_base.specs.declared.stamp.Mode.TheVariants.{Dax}
use Rattle.io_model.specs.Rows.Parts.{small, extent, call, answer, ended, gave, done, block_with, block_without, free_blocks, lane, outer_lanes}
use Rattle.io_model.specs.Text.{◌⋅◌}
use Rattle.io_model.specs.declared.file.Kind.TheVariants.{Hole, Mapped, Unwritten}
use Rattle.io_model.specs.declared.script.Script.{Script}
use Rattle.io_model.specs.declared.script.Verb.TheVariants.{Xread, Xwrite}
use Rattle.io_model.specs.declared.run.Run.{Run}

-- iomap 1, dev 16 8 ee, folio 4, file g dax 2, ext g 0 4 1 unwritten, phase,
-- 0 xwrite g 1 414243, 0 xread g 0 5, 0 xwrite g 1 44
abbrev pub script : Script
script = record small {
  names = codes "g" ∷ [];
  files = record { mode = Dax; blocks = 2; size = None; extents = extent 0 1 (Unwritten 4) ∷ [] } ∷ [];
  calls = call (Xwrite 1 ((65 ∷ 66 ∷ 67 ∷ []) ∷ [])) ∷ call (Xread 0 (5 ∷ [])) ∷ call (Xwrite 1 ((68 ∷ []) ∷ [])) ∷ [];
}

abbrev pub run : Run
run = record {
  calls = ended (Ok 3 Whole) 0 ∷ gave (0 ∷ 65 ∷ 66 ∷ 67 ∷ 0 ∷ []) (Ok 5 Whole) 0 ∷ ended (Ok 1 Whole) 0 ∷ [];
  closes = answer (Ok 0 Whole) 0 ∷ [];
  ends = record {
    files = record {
      size = None;
      sizes = [];
      extents = extent 0 1 (Mapped 4) ∷ extent 1 1 Hole ∷ [];
      blocks = block_with (device_block 4 (0 ∷ 68 ∷ 66 ∷ 67 ∷ replicate 12 0)) (done 1 ∷ done 2 ∷ done 3 ∷ []) ∷ block_without [] ∷ [];
    } ∷ [];
    free = free_blocks (0 ∷ 1 ∷ 2 ∷ 3 ∷ 5 ∷ 6 ∷ 7 ∷ []);
  };
  lanes = outer_lanes (lane 3 0) (lane 0 0);
}

abbrev pub text : List ℕ
text =
    codes "run 1\n"
    ⋅ codes "call 1 0 xwrite ok 3 bios 0\n"
    ⋅ codes "call 2 0 xread ok 5 0041424300 bios 0\n"
    ⋅ codes "call 3 0 xwrite ok 1 bios 0\n"
    ⋅ codes "close g ok 0 bios 0\n"
    ⋅ codes "journal g 0 1 2 3\n"
    ⋅ codes "map g 0 1 mapped 4\n"
    ⋅ codes "free 7\n"
    ⋅ codes "bios 0\n"
    ⋅ codes "lane 0 ops 3 faults 0\n"
    ⋅ codes "end\n"
