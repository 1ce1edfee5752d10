use Rattle.std.specs.Prelude.{ℕ, List, [], ◌∷◌, codes, replicate, None}
use Rattle.iob_base.specs.DeviceBlock.{device_block}
use Rattle.iob_base.specs.declared.answer.Reply.TheVariants.{Ok}
use Rattle.iob_base.specs.declared.answer.Stop.TheVariants.{Whole}
use Rattle.io_model.specs.Rows.Parts.{small, cached, extent, call, answer, ended, done, block_with, block_without, free_blocks, lane, outer_lanes}
use Rattle.io_model.specs.Text.{◌⋅◌}
use Rattle.io_model.specs.declared.file.BlockEnd.{BlockEnd}
use Rattle.io_model.specs.declared.file.Kind.TheVariants.{Hole, Mapped}
use Rattle.io_model.specs.declared.script.Script.{Script}
use Rattle.io_model.specs.declared.script.Verb.TheVariants.{Pwrite}
use Rattle.io_model.specs.declared.run.Run.{Run}

-- iomap 1, dev 16 8 ee, folio 4, file f cached 4, phase, 0 pwrite f 16 41x48
abbrev pub script : Script
script = record small {
  files = cached 4 [] ∷ [];
  calls = call (Pwrite 16 (replicate 48 65 ∷ [])) ∷ [];
}

-- a whole block of the written bytes
abbrev pub written : ℕ → BlockEnd
written n = block_with (device_block n (replicate 16 65)) (done 1 ∷ [])

abbrev pub run : Run
run = record {
  calls = ended (Ok 48 Whole) 0 ∷ [];
  closes = answer (Ok 3 Whole) 1 ∷ [];
  ends = record {
    files = record {
      size = None;
      sizes = [];
      extents = extent 0 1 Hole ∷ extent 1 3 (Mapped 0) ∷ [];
      blocks = block_without [] ∷ written 0 ∷ written 1 ∷ written 2 ∷ [];
    } ∷ [];
    free = free_blocks (3 ∷ 4 ∷ 5 ∷ 6 ∷ 7 ∷ []);
  };
  lanes = outer_lanes (lane 0 0) (lane 1 0);
}

abbrev pub text : List ℕ
text =
    codes "run 1\n"
    ⋅ codes "call 1 0 pwrite ok 48 bios 0\n"
    ⋅ codes "close f ok 3 bios 1\n"
    ⋅ codes "journal f 1 1\n"
    ⋅ codes "journal f 2 1\n"
    ⋅ codes "journal f 3 1\n"
    ⋅ codes "map f 1 3 mapped 0\n"
    ⋅ codes "free 5\n"
    ⋅ codes "bios 0\n"
    ⋅ codes "lane 16 ops 1 faults 0\n"
    ⋅ codes "end\n"
