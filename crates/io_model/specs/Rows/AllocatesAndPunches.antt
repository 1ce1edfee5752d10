use Rattle.std.specs.Prelude.{ℕ, List, [], ◌∷◌, None, codes, replicate}
use Rattle.iob_base.specs.declared.answer.Reply.TheVariants.{Ok}
use Rattle.iob_base.specs.declared.answer.Stop.TheVariants.{Whole}
use Rattle.io_model.specs.Rows.Parts.{small, cached, extent, call, answer, ended, gave, done, block_with, block_without, filled, free_blocks, lane, outer_lanes}
use Rattle.io_model.specs.Text.{◌⋅◌}
use Rattle.io_model.specs.declared.file.Kind.TheVariants.{Hole, Unwritten}
use Rattle.io_model.specs.declared.script.Script.{Script}
use Rattle.io_model.specs.declared.script.Verb.TheVariants.{Pread, Punch, Alloc}
use Rattle.io_model.specs.declared.run.Run.{Run}

-- iomap 1, dev 16 4 ee, folio 4, file f cached 4, phase, 0 alloc f 0 48, 0 punch f 16 16, 0 pread f 0 20
abbrev pub script : Script
script = record small {
  device_blocks = 4;
  files = cached 4 [] ∷ [];
  calls = call (Alloc 0 48) ∷ call (Punch 16 16) ∷ call (Pread 0 (20 ∷ [])) ∷ [];
}

abbrev pub run : Run
run = record {
  calls =
      ended (Ok 3 Whole) 0
      ∷ ended (Ok 16 Whole) 0
      ∷ gave (replicate 20 0) (Ok 20 Whole) 0
      ∷ [];
  closes = answer (Ok 0 Whole) 0 ∷ [];
  ends = record {
    files = record {
      size = None;
      sizes = [];
      extents = extent 0 1 (Unwritten 0) ∷ extent 1 1 Hole ∷ extent 2 1 (Unwritten 2) ∷ extent 3 1 Hole ∷ [];
      blocks = block_with (filled 0) (done 3 ∷ []) ∷ block_without (done 2 ∷ done 3 ∷ []) ∷ block_with (filled 2) [] ∷ block_without [] ∷ [];
    } ∷ [];
    free = free_blocks (1 ∷ 3 ∷ []);
  };
  lanes = outer_lanes (lane 0 0) (lane 0 0);
}

abbrev pub text : List ℕ
text =
    codes "run 1\n"
    ⋅ codes "call 1 0 alloc ok 3 bios 0\n"
    ⋅ codes "call 2 0 punch ok 16 bios 0\n"
    ⋅ codes "call 3 0 pread ok 20 0000000000000000000000000000000000000000 bios 0\n"
    ⋅ codes "close f ok 0 bios 0\n"
    ⋅ codes "journal f 0 3\n"
    ⋅ codes "journal f 1 2 3\n"
    ⋅ codes "map f 0 1 unwritten 0\n"
    ⋅ codes "map f 2 1 unwritten 2\n"
    ⋅ codes "free 2\n"
    ⋅ codes "bios 0\n"
    ⋅ codes "end\n"
