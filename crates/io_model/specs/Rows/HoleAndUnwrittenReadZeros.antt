use Rattle.std.specs.Prelude.{ℕ, List, [], ◌∷◌, codes, replicate, None}
use Rattle.iob_base.specs.declared.answer.Reply.TheVariants.{Ok}
use Rattle.iob_base.specs.declared.answer.Stop.TheVariants.{Whole}
use Rattle.io_model.specs.Rows.Parts.{small, cached, extent, call, answer, gave, done, block_with, block_without, filled, free_blocks, lane, outer_lanes}
use Rattle.io_model.specs.Text.{◌⋅◌}
use Rattle.io_model.specs.declared.file.Kind.TheVariants.{Hole, Mapped, Unwritten}
use Rattle.io_model.specs.declared.script.Script.{Script}
use Rattle.io_model.specs.declared.script.Verb.TheVariants.{Pread}
use Rattle.io_model.specs.declared.run.Run.{Run}

-- iomap 1, dev 16 8 ee, folio 4, file f cached 3, ext f 0 5 1 mapped, ext f 2 6 1 unwritten, phase,
-- 0 pread f 14 4, 0 pread f 30 4
abbrev pub script : Script
script = record small {
  files = cached 3 (extent 0 1 (Mapped 5) ∷ extent 2 1 (Unwritten 6) ∷ []) ∷ [];
  calls = call (Pread 14 (4 ∷ [])) ∷ call (Pread 30 (4 ∷ [])) ∷ [];
}

abbrev pub run : Run
run = record {
  calls = gave (238 ∷ 238 ∷ 0 ∷ 0 ∷ []) (Ok 4 Whole) 1 ∷ gave (replicate 4 0) (Ok 4 Whole) 0 ∷ [];
  closes = answer (Ok 0 Whole) 0 ∷ [];
  ends = record {
    files = record {
      size = None;
      sizes = [];
      extents = extent 0 1 (Mapped 5) ∷ extent 1 1 Hole ∷ extent 2 1 (Unwritten 6) ∷ [];
      blocks = block_with (filled 5) (done 1 ∷ []) ∷ block_without (done 1 ∷ done 2 ∷ []) ∷ block_with (filled 6) (done 2 ∷ []) ∷ [];
    } ∷ [];
    free = free_blocks (0 ∷ 1 ∷ 2 ∷ 3 ∷ 4 ∷ 7 ∷ []);
  };
  lanes = outer_lanes (lane 1 0) (lane 0 0);
}

abbrev pub text : List ℕ
text =
    codes "run 1\n"
    ⋅ codes "call 1 0 pread ok 4 eeee0000 bios 1\n"
    ⋅ codes "call 2 0 pread ok 4 00000000 bios 0\n"
    ⋅ codes "close f ok 0 bios 0\n"
    ⋅ codes "journal f 0 1\n"
    ⋅ codes "journal f 1 1 2\n"
    ⋅ codes "journal f 2 2\n"
    ⋅ codes "map f 0 1 mapped 5\n"
    ⋅ codes "map f 2 1 unwritten 6\n"
    ⋅ codes "free 6\n"
    ⋅ codes "bios 1\n"
    ⋅ codes "lane 0 ops 1 faults 0\n"
    ⋅ codes "end\n"
