use Rattle.std.specs.Prelude.{ℕ, List, [], ◌∷◌, None, codes}
use Rattle.iob_base.specs.declared.answer.Fault.TheVariants.{Eio}
use Rattle.iob_base.specs.declared.answer.Reply.TheVariants.{Ok, Err}
use Rattle.iob_base.specs.declared.answer.Stop.TheVariants.{Whole}
use Rattle.io_model.specs.Rows.Parts.{small, cached, extent, call, answer, ended, block_with, filled, free_blocks, lane, outer_lanes}
use Rattle.io_model.specs.Text.{◌⋅◌}
use Rattle.io_model.specs.declared.file.Kind.TheVariants.{Mapped}
use Rattle.io_model.specs.declared.script.Script.{Script}
use Rattle.io_model.specs.declared.script.Verb.TheVariants.{Pread}
use Rattle.io_model.specs.declared.run.Run.{Run}

-- iomap 1, dev 16 8 ee, folio 4, file f cached 2, ext f 0 0 2 mapped, fault 0 1, fault 0 2, phase,
-- 0 pread f 0 1, 0 pread f 16 1
abbrev pub script : Script
script = record small {
  files = cached 2 (extent 0 2 (Mapped 0) ∷ []) ∷ [];
  faults = (0, 1) ∷ (0, 2) ∷ [];
  calls = call (Pread 0 (1 ∷ [])) ∷ call (Pread 16 (1 ∷ [])) ∷ [];
}

abbrev pub run : Run
run = record {
  calls =
      ended (Err (Eio 0 0 1) 0) 1
      ∷ ended (Err (Eio 0 1 2) 0) 1
      ∷ [];
  closes = answer (Ok 0 Whole) 0 ∷ [];
  ends = record {
    files = record {
      size = None;
      sizes = [];
      extents = extent 0 2 (Mapped 0) ∷ [];
      blocks = block_with (filled 0) [] ∷ block_with (filled 1) [] ∷ [];
    } ∷ [];
    free = free_blocks (2 ∷ 3 ∷ 4 ∷ 5 ∷ 6 ∷ 7 ∷ []);
  };
  lanes = outer_lanes (lane 2 2) (lane 0 0);
}

abbrev pub text : List ℕ
text =
    codes "run 1\n"
    ⋅ codes "call 1 0 pread err EIO lane 0 rose 0 1 bios 1\n"
    ⋅ codes "call 2 0 pread err EIO lane 0 rose 1 2 bios 1\n"
    ⋅ codes "close f ok 0 bios 0\n"
    ⋅ codes "map f 0 2 mapped 0\n"
    ⋅ codes "free 6\n"
    ⋅ codes "bios 2\n"
    ⋅ codes "lane 0 ops 2 faults 2\n"
    ⋅ codes "end\n"
