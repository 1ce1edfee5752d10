use Rattle.std.specs.Prelude.{ℕ, List, [], ◌∷◌, codes, replicate, None}
use Rattle.iob_base.specs.declared.answer.Fault.TheVariants.{Eio}
use Rattle.iob_base.specs.declared.answer.Reply.TheVariants.{Ok}
use Rattle.iob_base.specs.declared.answer.Stop.TheVariants.{Fault as Short}
use Rattle.iob_base.specs.declared.answer.Stop.TheVariants.{Whole}
use Rattle.io_model.specs.Rows.Parts.{small, cached, extent, call, answer, gave, done, block_with, filled, lane, outer_lanes}
use Rattle.io_model.specs.Text.{◌⋅◌}
use Rattle.io_model.specs.declared.file.Kind.TheVariants.{Mapped}
use Rattle.io_model.specs.declared.script.Script.{Script}
use Rattle.io_model.specs.declared.script.Verb.TheVariants.{Pread}
use Rattle.io_model.specs.declared.run.Run.{Run}

-- iomap 1, dev 16 8 ee, folio 4, file f cached 8, ext f 0 0 8 mapped, fault 0 2, phase, 0 pread f 60 8
abbrev pub script : Script
script = record small {
  files = cached 8 (extent 0 8 (Mapped 0) ∷ []) ∷ [];
  faults = (0, 2) ∷ [];
  calls = call (Pread 60 (8 ∷ [])) ∷ [];
}

abbrev pub run : Run
run = record {
  calls = gave (replicate 4 238) (Ok 4 (Short (Eio 0 0 1))) 2 ∷ [];
  closes = answer (Ok 0 Whole) 0 ∷ [];
  ends = record {
    files = record {
      size = None;
      sizes = [];
      extents = extent 0 8 (Mapped 0) ∷ [];
      blocks =
          block_with (filled 0) []
          ∷ block_with (filled 1) []
          ∷ block_with (filled 2) []
          ∷ block_with (filled 3) (done 1 ∷ [])
          ∷ block_with (filled 4) []
          ∷ block_with (filled 5) []
          ∷ block_with (filled 6) []
          ∷ block_with (filled 7) []
          ∷ [];
    } ∷ [];
    free = [];
  };
  lanes = outer_lanes (lane 2 1) (lane 0 0);
}

abbrev pub text : List ℕ
text =
    codes "run 1\n"
    ⋅ codes "call 1 0 pread ok 4 eeeeeeee short EIO lane 0 rose 0 1 bios 2\n"
    ⋅ codes "close f ok 0 bios 0\n"
    ⋅ codes "journal f 3 1\n"
    ⋅ codes "map f 0 8 mapped 0\n"
    ⋅ codes "free 0\n"
    ⋅ codes "bios 2\n"
    ⋅ codes "lane 0 ops 2 faults 1\n"
    ⋅ codes "end\n"
