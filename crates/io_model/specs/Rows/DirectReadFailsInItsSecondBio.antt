use Rattle.std.specs.Prelude.{ℕ, List, [], ◌∷◌, None, codes}
use Rattle.iob_base.specs.declared.answer.Fault.TheVariants.{Eio}
use Rattle.iob_base.specs.declared.answer.Reply.TheVariants.{Ok, Err}
use Rattle.iob_base.specs.declared.answer.Stop.TheVariants.{Whole}
use Rattle.io_model.specs.Rows.Parts.{small, cached, extent, call, answer, returned, done, missed, block_with, filled, free_blocks, lane, outer_lanes}
use Rattle.io_model.specs.Text.{◌⋅◌}
use Rattle.io_model.specs.declared.file.Kind.TheVariants.{Mapped}
use Rattle.io_model.specs.declared.script.Script.{Script}
use Rattle.io_model.specs.declared.script.Verb.TheVariants.{Dread}
use Rattle.io_model.specs.declared.run.Run.{Run}

-- iomap 1, dev 16 8 ee, folio 4, file f cached 2, ext f 0 0 1 mapped, ext f 1 5 1 mapped, fault 0 2, phase, 0 dread f 0 32
abbrev pub script : Script
script = record small {
  files = cached 2 (extent 0 1 (Mapped 0) ∷ extent 1 1 (Mapped 5) ∷ []) ∷ [];
  faults = (0, 2) ∷ [];
  calls = call (Dread 0 (32 ∷ [])) ∷ [];
}

abbrev pub run : Run
run = record {
  calls =
      returned (0 ∷ 1 ∷ []) [] (Err (Eio 0 0 1) 2) 2
      ∷ [];
  closes = answer (Ok 0 Whole) 0 ∷ [];
  ends = record {
    files = record {
      size = None;
      sizes = [];
      extents = extent 0 1 (Mapped 0) ∷ extent 1 1 (Mapped 5) ∷ [];
      blocks = block_with (filled 0) (done 1 ∷ []) ∷ block_with (filled 5) (missed 1 ∷ []) ∷ [];
    } ∷ [];
    free = free_blocks (1 ∷ 2 ∷ 3 ∷ 4 ∷ 6 ∷ 7 ∷ []);
  };
  lanes = outer_lanes (lane 2 1) (lane 0 0);
}

abbrev pub text : List ℕ
text =
    codes "run 1\n"
    ⋅ codes "call 1 0 dread err EIO lane 0 rose 0 1 sent 2 bios 2 pages 0+2\n"
    ⋅ codes "close f ok 0 bios 0\n"
    ⋅ codes "journal f 0 1\n"
    ⋅ codes "journal f 1 1M\n"
    ⋅ codes "map f 0 1 mapped 0\n"
    ⋅ codes "map f 1 1 mapped 5\n"
    ⋅ codes "free 6\n"
    ⋅ codes "bios 2\n"
    ⋅ codes "lane 0 ops 2 faults 1\n"
    ⋅ codes "end\n"
