use Rattle.std.specs.Prelude.{ℕ, List, [], ◌∷◌, codes, replicate, None}
use Rattle.iob_base.specs.declared.answer.Alignment.TheVariants.{Offset, Segment}
use Rattle.iob_base.specs.declared.answer.Fault.TheVariants.{NotAligned}
use Rattle.iob_base.specs.declared.answer.Reply.TheVariants.{Ok, Err}
use Rattle.iob_base.specs.declared.answer.Stop.TheVariants.{Whole}
use Rattle.io_model.specs.Rows.Parts.{small, cached, extent, call, call_in, answer, returned, block_with, filled, free_blocks, lane, outer_lanes}
use Rattle.io_model.specs.Text.{◌⋅◌}
use Rattle.io_model.specs.declared.file.Kind.TheVariants.{Mapped}
use Rattle.io_model.specs.declared.script.Script.{Script}
use Rattle.io_model.specs.declared.script.Verb.TheVariants.{Dread, Dwrite}
use Rattle.io_model.specs.declared.run.Run.{Run}

-- iomap 1, dev 16 8 ee, folio 4, file f cached 1, ext f 0 5 1 mapped, phase,
-- 0 dwrite f 8 42x16, 0 dread f 0 8+8
abbrev pub script : Script
script = record small {
  files = cached 1 (extent 0 1 (Mapped 5) ∷ []) ∷ [];
  calls = call (Dwrite 8 (replicate 16 66 ∷ [])) ∷ call_in 1 0 1 (Dread 0 (8 ∷ 8 ∷ [])) ∷ [];
}

abbrev pub run : Run
run = record {
  calls =
      returned (0 ∷ []) [] (Err (NotAligned (Offset 8)) 0) 0
      ∷ returned (1 ∷ 2 ∷ []) [] (Err (NotAligned (Segment 1 8)) 0) 0
      ∷ [];
  closes = answer (Ok 0 Whole) 0 ∷ [];
  ends = record {
    files = record {
      size = None;
      sizes = [];
      extents = extent 0 1 (Mapped 5) ∷ [];
      blocks = block_with (filled 5) [] ∷ [];
    } ∷ [];
    free = free_blocks (0 ∷ 1 ∷ 2 ∷ 3 ∷ 4 ∷ 6 ∷ 7 ∷ []);
  };
  lanes = outer_lanes (lane 0 0) (lane 0 0);
}

abbrev pub text : List ℕ
text =
    codes "run 1\n"
    ⋅ codes "call 1 0 dwrite err EINVAL offset 8 sent 0 bios 0 pages 0+1\n"
    ⋅ codes "call 2 0 dread err EINVAL segment 1 length 8 sent 0 bios 0 pages 1+2\n"
    ⋅ codes "close f ok 0 bios 0\n"
    ⋅ codes "map f 0 1 mapped 5\n"
    ⋅ codes "free 7\n"
    ⋅ codes "bios 0\n"
    ⋅ codes "end\n"
