use Rattle.std.specs.Prelude.{ℕ, List, [], ◌∷◌, None, codes}
use Rattle.iob_base.specs.declared.answer.Fault.TheVariants.{Eio}
use Rattle.iob_base.specs.declared.answer.Reply.TheVariants.{Ok, Err}
use Rattle.iob_base.specs.declared.answer.Stop.TheVariants.{Whole}
use Rattle.iob_base.specs.declared.stamp.Mode.TheVariants.{Dax}
use Rattle.io_model.specs.Rows.Parts.{small, extent, call, answer, ended, gave, done, block_with, filled, free_blocks, lane, outer_lanes}
use Rattle.io_model.specs.Text.{◌⋅◌}
use Rattle.io_model.specs.declared.file.Kind.TheVariants.{Unwritten}
use Rattle.io_model.specs.declared.script.Script.{Script}
use Rattle.io_model.specs.declared.script.Verb.TheVariants.{Xread, Xwrite}
use Rattle.io_model.specs.declared.run.Run.{Run}

-- iomap 1, dev 16 8 ee, folio 4, file g dax 1, ext g 0 4 1 unwritten, fault 0 1, phase,
-- 0 xwrite g 0 41, 0 xread g 0 2
abbrev pub script : Script
script = record small {
  names = codes "g" ∷ [];
  files = record { mode = Dax; blocks = 1; size = None; extents = extent 0 1 (Unwritten 4) ∷ [] } ∷ [];
  faults = (0, 1) ∷ [];
  calls = call (Xwrite 0 ((65 ∷ []) ∷ [])) ∷ call (Xread 0 (2 ∷ [])) ∷ [];
}

abbrev pub run : Run
run = record {
  calls =
      ended (Err (Eio 0 0 1) 0) 0
      ∷ gave (0 ∷ 0 ∷ []) (Ok 2 Whole) 0
      ∷ [];
  closes = answer (Ok 0 Whole) 0 ∷ [];
  ends = record {
    files = record {
      size = None;
      sizes = [];
      extents = extent 0 1 (Unwritten 4) ∷ [];
      blocks = block_with (filled 4) (done 2 ∷ []) ∷ [];
    } ∷ [];
    free = free_blocks (0 ∷ 1 ∷ 2 ∷ 3 ∷ 5 ∷ 6 ∷ 7 ∷ []);
  };
  lanes = outer_lanes (lane 1 1) (lane 0 0);
}

abbrev pub text : List ℕ
text =
    codes "run 1\n"
    ⋅ codes "call 1 0 xwrite err EIO lane 0 rose 0 1 bios 0\n"
    ⋅ codes "call 2 0 xread ok 2 0000 bios 0\n"
    ⋅ codes "close g ok 0 bios 0\n"
    ⋅ codes "journal g 0 2\n"
    ⋅ codes "map g 0 1 unwritten 4\n"
    ⋅ codes "free 7\n"
    ⋅ codes "bios 0\n"
    ⋅ codes "lane 0 ops 1 faults 1\n"
    ⋅ codes "end\n"
