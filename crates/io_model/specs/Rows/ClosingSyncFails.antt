use Rattle.std.specs.Prelude.{ℕ, List, [], ◌∷◌, Some, codes, replicate, None}
use Rattle.iob_base.specs.declared.answer.Fault.TheVariants.{SyncEio}
use Rattle.iob_base.specs.declared.answer.Reply.TheVariants.{Ok, Err}
use Rattle.iob_base.specs.declared.answer.Stop.TheVariants.{Whole}
use Rattle.io_model.specs.Rows.Parts.{small, cached, cache_page, extent, call, answer, ended, done, filled, free_blocks, lane, outer_lanes}
use Rattle.io_model.specs.Text.{◌⋅◌}
use Rattle.io_model.specs.declared.file.Kind.TheVariants.{Unwritten}
use Rattle.io_model.specs.declared.script.Script.{Script}
use Rattle.io_model.specs.declared.script.Verb.TheVariants.{Pwrite}
use Rattle.io_model.specs.declared.run.Run.{Run}

-- iomap 1, dev 16 8 ee, folio 4, file f cached 1, fault 16 1, phase, 0 pwrite f 0 41x16
abbrev pub script : Script
script = record small {
  files = cached 1 [] ∷ [];
  faults = (16, 1) ∷ [];
  calls = call (Pwrite 0 (replicate 16 65 ∷ [])) ∷ [];
}

-- the failed transfer of the one block has moved nothing
abbrev pub run : Run
run = record {
  calls = ended (Ok 16 Whole) 0 ∷ [];
  closes = answer (Err (SyncEio 0 1) 0) 1 ∷ [];
  ends = record {
    files = record {
      size = None;
      sizes = [];
      extents = extent 0 1 (Unwritten 0) ∷ [];
      blocks = record { sector = Some (filled 0); dirty = Some (cache_page (replicate 16 65)); journal = done 1 ∷ [] } ∷ [];
    } ∷ [];
    free = free_blocks (1 ∷ 2 ∷ 3 ∷ 4 ∷ 5 ∷ 6 ∷ 7 ∷ []);
  };
  lanes = outer_lanes (lane 0 0) (lane 1 1);
}

abbrev pub text : List ℕ
text =
    codes "run 1\n"
    ⋅ codes "call 1 0 pwrite ok 16 bios 0\n"
    ⋅ codes "close f err EIO seen 0 count 1 bios 1\n"
    ⋅ codes "journal f 0 1\n"
    ⋅ codes "map f 0 1 unwritten 0\n"
    ⋅ codes "dirty f 0 41414141414141414141414141414141\n"
    ⋅ codes "free 7\n"
    ⋅ codes "bios 0\n"
    ⋅ codes "lane 16 ops 1 faults 1\n"
    ⋅ codes "end\n"
