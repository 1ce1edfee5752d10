use Rattle.std.specs.Prelude.{ℕ, List, codes}
use Rattle.io_model.specs.Text.{◌⋅◌}

-- the run in which a write into unwritten space is converted at the close, printed with the image
abbrev pub text : List ℕ
text =
    codes "run 1\n"
    ⋅ codes "call 1 0 pwrite ok 5 bios 0\n"
    ⋅ codes "call 2 0 pread ok 16 00000000414243444500000000000000 bios 0\n"
    ⋅ codes "close f ok 1 bios 1\n"
    ⋅ codes "journal f 0 1 2\n"
    ⋅ codes "map f 0 1 mapped 3\n"
    ⋅ codes "image f 0 00000000414243444500000000000000\n"
    ⋅ codes "free 7\n"
    ⋅ codes "bios 0\n"
    ⋅ codes "lane 16 ops 1 faults 0\n"
    ⋅ codes "end\n"
