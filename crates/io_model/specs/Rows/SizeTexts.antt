use Rattle.std.specs.Prelude.{ℕ, List, codes}
use Rattle.io_model.specs.Text.{◌⋅◌}

-- the text of the run whose calls cut a file and let it grow
abbrev pub cut_and_grown : List ℕ
cut_and_grown =
    codes "run 1\n"
    ⋅ codes "call 1 0 pread ok 5 eeeeeeeeee short END bios 1\n"
    ⋅ codes "call 2 0 pwrite ok 1 bios 0\n"
    ⋅ codes "call 3 0 pread ok 21 eeeeeeeeee00000000000000000000000000000041 short END bios 0\n"
    ⋅ codes "call 4 0 trunc ok 29 bios 0\n"
    ⋅ codes "call 5 0 pread ok 3 eeeeee short END bios 0\n"
    ⋅ codes "close f ok 1 bios 1\n"
    ⋅ codes "journal f 0 1 3 4 5\n"
    ⋅ codes "journal f 1 2 3 4\n"
    ⋅ codes "sizes f 1S5 2G21 3S21 4S21 4C3 5S3\n"
    ⋅ codes "size f 3\n"
    ⋅ codes "map f 0 1 mapped 2\n"
    ⋅ codes "free 7\n"
    ⋅ codes "bios 1\n"
    ⋅ codes "lane 0 ops 1 faults 0\n"
    ⋅ codes "lane 16 ops 1 faults 0\n"
    ⋅ codes "end\n"

-- the text of the run whose only call would cut a file past its end
abbrev pub refused : List ℕ
refused =
    codes "run 1\n"
    ⋅ codes "call 1 0 trunc err EFBIG offset 65 end 64 bios 0\n"
    ⋅ codes "close f ok 0 bios 0\n"
    ⋅ codes "size f 5\n"
    ⋅ codes "map f 0 1 mapped 2\n"
    ⋅ codes "free 7\n"
    ⋅ codes "bios 0\n"
    ⋅ codes "end\n"
