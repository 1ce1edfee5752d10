use Rattle.std.specs.Prelude.{Bool, Option, Some, None, codes, if◌then◌else◌}
use Rattle.std.specs.List.{list_all}
use Rattle.std.specs.Str.{bytes_eq}
use Rattle.io_script.specs.GrammarNumbers.{is_digit}
use Rattle.io_script.specs.GrammarWords.{Word}
use Rattle.io_script.specs.declared.read.kinds.CallName.{CallName}
use Rattle.io_script.specs.declared.read.kinds.CallName.TheVariants.{Pread, Pwrite, Dread, Dwrite, Xread, Xwrite, Zero, Punch, Alloc, Wb, Sync, Drop, Trunc}
use Rattle.io_script.specs.declared.read.kinds.LineKind.{LineKind}
use Rattle.io_script.specs.declared.read.kinds.LineKind.TheVariants.{Header, Device, Folio, Grain, File, Size, Extent, Data, Fault, Phase, Call, Unknown}

abbrev pub is_all_digits : Word → Bool
is_all_digits word = list_all is_digit word

-- what a line is, by its first word
abbrev pub kind_of : Word → LineKind
kind_of word =
    if is_all_digits word then Call
    else (if bytes_eq word (codes "data") then Data
    else (if bytes_eq word (codes "ext") then Extent
    else (if bytes_eq word (codes "fault") then Fault
    else (if bytes_eq word (codes "file") then File
    else (if bytes_eq word (codes "phase") then Phase
    else (if bytes_eq word (codes "iomap") then Header
    else (if bytes_eq word (codes "dev") then Device
    else (if bytes_eq word (codes "folio") then Folio
    else (if bytes_eq word (codes "grain") then Grain
    else (if bytes_eq word (codes "size") then Size
    else Unknown))))))))))

-- the calls that move bytes between their caller and a file
abbrev pub moving_name_of : Word → Option CallName
moving_name_of word =
    if bytes_eq word (codes "pread") then Some Pread
    else (if bytes_eq word (codes "pwrite") then Some Pwrite
    else (if bytes_eq word (codes "dread") then Some Dread
    else (if bytes_eq word (codes "dwrite") then Some Dwrite
    else (if bytes_eq word (codes "xread") then Some Xread
    else (if bytes_eq word (codes "xwrite") then Some Xwrite
    else None)))))

-- the call of a name
abbrev pub call_name_of : Word → Option CallName
call_name_of word =
    if bytes_eq word (codes "zero") then Some Zero
    else (if bytes_eq word (codes "punch") then Some Punch
    else (if bytes_eq word (codes "alloc") then Some Alloc
    else (if bytes_eq word (codes "wb") then Some Wb
    else (if bytes_eq word (codes "sync") then Some Sync
    else (if bytes_eq word (codes "drop") then Some Drop
    else (if bytes_eq word (codes "trunc") then Some Trunc
    else moving_name_of word))))))
