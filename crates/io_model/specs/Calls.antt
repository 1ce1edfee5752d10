use Rattle.std.specs.Prelude.{ℕ, Bool, true, false, ◌||◌, List, map, [], length}
use Rattle.std.specs.List.{concat, sum}
use Rattle.io_model.specs.declared.script.Verb.{Verb}
use Rattle.io_model.specs.declared.script.Verb.TheVariants.{Pread, Pwrite, Dread, Dwrite, Xread, Xwrite, Zero, Punch, Alloc, Wb, Sync, Drop, Trunc}

-- where a data call begins, in bytes of its file
abbrev pub offset_of : Verb → ℕ
offset_of (Pread off _) = off
offset_of (Pwrite off _) = off
offset_of (Dread off _) = off
offset_of (Dwrite off _) = off
offset_of (Xread off _) = off
offset_of (Xwrite off _) = off
offset_of (Zero off _) = off
offset_of (Punch off _) = off
offset_of (Alloc off _) = off
offset_of (Wb _ _) = 0
offset_of Sync = 0
offset_of Drop = 0
offset_of (Trunc size) = size

-- the bytes that a call writes, its segments joined
abbrev pub bytes_of : Verb → List ℕ
bytes_of (Pwrite _ segments) = concat segments
bytes_of (Dwrite _ segments) = concat segments
bytes_of (Xwrite _ segments) = concat segments
bytes_of _ = []

-- how many bytes a call asks for, before its range is cut at the file's end
abbrev pub asked_of : Verb → ℕ
asked_of (Pread _ lengths) = sum lengths
asked_of (Pwrite _ segments) = length (concat segments)
asked_of (Dread _ lengths) = sum lengths
asked_of (Dwrite _ segments) = length (concat segments)
asked_of (Xread _ lengths) = sum lengths
asked_of (Xwrite _ segments) = length (concat segments)
asked_of (Zero _ n) = n
asked_of (Punch _ n) = n
asked_of (Alloc _ n) = n
asked_of (Wb _ _) = 0
asked_of Sync = 0
asked_of Drop = 0
asked_of (Trunc _) = 0

-- the lengths of a call's segments
abbrev pub lengths_of : Verb → List ℕ
lengths_of (Pread _ lengths) = lengths
lengths_of (Dread _ lengths) = lengths
lengths_of (Xread _ lengths) = lengths
lengths_of (Pwrite _ segments) = map length segments
lengths_of (Dwrite _ segments) = map length segments
lengths_of (Xwrite _ segments) = map length segments
lengths_of _ = []

-- the call reads bytes
abbrev pub is_read : Verb → Bool
is_read (Pread _ _) = true
is_read (Dread _ _) = true
is_read (Xread _ _) = true
is_read _ = false

-- the call writes bytes of its own
abbrev pub is_write : Verb → Bool
is_write (Pwrite _ _) = true
is_write (Dwrite _ _) = true
is_write (Xwrite _ _) = true
is_write _ = false

-- the call sets bytes to zero
abbrev pub is_zeroing : Verb → Bool
is_zeroing (Zero _ _) = true
is_zeroing (Punch _ _) = true
is_zeroing (Trunc _) = true
is_zeroing _ = false

-- only data calls leave stamps
abbrev pub is_data_call : Verb → Bool
is_data_call v = is_read v || is_write v || is_zeroing v

-- a direct call moves whole pages of its caller
abbrev pub is_direct : Verb → Bool
is_direct (Dread _ _) = true
is_direct (Dwrite _ _) = true
is_direct _ = false

abbrev pub is_dwrite : Verb → Bool
is_dwrite (Dwrite _ _) = true
is_dwrite _ = false

-- the call gives whole blocks of its range back: a punch, or a cut of the file's size
abbrev pub is_wiping : Verb → Bool
is_wiping (Punch _ _) = true
is_wiping (Trunc _) = true
is_wiping _ = false

abbrev pub is_trunc : Verb → Bool
is_trunc (Trunc _) = true
is_trunc _ = false

abbrev pub is_alloc : Verb → Bool
is_alloc (Alloc _ _) = true
is_alloc _ = false

abbrev pub is_sync : Verb → Bool
is_sync Sync = true
is_sync _ = false

-- a write through the page cache
abbrev pub is_pwrite : Verb → Bool
is_pwrite (Pwrite _ _) = true
is_pwrite _ = false

-- the call writes dirty blocks to the device, and counts them
abbrev pub is_writeback : Verb → Bool
is_writeback (Wb _ _) = true
is_writeback Sync = true
is_writeback _ = false
