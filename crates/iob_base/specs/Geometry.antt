use Rattle.std.specs.Prelude.{ℕ, Bool, ◌==◌, ◌||◌, ◌&&◌, nat_le, if◌then◌else◌, IsTrue}

-- a power of two from 16 to 4096
abbrev pub is_block_size : ℕ → Bool
is_block_size n = n == 16 || n == 32 || n == 64 || n == 128 || n == 256 || n == 512 || n == 1024 || n == 2048 || n == 4096

-- how many blocks a folio may have
abbrev pub is_folio_blocks : ℕ → Bool
is_folio_blocks n = n == 1 || n == 2 || n == 4 || n == 8 || n == 16 || n == 32

-- a power of two from 16 to the block size
abbrev pub is_grain : ℕ → ℕ → Bool
is_grain size n = is_block_size n && nat_le n size

-- a grain of a block size; proofs open it where they need it
unfoldable pub IsGrain : ℕ → ℕ → Type 0
IsGrain size n = IsTrue (is_grain size n)

-- the power that a block size is of two; proofs open it where they need it
unfoldable pub shift_of : ℕ → ℕ
shift_of size =
    if size == 16 then 4 else (if size == 32 then 5 else (if size == 64 then 6 else (if size == 128 then 7 else (if size == 256 then 8
    else (if size == 512 then 9 else (if size == 1024 then 10 else (if size == 2048 then 11 else 12)))))))
