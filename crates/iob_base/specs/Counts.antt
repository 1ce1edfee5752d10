use Rattle.std.specs.Prelude.{ℕ, Bool, ◌+◌, ◌≤◌, min, nat_le}

-- where a count of ops, faults, errors or bios ends: one that has reached it stays there
abbrev pub END : ℕ
END = 18446744073709551615

-- a count after one more
abbrev pub count_after : ℕ → ℕ
count_after n = min (n + 1) END

-- a count has risen, or stands at its end
abbrev pub Rose : ℕ → ℕ → Type 0
Rose before now = count_after before ≤ now

-- the same as a test
abbrev pub has_risen : ℕ → ℕ → Bool
has_risen before now = nat_le (count_after before) now
