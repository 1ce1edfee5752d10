use Rattle.std.specs.Prelude.{ℕ, Bool, ◌&&◌, ◌==◌, ◌+◌, ◌-◌, ◌*◌, ◌/◌, min, max, nat_lt, if◌then◌else◌}

-- bytes of a file, from one place up to another
pub record Span : Type 0 where
  pub from : ℕ
  pub to : ℕ

abbrev pub span : ℕ → ℕ → Span
span from to = record { from = from; to = to }

abbrev pub span_length : Span → ℕ
span_length s = s.to - s.from

-- the bytes that a call asks from an offset on, cut at some place
abbrev pub range_in : ℕ → ℕ → ℕ → Span
range_in cut off asked = span off (min (off + asked) cut)

-- what of a span lies in a block
abbrev pub part_in : ℕ → Span → ℕ → Span
part_in size s b = span (max s.from (b * size)) (min s.to ((b + 1) * size))

-- a span has bytes in a block
abbrev pub meets : ℕ → Span → ℕ → Bool
meets size s b = nat_lt (part_in size s b).from (part_in size s b).to

-- a span has all bytes of a block
abbrev pub is_whole_in : ℕ → Span → ℕ → Bool
is_whole_in size s b = (part_in size s b).from == b * size && (part_in size s b).to == (b + 1) * size

-- how many blocks a span meets
abbrev pub blocks_met : ℕ → Span → ℕ
blocks_met size s = if nat_lt s.from s.to then ((s.to - 1) / size + 1) - s.from / size else 0
