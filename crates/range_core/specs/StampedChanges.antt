-- What an entry changes, it stamps.
use Rattle.std.specs.Prelude.{◌≡◌, ℕ, ◌<◌, Bool, true, false, ◌&&◌, ◌||◌, ◌==◌, List, [], ◌∷◌}
use Rattle.iob_base.specs.declared.stamp.Mark.{Mark}
use Rattle.iob_base.specs.declared.stamp.Mark.TheVariants.{Done, Landed, Missed}
use Rattle.iob_base.specs.declared.stamp.Stamp.{Stamp}
use Rattle.io_model.specs.Contents.{Content}
use Rattle.range_core.specs.BlockContents.{content_after}
use Rattle.range_core.specs.EntryStamps.{stamps_of}
use Rattle.range_core.specs.declared.entry.Entry.{Entry}

-- a call that did its part, or whose bytes landed, may have changed the block
abbrev pub may_change : Mark → Bool
may_change Done = true
may_change Landed = true
may_change Missed = false

-- one of these stamps is of block b, and of such a call
abbrev pub is_marked : ℕ → List (ℕ × Stamp) → Bool
is_marked b [] = false
is_marked b (s ∷ stamps) = ((s.0 == b) && may_change s.1.mark) || is_marked b stamps

-- A block's content is another after an entry only where the entry left such a stamp on it
abbrev pub OnlyStampsChange : Type 0
OnlyStampsChange = (size b : ℕ) (content : Content) (e : Entry) → 0 < size → is_marked b (stamps_of size e) ≡ false → content_after size b content e ≡ content
