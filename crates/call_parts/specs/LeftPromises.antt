-- Which blocks entries leave with space promised to them and nothing in memory to be written.
use Rattle.std.specs.Prelude.{◌≡◌, ℕ, Bool, true, false, not, ◌&&◌, ◌||◌, List, [], ◌∷◌}
use Rattle.range_core.specs.BlockStates.{BlockState}
use Rattle.range_core.specs.Kinds.{is_delalloc}
use Rattle.range_core.specs.Spots.{in_run, is_met}
use Rattle.range_core.specs.declared.entry.Entry.{Entry}
use Rattle.range_core.specs.declared.entry.Event.{Event}
use Rattle.range_core.specs.declared.entry.Event.TheVariants.{Fetch, FillBack, LendRead, Reserve, Sample as Look, Store, StoreZeros, Unreserve}
use Rattle.range_core.specs.declared.entry.Outcome.{Outcome}
use Rattle.range_core.specs.declared.entry.Outcome.TheVariants.{Counted, Finished, Sampled}

-- a block to which space is promised has bytes in memory to be written
abbrev pub KeepsNoPromise : BlockState → Type 0
KeepsNoPromise s = is_delalloc s.kind ≡ true → s.dirty ≡ true

-- the events that go through the page cache and leave a dirty block dirty
abbrev pub keeps_dirty : Event → Bool
keeps_dirty (Look block most) = true
keeps_dirty (Reserve seen blocks) = true
keeps_dirty (Unreserve block blocks) = true
keeps_dirty (LendRead block most) = true
keeps_dirty (FillBack ticket block blocks done) = true
keeps_dirty (Fetch by from to) = true
keeps_dirty (Store by seen from to bytes) = true
keeps_dirty (StoreZeros by seen from to) = true
keeps_dirty _ = false

-- an event that came about promised space to a block
abbrev pub promises_to : ℕ → Event → Outcome → Bool
promises_to b (Reserve seen blocks) (Sampled sample) = in_run sample.extent.block sample.extent.length b
promises_to b _ _ = false

-- an event that came about took a promise that was not needed back from a block, or gave the block bytes to be written
abbrev pub settles : ℕ → ℕ → Event → Outcome → Bool
settles size b (Unreserve block blocks) (Counted n) = in_run block blocks b
settles size b (Store by seen from to bytes) Finished = is_met size from to b
settles size b _ _ = false

-- a promise to a block is owed after an entry, that is made and not settled, where one was owed before it or not
abbrev pub owed_after : ℕ → ℕ → Bool → Entry → Bool
owed_after size b owed e = not (settles size b e.event e.outcome) && (promises_to b e.event e.outcome || owed)

-- the same after entries
abbrev pub left_owed : ℕ → ℕ → Bool → List Entry → Bool
left_owed size b owed [] = owed
left_owed size b owed (e ∷ entries) = left_owed size b (owed_after size b owed e) entries
