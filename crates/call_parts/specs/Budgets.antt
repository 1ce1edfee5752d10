-- How often a call lends a block to be read into the cache.
use Rattle.std.specs.Prelude.{◌≡◌, ℕ, zero, suc, ◌+◌, ◌<◌, ◌≤◌, ◌==◌, Bool, true, false, Option, None, List, [], ◌∷◌, ◌++◌, All}
use Rattle.iob_base.specs.declared.answer.Fault.{Fault}
use Rattle.iob_base.specs.declared.stamp.FileId.{FileId}
use Rattle.turn_cell.specs.Stakes.{total}
use Rattle.range_core.specs.BlockStates.{BlockState}
use Rattle.range_core.specs.EntryCounts.{one_where}
use Rattle.range_core.specs.Happened.{lawful_from}
use Rattle.range_core.specs.declared.entry.Entry.{Entry}
use Rattle.range_core.specs.declared.entry.Event.{Event}
use Rattle.range_core.specs.declared.entry.Event.TheVariants.{Fetch, FillBack, LendRead, Reserve, Sample, Store, StoreZeros, Unreserve, Wipe}
use Rattle.range_core.specs.declared.entry.Outcome.{Outcome}
use Rattle.range_core.specs.declared.entry.Outcome.TheVariants.{Lending}
use Rattle.mount_parts.specs.MountView.{MountView, stripe_at}
use Rattle.mini_fs.specs.Acts.{Act, made_in, own_entries, seen_in}
use Rattle.mini_fs.specs.Acts.Act.{Turn}
use Rattle.mini_fs.specs.PassView.{PassView}
use Rattle.call_parts.specs.Reads.{seen_at}

-- the events after which a block that was read into the cache needs no read again
abbrev pub keeps_read : Event → Bool
keeps_read (Sample block most) = true
keeps_read (Reserve seen blocks) = true
keeps_read (Unreserve block blocks) = true
keeps_read (Fetch by from to) = true
keeps_read (LendRead block most) = true
keeps_read (FillBack ticket block blocks done) = true
keeps_read (Store by seen from to bytes) = true
keeps_read (StoreZeros by seen from to) = true
keeps_read (Wipe by block blocks) = true
keeps_read _ = false

-- an entry lent a run to be read that begins with this block, and how many entries did
abbrev pub lends_from : ℕ → Event → Outcome → Bool
lends_from b (LendRead block most) (Lending ticket blocks) = block == b
lends_from b _ _ = false

abbrev pub loans_from : ℕ → List Entry → ℕ
loans_from b entries = total (λ e. one_where (lends_from b e.event e.outcome)) entries

-- a run that was lent to be read begins before a block
abbrev pub IsReadBelow : ℕ → Event → Outcome → Type 0
IsReadBelow below (LendRead block most) (Lending ticket blocks) = block < below
IsReadBelow below _ _ = Unit {0}

abbrev pub ReadBelow : ℕ → List Entry → Type 0
ReadBelow below entries = All (λ e. IsReadBelow below e.event e.outcome) entries

-- once a read came back failed, what is still read begins before its blocks
abbrev pub Bounds : Event → List Entry → Type 0
Bounds (FillBack ticket block blocks done) later = done.failed ≡ true → ReadBelow block later
Bounds _ later = Unit {0}

abbrev pub FallsBack : List Entry → Type 0
FallsBack [] = Unit {0}
FallsBack (e ∷ entries) = Bounds e.event entries × FallsBack entries

-- a run of blocks was lent to be read, at the stripe of its first block, which is one of n from `low` on that is so
abbrev pub IsLentAmong : MountView → FileId → (ℕ → Bool) → ℕ → ℕ → ℕ → Event → Outcome → Type 0
IsLentAmong m file so low n stripe (LendRead block most) (Lending ticket blocks) = (low ≤ block) × (block < low + n) × (so block ≡ true) × (stripe ≡ stripe_at m file block) × (0 < blocks)
IsLentAmong m file so low n stripe _ (Lending ticket blocks) = ⊥
IsLentAmong m file so low n stripe _ _ = Unit {0}

-- an act lends nothing but such a run
abbrev pub LendsAmong : MountView → FileId → (ℕ → Bool) → ℕ → ℕ → Act → Type 0
LendsAmong m file so low n (Turn stripe others own) = IsLentAmong m file so low n stripe own.event own.outcome
LendsAmong m file so low n _ = Unit {0}

-- a read that came back failed began at or behind a block
abbrev pub IsBehind : ℕ → Event → Type 0
IsBehind limit (FillBack ticket block blocks done) = done.failed ≡ true → limit ≤ block
IsBehind limit _ = Unit {0}

-- no read came back failed
abbrev pub IsSound : Event → Type 0
IsSound (FillBack ticket block blocks done) = done.failed ≡ false
IsSound _ = Unit {0}

abbrev pub AreSound : List Entry → Type 0
AreSound entries = All (λ e. IsSound e.event) entries

-- Acts lend no other blocks to be read than these, and once a read failed only blocks before it. Where no fault was met, none failed
pub record LendsFew (m : MountView) (file : FileId) (so : ℕ → Bool) (low n : ℕ) (fault : Option Fault) (acts : List Act) : Type 0 where
  pub among : All (LendsAmong m file so low n) acts
  pub falls : FallsBack (own_entries acts)
  pub sound : fault ≡ None → AreSound (own_entries acts)

-- no entry of anybody else stands between those of the acts, at any stripe
abbrev pub IsAlone : List Act → Type 0
IsAlone acts = (stripe : ℕ) → (others : List Entry) × (seen_in stripe acts ≡ others ++ made_in stripe acts)

-- what was seen of a block's stripe up to the end of the acts can have happened to the block
abbrev pub HasHappenedTo : MountView → FileId → PassView → List Act → ℕ → Type 0
HasHappenedTo m file p acts b = (s : BlockState) × (lawful_from m.geometry.block_size b s (seen_at p (stripe_at m file b) ++ seen_in (stripe_at m file b) acts) ≡ true)

-- how many of n numbers from `low` on are so
abbrev pub how_many : (ℕ → Bool) → ℕ → ℕ → ℕ
how_many so low zero = 0
how_many so low (suc n) = one_where (so low) + how_many so (suc low) n
