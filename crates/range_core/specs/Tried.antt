-- The definitions tried on short histories of blocks of four bytes.
use Rattle.std.specs.Prelude.{◌≡◌, ℕ, Bool, true, false, None, [], ◌∷◌, if◌then◌else◌}
use Rattle.iob_base.specs.declared.stamp.Mark.{Mark}
use Rattle.iob_base.specs.declared.stamp.Mark.TheVariants.{Done as DoneMark, Landed, Missed}
use Rattle.iob_base.specs.declared.stamp.Op.{Op}
use Rattle.iob_base.specs.declared.stamp.Op.TheVariants.{Read, Write}
use Rattle.iob_base.specs.declared.stamp.Stamp.{Stamp}
use Rattle.iob_base.specs.declared.stamp.Tag.{Tag}
use Rattle.fault_device.specs.declared.lane.Done.{Done}
use Rattle.io_model.specs.declared.file.Kind.{Kind}
use Rattle.io_model.specs.declared.file.Kind.TheVariants.{Hole, Unwritten, Mapped}
use Rattle.range_core.specs.BlockContents.{replayed}
use Rattle.range_core.specs.BlockStates.{BlockState, states_replayed}
use Rattle.range_core.specs.EntryStamps.{stamps_in}
use Rattle.range_core.specs.declared.entry.Entry.{Entry}
use Rattle.range_core.specs.declared.entry.Event.{Event}
use Rattle.range_core.specs.declared.entry.Event.TheVariants.{Store, LendWriteback, WrittenBack, DirectBack, Wipe, DaxPut}
use Rattle.range_core.specs.declared.entry.Outcome.{Outcome}
use Rattle.range_core.specs.declared.entry.Outcome.TheVariants.{Counted, Took, Lending, Finished}
use Rattle.range_core.specs.declared.sample.Sample.{Sample}

abbrev tag : Tag
tag = record { caller = 3; call = 9 }

abbrev seen : Sample
seen = record { cookie = 0; errors = 0; extent = record { block = 0; length = 4; kind = Unwritten 7 } }

abbrev entry : Event → Outcome → Entry
entry event outcome = record { caller = 3; event = event; outcome = outcome }

abbrev state : Kind → Bool → BlockState
state kind dirty = record { kind = kind; dirty = dirty; away = None; uptodate = false }

abbrev cached : Kind → Bool → BlockState
cached kind dirty = record (state kind dirty) { uptodate = true }

abbrev done : ℕ → ℕ → Bool → Done
done blocks landed failed = record { lane = 3; blocks = blocks; landed = landed; failed = failed; before = 0; after = if failed then 1 else 0 }

-- two bytes from the second one of block 0 on
abbrev stored : Entry
stored = entry (Store tag seen 1 3 (65 ∷ 66 ∷ [])) Finished

abbrev lent : Entry
lent = entry (LendWriteback 0 1) (Lending 0 1)

abbrev back : Bool → Entry
back true = entry (WrittenBack 0 0 (Unwritten 7) 1 (done 1 0 true)) (Counted 0)
back false = entry (WrittenBack 0 0 (Unwritten 7) 1 (done 1 1 false)) (Counted 1)

abbrev wiped : Entry
wiped = entry (Wipe tag 0 1) (Counted 1)

-- a store into a block of zeros leaves zeros around its bytes, and makes it dirty
abbrev pub StoreLeavesZerosAround : Type 0
StoreLeavesZerosAround = (replayed 4 0 (0 ∷ 0 ∷ 0 ∷ 0 ∷ []) (stored ∷ []) ≡ 0 ∷ 65 ∷ 66 ∷ 0 ∷ []) × (states_replayed 4 0 (state (Unwritten 7) false) (stored ∷ []) ≡ cached (Unwritten 7) true)

-- a block that was written is mapped and clean
abbrev pub WritebackMaps : Type 0
WritebackMaps = states_replayed 4 0 (state (Unwritten 7) false) (stored ∷ lent ∷ back false ∷ []) ≡ cached (Mapped 7) false

-- where the write failed, its kind stays and it is dirty again
abbrev pub FailedWritebackMakesDirty : Type 0
FailedWritebackMakesDirty = states_replayed 4 0 (state (Unwritten 7) false) (stored ∷ lent ∷ back true ∷ []) ≡ cached (Unwritten 7) true

-- a store in the meantime leaves the block dirty
abbrev pub StoreMeanwhileStaysDirty : Type 0
StoreMeanwhileStaysDirty = states_replayed 4 0 (state (Unwritten 7) false) (stored ∷ lent ∷ stored ∷ back false ∷ []) ≡ cached (Mapped 7) true

-- a wipe leaves a hole that reads as zeros, and no other block changes
abbrev pub WipeLeavesAHole : Type 0
WipeLeavesAHole =
    (replayed 4 0 (1 ∷ 2 ∷ 3 ∷ 4 ∷ []) (wiped ∷ []) ≡ 0 ∷ 0 ∷ 0 ∷ 0 ∷ []) × (states_replayed 4 0 (cached (Mapped 7) true) (wiped ∷ []) ≡ state Hole false)
    × (replayed 4 1 (1 ∷ 2 ∷ 3 ∷ 4 ∷ []) (wiped ∷ []) ≡ 1 ∷ 2 ∷ 3 ∷ 4 ∷ []) × (states_replayed 4 1 (cached (Mapped 7) true) (wiped ∷ []) ≡ cached (Mapped 7) true)

abbrev stamp : ℕ → Mark → ℕ × Stamp
stamp b mark = (b, record { caller = 3; call = 9; mark = mark })

-- a store that meets two blocks stamps both
abbrev pub StoreStampsEachBlock : Type 0
StoreStampsEachBlock = stamps_in 4 (entry (Store tag seen 3 5 (65 ∷ 66 ∷ [])) Finished ∷ []) ≡ stamp 0 DoneMark ∷ stamp 1 DoneMark ∷ []

-- two pages of a caller's own come back from a transfer that failed after the first
abbrev returned : Op → Kind → Entry
returned op kind = entry (DirectBack tag op 0 0 kind ((1 ∷ 2 ∷ 3 ∷ 4 ∷ []) ∷ (5 ∷ 6 ∷ 7 ∷ 8 ∷ []) ∷ []) (done 2 1 true)) Finished

abbrev sent : Kind → Entry
sent kind = returned Write kind

-- a direct write that failed after one of two blocks has landed on the first where they are mapped, and has changed its content alone
abbrev pub FailedWriteLandsAPrefix : Type 0
FailedWriteLandsAPrefix =
    (stamps_in 4 (sent (Mapped 7) ∷ []) ≡ stamp 0 Landed ∷ stamp 1 Missed ∷ []) × (replayed 4 0 (0 ∷ 0 ∷ 0 ∷ 0 ∷ []) (sent (Mapped 7) ∷ []) ≡ 1 ∷ 2 ∷ 3 ∷ 4 ∷ [])
    × (replayed 4 1 (0 ∷ 0 ∷ 0 ∷ 0 ∷ []) (sent (Mapped 7) ∷ []) ≡ 0 ∷ 0 ∷ 0 ∷ 0 ∷ [])

-- where they were never written, it has missed both, and they stay as they were
abbrev pub FailedWriteLeavesUnwritten : Type 0
FailedWriteLeavesUnwritten =
    (stamps_in 4 (sent (Unwritten 7) ∷ []) ≡ stamp 0 Missed ∷ stamp 1 Missed ∷ []) × (replayed 4 0 (0 ∷ 0 ∷ 0 ∷ 0 ∷ []) (sent (Unwritten 7) ∷ []) ≡ 0 ∷ 0 ∷ 0 ∷ 0 ∷ [])
    × (states_replayed 4 0 (state (Unwritten 7) false) (sent (Unwritten 7) ∷ []) ≡ state (Unwritten 7) false)

-- a direct read that failed has missed both blocks, and changes nothing
abbrev pub FailedReadMisses : Type 0
FailedReadMisses =
    (stamps_in 4 (returned Read (Mapped 7) ∷ []) ≡ stamp 0 Missed ∷ stamp 1 Missed ∷ []) × (replayed 4 0 (9 ∷ 9 ∷ 9 ∷ 9 ∷ []) (returned Read (Mapped 7) ∷ []) ≡ 9 ∷ 9 ∷ 9 ∷ 9 ∷ [])
    × (states_replayed 4 0 (state (Mapped 7) false) (returned Read (Mapped 7) ∷ []) ≡ state (Mapped 7) false)

-- two bytes go straight to block 0, from the second one on; it was a hole and took the sector 9
abbrev put : Entry
put = entry (DaxPut tag (record { cookie = 0; errors = 0; extent = record { block = 0; length = 4; kind = Hole } }) 1 3 (65 ∷ 66 ∷ [])) (Took ((0, 9) ∷ []))

-- it is mapped then, has zeros around these bytes, and is stamped
abbrev pub PutLeavesZerosAround : Type 0
PutLeavesZerosAround =
    (replayed 4 0 (0 ∷ 0 ∷ 0 ∷ 0 ∷ []) (put ∷ []) ≡ 0 ∷ 65 ∷ 66 ∷ 0 ∷ []) × (states_replayed 4 0 (state Hole false) (put ∷ []) ≡ state (Mapped 9) false)
    × (stamps_in 4 (put ∷ []) ≡ stamp 0 DoneMark ∷ [])
