-- Histories of block 0, tried: which can have happened.
use Rattle.std.specs.Prelude.{◌≡◌, ℕ, Bool, true, false, None, List, [], ◌∷◌, if◌then◌else◌}
use Rattle.fault_device.specs.declared.lane.Done.{Done}
use Rattle.iob_base.specs.declared.stamp.Op.TheVariants.{Read}
use Rattle.iob_base.specs.declared.stamp.Tag.{Tag}
use Rattle.io_model.specs.declared.file.Kind.{Kind}
use Rattle.io_model.specs.declared.file.Kind.TheVariants.{Hole, Delalloc, Unwritten, Mapped}
use Rattle.range_core.specs.BlockStates.{BlockState}
use Rattle.range_core.specs.Happened.{lawful_from}
use Rattle.range_core.specs.declared.entry.Entry.{Entry}
use Rattle.range_core.specs.declared.entry.Event.{Event}
use Rattle.range_core.specs.declared.entry.Event.TheVariants.{Reserve, Attach, Preallocate, LendRead, FillBack, Store, LendWriteback, WrittenBack, LendDirect, Wipe, DaxPut}
use Rattle.range_core.specs.declared.entry.Outcome.{Outcome}
use Rattle.range_core.specs.declared.entry.Outcome.TheVariants.{Refused, Sampled, Counted, Took, Lending, Finished}
use Rattle.range_core.specs.declared.fault.EventFault.TheVariants.{NoMemory}
use Rattle.range_core.specs.declared.sample.Sample.{Sample}

abbrev tag : Tag
tag = record { caller = 3; call = 9 }

abbrev seen : Kind → Sample
seen kind = record { cookie = 0; errors = 0; extent = record { block = 0; length = 1; kind = kind } }

abbrev entry : Event → Outcome → Entry
entry event outcome = record { caller = 3; event = event; outcome = outcome }

abbrev done : Bool → Done
done failed = record { lane = 3; blocks = 1; landed = if failed then 0 else 1; failed = failed; before = 0; after = if failed then 1 else 0 }

abbrev state : Kind → Bool → BlockState
state kind dirty = record { kind = kind; dirty = dirty; away = None; uptodate = dirty }

abbrev reserved : Entry
reserved = entry (Reserve (seen Hole) 1) (Sampled (seen Delalloc))

abbrev attached : Entry
attached = entry (Attach 0 1) (Took ((0, 9) ∷ []))

-- a sector is taken, or none is
abbrev preallocated : List (ℕ × ℕ) → Entry
preallocated sectors = entry (Preallocate 0 1) (Took sectors)

abbrev stored : Entry
stored = entry (Store tag (seen Delalloc) 0 4 (1 ∷ 2 ∷ 3 ∷ 4 ∷ [])) Finished

abbrev lent : Entry
lent = entry (LendWriteback 0 1) (Lending 5 1)

-- what was lent on a ticket comes back from its write, whole
abbrev written : ℕ → Entry
written ticket = entry (WrittenBack ticket 0 (Unwritten 9) 1 (done false)) (Counted 1)

abbrev lent_cold : Entry
lent_cold = entry (LendRead 0 1) (Lending 5 1)

abbrev read : Entry
read = entry (FillBack 5 0 1 (done false)) Finished

abbrev lent_directly : Entry
lent_directly = entry (LendDirect tag (seen (Mapped 9)) Read 0 1) (Lending 5 1)

abbrev wiped : Entry
wiped = entry (Wipe tag 0 1) (Counted 1)

abbrev put : List (ℕ × ℕ) → Entry
put sectors = entry (DaxPut tag (seen Hole) 0 4 (1 ∷ 2 ∷ 3 ∷ 4 ∷ [])) (Took sectors)

abbrev lawful : Kind → Bool → List Entry → Bool
lawful kind dirty history = lawful_from 4 0 (state kind dirty) history

-- a block goes from a hole to a mapped block by a promise, bytes, a sector, a loan and its return, and back to a hole by a wipe
abbrev pub WriteCanHappen : Type 0
WriteCanHappen = (lawful Hole false (reserved ∷ stored ∷ attached ∷ lent ∷ written 5 ∷ wiped ∷ []) ≡ true) × (lawful Hole false (preallocated ((0, 9) ∷ []) ∷ stored ∷ lent ∷ stored ∷ written 5 ∷ []) ≡ true)

-- a mapped block is read into the cache, and bytes go straight to a hole that takes a sector
abbrev pub ReadCanHappen : Type 0
ReadCanHappen = (lawful (Mapped 9) false (lent_cold ∷ read ∷ stored ∷ lent ∷ []) ≡ true) × (lawful Hole false (put ((0, 9) ∷ []) ∷ put [] ∷ []) ≡ true)

-- what was never lent, or came back already, or was lent on another ticket or to another lender, does not come back
abbrev pub OnlyLentComesBack : Type 0
OnlyLentComesBack =
    (lawful (Mapped 7) false (wiped ∷ preallocated ((0, 9) ∷ []) ∷ written 5 ∷ []) ≡ false) × (lawful (Unwritten 9) true (lent ∷ written 5 ∷ written 5 ∷ []) ≡ false) × (lawful (Unwritten 9) true (lent ∷ written 6 ∷ []) ≡ false)
    × (lawful (Unwritten 9) true (lent ∷ read ∷ []) ≡ false) × (lawful (Unwritten 8) true (lent ∷ written 5 ∷ []) ≡ false)

-- nothing that is away is wiped or lent
abbrev pub NothingAwayIsMet : Type 0
NothingAwayIsMet =
    (lawful (Unwritten 9) true (lent ∷ wiped ∷ []) ≡ false) × (lawful (Mapped 9) false (lent_cold ∷ lent_cold ∷ []) ≡ false) × (lawful (Mapped 9) false (lent_cold ∷ stored ∷ []) ≡ false)
    × (lawful (Mapped 9) false (lent_cold ∷ lent_directly ∷ []) ≡ false)

-- a sector is taken where there is none, and nowhere else; space is promised to holes
abbrev pub SectorsAreTakenOnce : Type 0
SectorsAreTakenOnce =
    (lawful (Mapped 7) false (preallocated ((0, 9) ∷ []) ∷ []) ≡ false) × (lawful Hole false (preallocated [] ∷ []) ≡ false) × (lawful Delalloc false (attached ∷ []) ≡ false) × (lawful (Mapped 7) false (put ((0, 9) ∷ []) ∷ []) ≡ false)
    × (lawful Hole false (put [] ∷ []) ≡ false) × (lawful (Mapped 7) false (reserved ∷ []) ≡ false)

-- no bytes are stored in a hole, nothing clean is written back, and nothing dirty is read directly
abbrev pub StatesHinder : Type 0
StatesHinder = (lawful Hole false (stored ∷ []) ≡ false) × (lawful (Mapped 9) false (lent ∷ []) ≡ false) × (lawful Delalloc true (lent ∷ []) ≡ false) × (lawful (Mapped 9) true (lent_directly ∷ []) ≡ false)

-- a refused event says nothing, and no event comes to what another comes to
abbrev pub RefusalsSayNothing : Type 0
RefusalsSayNothing = (lawful Hole false (entry (Store tag (seen Hole) 0 4 []) (Refused NoMemory) ∷ []) ≡ true) × (lawful Hole false (entry (Wipe tag 0 1) Finished ∷ []) ≡ false)
