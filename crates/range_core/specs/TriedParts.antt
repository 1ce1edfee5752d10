-- Writes of a part of a block, tried on block 0, of four bytes: its second and third byte are written.
use Rattle.std.specs.Prelude.{◌≡◌, ℕ, Bool, true, false, Some, None, List, [], ◌∷◌, if◌then◌else◌}
use Rattle.fault_device.specs.declared.lane.Done.{Done}
use Rattle.iob_base.specs.declared.stamp.Mark.{Mark}
use Rattle.iob_base.specs.declared.stamp.Mark.TheVariants.{Done as DoneMark, Missed}
use Rattle.iob_base.specs.declared.stamp.Op.TheVariants.{Write}
use Rattle.iob_base.specs.declared.stamp.Stamp.{Stamp}
use Rattle.iob_base.specs.declared.stamp.Tag.{Tag}
use Rattle.io_model.specs.declared.file.Kind.{Kind}
use Rattle.io_model.specs.declared.file.Kind.TheVariants.{Unwritten, Mapped}
use Rattle.range_core.specs.BlockContents.{replayed}
use Rattle.range_core.specs.BlockStates.{BlockState, states_replayed}
use Rattle.range_core.specs.EntryStamps.{stamps_in}
use Rattle.range_core.specs.Happened.{lawful_from}
use Rattle.range_core.specs.declared.entry.Entry.{Entry}
use Rattle.range_core.specs.declared.entry.Event.{Event}
use Rattle.range_core.specs.declared.entry.Event.TheVariants.{LendRead, FillBack, Store, LendPart, DirectBack, PartBack}
use Rattle.range_core.specs.declared.entry.Outcome.{Outcome}
use Rattle.range_core.specs.declared.entry.Outcome.TheVariants.{Lending, Finished}
use Rattle.range_core.specs.declared.lending.Lender.TheVariants.{Part as InPart}
use Rattle.range_core.specs.declared.sample.Sample.{Sample}

abbrev tag : Tag
tag = record { caller = 3; call = 9 }

abbrev seen : Kind → Sample
seen kind = record { cookie = 0; errors = 0; extent = record { block = 0; length = 1; kind = kind } }

abbrev entry : Event → Outcome → Entry
entry event outcome = record { caller = 3; event = event; outcome = outcome }

abbrev done : Bool → Done
done failed = record { lane = 3; blocks = 1; landed = if failed then 0 else 1; failed = failed; before = 0; after = if failed then 1 else 0 }

abbrev state : Kind → Bool → Bool → BlockState
state kind dirty uptodate = record { kind = kind; dirty = dirty; away = None; uptodate = uptodate }

abbrev lent : Kind → Entry
lent kind = entry (LendPart tag (seen kind) 0 1 3) (Lending 5 1)

-- the write of a part, up to some place, comes back on a ticket
abbrev back : ℕ → ℕ → Kind → Bool → Entry
back ticket to kind failed = entry (PartBack tag ticket 0 kind 1 to (65 ∷ 66 ∷ []) (done failed)) Finished

abbrev wrote : Kind → Entry
wrote kind = back 5 3 kind false

abbrev failed : Kind → Entry
failed kind = back 5 3 kind true

abbrev stamp : Mark → ℕ × Stamp
stamp mark = (0, record { caller = 3; call = 9; mark = mark })

-- the write changes the part alone, is stamped, and changes no other block
abbrev pub PartWriteKeepsAround : Type 0
PartWriteKeepsAround =
    (replayed 4 0 (1 ∷ 2 ∷ 3 ∷ 4 ∷ []) (lent (Mapped 7) ∷ wrote (Mapped 7) ∷ []) ≡ 1 ∷ 65 ∷ 66 ∷ 4 ∷ []) × (stamps_in 4 (lent (Mapped 7) ∷ wrote (Mapped 7) ∷ []) ≡ stamp DoneMark ∷ [])
    × (replayed 4 1 (1 ∷ 2 ∷ 3 ∷ 4 ∷ []) (lent (Mapped 7) ∷ wrote (Mapped 7) ∷ []) ≡ 1 ∷ 2 ∷ 3 ∷ 4 ∷ []) × (states_replayed 4 0 (state (Mapped 7) false true) (lent (Mapped 7) ∷ wrote (Mapped 7) ∷ []) ≡ state (Mapped 7) false false)

-- of a block that was never written it leaves zeros around the part, and maps the block
abbrev pub PartWriteMaps : Type 0
PartWriteMaps =
    (replayed 4 0 (0 ∷ 0 ∷ 0 ∷ 0 ∷ []) (lent (Unwritten 7) ∷ wrote (Unwritten 7) ∷ []) ≡ 0 ∷ 65 ∷ 66 ∷ 0 ∷ [])
    × (states_replayed 4 0 (state (Unwritten 7) false false) (lent (Unwritten 7) ∷ wrote (Unwritten 7) ∷ []) ≡ state (Mapped 7) false false)

-- one that failed has missed its block, which stays as it was
abbrev pub FailedPartWriteMisses : Type 0
FailedPartWriteMisses =
    (replayed 4 0 (1 ∷ 2 ∷ 3 ∷ 4 ∷ []) (lent (Mapped 7) ∷ failed (Mapped 7) ∷ []) ≡ 1 ∷ 2 ∷ 3 ∷ 4 ∷ []) × (stamps_in 4 (failed (Mapped 7) ∷ []) ≡ stamp Missed ∷ []) × (stamps_in 4 (failed (Unwritten 7) ∷ []) ≡ stamp Missed ∷ [])
    × (states_replayed 4 0 (state (Unwritten 7) false false) (lent (Unwritten 7) ∷ failed (Unwritten 7) ∷ []) ≡ state (Unwritten 7) false false)

-- while it is out, the block is away to this part and has no page
abbrev pub LentPartIsAway : Type 0
LentPartIsAway =
    states_replayed 4 0 (state (Mapped 7) false true) (lent (Mapped 7) ∷ []) ≡ record (state (Mapped 7) false false) { away = Some (record { ticket = 5; lender = InPart tag 1 3 }) }

abbrev lawful : BlockState → List Entry → Bool
lawful s history = lawful_from 4 0 s history

abbrev cold : BlockState
cold = state (Mapped 9) false false

abbrev unwritten : BlockState
unwritten = state (Unwritten 9) false false

abbrev read : List Entry
read = entry (LendRead 0 1) (Lending 4 1) ∷ entry (FillBack 4 0 1 (done false)) Finished ∷ lent (Mapped 9) ∷ wrote (Mapped 9) ∷ []

-- a part is written of a block that was never written, and of a mapped one that was read before
abbrev pub PartsCanBeWritten : Type 0
PartsCanBeWritten = (lawful unwritten (lent (Unwritten 9) ∷ wrote (Unwritten 9) ∷ []) ≡ true) × (lawful cold read ≡ true)

-- no part is lent of a dirty block, of one that has to be read first, or of one that is away
abbrev pub PartsNeedTheirBlock : Type 0
PartsNeedTheirBlock =
    (lawful unwritten (lent (Unwritten 9) ∷ wrote (Unwritten 9) ∷ lent (Mapped 9) ∷ []) ≡ false) × (lawful (state (Mapped 9) true true) (lent (Mapped 9) ∷ []) ≡ false) × (lawful cold (lent (Mapped 9) ∷ []) ≡ false) × (lawful unwritten (lent (Unwritten 9) ∷ lent (Unwritten 9) ∷ []) ≡ false)
    × (lawful unwritten (lent (Unwritten 9) ∷ entry (Store tag (seen (Unwritten 9)) 0 4 (1 ∷ 2 ∷ 3 ∷ 4 ∷ [])) Finished ∷ []) ≡ false)

-- what was lent in part comes back once, on its ticket, as that part, of the kind that it was
abbrev pub OnlyThatPartComesBack : Type 0
OnlyThatPartComesBack =
    (lawful unwritten (lent (Unwritten 9) ∷ back 6 3 (Unwritten 9) false ∷ []) ≡ false) × (lawful unwritten (lent (Unwritten 9) ∷ back 5 4 (Unwritten 9) false ∷ []) ≡ false)
    × (lawful unwritten (lent (Unwritten 9) ∷ wrote (Mapped 9) ∷ []) ≡ false) × (lawful unwritten (wrote (Unwritten 9) ∷ []) ≡ false)
    × (lawful unwritten (lent (Unwritten 9) ∷ entry (DirectBack tag Write 5 0 (Unwritten 9) ((0 ∷ 65 ∷ 66 ∷ 0 ∷ []) ∷ []) (done false)) Finished ∷ []) ≡ false)
