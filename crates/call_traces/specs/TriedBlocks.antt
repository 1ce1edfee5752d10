-- The work of calls at block 0 of a file, tried: a write of the block, a punch of it, and an allocation that meets it.
use Rattle.std.specs.Prelude.{◌≡◌, ℕ, Bool, true, false, List, [], ◌∷◌}
use Rattle.iob_base.specs.declared.stamp.Tag.{Tag}
use Rattle.io_model.specs.Parts.{span}
use Rattle.io_model.specs.Ranges.{Ranged, ranged}
use Rattle.io_model.specs.declared.file.Kind.TheVariants.{Delalloc, Unwritten}
use Rattle.io_model.specs.declared.script.Verb.{Verb}
use Rattle.io_model.specs.declared.script.Verb.TheVariants.{Alloc, Punch, Pwrite}
use Rattle.range_core.specs.declared.entry.Entry.{Entry}
use Rattle.range_core.specs.declared.entry.Event.{Event}
use Rattle.range_core.specs.declared.entry.Event.TheVariants.{Attach, DaxPut, Preallocate, Store, Wipe, WrittenBack}
use Rattle.range_core.specs.declared.entry.Outcome.{Outcome}
use Rattle.range_core.specs.declared.entry.Outcome.TheVariants.{Counted, Finished, Took}
use Rattle.range_core.specs.declared.sample.Sample.{Sample}
use Rattle.call_traces.specs.BlockCalls.{is_of_calls, strays, writebacks}

abbrev call : Verb → Ranged
call verb = ranged (record { phase = 1; caller = 3; file = record { 0 = 0 }; first_page = 0; verb = verb }) (span 0 4)

-- calls 1 to 3 are a write, a punch and an allocation of the four bytes of block 0
abbrev calls : List Ranged
calls = call (Pwrite 0 ((1 ∷ 2 ∷ 3 ∷ 4 ∷ []) ∷ [])) ∷ call (Punch 0 4) ∷ call (Alloc 0 4) ∷ []

abbrev seen : Sample
seen = record { cookie = 0; errors = 0; extent = record { block = 0; length = 1; kind = Delalloc } }

abbrev entry : Event → Outcome → Entry
entry event outcome = record { caller = 3; event = event; outcome = outcome }

abbrev by : ℕ → Tag
by n = record { caller = 3; call = n }

abbrev stored : ℕ → Entry
stored n = entry (Store (by n) seen 0 4 (1 ∷ 2 ∷ 3 ∷ 4 ∷ [])) Finished

abbrev put : ℕ → Entry
put n = entry (DaxPut (by n) seen 0 4 (1 ∷ 2 ∷ 3 ∷ 4 ∷ [])) (Took ((0, 9) ∷ []))

abbrev wiped : ℕ → Entry
wiped n = entry (Wipe (by n) 0 1) (Counted 1)

abbrev allocated : Entry
allocated = entry (Preallocate 0 1) (Took ((0, 9) ∷ []))

abbrev attached : Entry
attached = entry (Attach 0 1) (Took ((0, 9) ∷ []))

abbrev back : Bool → Entry
back failed = entry (WrittenBack 7 0 (Unwritten 9) 1 (record { lane = 3; blocks = 1; landed = 0; failed = failed; before = 0; after = 1 })) (Counted 1)

abbrev is_work : Entry → Bool
is_work e = is_of_calls 4 0 0 calls e

-- a store is the work of the write, a wipe that of the punch, and an allocation that of the call that asked for it, as is what leaves no stamp and gives no space
abbrev pub CallsWork : Type 0
CallsWork = (is_work (stored 1) ≡ true) × (is_work (wiped 2) ≡ true) × (is_work allocated ≡ true) × (is_work attached ≡ true) × (is_work (back false) ≡ true)

-- but no store is a punch's, no wipe a write's, and bytes that went past the cache are not those of a write that goes by way of it
abbrev pub OthersStray : Type 0
OthersStray = (strays 4 0 0 calls (stored 2) ≡ 1) × (strays 4 0 0 calls (wiped 1) ≡ 1) × (strays 4 0 0 calls (put 1) ≡ 1)

-- an allocation of another file gives no space
abbrev pub OtherFilesGiveNone : Type 0
OtherFilesGiveNone = is_of_calls 4 1 0 calls allocated ≡ false

-- a writeback that failed is none that wrote
abbrev pub FailedWritesNothing : Type 0
FailedWritesNothing = (writebacks (back true) ≡ 0) × (writebacks (back false) ≡ 1)
