-- What turns at the extents and the space of blocks ask and do, where the pool is that of the mount.
use Rattle.std.specs.Prelude.{◌≡◌, ℕ, List, None, Result, Err, IfOk, IfErr}
use Rattle.space_pool.specs.Pool.{PoolView}
use Rattle.range_core.specs.Attaches.{IsRefusedFor, Preallocates, holes_in, pairs_taken}
use Rattle.range_core.specs.ClaimsView.{ClaimsView}
use Rattle.range_core.specs.KnownSamples.{WasGiven}
use Rattle.range_core.specs.Placing.{count_in, is_unused, lacks_sector}
use Rattle.range_core.specs.PoolTurns.{LeavesAlone, ReservesAt, TurnsFor, UnreservesAt, place_of}
use Rattle.range_core.specs.RangeView.{RangeView}
use Rattle.range_core.specs.Refusals.{preallocate_refusal}
use Rattle.range_core.specs.Reserves.{AsksHoles, RefusesReserve, Reserves, reserve_outcome, unreserved_run}
use Rattle.range_core.specs.Samples.{SampleLies}
use Rattle.range_core.specs.declared.entry.Entry.{Entry}
use Rattle.range_core.specs.declared.entry.Event.TheVariants.{Preallocate, Reserve, Unreserve}
use Rattle.range_core.specs.declared.entry.Outcome.TheVariants.{Counted, Refused, Took}
use Rattle.range_core.specs.declared.fault.EventFault.{EventFault}
use Rattle.range_core.specs.declared.range.sample.SampleRun.{SampleRun}
use Rattle.range_core.specs.declared.sample.Sample.{Sample}

-- a look at the extent from a block on, of at most so many blocks
abbrev pub sample_run : ℕ → ℕ → SampleRun
sample_run block most = record { block = block; most = most }

-- Space may be promised to the first n blocks of a sample: they are a hole, and the pass was given the sample
pub record MayReserve (seen : Sample) (n : ℕ) (opening : RangeView) (entries : List Entry) : Type 0 where
  pub holes : AsksHoles opening seen n
  pub given : WasGiven seen entries

-- The turn promised space to holes, or was refused
pub record Reserved (pool : PoolView) (seen : Sample) (n : ℕ) (claims : ClaimsView) (answer : Result Sample EventFault) (opening before after : RangeView) (entry : Entry) : Type 0 where
  pub ok : IfOk answer (Reserves pool before seen n after)
  pub err : IfErr answer (RefusesReserve pool before seen n after)
  pub entry_is : entry ≡ record { caller = claims.caller; event = Reserve seen n; outcome = reserve_outcome answer }
  pub lies : IfOk answer (SampleLies opening)

-- The turn took promises back, and answered how many
pub record Unreserved (pool : PoolView) (b n : ℕ) (claims : ClaimsView) (count : ℕ) (before after : RangeView) (entry : Entry) : Type 0 where
  pub count_is : count ≡ count_in is_unused before b n
  pub state : after ≡ unreserved_run before b n after.seat
  pub pool_turn : TurnsFor count (UnreservesAt pool count) (place_of before) (place_of after)
  pub entry_is : entry ≡ record { caller = claims.caller; event = Unreserve b n; outcome = Counted count }

-- The turn gave sectors to the blocks of a run that had none
pub record GaveSectors (pool : PoolView) (b n : ℕ) (claims : ClaimsView) (before after : RangeView) (entry : Entry) (taken : ℕ) : Type 0 where
  pub made : preallocate_refusal before b n ≡ None
  pub placed : Preallocates pool before b n after taken
  pub entry_is : entry ≡ record { caller = claims.caller; event = Preallocate b n; outcome = Took (pairs_taken lacks_sector before b n placed.sectors) }

-- The turn gave none, and no block changed
pub record GaveNone (pool : PoolView) (b n : ℕ) (claims : ClaimsView) (before after : RangeView) (entry : Entry) (fault : EventFault) : Type 0 where
  pub refused : IsRefusedFor (holes_in before b n) (preallocate_refusal before b n) fault
  pub left : LeavesAlone (λ none. ReservesAt pool (holes_in before b n) (Err none)) fault before after
  pub entry_is : entry ≡ record { caller = claims.caller; event = Preallocate b n; outcome = Refused fault }

-- The turn gave sectors to all blocks of a run, or was refused
pub record Preallocated (pool : PoolView) (b n : ℕ) (claims : ClaimsView) (answer : Result ℕ EventFault) (before after : RangeView) (entry : Entry) : Type 0 where
  pub ok : IfOk answer (GaveSectors pool b n claims before after entry)
  pub err : IfErr answer (GaveNone pool b n claims before after entry)
