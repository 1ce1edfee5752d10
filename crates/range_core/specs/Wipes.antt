-- What a turn that makes holes of blocks does.
use Rattle.std.specs.Prelude.{◌≡◌, ℕ, ◌+◌, false, nat_lt, None, List, ◌++◌, Result, Ok, Err, IfOk, IfErr, unwrap_or}
use Rattle.std.specs.List.{filter_map}
use Rattle.iob_base.specs.DeviceBlock.{DeviceBlock}
use Rattle.iob_base.specs.declared.stamp.Tag.{Tag}
use Rattle.io_model.specs.declared.file.Kind.TheVariants.{Hole}
use Rattle.space_pool.specs.Claims.{with_fewer, with_given}
use Rattle.space_pool.specs.Pool.{PoolView}
use Rattle.space_pool.specs.Seats.{pool_cell}
use Rattle.space_pool.specs.declared.entry.PoolEntry.{PoolEntry}
use Rattle.turn_cell.specs.Views.{SeatView}
use Rattle.range_core.specs.ClaimsView.{ClaimsView}
use Rattle.range_core.specs.EntryCounts.{one_where}
use Rattle.range_core.specs.OnRun.{with_run}
use Rattle.range_core.specs.Placing.{count_in, is_promised, is_used}
use Rattle.range_core.specs.PoolTurns.{GivesBack, place_of}
use Rattle.range_core.specs.RangeView.{LiesAt, RangeView}
use Rattle.range_core.specs.Refusals.{run_of, wipe_refusal}
use Rattle.range_core.specs.Stamps.{done_by, stamps_from}
use Rattle.range_core.specs.declared.cell.Cell.{Cell}
use Rattle.range_core.specs.declared.entry.Entry.{Entry}
use Rattle.range_core.specs.declared.entry.Event.TheVariants.{Wipe}
use Rattle.range_core.specs.declared.entry.Outcome.{Outcome}
use Rattle.range_core.specs.declared.entry.Outcome.TheVariants.{Counted, Refused}
use Rattle.range_core.specs.declared.fault.EventFault.{EventFault}
use Rattle.range_core.specs.declared.fault.EventFault.TheVariants.{NoMemory}
use Rattle.range_core.specs.declared.range.wipe.WipeRun.{WipeRun}

-- a block that became a hole is clean, and has no page and no sector
abbrev pub wiped : Cell → Cell
wiped c = record c { kind = Hole; sector = None; page = None; dirty = false }

-- the sectors of these blocks, in order
abbrev pub sectors_of : List Cell → List DeviceBlock
sectors_of cells = filter_map (λ c. c.sector) cells

-- the sectors of a run
abbrev pub sectors_in : RangeView → ℕ → ℕ → List DeviceBlock
sectors_in r b n = sectors_of (run_of r b n)

-- how many kinds of a run change
abbrev pub used_in : RangeView → ℕ → ℕ → ℕ
used_in r b n = count_in is_used r b n

-- to how many blocks of a run space is promised
abbrev pub promised_in : RangeView → ℕ → ℕ → ℕ
promised_in r b n = count_in is_promised r b n

-- a run of blocks after all became holes and were stamped, where this is the seat at the pool then
abbrev pub wiped_run : RangeView → Tag → ℕ → ℕ → SeatView PoolEntry → RangeView
wiped_run r by b n seat =
    record (with_run wiped r b n) {
      log = r.log ++ stamps_from b n (done_by by);
      cookie = r.cookie + one_where (nat_lt 0 (used_in r b n));
      seat = seat;
      space = with_fewer (with_given r.space (sectors_in r b n)) (promised_in r b n);
    }

-- Each block of the run became a hole and has one more stamp, and what they had of the pool went back
pub record Wipes (opening : PoolView) (before : RangeView) (by : Tag) (b n : ℕ) (after : RangeView) (changed : ℕ) : Type 0 where
  pub count : changed ≡ used_in before b n
  pub state : after ≡ wiped_run before by b n after.seat
  pub pool : GivesBack opening (sectors_in before b n) (promised_in before b n) (place_of before) (place_of after)

-- a run of the range may be wiped, by turns at its pool
pub record CanWipe {R : Type 0} (run : WipeRun R) (opening : RangeView) : Type 0 where
  pub lies : LiesAt opening run.block run.blocks
  pub pool : opening.seat.cell ≡ (pool_cell run.space.now).cell

-- what a wipe came to
abbrev pub wipe_outcome : Result ℕ EventFault → Outcome
wipe_outcome (Ok changed) = Counted changed
wipe_outcome (Err fault) = Refused fault

-- The wipe was refused, and nothing changed
pub record RefusesWipe (before : RangeView) (b n : ℕ) (after : RangeView) (fault : EventFault) : Type 0 where
  pub refused : fault ≡ unwrap_or (wipe_refusal before b n) NoMemory
  pub unchanged : after ≡ before

-- The turn wiped blocks, or was refused
pub record WipeTurned {R : Type 0} (run later : WipeRun R) (before after : RangeView) (claims left : ClaimsView) (answer : Result ℕ EventFault) (entry : Entry) : Type 0 where
  pub change : later ≡ run
  pub claims_are : left ≡ claims
  pub made : IfOk answer (λ changed. wipe_refusal before run.block run.blocks ≡ None)
  pub ok : IfOk answer (Wipes (pool_cell run.space.now).opening before run.by run.block run.blocks after)
  pub err : IfErr answer (RefusesWipe before run.block run.blocks after)
  pub entry_is : entry ≡ record { caller = claims.caller; event = Wipe run.by run.block run.blocks; outcome = wipe_outcome answer }
