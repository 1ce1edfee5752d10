-- What a turn of a pass does to the pages and sectors of blocks whose bytes go through the page cache.
use Rattle.std.specs.Prelude.{◌≡◌, ℕ, ◌-◌, ◌/◌, None, List, Result, IfErr, IfOk, OnErr, OnOk, unwrap_or}
use Rattle.iob_base.specs.declared.stamp.Tag.{Tag}
use Rattle.iov_iter.specs.IovView.{IovView, written_on}
use Rattle.space_pool.specs.Pool.{PoolView}
use Rattle.range_core.specs.Attaches.{Attaches, pairs_taken}
use Rattle.range_core.specs.Fetches.{after_fetch, replayed_run}
use Rattle.range_core.specs.Outcomes.{finished}
use Rattle.range_core.specs.Placing.{awaits_sector}
use Rattle.range_core.specs.RangeView.{RangeView}
use Rattle.range_core.specs.Refusals.{attach_refusal, fetch_refusal, store_refusal, wipe_refusal}
use Rattle.range_core.specs.Stores.{after_store, next_bytes, past}
use Rattle.range_core.specs.Wipes.{RefusesWipe, Wipes, wipe_outcome}
use Rattle.range_core.specs.declared.entry.Entry.{Entry}
use Rattle.range_core.specs.declared.entry.Event.{Event}
use Rattle.range_core.specs.declared.entry.Event.TheVariants.{Attach, Fetch, Store, Wipe}
use Rattle.range_core.specs.declared.entry.Outcome.{Outcome}
use Rattle.range_core.specs.declared.entry.Outcome.TheVariants.{Refused, Took}
use Rattle.range_core.specs.declared.fault.EventFault.{EventFault}
use Rattle.range_core.specs.declared.fault.EventFault.TheVariants.{NoMemory}
use Rattle.range_core.specs.declared.range.drop_clean.DropCleanRun.{DropCleanRun}
use Rattle.range_core.specs.declared.range.store_zeros.StoreZerosRun.{StoreZerosRun}
use Rattle.range_core.specs.declared.sample.Sample.{Sample}
use Rattle.mount_parts.specs.MountView.{MountView}

-- the entry of a caller of this number
abbrev pub entry_by : ℕ → Event → Outcome → Entry
entry_by caller event outcome = record { caller = caller; event = event; outcome = outcome }

-- The turn copied bytes to an iov as the history leaves them, gave pages of zeros and left its stamps, or it was refused and changed nothing
pub record FetchedTo (by : Tag) (from to : ℕ) (iov later : IovView) (opening : RangeView) (history : List Entry) (before after : RangeView) (caller : ℕ) (answer : Result (Unit {0}) EventFault) (entry : Entry) : Type 0 where
  pub refused : IfErr answer (λ e. e ≡ unwrap_or (fetch_refusal before from to) NoMemory)
  pub made : OnOk answer (fetch_refusal before from to ≡ None)
  pub unchanged : OnErr answer (after ≡ before)
  pub nothing : OnErr answer (later ≡ iov)
  pub state : OnOk answer (after ≡ after_fetch before by from to)
  pub bytes : OnOk answer (later ≡ written_on (replayed_run opening history from to) iov)
  pub entry_is : entry ≡ entry_by caller (Fetch by from to) (finished answer)

-- The turn laid an iov's next bytes over the blocks met, made them dirty and left its stamps, or it was refused and changed nothing
pub record StoredFrom (by : Tag) (seen : Sample) (from to : ℕ) (iov later : IovView) (before after : RangeView) (caller : ℕ) (answer : Result (Unit {0}) EventFault) (entry : Entry) : Type 0 where
  pub refused : IfErr answer (λ e. e ≡ unwrap_or (store_refusal before seen from to) NoMemory)
  pub made : OnOk answer (store_refusal before seen from to ≡ None)
  pub unchanged : OnErr answer (after ≡ before)
  pub nothing : OnErr answer (later ≡ iov)
  pub state : OnOk answer (after ≡ after_store before by from to (next_bytes iov (to - from)))
  pub moved : OnOk answer (later ≡ past iov (to - from))
  pub entry_is : entry ≡ entry_by caller (Store by seen from to (next_bytes iov (to - from))) (finished answer)

-- the change that lays zeros over the bytes from one place up to another
abbrev pub zeros_run : Tag → Sample → ℕ → ℕ → StoreZerosRun
zeros_run by seen from to = record { by = by; seen = seen; from = from; to = to }

-- the change that drops the clean pages of a run
abbrev pub drop_run : ℕ → ℕ → DropCleanRun
drop_run b n = record { block = b; blocks = n }

-- Dirty blocks of the run took the sectors that were promised to them, and the entry tells which
pub record AttachedAt (pool : PoolView) (b n : ℕ) (before after : RangeView) (caller : ℕ) (entry : Entry) (taken : ℕ) : Type 0 where
  pub made : attach_refusal before b n ≡ None
  pub attached : Attaches pool before b n after taken
  pub entry_is : entry ≡ entry_by caller (Attach b n) (Took (pairs_taken awaits_sector before b n attached.sectors))

-- No block took a sector, and nothing changed
pub record LeftUnattached (b n : ℕ) (before after : RangeView) (caller : ℕ) (entry : Entry) (fault : EventFault) : Type 0 where
  pub refused : fault ≡ unwrap_or (attach_refusal before b n) NoMemory
  pub unchanged : after ≡ before
  pub entry_is : entry ≡ entry_by caller (Attach b n) (Refused fault)

-- The turn attached the run's dirty blocks at a pool that was opened so, or was refused
pub record AttachesAt (pool : PoolView) (b n : ℕ) (before after : RangeView) (caller : ℕ) (answer : Result ℕ EventFault) (entry : Entry) : Type 0 where
  pub ok : IfOk answer (AttachedAt pool b n before after caller entry)
  pub err : IfErr answer (LeftUnattached b n before after caller entry)

-- The turn made holes of the run's blocks, which gave back to a pool that was opened so what they had of it, or was refused
pub record WipesAt (pool : PoolView) (by : Tag) (b n : ℕ) (before after : RangeView) (caller : ℕ) (answer : Result ℕ EventFault) (entry : Entry) : Type 0 where
  pub made : OnOk answer (wipe_refusal before b n ≡ None)
  pub ok : IfOk answer (Wipes pool before by b n after)
  pub err : IfErr answer (RefusesWipe before b n after)
  pub entry_is : entry ≡ entry_by caller (Wipe by b n) (wipe_outcome answer)
