-- What the entries of a block's history have to do with the calls of a script.
use Rattle.std.specs.Prelude.{◌≡◌, ℕ, ◌<◌, Bool, true, false, ◌&&◌, ◌||◌, not, Some, List, [], length, All}
use Rattle.std.specs.List.{list_any}
use Rattle.iob_base.specs.declared.stamp.Op.TheVariants.{Write}
use Rattle.iob_base.specs.declared.stamp.Stamp.{Stamp}
use Rattle.io_model.specs.Calls.{is_pwrite, is_write}
use Rattle.io_model.specs.Conversion.{is_cached_write, is_done_write, is_wipe, wipes_whole}
use Rattle.io_model.specs.Lists.{numbered, same}
use Rattle.io_model.specs.Ranges.{Ranged}
use Rattle.io_model.specs.Space.{may_give_space}
use Rattle.turn_cell.specs.Stakes.{total}
use Rattle.range_core.specs.EntryCounts.{one_where}
use Rattle.range_core.specs.EntryStamps.{stamps_of}
use Rattle.range_core.specs.Lasting.{wipes, writes_to}
use Rattle.range_core.specs.Spots.{in_run, is_met}
use Rattle.range_core.specs.Stamps.{stamps_at}
use Rattle.range_core.specs.declared.entry.Entry.{Entry}
use Rattle.range_core.specs.declared.entry.Event.{Event}
use Rattle.range_core.specs.declared.entry.Event.TheVariants.{DaxPut, DirectBack, PartBack, Preallocate, WrittenBack}
use Rattle.range_core.specs.declared.entry.Outcome.{Outcome}
use Rattle.range_core.specs.declared.entry.Outcome.TheVariants.{Counted, Finished, Took}

-- all blocks of a run had space after the event, and block b is one of them
abbrev pub preallocates : ℕ → Event → Outcome → Bool
preallocates b (Preallocate block blocks) (Took sectors) = in_run block blocks b
preallocates b _ _ = false

-- block b is given space: by an allocation of its run, or by a call that writes to it
abbrev pub gives_space : ℕ → ℕ → Event → Outcome → Bool
gives_space size b (Preallocate block blocks) (Took sectors) = in_run block blocks b
gives_space size b event outcome = writes_to size b event outcome

-- bytes of block b reached its sector past the cache: a caller's own page or a part of it came back from a write that did not fail, or they went straight there
abbrev pub writes_past : ℕ → ℕ → Event → Outcome → Bool
writes_past size b (DirectBack by Write ticket block kind pages done) Finished = in_run block (length pages) b && not done.failed
writes_past size b (PartBack by ticket block kind from to bytes done) Finished = in_run block 1 b && not done.failed
writes_past size b (DaxPut by seen from to bytes) (Took sectors) = is_met size from to b
writes_past size b _ _ = false

-- a writeback came back
abbrev pub has_returned : Event → Outcome → Bool
has_returned (WrittenBack ticket block kind n done) (Counted m) = true
has_returned _ _ = false

abbrev pub returns : Entry → ℕ
returns e = one_where (has_returned e.event e.outcome)

-- a writeback that did not fail came back
abbrev pub has_written_back : Event → Outcome → Bool
has_written_back (WrittenBack ticket block kind n done) (Counted m) = not done.failed
has_written_back _ _ = false

abbrev pub writebacks : Entry → ℕ
writebacks e = one_where (has_written_back e.event e.outcome)

-- a stamp is that of a write that was done past the cache
abbrev pub is_done_past : List Ranged → Stamp → Bool
is_done_past calls st = is_done_write calls st && not (is_cached_write calls st)

-- What an entry did to block b of file f is the work of these calls: it left the stamp of a call that gives the block back whole exactly where it wiped it, that of a write where it wrote to it, and that of a write past the cache where the bytes went past it; and it gave space for an allocation or a write that meets the block
pub record IsOfCalls (size f b : ℕ) (calls : List Ranged) (e : Entry) : Type 0 where
  pub wiped : list_any (is_wipe size calls b) (stamps_at b (stamps_of size e)) ≡ wipes b e.event e.outcome
  pub written : writes_to size b e.event e.outcome ≡ true → list_any (is_done_write calls) (stamps_at b (stamps_of size e)) ≡ true
  pub past : writes_past size b e.event e.outcome ≡ true → list_any (is_done_past calls) (stamps_at b (stamps_of size e)) ≡ true
  pub given : gives_space size b e.event e.outcome ≡ true → list_any (may_give_space size f b) calls ≡ true

-- the same as a test
abbrev pub only_if : Bool → Bool → Bool
only_if so is = not so || is

abbrev pub is_of_calls : ℕ → ℕ → ℕ → List Ranged → Entry → Bool
is_of_calls size f b calls e =
    same (list_any (is_wipe size calls b) (stamps_at b (stamps_of size e))) (wipes b e.event e.outcome)
    && (only_if (writes_to size b e.event e.outcome) (list_any (is_done_write calls) (stamps_at b (stamps_of size e)))
    && (only_if (writes_past size b e.event e.outcome) (list_any (is_done_past calls) (stamps_at b (stamps_of size e)))
    && only_if (gives_space size b e.event e.outcome) (list_any (may_give_space size f b) calls)))

-- 1 for an entry that is not the work of these calls
abbrev pub strays : ℕ → ℕ → ℕ → List Ranged → Entry → ℕ
strays size f b calls e = one_where (not (is_of_calls size f b calls e))

-- A history in which no entry strays from calls is their work
abbrev pub NoneStrays : Type 0
NoneStrays = (size f b : ℕ) (calls : List Ranged) (history : List Entry) → total (strays size f b calls) history ≡ 0 → All (IsOfCalls size f b calls) history

-- What an entry did to block b of file f is the work of one call, which has number n: its stamps there are of that number; it wiped the block only where the call gives it back whole, and then it stamped the block by a wipe alone; it wrote to it only for a write, past the cache only for one past the cache, and gave it space only for an allocation or a write that meets it
pub record IsOfCall (size f b n : ℕ) (r : Ranged) (e : Entry) : Type 0 where
  pub stamps : All (λ st. st.call ≡ n) (stamps_at b (stamps_of size e))
  pub wipes_only : wipes b e.event e.outcome ≡ true → wipes_whole size b r ≡ true
  pub only_wipes : wipes_whole size b r ≡ true → wipes b e.event e.outcome ≡ false → stamps_at b (stamps_of size e) ≡ []
  pub writes : writes_to size b e.event e.outcome ≡ true → is_write r.call.verb ≡ true
  pub past : writes_past size b e.event e.outcome ≡ true → is_pwrite r.call.verb ≡ false
  pub space : gives_space size b e.event e.outcome ≡ true → may_give_space size f b r ≡ true

-- The entries of a call do not stray from calls of which it is one
abbrev pub OneCallsStrayNot : Type 0
OneCallsStrayNot = (size f b n : ℕ) (calls : List Ranged) (r : Ranged) (e : Entry) → 0 < size → numbered calls n ≡ Some r → IsOfCall size f b n r e → strays size f b calls e ≡ 0

-- nor does one that neither stamped the block, wiped it, nor gave it space
abbrev pub QuietStrayNot : Type 0
QuietStrayNot = (size f b : ℕ) (calls : List Ranged) (e : Entry) → stamps_at b (stamps_of size e) ≡ [] → wipes b e.event e.outcome ≡ false → gives_space size b e.event e.outcome ≡ false → strays size f b calls e ≡ 0
