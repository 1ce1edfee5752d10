use Rattle.std.specs.Prelude.{ℕ, Bool, true, false, not, ◌&&◌, ◌||◌, ◌==◌, nat_le, nat_lt, ◌+◌, ◌*◌, ◌-◌, ◌/◌, ◌%◌, List, Option, Some, None, slice_get, is_some, if◌then◌else◌, IsTrue}
use Rattle.std.specs.List.{list_all}
use Rattle.iob_base.specs.declared.answer.Answer.{Answer}
use Rattle.iob_base.specs.declared.answer.Reply.{Reply}
use Rattle.iob_base.specs.declared.answer.Reply.TheVariants.{Ok, Err}
use Rattle.iob_base.specs.declared.stamp.Mode.{Mode}
use Rattle.iob_base.specs.declared.stamp.Mode.TheVariants.{Cached, Dax}
use Rattle.io_model.specs.Calls.{is_writeback}
use Rattle.io_model.specs.Contents.{file_blocks}
use Rattle.io_model.specs.Kinds.{kind_at}
use Rattle.io_model.specs.Lawful.{most_counted}
use Rattle.io_model.specs.Lists.{both_from, each_from, each_pair}
use Rattle.io_model.specs.Parts.{Span, blocks_met}
use Rattle.io_model.specs.Ranges.{Ranged, ranged_calls}
use Rattle.io_model.specs.declared.file.FileSpec.{FileSpec}
use Rattle.io_model.specs.declared.file.Kind.{Kind}
use Rattle.io_model.specs.declared.file.Kind.TheVariants.{Delalloc}
use Rattle.io_model.specs.declared.run.Run.{Run}
use Rattle.io_model.specs.declared.script.Call.{Call}
use Rattle.io_model.specs.declared.script.Script.{Script}
use Rattle.io_model.specs.declared.script.Verb.{Verb}
use Rattle.io_model.specs.declared.script.Verb.TheVariants.{Pread, Pwrite, Dread, Dwrite, Xread, Xwrite, Zero, Punch, Alloc, Wb, Sync, Drop, Trunc}

-- a transfer moves at most 16 blocks, so what was written back took so many bios
abbrev pub has_floor : Answer → Bool
has_floor answer = floor_of answer.reply answer.bios
  where
    floor_of : Reply → ℕ → Bool
    floor_of (Ok n _) bios = nat_le n (bios * 16)
    floor_of (Err _ _) bios = true

-- the counts of blocks written back meet the bios printed beside them
pub record FloorsBios (script : Script) (run : Run) : Type 0 where
  pub calls : IsTrue (both_from (λ n call end. not (is_writeback call.verb) || has_floor end.answer) 1 script.calls run.calls)
  pub closes : IsTrue (list_all has_floor run.closes)

-- no two callers have calls in one phase
abbrev pub is_single : List Call → Bool
is_single calls = each_pair (λ call next. not (call.phase == next.phase) || call.caller == next.caller) calls

-- how many blocks a span meets and does not cover
abbrev pub partly_met : ℕ → Span → ℕ
partly_met size s =
    if nat_lt s.from s.to
    then (if s.from / size == (s.to - 1) / size then (if s.from % size == 0 && s.to % size == 0 then 0 else 1)
    else (if s.from % size == 0 then 0 else 1) + (if s.to % size == 0 then 0 else 1))
    else 0

abbrev pub is_cached_file : Option FileSpec → Bool
is_cached_file None = false
is_cached_file (Some file) = is_cached file.mode
  where
    is_cached : Mode → Bool
    is_cached Cached = true
    is_cached Dax = false

-- how many bios a call makes at most while no other caller acts
abbrev pub most_bios : ℕ → ℕ → Bool → Span → Verb → ℕ
most_bios size blocks cached range (Pread _ _) = blocks_met size range
most_bios size blocks cached range (Pwrite _ _) = partly_met size range
most_bios size blocks cached range (Dread _ _) = 2 * blocks_met size range
most_bios size blocks cached range (Dwrite _ _) = 2 * blocks_met size range
most_bios size blocks cached range (Xread _ _) = 0
most_bios size blocks cached range (Xwrite _ _) = 0
most_bios size blocks cached range (Zero _ _) = if cached then partly_met size range else 0
most_bios size blocks cached range (Punch _ _) = if cached then partly_met size range else 0
most_bios size blocks cached range (Trunc _) = if cached then partly_met size range else 0
most_bios size blocks cached range (Alloc _ _) = 0
most_bios size blocks cached range Drop = 0
most_bios size blocks cached range (Wb from n) = most_counted size blocks range (Wb from n)
most_bios size blocks cached range Sync = blocks

abbrev pub is_in_budget : Script → Ranged → ℕ → Bool
is_in_budget script r bios =
    nat_le bios (most_bios script.geometry.block_size (file_blocks script r.call.file.0) (is_cached_file (slice_get script.files r.call.file.0)) r.range r.call.verb)

abbrev pub is_reserved : Kind → Bool
is_reserved Delalloc = true
is_reserved _ = false

-- what a run shows besides where no two callers act in one phase: each call stays within its bios, and what was reserved and not used was given back
pub record KeepsBudget (script : Script) (run : Run) : Type 0 where
  pub calls : IsTrue (both_from (λ n r end. is_in_budget script r end.answer.bios) 1 (ranged_calls script run) run.calls)
  pub closes : IsTrue (both_from (λ f file close. nat_le close.bios file.blocks) 0 script.files run.closes)
  pub given_back : IsTrue (each_from (λ f file. each_from (λ b block. not (is_reserved (kind_at file.extents b)) || is_some block.dirty) 0 file.blocks) 0 run.ends.files)

abbrev pub OneCaller : Script → Run → Type 0
OneCaller script run = IsTrue (is_single script.calls) → KeepsBudget script run
