use Rattle.std.specs.Prelude.{ℕ, Bool, true, false, not, ◌&&◌, ◌||◌, ◌==◌, nat_lt, ◌+◌, List, [], ◌∷◌, slice_get, is_some, if◌then◌else◌, IsTrue}
use Rattle.std.specs.List.{list_any}
use Rattle.iob_base.specs.declared.answer.Reply.{Reply}
use Rattle.iob_base.specs.declared.answer.Reply.TheVariants.{Ok, Err}
use Rattle.iob_base.specs.declared.stamp.Stamp.{Stamp}
use Rattle.io_model.specs.Calls.{is_alloc, is_write}
use Rattle.io_model.specs.Contents.{extents_of}
use Rattle.io_model.specs.Conversion.{is_wipe, wipes_whole}
use Rattle.io_model.specs.Kinds.{kind_at, device_number}
use Rattle.io_model.specs.Lists.{both_from, each_from}
use Rattle.io_model.specs.Parts.{meets}
use Rattle.io_model.specs.Ranges.{Ranged, ranged_calls}
use Rattle.io_model.specs.declared.file.BlockEnd.{BlockEnd}
use Rattle.io_model.specs.declared.file.Extent.{Extent}
use Rattle.io_model.specs.declared.file.FileEnd.{FileEnd}
use Rattle.io_model.specs.declared.file.Kind.{Kind}
use Rattle.io_model.specs.declared.file.Kind.TheVariants.{Hole, Unwritten, Mapped}
use Rattle.io_model.specs.declared.run.CallEnd.{CallEnd}
use Rattle.io_model.specs.declared.run.Run.{Run}
use Rattle.io_model.specs.declared.script.Script.{Script}

-- a block that had space has it still: its device number, and its kind or mapped
abbrev pub keeps_kind : Kind → Kind → Bool
keeps_kind (Mapped d) (Mapped e) = d == e
keeps_kind (Unwritten d) (Mapped e) = d == e
keeps_kind (Unwritten d) (Unwritten e) = d == e
keeps_kind _ _ = false

-- a call may give space to a block: a write or an allocation that meets it
abbrev pub may_give_space : ℕ → ℕ → ℕ → Ranged → Bool
may_give_space size f b r = (is_alloc r.call.verb || is_write r.call.verb) && (r.call.file.0 == f && meets size r.range b)

abbrev pub has_space : Kind → Bool
has_space kind = is_some (device_number kind)

abbrev pub is_hole : Kind → Bool
is_hole Hole = true
is_hole _ = false

-- a block that had space keeps it, unless it was given back whole; any other has space only by a call
abbrev pub keeps_space : ℕ → List Ranged → ℕ → ℕ → Kind → Kind → List Stamp → Bool
keeps_space size calls f b before now stamps =
    if has_space before && not (list_any (is_wipe size calls b) stamps) then keeps_kind before now
    else not (has_space now) || list_any (may_give_space size f b) calls

-- space is kept: no block lost, moved or got space without a call of its own, and a dirty block is no hole
abbrev pub keeps_block : Script → List Ranged → ℕ → List Extent → ℕ → BlockEnd → Bool
keeps_block script calls f extents b block =
    keeps_space script.geometry.block_size calls f b (kind_at (extents_of (slice_get script.files f)) b) (kind_at extents b) block.journal
    && not (is_some block.dirty && is_hole (kind_at extents b))

abbrev pub KeepsSpace : Script → Run → Type 0
KeepsSpace script run =
    IsTrue (each_from (λ f file. each_from (keeps_block script (ranged_calls script run) f file.extents) 0 file.blocks) 0 run.ends.files)

-- of two calls, beside their numbers, the second may come after the first: a later call of its caller, one of another caller in its phase, or one of a later phase
abbrev pub may_follow : ℕ → Ranged → ℕ → Ranged → Bool
may_follow n r m later =
    nat_lt r.call.phase later.call.phase
    || (r.call.phase == later.call.phase && (not (r.call.caller == later.call.caller) || nat_lt n m))

-- a call that may come after gives the block back whole
abbrev pub may_be_wiped : ℕ → ℕ → ℕ → ℕ → Ranged → ℕ → List Ranged → Bool
may_be_wiped size f b n r m [] = false
may_be_wiped size f b n r m (later ∷ calls) =
    (may_follow n r m later && (later.call.file.0 == f && wipes_whole size b later)) || may_be_wiped size f b n r (m + 1) calls

abbrev pub is_ok : Reply → Bool
is_ok (Ok _ _) = true
is_ok (Err _ _) = false

-- an allocation that answered Ok gave space to each block that it meets, unless that may be given back after it
abbrev pub has_allocated : ℕ → List Ranged → ℕ → Ranged → CallEnd → ℕ → FileEnd → Bool
has_allocated size calls n r end f file =
    not (is_alloc r.call.verb && (is_ok end.answer.reply && r.call.file.0 == f))
    || each_from (λ b block. not (meets size r.range b) || (has_space (kind_at file.extents b) || may_be_wiped size f b n r 1 calls)) 0 file.blocks

abbrev pub CoversAllocs : Script → Run → Type 0
CoversAllocs script run =
    IsTrue (both_from (λ n r end. each_from (has_allocated script.geometry.block_size (ranged_calls script run) n r end) 0 run.ends.files) 1 (ranged_calls script run) run.calls)

abbrev pub is_clean : BlockEnd → Bool
is_clean block = not (is_some block.dirty)

-- a file has dirty blocks only where its close is an error
abbrev pub ClosesClean : Script → Run → Type 0
ClosesClean script run =
    IsTrue (both_from (λ f close file. not (is_ok close.reply) || each_from (λ b block. is_clean block) 0 file.blocks) 0 run.closes run.ends.files)
