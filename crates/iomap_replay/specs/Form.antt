use Rattle.std.specs.Prelude.{ℕ, Bool, true, false, ◌&&◌, ◌==◌, nat_le, nat_lt, ◌+◌, ◌/◌, List, [], ◌∷◌, Option, Some, None, is_some, if◌then◌else◌}
use Rattle.std.specs.List.{list_all}
use Rattle.std.specs.Option.{option_map}
use Rattle.iob_base.specs.Layout.{Layout}
use Rattle.iob_base.specs.declared.stamp.Mode.{Mode}
use Rattle.iob_base.specs.declared.stamp.Mode.TheVariants.{Cached, Dax}
use Rattle.io_model.specs.declared.file.Extent.{Extent}
use Rattle.io_model.specs.declared.file.FileSpec.{FileSpec}
use Rattle.io_model.specs.declared.file.Kind.{Kind}
use Rattle.io_model.specs.declared.file.Kind.TheVariants.{Hole, Delalloc, Unwritten, Mapped}
use Rattle.io_model.specs.declared.script.Call.{Call}
use Rattle.io_model.specs.declared.script.Script.{Script}
use Rattle.io_model.specs.declared.script.Verb.{Verb}
use Rattle.io_model.specs.declared.script.Verb.TheVariants.{Pread}
use Rattle.iomap_replay.specs.Facts.{first_block, last_block, is_whole}
use Rattle.iomap_replay.specs.declared.job.Asked.{Asked}
use Rattle.iomap_replay.specs.declared.job.Device.{Device}
use Rattle.iomap_replay.specs.declared.job.Job.{Job}

-- the next step, if this one gave a value
infixl 10 ◌>>=◌
abbrev pub ◌>>=◌ : {A B : Type 0} → Option A → (A → Option B) → Option B
Some x >>= f = f x
None >>= f = None

-- a value that stands only where a test holds
abbrev pub provided : {A : Type 0} → Bool → Option A → Option A
provided b o = if b then o else None

-- the one item of a list
abbrev pub only : {A : Type 0} → List A → Option A
only [] = None
only (x ∷ []) = Some x
only (x ∷ y ∷ xs) = None

-- a list has no item
abbrev pub is_bare : {A : Type 0} → List A → Bool
is_bare [] = true
is_bare (x ∷ xs) = false

abbrev pub is_cached : Mode → Bool
is_cached Cached = true
is_cached Dax = false

-- an extent of at least one mapped block lies in a file and on a device of so many blocks
abbrev pub is_mapped_in : ℕ → Kind → ℕ → Bool
is_mapped_in device_blocks Hole n = false
is_mapped_in device_blocks Delalloc n = false
is_mapped_in device_blocks (Unwritten d) n = false
is_mapped_in device_blocks (Mapped d) n = nat_le (d + n) device_blocks

abbrev pub lies_on : ℕ → ℕ → Extent → Bool
lies_on blocks device_blocks e = nat_le 1 e.length && (nat_le (e.block + e.length) blocks && is_mapped_in device_blocks e.kind e.length)

-- the range lies in the extent and in one folio, and meets at most 16 blocks
abbrev pub is_in_one_folio : ℕ → ℕ → Extent → Asked → Bool
is_in_one_folio size folio extent asked =
    let first = first_block size asked in
    let last = last_block size asked in
    nat_le extent.block first && (nat_lt last (extent.block + extent.length) && (nat_lt last (first + 16) && first / folio == last / folio))

-- so many blocks are those of a device, or of a file
abbrev pub is_few : ℕ → Bool
is_few n = nat_le 1 n && nat_le n 65536

abbrev pub device_with : ℕ → ℕ → ℕ → Device
device_with size blocks fill = record { block_size = size; blocks = blocks; fill = fill }

abbrev pub device_of : Script → Device
device_of script = device_with script.geometry.block_size script.device_blocks script.fill

abbrev pub asked_at : ℕ → ℕ → Asked
asked_at off length = record { off = off; length = length }

-- the range of a read with one length
abbrev pub range_read : Verb → Option Asked
range_read (Pread off lengths) = option_map (asked_at off) (only lengths)
range_read _ = None

-- a call of the first phase by caller 0, the first direct or other call
abbrev pub is_first : Call → Bool
is_first call = call.phase == 1 && (call.caller == 0 && (call.file.0 == 0 && call.first_page == 0))

-- the range of a call of the one form
abbrev pub asked_of : Call → Option Asked
asked_of call = provided (is_first call) (range_read call.verb)

-- a file has no size of its own
abbrev pub is_unsized : Option ℕ → Bool
is_unsized None = true
is_unsized (Some size) = false

-- the blocks and the extent of a file of the one form
abbrev pub file_of : FileSpec → Option (ℕ × Extent)
file_of file = provided (is_cached file.mode && (is_few file.blocks && is_unsized file.size)) (option_map (λ e. (file.blocks, e)) (only file.extents))

abbrev pub job_with : Script → ℕ → Extent → Asked → Job
job_with script blocks extent asked = record { device = device_of script; geometry = script.geometry; blocks = blocks; extent = extent; asked = asked }

-- direct calls go by whole blocks
abbrev pub is_coarse : Layout → Bool
is_coarse sizes = sizes.grain == sizes.block_size

-- the device, the extent and the range of the one form
abbrev pub is_form : Script → ℕ → Extent → Asked → Bool
is_form script blocks extent asked =
    is_coarse script.geometry && (is_few script.device_blocks && (list_all (is_whole (device_of script)) script.blocks
    && (lies_on blocks script.device_blocks extent
    && (nat_le 1 asked.length && is_in_one_folio script.geometry.block_size script.geometry.folio_blocks extent asked))))

-- the job of a script of the one form that is built: a grain of whole blocks, one cached file without a size and with one mapped extent, no fault lines, and one read by caller 0 in the first phase, whose range lies in the extent and in one folio and meets at most 16 blocks
abbrev pub job_of : Script → Option Job
job_of script = do
  name ← provided (is_bare script.faults) (only script.names)
  file ← only script.files
  f ← file_of file
  call ← only script.calls
  asked ← asked_of call
  provided (is_form script f.0 f.1 asked) (Some (job_with script f.0 f.1 asked))

-- the script is of the form that is built
abbrev pub is_built : Script → Bool
is_built script = is_some (job_of script)
