-- What is left of a file, joined from what is left of its stripes and of its size.
use Rattle.std.specs.Prelude.{◌≡◌, ℕ, Option, Some, None, List, [], IsTrue, length, slice_get, take, drop}
use Rattle.io_model.specs.Fitting.{is_merged_from}
use Rattle.io_model.specs.declared.file.BlockEnd.{BlockEnd}
use Rattle.io_model.specs.declared.file.Extent.{Extent}
use Rattle.io_model.specs.declared.file.FileEnd.{FileEnd}
use Rattle.io_model.specs.declared.file.SizeStamp.{SizeStamp}
use Rattle.file_stripes.specs.Ends.{FollowOn, blocks_in, kinds_of_ends}
use Rattle.file_stripes.specs.Kinds.{kinds_from}
use Rattle.file_stripes.specs.declared.run_end.RunEnd.{RunEnd}
use Rattle.mount_parts.specs.MountView.{stripes_of}
use Rattle.mount_parts.specs.declared.file.FilePlace.{FilePlace}
use Rattle.mount_parts.specs.declared.size_end.SizeEnd.{SizeEnd}

-- these extents and blocks, as what is left of a run of blocks
abbrev pub run_end : List Extent → List BlockEnd → RunEnd
run_end extents blocks = record { extents = extents; blocks = blocks }

-- what is left of the stripes of a file, which stand behind those of the files before it
abbrev pub runs_of : FilePlace → List RunEnd → List RunEnd
runs_of file runs = take (stripes_of file.blocks) (drop file.stripe runs)

-- These runs follow one another from the first block of a file to its last
pub record AreRunsOf (file : FilePlace) (own : List RunEnd) : Type 0 where
  pub follow : FollowOn 0 own
  pub long : length (blocks_in own) ≡ file.blocks

-- A file ends with the blocks of these runs, in order, and its extents are merged and give each block its kind
pub record JoinsRuns (own : List RunEnd) (end : FileEnd) : Type 0 where
  pub merged : IsTrue (is_merged_from 0 (length end.blocks) end.extents)
  pub kinds : kinds_from end.extents 0 (length end.blocks) ≡ kinds_of_ends 0 own
  pub blocks : end.blocks ≡ blocks_in own

-- what is left of the size of a file that has this size cell, and of the first size of those that are left
abbrev pub size_end : Option ℕ → List SizeEnd → Option SizeEnd
size_end None sizes = None
size_end (Some cell) sizes = slice_get sizes cell

abbrev pub first_size : Option ℕ → List SizeEnd → Option SizeEnd
first_size None sizes = None
first_size (Some cell) sizes = slice_get sizes 0

-- a file ends with the size and the stamps that are left of its size, or with neither
abbrev pub HasSizeEnd : Option SizeEnd → Option ℕ → List SizeStamp → Type 0
HasSizeEnd None size stamps = (size ≡ None) × (stamps ≡ [])
HasSizeEnd (Some end) size stamps = (size ≡ Some end.size) × (stamps ≡ end.stamps)

-- This is left of a file, whose stripes and sizes are among these
pub record IsFileEnd (runs : List RunEnd) (sizes : List SizeEnd) (file : FilePlace) (end : FileEnd) : Type 0 where
  pub joined : JoinsRuns (runs_of file runs) end
  pub size : HasSizeEnd (size_end file.size sizes) end.size end.sizes

-- These are left of files, one by one
pub record AreFileEnds (files : List FilePlace) (runs : List RunEnd) (sizes : List SizeEnd) (ends : List FileEnd) : Type 0 where
  pub count : length ends ≡ length files
  pub each : (k : ℕ) (file : FilePlace) (end : FileEnd) → slice_get files k ≡ Some file → slice_get ends k ≡ Some end → IsFileEnd runs sizes file end
