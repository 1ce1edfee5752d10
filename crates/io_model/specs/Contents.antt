use Rattle.std.specs.Prelude.{ℕ, ◌==◌, ◌-◌, ◌*◌, min, List, [], ◌∷◌, ◌++◌, take, Option, Some, None, slice_get, replicate, if◌then◌else◌}
use Rattle.io_model.specs.Kinds.{kind_at, mapped_number}
use Rattle.io_model.specs.declared.file.Extent.{Extent}
use Rattle.io_model.specs.declared.file.FileSpec.{FileSpec}
use Rattle.io_model.specs.declared.script.Script.{Script}

-- the content of a block is so many bytes
abbrev pub Content : Type 0
Content = List ℕ

abbrev pub zeros : ℕ → Content
zeros n = replicate n 0

-- the bytes that a list gives for a device block, or else others
abbrev pub given_or : List (ℕ × List ℕ) → ℕ → Content → Content
given_or [] d others = others
given_or (g ∷ gs) d others = if g.0 == d then g.1 else given_or gs d others

-- the bytes of a device block before the first call: what the script gives for it, or its fill byte throughout
abbrev pub device_bytes : Script → ℕ → Content
device_bytes script d = given_or script.blocks d (replicate script.geometry.block_size script.fill)

-- device bytes for a block whose bytes are its own, zeros for every other
abbrev pub mapped_or_zeros : Script → Option ℕ → Content
mapped_or_zeros script None = zeros script.geometry.block_size
mapped_or_zeros script (Some d) = device_bytes script d

abbrev pub extents_of : Option FileSpec → List Extent
extents_of None = []
extents_of (Some file) = file.extents

abbrev pub blocks_of : Option FileSpec → ℕ
blocks_of None = 0
blocks_of (Some file) = file.blocks

-- how many blocks a file of the script has
abbrev pub file_blocks : Script → ℕ → ℕ
file_blocks script f = blocks_of (slice_get script.files f)

-- the size of a file that has one
abbrev pub size_of : Option FileSpec → Option ℕ
size_of None = None
size_of (Some file) = file.size

-- a block's content with zeros from the file's size on
abbrev pub cut_content : ℕ → Option ℕ → ℕ → Content → Content
cut_content size None b content = content
cut_content size (Some end) b content = take (min size (end - b * size)) content ++ zeros (size - min size (end - b * size))

-- the content of a file's block before the first call (iomap: holes and unwritten space read as zeros, and so does what lies past the file's size)
abbrev pub opening_content : Script → ℕ → ℕ → Content
opening_content script f b =
    cut_content script.geometry.block_size (size_of (slice_get script.files f)) b
    (mapped_or_zeros script (mapped_number (kind_at (extents_of (slice_get script.files f)) b)))
