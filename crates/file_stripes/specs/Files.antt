-- Files before the first call.
use Rattle.std.specs.Prelude.{ℕ, ◌+◌, ◌<◌, ◌≤◌, Bool, ◌||◌, nat_le, List, [], ◌∷◌, ◌++◌, All, IsTrue}
use Rattle.io_model.specs.Lists.{each_pair}
use Rattle.io_model.specs.declared.file.Extent.{Extent}
use Rattle.io_model.specs.declared.file.FileSpec.{FileSpec}
use Rattle.io_model.specs.declared.file.Kind.{Kind}
use Rattle.file_stripes.specs.Kinds.{LiesIn, kinds_from, numbers_of}

-- two extents have no block of the file in common
abbrev pub are_apart : Extent → Extent → Bool
are_apart e f = nat_le (e.block + e.length) f.block || nat_le (f.block + f.length) e.block

-- a file has 1 to 65,536 blocks, and extents with space among them that share no block
pub record IsFile (file : FileSpec) : Type 0 where
  pub some : 0 < file.blocks
  pub few : file.blocks ≤ 65536
  pub inside : All (LiesIn 0 file.blocks) file.extents
  pub apart : IsTrue (each_pair are_apart file.extents)

-- the kind of each block of a file, in order
abbrev pub kinds_of_file : FileSpec → List Kind
kinds_of_file file = kinds_from file.extents 0 file.blocks

-- the device numbers of a file's blocks, in order
abbrev pub numbers_of_file : FileSpec → List ℕ
numbers_of_file file = numbers_of (kinds_of_file file)

-- the device numbers of the blocks of files, in order of file and block
abbrev pub numbers_of_files : List FileSpec → List ℕ
numbers_of_files [] = []
numbers_of_files (file ∷ files) = numbers_of_file file ++ numbers_of_files files

-- how many blocks the files have
abbrev pub blocks_of_files : List FileSpec → ℕ
blocks_of_files [] = 0
blocks_of_files (file ∷ files) = file.blocks + blocks_of_files files
