use Rattle.std.specs.Prelude.{ℕ, Bool, true, false, ◌&&◌, ◌==◌, nat_le, nat_lt, ◌+◌, List, [], slice_index_or, unwrap_or, None}
use Rattle.std.specs.List.{list_any}
use Rattle.iob_base.specs.Layout.{Layout, layout}
use Rattle.iob_base.specs.declared.stamp.Mode.TheVariants.{Cached}
use Rattle.io_model.specs.Kinds.{covers, device_number}
use Rattle.io_model.specs.declared.file.Extent.{Extent}
use Rattle.io_model.specs.declared.file.FileSpec.{FileSpec}
use Rattle.io_model.specs.declared.script.Call.{Call}
use Rattle.io_model.specs.declared.script.Script.{Script}
use Rattle.io_script.specs.GrammarWords.{Word}
use Rattle.io_script.specs.declared.read.stage.Stage.{Stage}
use Rattle.io_script.specs.declared.read.stage.Stage.TheVariants.{Header, Device, Folio, Grain, Files, Calls}

-- what the kept lines so far say. Before there is a device line the sizes say nothing.
pub record SoFar : Type 0 where
  pub stage : Stage
  -- the header asks for a grain line
  pub is_fine : Bool
  pub geometry : Layout
  pub device_blocks : ℕ
  pub fill : ℕ
  pub blocks : List (ℕ × List ℕ)
  pub names : List Word
  pub files : List FileSpec
  -- the blocks of all files together
  pub file_blocks : ℕ
  pub faults : List (ℕ × ℕ)
  pub phases : ℕ
  pub calls : List Call
  -- the bytes that all reads ask, and all writes; the blocks that all data calls meet; the user pages of all direct calls
  pub read : ℕ
  pub written : ℕ
  pub met : ℕ
  pub pages : ℕ

-- no line says anything yet
abbrev pub nothing : SoFar
nothing = record {
  stage = Header;
  is_fine = false;
  geometry = layout 16 1;
  device_blocks = 0;
  fill = 0;
  blocks = [];
  names = [];
  files = [];
  file_blocks = 0;
  faults = [];
  phases = 0;
  calls = [];
  read = 0;
  written = 0;
  met = 0;
  pages = 0;
}

-- the script that the lines say, once they are all
abbrev pub script_so_far : SoFar → Script
script_so_far s = record {
  geometry = s.geometry;
  device_blocks = s.device_blocks;
  fill = s.fill;
  blocks = s.blocks;
  names = s.names;
  files = s.files;
  faults = s.faults;
  calls = s.calls;
}

abbrev pub is_header_next : Stage → Bool
is_header_next Header = true
is_header_next _ = false

abbrev pub is_device_next : Stage → Bool
is_device_next Device = true
is_device_next _ = false

abbrev pub is_folio_next : Stage → Bool
is_folio_next Folio = true
is_folio_next _ = false

abbrev pub is_grain_next : Stage → Bool
is_grain_next Grain = true
is_grain_next _ = false

-- lines of what there is before the first call may stand
abbrev pub may_describe : Stage → Bool
may_describe Files = true
may_describe _ = false

abbrev pub may_call : Stage → Bool
may_call Calls = true
may_call _ = false

-- a phase may begin
abbrev pub may_begin : Stage → Bool
may_begin Files = true
may_begin Calls = true
may_begin _ = false

abbrev pub no_file : FileSpec
no_file = record { mode = Cached; blocks = 0; size = None; extents = [] }

abbrev pub file_at : List FileSpec → ℕ → FileSpec
file_at files i = slice_index_or files i no_file

-- the device block with which an extent that has space begins
abbrev pub device_start : Extent → ℕ
device_start e = unwrap_or (device_number e.kind) 0

-- the device block is one of an extent
abbrev pub covers_on_device : ℕ → Extent → Bool
covers_on_device d e = nat_le (device_start e) d && nat_lt d (device_start e + e.length)

-- an extent of a file has the device block
abbrev pub is_taken : List FileSpec → ℕ → Bool
is_taken files d = list_any (λ f. list_any (covers_on_device d) f.extents) files

-- an extent of this file has the file block
abbrev pub is_placed : FileSpec → ℕ → Bool
is_placed f b = list_any (λ e. covers e b) f.extents

-- a data line gives the device block
abbrev pub is_given : List (ℕ × List ℕ) → ℕ → Bool
is_given blocks d = list_any (λ g. g.0 == d) blocks
