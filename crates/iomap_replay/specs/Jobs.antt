use Rattle.std.specs.Prelude.{◌≡◌, ℕ, true, None, List, [], ◌∷◌}
use Rattle.std.specs.List.{list_all}
use Rattle.iob_base.specs.declared.stamp.Mode.TheVariants.{Cached}
use Rattle.io_model.specs.declared.file.Extent.{Extent}
use Rattle.io_model.specs.declared.file.FileSpec.{FileSpec}
use Rattle.io_model.specs.declared.script.Call.{Call}
use Rattle.io_model.specs.declared.script.Script.{Script}
use Rattle.io_model.specs.declared.script.Verb.TheVariants.{Pread}
use Rattle.iomap_replay.specs.Facts.{IsShape, is_whole}
use Rattle.iomap_replay.specs.declared.job.Asked.{Asked}
use Rattle.iomap_replay.specs.declared.job.Job.{Job}

abbrev pub one_file : ℕ → Extent → FileSpec
one_file blocks extent = record { mode = Cached; blocks = blocks; size = None; extents = extent ∷ [] }

abbrev pub one_call : Asked → Call
one_call asked = record { phase = 1; caller = 0; file = record { 0 = 0 }; first_page = 0; verb = Pread asked.off (asked.length ∷ []) }

-- a call of the first file by caller 0 in the first phase, before any user page
pub record IsFirst (call : Call) : Type 0 where
  pub phase : call.phase ≡ 1
  pub caller : call.caller ≡ 0
  pub file : call.file.0 ≡ 0
  pub first_page : call.first_page ≡ 0

-- the script of a job on a file of this name and a device with these blocks
abbrev pub script_of_job : List ℕ → Job → List (ℕ × List ℕ) → Script
script_of_job name job blocks = record {
  geometry = job.geometry;
  device_blocks = job.device.blocks;
  fill = job.device.fill;
  blocks = blocks;
  names = name ∷ [];
  files = one_file job.blocks job.extent ∷ [];
  faults = [];
  calls = one_call job.asked ∷ [];
}

-- a job is that of a script: it has all of it but the name and the blocks that are given
pub record IsJobOf (script : Script) (job : Job) : Type 0 where
  pub name : List ℕ
  pub is : script ≡ script_of_job name job script.blocks
  pub shape : IsShape job.device job.geometry job.blocks job.extent job.asked
  pub whole : list_all (is_whole job.device) script.blocks ≡ true
