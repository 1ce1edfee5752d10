-- A second file of a mount.
use Rattle.std.specs.Prelude.{◌≡◌}
use Rattle.iob_base.specs.declared.stamp.FileId.{FileId}
use Rattle.iob_base.specs.declared.stamp.Mode.TheVariants.{Cached}
use Rattle.mount_parts.specs.MountView.{HasFile, MountView, file_at}

-- the file behind the first one
abbrev pub other_file : FileId
other_file = record { 0 = 1 }

-- The mount has a second file, which is cached
pub record HasOther (m : MountView) : Type 0 where
  pub exists : HasFile m other_file
  pub cached : (file_at m other_file).mode ≡ Cached
