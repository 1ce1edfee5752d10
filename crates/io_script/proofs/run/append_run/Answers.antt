use Rattle.io_script.proofs.Extents.{merged_files}
use Rattle.io_script.proofs.run.append_run.Goals as goal

pub append_files-requires : goal.append_files-requires
append_files-requires c =
    let script = c.args.script.now in
    rw c.as_slice-6.ensures (merged_files script.geometry.block_size 0 script.files c.args.run.now.ends.files c.requires.files)
