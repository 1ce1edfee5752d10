use Rattle.io_script.proofs.Naming.{names_files}
use Rattle.io_script.proofs.one_reading.scripts_name_their_files.Goals as goal

pub returns : goal.returns
returns c = names_files
