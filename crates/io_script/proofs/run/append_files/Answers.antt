use Rattle.std.proofs.Common.{drop, arith}
use Rattle.io_model.specs.RunText.{files_lines}
use Rattle.io_script.proofs.Appended.{appends_whole}
use Rattle.io_script.proofs.Ended.{files_lines-ended}
use Rattle.io_script.proofs.run.append_files.Goals as goal

pub returns : goal.returns
returns c =
    let i = c.loop-i.i in
    let names = c.args.names.now in
    let ends = c.args.ends.now in
    appends_whole (files_lines c.args.image names ends) (files_lines c.args.image (drop i names) (drop i ends)) _ _ c.loop-i.invariant
    (λ rest. files_lines-ended c.args.image i names ends rest (omega arith))
