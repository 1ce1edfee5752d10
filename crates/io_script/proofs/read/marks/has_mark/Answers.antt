use Rattle.std.proofs.Common.{◌≡◌, ◌+◌, ◌-◌, ◌∙◌, arith}
use Rattle.io_script.proofs.Marking.{any-marks}
use Rattle.io_script.proofs.read.marks.has_mark.Goals as goal

pub returns : goal.returns
returns c test m =
    let e : c.args.low + c.args.n - c.args.low ≡ c.args.n = omega arith in
    (rw e at c.any_marked.ensures) ∙ any-marks c.args.marks.now test c.args.n c.args.low c.requires m.each
