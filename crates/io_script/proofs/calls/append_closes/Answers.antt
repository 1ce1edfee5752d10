use Rattle.std.proofs.Common.{drop, arith}
use Rattle.io_model.specs.RunText.{close_lines}
use Rattle.io_script.proofs.Appended.{appends_whole}
use Rattle.io_script.proofs.Ended.{close_lines-ended}
use Rattle.io_script.proofs.calls.append_closes.Goals as goal

pub returns : goal.returns
returns c =
    let i = c.loop-i.i in
    let names = c.args.names.now in
    let closes = c.args.closes.now in
    appends_whole (close_lines names closes) (close_lines (drop i names) (drop i closes)) _ _ c.loop-i.invariant
    (λ rest. close_lines-ended i names closes rest (omega arith))
