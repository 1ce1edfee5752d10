use Rattle.std.proofs.Common.{◌+◌, drop, arith}
use Rattle.io_model.specs.RunText.{call_lines}
use Rattle.io_script.proofs.Appended.{appends_whole}
use Rattle.io_script.proofs.Ended.{call_lines-ended}
use Rattle.io_script.proofs.calls.append_calls.Goals as goal

pub returns : goal.returns
returns c =
    let i = c.loop-i.i in
    let calls = c.args.calls.now in
    let ends = c.args.ends.now in
    appends_whole (call_lines 1 calls ends) (call_lines (i + 1) (drop i calls) (drop i ends)) _ _ c.loop-i.invariant
    (λ rest. call_lines-ended (i + 1) i calls ends rest (omega arith))
