use Rattle.std.proofs.Common.{◌∙◌, sym, arith}
use Rattle.extent_map.proofs.Joining.{are_joined, joined_past, not_joined, read_short}
use Rattle.extent_map.proofs.edit.join.Goals as goal

pub returns-then-len-at-lt2-clause-items : goal.returns-then-len-at-lt2-clause-items
returns-then-len-at-lt2-clause-items c = sym (joined_past c.args.at c.args.runs.now.items (omega arith))

pub returns-then-not-can_join-clause-items : goal.returns-then-not-can_join-clause-items
returns-then-not-can_join-clause-items c =
    sym (not_joined c.args.at c.args.runs.now.items c.index.result.now c.index-2.result.now (omega arith) c.index.ensures c.index-2.ensures (sym c.if-not-can_join.ensures))

pub overflow_add-run : goal.overflow_add-run
overflow_add-run c =
    let short = read_short c.args.at c.args.runs.now.items c.index.result.now c.index-2.result.now (omega arith) c.index.ensures c.index-2.ensures in
    omega (arith, short)

pub returns-clause-items : goal.returns-clause-items
returns-clause-items c =
    c.remove.ensures.items ∙ are_joined c.args.at c.args.runs.now.items c.index.result.now c.index-2.result.now (omega arith) c.index.ensures c.index-2.ensures (sym c.if-not-can_join.ensures)
