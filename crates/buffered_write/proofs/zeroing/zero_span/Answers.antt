use Rattle.std.proofs.Common.{sym, ◌∙◌, ◌<◌, arith}
use Rattle.mini_fs.specs.Mappings.{file_end}
use Rattle.buffered_write.proofs.WriteLemmas.{end-some}
use Rattle.buffered_write.proofs.ZeroLemmas.{come-none, range-goes-on, range-zeroes}
use Rattle.buffered_write.proofs.zeroing.zero_span.Goals as goal

pub loop-init : goal.loop-init
loop-init g c = come-none c.args.mount.now c.args.file c.args.by c.args.from c.args.to _ c.args.pass.now c.new-iter.result c.requires.some c.requires.within c.new-iter.ensures c.requires.goes

pub loop-preserved : goal.loop-preserved
loop-preserved g c =
    let less : c.args.from < file_end c.args.mount.now c.args.file = omega (arith, c.requires.some, c.requires.within) in
    let rest : 0 < c.loop.iter.left = omega arith in
    range-goes-on c.args.mount.now c.args.file c.args.by c.args.from c.args.to _ _ _ c.args.pass.now c.loop.pass c.zero_next-next.new.pass c.loop.came c.zero_next-next.result c.loop.iter
    (end-some c.args.mount.now c.args.file c.args.from less) rest c.loop.invariant c.zero_next-next.ensures.zeroed c.zero_next-next.new.iter c.followed-came.result c.followed-came.ensures (sym c.is_some.ensures ∙ c.if-is_some.false)
    c.zero_next-next.ensures.goes c.zero_next-next.ensures.came c.zero_next-next.ensures.ends

pub returns-then-is_some-clause-zeroed : goal.returns-then-is_some-clause-zeroed
returns-then-is_some-clause-zeroed g c =
    let less : c.args.from < file_end c.args.mount.now c.args.file = omega (arith, c.requires.some, c.requires.within) in
    let rest : 0 < c.loop.iter.left = omega arith in
    range-zeroes c.args.mount.now c.args.file c.args.by c.args.from c.args.to _ _ _ c.args.pass.now c.loop.pass c.zero_next-next.new.pass c.loop.came c.zero_next-next.result c.loop.iter
    (end-some c.args.mount.now c.args.file c.args.from less) rest c.loop.invariant c.zero_next-next.ensures.zeroed c.followed-came.result c.followed-came.ensures
