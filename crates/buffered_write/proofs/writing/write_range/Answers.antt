use Rattle.std.proofs.Common.{sym, ◌∙◌, ◌<◌, arith}
use Rattle.mini_fs.specs.Mappings.{file_end}
use Rattle.buffered_write.proofs.WriteLemmas.{end-some, range-on, range-writes, reached-none}
use Rattle.buffered_write.proofs.writing.write_range.Goals as goal

pub loop-init : goal.loop-init
loop-init g c = reached-none c.args.mount.now c.args.file c.args.by c.args.from c.args.to _ c.args.pass.now c.args.iov.now c.new-iter.result c.requires.some c.requires.within c.new-iter.ensures c.requires.goes c.requires.room

pub returns-then-is_some-clause-written : goal.returns-then-is_some-clause-written
returns-then-is_some-clause-written g c =
    let less : c.args.from < file_end c.args.mount.now c.args.file = omega (arith, c.requires.some, c.requires.within) in
    let rest : 0 < c.loop.iter.left = omega arith in
    range-writes c.args.mount.now c.args.file c.args.by c.args.from c.args.to _ _ _ c.args.pass.now c.loop.pass c.write_next-next.new.pass c.args.iov.now c.loop.iov c.write_next-next.new.iov c.loop.came c.write_next-next.result c.loop.iter
    (end-some c.args.mount.now c.args.file c.args.from less) rest c.loop.invariant c.write_next-next.ensures.written c.followed-came.result c.followed-came.ensures

pub loop-preserved : goal.loop-preserved
loop-preserved g c =
    let less : c.args.from < file_end c.args.mount.now c.args.file = omega (arith, c.requires.some, c.requires.within) in
    let rest : 0 < c.loop.iter.left = omega arith in
    range-on c.args.mount.now c.args.file c.args.by c.args.from c.args.to _ _ _ c.args.pass.now c.loop.pass c.write_next-next.new.pass c.args.iov.now c.loop.iov c.write_next-next.new.iov c.loop.came c.write_next-next.result c.loop.iter
    (end-some c.args.mount.now c.args.file c.args.from less) rest c.loop.invariant c.write_next-next.ensures.written c.write_next-next.new.iter c.followed-came.result c.followed-came.ensures (sym c.is_some.ensures ∙ c.if-is_some.false)
    c.write_next-next.ensures.goes c.write_next-next.ensures.came c.write_next-next.ensures.ends
