use Rattle.std.proofs.Common.{◌<◌, sym, ◌∙◌, arith}
use Rattle.mini_fs.specs.Mappings.{file_end}
use Rattle.buffered_write.proofs.ClearParts.{cleared-none, cleared-on, cleared-part, part-ends, part-smaller}
use Rattle.buffered_write.proofs.WriteLemmas.{end-some}
use Rattle.buffered_write.proofs.clearing.clear_range.Goals as goal

pub loop-came-init : goal.loop-came-init
loop-came-init g c =
    let less : c.args.from < file_end c.args.mount.now c.args.file = omega (arith, c.requires.some, c.requires.within) in
    cleared-none c.args.mount.now c.args.file c.args.by c.args.from c.args.to (end-some c.args.mount.now c.args.file c.args.from less) _ c.args.pass.now c.requires.some c.requires.goes

pub returns-then-is_some-clause-cleared : goal.returns-then-is_some-clause-cleared
returns-then-is_some-clause-cleared g c =
    let less : c.args.from < file_end c.args.mount.now c.args.file = omega (arith, c.requires.some, c.requires.within) in
    cleared-part c.args.mount.now c.args.file c.args.by c.args.from c.args.to (end-some c.args.mount.now c.args.file c.args.from less) _ _ _ c.args.pass.now c.loop-came.pass c.clear_part-part.new.pass c.loop-came.came c.clear_part-part.result c.followed-came.result c.loop-came-test.true
    c.followed-came.ensures c.loop-came.invariant c.clear_part-part.ensures.cleared c.clear_part-part.ensures.ends

pub returns-then-is_some-clause-ends : goal.returns-then-is_some-clause-ends
returns-then-is_some-clause-ends g c =
    let less : c.args.from < file_end c.args.mount.now c.args.file = omega (arith, c.requires.some, c.requires.within) in
    part-ends c.args.mount.now c.args.file c.args.by c.args.from c.args.to (end-some c.args.mount.now c.args.file c.args.from less) _ _ _ c.args.pass.now c.loop-came.pass c.clear_part-part.new.pass c.loop-came.came c.clear_part-part.result c.followed-came.result c.loop-came-test.true
    c.followed-came.ensures c.loop-came.invariant c.clear_part-part.ensures.cleared c.clear_part-part.ensures.ends (sym c.is_some.ensures ∙ c.if-is_some.true)

pub loop-came-smaller : goal.loop-came-smaller
loop-came-smaller g c =
    let less : c.args.from < file_end c.args.mount.now c.args.file = omega (arith, c.requires.some, c.requires.within) in
    part-smaller c.args.mount.now c.args.file c.args.by c.args.from c.args.to (end-some c.args.mount.now c.args.file c.args.from less) _ _ _ c.args.pass.now c.loop-came.pass c.clear_part-part.new.pass c.loop-came.came c.clear_part-part.result c.followed-came.result c.loop-came-test.true
    c.followed-came.ensures c.loop-came.invariant c.clear_part-part.ensures.cleared c.clear_part-part.ensures.ends (sym c.is_some.ensures ∙ c.if-is_some.false)

pub loop-came-preserved : goal.loop-came-preserved
loop-came-preserved g c =
    let less : c.args.from < file_end c.args.mount.now c.args.file = omega (arith, c.requires.some, c.requires.within) in
    cleared-on c.args.mount.now c.args.file c.args.by c.args.from c.args.to (end-some c.args.mount.now c.args.file c.args.from less) _ _ _ c.args.pass.now c.loop-came.pass c.clear_part-part.new.pass c.loop-came.came c.clear_part-part.result c.followed-came.result c.loop-came-test.true
    c.followed-came.ensures c.loop-came.invariant c.clear_part-part.ensures.cleared c.clear_part-part.ensures.ends (sym c.is_some.ensures ∙ c.if-is_some.false) c.clear_part-part.ensures.goes
