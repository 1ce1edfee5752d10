use Rattle.std.proofs.Common.{sym, ap, ◌∙◌, arith}
use Rattle.writeback_ioend.specs.declared.walk.Written.{Written}
use Rattle.writeback_ioend.proofs.FolioLemmas.{shares-kept}
use Rattle.writeback_ioend.proofs.WalkLemmas.{none-is, some-not, walked-all, walks-both, walks-on-none}
use Rattle.writeback_ioend.proofs.walk.write_range.Goals as goal

pub loop-init : goal.loop-init
loop-init g c =
    let order = c.requires.order in
    record {
      of = c.requires.of;
      high = order;
      clear = ap (λ (w : Written). w.fault) c.nothing_written-written.ensures;
      walks = walks-on-none c.args.mount.now c.args.file c.args.waits c.args.to c.args.from _ c.args.pass.now c.nothing_written-written.result c.requires.of c.nothing_written-written.ensures;
    }

pub write_next-next-requires-clause-shares : goal.write_next-next-requires-clause-shares
write_next-next-requires-clause-shares g c =
    let walks = c.loop.invariant.walks.walks in
    shares-kept c.args.mount.now c.args.file 64 c.args.pass.now c.loop.pass walks.acts (omega arith) walks.steps.did.acted walks.steps.did.closed c.requires.shares

pub loop-preserved : goal.loop-preserved
loop-preserved g c = record {
  of = c.write_next-next.ensures.walks.walks.steps.of;
  high = c.write_next-next.ensures.within;
  clear = none-is c.both_written-written.result.fault (sym c.is_some.ensures ∙ c.if-is_some.false);
  walks = walks-both c.args.mount.now c.args.file c.args.waits c.args.to c.args.from c.loop.at c.write_next-next.result.0 _ _ _ c.args.pass.now c.loop.pass c.write_next-next.new.pass c.loop.written c.write_next-next.result.1 c.requires.of c.loop.invariant.clear c.loop.invariant.walks c.write_next-next.ensures.walks c.both_written-written.result c.both_written-written.ensures;
}

pub returns-then-is_some : goal.returns-then-is_some
returns-then-is_some g c = record {
  written =
      walked-all c.args.mount.now c.args.file c.args.waits c.args.from c.args.to c.write_next-next.result.0 _ _ c.args.pass.now c.write_next-next.new.pass c.both_written-written.result c.requires.of
      (walks-both c.args.mount.now c.args.file c.args.waits c.args.to c.args.from c.loop.at c.write_next-next.result.0 _ _ _ c.args.pass.now c.loop.pass c.write_next-next.new.pass c.loop.written c.write_next-next.result.1 c.requires.of c.loop.invariant.clear c.loop.invariant.walks c.write_next-next.ensures.walks c.both_written-written.result c.both_written-written.ensures)
      c.write_next-next.ensures.within (λ none. absurd (some-not c.both_written-written.result.fault (sym c.is_some.ensures ∙ c.if-is_some.true) none));
}
