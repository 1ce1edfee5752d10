use Rattle.std.proofs.Common.{None, ap, subst, arith}
use Rattle.fault_device.specs.LaneView.{lane_of}
use Rattle.range_core.specs.Fetches.{CanFetch}
use Rattle.mini_fs.specs.PassView.{PassView}
use Rattle.call_parts.proofs.ReadyLemmas.{part-ready}
use Rattle.buffered_read.proofs.WarmLemmas.{away-tried, cold-tried, fetch-shares, fetch-tried, memory-tried, refused-cold}
use Rattle.buffered_read.proofs.warm.try_part.Goals as goal

pub fetch-requires-clause-ready : goal.fetch-requires-clause-ready
fetch-requires-clause-ready g c = λ cell seat stand.
    subst (λ n. CanFetch cell.opening c.args.from n c.args.iov.now) c.requires.part
    (part-ready c.args.mount.now c.args.file c.is_laid_out.ensures c.sizes.ensures.blocks c.sizes.ensures.folios c.args.from c.args.to c.requires.some c.requires.within c.requires.mode c.args.iov.now c.requires.room cell stand.cell_is)

pub fill_part-requires-clause-first : goal.fill_part-requires-clause-first
fill_part-requires-clause-first g c = (refused-cold c.args.mount.now c.args.file c.args.by c.args.from c.args.to c.is_laid_out.ensures c.sizes.ensures.blocks c.sizes.ensures.folios c.requires.some c.requires.within c.requires.part c.args.pass.now c.fetch.new.pass c.args.iov.now c.fetch.new.iov
    c.in-Err-Cold.field-0 c.in-Err-Cold.block c.in-Err-Cold.field-0-is c.in-Err-Cold.ensures.turned).0

pub fill_part-requires-clause-last : goal.fill_part-requires-clause-last
fill_part-requires-clause-last g c = (refused-cold c.args.mount.now c.args.file c.args.by c.args.from c.args.to c.is_laid_out.ensures c.sizes.ensures.blocks c.sizes.ensures.folios c.requires.some c.requires.within c.requires.part c.args.pass.now c.fetch.new.pass c.args.iov.now c.fetch.new.iov
    c.in-Err-Cold.field-0 c.in-Err-Cold.block c.in-Err-Cold.field-0-is c.in-Err-Cold.ensures.turned).1

pub fill_part-requires-clause-shares : goal.fill_part-requires-clause-shares
fill_part-requires-clause-shares g c = fetch-shares c.args.mount.now c.args.file c.args.by c.args.from c.args.to c.is_laid_out.ensures c.sizes.ensures.blocks c.sizes.ensures.folios c.requires.some c.requires.within c.requires.part c.args.pass.now c.fetch.new.pass c.args.iov.now c.fetch.new.iov
    (lane_of 0 0 None) c.in-Err-Cold.ensures.of c.in-Err-Cold.ensures.tickets _ c.in-Err-Cold.ensures.turned 2 (omega arith) c.requires.shares

pub returns-in-Ok-clause-tried : goal.returns-in-Ok-clause-tried
returns-in-Ok-clause-tried g c = fetch-tried c.args.mount.now c.args.file c.args.by c.args.from c.args.to c.is_laid_out.ensures c.sizes.ensures.blocks c.sizes.ensures.folios c.requires.some c.requires.within c.requires.part c.args.pass.now c.fetch.new.pass c.args.iov.now c.fetch.new.iov _
    c.in-Ok.ensures.of c.in-Ok.ensures.tickets tt c.in-Ok.ensures.turned

pub returns-in-Err-Away-clause-tried : goal.returns-in-Err-Away-clause-tried
returns-in-Err-Away-clause-tried g c = away-tried c.args.mount.now c.args.file c.args.by c.args.from c.args.to c.is_laid_out.ensures c.sizes.ensures.blocks c.sizes.ensures.folios c.requires.some c.requires.within c.requires.part c.args.pass.now c.fetch.new.pass c.args.iov.now c.fetch.new.iov _
    c.in-Err-Away.ensures.of c.in-Err-Away.ensures.tickets _ c.in-Err-Away.ensures.turned

pub returns-in-Err-Cold-clause-tried : goal.returns-in-Err-Cold-clause-tried
returns-in-Err-Cold-clause-tried g c = cold-tried c.args.mount.now c.args.file c.args.by c.args.from c.args.to c.is_laid_out.ensures c.sizes.ensures.blocks c.sizes.ensures.folios c.requires.some c.requires.within c.requires.part c.args.pass.now c.fetch.new.pass c.args.iov.now c.fetch.new.iov
    _ _ c.fill_part.new.pass c.fetch.new.iov c.fill_part.result c.requires.of c.in-Err-Cold.ensures.of c.in-Err-Cold.ensures.tickets c.requires.room _ c.in-Err-Cold.ensures.turned (c.fill_part.ensures.tried c.args.by c.fetch.new.iov)

pub returns-in-Err : goal.returns-in-Err
returns-in-Err g c = record {
  of = c.in-Err.ensures.of;
  begun = ap (λ (v : PassView). v.begun) c.in-Err.ensures.turned.pass_is;
  tried = memory-tried c.args.mount.now c.args.file c.args.by c.args.from c.args.to c.is_laid_out.ensures c.sizes.ensures.blocks c.sizes.ensures.folios c.requires.some c.requires.within c.requires.part c.args.pass.now c.fetch.new.pass c.args.iov.now c.fetch.new.iov _
      c.in-Err.ensures.of c.in-Err.ensures.tickets _ c.in-Err.ensures.turned;
}
