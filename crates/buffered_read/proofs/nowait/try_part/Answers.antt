use Rattle.std.proofs.Common.{sym, ap, ◌∙◌, subst}
use Rattle.range_core.specs.Fetches.{CanFetch}
use Rattle.mini_fs.specs.PassView.{claims_of}
use Rattle.call_parts.specs.Parts.{part_end}
use Rattle.call_parts.proofs.ReadyLemmas.{part-ready}
use Rattle.buffered_read.proofs.TryLemmas.{tried-part}
use Rattle.buffered_read.proofs.nowait.try_part.Goals as goal

pub try_fetch-requires-clause-ready : goal.try_fetch-requires-clause-ready
try_fetch-requires-clause-ready c = λ cell seat stand.
    subst (λ n. CanFetch cell.opening c.args.at n c.args.iov.now) (sym (c.part_end-next.ensures ∙ ap (λ g. part_end g c.args.to c.args.at) c.sizes.ensures.is))
    (part-ready c.args.mount.now c.args.file c.is_laid_out.ensures c.sizes.ensures.blocks c.sizes.ensures.folios c.args.at c.args.to c.requires.some c.requires.within c.requires.mode c.args.iov.now c.requires.room cell stand.cell_is)

pub returns-clause-tried : goal.returns-clause-tried
returns-clause-tried c =
    tried-part c.args.mount.now c.args.file c.args.by c.args.at c.args.to c.args.pass.now c.try_fetch.new.pass c.args.iov.now c.try_fetch.new.iov (claims_of c.args.pass.now)
    c.is_laid_out.ensures c.sizes.ensures.blocks c.sizes.ensures.folios c.requires.some c.requires.within c.requires.caller
    c.part_end-next.result (c.part_end-next.ensures ∙ ap (λ g. part_end g c.args.to c.args.at) c.sizes.ensures.is)
    c.try_fetch.result c.try_fetch.ensures.turned c.try_fetch.ensures.free c.try_fetch.ensures.busy c.try_fetch.ensures.nothing c.told.result c.told.ensures
