use Rattle.std.proofs.Common.{sym, ap, ◌∙◌, subst, ◌≡◌, ◌*◌}
use Rattle.std.specs.Prelude.{max}
use Rattle.buffered_read.specs.Warms.{TriesPart}
use Rattle.call_parts.proofs.ReadyLemmas.{some-bytes}
use Rattle.buffered_read.proofs.WarmLemmas.{fill-share, fill-tried}
use Rattle.buffered_read.proofs.warm.fill_part.Goals as goal

pub fill_cold-requires-clause-share : goal.fill_cold-requires-clause-share
fill_cold-requires-clause-share g c =
    fill-share c.args.mount.now c.args.file c.is_laid_out.ensures c.sizes.ensures.blocks c.sizes.ensures.folios c.args.from c.args.to c.args.block c.requires.some c.requires.within c.requires.part c.requires.first c.requires.last c.args.pass.now c.requires.shares

pub returns-clause-tried : goal.returns-clause-tried
returns-clause-tried g c =
    let size = c.from-size.ensures ∙ c.block_size.ensures.value ∙ ap (λ v. v.block_size) c.sizes.ensures.is in
    let start : c.max-start.result ≡ max c.args.from (c.args.block * c.args.mount.now.geometry.block_size) = c.max-start.ensures ∙ ap (λ n. max c.args.from (c.args.block * n)) size in
    λ by iov. subst (TriesPart c.args.mount.now c.args.file by c.args.from c.args.to _ _ c.args.pass.now c.fill_cold.new.pass iov iov) (sym c.told_fill.ensures)
    (fill-tried c.args.mount.now c.args.file by c.args.from c.args.to c.args.block _ c.max-start.result (some-bytes c.args.mount.now.geometry.block_size c.sizes.ensures.blocks) c.requires.some c.requires.first c.requires.last start _ _ c.args.pass.now c.fill_cold.new.pass iov
    c.fill_cold.result c.fill_cold.ensures.filled)
