use Rattle.std.proofs.Common.{refl, sym, ◌∙◌, arith}
use Rattle.buffered_read.proofs.PreadLemmas.{found-size}
use Rattle.buffered_read.proofs.reading.find_end.Goals as goal

pub returns-clause-found : goal.returns-clause-found
returns-clause-found g c =
    let some = c.if-asked-eq0.false in
    found-size c.args.mount.now c.args.file c.args.by c.is_laid_out.ensures c.requires.exists c.args.pass.now c.size_turn.new.pass c.size_turn.result _ _ c.args.asked (sym c.sized.ensures ∙ c.if-not-sized.false) (omega (arith, some)) refl c.size_turn.ensures.turned
