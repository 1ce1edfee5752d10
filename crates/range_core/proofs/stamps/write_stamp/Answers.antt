use Rattle.std.proofs.Common.{◌++◌, ◌∷◌, [], set, ◌∙◌, ap, arith}
use Rattle.range_core.proofs.StampLemmas.{set-added, with_journal}
use Rattle.range_core.proofs.stamps.write_stamp.Goals as goal

pub returns : goal.returns
returns c =
    let end = c.index_mut-end.result.now in
    ap (λ s. set c.args.ends.now.items c.args.at (with_journal end s)) c.in_ok-push.ensures.ok
    ∙ ap (λ e. set c.args.ends.now.items c.args.at (with_journal e (e.journal ++ c.args.stamp ∷ []))) c.index_mut-end.ensures.value
    ∙ set-added c.args.ends.now.items c.args.at end c.args.stamp (omega (arith, c.args.ends.now.ok.0, c.requires))
