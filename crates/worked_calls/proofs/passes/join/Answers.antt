use Rattle.std.proofs.Common.{sym, ap, ◌∙◌, subst}
use Rattle.mini_fs.specs.PassView.{IsPassOf}
use Rattle.worked_mounts.specs.Alone.{IsAlone, share_of}
use Rattle.worked_mounts.proofs.Parting.{joined-alone, joined-share}
use Rattle.worked_calls.proofs.passes.join.Goals as goal

pub returns-clause-alone : goal.returns-clause-alone
returns-clause-alone g c =
    let m = c.args.mount.now in
    let p = c.args.pass.now in
    let from = c.args.other in
    let done = c.join_pass.ensures in
    subst (IsAlone m) (sym done.joined) (joined-alone m p from c.requires.alone c.requires.other (subst (IsPassOf m) done.joined done.of))

pub returns-clause-share : goal.returns-clause-share
returns-clause-share g c = ap share_of c.join_pass.ensures.joined ∙ joined-share c.args.mount.now c.args.pass.now c.args.other c.requires.alone c.requires.other
