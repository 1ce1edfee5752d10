use Rattle.std.proofs.Common.{◌≡◌, false, true, sym, ◌∙◌, subst}
use Rattle.range_core.specs.Kinds.{is_hole}
use Rattle.mini_fs.specs.MapTurns.{MadeTurns}
use Rattle.mini_fs.specs.Mappings.{IsTryOfWrite}
use Rattle.mini_fs.proofs.Begins.{hole-is, made-promise, made-refusal, made-used}
use Rattle.mini_fs.proofs.mount.Mount.begin_write_once.Goals as goal

pub returns-then-not-is_hole-clause-made : goal.returns-then-not-is_hole-clause-made
returns-then-not-is_hole-clause-made g c =
    let used : is_hole c.look-seen.result.extent.kind ≡ false = sym c.is_hole.ensures ∙ c.if-not-is_hole.true in
    made-used c.args.self.now c.args.file c.args.block c.args.most c.look-seen.result c.args.pass.now c.look-seen.new.pass c.look-seen.new.pass c.look-seen.ensures.turn c.begun.result used c.begun.ensures.is

pub returns-in-Ok-clause-made : goal.returns-in-Ok-clause-made
returns-in-Ok-clause-made g c =
    let hole : is_hole c.look-seen.result.extent.kind ≡ true = sym c.is_hole.ensures ∙ c.if-not-is_hole.false in
    made-promise c.args.self.now c.args.file c.args.block c.args.most c.look-seen.result c.args.pass.now c.look-seen.new.pass c.promise.new.pass c.look-seen.ensures.turn c.in-Ok.promised c.begun-in-Ok.result (hole-is c.look-seen.result.extent.kind hole) c.in-Ok.ensures.turn c.begun-in-Ok.ensures.is

pub returns-in-Err-clause-made : goal.returns-in-Err-clause-made
returns-in-Err-clause-made g c =
    let hole : is_hole c.look-seen.result.extent.kind ≡ true = sym c.is_hole.ensures ∙ c.if-not-is_hole.false in
    subst (λ o. MadeTurns c.args.self.now c.args.file (IsTryOfWrite c.args.self.now c.args.file c.args.block c.args.most o) c.args.pass.now c.promise.new.pass) (sym c.refusal_of.ensures)
    (made-refusal c.args.self.now c.args.file c.args.block c.args.most c.look-seen.result c.args.pass.now c.look-seen.new.pass c.promise.new.pass c.look-seen.ensures.turn c.in-Err.fault (hole-is c.look-seen.result.extent.kind hole) c.in-Err.ensures.turn c.in-Err.ensures.err)
