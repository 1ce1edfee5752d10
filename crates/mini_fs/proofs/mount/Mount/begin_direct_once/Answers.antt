use Rattle.std.proofs.Common.{◌≡◌, false, true, sym, ◌∙◌, subst}
use Rattle.range_core.specs.Kinds.{has_space}
use Rattle.mini_fs.specs.MapTurns.{MadeTurns}
use Rattle.mini_fs.specs.Mappings.{IsRoundOfDirect}
use Rattle.mini_fs.proofs.Begins.{made-none, made-place, made-space}
use Rattle.mini_fs.proofs.mount.Mount.begin_direct_once.Goals as goal

pub returns-then-has_space-clause-made : goal.returns-then-has_space-clause-made
returns-then-has_space-clause-made g c =
    let space : has_space c.look-seen.result.extent.kind ≡ true = sym c.has_space.ensures ∙ c.if-has_space.true in
    made-space c.args.self.now c.args.file c.args.block c.args.most c.look-seen.result c.args.pass.now c.look-seen.new.pass c.look-seen.new.pass c.look-seen.ensures.turn c.args.new c.begun.result space c.begun.ensures.is

pub returns-in-Ok-clause-made : goal.returns-in-Ok-clause-made
returns-in-Ok-clause-made g c =
    let lacks : has_space c.look-seen.result.extent.kind ≡ false = sym c.has_space.ensures ∙ c.if-has_space.false in
    made-place c.args.self.now c.args.file c.args.block c.args.most c.look-seen.result c.args.pass.now c.look-seen.new.pass c.place.new.pass c.look-seen.ensures.turn c.args.new c.in-Ok.field-0 lacks c.look-seen.ensures.starts c.in-Ok.ensures.turn

pub returns-in-Err-clause-made : goal.returns-in-Err-clause-made
returns-in-Err-clause-made g c =
    let lacks : has_space c.look-seen.result.extent.kind ≡ false = sym c.has_space.ensures ∙ c.if-has_space.false in
    subst (λ o. MadeTurns c.args.self.now c.args.file (IsRoundOfDirect c.args.self.now c.args.file c.args.block c.args.most c.args.new o) c.args.pass.now c.place.new.pass) (sym c.refusal_of.ensures)
    (made-none c.args.self.now c.args.file c.args.block c.args.most c.look-seen.result c.args.pass.now c.look-seen.new.pass c.place.new.pass c.look-seen.ensures.turn c.args.new c.in-Err.fault lacks c.look-seen.ensures.starts c.in-Err.ensures.turn c.in-Err.ensures.err)
