use Rattle.std.proofs.Common.{◌≡◌, Ok, Err, false, true, if◌then◌else◌, sym, ap, ◌∙◌}
use Rattle.iomap_core.specs.declared.ops.BeginFault.TheVariants.{NotOverwrite}
use Rattle.range_core.specs.Kinds.{is_mapped}
use Rattle.mini_fs.specs.Mappings.{begun_of}
use Rattle.mini_fs.proofs.Begins.{made-overwrite}
use Rattle.mini_fs.proofs.mount.Mount.begin_overwrite.Goals as goal

pub returns-then-not-is_mapped-clause-made : goal.returns-then-not-is_mapped-clause-made
returns-then-not-is_mapped-clause-made g c =
    let seen = c.look-seen.result in
    let not' : is_mapped seen.extent.kind ≡ false = sym c.is_mapped.ensures ∙ c.if-not-is_mapped.true in
    made-overwrite c.args.self.now c.args.file c.args.block c.args.most seen c.args.pass.now c.look-seen.new.pass c.look-seen.new.pass c.look-seen.ensures.turn (Err (NotOverwrite c.args.block))
    (ap (λ b. if b then Ok (begun_of c.args.self.now c.args.file false seen) else Err (NotOverwrite c.args.block)) (sym not'))

pub returns-clause-made : goal.returns-clause-made
returns-clause-made g c =
    let seen = c.look-seen.result in
    let is : is_mapped seen.extent.kind ≡ true = sym c.is_mapped.ensures ∙ c.if-not-is_mapped.false in
    made-overwrite c.args.self.now c.args.file c.args.block c.args.most seen c.args.pass.now c.look-seen.new.pass c.look-seen.new.pass c.look-seen.ensures.turn (Ok c.begun.result)
    (ap Ok c.begun.ensures.is ∙ ap (λ b. if b then Ok (begun_of c.args.self.now c.args.file false seen) else Err (NotOverwrite c.args.block)) (sym is))
