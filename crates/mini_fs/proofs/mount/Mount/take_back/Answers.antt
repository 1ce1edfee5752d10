use Rattle.std.proofs.Common.{◌≡◌, true, sym, ◌∙◌}
use Rattle.mini_fs.specs.Mappings.{leaves_promises}
use Rattle.mini_fs.proofs.Begins.{made-back}
use Rattle.mini_fs.proofs.MapSteps.{run-ready}
use Rattle.mini_fs.proofs.mount.Mount.take_back.Goals as goal

pub unreserve-requires-clause-ready : goal.unreserve-requires-clause-ready
unreserve-requires-clause-ready g c =
    let extent = c.args.begun.sample.extent in
    run-ready c.args.self.now c.args.iomap.now.file c.is_laid_out.ensures c.args.pass.now extent.block extent.length c.requires.lies.some c.requires.lies.within c.requires.lies.stripe

pub returns-clause-made : goal.returns-clause-made
returns-clause-made g c =
    let leaves : leaves_promises c.args.iomap.now c.args.written ≡ true = sym c.leaves_promises.ensures ∙ c.if-not-leaves_promises.false in
    made-back c.args.self.now c.args.iomap.now.file c.args.begun.sample.extent (leaves_promises c.args.iomap.now c.args.written) c.unreserve.result c.args.pass.now c.unreserve.new.pass leaves c.unreserve.ensures.turned
