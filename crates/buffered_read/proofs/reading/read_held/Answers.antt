use Rattle.std.proofs.Common.{◌≡◌, length, refl, sym, ◌∙◌, arith}
use Rattle.mount_parts.specs.MountView.{file_at}
use Rattle.mini_fs.specs.Mappings.{file_end}
use Rattle.mini_fs.proofs.CallEnds.{acted-caller}
use Rattle.buffered_read.specs.Preads.{may_read}
use Rattle.buffered_read.proofs.PreadLemmas.{found-end, held-cut, held-none}
use Rattle.buffered_read.proofs.WarmLemmas.{shares-after}
use Rattle.buffered_read.proofs.reading.read_held.Goals as goal

pub read_cut-requires-clause-caller : goal.read_cut-requires-clause-caller
read_cut-requires-clause-caller g c = let f = c.in-Ok.ensures.found in c.requires.caller ∙ sym (acted-caller f.acts c.args.pass.now c.find_end.new.pass f.did.acted)

pub read_cut-requires-clause-end : goal.read_cut-requires-clause-end
read_cut-requires-clause-end g c =
    let f = c.in-Ok.ensures.found in
    found-end (file_at c.args.mount.now c.args.file).size c.count-asked.result (file_end c.args.mount.now c.args.file) c.args.pass.now.caller c.args.by f.acts c.in-Ok.end f.finds

pub read_cut-requires-clause-shares : goal.read_cut-requires-clause-shares
read_cut-requires-clause-shares g c = let f = c.in-Ok.ensures.found in shares-after c.args.mount.now c.args.file (may_read c.args.by) 2 c.args.pass.now c.find_end.new.pass f.acts (omega arith) f.did c.requires.shares

pub returns-in-Ok-clause-tickets : goal.returns-in-Ok-clause-tickets
returns-in-Ok-clause-tickets g c = λ t is. c.read_cut.ensures.read.read.read.steps.tickets t (c.in-Ok.ensures.tickets t is)

pub returns-in-Ok-clause-read : goal.returns-in-Ok-clause-read
returns-in-Ok-clause-read g c =
    let counted = c.count-asked.ensures.count in
    let start = c.requires.start in
    let asked : c.count-asked.result ≡ length c.args.iov.now.bytes = omega (arith, counted, start) in
    held-cut c.args.mount.now c.args.file c.args.by c.args.off _ _ c.args.pass.now c.find_end.new.pass c.read_cut.new.pass c.args.iov.now c.read_cut.new.iov c.read_cut.result c.requires.of c.in-Ok.end c.count-asked.result asked c.in-Ok.ensures.found c.read_cut.ensures.read

pub returns-in-Err-clause-read : goal.returns-in-Err-clause-read
returns-in-Err-clause-read g c =
    let counted = c.count-asked.ensures.count in
    let start = c.requires.start in
    let asked : c.count-asked.result ≡ length c.args.iov.now.bytes = omega (arith, counted, start) in
    held-none c.args.mount.now c.args.file c.args.by c.args.off _ c.args.pass.now c.find_end.new.pass c.args.iov.now _ _ c.count-asked.result asked c.count-asked.ensures.valid.joined c.in-Err.ensures.found refl
