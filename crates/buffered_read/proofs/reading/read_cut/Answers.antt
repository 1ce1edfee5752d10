use Rattle.std.proofs.Common.{◌≡◌, ◌+◌, ◌≤◌, ◌-◌, length, refl, arith}
use Rattle.buffered_read.proofs.PreadLemmas.{cut-read}
use Rattle.call_parts.proofs.ReadyLemmas.{some-bytes}
use Rattle.buffered_read.proofs.reading.read_cut.Goals as goal

pub read_range-came-requires-clause-order : goal.read_range-came-requires-clause-order
read_range-came-requires-clause-order g c = (let to = c.read_to-to.ensures in omega (arith, to))

pub read_range-came-requires-clause-within : goal.read_range-came-requires-clause-within
read_range-came-requires-clause-within g c = λ some. (let to = c.read_to-to.ensures in let end = c.requires.end in omega (arith, to, end, some))

pub read_range-came-requires-clause-room : goal.read_range-came-requires-clause-room
read_range-came-requires-clause-room g c =
    let to = c.read_to-to.ensures in
    let counted = c.count-asked.ensures.count in
    let start = c.requires.start in
    let fits : c.args.iov.now.place + (c.read_to-to.result - c.args.off) ≤ length c.args.iov.now.bytes = omega (arith, to, counted, start) in
    record { within = fits; home = λ b low below. c.requires.home b (omega arith) (omega (arith, below, fits)) }

pub returns-clause-read : goal.returns-clause-read
returns-clause-read g c =
    let counted = c.count-asked.ensures.count in
    let start = c.requires.start in
    let asked : c.count-asked.result ≡ length c.args.iov.now.bytes = omega (arith, counted, start) in
    cut-read c.args.mount.now c.args.file c.args.by c.args.off c.args.end _ _ c.args.pass.now c.read_range-came.new.pass c.args.iov.now c.read_range-came.new.iov (record { reply = c.read_reply.result; bios = c.read_range-came.result.bios }) c.read_range-came.result
    (some-bytes c.args.mount.now.geometry.block_size c.sizes.ensures.blocks) c.count-asked.result c.read_to-to.result asked c.count-asked.ensures.valid.joined c.read_to-to.ensures c.read_range-came.ensures.read c.read_reply.ensures refl
