use Rattle.std.proofs.Common.{◌≡◌, ℕ, ◌+◌, ◌≤◌, List, ◌++◌, length, take, drop, replicate, sym, ◌∙◌, ap, arith}
use Rattle.std.proofs.lemmas.List.{length-drop}
use Rattle.iob_base.specs.DeviceBlock.{DeviceBlock}
use Rattle.io_model.specs.Contents.{device_bytes}
use Rattle.iomap_replay.proofs.Devices.{length-blocks_with}
use Rattle.iomap_replay.proofs.OneRange.{beside_is, device_is, own_is, first_is}
use Rattle.iomap_replay.specs.Devices.{blocks_with, content_given, first_number}
use Rattle.iomap_replay.proofs.range.sectors_of.Goals as goal

pub split_off-requires : goal.split_off-requires
split_off-requires c =
    let on = c.requires.shape.tail.extent in
    let many = ap length c.in_ok-free.ensures ∙ length-blocks_with _ 0 c.args.job.now.device.blocks in
    let first = c.first_sector-first.ensures ∙ first_is c.args.job.now.extent on.mapped.0 on.mapped.1 in
    omega (arith, many, first, on.mapped.2, c.in_ok-free.free.ok.0)

pub split_off-requires-2 : goal.split_off-requires-2
split_off-requires-2 c =
    let on = c.requires.shape.tail.extent in
    let many = ap length c.in_ok-free.ensures ∙ length-blocks_with _ 0 c.args.job.now.device.blocks in
    let first = c.first_sector-first.ensures ∙ first_is c.args.job.now.extent on.mapped.0 on.mapped.1 in
    let cut = ap length c.in_ok-own.ensures.tail ∙ length-drop c.first_sector-first.result c.in_ok-free.free.items in
    omega (arith, many, first, cut, on.mapped.2, c.in_ok-own.own.ok.0)

pub returns-clause-own : goal.returns-clause-own
returns-clause-own c =
    let on = c.requires.shape.tail.extent in
    let script = c.args.script.now in
    let job = c.args.job.now in
    let made = c.in_ok-free.ensures
    ∙ ap (λ given. blocks_with (content_given given (replicate job.device.block_size job.device.fill)) 0 job.device.blocks) c.as_slice.ensures
    ∙ device_is script job job.device.blocks c.requires in
    c.in_ok-rest.ensures.items
    ∙ ap (take job.extent.length) (c.in_ok-own.ensures.tail
    ∙ ap (drop c.first_sector-first.result) made ∙ ap (λ k. drop k (blocks_with (device_bytes script) 0 job.device.blocks)) (c.first_sector-first.ensures ∙ first_is job.extent on.mapped.0 on.mapped.1))
    ∙ own_is (device_bytes script) on.mapped.0 job.extent.length job.device.blocks on.mapped.2
    ∙ ap (λ n. blocks_with (device_bytes script) n job.extent.length) (sym (first_is job.extent on.mapped.0 on.mapped.1))

pub returns-clause-free : goal.returns-clause-free
returns-clause-free c =
    let on = c.requires.shape.tail.extent in
    let script = c.args.script.now in
    let job = c.args.job.now in
    let n : ℕ = job.extent.length in
    let d : ℕ = first_number job.extent.kind in
    let all : List DeviceBlock = blocks_with (device_bytes script) 0 job.device.blocks in
    let made : c.in_ok-free.free.items ≡ all = c.in_ok-free.ensures
    ∙ ap (λ given. blocks_with (content_given given (replicate job.device.block_size job.device.fill)) 0 job.device.blocks) c.as_slice.ensures
    ∙ device_is script job job.device.blocks c.requires in
    let cut : c.split_off.new.self.items ≡ take d all = c.in_ok-own.ensures.items ∙ ap (take c.first_sector-first.result) made ∙ ap (λ k. take k all) c.first_sector-first.ensures in
    let own : c.in_ok-own.own.items ≡ drop d all = c.in_ok-own.ensures.tail ∙ ap (drop c.first_sector-first.result) made ∙ ap (λ k. drop k all) c.first_sector-first.ensures in
    let rest : c.in_ok-rest.rest.items ≡ drop n (drop d all) = c.in_ok-rest.ensures.tail ∙ ap (drop n) own in
    let within : d + n ≤ job.device.blocks = omega (arith, first_is job.extent on.mapped.0 on.mapped.1, on.mapped.2) in
    c.in_ok-append.ensures.items ∙ ap (λ f. f ++ c.in_ok-rest.rest.items) cut ∙ ap (λ r. take d all ++ r) rest
    ∙ beside_is (device_bytes script) d n job.device.blocks within
