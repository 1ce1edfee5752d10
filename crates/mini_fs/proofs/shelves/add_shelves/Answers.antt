use Rattle.std.proofs.Common.{◌≡◌, ◌++◌, take, length, ap, ◌∙◌, arith}
use Rattle.mini_fs.proofs.ShelfLists.{full-part, whole-part}
use Rattle.mini_fs.proofs.shelves.add_shelves.Goals as goal

pub returns-then-len-ge-SHELVES-clause-both : goal.returns-then-len-ge-SHELVES-clause-both
returns-then-len-ge-SHELVES-clause-both c =
    let few = c.loop.invariant.few in
    let ok = c.loop.shelves.ok.0 in
    let len = c.len.ensures in
    let full = c.if-len-ge-SHELVES.true in
    full-part 32 c.loop.counter c.args.shelves.now.items c.args.from.items c.loop.shelves.items c.loop.invariant.both (omega arith)

pub returns-clause-both : goal.returns-clause-both
returns-clause-both c =
    let few = c.loop.invariant.few in
    let ok = c.loop.shelves.ok.0 in
    let all = c.args.from.ok.0 in
    let len = c.len-end.ensures in
    let past = c.loop-test.false in
    let most = c.loop.auto.counter-end in
    let e : c.loop.counter ≡ length c.args.from.items = omega arith in
    whole-part 32 c.args.shelves.now.items c.args.from.items c.loop.shelves.items (c.loop.invariant.both ∙ ap (λ n. c.args.shelves.now.items ++ take n c.args.from.items) e) (omega arith)
