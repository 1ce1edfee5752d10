use Rattle.std.proofs.Common.{◌+◌, ◌-◌, arith}
use Rattle.std.specs.Option.{option_to_list}
use Rattle.extent_map.proofs.Following.{read_at}
use Rattle.extent_map.proofs.Setting.{between, lies_in, places_in_order}
use Rattle.extent_map.proofs.edit.splice.Goals as goal

pub rest_above-rest-requires-clause-from : goal.rest_above-rest-requires-clause-from
rest_above-rest-requires-clause-from c =
    let p = lies_in _ _ _ _ c.deref-2.ensures.value c.place_of-last.ensures in
    let r = read_at c.args.runs.now.items c.place_of-last.result c.index.result.now c.requires.kept.follow p.within c.index.ensures in
    omega (arith, r.begins.at, p.from)

pub rest_above-rest-requires-clause-fits : goal.rest_above-rest-requires-clause-fits
rest_above-rest-requires-clause-fits c =
    let p = lies_in _ _ _ _ c.deref-2.ensures.value c.place_of-last.ensures in
    (read_at c.args.runs.now.items c.place_of-last.result c.index.result.now c.requires.kept.follow p.within c.index.ensures).begins.fits

pub replace-requires-clause-order : goal.replace-requires-clause-order
replace-requires-clause-order c =
    let p = lies_in _ _ _ _ c.deref.ensures.value c.place_of-first.ensures in
    let q = lies_in _ _ _ _ c.deref-2.ensures.value c.place_of-last.ensures in
    let order = places_in_order c.args.runs.now.items c.args.b (c.args.b + c.args.n - 1) c.place_of-first.result c.place_of-last.result p q (omega arith) in
    omega (arith, order, c.cut_below-from.ensures.place)

pub returns-clause-stands : goal.returns-clause-stands
returns-clause-stands c =
    let p = lies_in _ _ _ _ c.deref.ensures.value c.place_of-first.ensures in
    let q = lies_in _ _ _ _ c.deref-2.ensures.value c.place_of-last.ensures in
    between c.args.runs.now.items c.cut_below-from.new.runs.items c.replace.new.runs.items c.put_rest.new.runs.items (option_to_list c.rest_above-rest.result)
    c.args.b c.args.n c.args.kind c.place_of-first.result c.place_of-last.result c.cut_below-from.result c.index.result.now
    c.requires.kept c.requires.some p q c.index.ensures c.rest_above-rest.ensures c.cut_below-from.ensures.front
    (omega (arith, c.cut_below-from.ensures.place, c.cut_below-from.ensures.len, p.within)) c.cut_below-from.ensures.back
    c.replace.ensures.items c.put_rest.ensures.items
