use Rattle.extent_map.proofs.Setting.{glued_short, joined_after, put_after, put_short}
use Rattle.extent_map.specs.Splicing.{run_at}
use Rattle.extent_map.proofs.edit.set_run.Goals as goal

pub join-requires-clause-short : goal.join-requires-clause-short
join-requires-clause-short c =
    let s = c.splice-from.ensures.stands in
    put_short c.args.runs.now.items s.l s.r c.splice-from.new.runs.items c.args.b c.args.n c.args.kind s.front s.back c.requires.inside c.requires.kept.short s.is

pub join_before-requires-clause-short : goal.join_before-requires-clause-short
join_before-requires-clause-short c =
    let s = c.splice-from.ensures.stands in
    glued_short c.args.runs.now.items s.l s.r c.join.new.runs.items c.args.b c.args.n c.args.kind s.front s.back c.requires.inside c.requires.kept.short
    (joined_after c.splice-from.new.runs.items c.join.new.runs.items s.l s.r (run_at c.args.b c.args.n c.args.kind) c.splice-from.result s.long s.is c.join.ensures.items)

pub returns-clause-kinds : goal.returns-clause-kinds
returns-clause-kinds c =
    (put_after c.args.runs.now.items c.splice-from.new.runs.items c.join.new.runs.items c.join_before.new.runs.items c.args.b c.args.n c.args.kind c.splice-from.result
    c.splice-from.ensures.stands c.join.ensures.items c.join_before.ensures.items c.requires.some c.requires.numbers c.requires.inside c.requires.kept.short).kinds

pub returns-clause-kept : goal.returns-clause-kept
returns-clause-kept c =
    (put_after c.args.runs.now.items c.splice-from.new.runs.items c.join.new.runs.items c.join_before.new.runs.items c.args.b c.args.n c.args.kind c.splice-from.result
    c.splice-from.ensures.stands c.join.ensures.items c.join_before.ensures.items c.requires.some c.requires.numbers c.requires.inside c.requires.kept.short).kept

pub returns-clause-length : goal.returns-clause-length
returns-clause-length c =
    (put_after c.args.runs.now.items c.splice-from.new.runs.items c.join.new.runs.items c.join_before.new.runs.items c.args.b c.args.n c.args.kind c.splice-from.result
    c.splice-from.ensures.stands c.join.ensures.items c.join_before.ensures.items c.requires.some c.requires.numbers c.requires.inside c.requires.kept.short).as_long
