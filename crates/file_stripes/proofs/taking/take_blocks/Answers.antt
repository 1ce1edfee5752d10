use Rattle.std.proofs.Common.{◌+◌, ◌∷◌, [], ap, drop, get_or, arith}
use Rattle.std.proofs.lemmas.List.{drop_all}
use Rattle.io_model.specs.declared.file.Kind.TheVariants.{Hole}
use Rattle.file_stripes.specs.Kinds.{numbers_of}
use Rattle.file_stripes.proofs.StripeLemmas.{numbers_next}
use Rattle.file_stripes.proofs.TakingLemmas.{going_all, going_below, going_more, going_none}
use Rattle.file_stripes.proofs.taking.take_blocks.Goals as goal

pub loop-i-init : goal.loop-i-init
loop-i-init c = going_all (numbers_of c.args.kinds.now) c.args.held.now.items c.args.places.now.items c.requires

pub take_block-requires : goal.take_block-requires
take_block-requires c =
    let ks = c.args.kinds.now in
    going_below (numbers_of (drop c.loop-i.i ks)) (numbers_of (get_or ks c.loop-i.i Hole ∷ [])) (numbers_of (drop (c.loop-i.i + 1) ks)) (numbers_of ks)
    c.loop-i.held.items c.args.held.now.items c.loop-i.places.items c.args.places.now.items (numbers_next ks c.loop-i.i Hole c.loop-i-test.true) c.loop-i.invariant

pub loop-i-preserved : goal.loop-i-preserved
loop-i-preserved c =
    let ks = c.args.kinds.now in
    going_more (numbers_of (drop c.loop-i.i ks)) (numbers_of (get_or ks c.loop-i.i Hole ∷ [])) (numbers_of (drop (c.loop-i.i + 1) ks)) (numbers_of ks)
    c.loop-i.held.items c.args.held.now.items c.take_block.new.held.items c.loop-i.places.items c.args.places.now.items c.take_block.new.places.items
    (numbers_next ks c.loop-i.i Hole c.loop-i-test.true) c.loop-i.invariant c.in_ok-take_block.ensures.held c.in_ok-take_block.ensures.places

pub returns-clause-held : goal.returns-clause-held
returns-clause-held c =
    let ks = c.args.kinds.now in
    (going_none (numbers_of (drop c.loop-i.i ks)) (numbers_of ks) c.loop-i.held.items c.args.held.now.items c.loop-i.places.items c.args.places.now.items
    (ap numbers_of (drop_all c.loop-i.i ks (omega arith))) c.loop-i.invariant).0

pub returns-clause-places : goal.returns-clause-places
returns-clause-places c =
    let ks = c.args.kinds.now in
    (going_none (numbers_of (drop c.loop-i.i ks)) (numbers_of ks) c.loop-i.held.items c.args.held.now.items c.loop-i.places.items c.args.places.now.items
    (ap numbers_of (drop_all c.loop-i.i ks (omega arith))) c.loop-i.invariant).1
