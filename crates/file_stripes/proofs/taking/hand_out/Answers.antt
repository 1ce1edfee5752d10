use Rattle.std.proofs.Common.{◌+◌, [], ap, drop, length, arith}
use Rattle.std.proofs.lemmas.List.{drop_all}
use Rattle.file_stripes.specs.Files.{numbers_of_file, numbers_of_files}
use Rattle.file_stripes.proofs.StripeLemmas.{numbers_files-le}
use Rattle.file_stripes.proofs.TakingLemmas.{files_next, finished, going_below, going_more, handed_once, handed_whole, length_numbers}
use Rattle.file_stripes.proofs.taking.hand_out.Goals as goal

pub take_file-requires-clause-below : goal.take_file-requires-clause-below
take_file-requires-clause-below c =
    let fs = c.args.files.now in
    going_below (numbers_of_files (drop c.loop-i.i fs)) (numbers_of_file c.index-files-i.result) (numbers_of_files (drop (c.loop-i.i + 1) fs)) (numbers_of_files fs)
    c.loop-i.held.items [] c.loop-i.places.items c.in_ok-places.places.items (files_next fs c.loop-i.i c.index-files-i.result c.loop-i-test.true c.index-files-i.is) c.loop-i.invariant

pub loop-i-preserved : goal.loop-i-preserved
loop-i-preserved c =
    let fs = c.args.files.now in
    going_more (numbers_of_files (drop c.loop-i.i fs)) (numbers_of_file c.index-files-i.result) (numbers_of_files (drop (c.loop-i.i + 1) fs)) (numbers_of_files fs)
    c.loop-i.held.items [] c.take_file.new.held.items c.loop-i.places.items c.in_ok-places.places.items c.take_file.new.places.items
    (files_next fs c.loop-i.i c.index-files-i.result c.loop-i-test.true c.index-files-i.is) c.loop-i.invariant c.in_ok-take_file.ensures.held c.in_ok-take_file.ensures.places

pub returns-clause-held : goal.returns-clause-held
returns-clause-held c =
    let handed =
    finished c.args.sectors.items c.loop-i.held.items c.in_ok-free.free.items (numbers_of_files (drop c.loop-i.i c.args.files.now)) (numbers_of_files c.args.files.now)
    c.loop-i.places.items c.in_ok-places.places.items c.requires.device c.requires.named c.in_ok-places.ensures
    (ap numbers_of_files (drop_all c.loop-i.i c.args.files.now (omega arith))) c.loop-i.invariant c.in_ok-free.ensures in
    handed.numbers

pub returns-clause-free : goal.returns-clause-free
returns-clause-free c =
    let handed =
    finished c.args.sectors.items c.loop-i.held.items c.in_ok-free.free.items (numbers_of_files (drop c.loop-i.i c.args.files.now)) (numbers_of_files c.args.files.now)
    c.loop-i.places.items c.in_ok-places.places.items c.requires.device c.requires.named c.in_ok-places.ensures
    (ap numbers_of_files (drop_all c.loop-i.i c.args.files.now (omega arith))) c.loop-i.invariant c.in_ok-free.ensures in
    handed.left

pub returns-clause-all : goal.returns-clause-all
returns-clause-all c =
    let handed =
    finished c.args.sectors.items c.loop-i.held.items c.in_ok-free.free.items (numbers_of_files (drop c.loop-i.i c.args.files.now)) (numbers_of_files c.args.files.now)
    c.loop-i.places.items c.in_ok-places.places.items c.requires.device c.requires.named c.in_ok-places.ensures
    (ap numbers_of_files (drop_all c.loop-i.i c.args.files.now (omega arith))) c.loop-i.invariant c.in_ok-free.ensures in
    handed.all

pub returns-clause-once : goal.returns-clause-once
returns-clause-once c =
    let handed =
    finished c.args.sectors.items c.loop-i.held.items c.in_ok-free.free.items (numbers_of_files (drop c.loop-i.i c.args.files.now)) (numbers_of_files c.args.files.now)
    c.loop-i.places.items c.in_ok-places.places.items c.requires.device c.requires.named c.in_ok-places.ensures
    (ap numbers_of_files (drop_all c.loop-i.i c.args.files.now (omega arith))) c.loop-i.invariant c.in_ok-free.ensures in
    handed_once c.args.sectors.items c.loop-i.held.items c.in_ok-free.free.items (numbers_of_files c.args.files.now) c.requires.device handed

pub returns-clause-whole : goal.returns-clause-whole
returns-clause-whole c =
    let handed =
    finished c.args.sectors.items c.loop-i.held.items c.in_ok-free.free.items (numbers_of_files (drop c.loop-i.i c.args.files.now)) (numbers_of_files c.args.files.now)
    c.loop-i.places.items c.in_ok-places.places.items c.requires.device c.requires.named c.in_ok-places.ensures
    (ap numbers_of_files (drop_all c.loop-i.i c.args.files.now (omega arith))) c.loop-i.invariant c.in_ok-free.ensures in
    λ size w. handed_whole size c.args.sectors.items c.loop-i.held.items c.in_ok-free.free.items (numbers_of_files c.args.files.now) handed w

pub returns-clause-few : goal.returns-clause-few
returns-clause-few c =
    let handed =
    finished c.args.sectors.items c.loop-i.held.items c.in_ok-free.free.items (numbers_of_files (drop c.loop-i.i c.args.files.now)) (numbers_of_files c.args.files.now)
    c.loop-i.places.items c.in_ok-places.places.items c.requires.device c.requires.named c.in_ok-places.ensures
    (ap numbers_of_files (drop_all c.loop-i.i c.args.files.now (omega arith))) c.loop-i.invariant c.in_ok-free.ensures in
    omega (arith, length_numbers c.loop-i.held.items, ap length handed.numbers, numbers_files-le c.args.files.now)
