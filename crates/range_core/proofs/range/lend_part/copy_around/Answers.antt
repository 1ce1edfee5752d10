use Rattle.std.proofs.Common.{◌-◌, ◌+◌, ℕ, List, length, drop, ◌∙◌, arith, length-drop}
use Rattle.std.proofs.lemmas.List.{take_all}
use Rattle.range_core.proofs.AroundLemmas.{around_laid}
use Rattle.range_core.proofs.range.lend_part.copy_around.Goals as goal

pub returns : goal.returns
returns c =
    let end : ℕ = c.args.part.at + c.args.part.length in
    let around : List ℕ = c.args.around.now in
    let within = c.requires.within in
    around_laid c.args.part.at c.args.part.length c.args.bytes.now around c.copy_from_slice.new.self c.copy_from_slice-2.new.self within c.requires.long c.copy_from_slice.ensures.after
    (c.copy_from_slice-2.ensures.after ∙ take_all (length around - end) (drop end around) (omega (arith, length-drop end around)))
