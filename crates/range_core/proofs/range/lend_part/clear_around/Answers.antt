use Rattle.std.proofs.Common.{◌+◌, ℕ, List, length, drop, sym, ◌∙◌, ap, arith, length-append, length-drop}
use Rattle.std.proofs.lemmas.List.{drop-replicate, length-replicate, length-take-le, take-replicate}
use Rattle.io_model.specs.Contents.{zeros}
use Rattle.range_core.proofs.AroundLemmas.{around_laid}
use Rattle.range_core.proofs.range.lend_part.clear_around.Goals as goal

pub returns : goal.returns
returns c =
    let at : ℕ = c.args.part.at in
    let end : ℕ = at + c.args.part.length in
    let bytes : List ℕ = c.args.bytes.now in
    let many : ℕ = length bytes in
    let within = c.requires in
    around_laid at c.args.part.length bytes (zeros many) c.blank_bytes.new.bytes c.blank_bytes-2.new.bytes within (length-replicate many 0)
    (c.blank_bytes.ensures ∙ ap zeros (length-take-le at bytes (omega arith)) ∙ sym (take-replicate at many 0 (omega arith)))
    (c.blank_bytes-2.ensures ∙ ap zeros (omega (arith, length-append c.blank_bytes.new.bytes (drop at bytes), length-drop at bytes)) ∙ sym (drop-replicate end many 0))
