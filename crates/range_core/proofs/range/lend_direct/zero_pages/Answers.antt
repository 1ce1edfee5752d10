use Rattle.std.proofs.Common.{◌≡◌, length, map, ap, ◌∙◌}
use Rattle.std.proofs.lemmas.List.{length-map}
use Rattle.range_core.specs.LendDirects.{part_zeroed}
use Rattle.range_core.proofs.DirectNowLemmas.{refill-whole}
use Rattle.range_core.proofs.PartRuns.{zeroed-bare}
use Rattle.range_core.proofs.range.lend_direct.zero_pages.Goals as goal

pub returns : goal.returns
returns c =
    let is : c.zero_run.new.parts ≡ map part_zeroed c.args.pages = c.zero_run.ensures ∙ ap (map part_zeroed) c.as_mut_slice.ensures.value in
    refill-whole c.args.pages c.zero_run.new.parts (ap length is ∙ length-map c.args.pages part_zeroed) ∙ is ∙ zeroed-bare c.args.pages c.requires
