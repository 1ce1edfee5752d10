use Rattle.std.proofs.Common.{◌++◌, [], ◌∙◌, ap, sym}
use Rattle.file_stripes.specs.Files.{numbers_of_file, numbers_of_files}
use Rattle.file_stripes.specs.Taking.{sector_numbers}
use Rattle.file_stripes.proofs.worked.cut.Goals as goal

pub cut_stripes-requires-clause-held : goal.cut_stripes-requires-clause-held
cut_stripes-requires-clause-held c = (
  [],
  ap sector_numbers c.into_iter-rest.ensures.rest ∙ c.in-Ok-hand_out.ensures.held ∙ ap numbers_of_files (c.as_slice.ensures.value ∙ c.in-Ok.ensures)
      ∙ ap (λ f. numbers_of_file f ++ []) (sym c.in-Ok-file.ensures),
)
