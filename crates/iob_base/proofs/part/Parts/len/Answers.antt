use Rattle.std.proofs.Common.{sym, ap, ◌∙◌, length}
use Rattle.std.proofs.lemmas.List.{length-map}
use Rattle.arrayvec.specs.ArrayVec.{ArrayVec}
use Rattle.iob_base.specs.declared.part.Part.{Part}
use Rattle.iob_base.proofs.part.Parts.len.Goals as goal

pub returns-clause-pages : goal.returns-clause-pages
returns-clause-pages c = c.len.ensures.value ∙ ap (λ (v : ArrayVec Part). length v.items) c.deref.ensures ∙ ap length c.self.view_is ∙ sym (length-map c.args.self.now (λ (p : Part). p.page))
