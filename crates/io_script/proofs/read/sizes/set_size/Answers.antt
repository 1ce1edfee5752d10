use Rattle.std.proofs.Common.{◌≡◌, ◌≤◌, true, false, Some, set, sym, ◌∙◌, subst, arith, ℕ, List}
use Rattle.std.proofs.lemmas.Grind.{common_steps}
use Rattle.std.proofs.lemmas.List.{length-set}
use Rattle.io_model.specs.declared.file.FileSpec.{FileSpec}
use Rattle.io_script.proofs.Sizing.{blocks-sized, placed_sized, taken_sized}
use Rattle.io_script.specs.GrammarLines.{with_size_at}
use Rattle.io_script.specs.SoFar.{file_at}
use Rattle.io_script.proofs.read.sizes.set_size.Goals as goal

pub returns-clause-reader : goal.returns-clause-reader
returns-clause-reader c =
    let files = c.args.r.now.files.items in
    let f : FileSpec = record { mode = c.index_mut.result.now.mode; blocks = c.index_mut.result.now.blocks; size = Some c.args.size; extents = c.index_mut.result.now.extents } in
    let is : set files c.args.i f ≡ with_size_at files c.args.i c.args.size = grind (arith, common_steps) in
    record {
      same = length-set files c.args.i f ∙ c.requires.reader.same;
      early = λ early. let no : true ≡ false = sym early ∙ c.requires.described in cc;
      small = subst (λ (fs : List FileSpec). (k : ℕ) → (file_at fs k).blocks ≤ 65536) (sym is) (blocks-sized files c.args.i c.args.size c.requires.reader.small c.requires.file);
      within = c.requires.reader.within;
      taken = taken_sized _ _ files _ c.args.i c.args.size is c.requires.file c.requires.reader.taken;
      given = c.requires.reader.given;
      placed = placed_sized _ files _ c.args.i c.args.size is c.requires.file c.requires.reader.placed;
    }
