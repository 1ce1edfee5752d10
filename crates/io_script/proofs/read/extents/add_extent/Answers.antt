use Rattle.std.proofs.Common.{◌≡◌, ◌≤◌, ◌+◌, true, false, set, sym, ◌∙◌, subst, arith, ℕ, List}
use Rattle.std.proofs.lemmas.Grind.{common_steps}
use Rattle.std.proofs.lemmas.List.{length-set}
use Rattle.io_model.specs.declared.file.FileSpec.{FileSpec}
use Rattle.io_script.proofs.Places.{placed_with, taken_with, blocks-more}
use Rattle.io_script.specs.GrammarLines.{with_extent_at}
use Rattle.io_script.specs.SoFar.{file_at}
use Rattle.io_script.proofs.read.extents.add_extent.Goals as goal

pub returns-clause-reader : goal.returns-clause-reader
returns-clause-reader c =
    let files = c.args.r.now.files.items in
    let e = c.args.extent in
    let fits : e.block + e.length ≤ 65536 = omega (arith, c.requires.reader.small c.args.i, c.requires.blocks) in
    let f : FileSpec = record { mode = c.index_mut.result.now.mode; blocks = c.index_mut.result.now.blocks; size = c.index_mut.result.now.size; extents = c.push.new.self } in
    let is : set files c.args.i f ≡ with_extent_at files c.args.i e = grind (arith, common_steps) in
    record {
      same = length-set files c.args.i f ∙ c.requires.reader.same;
      early = λ early. let no : true ≡ false = sym early ∙ c.requires.described in cc;
      small = subst (λ (fs : List FileSpec). (k : ℕ) → (file_at fs k).blocks ≤ 65536) (sym is) (blocks-more files c.args.i e c.requires.reader.small c.requires.file);
      within = c.requires.reader.within;
      taken = taken_with _ _ files _ c.args.i c.args.dev e is c.requires.file c.requires.start (c.mark_run-2.ensures _ _ c.requires.reader.taken);
      given = c.requires.reader.given;
      placed = placed_with _ files _ c.args.i e is c.requires.file fits (c.mark_run.ensures _ _ c.requires.reader.placed);
    }
