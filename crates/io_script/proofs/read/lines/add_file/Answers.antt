use Rattle.std.proofs.Common.{◌≡◌, ◌≤◌, ℕ, true, false, List, [], ◌∷◌, ◌++◌, length, sym, ◌∙◌, subst, arith}
use Rattle.std.proofs.lemmas.Grind.{common_steps}
use Rattle.io_model.specs.declared.file.FileSpec.{FileSpec}
use Rattle.io_script.proofs.Places.{placed_file, taken_file, blocks-file, AreMarks-same, is_place_taken-file, is_place_taken-beyond}
use Rattle.io_script.specs.SoFar.{file_at}
use Rattle.io_script.proofs.read.lines.add_file.Goals as goal

pub returns-clause-reader : goal.returns-clause-reader
returns-clause-reader c =
    let files = c.args.r.now.files.items in
    let f = c.args.file in
    let is : c.push-2.new.self.items ≡ files ++ f ∷ [] = grind (arith, common_steps) in
    let named : c.push.new.self.items ≡ c.args.r.now.names.items ++ c.args.name ∷ [] = grind (arith, common_steps) in
    record {
      same = grind (arith, common_steps);
      early = λ early. let no : true ≡ false = sym early ∙ c.requires.described in cc;
      small = subst (λ (fs : List FileSpec). (k : ℕ) → (file_at fs k).blocks ≤ 65536) (sym is) (blocks-file files f c.requires.reader.small c.requires.small);
      within = record {
        few_names = grind (arith, common_steps);
        few_calls = c.requires.reader.within.few_calls;
        few_blocks = c.requires.blocks;
        read_within = c.requires.reader.within.read_within;
        written_within = c.requires.reader.within.written_within;
        met_within = c.requires.reader.within.met_within;
        pages_within = c.requires.reader.within.pages_within;
      };
      taken = taken_file _ _ files _ f is c.requires.empty c.requires.reader.taken;
      given = c.requires.reader.given;
      placed = placed_file _ files _ f is c.requires.empty
          (c.in_ok-add_marks.ensures (length files) _
          (AreMarks-same _ _ _ _ c.requires.reader.placed (λ at h. is_place_taken-file files f at h)) (λ at h. is_place_taken-beyond files f at c.requires.empty h));
    }
