use Rattle.std.proofs.Common.{◌≡◌, true, false, sym, ◌∙◌, [], ◌∷◌, ◌++◌, arith}
use Rattle.std.proofs.lemmas.Grind.{common_steps}
use Rattle.io_script.proofs.Places.{given_with}
use Rattle.io_script.proofs.read.extents.add_data.Goals as goal

pub returns-clause-reader : goal.returns-clause-reader
returns-clause-reader c =
    let grown : c.push.new.self.items ≡ c.args.r.now.blocks.items ++ (c.args.d, c.args.bytes) ∷ [] = grind (arith, common_steps) in
    record {
      same = c.requires.reader.same;
      early = λ early. let no : true ≡ false = sym early ∙ c.requires.described in cc;
      small = c.requires.reader.small;
      within = c.requires.reader.within;
      taken = c.requires.reader.taken;
      given = given_with _ _ c.args.d c.args.r.now.blocks.items _ c.args.bytes grown c.requires.device c.requires.reader.given;
      placed = c.requires.reader.placed;
    }
