use Rattle.std.proofs.Common.{◌≡◌, [], ◌∷◌, ◌++◌, length, arith, ◌+◌, refl}
use Rattle.std.proofs.lemmas.Grind.{common_steps}
use Rattle.std.proofs.lemmas.List.{length-append}
use Rattle.io_script.proofs.read.calls.add_call.Goals as goal

pub returns-clause-reader : goal.returns-clause-reader
returns-clause-reader c =
    let grown : c.push.new.self.items ≡ c.args.r.now.calls.items ++ c.args.call ∷ [] = grind (arith, common_steps) in
    let many : length c.push.new.self.items ≡ length c.args.r.now.calls.items + 1 = rw grown (simp length-append refl) in
    record {
      same = c.requires.reader.same;
      early = c.requires.reader.early;
      small = c.requires.reader.small;
      within = record {
        few_names = c.requires.reader.within.few_names;
        few_calls = omega (arith, many, c.requires.few);
        few_blocks = c.requires.reader.within.few_blocks;
        read_within = c.requires.read;
        written_within = c.requires.written;
        met_within = c.requires.met;
        pages_within = omega (arith, many, c.requires.pages, c.requires.reader.within.pages_within);
      };
      taken = c.requires.reader.taken;
      given = c.requires.reader.given;
      placed = c.requires.reader.placed;
    }
