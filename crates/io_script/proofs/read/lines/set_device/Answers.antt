use Rattle.std.proofs.Common.{ℕ, List, sym, subst}
use Rattle.io_model.specs.declared.file.FileSpec.{FileSpec}
use Rattle.io_script.specs.Marks.{AreMarks}
use Rattle.io_script.specs.SoFar.{is_taken, is_given}
use Rattle.io_script.proofs.read.lines.set_device.Goals as goal

pub returns-clause-reader : goal.returns-clause-reader
returns-clause-reader c =
    let empty = c.requires.reader.early c.requires.early in
    record {
      same = c.requires.reader.same;
      early = λ _. empty;
      small = c.requires.reader.small;
      within = c.requires.reader.within;
      taken = subst (λ (fs : List FileSpec). AreMarks c.in_ok-taken.taken.items c.args.blocks (is_taken fs)) (sym empty.0) c.in_ok-taken.ensures;
      given = subst (λ (bs : List (ℕ × List ℕ)). AreMarks c.in_ok-given.given.items c.args.blocks (is_given bs)) (sym empty.1) c.in_ok-given.ensures;
      placed = c.requires.reader.placed;
    }
