use Rattle.std.proofs.Common.{List, ℕ, sym, subst}
use Rattle.iomap_replay.proofs.Endings.{answered, checks_say}
use Rattle.iomap_replay.specs.Statuses.{Checks}
use Rattle.iomap_replay.specs.Streams.{ReadTold}
use Rattle.iomap_replay.proofs.check.check_source.Goals as goal

pub returns-in-Ok-clause-ends : goal.returns-in-Ok-clause-ends
returns-in-Ok-clause-ends g c =
    let P : List ℕ → Type 0 = λ text. ReadTold (g.S.Source.left c.args.source.now) text (g.S.Source.left c.read_all.new.source) in
    answered Checks checks_say c.deref.result.now c.check_output.result c.answer.result _ _ _ _ _ _ _ _ (subst P (sym c.deref.ensures.value) c.in-Ok.ensures.text) c.check_output.ensures c.answer.ensures.written
