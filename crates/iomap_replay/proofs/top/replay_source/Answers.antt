use Rattle.std.proofs.Common.{List, ℕ, sym, subst}
use Rattle.iomap_replay.proofs.Endings.{answered, replays_say}
use Rattle.iomap_replay.specs.Streams.{ReadTold}
use Rattle.iomap_replay.proofs.top.replay_source.Goals as goal

pub returns-clause-ends : goal.returns-clause-ends
returns-clause-ends g c =
    let P : List ℕ → Type 0 = λ text. ReadTold (g.S.Source.left c.args.source.now) text (g.S.Source.left c.read_all.new.source) in
    answered _ (replays_say _ _) c.deref.result.now c.output_of.result c.answer.result _ _ _ _ _ _ _ _ (subst P (sym c.deref.ensures.value) c.in-Ok.ensures.text) c.output_of.ensures c.answer.ensures.written
