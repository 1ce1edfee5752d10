use Rattle.io_script.proofs.reply.append_segment.Goals as goal

pub returns : goal.returns
returns c = rw c.from.ensures at c.append_pair.ensures
