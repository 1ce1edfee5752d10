use Rattle.io_model.proofs.ScriptOrder.{one_order}
use Rattle.io_model.proofs.laws.order.journals_have_one_order.Goals as goal

pub returns : goal.returns
returns c = one_order
