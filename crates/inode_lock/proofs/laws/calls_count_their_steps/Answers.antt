use Rattle.inode_lock.proofs.Counted.{grant_takes_once, win_takes_once, refusal_takes_nothing, leave_leaves_once, hold_takes_and_leaves, stay_grows_nothing, growth_adds}
use Rattle.inode_lock.proofs.laws.calls_count_their_steps.Goals as goal

pub returns : goal.returns
returns c = record {
  grant = grant_takes_once;
  win = win_takes_once;
  refusal = refusal_takes_nothing;
  leave = leave_leaves_once;
  hold = hold_takes_and_leaves;
  stay = stay_grows_nothing;
  adds = growth_adds;
}
