use Rattle.std.proofs.Common.{◌+◌, ◌∙◌, ap, sym}
use Rattle.turn_cell.specs.Stakes.{total}
use Rattle.mount_parts.proofs.pool_ending.close_pool.Goals as goal

pub close-requires-clause-cell : goal.close-requires-clause-cell
close-requires-clause-cell c = c.join_seats.ensures.cell

pub close-requires-clause-whole : goal.close-requires-clause-whole
close-requires-clause-whole c = c.join_seats.ensures.share ∙ c.requires.whole

pub returns : goal.returns
returns c =
    let e = c.close.ensures in
    record {
      free = e.value.free;
      in_order = e.all;
      sized = e.sized;
      numbers = λ f. ap (λ n. total (λ s. f s.number) c.close.result.items + n) (sym (c.join_seats.ensures.numbers f)) ∙ e.numbers f;
      distinct = e.distinct;
    }
