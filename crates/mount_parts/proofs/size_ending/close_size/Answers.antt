use Rattle.std.proofs.Common.{◌∙◌, arith}
use Rattle.mount_parts.proofs.size_ending.close_size.Goals as goal

pub returns : goal.returns
returns c =
    let closed = c.close-sizes.ensures in
    let holds = closed.stands.holds in
    record {
      saw = record { once = closed.once; refused = closed.refused };
      ends = record {
        size_is = c.end-size.ensures.size ∙ holds.size_is_replay;
        within = (let s = c.end-size.ensures.size in let w = holds.within in let e = holds.same_end in omega arith);
        looks = holds.looks_found_replays;
        journal_is = c.from_vec.ensures ∙ c.end-size.ensures.stamps ∙ holds.journal_is_history;
      };
    }
