use Rattle.turn_cell.specs.Seats.{seat_claims, seat_view}
use Rattle.mount_parts.proofs.Endings.{ok-with, range-ends, space-ends}
use Rattle.mount_parts.proofs.ending.close_range.Goals as goal

pub end-requires : goal.end-requires
end-requires c = c.closed_is_home.ensures.home _ _ _ _ c.close-range.ensures c.requires.free

pub returns-clause-ends : goal.returns-clause-ends
returns-clause-ends c =
    let home = c.closed_is_home.ensures.home _ _ _ _ c.close-range.ensures c.requires.free in
    let range = c.close-range.result in
    ok-with c.end.result _ _ _ _ (λ end merged kinds blocks. range-ends _ range _ _ c.close-range.ensures home end.extents end.blocks merged kinds blocks) c.end.ensures.merged c.end.ensures.kinds c.end.ensures.blocks

pub returns-clause-space : goal.returns-clause-space
returns-clause-space c =
    let home = c.closed_is_home.ensures.home _ _ _ _ c.close-range.ensures c.requires.free in
    let range = c.close-range.result in
    ok-with c.end.result _ _ _ _ (λ end blocks seat space. space-ends _ range _ _ c.close-range.ensures home end.blocks (seat_view end.seat) (seat_claims end.seat).facts c.is_kept.ensures blocks seat space) c.end.ensures.blocks c.end.ensures.seat c.end.ensures.space
