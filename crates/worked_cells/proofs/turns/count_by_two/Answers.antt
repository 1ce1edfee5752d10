use Rattle.std.proofs.Common.{◌≡◌, ◌+◌, length, sym, ap, ◌∙◌, arith, length-append}
use Rattle.turn_cell.proofs.Sums.{total-count}
use Rattle.worked_cells.proofs.turns.count_by_two.Goals as goal

pub returns : goal.returns
returns g c =
    let closed = c.close.ensures in
    let whole = c.join.new.into.place.me.0 in
    let mine = c.join-seat.result.0.place.me.0.made in
    let theirs = c.join-seat.result.1.place.me.0.made in
    let all : length whole.seen ≡ length whole.made = sym (total-count whole.seen) ∙ closed.once (λ _. 1) ∙ total-count whole.made in
    let joined : length whole.made ≡ length mine + length theirs = ap (λ s. length s.made) c.join.ensures.seat ∙ length-append mine theirs in
    let kept : length c.split-other.new.seat.place.me.0.made ≡ 0 = ap (λ s. length s.made) c.split-other.ensures.kept ∙ ap (λ s. length s.made) c.in_ok-cell.ensures.seat in
    let given : length c.split-other.result.place.me.0.made ≡ 0 = ap (λ s. length s.made) c.split-other.ensures.given in
    let first = c.join-seat.ensures.first.2 in
    let second = c.join-seat.ensures.second.2 in
    let none : c.in_ok-cell.cell.table.shared.key.value.value.count ≡ 0 = c.in_ok-cell.ensures.opening in
    let holds = closed.stands.holds in
    let few = c.requires in
    omega arith
