use Rattle.std.proofs.Common.{List, [], ◌∷◌, ◌++◌, length, Some, ap, ◌∙◌, sym, subst, arith}
use Rattle.std.proofs.lemmas.List.{length-append}
use Rattle.atomic_table.specs.Seated.{TableId}
use Rattle.mount_parts.specs.Locks.{AreFresh}
use Rattle.mount_parts.proofs.Freshes.{fresh-push}
use Rattle.mount_parts.proofs.first_locks.open_locks.Goals as goal

pub loop-preserved : goal.loop-preserved
loop-preserved c =
    let l = c.loop in
    let lock = c.in_ok-lock.lock in
    let seat = c.in_ok-lock.seat in
    let F : List TableId → Type 0 = λ ids. AreFresh ids c.push-in-loop.new.self.items in
    record {
      count = ap length c.in_ok-push.ensures.items ∙ length-append l.locks.items (lock ∷ []) ∙ (let n = l.invariant.count in omega arith);
      fresh = subst F (sym c.in_ok-push.ensures.items) (subst (AreFresh (l.locks.items ++ lock ∷ [])) (sym c.in_ok-push-2.ensures.items)
          (fresh-push l.locks.items l.seats.items lock 0 (Some seat) l.invariant.fresh (ap (λ k. Some k) c.in_ok-lock.ensures)));
    }
