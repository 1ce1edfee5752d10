-- Each move keeps the rule of a queue of bios.
use Rattle.std.proofs.Common.{◌≡◌, ℕ, ◌+◌, [], ◌∷◌, ◌++◌, set, refl, sym, ap, ◌∙◌, append_assoc, arith}
use Rattle.crossbeam_queue.specs.Fifo.{Pushes, Pops, Forks, Learns}
use Rattle.turn_cell.specs.Stakes.{total}
use Rattle.turn_cell.proofs.Sums.{total-set, total-append}
use Rattle.turn_cell.proofs.Stakes.{set-there}
use Rattle.bio_pages.specs.declared.sent.Sent.{Sent}
use Rattle.bio_pages.specs.declared.queue_rule.Passed.{Passed}
use Rattle.bio_pages.specs.QueueRule.{nothing_passed, with_put, with_got, pushed_in_all, popped_in_all, Queued, Stood, WasPushed}

module _ {T : Type 0} where
  -- a new queue meets the rule
  pub begins : Queued {T = T} [] (nothing_passed ∷ [])
  begins = record { pushed = []; popped = []; order = refl; puts = λ f. refl; gets = λ f. refl }

  -- a push keeps it
  pub puts : (n number : ℕ) (v : Passed T) (x : Sent T) → Pushes Queued n number v x (λ w. w ≡ with_put v x)
  puts n number v x items views room r at =
      let w : Passed T = with_put v x in (
        w,
        record {
          pushed = r.pushed ++ x ∷ [];
          popped = r.popped;
          order = ap (λ l. l ++ x ∷ []) r.order ∙ append_assoc r.popped items (x ∷ []);
          puts = λ f.
              let t : pushed_in_all f (set views number w) + total f v.pushed ≡ pushed_in_all f views + total f (v.pushed ++ x ∷ []) = total-set (λ u. total f u.pushed) views number v w at in
              let a = total-append f v.pushed (x ∷ []) in
              let b = total-append f r.pushed (x ∷ []) in
              let p = r.puts f in omega arith;
          gets = λ f.
              let t : popped_in_all f (set views number w) + total f v.popped ≡ popped_in_all f views + total f v.popped = total-set (λ u. total f u.popped) views number v w at in
              let p = r.gets f in omega arith;
        },
        refl,
      )

  -- a pop keeps it
  pub gets : (number : ℕ) (v : Passed T) → Pops Queued number v (λ x w. (w ≡ with_got v x) × WasPushed w)
  gets number v x items views r at =
      let w : Passed T = with_got v x in
      let next : Queued items (set views number w) = record {
        pushed = r.pushed;
        popped = r.popped ++ x ∷ [];
        order = r.order ∙ sym (append_assoc r.popped (x ∷ []) items);
        puts = λ f.
            let t : pushed_in_all f (set views number w) + total f v.pushed ≡ pushed_in_all f views + total f v.pushed = total-set (λ u. total f u.pushed) views number v w at in
            let p = r.puts f in omega arith;
        gets = λ f.
            let t : popped_in_all f (set views number w) + total f v.popped ≡ popped_in_all f views + total f (v.popped ++ x ∷ []) = total-set (λ u. total f u.popped) views number v w at in
            let a = total-append f v.popped (x ∷ []) in
            let b = total-append f r.popped (x ∷ []) in
            let p = r.gets f in omega arith;
      } in (w, next, (refl, (items, record { views = set views number w; number = number; here = set-there views number v w at; holds = next })))

  -- a new pass keeps it
  pub forks : (number : ℕ) (v : Passed T) → Forks Queued number v v nothing_passed
  forks number v items views r at = record {
    pushed = r.pushed;
    popped = r.popped;
    order = r.order;
    puts = λ f.
        let t : pushed_in_all f (set views number v) + total f v.pushed ≡ pushed_in_all f views + total f v.pushed = total-set (λ u. total f u.pushed) views number v v at in
        let a : pushed_in_all f (set views number v ++ nothing_passed ∷ []) ≡ pushed_in_all f (set views number v) + (0 + 0) = total-append (λ u. total f u.pushed) (set views number v) (nothing_passed ∷ []) in
        let p = r.puts f in omega arith;
    gets = λ f.
        let t : popped_in_all f (set views number v) + total f v.popped ≡ popped_in_all f views + total f v.popped = total-set (λ u. total f u.popped) views number v v at in
        let a : popped_in_all f (set views number v ++ nothing_passed ∷ []) ≡ popped_in_all f (set views number v) + (0 + 0) = total-append (λ u. total f u.popped) (set views number v) (nothing_passed ∷ []) in
        let p = r.gets f in omega arith;
  }

  -- what a look at the queue tells
  pub learns : (number : ℕ) (v : Passed T) → Learns Queued number v (λ items. Stood items v)
  learns number v items views r at = record { views = views; number = number; here = at; holds = r }
