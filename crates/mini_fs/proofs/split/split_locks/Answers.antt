use Rattle.std.proofs.Common.{◌≡◌, suc, ◌+◌, ◌<◌, [], ◌∷◌, ◌++◌, length, set, take, ◌≤◌, Some, ap, ◌∙◌, sym, subst, refl, arith}
use Rattle.std.specs.Prelude.{slice_get}
use Rattle.std.proofs.lemmas.List.{take_all}
use Rattle.std.proofs.lemmas.Option.{slice_get_read}
use Rattle.mini_fs.specs.Splits.{IsHome, kept_lock}
use Rattle.mount_parts.specs.Locks.{AreFresh}
use Rattle.mini_fs.proofs.Firsts.{on_first, on_first-all, on_first-at, on_first-next}
use Rattle.mount_parts.proofs.Freshes.{fresh-next}
use Rattle.mount_parts.proofs.Places.{all-at, there, within}
use Rattle.mini_fs.proofs.split.split_locks.Goals as goal

pub split_lock-seat-requires-clause-home : goal.split_lock-seat-requires-clause-home
split_lock-seat-requires-clause-home c =
    let l = c.loop-i in
    let ids = c.args.mount.now.locks in
    let xs = c.args.seats.now.items in
    let x = c.index_mut.result.now in
    let below : l.i < length l.seats.items = (let ok = l.seats.ok.0 in let n = l.invariant.len in let t = c.loop-i-test.true in let len = c.len-i-end.ensures in omega arith) in
    let now : slice_get l.seats.items l.i ≡ Some x = slice_get_read l.seats.items (length l.seats.items) l.i x refl below c.index_mut.ensures.value in
    let here : slice_get xs l.i ≡ Some x = sym (on_first-at kept_lock l.i xs) ∙ ap (λ l'. slice_get l' c.loop-i.i) (sym l.invariant.seats) ∙ now in
    all-at IsHome xs l.i x c.requires.home here

pub split_lock-seat-requires-clause-lock : goal.split_lock-seat-requires-clause-lock
split_lock-seat-requires-clause-lock c =
    let l = c.loop-i in
    let ids = c.args.mount.now.locks in
    let xs = c.args.seats.now.items in
    let x = c.index_mut.result.now in
    let below : l.i < length l.seats.items = (let ok = l.seats.ok.0 in let n = l.invariant.len in let t = c.loop-i-test.true in let len = c.len-i-end.ensures in omega arith) in
    let now : slice_get l.seats.items l.i ≡ Some x = slice_get_read l.seats.items (length l.seats.items) l.i x refl below c.index_mut.ensures.value in
    let here : slice_get xs l.i ≡ Some x = sym (on_first-at kept_lock l.i xs) ∙ ap (λ l'. slice_get l' c.loop-i.i) (sym l.invariant.seats) ∙ now in
    λ at is.
    let w = within xs l.i x here in
    let n = c.requires.locks.0 in
    let id = there ids l.i (omega arith) in
    let lock : at.lock ≡ id.0 = c.requires.locks.1 l.i id.0 at id.1 (here ∙ ap (λ o. Some o) is) in
    id.1 ∙ ap (λ k. Some k) (sym lock)

pub loop-i-preserved : goal.loop-i-preserved
loop-i-preserved c =
    let l = c.loop-i in
    let ids = c.args.mount.now.locks in
    let xs = c.args.seats.now.items in
    let x = c.index_mut.result.now in
    let below : l.i < length l.seats.items = (let ok = l.seats.ok.0 in let n = l.invariant.len in let t = c.loop-i-test.true in let len = c.len-i-end.ensures in omega arith) in
    let now : slice_get l.seats.items l.i ≡ Some x = slice_get_read l.seats.items (length l.seats.items) l.i x refl below c.index_mut.ensures.value in
    let here : slice_get xs l.i ≡ Some x = sym (on_first-at kept_lock l.i xs) ∙ ap (λ l'. slice_get l' c.loop-i.i) (sym l.invariant.seats) ∙ now in
    let made = c.split_lock-seat.ensures.made in
    let e : suc l.i ≡ l.i + 1 = omega arith in
    record {
      seats = ap (λ s. set s l.i c.split_lock-seat.new.seat) l.invariant.seats ∙ on_first-next kept_lock l.i xs x c.split_lock-seat.new.seat here c.split_lock-seat.ensures.kept ∙ ap (λ n. on_first kept_lock n xs) e;
      made = subst (AreFresh (take (l.i + 1) ids)) (sym c.push_reserved.ensures.items) (subst (λ n. AreFresh (take n ids) (l.made.items ++ c.split_lock-seat.result ∷ [])) e (fresh-next ids l.made.items l.i made.0 made.1 _ l.invariant.made made.2 made.3));
      len = l.invariant.len;
      count = (let n = l.invariant.count in let e = c.push_reserved.ensures in omega (arith, e.len));
      capacity = c.push_reserved.ensures.capacity ∙ l.invariant.capacity;
    }

pub returns : goal.returns
returns c =
    let l = c.loop-i in
    let all : l.i ≡ length c.args.seats.now.items = (let ok = c.args.seats.now.ok.0 in let past = c.loop-i-test.false in let most = l.auto.i-end in let len = c.len-i-end.ensures in omega arith) in
    let ids : length c.args.mount.now.locks ≤ l.i = (let n = c.requires.locks.0 in omega arith) in
    record {
      kept = l.invariant.seats ∙ ap (λ n. on_first kept_lock n c.args.seats.now.items) all ∙ on_first-all kept_lock c.args.seats.now.items;
      made = subst (λ k. AreFresh k l.made.items) (take_all l.i c.args.mount.now.locks ids) l.invariant.made;
    }
