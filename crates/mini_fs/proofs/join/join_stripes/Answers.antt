use Rattle.std.proofs.Common.{◌≡◌, ◌<◌, List, ◌∷◌, map, length, drop, Some, ap, ◌∙◌, sym, subst, arith, inl, inr}
use Rattle.std.specs.Prelude.{slice_get}
use Rattle.std.specs.Vec.Iter.{into_iter_items}
use Rattle.std.proofs.lemmas.List.{length-map}
use Rattle.std.proofs.lemmas.Bool.{cases_eq}
use Rattle.turn_cell.specs.Seats.{cell_view, seat_claims, seat_view}
use Rattle.turn_cell.specs.Stakes.{Begins}
use Rattle.mini_fs.specs.Joins.{AreOneHistory, BothBegin, joined_stripe_place, paired}
use Rattle.mini_fs.specs.Places.{StripePlace, cell_of_stripe, id_of_range, stripe_place}
use Rattle.mini_fs.proofs.Firsts.{join-all, join-at, join-next}
use Rattle.mount_parts.proofs.Fronts.{front-of, front-rest}
use Rattle.mount_parts.proofs.Places.{map-there, seen-alike, within}
use Rattle.mini_fs.proofs.join.join_stripes.Goals as goal

pub join-requires-clause-cell : goal.join-requires-clause-cell
join-requires-clause-cell c =
    let l = c.loop-i in
    let xs : List StripePlace = map (λ s. stripe_place (seat_view s) (seat_claims s)) c.args.seats.now.items in
    let ys : List StripePlace = map (λ s. stripe_place (seat_view s) (seat_claims s)) (into_iter_items c.into_iter-rest.result) in
    let x = c.index_mut.result.now in
    let vx : StripePlace = stripe_place (seat_view x) (seat_claims x) in
    let seat = c.next_of-seat.result in
    let vs : StripePlace = stripe_place (seat_view seat) (seat_claims seat) in
    let below : l.i < length l.seats.items = (let ok = l.seats.ok.0 in let n = l.invariant.len in let t = c.loop-i-test.true in let len = c.len-i-end.ensures in omega arith) in
    let here : slice_get xs l.i ≡ Some vx = join-at (λ s. stripe_place (seat_view s) (seat_claims s)) joined_stripe_place l.seats.items xs ys l.i x l.invariant.seats below c.index_mut.ensures.value in
    let front : drop l.i (into_iter_items c.into_iter-rest.result) ≡ seat ∷ into_iter_items c.next_of-seat.new.rest = sym l.invariant.rest ∙ c.next_of-seat.ensures.items in
    let there : slice_get ys l.i ≡ Some vs = map-there (λ s. stripe_place (seat_view s) (seat_claims s)) (into_iter_items c.into_iter-rest.result) l.i seat (front-of (into_iter_items c.into_iter-rest.result) l.i seat _ front) in (
      seen-alike cell_of_stripe id_of_range xs c.args.mount.now.stripes l.i vx (cell_view c.range_cell-cell.result.now) c.requires.cells here c.range_cell-cell.ensures,
      seen-alike cell_of_stripe id_of_range ys c.args.mount.now.stripes l.i vs (cell_view c.range_cell-cell.result.now) (subst (λ q. map cell_of_stripe (map (λ s. stripe_place (seat_view s) (seat_claims s)) q) ≡ map id_of_range c.args.mount.now.stripes) (sym c.into_iter-rest.ensures.rest) c.requires.others) there c.range_cell-cell.ensures,
    )

pub join-requires-clause-merge : goal.join-requires-clause-merge
join-requires-clause-merge c =
    let l = c.loop-i in
    let xs : List StripePlace = map (λ s. stripe_place (seat_view s) (seat_claims s)) c.args.seats.now.items in
    let ys : List StripePlace = map (λ s. stripe_place (seat_view s) (seat_claims s)) (into_iter_items c.into_iter-rest.result) in
    let x = c.index_mut.result.now in
    let vx : StripePlace = stripe_place (seat_view x) (seat_claims x) in
    let seat = c.next_of-seat.result in
    let vs : StripePlace = stripe_place (seat_view seat) (seat_claims seat) in
    let below : l.i < length l.seats.items = (let ok = l.seats.ok.0 in let n = l.invariant.len in let t = c.loop-i-test.true in let len = c.len-i-end.ensures in omega arith) in
    let here : slice_get xs l.i ≡ Some vx = join-at (λ s. stripe_place (seat_view s) (seat_claims s)) joined_stripe_place l.seats.items xs ys l.i x l.invariant.seats below c.index_mut.ensures.value in
    let front : drop l.i (into_iter_items c.into_iter-rest.result) ≡ seat ∷ into_iter_items c.next_of-seat.new.rest = sym l.invariant.rest ∙ c.next_of-seat.ensures.items in
    let there : slice_get ys l.i ≡ Some vs = map-there (λ s. stripe_place (seat_view s) (seat_claims s)) (into_iter_items c.into_iter-rest.result) l.i seat (front-of (into_iter_items c.into_iter-rest.result) l.i seat _ front) in
    c.requires.merge l.i vx vs here (subst (λ q. slice_get (map (λ s. stripe_place (seat_view s) (seat_claims s)) q) l.i ≡ Some vs) c.into_iter-rest.ensures.rest there)

pub loop-i-preserved : goal.loop-i-preserved
loop-i-preserved c =
    let l = c.loop-i in
    let xs : List StripePlace = map (λ s. stripe_place (seat_view s) (seat_claims s)) c.args.seats.now.items in
    let ys : List StripePlace = map (λ s. stripe_place (seat_view s) (seat_claims s)) (into_iter_items c.into_iter-rest.result) in
    let x = c.index_mut.result.now in
    let vx : StripePlace = stripe_place (seat_view x) (seat_claims x) in
    let seat = c.next_of-seat.result in
    let vs : StripePlace = stripe_place (seat_view seat) (seat_claims seat) in
    let below : l.i < length l.seats.items = (let ok = l.seats.ok.0 in let n = l.invariant.len in let t = c.loop-i-test.true in let len = c.len-i-end.ensures in omega arith) in
    let here : slice_get xs l.i ≡ Some vx = join-at (λ s. stripe_place (seat_view s) (seat_claims s)) joined_stripe_place l.seats.items xs ys l.i x l.invariant.seats below c.index_mut.ensures.value in
    let front : drop l.i (into_iter_items c.into_iter-rest.result) ≡ seat ∷ into_iter_items c.next_of-seat.new.rest = sym l.invariant.rest ∙ c.next_of-seat.ensures.items in
    let there : slice_get ys l.i ≡ Some vs = map-there (λ s. stripe_place (seat_view s) (seat_claims s)) (into_iter_items c.into_iter-rest.result) l.i seat (front-of (into_iter_items c.into_iter-rest.result) l.i seat _ front) in
    let y = c.join.new.into in
    let did : stripe_place (seat_view y) (seat_claims y) ≡ joined_stripe_place vx vs = (λ j. record { seat = c.join.ensures.seat j; claims = c.join.ensures.claims j }) in
    let both : BothBegin (seat_view x) (seat_view seat) = (subst (λ v. Begins (seat_view x).seen v.seen) c.join.ensures.seat c.join.ensures.begins.0, subst (λ v. Begins (seat_view seat).seen v.seen) c.join.ensures.seat c.join.ensures.begins.1) in
    record {
      seats = join-next (λ s. stripe_place (seat_view s) (seat_claims s)) joined_stripe_place l.seats.items xs ys l.i x y vs l.invariant.seats here there did;
      rest = front-rest (into_iter_items c.into_iter-rest.result) l.i seat (into_iter_items c.next_of-seat.new.rest) front;
      left = (let n = l.invariant.left in let e = c.next_of-seat.ensures.len in omega arith);
      len = l.invariant.len;
      begins = λ k a b below' ata atb. elim (cases_eq k l.i) [
        | inl e ↦
            let oa : Some vx ≡ Some a = sym here ∙ ap (λ n. slice_get xs n) (sym e) ∙ ata in
            let ob : Some vs ≡ Some b = sym there ∙ ap (λ n. slice_get ys n) (sym e) ∙ atb in
            let ea : vx ≡ a = cc in
            let eb : vs ≡ b = cc in
            subst (λ p. BothBegin p.seat b.seat) ea (subst (λ p. BothBegin vx.seat p.seat) eb both)
        | inr n ↦ l.invariant.begins k a b (omega (arith, n)) ata atb
      ];
    }

pub returns : goal.returns
returns c =
    let l = c.loop-i in
    let xs : List StripePlace = map (λ s. stripe_place (seat_view s) (seat_claims s)) c.args.seats.now.items in
    let all : l.i ≡ length xs = (let ok = c.args.seats.now.ok.0 in let past = c.loop-i-test.false in let most = l.auto.i-end in let len = c.len-i-end.ensures in omega (arith, length-map c.args.seats.now.items (λ s. stripe_place (seat_view s) (seat_claims s)))) in
    let from : into_iter_items c.into_iter-rest.result ≡ c.args.from.items = c.into_iter-rest.ensures.rest in
    record {
      joined = join-all (λ s. stripe_place (seat_view s) (seat_claims s)) joined_stripe_place l.seats.items xs _ l.i l.invariant.seats all ∙ ap (λ q. paired joined_stripe_place xs (map (λ s. stripe_place (seat_view s) (seat_claims s)) q)) from;
      begins = subst (λ q. AreOneHistory xs (map (λ s. stripe_place (seat_view s) (seat_claims s)) q)) from (λ k a b ata atb. l.invariant.begins k a b (let w = within xs k a ata in omega arith) ata atb);
    }
