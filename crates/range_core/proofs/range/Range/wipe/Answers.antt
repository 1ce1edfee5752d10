use Rattle.std.proofs.Common.{◌≡◌, ℕ, ◌+◌, ◌-◌, ◌≤◌, ◌++◌, nat_lt, None, List, All, drop, length, take, refl, sym, ◌∙◌, ap, subst, arith}
use Rattle.iob_base.specs.DeviceBlock.{DeviceBlock}
use Rattle.iob_base.specs.declared.stamp.Stamp.{Stamp}
use Rattle.space_pool.specs.Claims.{with_fewer, with_given}
use Rattle.space_pool.specs.Pool.{CanGive, PoolView}
use Rattle.space_pool.specs.Seats.{pool_cell}
use Rattle.turn_cell.specs.Seats.{seat_claims, seat_view}
use Rattle.turn_cell.specs.Stakes.{total}
use Rattle.range_core.specs.BlockTruth.{is_gone}
use Rattle.range_core.specs.EntryCounts.{one_where}
use Rattle.range_core.specs.OnRun.{count_on, on_each}
use Rattle.range_core.specs.Placing.{is_promised, is_used}
use Rattle.range_core.specs.PoolTurns.{GivesBack, place_of}
use Rattle.range_core.specs.RangeView.{IsOfRange, IsSound, LiesAt, RangeView, range_view}
use Rattle.range_core.specs.Refusals.{away, first_that_stops, run_of, some_block, wipe_refusal, worn}
use Rattle.range_core.specs.Space.{ClaimsSpace, SpaceClaims}
use Rattle.range_core.specs.Stamps.{done_by, stamps_from}
use Rattle.range_core.specs.Wipes.{Wipes, sectors_of, wiped_run}
use Rattle.range_core.specs.declared.cell.Cell.{Cell}
use Rattle.range_core.proofs.OnRunLemmas.{length-on_each, total-on_each}
use Rattle.range_core.proofs.PlaceSpace.{lies_within, unworn_for}
use Rattle.range_core.proofs.SoundLemmas.{gone-within, sound_next, stamps_from-range}
use Rattle.range_core.proofs.StopLemmas.{neither}
use Rattle.range_core.proofs.WipeLemmas.{all_home, can_give_run, promised-few, space_wiped, wiped_placed, wipes}
use Rattle.range_core.proofs.range.Range.wipe.Goals as goal

-- what a wipe that was not refused found
record Found (r : RangeView) (b n : ℕ) : Type 0 where
  homes : All (λ (c : Cell). c.away ≡ None) (run_of r b n)
  calm : worn r (some_block is_used r b n) ≡ None
  within : b - r.first + n ≤ length r.cells
  low : r.first ≤ b
  high : b + n ≤ r.first + length r.cells

found : (r v : RangeView) (b n : ℕ) → r ≡ v → None ≡ wipe_refusal v b n → LiesAt v b n → Found r b n
found r v b n is e lies =
    let calm = neither (first_that_stops away b (run_of r b n)) (worn r (some_block is_used r b n)) (ap (λ x. wipe_refusal x b n) is ∙ sym e) in
    let L : RangeView → Type 0 = λ x. LiesAt x b n in
    let here = subst L (sym is) lies in
    record { homes = all_home b (run_of r b n) calm.0; calm = calm.1; within = lies_within r b n here; low = here.low; high = here.high }

pub give_back-requires-clause-can : goal.give_back-requires-clause-can
give_back-requires-clause-can g c =
    let r = c.self.inside in
    let b : ℕ = c.args.block in
    let n : ℕ = c.args.blocks in
    let low : ℕ = b - r.first in
    let was : List Cell = r.cells.items in
    let view : RangeView = range_view r.geometry r.mode r.first was r.log.items r.cookie r.errors r.tickets (seat_view r.seat) (seat_claims r.seat).facts in
    let f = found view c.args.self.now b n c.self.view_is c.in_default.ensures c.requires.lies in
    let G : List DeviceBlock → Type 0 = λ xs. CanGive xs (seat_claims r.seat).facts in
    subst G (sym c.wipe_run.ensures.sectors) (can_give_run r.geometry.block_size low n was (seat_claims r.seat).facts c.self.invariant.0.places f.homes c.self.invariant.0.space)

pub give_back-requires-clause-reserved : goal.give_back-requires-clause-reserved
give_back-requires-clause-reserved g c =
    let r = c.self.inside in
    let low : ℕ = c.args.block - r.first in
    let n : ℕ = c.args.blocks in
    let promised : c.count_run-promised.result ≡ count_on is_promised low n r.cells.items = c.count_run-promised.ensures.count ∙ ap (count_on is_promised low n) c.deref-2.ensures.value in
    let few = promised-few r.geometry.block_size low n r.cells.items (seat_claims r.seat).facts c.self.invariant.0.space in
    omega arith

pub next_cookie-self-inside-requires : goal.next_cookie-self-inside-requires
next_cookie-self-inside-requires g c more =
    let r = c.self.inside in
    let b : ℕ = c.args.block in
    let n : ℕ = c.args.blocks in
    let view : RangeView = range_view r.geometry r.mode r.first r.cells.items r.log.items r.cookie r.errors r.tickets (seat_view r.seat) (seat_claims r.seat).facts in
    let f = found view c.args.self.now b n c.self.view_is c.in_default.ensures c.requires.lies in
    let changed : c.count_run-changed.result ≡ count_on is_used (b - r.first) n r.cells.items = c.count_run-changed.ensures.count ∙ ap (count_on is_used (b - r.first) n) c.deref.ensures.value in
    let less = unworn_for is_used view b n f.calm (omega arith) in
    omega arith

pub invariant_of-self-2 : goal.invariant_of-self-2
invariant_of-self-2 g c =
    let r = c.self.inside in
    let size : ℕ = r.geometry.block_size in
    let b : ℕ = c.args.block in
    let n : ℕ = c.args.blocks in
    let low : ℕ = b - r.first in
    let was : List Cell = r.cells.items in
    let now : List Cell = on_each wipes 0 low n was in
    let claims : SpaceClaims = (seat_claims r.seat).facts in
    let view : RangeView = range_view r.geometry r.mode r.first was r.log.items r.cookie r.errors r.tickets (seat_view r.seat) claims in
    let f = found view c.args.self.now b n c.self.view_is c.in_default.ensures c.requires.lies in
    let sound = c.self.invariant.0 in
    let promised : c.count_run-promised.result ≡ count_on is_promised low n was = c.count_run-promised.ensures.count ∙ ap (count_on is_promised low n) c.deref-2.ensures.value in
    let left : (seat_claims c.give_back.new.seat).facts ≡ with_fewer (with_given claims (sectors_of (take n (drop low was)))) (count_on is_promised low n was) =
    c.give_back.ensures.claims ∙ ap (λ xs. with_fewer (with_given claims xs) c.count_run-promised.result) c.wipe_run.ensures.sectors ∙ ap (with_fewer (with_given claims (sectors_of (take n (drop low was))))) promised in
    let C : SpaceClaims → Type 0 = λ s. ClaimsSpace size now s in
    let space = subst C (sym left) (space_wiped size low n was claims sound.places f.homes sound.space) in
    let places = wiped_placed size low n was f.within f.homes sound.places in
    let stamps : List (ℕ × Stamp) = stamps_from b n (done_by c.args.by) in
    let log : c.add.new.self.items ≡ r.log.items ++ stamps = c.add.ensures.items ∙ ap (λ l. l ++ stamps_from b n c.stamp_done.result) c.in-Ok.ensures.items ∙ ap (λ t. r.log.items ++ stamps_from b n t) c.stamp_done.ensures in
    let stamped : All (IsOfRange r.first (length was)) stamps = stamps_from-range r.first (length was) b n (done_by c.args.by) f.low f.high in
    let S : List Cell → Type 0 = λ cells. IsSound (range_view r.geometry r.mode r.first cells c.add.new.self.items c.next_cookie-self-inside.result r.errors r.tickets (seat_view c.give_back.new.seat) (seat_claims c.give_back.new.seat).facts) in
    let gone : total is_gone c.wipe_run.new.cells.items ≡ total is_gone was = ap (total is_gone) c.wipe_run.ensures.cells ∙ total-on_each wipes is_gone (λ _ _. refl) 0 low n was in
    let few = gone-within was in (
      subst S (sym c.wipe_run.ensures.cells) (sound_next view now c.add.new.self.items stamps c.next_cookie-self-inside.result r.errors r.tickets (seat_view c.give_back.new.seat) (seat_claims c.give_back.new.seat).facts sound (length-on_each wipes 0 low n was) places log stamped space),
      omega (arith, c.add.ensures.few, c.add.ensures.kept, c.in-Ok.ensures.ok, c.len.ensures, r.cells.ok.0, gone, few),
    )

pub returns-clause-state : goal.returns-clause-state
returns-clause-state g c =
    let r = c.self.inside in
    let b : ℕ = c.args.block in
    let n : ℕ = c.args.blocks in
    let low : ℕ = b - r.first in
    let was : List Cell = r.cells.items in
    let claims : SpaceClaims = (seat_claims r.seat).facts in
    let seat = c.give_back.new.seat in
    let view : RangeView = range_view r.geometry r.mode r.first was r.log.items r.cookie r.errors r.tickets (seat_view r.seat) claims in
    let after : RangeView = range_view r.geometry r.mode r.first c.wipe_run.new.cells.items c.add.new.self.items c.next_cookie-self-inside.result r.errors r.tickets (seat_view seat) (seat_claims seat).facts in
    let given : c.wipe_run.new.sectors.items ≡ sectors_of (take n (drop low was)) = c.wipe_run.ensures.sectors in
    let changed : c.count_run-changed.result ≡ count_on is_used low n was = c.count_run-changed.ensures.count ∙ ap (count_on is_used low n) c.deref.ensures.value in
    let promised : c.count_run-promised.result ≡ count_on is_promised low n was = c.count_run-promised.ensures.count ∙ ap (count_on is_promised low n) c.deref-2.ensures.value in
    let log : c.add.new.self.items ≡ r.log.items ++ stamps_from b n (done_by c.args.by) = c.add.ensures.items ∙ ap (λ l. l ++ stamps_from b n c.stamp_done.result) c.in-Ok.ensures.items ∙ ap (λ t. r.log.items ++ stamps_from b n t) c.stamp_done.ensures in
    let cookie : c.next_cookie-self-inside.result ≡ r.cookie + one_where (nat_lt 0 (count_on is_used low n was)) = c.next_cookie-self-inside.ensures ∙ ap (λ k. r.cookie + one_where (nat_lt 0 k)) changed in
    let space : (seat_claims seat).facts ≡ with_fewer (with_given claims (sectors_of (take n (drop low was)))) (count_on is_promised low n was) =
    c.give_back.ensures.claims ∙ ap (λ xs. with_fewer (with_given claims xs) c.count_run-promised.result) given ∙ ap (with_fewer (with_given claims (sectors_of (take n (drop low was))))) promised in
    let state : after ≡ wiped_run view c.args.by b n (seat_view seat) = λ i. range_view r.geometry r.mode r.first (c.wipe_run.ensures.cells i) (log i) (cookie i) r.errors r.tickets (seat_view seat) (space i) in
    let opening : PoolView = (pool_cell c.args.space.now).opening in
    let G : List DeviceBlock → Type 0 = λ xs. GivesBack opening xs c.count_run-promised.result (place_of view) (place_of after) in
    let K : ℕ → Type 0 = λ k. GivesBack opening (sectors_of (take n (drop low was))) k (place_of view) (place_of after) in
    let W : RangeView → Type 0 = λ v. Wipes opening v c.args.by b n after c.count_run-changed.result in
    subst W c.self.view_is (record { count = changed; state = state; pool = subst K promised (subst G given c.give_back.ensures.turns) })
