-- What turns of a walk found of blocks.
use Rattle.std.proofs.Common.{◌≡◌, ℕ, zero, suc, ◌+◌, ◌-◌, Bool, true, false, List, [], ◌∷◌, ◌++◌, Some, None, Option, take, drop, refl, sym, ap, ◌∙◌, subst, arith, append-nil}
use Rattle.std.specs.Prelude.{is_some, slice_get, unwrap_or, not, nat_le, ◌&&◌}
use Rattle.iob_base.specs.declared.TheConstants.{WORN}
use Rattle.iob_base.specs.declared.stamp.FileId.{FileId}
use Rattle.range_core.specs.BlockStates.{BlockState, state_of, states_replayed}
use Rattle.range_core.specs.ClaimsView.{ClaimsView}
use Rattle.range_core.specs.Kinds.{is_delalloc, is_unwritten}
use Rattle.range_core.specs.RangeView.{LiesAt, RangeView}
use Rattle.range_core.specs.Refusals.{◌orElse◌, at_first, away, away_at, first_that_stops, lend_writeback_refusal, not_ready, some_block, where_true}
use Rattle.range_core.specs.declared.cell.Cell.{Cell}
use Rattle.range_core.specs.declared.entry.Entry.{Entry}
use Rattle.range_core.specs.declared.fault.EventFault.{EventFault}
use Rattle.range_core.specs.declared.fault.EventFault.TheVariants.{Away, NoMemory, Settled, Unattached, Worn}
use Rattle.range_core.specs.declared.lending.Away.{Away as AwayOn}
use Rattle.mount_parts.specs.MountView.{MountView, stripe_at}
use Rattle.mount_parts.proofs.Places.{there}
use Rattle.mini_fs.specs.Acts.Act.{Turn}
use Rattle.mini_fs.specs.PassView.{PassView}
use Rattle.mini_fs.specs.Turns.{TurnsAt}
use Rattle.call_parts.specs.Reads.{seen_at, seen_by}
use Rattle.writeback_ioend.specs.Writebacks.{IsAway, IsSettled, WasFound}

-- a turn found a block as it was in its range then
pub found-turn : {does : RangeView → List Entry → RangeView → RangeView → Entry → Type 0} (So : BlockState → Type 0) (m : MountView) (file : FileId) (b stripe : ℕ) (claims left : ClaimsView) (p q : PassView) (t : TurnsAt does m stripe claims left p q) (c : Cell)
    → stripe ≡ stripe_at m file b → LiesAt t.cell.opening b 1 → slice_get t.turned.value.cells (b - t.turned.value.first) ≡ Some c → So (state_of c) → WasFound So m file b p (Turn stripe t.turned.others t.turned.entry ∷ [])
found-turn So m file b stripe claims left p q t c home lies here so =
    let opening = t.cell.opening in
    let holds = t.turned.stood.holds in
    let first = holds.same_run.first in
    let low = lies.low in
    let high = lies.high in
    let i : ℕ = b - opening.first in
    let was = there opening.cells i (omega (arith, low, high)) in
    let at : slice_get t.turned.value.cells i ≡ Some c = ap (λ f. slice_get t.turned.value.cells (b - f)) (sym first) ∙ here in
    let state : state_of c ≡ states_replayed opening.geometry.block_size (opening.first + i) (state_of was.0) (t.before.seen ++ t.turned.others) = holds.states i was.0 c was.1 at in
    let block : opening.first + i ≡ b = omega (arith, low) in
    let seen : (seen_at p (stripe_at m file b) ++ []) ++ t.turned.others ≡ t.before.seen ++ t.turned.others =
    ap (λ l. l ++ t.turned.others) (append-nil (seen_at p (stripe_at m file b)) ∙ ap (seen_at p) (sym home) ∙ ap seen_by t.stand.seat_is) in
    record {
      before = [];
      others = t.turned.others;
      own = t.turned.entry;
      after = [];
      acts_are = ap (λ k. Turn k t.turned.others t.turned.entry ∷ []) home;
      cell = t.cell;
      cell_is = ap (slice_get m.stripes) (sym home) ∙ t.stand.cell_is;
      opening = was.0;
      opening_is = was.1;
      found = subst (λ l. So (states_replayed opening.geometry.block_size b (state_of was.0) l)) (sym seen)
          (subst (λ n. So (states_replayed opening.geometry.block_size n (state_of was.0) (t.before.seen ++ t.turned.others))) block (subst So state so));
    }

-- the first block from one on is that block
one-drop : (cells : List Cell) (i : ℕ) (c : Cell) → slice_get cells i ≡ Some c → take 1 (drop i cells) ≡ c ∷ []
one-drop [] i c at = absurd (cc)
one-drop (x ∷ cells) zero c at = let e : x ≡ c = cc in ap (λ (y : Cell). y ∷ []) e
one-drop (x ∷ cells) (suc i) c at = one-drop cells i c at

none-else : (o : Option EventFault) → (o orElse None) ≡ o
none-else None = refl
none-else (Some fault) = refl

first-is : (stops : ℕ → Cell → Option EventFault) (r : RangeView) (b : ℕ) (c : Cell) → slice_get r.cells (b - r.first) ≡ Some c → at_first stops r b ≡ stops b c
first-is stops r b c here = ap (first_that_stops stops b) (one-drop r.cells (b - r.first) c here) ∙ none-else (stops b c)

-- what the refusal of a loan for a write tells of its block
settled-cases : (b cookie x : ℕ) (lent : Option AwayOn) (dirty delalloc worn : Bool)
    → Settled x ≡ unwrap_or (away_at b lent orElse (where_true (not dirty) (Settled b) orElse where_true delalloc (Unattached b)) orElse where_true worn (Worn cookie)) NoMemory → (dirty ≡ false) × (lent ≡ None)
settled-cases b cookie x (Some away) dirty delalloc worn is = absurd (cc is)
settled-cases b cookie x None false delalloc worn is = (refl, refl)
settled-cases b cookie x None true true worn is = absurd (cc is)
settled-cases b cookie x None true false true is = absurd (cc is)
settled-cases b cookie x None true false false is = absurd (cc is)

away-cases : (b cookie x ticket : ℕ) (lent : Option AwayOn) (dirty delalloc worn : Bool)
    → Away x ticket ≡ unwrap_or (away_at b lent orElse (where_true (not dirty) (Settled b) orElse where_true delalloc (Unattached b)) orElse where_true worn (Worn cookie)) NoMemory → is_some lent ≡ true
away-cases b cookie x ticket (Some away) dirty delalloc worn is = refl
away-cases b cookie x ticket None false delalloc worn is = absurd (cc is)
away-cases b cookie x ticket None true true worn is = absurd (cc is)
away-cases b cookie x ticket None true false true is = absurd (cc is)
away-cases b cookie x ticket None true false false is = absurd (cc is)

module _ (r : RangeView) (b : ℕ) (c : Cell) (here : slice_get r.cells (b - r.first) ≡ Some c) where
  abbrev uses : Bool
  uses = some_block (λ (d : Cell). is_unwritten d.kind) r b 1 && nat_le WORN r.cookie

  refusal-is : lend_writeback_refusal r b ≡ (away b c orElse not_ready b c orElse where_true uses (Worn r.cookie))
  refusal-is =
      ap (λ o. o orElse at_first not_ready r b orElse where_true uses (Worn r.cookie)) (first-is away r b c here)
      ∙ ap (λ o. away b c orElse o orElse where_true uses (Worn r.cookie)) (first-is not_ready r b c here)

  pub settled-found : (x : ℕ) → Settled x ≡ unwrap_or (lend_writeback_refusal r b) NoMemory → IsSettled (state_of c)
  settled-found x is = let e = settled-cases b r.cookie x c.away c.dirty (is_delalloc c.kind) uses (is ∙ ap (λ o. unwrap_or o NoMemory) refusal-is) in record { clean = e.0; home = e.1 }

  pub away-found : (x ticket : ℕ) → Away x ticket ≡ unwrap_or (lend_writeback_refusal r b) NoMemory → IsAway (state_of c)
  away-found x ticket is = away-cases b r.cookie x ticket c.away c.dirty (is_delalloc c.kind) uses (is ∙ ap (λ o. unwrap_or o NoMemory) refusal-is)
