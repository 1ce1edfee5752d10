-- Acts put together, and what they come to at one stripe.
use Rattle.std.proofs.Common.{◌≡◌, ℕ, ◌+◌, ◌<◌, ◌==◌, inl, inr, List, [], ◌∷◌, ◌++◌, set, Some, None, Option, Bool, true, false, if◌then◌else◌, refl, sym, ap, ◌∙◌, subst, arith, append-nil, append_assoc}
use Rattle.std.specs.Prelude.{slice_get}
use Rattle.std.proofs.lemmas.Bool.{cases_eq, eq-eqb, eqb-true, false_from_ne_true}
use Rattle.turn_cell.specs.Stakes.{Begins}
use Rattle.turn_cell.specs.Views.{FoundHeld, SeatView, kept_part}
use Rattle.turn_cell.proofs.Beginnings.{begins-then}
use Rattle.inode_lock.specs.Calls.{IsLeft, IsWon}
use Rattle.inode_lock.specs.declared.word.Class.{Class}
use Rattle.iob_base.specs.declared.stamp.FileId.{FileId}
use Rattle.range_core.specs.ClaimsView.{ClaimsView}
use Rattle.range_core.specs.RangeView.{RangeView}
use Rattle.range_core.specs.declared.entry.Entry.{Entry}
use Rattle.size_core.specs.ClaimsView as size
use Rattle.size_core.specs.SizesView.{SizesView}
use Rattle.size_core.specs.declared.entry.SizeEntry.{SizeEntry}
use Rattle.mount_parts.specs.MountView.{MountView}
use Rattle.mount_parts.proofs.Places.{set-same, set-other}
use Rattle.mini_fs.specs.Acts.{Act, Acted, Acts, SeatActed, closed_in, made_in, opened_in, seen_in}
use Rattle.mini_fs.specs.Acts.Act.{Turn, SizeTurn, Busy, Open, Close, Take, Refused, Leave, Run, Note, Number}
use Rattle.mini_fs.specs.Holds.{BringsBack, HoldView, IsHoldOf, TakesOut}
use Rattle.mini_fs.specs.PassView.{PassView, share_at, share_in}
use Rattle.mini_fs.specs.SizeTurns.{TurnsAtSize}
use Rattle.mini_fs.specs.TicketView.{TicketView}
use Rattle.mini_fs.specs.Tickets.{ClosedTicket, IsTicketOf, Opened, with_share}
use Rattle.mini_fs.specs.Turns.{BusyAt, TurnsAt, with_seat}

pub acted-more : (acts : List Act) (a : Act) (p q r : PassView) → Acted acts p q → Acts a q r → Acted (acts ++ a ∷ []) p r
acted-more [] a p q r did one = (r, subst (λ x. Acts a x r) did one, refl)
acted-more (b ∷ acts) a p q r (s, first, rest) one = (s, first, acted-more acts a s q r rest one)

pub acted-then : (acts bs : List Act) (p q r : PassView) → Acted acts p q → Acted bs q r → Acted (acts ++ bs) p r
acted-then [] bs p q r did more = subst (λ x. Acted bs x r) did more
acted-then (a ∷ acts) bs p q r (s, one, rest) more = (s, one, acted-then acts bs s q r rest more)

same-number : (k : ℕ) → (k == k) ≡ true
same-number k = eq-eqb k k refl

other-number : (a b : ℕ) → (a ≡ b → ⊥) → (a == b) ≡ false
other-number a b n = false_from_ne_true (a == b) (λ e. n (eqb-true a b e))

same-seat : (k : ℕ) (a : Act) (s : SeatView Entry) → seen_in k (a ∷ []) ≡ [] → made_in k (a ∷ []) ≡ [] → opened_in k (a ∷ []) ≡ 0 → closed_in k (a ∷ []) ≡ 0 → SeatActed k (a ∷ []) s s
same-seat k a s none nobody out back = record {
  cell = refl;
  seen = sym (append-nil s.seen) ∙ ap (λ l. s.seen ++ l) (sym none);
  made = sym (append-nil s.made) ∙ ap (λ l. s.made ++ l) (sym nobody);
  share = omega (arith, out, back);
  refused = ([], append-nil s.refused);
}

turned-seat : (k : ℕ) (others : List Entry) (own : Entry) (before after : SeatView Entry) → after.cell ≡ before.cell → after.share ≡ before.share → Begins before.refused after.refused
    → after.seen ≡ (before.seen ++ others) ++ own ∷ [] → after.made ≡ before.made ++ own ∷ [] → SeatActed k (Turn k others own ∷ []) before after
turned-seat k others own before after cell share refused seen made = record {
  cell = cell;
  seen = seen ∙ append_assoc before.seen others (own ∷ []) ∙ ap (λ l. before.seen ++ l) (sym (append-nil (others ++ own ∷ [])) ∙ ap (λ b. (if b then others ++ own ∷ [] else []) ++ []) (sym (same-number k)));
  made = made ∙ ap (λ b. before.made ++ ((if b then own ∷ [] else []) ++ [])) (sym (same-number k));
  share = omega (arith, share);
  refused = refused;
}

busy-seat : (k stripe word : ℕ) (before after : SeatView Entry) → FoundHeld before word after → SeatActed k (Busy stripe word ∷ []) before after
busy-seat k stripe word before after found = record {
  cell = ap (λ (v : SeatView Entry). v.cell) found.seat_is;
  seen = ap (λ (v : SeatView Entry). v.seen) found.seat_is ∙ sym (append-nil before.seen);
  made = ap (λ (v : SeatView Entry). v.made) found.seat_is ∙ sym (append-nil before.made);
  share = ap (λ (v : SeatView Entry). v.share + 0) found.seat_is;
  refused = ((word, found.turn) ∷ [], sym (ap (λ (v : SeatView Entry). v.refused) found.seat_is));
}

opened-here : (stripe k : ℕ) → stripe ≡ k → opened_in k (Open stripe ∷ []) ≡ 1
opened-here stripe k e = ap (λ b. (if b then 1 else 0) + 0) (eq-eqb stripe k e)

closed-here : (stripe k : ℕ) → stripe ≡ k → closed_in k (Close stripe ∷ []) ≡ 1
closed-here stripe k e = ap (λ b. (if b then 1 else 0) + 0) (eq-eqb stripe k e)

opened-seat : (k stripe : ℕ) (seat : SeatView Entry) → stripe ≡ k → 1 < seat.share → SeatActed k (Open stripe ∷ []) seat (kept_part seat 1)
opened-seat k stripe seat here more = record {
  cell = refl;
  seen = sym (append-nil seat.seen);
  made = sym (append-nil seat.made);
  share = omega (arith, opened-here stripe k here, more);
  refused = ([], append-nil seat.refused);
}

closed-seat : (k stripe : ℕ) (seat : SeatView Entry) → stripe ≡ k → SeatActed k (Close stripe ∷ []) seat (with_share seat 1)
closed-seat k stripe seat here = record {
  cell = refl;
  seen = sym (append-nil seat.seen);
  made = sym (append-nil seat.made);
  share = omega (arith, closed-here stripe k here);
  refused = ([], append-nil seat.refused);
}

-- one act, at a stripe where the pass has a seat
pub act-seat : (k : ℕ) (a : Act) (p q : PassView) (s : SeatView Entry) → Acts a p q → slice_get p.stripes k ≡ Some s → (t : SeatView Entry) × (slice_get q.stripes k ≡ Some t) × SeatActed k (a ∷ []) s t
act-seat k (Turn stripe others own) p q s did here = elim (cases_eq stripe k) [
  | inl e ↦
      let same : did.before ≡ s = (let h : slice_get p.stripes stripe ≡ Some s = ap (λ n. slice_get p.stripes n) e ∙ here in let g = did.here in cc) in (
        did.after,
        ap (λ (v : PassView). slice_get v.stripes k) did.pass_is ∙ ap (λ n. slice_get (set p.stripes n did.after) k) e ∙ set-same p.stripes k s did.after here,
        subst (λ n. SeatActed k (Turn n others own ∷ []) s did.after) (sym e)
            (subst (λ b. SeatActed k (Turn k others own ∷ []) b did.after) same (turned-seat k others own did.before did.after did.cell did.share did.refused did.seen did.made)),
      )
  | inr n ↦
      let no : (stripe == k) ≡ false = other-number stripe k n in (
        s,
        ap (λ (v : PassView). slice_get v.stripes k) did.pass_is ∙ set-other p.stripes stripe k did.after (λ e. n (sym e)) ∙ here,
        same-seat k (Turn stripe others own) s (ap (λ b. (if b then others ++ own ∷ [] else []) ++ []) no) (ap (λ b. (if b then own ∷ [] else []) ++ []) no) refl refl,
      )
]
act-seat k (SizeTurn cell others own) p q s did here = (s, ap (λ (v : PassView). slice_get v.stripes k) did.pass_is ∙ here, same-seat k (SizeTurn cell others own) s refl refl refl refl)
act-seat k (Busy stripe word) p q s did here = elim (cases_eq stripe k) [
  | inl e ↦
      let same : did.before ≡ s = (let h : slice_get p.stripes stripe ≡ Some s = ap (λ n. slice_get p.stripes n) e ∙ here in let g = did.here in cc) in (
        did.after,
        ap (λ (v : PassView). slice_get v.stripes k) did.pass_is ∙ ap (λ n. slice_get (set p.stripes n did.after) k) e ∙ set-same p.stripes k s did.after here,
        subst (λ b. SeatActed k (Busy stripe word ∷ []) b did.after) same (busy-seat k stripe word did.before did.after did.found),
      )
  | inr n ↦ (s, ap (λ (v : PassView). slice_get v.stripes k) did.pass_is ∙ set-other p.stripes stripe k did.after (λ e. n (sym e)) ∙ here, same-seat k (Busy stripe word) s refl refl refl refl)
]
act-seat k (Open stripe) p q s did here = elim (cases_eq stripe k) [
  | inl e ↦
      let same : did.seat ≡ s = (let h : slice_get p.stripes stripe ≡ Some s = ap (λ n. slice_get p.stripes n) e ∙ here in let g = did.here in cc) in (
        kept_part did.seat 1,
        ap (λ (v : PassView). slice_get v.stripes k) did.pass_is ∙ ap (λ n. slice_get (set p.stripes n (kept_part did.seat 1)) k) e ∙ set-same p.stripes k s (kept_part did.seat 1) here,
        subst (λ b. SeatActed k (Open stripe ∷ []) b (kept_part did.seat 1)) same (opened-seat k stripe did.seat e did.more),
      )
  | inr n ↦ (s, ap (λ (v : PassView). slice_get v.stripes k) did.pass_is ∙ set-other p.stripes stripe k (kept_part did.seat 1) (λ e. n (sym e)) ∙ here, same-seat k (Open stripe) s refl refl (ap (λ b. (if b then 1 else 0) + 0) (other-number stripe k n)) refl)
]
act-seat k (Close stripe) p q s did here = elim (cases_eq stripe k) [
  | inl e ↦
      let same : did.seat ≡ s = (let h : slice_get p.stripes stripe ≡ Some s = ap (λ n. slice_get p.stripes n) e ∙ here in let g = did.here in cc) in (
        with_share did.seat 1,
        ap (λ (v : PassView). slice_get v.stripes k) did.pass_is ∙ ap (λ n. slice_get (set p.stripes n (with_share did.seat 1)) k) e ∙ set-same p.stripes k s (with_share did.seat 1) here,
        subst (λ b. SeatActed k (Close stripe ∷ []) b (with_share did.seat 1)) same (closed-seat k stripe did.seat e),
      )
  | inr n ↦ (s, ap (λ (v : PassView). slice_get v.stripes k) did.pass_is ∙ set-other p.stripes stripe k (with_share did.seat 1) (λ e. n (sym e)) ∙ here, same-seat k (Close stripe) s refl refl refl (ap (λ b. (if b then 1 else 0) + 0) (other-number stripe k n)))
]
act-seat k (Take file c before after) p q s did here = (s, ap (λ (v : PassView). slice_get v.stripes k) did.pass_is ∙ here, same-seat k (Take file c before after) s refl refl refl refl)
act-seat k (Refused file c before after) p q s did here = (s, ap (λ (v : PassView). slice_get v.stripes k) did.pass_is ∙ here, same-seat k (Refused file c before after) s refl refl refl refl)
act-seat k (Leave file c before after) p q s did here = (s, ap (λ (v : PassView). slice_get v.stripes k) did.pass_is ∙ here, same-seat k (Leave file c before after) s refl refl refl refl)
act-seat k (Run bios) p q s did here = (s, ap (λ (v : PassView). slice_get v.stripes k) did.pass_is ∙ here, same-seat k (Run bios) s refl refl refl refl)
act-seat k (Note begun) p q s did here = (s, ap (λ (v : PassView). slice_get v.stripes k) did ∙ here, same-seat k (Note begun) s refl refl refl refl)
act-seat k (Number call) p q s did here = (s, ap (λ (v : PassView). slice_get v.stripes k) did ∙ here, same-seat k (Number call) s refl refl refl refl)

-- what one act adds stands in front of what the others add
seen-first : (k : ℕ) (a : Act) (acts : List Act) → seen_in k (a ∷ acts) ≡ seen_in k (a ∷ []) ++ seen_in k acts
seen-first k (Turn stripe others own) acts = ap (λ l. l ++ seen_in k acts) (sym (append-nil (if stripe == k then others ++ own ∷ [] else [])))
seen-first k (SizeTurn cell others own) acts = refl
seen-first k (Busy stripe word) acts = refl
seen-first k (Open stripe) acts = refl
seen-first k (Close stripe) acts = refl
seen-first k (Take file c before after) acts = refl
seen-first k (Refused file c before after) acts = refl
seen-first k (Leave file c before after) acts = refl
seen-first k (Run bios) acts = refl
seen-first k (Note begun) acts = refl
seen-first k (Number call) acts = refl

made-first : (k : ℕ) (a : Act) (acts : List Act) → made_in k (a ∷ acts) ≡ made_in k (a ∷ []) ++ made_in k acts
made-first k (Turn stripe others own) acts = ap (λ l. l ++ made_in k acts) (sym (append-nil (if stripe == k then own ∷ [] else [])))
made-first k (SizeTurn cell others own) acts = refl
made-first k (Busy stripe word) acts = refl
made-first k (Open stripe) acts = refl
made-first k (Close stripe) acts = refl
made-first k (Take file c before after) acts = refl
made-first k (Refused file c before after) acts = refl
made-first k (Leave file c before after) acts = refl
made-first k (Run bios) acts = refl
made-first k (Note begun) acts = refl
made-first k (Number call) acts = refl

opened-first : (k : ℕ) (a : Act) (acts : List Act) → opened_in k (a ∷ acts) ≡ opened_in k (a ∷ []) + opened_in k acts
opened-first k (Turn stripe others own) acts = omega arith
opened-first k (SizeTurn cell others own) acts = omega arith
opened-first k (Busy stripe word) acts = omega arith
opened-first k (Open stripe) acts = omega arith
opened-first k (Close stripe) acts = omega arith
opened-first k (Take file c before after) acts = omega arith
opened-first k (Refused file c before after) acts = omega arith
opened-first k (Leave file c before after) acts = omega arith
opened-first k (Run bios) acts = omega arith
opened-first k (Note begun) acts = omega arith
opened-first k (Number call) acts = omega arith

closed-first : (k : ℕ) (a : Act) (acts : List Act) → closed_in k (a ∷ acts) ≡ closed_in k (a ∷ []) + closed_in k acts
closed-first k (Turn stripe others own) acts = omega arith
closed-first k (SizeTurn cell others own) acts = omega arith
closed-first k (Busy stripe word) acts = omega arith
closed-first k (Open stripe) acts = omega arith
closed-first k (Close stripe) acts = omega arith
closed-first k (Take file c before after) acts = omega arith
closed-first k (Refused file c before after) acts = omega arith
closed-first k (Leave file c before after) acts = omega arith
closed-first k (Run bios) acts = omega arith
closed-first k (Note begun) acts = omega arith
closed-first k (Number call) acts = omega arith

-- all acts, at a stripe where the pass has a seat
pub acted-seat : (k : ℕ) (acts : List Act) (p q : PassView) (s : SeatView Entry) → Acted acts p q → slice_get p.stripes k ≡ Some s → (t : SeatView Entry) × (slice_get q.stripes k ≡ Some t) × SeatActed k acts s t
acted-seat k [] p q s did here = (s, ap (λ (v : PassView). slice_get v.stripes k) did ∙ here, record { cell = refl; seen = sym (append-nil s.seen); made = sym (append-nil s.made); share = refl; refused = ([], append-nil s.refused) })
acted-seat k (a ∷ acts) p q s (r, one, rest) here =
    let first = act-seat k a p r s one here in
    let t = first.0 in
    let more = acted-seat k acts r q t rest first.1 in
    let u = more.0 in (
      u,
      more.1,
      record {
        cell = more.2.cell ∙ first.2.cell;
        seen = more.2.seen ∙ ap (λ l. l ++ seen_in k acts) first.2.seen ∙ append_assoc s.seen (seen_in k (a ∷ [])) (seen_in k acts) ∙ ap (λ l. s.seen ++ l) (sym (seen-first k a acts));
        made = more.2.made ∙ ap (λ l. l ++ made_in k acts) first.2.made ∙ append_assoc s.made (made_in k (a ∷ [])) (made_in k acts) ∙ ap (λ l. s.made ++ l) (sym (made-first k a acts));
        share = omega (arith, more.2.share, first.2.share, opened-first k a acts, closed-first k a acts);
        refused = begins-then _ _ _ first.2.refused more.2.refused;
      },
    )

-- The calls of a mount are acts
module _ {does : RangeView → List Entry → RangeView → RangeView → Entry → Type 0} {m : MountView} {stripe : ℕ} {claims left : ClaimsView} {p q : PassView} (t : TurnsAt does m stripe claims left p q) where
  pub turned-act : Acts (Turn stripe t.turned.others t.turned.entry) p q
  turned-act = record { before = t.before; after = t.after; here = t.stand.seat_is; pass_is = t.pass_is; cell = t.same_cell; share = t.same_share; refused = t.refused; seen = t.turned.seen_is; made = t.turned.made_is }

module _ {does : SizesView → List SizeEntry → SizesView → size.ClaimsView → SizesView → size.ClaimsView → SizeEntry → Type 0} {m : MountView} {at : ℕ} {p q : PassView} (t : TurnsAtSize does m at p q) where
  pub turned_size-act : Acts (SizeTurn at t.turned.others t.turned.entry) p q
  turned_size-act = record { before = t.before; after = t.after; here = t.stand.seat_is; pass_is = t.pass_is; same_cell = t.same_cell; share = t.same_share; refused = t.refused; seen = t.turned.seen_is; made = t.turned.made_is }

pub opened-act : {p q : PassView} {stripe : ℕ} {t : TicketView} → Opened p stripe q t → 1 < share_at p stripe → Acts (Open stripe) p q
opened-act o more = record { seat = o.seat; here = o.here; more = subst (λ n. 1 < n) (ap share_in o.here) more; pass_is = o.pass_is }

pub closed-act : {p q : PassView} {t : TicketView} → IsTicketOf p t → ClosedTicket p t q → Acts (Close t.stripe) p q
closed-act {p} {q} {t} is c = record { seat = c.seat; here = c.here; pass_is = c.pass_is ∙ ap (λ n. with_seat p t.stripe (with_share c.seat n)) is.loan.share }

pub taken-act : {p q : PassView} {file : FileId} {h : HoldView} {c : Class} (t : TakesOut (IsWon c) p file q h) → Acts (Take file c t.seat h.seat) p q
taken-act t = record { here = t.here; granted = t.did; pass_is = t.pass_is }

pub left-act : {m : MountView} {p q : PassView} {h : HoldView} {c : Class} → IsHoldOf m p h → (b : BringsBack (IsLeft c) p h q) → Acts (Leave h.file c h.seat b.next) p q
left-act is b = record { out = is.out; left = b.did; pass_is = b.pass_is }

pub busy-act : {p q : PassView} {stripe word : ℕ} → BusyAt stripe word p q → Acts (Busy stripe word) p q
busy-act b = b
