-- What acts come to at a size, at a lock, and of a pass but for its seats.
use Rattle.std.proofs.Common.{◌≡◌, ℕ, zero, suc, ◌+◌, ◌<◌, ◌≤◌, ◌==◌, inl, inr, List, [], ◌∷◌, ◌++◌, length, set, Some, None, Option, Bool, true, false, if◌then◌else◌, refl, sym, ap, ◌∙◌, subst, arith, append-nil, append_assoc}
use Rattle.std.specs.Prelude.{All, slice_get}
use Rattle.std.proofs.lemmas.Bool.{cases_eq, eq-eqb, eqb-true, false_from_ne_true}
use Rattle.std.proofs.lemmas.List.Elements.{All-cons, All-head, All-nil, All-tail}
use Rattle.iob_base.specs.declared.stamp.FileId.{FileId}
use Rattle.inode_lock.specs.View.{LockView}
use Rattle.turn_cell.specs.Stakes.{Begins}
use Rattle.turn_cell.proofs.Beginnings.{begins-then}
use Rattle.bio_pages.specs.Queue.{Grew}
use Rattle.bio_pages.specs.Shelf.{SeatView}
use Rattle.bio_pages.proofs.Growing.{grew-none, grew-then}
use Rattle.size_core.specs.declared.entry.SizeEntry.{SizeEntry}
use Rattle.mount_parts.proofs.Places.{set-other, set-same}
use Rattle.mini_fs.specs.Acts.{Act, Acted, Acts, PassActed, SizeActed, bios_in, last_in, lock_after, size_made_in, size_seen_in}
use Rattle.mini_fs.specs.Acts.Act.{Turn, SizeTurn, Busy, Open, Close, Take, Refused, Leave, Run, Note, Number}
use Rattle.mini_fs.specs.BioSeats.{BioSeatsView, HavePlenty, KeepsShelves, NoneRose, amounts}
use Rattle.mini_fs.specs.PassView.{PassView, SizeSeat}
use Rattle.mini_fs.specs.TicketView.{TicketView}

-- no owner's amount rose, through two steps
rose-none : (ss : List (SeatView TicketView)) → NoneRose ss ss
rose-none [] = tt
rose-none (s ∷ ss) = ((refl, omega arith), rose-none ss)

rose-then : (ss ts us : List (SeatView TicketView)) → NoneRose ss ts → NoneRose ts us → NoneRose ss us
rose-then [] [] [] one two = tt
rose-then [] [] (u ∷ us) one two = absurd two
rose-then [] (t ∷ ts) us one two = absurd one
rose-then (s ∷ ss) [] us one two = absurd one
rose-then (s ∷ ss) (t ∷ ts) [] one two = absurd two
rose-then (s ∷ ss) (t ∷ ts) (u ∷ us) one two = ((two.0.0 ∙ one.0.0, (let a = one.0.1 in let b = two.0.1 in omega arith)), rose-then ss ts us one.1 two.1)

rose-long : (ss ts : List (SeatView TicketView)) → NoneRose ss ts → length ts ≡ length ss
rose-long [] [] rose = refl
rose-long [] (t ∷ ts) rose = absurd rose
rose-long (s ∷ ss) [] rose = absurd rose
rose-long (s ∷ ss) (t ∷ ts) rose = ap suc (rose-long ss ts rose.1)

rose-each : (ss ts : List (SeatView TicketView)) → NoneRose ss ts → All (λ (s : SeatView TicketView). 32 < s.amount) ts → All (λ (s : SeatView TicketView). 32 < s.amount) ss
rose-each [] ts rose all = All-nil (λ (s : SeatView TicketView). 32 < s.amount)
rose-each (s ∷ ss) [] rose all = absurd rose
rose-each (s ∷ ss) (t ∷ ts) rose all =
    let P : SeatView TicketView → Type 0 = λ x. 32 < x.amount in
    All-cons P s ss (let a = rose.0.1 in let b = All-head P t ts all in omega arith) (rose-each ss ts rose.1 (All-tail P t ts all))

-- where there is plenty after a step, there was before it
plenty-before : (ss ts : List (SeatView TicketView)) → NoneRose ss ts → HavePlenty ts → HavePlenty ss
plenty-before ss ts rose plenty = ((let l = rose-long ss ts rose in let a = plenty.0 in omega arith), rose-each ss ts rose plenty.1)

kept-none : (b : BioSeatsView) → KeepsShelves 0 b b
kept-none b = record { same = rose-none b.shelves; sent = 0; most = omega arith; fell = omega arith }

kept-then : (m n : ℕ) (b c d : BioSeatsView) → KeepsShelves m b c → KeepsShelves n c d → KeepsShelves (m + n) b d
kept-then m n b c d one two = record {
  same = rose-then b.shelves c.shelves d.shelves one.same two.same;
  sent = one.sent + two.sent;
  most = omega (arith, one.most, two.most);
  fell = omega (arith, one.fell, two.fell);
}

-- a step that leaves all of this
left-alone : (a : Act) (p q : PassView) → bios_in (a ∷ []) ≡ 0 → last_in p.last (a ∷ []) ≡ q.last → q.caller ≡ p.caller → q.spare ≡ p.spare → q.bios ≡ p.bios → PassActed (a ∷ []) p q
left-alone a p q none last caller spare bios = record {
  caller = caller;
  spare = spare;
  last = sym last;
  shelves = subst (λ n. KeepsShelves n p.bios q.bios) (sym none) (subst (λ b. KeepsShelves 0 p.bios b) (sym bios) (kept-none p.bios));
  pushed = λ plenty. subst (λ n. Grew n p.bios.queue q.bios.queue) (sym none) (subst (λ (b : BioSeatsView). Grew 0 p.bios.queue b.queue) (sym bios) (grew-none p.bios.queue));
}

-- one act
act-pass : (a : Act) (p q : PassView) → Acts a p q → PassActed (a ∷ []) p q
act-pass (Turn stripe others own) p q did = left-alone (Turn stripe others own) p q refl (sym (ap (λ (v : PassView). v.last) did.pass_is)) (ap (λ (v : PassView). v.caller) did.pass_is) (ap (λ (v : PassView). v.spare) did.pass_is) (ap (λ (v : PassView). v.bios) did.pass_is)
act-pass (SizeTurn cell others own) p q did = left-alone (SizeTurn cell others own) p q refl (sym (ap (λ (v : PassView). v.last) did.pass_is)) (ap (λ (v : PassView). v.caller) did.pass_is) (ap (λ (v : PassView). v.spare) did.pass_is) (ap (λ (v : PassView). v.bios) did.pass_is)
act-pass (Busy stripe word) p q did = left-alone (Busy stripe word) p q refl (sym (ap (λ (v : PassView). v.last) did.pass_is)) (ap (λ (v : PassView). v.caller) did.pass_is) (ap (λ (v : PassView). v.spare) did.pass_is) (ap (λ (v : PassView). v.bios) did.pass_is)
act-pass (Open stripe) p q did = left-alone (Open stripe) p q refl (sym (ap (λ (v : PassView). v.last) did.pass_is)) (ap (λ (v : PassView). v.caller) did.pass_is) (ap (λ (v : PassView). v.spare) did.pass_is) (ap (λ (v : PassView). v.bios) did.pass_is)
act-pass (Close stripe) p q did = left-alone (Close stripe) p q refl (sym (ap (λ (v : PassView). v.last) did.pass_is)) (ap (λ (v : PassView). v.caller) did.pass_is) (ap (λ (v : PassView). v.spare) did.pass_is) (ap (λ (v : PassView). v.bios) did.pass_is)
act-pass (Take file c before after) p q did = left-alone (Take file c before after) p q refl (sym (ap (λ (v : PassView). v.last) did.pass_is)) (ap (λ (v : PassView). v.caller) did.pass_is) (ap (λ (v : PassView). v.spare) did.pass_is) (ap (λ (v : PassView). v.bios) did.pass_is)
act-pass (Refused file c before after) p q did = left-alone (Refused file c before after) p q refl (sym (ap (λ (v : PassView). v.last) did.pass_is)) (ap (λ (v : PassView). v.caller) did.pass_is) (ap (λ (v : PassView). v.spare) did.pass_is) (ap (λ (v : PassView). v.bios) did.pass_is)
act-pass (Leave file c before after) p q did = left-alone (Leave file c before after) p q refl (sym (ap (λ (v : PassView). v.last) did.pass_is)) (ap (λ (v : PassView). v.caller) did.pass_is) (ap (λ (v : PassView). v.spare) did.pass_is) (ap (λ (v : PassView). v.bios) did.pass_is)
act-pass (Run bios) p q did = record {
  caller = ap (λ (v : PassView). v.caller) did.pass_is;
  spare = ap (λ (v : PassView). v.spare) did.pass_is;
  last = ap (λ (v : PassView). v.last) did.pass_is;
  shelves = subst (λ n. KeepsShelves n p.bios q.bios) (let e : bios ≡ bios + 0 = omega arith in e) did.shelves;
  pushed = λ plenty. subst (λ n. Grew n p.bios.queue q.bios.queue) (let e : bios ≡ bios + 0 = omega arith in e) (did.pushed plenty);
}
act-pass (Note begun) p q did = left-alone (Note begun) p q refl (sym (ap (λ (v : PassView). v.last) did)) (ap (λ (v : PassView). v.caller) did) (ap (λ (v : PassView). v.spare) did) (ap (λ (v : PassView). v.bios) did)
act-pass (Number call) p q did = left-alone (Number call) p q refl (sym (ap (λ (v : PassView). v.last) did)) (ap (λ (v : PassView). v.caller) did) (ap (λ (v : PassView). v.spare) did) (ap (λ (v : PassView). v.bios) did)

-- what one act adds comes before what the others add
bios-first : (a : Act) (acts : List Act) → bios_in (a ∷ acts) ≡ bios_in (a ∷ []) + bios_in acts
bios-first (Turn stripe others own) acts = omega arith
bios-first (SizeTurn cell others own) acts = omega arith
bios-first (Busy stripe word) acts = omega arith
bios-first (Open stripe) acts = omega arith
bios-first (Close stripe) acts = omega arith
bios-first (Take file c before after) acts = omega arith
bios-first (Refused file c before after) acts = omega arith
bios-first (Leave file c before after) acts = omega arith
bios-first (Run bios) acts = omega arith
bios-first (Note begun) acts = omega arith
bios-first (Number call) acts = omega arith

last-first : (last : ℕ) (a : Act) (acts : List Act) → last_in last (a ∷ acts) ≡ last_in (last_in last (a ∷ [])) acts
last-first last (Turn stripe others own) acts = refl
last-first last (SizeTurn cell others own) acts = refl
last-first last (Busy stripe word) acts = refl
last-first last (Open stripe) acts = refl
last-first last (Close stripe) acts = refl
last-first last (Take file c before after) acts = refl
last-first last (Refused file c before after) acts = refl
last-first last (Leave file c before after) acts = refl
last-first last (Run bios) acts = refl
last-first last (Note begun) acts = refl
last-first last (Number call) acts = refl

-- all acts
pub acted-pass : (acts : List Act) (p q : PassView) → Acted acts p q → PassActed acts p q
acted-pass [] p q did = record {
  caller = ap (λ (v : PassView). v.caller) did;
  spare = ap (λ (v : PassView). v.spare) did;
  last = ap (λ (v : PassView). v.last) did;
  shelves = subst (λ (v : PassView). KeepsShelves 0 p.bios v.bios) (sym did) (kept-none p.bios);
  pushed = λ plenty. subst (λ (v : PassView). Grew 0 p.bios.queue v.bios.queue) (sym did) (grew-none p.bios.queue);
}
acted-pass (a ∷ acts) p q (r, one, rest) =
    let first = act-pass a p r one in
    let more = acted-pass acts r q rest in
    record {
      caller = more.caller ∙ first.caller;
      spare = more.spare ∙ first.spare;
      last = more.last ∙ ap (λ n. last_in n acts) first.last ∙ sym (last-first p.last a acts);
      shelves = subst (λ n. KeepsShelves n p.bios q.bios) (sym (bios-first a acts)) (kept-then (bios_in (a ∷ [])) (bios_in acts) p.bios r.bios q.bios first.shelves more.shelves);
      pushed = λ plenty. subst (λ n. Grew n p.bios.queue q.bios.queue) (sym (bios-first a acts)) (grew-then (bios_in (a ∷ [])) (bios_in acts) p.bios.queue r.bios.queue q.bios.queue (first.pushed (plenty-before r.bios.shelves q.bios.shelves more.shelves.same plenty)) (more.pushed plenty));
    }

-- one act, at a size where the pass has a seat
size-alone : (k : ℕ) (a : Act) (s : SizeSeat) → size_seen_in k (a ∷ []) ≡ [] → size_made_in k (a ∷ []) ≡ [] → SizeActed k (a ∷ []) s s
size-alone k a s none nobody = record {
  cell = refl;
  share = refl;
  seen = sym (append-nil s.seat.seen) ∙ ap (λ l. s.seat.seen ++ l) (sym none);
  made = sym (append-nil s.seat.made) ∙ ap (λ l. s.seat.made ++ l) (sym nobody);
  refused = ([], append-nil s.seat.refused);
}

same-number : (k : ℕ) → (k == k) ≡ true
same-number k = eq-eqb k k refl

other-number : (a b : ℕ) → (a ≡ b → ⊥) → (a == b) ≡ false
other-number a b n = false_from_ne_true (a == b) (λ e. n (eqb-true a b e))

size-turned : (k : ℕ) (others : List SizeEntry) (own : SizeEntry) (before after : SizeSeat) → after.seat.cell ≡ before.seat.cell → after.seat.share ≡ before.seat.share → Begins before.seat.refused after.seat.refused
    → after.seat.seen ≡ (before.seat.seen ++ others) ++ own ∷ [] → after.seat.made ≡ before.seat.made ++ own ∷ [] → SizeActed k (SizeTurn k others own ∷ []) before after
size-turned k others own before after cell share refused seen made = record {
  cell = cell;
  share = share;
  seen = seen ∙ append_assoc before.seat.seen others (own ∷ []) ∙ ap (λ l. before.seat.seen ++ l) (sym (append-nil (others ++ own ∷ [])) ∙ ap (λ b. (if b then others ++ own ∷ [] else []) ++ []) (sym (same-number k)));
  made = made ∙ ap (λ b. before.seat.made ++ ((if b then own ∷ [] else []) ++ [])) (sym (same-number k));
  refused = refused;
}

act-size : (k : ℕ) (a : Act) (p q : PassView) (s : SizeSeat) → Acts a p q → slice_get p.sizes k ≡ Some s → (t : SizeSeat) × (slice_get q.sizes k ≡ Some t) × SizeActed k (a ∷ []) s t
act-size k (Turn stripe others own) p q s did here = (s, ap (λ (v : PassView). slice_get v.sizes k) did.pass_is ∙ here, size-alone k (Turn stripe others own) s refl refl)
act-size k (SizeTurn cell others own) p q s did here = elim (cases_eq cell k) [
  | inl e ↦
      let same : did.before ≡ s = (let h : slice_get p.sizes cell ≡ Some s = ap (λ n. slice_get p.sizes n) e ∙ here in let g = did.here in cc) in (
        did.after,
        ap (λ (v : PassView). slice_get v.sizes k) did.pass_is ∙ ap (λ n. slice_get (set p.sizes n did.after) k) e ∙ set-same p.sizes k s did.after here,
        subst (λ n. SizeActed k (SizeTurn n others own ∷ []) s did.after) (sym e)
            (subst (λ b. SizeActed k (SizeTurn k others own ∷ []) b did.after) same (size-turned k others own did.before did.after did.same_cell did.share did.refused did.seen did.made)),
      )
  | inr n ↦
      let no : (cell == k) ≡ false = other-number cell k n in (
        s,
        ap (λ (v : PassView). slice_get v.sizes k) did.pass_is ∙ set-other p.sizes cell k did.after (λ e. n (sym e)) ∙ here,
        size-alone k (SizeTurn cell others own) s (ap (λ b. (if b then others ++ own ∷ [] else []) ++ []) no) (ap (λ b. (if b then own ∷ [] else []) ++ []) no),
      )
]
act-size k (Busy stripe word) p q s did here = (s, ap (λ (v : PassView). slice_get v.sizes k) did.pass_is ∙ here, size-alone k (Busy stripe word) s refl refl)
act-size k (Open stripe) p q s did here = (s, ap (λ (v : PassView). slice_get v.sizes k) did.pass_is ∙ here, size-alone k (Open stripe) s refl refl)
act-size k (Close stripe) p q s did here = (s, ap (λ (v : PassView). slice_get v.sizes k) did.pass_is ∙ here, size-alone k (Close stripe) s refl refl)
act-size k (Take file c before after) p q s did here = (s, ap (λ (v : PassView). slice_get v.sizes k) did.pass_is ∙ here, size-alone k (Take file c before after) s refl refl)
act-size k (Refused file c before after) p q s did here = (s, ap (λ (v : PassView). slice_get v.sizes k) did.pass_is ∙ here, size-alone k (Refused file c before after) s refl refl)
act-size k (Leave file c before after) p q s did here = (s, ap (λ (v : PassView). slice_get v.sizes k) did.pass_is ∙ here, size-alone k (Leave file c before after) s refl refl)
act-size k (Run bios) p q s did here = (s, ap (λ (v : PassView). slice_get v.sizes k) did.pass_is ∙ here, size-alone k (Run bios) s refl refl)
act-size k (Note begun) p q s did here = (s, ap (λ (v : PassView). slice_get v.sizes k) did ∙ here, size-alone k (Note begun) s refl refl)
act-size k (Number call) p q s did here = (s, ap (λ (v : PassView). slice_get v.sizes k) did ∙ here, size-alone k (Number call) s refl refl)

size_seen-first : (k : ℕ) (a : Act) (acts : List Act) → size_seen_in k (a ∷ acts) ≡ size_seen_in k (a ∷ []) ++ size_seen_in k acts
size_seen-first k (Turn stripe others own) acts = refl
size_seen-first k (SizeTurn cell others own) acts = ap (λ l. l ++ size_seen_in k acts) (sym (append-nil (if cell == k then others ++ own ∷ [] else [])))
size_seen-first k (Busy stripe word) acts = refl
size_seen-first k (Open stripe) acts = refl
size_seen-first k (Close stripe) acts = refl
size_seen-first k (Take file c before after) acts = refl
size_seen-first k (Refused file c before after) acts = refl
size_seen-first k (Leave file c before after) acts = refl
size_seen-first k (Run bios) acts = refl
size_seen-first k (Note begun) acts = refl
size_seen-first k (Number call) acts = refl

size_made-first : (k : ℕ) (a : Act) (acts : List Act) → size_made_in k (a ∷ acts) ≡ size_made_in k (a ∷ []) ++ size_made_in k acts
size_made-first k (Turn stripe others own) acts = refl
size_made-first k (SizeTurn cell others own) acts = ap (λ l. l ++ size_made_in k acts) (sym (append-nil (if cell == k then own ∷ [] else [])))
size_made-first k (Busy stripe word) acts = refl
size_made-first k (Open stripe) acts = refl
size_made-first k (Close stripe) acts = refl
size_made-first k (Take file c before after) acts = refl
size_made-first k (Refused file c before after) acts = refl
size_made-first k (Leave file c before after) acts = refl
size_made-first k (Run bios) acts = refl
size_made-first k (Note begun) acts = refl
size_made-first k (Number call) acts = refl

-- all acts, at a size where the pass has a seat
pub acted-size : (k : ℕ) (acts : List Act) (p q : PassView) (s : SizeSeat) → Acted acts p q → slice_get p.sizes k ≡ Some s → (t : SizeSeat) × (slice_get q.sizes k ≡ Some t) × SizeActed k acts s t
acted-size k [] p q s did here = (s, ap (λ (v : PassView). slice_get v.sizes k) did ∙ here, record { cell = refl; share = refl; seen = sym (append-nil s.seat.seen); made = sym (append-nil s.seat.made); refused = ([], append-nil s.seat.refused) })
acted-size k (a ∷ acts) p q s (r, one, rest) here =
    let first = act-size k a p r s one here in
    let t = first.0 in
    let more = acted-size k acts r q t rest first.1 in (
      more.0,
      more.1,
      record {
        cell = more.2.cell ∙ first.2.cell;
        share = more.2.share ∙ first.2.share;
        seen = more.2.seen ∙ ap (λ l. l ++ size_seen_in k acts) first.2.seen ∙ append_assoc s.seat.seen (size_seen_in k (a ∷ [])) (size_seen_in k acts) ∙ ap (λ l. s.seat.seen ++ l) (sym (size_seen-first k a acts));
        made = more.2.made ∙ ap (λ l. l ++ size_made_in k acts) first.2.made ∙ append_assoc s.seat.made (size_made_in k (a ∷ [])) (size_made_in k acts) ∙ ap (λ l. s.seat.made ++ l) (sym (size_made-first k a acts));
        refused = begins-then _ _ _ first.2.refused more.2.refused;
      },
    )

-- one act, at the lock of a file
at-lock : (f : ℕ) (p q : PassView) (file : FileId) (place was now : Option LockView) → slice_get p.locks f ≡ Some place → slice_get p.locks file.0 ≡ Some was → slice_get q.locks f ≡ slice_get (set p.locks file.0 now) f → slice_get q.locks f ≡ Some (if file.0 == f then now else place)
at-lock f p q file place was now here there is = elim (cases_eq file.0 f) [
  | inl e ↦ is ∙ ap (λ n. slice_get (set p.locks n now) f) e ∙ set-same p.locks f place now here ∙ ap (λ b. Some (if b then now else place)) (sym (eq-eqb file.0 f e))
  | inr n ↦ is ∙ set-other p.locks file.0 f now (λ e. n (sym e)) ∙ here ∙ ap (λ b. Some (if b then now else place)) (sym (other-number file.0 f n))
]

act-lock : (f : ℕ) (a : Act) (p q : PassView) (place : Option LockView) → Acts a p q → slice_get p.locks f ≡ Some place → slice_get q.locks f ≡ Some (lock_after f place (a ∷ []))
act-lock f (Turn stripe others own) p q place did here = ap (λ (v : PassView). slice_get v.locks f) did.pass_is ∙ here
act-lock f (SizeTurn cell others own) p q place did here = ap (λ (v : PassView). slice_get v.locks f) did.pass_is ∙ here
act-lock f (Busy stripe word) p q place did here = ap (λ (v : PassView). slice_get v.locks f) did.pass_is ∙ here
act-lock f (Open stripe) p q place did here = ap (λ (v : PassView). slice_get v.locks f) did.pass_is ∙ here
act-lock f (Close stripe) p q place did here = ap (λ (v : PassView). slice_get v.locks f) did.pass_is ∙ here
act-lock f (Take file c before after) p q place did here = at-lock f p q file place (Some before) None here did.here (ap (λ (v : PassView). slice_get v.locks f) did.pass_is)
act-lock f (Refused file c before after) p q place did here = at-lock f p q file place (Some before) (Some after) here did.here (ap (λ (v : PassView). slice_get v.locks f) did.pass_is)
act-lock f (Leave file c before after) p q place did here = at-lock f p q file place None (Some after) here did.out (ap (λ (v : PassView). slice_get v.locks f) did.pass_is)
act-lock f (Run bios) p q place did here = ap (λ (v : PassView). slice_get v.locks f) did.pass_is ∙ here
act-lock f (Note begun) p q place did here = ap (λ (v : PassView). slice_get v.locks f) did ∙ here
act-lock f (Number call) p q place did here = ap (λ (v : PassView). slice_get v.locks f) did ∙ here

lock-first : (f : ℕ) (place : Option LockView) (a : Act) (acts : List Act) → lock_after f place (a ∷ acts) ≡ lock_after f (lock_after f place (a ∷ [])) acts
lock-first f place (Turn stripe others own) acts = refl
lock-first f place (SizeTurn cell others own) acts = refl
lock-first f place (Busy stripe word) acts = refl
lock-first f place (Open stripe) acts = refl
lock-first f place (Close stripe) acts = refl
lock-first f place (Take file c before after) acts = refl
lock-first f place (Refused file c before after) acts = refl
lock-first f place (Leave file c before after) acts = refl
lock-first f place (Run bios) acts = refl
lock-first f place (Note begun) acts = refl
lock-first f place (Number call) acts = refl

-- all acts, at the lock of a file
pub acted-lock : (f : ℕ) (acts : List Act) (p q : PassView) (place : Option LockView) → Acted acts p q → slice_get p.locks f ≡ Some place → slice_get q.locks f ≡ Some (lock_after f place acts)
acted-lock f [] p q place did here = ap (λ (v : PassView). slice_get v.locks f) did ∙ here
acted-lock f (a ∷ acts) p q place (r, one, rest) here =
    acted-lock f acts r q (lock_after f place (a ∷ [])) rest (act-lock f a p r place one here) ∙ ap Some (sym (lock-first f place a acts))
