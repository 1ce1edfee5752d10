-- Turns that give space to the parts of a run of blocks make up the run.
use Rattle.std.proofs.Common.{◌≡◌, ℕ, zero, suc, ◌+◌, ◌-◌, ◌<◌, ◌≤◌, inl, inr, Bool, true, false, List, [], ◌∷◌, ◌++◌, length, None, Ok, Err, refl, sym, ap, ◌∙◌, subst, arith, append-nil}
use Rattle.std.specs.Prelude.{◌%◌, ◌/◌, ◌==◌, All, IsTrue, Result, if◌then◌else◌}
use Rattle.std.proofs.lemmas.Bool.{cases_lt, eq-eqb}
use Rattle.std.proofs.lemmas.List.Elements.{All-append, All-cons, All-head, All-nil, All-tail}
use Rattle.iob_base.specs.declared.answer.Fault.{Fault}
use Rattle.iob_base.specs.declared.stamp.FileId.{FileId}
use Rattle.fault_device.specs.LaneView.{LaneView, lane_of}
use Rattle.turn_cell.specs.Stakes.{total}
use Rattle.turn_cell.proofs.Sums.{total-append}
use Rattle.range_core.specs.Attaches.{pairs_taken}
use Rattle.range_core.specs.EntryCounts.{has_lent, lendings, one_where}
use Rattle.range_core.specs.OnRun.{count_on}
use Rattle.range_core.specs.Placing.{lacks_sector}
use Rattle.range_core.specs.RangeView.{LiesAt}
use Rattle.range_core.specs.Refusals.{run_of}
use Rattle.range_core.specs.declared.entry.Entry.{Entry}
use Rattle.range_core.specs.declared.entry.Event.TheVariants.{Preallocate}
use Rattle.range_core.specs.declared.entry.Outcome.TheVariants.{Refused, Took}
use Rattle.range_core.specs.declared.fault.EventFault.{EventFault}
use Rattle.range_core.specs.declared.fault.EventFault.TheVariants as refusal
use Rattle.range_core.proofs.CountLemmas.{count_on-total}
use Rattle.range_core.proofs.PlaceLemmas.{length-pairs}
use Rattle.mount_parts.specs.MountView.{HasBlock, IsLaidOut, MountView, file_at, stripe_at}
use Rattle.mini_fs.specs.Acts.{Act, made_in, own_entries}
use Rattle.mini_fs.specs.Acts.Act.{Turn, SizeTurn, Busy, Open, Close, Take, Refused as Denied, Leave, Run, Note, Number}
use Rattle.mini_fs.specs.PageTurns.{entry_by}
use Rattle.mini_fs.specs.PassView.{IsPassOf, PassView, claims_of}
use Rattle.mini_fs.specs.SpaceTurns.{Preallocated}
use Rattle.mini_fs.specs.Turns.{ReadyAt, TurnsAt}
use Rattle.mini_fs.proofs.ActLemmas.{turned-act}
use Rattle.mini_fs.proofs.CallEnds.{acted-caller}
use Rattle.mini_fs.proofs.CallLemmas.{own_entries-append}
use Rattle.mini_fs.proofs.Ready.{run-lies}
use Rattle.buffered_write.specs.Allocates.{AllocatesPart, AllocatesRun, ComesTo, EndsParts, GiveParts, GivesPart, HasAllocated, IsGivenBy, IsInStripe, RefusesPart, StaysInStripe, all_taken, allocates, blocks_taken, space_fault, stripe_end}
use Rattle.call_parts.specs.Causes.{HasOne, IsCaused}
use Rattle.call_parts.specs.Steps.{IsPlaced, done_of, is_quiet}
use Rattle.call_parts.proofs.MapLemmas.{act-step}
use Rattle.call_parts.proofs.SpaceLemmas.{ShortOf, place-short}
use Rattle.call_parts.proofs.StepLemmas.{caused-right, one-right, quiet-act, steps-none, steps-then}

-- no more blocks of a run pass a test than the run has
one-few : (t : Bool) → one_where t ≤ 1
one-few true = omega arith
one-few false = omega arith

count-few : {A : Type 0} (p : A → Bool) (low n : ℕ) (xs : List A) → count_on p low n xs ≤ n
count-few p zero zero xs = omega arith
count-few p zero (suc n) [] = omega arith
count-few p zero (suc n) (x ∷ xs) = let one = one-few (p x) in let rest = count-few p zero n xs in omega (arith, one, rest)
count-few p (suc low) n [] = omega arith
count-few p (suc low) n (x ∷ xs) = count-few p low n xs

-- a turn that gives space takes no transfer back
done-none : (e : Entry) (at n : ℕ) → e.event ≡ Preallocate at n → done_of e.event e.outcome ≡ []
done-none e at n is = ap (λ x. done_of x e.outcome) is

-- a refusal causes the fault that tells it
refusal-causes : (m : MountView) (refused : EventFault) (own : Entry) → own.outcome ≡ Refused refused → ShortOf m refused → IsCaused m (own ∷ []) (space_fault refused)
refusal-causes m (refusal.Worn cookie) own is short = (0, own, refl, is)
refusal-causes m (refusal.NoSpace wanted found) own is short = ((0, own, refl, is), short)
refusal-causes m refusal.NoMemory own is short = tt
refusal-causes m (refusal.Stale sample now) own is short = tt
refusal-causes m (refusal.Away block ticket) own is short = tt
refusal-causes m (refusal.Cold block) own is short = tt
refusal-causes m (refusal.Settled block) own is short = tt
refusal-causes m (refusal.Unattached block) own is short = tt
refusal-causes m (refusal.Dirty block) own is short = tt
refusal-causes m (refusal.Poison done) own is short = tt

-- a lane, where a step says the same of each
pub some_lane : LaneView
some_lane = lane_of 0 0 None

-- One turn at the part of a run that begins with a block
module _ (m : MountView) (file : FileId) (to at n : ℕ) (p q : PassView) (n_is : n ≡ stripe_end to at - at) (some : at < to) (within : to ≤ (file_at m file).blocks) where
  pub part-block : HasBlock m file at
  part-block = omega (arith, some, within)

  pub part-ready : IsLaidOut m → ReadyAt (λ opening history claims. LiesAt opening at n) m p (stripe_at m file at) (claims_of p)
  part-ready laid cell seat stand = run-lies m file laid at n (omega (arith, n_is, some)) (omega (arith, n_is, some, within)) (omega (arith, n_is, some)) cell stand.cell_is

  -- an entry that gave space, or was to, left no stamps, and its run lies in the stripe
  gives-placed : (own : Entry) → own.event ≡ Preallocate at n → (others : List Entry) → IsPlaced m file (Turn (stripe_at m file at) others own)
  gives-placed own is others = quiet-act m file (stripe_at m file at) others own (subst (λ e. IsTrue (is_quiet e)) (sym is) refl)

  stays-one : (own : Entry) → own.event ≡ Preallocate at n → (others : List Entry) → All (StaysInStripe m file) (Turn (stripe_at m file at) others own ∷ [])
  stays-one own is others =
      let fits : at % 64 + n ≤ 64 = omega (arith, n_is, some) in
      All-cons (StaysInStripe m file) (Turn (stripe_at m file at) others own) [] (subst (IsInStripe m file (stripe_at m file at)) (sym is) (refl, fits)) (All-nil (StaysInStripe m file))

  pub part-given : (taken : ℕ) → IsPassOf m p → TurnsAt (λ opening history before after entry. Preallocated m.pool.opening at n (claims_of p) (Ok taken) before after entry) m (stripe_at m file at) (claims_of p) (claims_of p) p q → AllocatesPart m file to at p q (Ok taken)
  part-given taken of t =
      let own = t.turned.entry in
      let given = t.turned.done.ok in
      let placed = given.placed in
      let before = t.turned.value in
      let pairs = pairs_taken lacks_sector before at n placed.sectors in
      let outcome : own.outcome ≡ Took pairs = ap (λ (e : Entry). e.outcome) given.entry_is in
      let event : own.event ≡ Preallocate at n = ap (λ (e : Entry). e.event) given.entry_is in
      let many : length pairs ≡ length placed.sectors = length-pairs lacks_sector at (run_of before at n) placed.sectors (placed.as_many ∙ placed.count ∙ count_on-total lacks_sector (at - before.first) n before.cells) in
      let few : taken ≤ n = subst (λ k. k ≤ n) (sym placed.count) (count-few lacks_sector (at - before.first) n before.cells) in
      record {
        acts = Turn (stripe_at m file at) t.turned.others own ∷ [];
        steps = act-step m file allocates at t.turned.others own p q of part-block (turned-act t) (subst (λ e. IsTrue (allocates e)) (sym event) refl) (ap (λ (e : Entry). e.caller) given.entry_is) (ap has_lent outcome) (done-none own at n event) (gives-placed own event t.turned.others);
        entry = own;
        entries = refl;
        stays = stays-one own event t.turned.others;
        cause = tt;
        part = (
          record { some = some; pairs = pairs; entry_is = given.entry_is ∙ ap (λ k. entry_by p.caller (Preallocate at k) (Took pairs)) n_is },
          sym (ap blocks_taken outcome ∙ many ∙ placed.as_many),
          subst (λ k. taken ≤ k) n_is few,
        );
      }

  pub part-refused : (refused : EventFault) (fault : Fault) → fault ≡ space_fault refused → IsPassOf m p
      → TurnsAt (λ opening history before after entry. Preallocated m.pool.opening at n (claims_of p) (Err refused) before after entry) m (stripe_at m file at) (claims_of p) (claims_of p) p q → AllocatesPart m file to at p q (Err fault)
  part-refused refused fault is of t =
      let own = t.turned.entry in
      let none = t.turned.done.err in
      let event : own.event ≡ Preallocate at n = ap (λ (e : Entry). e.event) none.entry_is in
      record {
        acts = Turn (stripe_at m file at) t.turned.others own ∷ [];
        steps = act-step m file allocates at t.turned.others own p q of part-block (turned-act t) (subst (λ e. IsTrue (allocates e)) (sym event) refl) (ap (λ (e : Entry). e.caller) none.entry_is) (ap (λ (e : Entry). has_lent e.outcome) none.entry_is) (done-none own at n event) (gives-placed own event t.turned.others);
        entry = own;
        entries = refl;
        stays = stays-one own event t.turned.others;
        cause = subst (IsCaused m (own ∷ [])) (sym is) (refusal-causes m refused own (ap (λ (e : Entry). e.outcome) none.entry_is) (place-short m file p q at n refused t));
        part = record { some = some; refused = refused; entry_is = none.entry_is ∙ ap (λ k. entry_by p.caller (Preallocate at k) (Refused refused)) n_is; fault_is = is };
      }

-- one more part was given space
parts-then : (caller to from at : ℕ) (entries : List Entry) (e : Entry) → GiveParts caller to from at entries → GivesPart caller to at e → GiveParts caller to from (stripe_end to at) (entries ++ e ∷ [])
parts-then caller to from at [] e is one = (subst (λ k. GivesPart caller to k e) (sym is) one, ap (stripe_end to) is)
parts-then caller to from at (x ∷ entries) e (first, rest) one = (first, parts-then caller to (stripe_end to from) at entries e rest one)

-- no part is none, and one more part is one more
module _ (m : MountView) (file : FileId) (to from : ℕ) where
  pub none-allocated : (p : PassView) → IsPassOf m p → HasAllocated m file to from from p p 0
  none-allocated p of = record { acts = []; steps = λ lane. steps-none m file allocates lane p of; parts = refl; stays = All-nil (StaysInStripe m file); count_is = refl; few = omega arith }

  caller-kept : (at count : ℕ) (p q : PassView) → HasAllocated m file to from at p q count → q.caller ≡ p.caller
  caller-kept at count p q so = acted-caller so.acts p q (so.steps some_lane).did.acted

  pub more-allocated : (at count more : ℕ) (p q r : PassView) → from ≤ at → at < to → HasAllocated m file to from at p q count → AllocatesPart m file to at q r (Ok more) → HasAllocated m file to from (stripe_end to at) p r (count + more)
  more-allocated at count more p q r low below so one =
      let entries : own_entries (so.acts ++ one.acts) ≡ own_entries so.acts ++ one.entry ∷ [] = own_entries-append so.acts one.acts ∙ ap (λ l. own_entries so.acts ++ l) one.entries in
      let part = subst (λ c. GivesPart c to at one.entry) (caller-kept at count p q so) one.part.0 in
      let was = so.few in
      let now = one.part.2 in
      let sum = total-append (λ (e : Entry). blocks_taken e.outcome) (own_entries so.acts) (one.entry ∷ []) in
      let counted : count + more ≡ all_taken (own_entries so.acts ++ one.entry ∷ []) = (let a = so.count_is in let b = one.part.1 in omega (arith, a, b, sum)) in
      record {
        acts = so.acts ++ one.acts;
        steps = λ lane. steps-then m file allocates lane lane lane p q r so.acts one.acts (so.steps lane) (one.steps lane);
        parts = subst (GiveParts p.caller to from (stripe_end to at)) (sym entries) (parts-then p.caller to from at (own_entries so.acts) one.entry so.parts part);
        stays = All-append (StaysInStripe m file) so.acts one.acts so.stays one.stays;
        count_is = counted ∙ ap all_taken (sym entries);
        few = omega (arith, was, now, low, below);
      }

  -- all parts were given space
  pub run-allocated : (at count : ℕ) (p q : PassView) → at ≡ to → HasAllocated m file to from at p q count → AllocatesRun m file from to p q (Ok count)
  run-allocated at count p q ends so = record {
    acts = so.acts;
    steps = so.steps;
    comes = record { given = own_entries so.acts; last = []; at = at; entries_are = sym (append-nil (own_entries so.acts)); parts = so.parts; ends = (refl, ends) };
    stays = so.stays;
    cause = tt;
    count = (so.count_is, subst (λ k. count ≤ k - from) ends so.few);
  }

  -- a part was refused
  pub run-refused : (at count : ℕ) (p q r : PassView) (fault : Fault) → HasAllocated m file to from at p q count → AllocatesPart m file to at q r (Err fault) → AllocatesRun m file from to p r (Err fault)
  run-refused at count p q r fault so one = record {
    acts = so.acts ++ one.acts;
    steps = λ lane. steps-then m file allocates lane lane lane p q r so.acts one.acts (so.steps lane) (one.steps lane);
    comes = record {
      given = own_entries so.acts;
      last = one.entry ∷ [];
      at = at;
      entries_are = own_entries-append so.acts one.acts ∙ ap (λ l. own_entries so.acts ++ l) one.entries;
      parts = so.parts;
      ends = (one.entry, refl, subst (λ c. RefusesPart c to at one.entry fault) (caller-kept at count p q so) one.part);
    };
    stays = All-append (StaysInStripe m file) so.acts one.acts so.stays one.stays;
    cause = subst (λ l. IsCaused m l fault) (sym (own_entries-append so.acts one.acts)) (caused-right m (own_entries so.acts) (own_entries one.acts) fault one.cause);
    count = tt;
  }

-- each block of the parts is in the run of one of the entries
pub block-given : (caller to from at b : ℕ) (entries : List Entry) → GiveParts caller to from at entries → from ≤ b → b < at → HasOne (IsGivenBy caller b) entries
block-given caller to from at b [] is low high = absurd (omega (arith, is, low, high))
block-given caller to from at b (e ∷ entries) (first, rest) low high = elim (cases_lt b (stripe_end to from)) [
  | inl before ↦ (0, e, refl, record { from = from; blocks = stripe_end to from - from; pairs = first.pairs; entry_is = first.entry_is; low = low; high = omega (arith, before, low) })
  | inr after ↦ let more = block-given caller to (stripe_end to from) at b entries rest after high in (suc more.0, more.1, more.2, more.3)
]

-- none of the entries lent blocks
parts-no-loans : (caller to from at : ℕ) (entries : List Entry) → GiveParts caller to from at entries → total lendings entries ≡ 0
parts-no-loans caller to from at [] is = refl
parts-no-loans caller to from at (e ∷ entries) (first, rest) =
    let one : lendings e ≡ 0 = ap (λ (x : Entry). lendings x) first.entry_is in
    let more = parts-no-loans caller to (stripe_end to from) at entries rest in
    omega (arith, one, more)

last-no-loans : (caller to at : ℕ) (came : Result ℕ Fault) (last : List Entry) → EndsParts caller to at came last → total lendings last ≡ 0
last-no-loans caller to at (Ok count) last ends = ap (total lendings) ends.0
last-no-loans caller to at (Err fault) last (e, is, refused) =
    let one : lendings e ≡ 0 = ap (λ (x : Entry). lendings x) refused.entry_is in
    ap (total lendings) is ∙ (let sum : total lendings (e ∷ []) ≡ 0 = omega (arith, one) in sum)

pub no-loans : (caller to from : ℕ) (came : Result ℕ Fault) (entries : List Entry) → ComesTo caller to from came entries → total lendings entries ≡ 0
no-loans caller to from came entries comes =
    let given = parts-no-loans caller to from comes.at comes.given comes.parts in
    let last = last-no-loans caller to comes.at came comes.last comes.ends in
    let sum = total-append lendings comes.given comes.last in
    ap (total lendings) comes.entries_are ∙ (let none : total lendings (comes.given ++ comes.last) ≡ 0 = omega (arith, given, last, sum) in none)

-- a run of blocks that is in one stripe is in the stripe of each of its blocks
run-stripe : (m : MountView) (file : FileId) (stripe from blocks b : ℕ) → stripe ≡ stripe_at m file from → from % 64 + blocks ≤ 64 → from ≤ b → b < from + blocks → stripe ≡ stripe_at m file b
run-stripe m file stripe from blocks b is fits low high = is ∙ (let same : from / 64 ≡ b / 64 = omega (arith, fits, low, high) in ap (λ k. (file_at m file).stripe + k) same)

module _ (m : MountView) (file : FileId) (caller b : ℕ) where
  -- an entry that gave space to a block stands at the stripe of the block
  here-given : (stripe : ℕ) (own : Entry) → IsInStripe m file stripe own.event → IsGivenBy caller b own → stripe ≡ stripe_at m file b
  here-given stripe own stays given =
      let at : IsInStripe m file stripe (Preallocate given.from given.blocks) = subst (IsInStripe m file stripe) (ap (λ (e : Entry). e.event) given.entry_is) stays in
      run-stripe m file stripe given.from given.blocks b at.0 at.1 given.low given.high

  there-given : (stripe : ℕ) (own : Entry) (more : List Entry) → stripe ≡ stripe_at m file b → IsGivenBy caller b own → HasOne (IsGivenBy caller b) ((if stripe == stripe_at m file b then own ∷ [] else []) ++ more)
  there-given stripe own more same given = subst (λ t. HasOne (IsGivenBy caller b) ((if t then own ∷ [] else []) ++ more)) (sym (eq-eqb stripe (stripe_at m file b) same)) (0, own, refl, given)

  pub given-where : (acts : List Act) → All (StaysInStripe m file) acts → HasOne (IsGivenBy caller b) (own_entries acts) → HasOne (IsGivenBy caller b) (made_in (stripe_at m file b) acts)
  given-where [] stays given = given
  given-where (Turn stripe others own ∷ acts) stays (zero, e, at, given) =
      let same : own ≡ e = cc in
      let mine = subst (IsGivenBy caller b) (sym same) given in
      there-given stripe own (made_in (stripe_at m file b) acts) (here-given stripe own (All-head (StaysInStripe m file) (Turn stripe others own) acts stays) mine) mine
  given-where (Turn stripe others own ∷ acts) stays (suc i, e, at, given) =
      one-right (IsGivenBy caller b) (if stripe == stripe_at m file b then own ∷ [] else []) (made_in (stripe_at m file b) acts) (given-where acts (All-tail (StaysInStripe m file) (Turn stripe others own) acts stays) (i, e, at, given))
  given-where (SizeTurn cell others own ∷ acts) stays given = given-where acts (All-tail (StaysInStripe m file) (SizeTurn cell others own) acts stays) given
  given-where (Busy stripe word ∷ acts) stays given = given-where acts (All-tail (StaysInStripe m file) (Busy stripe word) acts stays) given
  given-where (Open stripe ∷ acts) stays given = given-where acts (All-tail (StaysInStripe m file) (Open stripe) acts stays) given
  given-where (Close stripe ∷ acts) stays given = given-where acts (All-tail (StaysInStripe m file) (Close stripe) acts stays) given
  given-where (Take at c before after ∷ acts) stays given = given-where acts (All-tail (StaysInStripe m file) (Take at c before after) acts stays) given
  given-where (Denied at c before after ∷ acts) stays given = given-where acts (All-tail (StaysInStripe m file) (Denied at c before after) acts stays) given
  given-where (Leave at c before after ∷ acts) stays given = given-where acts (All-tail (StaysInStripe m file) (Leave at c before after) acts stays) given
  given-where (Run bios ∷ acts) stays given = given-where acts (All-tail (StaysInStripe m file) (Run bios) acts stays) given
  given-where (Note begun ∷ acts) stays given = given-where acts (All-tail (StaysInStripe m file) (Note begun) acts stays) given
  given-where (Number call ∷ acts) stays given = given-where acts (All-tail (StaysInStripe m file) (Number call) acts stays) given
