-- A call that gives space to a range: its class, its blocks, its reply, and how it leaves its pass.
use Rattle.std.proofs.Common.{◌≡◌, ℕ, ◌+◌, ◌-◌, ◌*◌, ◌<◌, ◌≤◌, ◌==◌, min, max, inl, inr, Bool, true, false, List, [], ◌∷◌, ◌++◌, Some, None, Ok, Err, if◌then◌else◌, refl, sym, ap, ◌∙◌, subst, arith, append-nil, div-lt_iff_lt-mul, le-div_iff_mul-le}
use Rattle.std.specs.Prelude.{◌/◌, ◌^◌, ◌&&◌, ◌||◌, nat_le, nat_lt, All, IfErr, IfOk, IsTrue, Result, slice_get}
use Rattle.std.proofs.lemmas.Bool.{eq-eqb, false≢true, le-leb, lt-ltb, ltb-true}
use Rattle.std.proofs.lemmas.Bool.Decides.{nat_tests}
use Rattle.std.proofs.lemmas.List.Elements.{All-append, All-cons, All-nil, All-weaker}
use Rattle.iob_base.specs.declared.answer.Answer.{Answer}
use Rattle.iob_base.specs.declared.answer.Fault.{Fault}
use Rattle.iob_base.specs.declared.answer.Fault.TheVariants.{TooFar}
use Rattle.iob_base.specs.declared.answer.Reply.TheVariants as replied
use Rattle.iob_base.specs.declared.answer.Stop.{Stop}
use Rattle.iob_base.specs.declared.answer.Stop.TheVariants.{Whole}
use Rattle.iob_base.specs.declared.stamp.FileId.{FileId}
use Rattle.io_model.specs.Lawful.{is_count_reply, is_lawful_reply, is_nothing_done, is_too_far_at, may_meet}
use Rattle.io_model.specs.Parts.{Span, blocks_met, meets, span}
use Rattle.io_model.specs.declared.script.Verb.TheVariants.{Alloc}
use Rattle.inode_lock.specs.Calls.{IsLeft, IsWon}
use Rattle.inode_lock.specs.declared.word.Class.TheVariants.{Exclusive}
use Rattle.turn_cell.specs.Stakes.{total}
use Rattle.range_core.specs.EntryCounts.{lendings}
use Rattle.range_core.specs.declared.entry.Entry.{Entry}
use Rattle.range_core.specs.declared.entry.Event.{Event}
use Rattle.range_core.specs.declared.entry.Event.TheVariants as event
use Rattle.range_core.specs.declared.fault.EventFault.{EventFault}
use Rattle.range_core.specs.declared.fault.EventFault.TheVariants as refusal
use Rattle.mount_parts.specs.MountView.{MountView, file_at}
use Rattle.mount_parts.proofs.Places.{set-same}
use Rattle.mini_fs.specs.Acts.{Act, HasLeft, bios_in, own_entries}
use Rattle.mini_fs.specs.Acts.Act.{Leave, Number, Take}
use Rattle.mini_fs.specs.CallActs.{CallActs, IsActAt, loans_in, lock_acts, with_call}
use Rattle.mini_fs.specs.Calls.{LeavesPass}
use Rattle.mini_fs.specs.Holds.{BringsBack, HoldsNone, HoldView, IsHoldOf, TakesOut}
use Rattle.mini_fs.specs.Mappings.{file_end}
use Rattle.mini_fs.specs.PassView.{IsPassOf, PassView}
use Rattle.mini_fs.specs.Tickets.{KeepsTickets}
use Rattle.mini_fs.proofs.ActLemmas.{left-act, taken-act}
use Rattle.mini_fs.proofs.CallEnds.{acted-caller, acted-locks, acted-shares, acted-spare}
use Rattle.mini_fs.proofs.CallLemmas.{call-then, lock_acts-append, own_entries-append, size_acts-append}
use Rattle.buffered_write.specs.Allocates.{Allocates, AllocatesLocked, AllocatesRun, ComesTo, IsGivenBy, StaysInStripe, all_taken, alloc_reply, allocates, asked_range, blocks_end, count_reply, first_block, space_fault}
use Rattle.call_parts.specs.Causes.{HasOne, IsCaused}
use Rattle.call_parts.specs.Steps.{IsPlaced, IsQuiet, is_quiet}
use Rattle.buffered_write.proofs.AllocLemmas.{block-given, given-where, no-loans, some_lane}
use Rattle.call_parts.proofs.NumberLemmas.{call-numbered, tickets-numbered}
use Rattle.call_parts.proofs.PartLemmas.{div-mono}
use Rattle.call_parts.proofs.StepLemmas.{bios-append, one-left, quiet-placed, quiet-stamps}

-- The class is still held where a run was allocated
module _ (m : MountView) (file : FileId) (from to : ℕ) (p r s q : PassView) (came : Result ℕ Fault) (h : HoldView) (run : AllocatesRun m file from to r s came) where
  pub hold-kept : IsHoldOf m r h → IsHoldOf m s h
  hold-kept is =
      let step = run.steps some_lane in
      record {
        caller = is.caller ∙ sym (acted-caller run.acts r s step.did.acted);
        lock = is.lock;
        out = ap (λ l. slice_get l h.file.0) (acted-locks run.acts r s step.did.acted step.locks) ∙ is.out;
      }

  pub locked-allocated : IsHoldOf m r h → (t : TakesOut (IsWon Exclusive) p file r h) → BringsBack (IsLeft Exclusive) s h q → AllocatesLocked m file from to p q came
  locked-allocated is t b = record {
    locked = r;
    done = s;
    home = t.seat;
    held = h.seat;
    next = b.next;
    taken = taken-act t;
    run = run;
    left = subst (λ f. HasLeft f Exclusive h.seat b.next s q) t.file_is (left-act (hold-kept is) b);
  }

  pub locked-tickets : KeepsTickets p r → KeepsTickets s q → KeepsTickets p q
  locked-tickets before after = λ t is. after t ((run.steps some_lane).tickets t (before t is))

-- the same over other names of its ends
pub locked-over : (m : MountView) (file : FileId) (a b from to : ℕ) (p q : PassView) (came : Result ℕ Fault) → a ≡ from → b ≡ to → AllocatesLocked m file a b p q came → AllocatesLocked m file from to p q came
locked-over m file a b from to p q came low high locked = subst (λ k. AllocatesLocked m file from k p q came) high (subst (λ k. AllocatesLocked m file k b p q came) low locked)

-- how many blocks have bytes of a range
met-some : (size from to : ℕ) → 0 < size → from < to → from / size + blocks_met size (span from to) ≡ (to - 1) / size + 1
met-some size from to some less =
    let low : from / size ≤ (to - 1) / size = div-mono from (to - 1) size some (omega (arith, less)) in
    let sum : from / size + ((to - 1) / size + 1 - from / size) ≡ (to - 1) / size + 1 = omega (arith, low) in
    ap (λ b. from / size + (if b then (to - 1) / size + 1 - from / size else 0)) (lt-ltb from to less) ∙ sum

-- a block with bytes of a range is one of those
pub met-block : (size from to b : ℕ) → 0 < size → IsTrue (meets size (span from to) b) → (from / size ≤ b) × (b < from / size + blocks_met size (span from to))
met-block size from to b some met =
    let inside : max from (b * size) < min to ((b + 1) * size) = ltb-true _ _ met in
    let less : from < to = omega (arith, inside) in
    let before : from < (b + 1) * size = omega (arith, inside) in
    let after : b * size ≤ to - 1 = omega (arith, inside) in
    let low : from / size < b + 1 = grind (arith, div-lt_iff_lt-mul) in
    let high : b ≤ (to - 1) / size = grind (arith, le-div_iff_mul-le) in
    let all = met-some size from to some less in
    (omega (arith, low), omega (arith, high, all))

-- what an allocation replies that asks for no bytes, or too far, or for some before the end
module _ (end off asked : ℕ) (came : Result ℕ Fault) where
  pub reply-none : asked ≡ 0 → alloc_reply end off asked came ≡ replied.Ok 0 Whole
  reply-none none = ap (λ b. if b then replied.Ok 0 Whole else (if nat_le end off then replied.Err (TooFar off end) 0 else count_reply came)) (eq-eqb asked 0 none)

  asked-some : (asked ≡ 0 → ⊥) → alloc_reply end off asked came ≡ (if nat_le end off then replied.Err (TooFar off end) 0 else count_reply came)
  asked-some some = (let no : (asked == 0) ≡ false = grind (arith, nat_tests) in ap (λ b. if b then replied.Ok 0 Whole else (if nat_le end off then replied.Err (TooFar off end) 0 else count_reply came)) no)

  pub reply-far : (asked ≡ 0 → ⊥) → end ≤ off → alloc_reply end off asked came ≡ replied.Err (TooFar off end) 0
  reply-far some far = asked-some some ∙ ap (λ b. if b then replied.Err (TooFar off end) 0 else count_reply came) (le-leb end off far)

  pub reply-counted : (asked ≡ 0 → ⊥) → off < end → alloc_reply end off asked came ≡ count_reply came
  reply-counted some near = asked-some some ∙ (let no : nat_le end off ≡ false = grind (arith, nat_tests) in ap (λ b. if b then replied.Err (TooFar off end) 0 else count_reply came) no)

both-true : (a b c : Bool) → a ≡ true → b ≡ true → c ≡ true → (a && b) && c ≡ true
both-true a b c one two three = ap (λ x. (x && b) && c) one ∙ ap (λ x. x && c) two ∙ three

-- each fault that an allocation tells of a refusal is one that it may meet
space-lawful : (off asked : ℕ) (refused : EventFault) → may_meet true (Alloc off asked) (space_fault refused) ≡ true
space-lawful off asked (refusal.Worn cookie) = refl
space-lawful off asked (refusal.NoSpace wanted found) = refl
space-lawful off asked refusal.NoMemory = refl
space-lawful off asked (refusal.Stale sample now) = refl
space-lawful off asked (refusal.Away block ticket) = refl
space-lawful off asked (refusal.Cold block) = refl
space-lawful off asked (refusal.Settled block) = refl
space-lawful off asked (refusal.Unattached block) = refl
space-lawful off asked (refusal.Dirty block) = refl
space-lawful off asked (refusal.Poison done) = refl

module _ (grain size blocks off asked : ℕ) (range : Span) (came : Result ℕ Fault) (few : IfOk came (λ n. n ≤ blocks_met size range)) (may : IfErr came (λ f. may_meet true (Alloc off asked) f ≡ true)) where
  counted-so : (came : Result ℕ Fault) → IfOk came (λ n. n ≤ blocks_met size range) → IfErr came (λ f. may_meet true (Alloc off asked) f ≡ true) → is_count_reply (blocks_met size range) true (Alloc off asked) (count_reply came) ≡ true
  counted-so (Ok n) few may = ap (λ b. b && true) (le-leb n (blocks_met size range) few)
  counted-so (Err f) few may = ap (λ b. b && true) may

  -- the reply of an allocation is lawful
  pub lawful-alloc : IsTrue (is_lawful_reply grain size blocks range true (Alloc off asked) (alloc_reply (blocks * size) off asked came))
  lawful-alloc = at (asked == 0) (nat_le (blocks * size) off)
    where
      at : (none far : Bool) → (if none then is_nothing_done (if none then replied.Ok 0 Whole else (if far then replied.Err (TooFar off (blocks * size)) 0 else count_reply came))
          else (if far || false then is_too_far_at off (blocks * size) (if none then replied.Ok 0 Whole else (if far then replied.Err (TooFar off (blocks * size)) 0 else count_reply came))
          else is_count_reply (blocks_met size range) true (Alloc off asked) (if none then replied.Ok 0 Whole else (if far then replied.Err (TooFar off (blocks * size)) 0 else count_reply came)))) ≡ true
      at true far = refl
      at false true = both-true (off == off) ((blocks * size) == (blocks * size)) true (eq-eqb off off refl) (eq-eqb (blocks * size) (blocks * size) refl) refl
      at false false = counted-so came few may

-- what the entries of a run of blocks came to
module _ (caller to from : ℕ) where
  pub come-lawful : (off asked : ℕ) (came : Result ℕ Fault) (entries : List Entry) → ComesTo caller to from came entries → IfErr came (λ f. may_meet true (Alloc off asked) f ≡ true)
  come-lawful off asked (Ok count) entries comes = tt
  come-lawful off asked (Err fault) entries comes = (let refused = comes.ends.2 in subst (λ f. may_meet true (Alloc off asked) f ≡ true) (sym refused.fault_is) (space-lawful off asked refused.refused))

  pub come-given : (came : Result ℕ Fault) (entries : List Entry) (n b : ℕ) (stop : Stop) → ComesTo caller to from came entries → count_reply came ≡ replied.Ok n stop → from ≤ b → b < to → HasOne (IsGivenBy caller b) entries
  come-given (Ok count) entries n b stop comes is low high =
      let ends = comes.ends.1 in
      subst (HasOne (IsGivenBy caller b)) (sym comes.entries_are) (one-left (IsGivenBy caller b) comes.given comes.last (block-given caller to from comes.at b comes.given comes.parts low (omega (arith, ends, high))))
  come-given (Err fault) entries n b stop comes is low high = absurd (cc)

count-in : (came : Result ℕ Fault) (entries more : List Entry) (most : ℕ) → more ≡ entries → IfOk came (λ n. (n ≡ all_taken entries) × (n ≤ most)) → IfOk came (λ n. n ≡ all_taken more)
count-in (Ok count) entries more most same is = is.0 ∙ ap all_taken (sym same)
count-in (Err fault) entries more most same is = tt

few-in : (came : Result ℕ Fault) (entries : List Entry) (most met : ℕ) → most ≡ met → IfOk came (λ n. (n ≡ all_taken entries) × (n ≤ most)) → IfOk came (λ n. n ≤ met)
few-in (Ok count) entries most met same is = subst (λ k. count ≤ k) same is.1
few-in (Err fault) entries most met same is = tt

allocates-quiet : (e : Event) → IsTrue (allocates e) → IsTrue (is_quiet e)
allocates-quiet (event.Preallocate b n) is = refl
allocates-quiet e is = absurd (false≢true is)

-- The call begins with its number
module _ (m : MountView) (file : FileId) (call off asked : ℕ) (p start : PassView) (first : start ≡ with_call p call) where
  number-did : CallActs m file allocates p start (Number call ∷ [])
  number-did = subst (λ v. CallActs m file allocates p v (Number call ∷ [])) (sym first) (call-numbered m file allocates p call)

  leaves : (q : PassView) (acts : List Act) → CallActs m file allocates p q acts → IsPassOf m q → q.last ≡ call → HoldsNone q file → KeepsTickets start q → LeavesPass m file call p q
  leaves q acts did of last free tickets = record {
    of = of;
    last = last;
    caller = acted-caller acts p q did.acted;
    spare = acted-spare acts p q did.acted;
    shares = acted-shares acts p q did.acted did.closed;
    free = free;
    tickets = λ t is. tickets t (tickets-numbered p start call t first is);
  }

  -- where the range has no bytes nothing is done
  no-range : (answer : Answer) → answer.bios ≡ 0 → (asked_range m file off asked).to ≤ off → answer.reply ≡ alloc_reply (file_end m file) off asked (Ok 0) → Allocates m file call off asked p start answer
  no-range answer none empty is =
      let size = m.geometry.block_size in
      let top = (asked_range m file off asked).to in
      let no : nat_lt off top ≡ false = grind (arith, nat_tests) in
      let ends : blocks_end m file off asked ≡ first_block m off + 0 = ap (λ b. off / size + (if b then (top - 1) / size + 1 - off / size else 0)) no in
      record {
        acts = Number call ∷ [];
        came = Ok 0;
        did = number-did;
        callers = All-nil (λ (e : Entry). e.caller ≡ p.caller);
        placed = All-cons (IsPlaced m file) (Number call) [] tt (All-nil (IsPlaced m file));
        class = inl (refl, refl);
        sizes = refl;
        stamps = refl;
        bios = none;
        none = none;
        ran = refl;
        comes = record { given = []; last = []; at = first_block m off; entries_are = refl; parts = refl; ends = (refl, omega (arith, ends)) };
        count = refl;
        reply = is;
        all = λ n stop ok b met. let inside = ltb-true (max off (b * size)) (min top ((b + 1) * size)) met in absurd (omega (arith, inside, empty));
        lawful = subst (λ r. IsTrue (is_lawful_reply m.geometry.grain size (file_at m file).blocks (asked_range m file off asked) true (Alloc off asked) r)) (sym is) (lawful-alloc m.geometry.grain size (file_at m file).blocks off asked (asked_range m file off asked) (Ok 0) (omega arith) tt);
        cause = tt;
      }

  pub far-allocated : (answer : Answer) → answer.bios ≡ 0 → (asked ≡ 0 → ⊥) → file_end m file ≤ off → answer.reply ≡ replied.Err (TooFar off (file_end m file)) 0 → Allocates m file call off asked p start answer
  far-allocated answer none some far is = no-range answer none (omega (arith, far)) (is ∙ sym (reply-far (file_end m file) off asked (Ok 0) some far))

  pub none-asked : (answer : Answer) → answer.bios ≡ 0 → asked ≡ 0 → answer.reply ≡ replied.Ok 0 Whole → Allocates m file call off asked p start answer
  none-asked answer none nil is = no-range answer none (omega (arith, nil)) (is ∙ sym (reply-none (file_end m file) off asked (Ok 0) nil))

-- The call gave space to a run of blocks under its class
module _ (m : MountView) (file : FileId) (call off asked : ℕ) (p start q : PassView) (first : start ≡ with_call p call) (came : Result ℕ Fault) (locked : AllocatesLocked m file (first_block m off) (blocks_end m file off asked) start q came) where
  abbrev all_acts : List Act
  all_acts = Number call ∷ Take file Exclusive locked.home locked.held ∷ (locked.run.acts ++ Leave file Exclusive locked.held locked.next ∷ [])

  take-did : CallActs m file allocates start locked.locked (Take file Exclusive locked.home locked.held ∷ [])
  take-did = record { acted = (locked.locked, locked.taken, refl); at_file = All-cons (IsActAt m file) (Take file Exclusive locked.home locked.held) [] refl (All-nil (IsActAt m file)); made = All-nil (λ (e : Entry). IsTrue (allocates e.event)); closed = λ k. refl }

  leave-did : CallActs m file allocates locked.done q (Leave file Exclusive locked.held locked.next ∷ [])
  leave-did = record { acted = (q, locked.left, refl); at_file = All-cons (IsActAt m file) (Leave file Exclusive locked.held locked.next) [] refl (All-nil (IsActAt m file)); made = All-nil (λ (e : Entry). IsTrue (allocates e.event)); closed = λ k. refl }

  all-did : CallActs m file allocates p q all_acts
  all-did =
      let work = locked.run.acts in
      let leave = Leave file Exclusive locked.held locked.next ∷ [] in
      let take = Take file Exclusive locked.home locked.held ∷ [] in
      call-then m file allocates p start q (Number call ∷ []) (Take file Exclusive locked.home locked.held ∷ (work ++ leave)) (number-did m file call off asked p start first)
      (call-then m file allocates start locked.locked q take (work ++ leave) take-did (call-then m file allocates locked.locked locked.done q work leave (locked.run.steps some_lane).did leave-did))

  all-stay : All (StaysInStripe m file) all_acts
  all-stay =
      let work = locked.run.acts in
      let leave = Leave file Exclusive locked.held locked.next in
      let take = Take file Exclusive locked.home locked.held in
      let stays : Act → Type 0 = StaysInStripe m file in
      All-cons stays (Number call) (take ∷ (work ++ leave ∷ [])) tt (All-cons stays take (work ++ leave ∷ []) tt (All-append stays work (leave ∷ []) locked.run.stays (All-cons stays leave [] tt (All-nil stays))))

  pub range-allocated : (answer : Answer) → 0 < m.geometry.block_size → (asked ≡ 0 → ⊥) → off < file_end m file → answer.bios ≡ 0 → answer.reply ≡ count_reply came → Allocates m file call off asked p q answer
  range-allocated answer sized some near unsent is =
      let size = m.geometry.block_size in
      let range = asked_range m file off asked in
      let run = locked.run in
      let step = run.steps some_lane in
      let leave = Leave file Exclusive locked.held locked.next ∷ [] in
      let entries : own_entries all_acts ≡ own_entries run.acts = own_entries-append run.acts leave ∙ append-nil (own_entries run.acts) in
      let same : locked.locked.caller ≡ p.caller = ap (λ (v : PassView). v.caller) locked.taken.pass_is ∙ ap (λ (v : PassView). v.caller) first in
      let comes = subst (λ l. ComesTo p.caller (blocks_end m file off asked) (first_block m off) came l) (sym entries) (subst (λ c. ComesTo c (blocks_end m file off asked) (first_block m off) came (own_entries run.acts)) same run.comes) in
      let none : loans_in all_acts ≡ 0 = no-loans p.caller (blocks_end m file off asked) (first_block m off) came (own_entries all_acts) comes in
      let locks : lock_acts all_acts ≡ Take file Exclusive locked.home locked.held ∷ leave = ap (λ l. Take file Exclusive locked.home locked.held ∷ l) (lock_acts-append run.acts leave ∙ ap (λ l. l ++ leave) step.locks) in
      let ours : Entry → Type 0 = λ e. e.caller ≡ p.caller in
      let ran : bios_in all_acts ≡ loans_in all_acts = bios-append run.acts leave ∙ (let z : bios_in run.acts + 0 ≡ bios_in run.acts = omega arith in z) ∙ step.run ∙ ap (total lendings) (sym entries) in
      let most : blocks_end m file off asked - first_block m off ≡ blocks_met size range = omega arith in
      let quiet : All IsQuiet (own_entries all_acts) = All-weaker (λ (e : Entry). IsTrue (allocates e.event)) IsQuiet (λ e mine. allocates-quiet e.event mine) (own_entries all_acts) all-did.made in
      let told : answer.reply ≡ alloc_reply (file_end m file) off asked came = is ∙ sym (reply-counted (file_end m file) off asked came some near) in
      record {
        acts = all_acts;
        came = came;
        did = all-did;
        callers = subst (All ours) (sym entries) (subst (λ c. All (λ (e : Entry). e.caller ≡ c) (own_entries run.acts)) same step.callers);
        placed = quiet-placed m file all_acts quiet;
        class = inr (record { home = locked.home; held = locked.held; next = locked.next; work = run.acts; acts_are = refl; locks = locks });
        sizes = size_acts-append run.acts leave ∙ ap (λ l. l ++ []) step.sizes;
        stamps = quiet-stamps size (own_entries all_acts) quiet;
        bios = unsent ∙ ap (λ k. min k (2 ^ 64 - 1)) (sym none);
        none = unsent;
        ran = ran;
        comes = comes;
        count = count-in came (own_entries run.acts) (own_entries all_acts) (blocks_end m file off asked - first_block m off) entries run.count;
        reply = told;
        all = λ n stop ok b met.
            let at = met-block size off range.to b sized met in
            given-where m file p.caller b all_acts all-stay (come-given p.caller (blocks_end m file off asked) (first_block m off) came (own_entries all_acts) n b stop comes (sym is ∙ ok) at.0 at.1);
        lawful = subst (λ r. IsTrue (is_lawful_reply m.geometry.grain size (file_at m file).blocks range true (Alloc off asked) r)) (sym told)
            (lawful-alloc m.geometry.grain size (file_at m file).blocks off asked range came (few-in came (own_entries run.acts) _ _ most run.count) (come-lawful p.caller (blocks_end m file off asked) (first_block m off) off asked came (own_entries all_acts) comes));
        cause = subst (λ l. IfErr came (IsCaused m l)) (sym entries) run.cause;
      }

  pub range-leaves : IsPassOf m q → KeepsTickets start q → LeavesPass m file call p q
  range-leaves of tickets =
      let step = locked.run.steps some_lane in
      leaves m file call off asked p start first q all_acts all-did of
      (ap (λ (v : PassView). v.last) locked.left.pass_is ∙ step.last ∙ ap (λ (v : PassView). v.last) locked.taken.pass_is ∙ ap (λ (v : PassView). v.last) first)
      (locked.next, ap (λ (v : PassView). slice_get v.locks file.0) locked.left.pass_is ∙ set-same locked.done.locks file.0 None (Some locked.next) locked.left.out)
      tickets
