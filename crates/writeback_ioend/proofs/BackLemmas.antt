-- What went with bios comes back, and their tickets are closed.
use Rattle.std.proofs.Common.{◌≡◌, ℕ, zero, suc, ◌+◌, ◌/◌, ◌≤◌, inl, inr, Bool, true, false, List, [], ◌∷◌, ◌++◌, Some, None, Option, length, if◌then◌else◌, refl, sym, ap, ◌∙◌, subst, arith, append_assoc, append-nil, length-append}
use Rattle.std.specs.Prelude.{◌⊎◌, ◌==◌, All}
use Rattle.std.proofs.lemmas.Bool.{eq-eqb}
use Rattle.std.proofs.lemmas.List.Elements.{All-cons, All-nil}
use mathlib.Core.Option.{some, some-injective, some-ne-none}
use lib.ListN.{get_elem?}
use Rattle.iob_base.specs.declared.stamp.FileId.{FileId}
use Rattle.fault_device.specs.Transfer.{CanTransfer}
use Rattle.fault_device.specs.declared.lane.Done.{Done}
use Rattle.bio_pages.specs.Lists.{AreRun}
use Rattle.bio_pages.specs.Running.{IsRun}
use Rattle.bio_pages.specs.declared.bio.Bio.{Bio}
use Rattle.turn_cell.proofs.Sums.{total-append}
use Rattle.range_core.specs.ClaimsView.{ClaimsView}
use Rattle.range_core.specs.EntryCounts.{one_where}
use Rattle.range_core.specs.LendWritebacks.{written_count, written_entry}
use Rattle.range_core.specs.Lends.{lent_of}
use Rattle.range_core.specs.Lookups.{first_kind}
use Rattle.range_core.specs.RangeView.{cells_from}
use Rattle.range_core.specs.declared.entry.Entry.{Entry}
use Rattle.range_core.specs.declared.entry.Event.TheVariants.{WrittenBack}
use Rattle.range_core.specs.declared.entry.Outcome.TheVariants.{Counted}
use Rattle.range_core.specs.declared.lending.Held.{Held}
use Rattle.range_core.specs.declared.lending.Lent.{Lent}
use Rattle.range_core.specs.declared.loan_answer.Written.{Written}
use Rattle.range_core.proofs.TransferLemmas.{length-after}
use Rattle.io_model.specs.declared.file.Kind.{Kind}
use Rattle.mount_parts.specs.MountView.{MountView, file_at, stripe_at}
use Rattle.mini_fs.specs.Acts.{Acts, made_in, own_entries}
use Rattle.mini_fs.specs.Acts.Act.{Turn, Close}
use Rattle.mini_fs.specs.CallActs.{IsStripeOf}
use Rattle.mini_fs.specs.Loans.{EndsWriteback}
use Rattle.mini_fs.specs.PageTurns.{entry_by}
use Rattle.mini_fs.specs.PassView.{PassView}
use Rattle.mini_fs.specs.TicketView.{TicketView}
use Rattle.mini_fs.specs.Tickets.{ClosedTicket, IsTicketOf, lent_claims}
use Rattle.mini_fs.specs.Turns.{TurnsAt}
use Rattle.mini_fs.proofs.ActLemmas.{closed-act, turned-act}
use Rattle.mini_fs.proofs.CallLemmas.{closed-append, loans-append, opened-append, own_entries-append}
use Rattle.mini_fs.proofs.Loaned.{run-ticket}
use Rattle.call_parts.specs.Causes.{HasOne}
use Rattle.call_parts.specs.Steps.{CameOfRise, dones_in}
use Rattle.call_parts.proofs.StepLemmas.{bios-append, dones-append, one-left, one-right}
use Rattle.writeback_ioend.specs.Folios.{AreLent, CameBack, Carries, HaveComeBack, HaveTickets, IsLent, Returns, carried_by, failed_now, tickets_at}
use Rattle.writeback_ioend.specs.Walks.{asks_end}
use Rattle.writeback_ioend.specs.Writebacks.{AsksAscend, TookBack, all_written, first_failed, or_else}
use Rattle.writeback_ioend.proofs.AskLemmas.{asks-append}
use Rattle.writeback_ioend.proofs.Moves.{moves-close, moves-none, moves-then, moves-turn}
use Rattle.writeback_ioend.proofs.SeenLemmas.{made_in-append}
use Rattle.writeback_ioend.proofs.WalkLemmas.{ascending-append, ends-append, first-append, turns-append, written-append}

or-none : (o : Option Done) → or_else o None ≡ o
or-none None = refl
or-none (Some done) = refl

-- one of two lists put one after another is one of the first or of the second
one-of-two : {A : Type 0} (P : A → Type 0) (xs ys : List A) → HasOne P (xs ++ ys) → HasOne P xs ⊎ HasOne P ys
one-of-two P [] ys one = inr one
one-of-two P (x ∷ xs) ys (zero, y, at, is) = inl (zero, y, at, is)
one-of-two P (x ∷ xs) ys (suc i, y, at, is) = next (one-of-two P xs ys (i, y, at, is))
  where
    next : HasOne P xs ⊎ HasOne P ys → HasOne P (x ∷ xs) ⊎ HasOne P ys
    next (inl one) = inl (suc one.0, one.1, one.2, one.3)
    next (inr one) = inr one

only-one : {A : Type 0} (P : A → Type 0) (x : A) → HasOne P (x ∷ []) → P x
only-one P x (zero, y, at, is) = let e : y ≡ x = cc in subst P e is
only-one P x (suc i, y, at, is) = absurd (cc)

-- what is written is at most what comes back
few-written : (back : Lent) (done : Done) → written_count back done ≤ length back.parts
few-written back done = at done.failed
  where
    at : (t : Bool) → (if t then 0 else length back.parts) ≤ length back.parts
    at true = omega arith
    at false = omega arith

-- a bio that was run has its ticket, its block and as many parts
run-long : (b r : Bio TicketView) (d : Done) → IsRun b r d → length r.parts ≡ length b.parts
run-long b r d run = ap length run.parts ∙ length-after b.op d.landed b.parts

module _ (m : MountView) (file : FileId) where
  -- nothing is taken back, and more behind others
  pub returns-none : (p : PassView) → Returns m file p p [] [] 0 None
  returns-none p = record {
    acts = [];
    moves = moves-none m file p;
    none_opened = λ k. refl;
    closed = λ k. refl;
    none_run = refl;
    none_lent = refl;
    turns = refl;
    none_sought = λ start before. tt;
    dones_are = refl;
    ascending = λ waits at. tt;
    ends = λ waits at. refl;
    written = refl;
    few = omega arith;
    failed_is = refl;
    back = λ b one. absurd (none-one (Carries b) one);
  }
    where
      none-one : {A : Type 0} (P : A → Type 0) → HasOne P [] → ⊥
      none-one P (i, x, at, is) = cc

  pub returns-then : (p q r : PassView) (bios later : List (Bio TicketView)) (dones more : List Done) (n k : ℕ) (failed fails : Option Done) → Returns m file p q bios dones n failed → Returns m file q r later more k fails
      → Returns m file p r (bios ++ later) (dones ++ more) (n + k) (or_else failed fails)
  returns-then p q r bios later dones more n k failed fails one two =
      let entries : own_entries (one.acts ++ two.acts) ≡ own_entries one.acts ++ own_entries two.acts = own_entries-append one.acts two.acts in
      let few = one.few in
      let few' = two.few in
      let parts = total-append (λ (b : Bio TicketView). length b.parts) bios later in
      record {
        acts = one.acts ++ two.acts;
        moves = moves-then m file p q r one.acts two.acts one.moves two.moves;
        none_opened = λ s. (let a = opened-append s one.acts two.acts in let b = one.none_opened s in let c = two.none_opened s in omega (arith, a, b, c));
        closed = λ s.
            let a = closed-append s one.acts two.acts in
            let b = one.closed s in
            let c = two.closed s in
            let d = total-append (λ (x : Bio TicketView). one_where (x.ticket.stripe == s)) bios later in
            omega (arith, a, b, c, d);
        none_run = (let a = bios-append one.acts two.acts in let b = one.none_run in let c = two.none_run in omega (arith, a, b, c));
        none_lent = (let a = loans-append one.acts two.acts in let b = one.none_lent in let c = two.none_lent in omega (arith, a, b, c));
        turns = (let a = turns-append one.acts two.acts in let b = one.turns in let c = two.turns in let d = length-append bios later in omega (arith, a, b, c, d));
        none_sought = λ start before. asks-append m file start before one.acts two.acts (one.none_sought start before) (two.none_sought start (before ++ one.acts));
        dones_are = ap dones_in entries ∙ dones-append (own_entries one.acts) (own_entries two.acts) ∙ ap (λ l. l ++ dones_in (own_entries two.acts)) one.dones_are ∙ ap (λ l. dones ++ l) two.dones_are;
        ascending = λ waits at. subst (AsksAscend waits at) (sym entries) (ascending-append waits at at (own_entries one.acts) (own_entries two.acts) (one.ascending waits at) (let e = one.ends waits at in omega (arith, e)) (two.ascending waits at));
        ends = λ waits at. ap (asks_end waits at) entries ∙ ends-append waits at (own_entries one.acts) (own_entries two.acts) ∙ ap (λ s. asks_end waits s (own_entries two.acts)) (one.ends waits at) ∙ two.ends waits at;
        written = ap (λ x. x + k) one.written ∙ ap (λ x. all_written (own_entries one.acts) + x) two.written ∙ sym (ap all_written entries ∙ written-append (own_entries one.acts) (own_entries two.acts));
        few = omega (arith, few, few', parts);
        failed_is = ap (λ o. or_else o fails) one.failed_is ∙ ap (or_else (first_failed (own_entries one.acts))) two.failed_is ∙ sym (ap first_failed entries ∙ first-append (own_entries one.acts) (own_entries two.acts));
        back = λ b has. subst (HasOne (TookBack b)) (sym (made_in-append (stripe_at m file b) one.acts two.acts)) (both b (one-of-two (Carries b) bios later has));
      }
    where
      both : (b : ℕ) → HasOne (Carries b) bios ⊎ HasOne (Carries b) later → HasOne (TookBack b) (made_in (stripe_at m file b) one.acts ++ made_in (stripe_at m file b) two.acts)
      both b (inl has) = one-left (TookBack b) (made_in (stripe_at m file b) one.acts) (made_in (stripe_at m file b) two.acts) (one.back b has)
      both b (inr has) = one-right (TookBack b) (made_in (stripe_at m file b) one.acts) (made_in (stripe_at m file b) two.acts) (two.back b has)

  -- the blocks that a loan goes with are of its ticket's stripe
  lent-here : (number x : ℕ) (b : Bio TicketView) → IsLent m file number b → Carries x b → b.ticket.stripe ≡ stripe_at m file x
  lent-here number x b lent mine =
      let folds = lent.folds in
      let low = mine.0 in
      let high = mine.1 in
      let same : b.block / 64 ≡ x / 64 = omega (arith, folds, low, high) in
      lent.loan.loan.at ∙ ap (λ k. (file_at m file).stripe + k) same

  came-here : (number x : ℕ) (r : Bio TicketView) (done : Done) → CameBack m file number r done → Carries x r → r.ticket.stripe ≡ stripe_at m file x
  came-here number x r done came mine =
      let block : r.block ≡ came.sent.block = ap (λ (v : Bio TicketView). v.block) came.run.bio in
      let long = run-long came.sent r done came.run in
      let low = mine.0 in
      let high = mine.1 in
      ap (λ (t : TicketView). t.stripe) (run-ticket m file number came.sent r done came.run) ∙ lent-here number x came.sent came.lent (omega (arith, low, block), omega (arith, high, block, long))

  -- one entry is one of the acts at its stripe
  one-made : (stripe x : ℕ) (others : List Entry) (own : Entry) → stripe ≡ stripe_at m file x → TookBack x own → HasOne (TookBack x) (made_in (stripe_at m file x) (Turn stripe others own ∷ Close stripe ∷ []))
  one-made stripe x others own same back = subst (λ t. HasOne (TookBack x) ((if t then own ∷ [] else []) ++ [])) (sym (eq-eqb stripe (stripe_at m file x) same)) (0, own, refl, back)

  -- what went with one bio was taken back, and its ticket was closed
  returned-so : (p p1 q : PassView) (others : List Entry) (number : ℕ) (kind : Kind) (b : Bio TicketView) (done : Done) (n : ℕ) → IsStripeOf m file b.ticket.stripe → ((x : ℕ) → Carries x b → b.ticket.stripe ≡ stripe_at m file x)
      → Acts (Turn b.ticket.stripe others (entry_by p.caller (WrittenBack number b.block kind (length b.parts) done) (Counted n))) p p1 → Acts (Close b.ticket.stripe) p1 q → n ≤ length b.parts
      → Returns m file p q (b ∷ []) (done ∷ []) n (failed_now done)
  returned-so p p1 q others number kind b done n here home did shut few =
      let s = b.ticket.stripe in
      let own = entry_by p.caller (WrittenBack number b.block kind (length b.parts) done) (Counted n) in
      record {
        acts = Turn s others own ∷ Close s ∷ [];
        moves = moves-then m file p p1 q (Turn s others own ∷ []) (Close s ∷ []) (moves-turn m file s others own p p1 here did refl refl) (moves-close m file s p1 q here shut);
        none_opened = λ k. refl;
        closed = λ k. refl;
        none_run = refl;
        none_lent = refl;
        turns = refl;
        none_sought = λ start before. ((λ block most e. absurd (cc e)), (tt, tt));
        dones_are = refl;
        ascending = λ waits at. (omega arith, tt);
        ends = λ waits at. refl;
        written = omega arith;
        few = omega (arith, few);
        failed_is = sym (or-none (failed_now done));
        back = λ x one. (let mine : Carries x b = only-one (Carries x) b one in one-made s x others own (home x mine) mine);
      }

  pub returned : (number : ℕ) (r : Bio TicketView) (done : Done) (t : TicketView) (answer : Written) (p p1 q : PassView) (held kept : Option Held) (c d : ClaimsView) → CameBack m file number r done
      → TurnsAt (λ opening history value next entry. EndsWriteback (lent_of number r.block r.parts) done answer value (lent_claims p held) next (lent_claims p kept) entry) m r.ticket.stripe c d p p1
      → t.stripe ≡ r.ticket.stripe → IsTicketOf p1 t → ClosedTicket p1 t q → Returns m file p q (r ∷ []) (done ∷ []) answer.blocks (failed_now done)
  returned number r done t answer p p1 q held kept c d came turn same is closed =
      let did = turn.turned.done in
      let value = turn.turned.value in
      let given : Some (lent_of number r.block r.parts) ≡ Some did.back = did.given in
      let back : did.back ≡ lent_of number r.block r.parts = cc in
      let kind = first_kind (cells_from value r.block) in
      let own : turn.turned.entry ≡ entry_by p.caller (WrittenBack number r.block kind (length r.parts) done) (Counted answer.blocks) =
      did.entry_is ∙ ap (λ (l : Lent). written_entry (lent_claims p held) l (first_kind (cells_from value l.block)) done answer.blocks) back in
      let few = few-written (lent_of number r.block r.parts) done in
      let count : answer.blocks ≡ written_count (lent_of number r.block r.parts) done = did.count ∙ ap (λ l. written_count l done) back in
      let here : IsStripeOf m file r.ticket.stripe = subst (λ (x : TicketView). IsStripeOf m file x.stripe) (sym (run-ticket m file number came.sent r done came.run)) came.lent.here in
      returned-so p p1 q turn.turned.others number kind r done answer.blocks here (λ x mine. came-here number x r done came mine)
      (subst (λ e. Acts (Turn r.ticket.stripe turn.turned.others e) p p1) own (turned-act turn))
      (subst (λ k. Acts (Close k) p1 q) same (closed-act is closed)) (omega (arith, count, few))

  -- bios that were run came back, with their tickets
  pub come-back : (slot : ℕ) (numbers : List ℕ) (bios back : List (Bio TicketView)) (dones : List Done) → AreLent m file slot numbers bios → AreRun bios back dones → HaveComeBack m file numbers back dones
  come-back slot [] [] [] [] lent run = tt
  come-back slot [] [] [] (d ∷ dones) lent run = absurd run
  come-back slot [] [] (r ∷ back) dones lent run = absurd run
  come-back slot [] (b ∷ bios) back dones lent run = absurd lent
  come-back slot (n ∷ numbers) [] back dones lent run = absurd lent
  come-back slot (n ∷ numbers) (b ∷ bios) [] dones lent run = absurd run
  come-back slot (n ∷ numbers) (b ∷ bios) (r ∷ back) [] lent run = absurd run
  come-back slot (n ∷ numbers) (b ∷ bios) (r ∷ back) (d ∷ dones) lent run = (record { sent = b; lent = lent.0; run = run.0 }, come-back (suc slot) numbers bios back dones lent.2 run.1)

  -- bios with loans can be sent
  pub can-send : (slot : ℕ) (numbers : List ℕ) (bios : List (Bio TicketView)) → AreLent m file slot numbers bios → (place : ℕ) (b : Bio TicketView) → get_elem? bios place ≡ some b → (b.slot ≡ slot + place) × CanTransfer b.parts
  can-send slot [] [] lent place b at = absurd (some-ne-none b (sym at))
  can-send slot [] (x ∷ bios) lent place b at = absurd lent
  can-send slot (n ∷ numbers) [] lent place b at = absurd lent
  can-send slot (n ∷ numbers) (x ∷ bios) lent zero b at =
      let e : x ≡ b = some-injective x b at in
      subst (λ (y : Bio TicketView). (y.slot ≡ slot + 0) × CanTransfer y.parts) e (let s = lent.1 in omega (arith, s), lent.0.loan.loan.ready)
  can-send slot (n ∷ numbers) (x ∷ bios) lent (suc i) b at = let h = can-send (suc slot) numbers bios lent.2 i b at in let s = h.0 in (omega (arith, s), h.1)

pub run-tickets : (p : PassView) (bios back : List (Bio TicketView)) (dones : List Done) → AreRun bios back dones → HaveTickets p bios → HaveTickets p back
run-tickets p [] [] [] run have = tt
run-tickets p [] [] (d ∷ dones) run have = absurd run
run-tickets p [] (r ∷ back) dones run have = absurd run
run-tickets p (b ∷ bios) [] dones run have = absurd run
run-tickets p (b ∷ bios) (r ∷ back) [] run have = absurd run
run-tickets p (b ∷ bios) (r ∷ back) (d ∷ dones) run have = (subst (IsTicketOf p) (sym (ap (λ (x : Bio TicketView). x.ticket) run.0.bio)) have.0, run-tickets p bios back dones run.1 have.1)

pub run-carried : (bios back : List (Bio TicketView)) (dones : List Done) → AreRun bios back dones → carried_by back ≡ carried_by bios
run-carried [] [] [] run = refl
run-carried [] [] (d ∷ dones) run = absurd run
run-carried [] (r ∷ back) dones run = absurd run
run-carried (b ∷ bios) [] dones run = absurd run
run-carried (b ∷ bios) (r ∷ back) [] run = absurd run
run-carried (b ∷ bios) (r ∷ back) (d ∷ dones) run = let one = run-long b r d run.0 in let rest = run-carried bios back dones run.1 in omega (arith, one, rest)

pub run-many : (bios back : List (Bio TicketView)) (dones : List Done) → AreRun bios back dones → length back ≡ length bios
run-many [] [] [] run = refl
run-many [] [] (d ∷ dones) run = absurd run
run-many [] (r ∷ back) dones run = absurd run
run-many (b ∷ bios) [] dones run = absurd run
run-many (b ∷ bios) (r ∷ back) [] run = absurd run
run-many (b ∷ bios) (r ∷ back) (d ∷ dones) run = ap suc (run-many bios back dones run.1)

-- a transfer of theirs failed only where the count of its lane rose
pub run-rose : (bios back : List (Bio TicketView)) (dones : List Done) → AreRun bios back dones → All CameOfRise dones
run-rose [] [] [] run = All-nil CameOfRise
run-rose [] [] (d ∷ dones) run = absurd run
run-rose [] (r ∷ back) dones run = absurd run
run-rose (b ∷ bios) [] dones run = absurd run
run-rose (b ∷ bios) (r ∷ back) [] run = absurd run
run-rose (b ∷ bios) (r ∷ back) (d ∷ dones) run = All-cons CameOfRise d dones run.0.rose (run-rose bios back dones run.1)

pub run-done : (bios back : List (Bio TicketView)) (dones : List Done) → AreRun bios back dones → length dones ≡ length bios
run-done [] [] [] run = refl
run-done [] [] (d ∷ dones) run = absurd run
run-done [] (r ∷ back) dones run = absurd run
run-done (b ∷ bios) [] dones run = absurd run
run-done (b ∷ bios) (r ∷ back) [] run = absurd run
run-done (b ∷ bios) (r ∷ back) (d ∷ dones) run = ap suc (run-done bios back dones run.1)

pub run-at : (k : ℕ) (bios back : List (Bio TicketView)) (dones : List Done) → AreRun bios back dones → tickets_at k back ≡ tickets_at k bios
run-at k [] [] [] run = refl
run-at k [] [] (d ∷ dones) run = absurd run
run-at k [] (r ∷ back) dones run = absurd run
run-at k (b ∷ bios) [] dones run = absurd run
run-at k (b ∷ bios) (r ∷ back) [] run = absurd run
run-at k (b ∷ bios) (r ∷ back) (d ∷ dones) run =
    let one : one_where (r.ticket.stripe == k) ≡ one_where (b.ticket.stripe == k) = ap (λ (x : Bio TicketView). one_where (x.ticket.stripe == k)) run.0.bio in
    let rest = run-at k bios back dones run.1 in
    omega (arith, one, rest)

pub run-carries : (x : ℕ) (bios back : List (Bio TicketView)) (dones : List Done) → AreRun bios back dones → HasOne (Carries x) bios → HasOne (Carries x) back
run-carries x [] back dones run (i, b, at, is) = absurd (cc)
run-carries x (b ∷ bios) [] dones run one = absurd run
run-carries x (b ∷ bios) (r ∷ back) [] run one = absurd run
run-carries x (b ∷ bios) (r ∷ back) (d ∷ dones) run (zero, y, at, is) =
    let e : y ≡ b = cc in
    let block : r.block ≡ b.block = ap (λ (v : Bio TicketView). v.block) run.0.bio in
    let long = run-long b r d run.0 in
    let mine : Carries x b = subst (Carries x) e is in
    let low = mine.0 in
    let high = mine.1 in
    (0, r, refl, (omega (arith, low, block), omega (arith, high, block, long)))
run-carries x (b ∷ bios) (r ∷ back) (d ∷ dones) run (suc i, y, at, is) = let rest = run-carries x bios back dones run.1 (i, y, at, is) in (suc rest.0, rest.1, rest.2, rest.3)

-- Of some bios the first ones were taken back, so many, and the others are left
pub record TakesSome (m : MountView) (file : FileId) (p q : PassView) (all rest : List (Bio TicketView)) (dones left : List Done) (taken blocks : ℕ) (failed : Option Done) : Type 0 where
  pub came : List (Bio TicketView)
  pub told : List Done
  pub bios : all ≡ came ++ rest
  pub dones_are : dones ≡ told ++ left
  pub count : length came ≡ taken
  pub returns : Returns m file p q came told blocks failed

module _ (m : MountView) (file : FileId) where
  pub takes-none : (p : PassView) (all : List (Bio TicketView)) (dones : List Done) → TakesSome m file p p all all dones dones 0 0 None
  takes-none p all dones = record { came = []; told = []; bios = refl; dones_are = refl; count = refl; returns = returns-none m file p }

  pub takes-next : (p q r : PassView) (all rest later : List (Bio TicketView)) (dones left more : List Done) (taken next blocks n sum : ℕ) (failed : Option Done) (b : Bio TicketView) (done : Done) → TakesSome m file p q all rest dones left taken blocks failed → rest ≡ b ∷ later → left ≡ done ∷ more
      → next ≡ taken + 1 → sum ≡ blocks + n → Returns m file q r (b ∷ []) (done ∷ []) n (failed_now done) → TakesSome m file p r all later dones more next sum (or_else failed (failed_now done))
  takes-next p q r all rest later dones left more taken next blocks n sum failed b done t one told taken-is sum-is returns =
      let count = t.count in
      let many = length-append t.came (b ∷ []) in
      record {
        came = t.came ++ b ∷ [];
        told = t.told ++ done ∷ [];
        bios = t.bios ∙ ap (λ l. t.came ++ l) one ∙ sym (append_assoc t.came (b ∷ []) later);
        dones_are = t.dones_are ∙ ap (λ l. t.told ++ l) told ∙ sym (append_assoc t.told (done ∷ []) more);
        count = omega (arith, count, many, taken-is);
        returns = subst (λ k. Returns m file p r (t.came ++ b ∷ []) (t.told ++ done ∷ []) k (or_else failed (failed_now done))) (sym sum-is) (returns-then m file p q r t.came (b ∷ []) t.told (done ∷ []) blocks n failed (failed_now done) t.returns returns);
      }

  pub takes-few : (p q : PassView) (all rest : List (Bio TicketView)) (dones left : List Done) (taken blocks : ℕ) (failed : Option Done) → TakesSome m file p q all rest dones left taken blocks failed → blocks + carried_by rest ≤ carried_by all
  takes-few p q all rest dones left taken blocks failed t =
      let few = t.returns.few in
      let sum = ap carried_by t.bios in
      let parts = total-append (λ (x : Bio TicketView). length x.parts) t.came rest in
      omega (arith, few, sum, parts)

  one-few : (p q : PassView) (b : Bio TicketView) (done : Done) (n : ℕ) (failed : Option Done) → Returns m file p q (b ∷ []) (done ∷ []) n failed → n ≤ length b.parts
  one-few p q b done n failed r = let few = r.few in omega (arith, few)

  -- what is taken and what comes next is not more than all
  pub next-few : (p q r : PassView) (all rest later : List (Bio TicketView)) (dones left : List Done) (taken blocks n : ℕ) (failed : Option Done) (b : Bio TicketView) (done : Done) → TakesSome m file p q all rest dones left taken blocks failed → rest ≡ b ∷ later
      → Returns m file q r (b ∷ []) (done ∷ []) n (failed_now done) → blocks + n ≤ carried_by all
  next-few p q r all rest later dones left taken blocks n failed b done t one returns =
      let few = takes-few p q all rest dones left taken blocks failed t in
      let some = one-few q r b done n (failed_now done) returns in
      let sum : carried_by rest ≡ carried_by (b ∷ later) = ap carried_by one in
      omega (arith, few, some, sum)

  pub takes-all : (p q : PassView) (all rest : List (Bio TicketView)) (dones left : List Done) (numbers : List ℕ) (taken blocks : ℕ) (failed : Option Done) → TakesSome m file p q all rest dones left taken blocks failed → HaveComeBack m file numbers rest left → taken ≡ length all
      → Returns m file p q all dones blocks failed
  takes-all p q all [] dones [] numbers taken blocks failed t back whole =
      subst (λ l. Returns m file p q l dones blocks failed) (sym (t.bios ∙ append-nil t.came)) (subst (λ l. Returns m file p q t.came l blocks failed) (sym (t.dones_are ∙ append-nil t.told)) t.returns)
  takes-all p q all [] dones (d ∷ left) [] taken blocks failed t back whole = absurd back
  takes-all p q all [] dones (d ∷ left) (n ∷ numbers) taken blocks failed t back whole = absurd back
  takes-all p q all (b ∷ rest) dones left numbers taken blocks failed t back whole =
      absurd (let count = t.count in let sum : length all ≡ length (t.came ++ b ∷ rest) = ap length t.bios in let many = length-append t.came (b ∷ rest) in omega (arith, count, sum, many, whole))

-- as many numbers and transfers as bios came back
pub back-numbers : (m : MountView) (file : FileId) (numbers : List ℕ) (bios : List (Bio TicketView)) (dones : List Done) → HaveComeBack m file numbers bios dones → (length numbers ≡ length bios) × (length dones ≡ length bios)
back-numbers m file [] [] [] back = (refl, refl)
back-numbers m file [] [] (d ∷ dones) back = absurd back
back-numbers m file [] (b ∷ bios) dones back = absurd back
back-numbers m file (n ∷ numbers) [] dones back = absurd back
back-numbers m file (n ∷ numbers) (b ∷ bios) [] back = absurd back
back-numbers m file (n ∷ numbers) (b ∷ bios) (d ∷ dones) back = let rest = back-numbers m file numbers bios dones back.1 in (ap suc rest.0, ap suc rest.1)

-- the first of the bios that came back, and the others
pub back-head : (m : MountView) (file : FileId) (number : ℕ) (more numbers : List ℕ) (b : Bio TicketView) (later bios : List (Bio TicketView)) (done : Done) (left dones : List Done) → numbers ≡ number ∷ more → bios ≡ b ∷ later → dones ≡ done ∷ left
    → HaveComeBack m file numbers bios dones → CameBack m file number b done × HaveComeBack m file more later left
back-head m file number more numbers b later bios done left dones one two three back =
    subst (HaveComeBack m file (number ∷ more) (b ∷ later)) three (subst (λ l. HaveComeBack m file (number ∷ more) l dones) two (subst (λ l. HaveComeBack m file l bios dones) one back))
