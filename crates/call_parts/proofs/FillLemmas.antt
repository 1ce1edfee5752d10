-- Tries that read cold blocks into the cache, from the turns that they are made of.
use Rattle.std.proofs.Common.{◌≡◌, ℕ, ◌+◌, ◌-◌, ◌<◌, ◌≤◌, inl, inr, true, false, Bool, List, [], ◌∷◌, ◌++◌, length, if◌then◌else◌, refl, sym, ap, ◌∙◌, subst, arith}
use Rattle.std.specs.Prelude.{All, ◌%◌, IsTrue, None, Ok, Err, Option, Result, Some, option_to_list, slice_get}
use Rattle.std.proofs.lemmas.List.Elements.{All-cons, All-nil}
use Rattle.std.proofs.lemmas.Option.{none-some}
use Rattle.iob_base.specs.declared.part.Part.{Part}
use Rattle.iob_base.specs.declared.stamp.FileId.{FileId}
use Rattle.iob_base.specs.declared.stamp.Mode.TheVariants.{Cached}
use Rattle.iob_base.specs.declared.stamp.Op.TheVariants.{Read}
use Rattle.fault_device.specs.LaneView.{LaneView}
use Rattle.fault_device.specs.declared.lane.Done.{Done}
use Rattle.bio_pages.specs.Lists.{AreRun, OwnFailures}
use Rattle.bio_pages.specs.Running.{HasRun as RanLane, IsRun}
use Rattle.bio_pages.specs.declared.bio.Bio.{Bio}
use Rattle.range_core.specs.ClaimsView.{ClaimsView}
use Rattle.range_core.specs.LendReads.{MayFill, fill_entry, fill_length}
use Rattle.range_core.specs.Lends.{lent_of}
use Rattle.range_core.specs.declared.entry.Entry.{Entry}
use Rattle.range_core.specs.declared.entry.Event.TheVariants.{FillBack, LendRead}
use Rattle.range_core.specs.declared.entry.Outcome.TheVariants.{Finished, Lending}
use Rattle.range_core.specs.declared.entry.Outcome.TheVariants.{Refused as NotDone}
use Rattle.range_core.specs.declared.fault.EventFault.{EventFault}
use Rattle.range_core.specs.declared.fault.EventFault.TheVariants as refusal
use Rattle.range_core.specs.declared.lending.Held.{Held}
use Rattle.range_core.specs.declared.lending.Lender.TheVariants.{Reading}
use Rattle.range_core.specs.declared.lending.Lent.{Lent}
use Rattle.range_core.specs.declared.loan_answer.LendRefused.{LendRefused}
use Rattle.range_core.proofs.LendLemmas.{length-parts_of}
use Rattle.range_core.proofs.TransferLemmas.{length-after}
use Rattle.mount_parts.specs.MountView.{HasBlock, IsLaidOut, MountView, file_at, stripe_at}
use Rattle.mini_fs.specs.Acts.{Act, Acted, Acts, HasRun, own_entries}
use Rattle.mini_fs.specs.Acts.Act.{Turn, Open, Close, Run}
use Rattle.mini_fs.specs.CallActs.{IsActAt}
use Rattle.mini_fs.specs.Loans.{CarriesLoan, FillsBack, IsLoaned, LendsRead}
use Rattle.mini_fs.specs.PageTurns.{entry_by}
use Rattle.mini_fs.specs.PassView.{IsPassOf, PassView, share_at}
use Rattle.mini_fs.specs.TicketView.{TicketView}
use Rattle.mini_fs.specs.Tickets.{ClosedTicket, IsTicketOf, KeepsTickets, Opened, lent_claims}
use Rattle.mini_fs.specs.Turns.{ReadyAt, TurnsAt}
use Rattle.mini_fs.proofs.ActLemmas.{closed-act, opened-act, turned-act}
use Rattle.mini_fs.proofs.Loaned.{run-ticket}
use Rattle.mini_fs.proofs.PassActs.{acted-pass}
use Rattle.mini_fs.proofs.Ready.{run-lies, stripe-here}
use Rattle.call_parts.specs.Budgets.{IsReadBelow, IsSound, LendsAmong}
use Rattle.call_parts.specs.Fills.{CameBack, CarriedBack, FillCame, Fills, IsRefusedLoan, fill_after, fill_fault, fill_refused, fills}
use Rattle.call_parts.specs.Steps.{CameOfRise, IsQuiet, ServedBy}
use Rattle.call_parts.specs.declared.cold.Fill.{Fill}
use Rattle.call_parts.specs.declared.cold.Fill.TheVariants.{Failed, Filled, NoMemory}
use Rattle.call_parts.proofs.FewLemmas.{few-none}
use Rattle.call_parts.proofs.StepLemmas.{quiet-placed, served-none, steps-none}

-- one bio was run
run-long : {T : Type 0} (b : Bio T) (bios : List (Bio T)) (dones : List Done) → AreRun (b ∷ []) bios dones → length dones ≡ 1
run-long b [] dones run = absurd run
run-long b (r ∷ bios) [] run = absurd run
run-long b (r ∷ []) (d ∷ []) run = refl
run-long b (r ∷ []) (d ∷ e ∷ dones) run = absurd run.1
run-long b (r ∷ s ∷ bios) (d ∷ []) run = absurd run.1
run-long b (r ∷ s ∷ bios) (d ∷ e ∷ dones) run = absurd run.1

-- a list of one is its last
one-done : (d : Done) (rest dones : List Done) → length dones ≡ 1 → dones ≡ rest ++ d ∷ [] → dones ≡ d ∷ []
one-done d [] dones one is = is
one-done d (e ∷ []) dones one is = absurd (let n : length dones ≡ length (e ∷ d ∷ []) = ap length is in omega (arith, n, one))
one-done d (e ∷ f ∷ rest) dones one is = absurd (let n : length dones ≡ length (e ∷ f ∷ (rest ++ d ∷ [])) = ap length is in omega (arith, n, one))

-- the one bio failed only where the count of its lane rose
one-rose : {T : Type 0} (b : Bio T) (bios : List (Bio T)) (d : Done) → AreRun (b ∷ []) bios (d ∷ []) → All CameOfRise (d ∷ [])
one-rose b [] d run = absurd run
one-rose b (r ∷ bios) d run = All-cons CameOfRise d [] run.0.rose (All-nil CameOfRise)

-- the lane served the one bio
pub served-one : {T : Type 0} (b : Bio T) (sent bios : List (Bio T)) (dones rest : List Done) (d : Done) (before after : LaneView) → sent ≡ b ∷ [] → AreRun sent bios dones → dones ≡ rest ++ option_to_list (Some d)
    → RanLane before after → OwnFailures before.number before.count after.count dones → ServedBy before after (d ∷ [])
served-one b sent bios dones rest d before after is run told ran own =
    let alone : AreRun (b ∷ []) bios dones = subst (λ l. AreRun l bios dones) is run in
    let one : length dones ≡ 1 = run-long b bios dones alone in
    let same : dones ≡ d ∷ [] = one-done d rest dones one told in
    record { ran = ran; own = subst (OwnFailures before.number before.count after.count) same own; rose = one-rose b bios d (subst (AreRun (b ∷ []) bios) same alone) }

-- blocks of one stripe of a cached file may be lent for a read on a ticket without a loan
pub lend-ready : (m : MountView) (file : FileId) (block most : ℕ) (p q : PassView) (t : TicketView) → IsLaidOut m → (file_at m file).mode ≡ Cached → 0 < most → block + most ≤ (file_at m file).blocks → block % 64 + most ≤ 64
    → Opened p (stripe_at m file block) q t → ReadyAt (λ opening seen claims. MayFill opening claims block most) m q t.stripe (lent_claims q t.held)
lend-ready m file block most p q t laid mode some within folds opened cell seat stand =
    let at : t.stripe ≡ stripe_at m file block = ap (λ (x : TicketView). x.stripe) opened.ticket_is in
    let here : slice_get m.stripes (stripe_at m file block) ≡ Some cell = ap (slice_get m.stripes) (sym at) ∙ stand.cell_is in
    record {
      cached = (stripe-here m file laid block cell (omega (arith, some, within)) here).mode ∙ mode;
      lies = run-lies m file laid block most some within folds cell here;
      free = ap (λ (x : TicketView). x.held) opened.ticket_is;
    }

-- a bio carries what was lent on its ticket
pub carries-loan : (m : MountView) (file : FileId) (lent : Lent) (b : Bio TicketView) → IsLoaned m file b.ticket lent Reading → b.op ≡ Read → b.block ≡ lent.block → b.parts ≡ lent.parts → CarriesLoan m file Reading Read lent.ticket b
carries-loan m file lent b loan way block parts =
    let same : lent ≡ lent_of lent.ticket b.block b.parts = (λ i. lent_of lent.ticket (sym block i) (sym parts i)) in
    record { loan = subst (λ l. IsLoaned m file b.ticket l Reading) same loan; way = way }

-- what went with a bio came back, and the ticket was closed
pub carried : (m : MountView) (file : FileId) (lent : Lent) (b r : Bio TicketView) (t : TicketView) (parts : List Part) (done : Done) (before after : LaneView) (p p1 p2 q : PassView) (held kept : Option Held) (c d : ClaimsView)
    → b.block ≡ lent.block → b.parts ≡ lent.parts → HasRun 1 p p1 → IsRun b r done → ServedBy before after (done ∷ [])
    → TurnsAt (λ opening history value next entry. FillsBack (lent_of lent.ticket r.block r.parts) done parts value (lent_claims p1 held) next (lent_claims p1 kept) entry) m r.ticket.stripe c d p1 p2
    → t.stripe ≡ r.ticket.stripe → IsTicketOf p2 t → ClosedTicket p2 t q → CarriedBack b.ticket.stripe lent before after p q done
carried m file lent b r t parts done before after p p1 p2 q held kept c d block_is parts_are ran run lane turn at is closed =
    let own = turn.turned.entry in
    let others = turn.turned.others in
    let did = turn.turned.done in
    let home : r.ticket.stripe ≡ b.ticket.stripe = ap (λ (x : TicketView). x.stripe) (run-ticket m file lent.ticket b r done run) in
    let given : Some (lent_of lent.ticket r.block r.parts) ≡ Some did.back = did.given in
    let back : did.back ≡ lent_of lent.ticket r.block r.parts = cc in
    let place : r.block ≡ lent.block = ap (λ (x : Bio TicketView). x.block) run.bio ∙ block_is in
    let many : length r.parts ≡ length lent.parts = ap length run.parts ∙ length-after b.op done.landed b.parts ∙ ap length parts_are in
    let caller : p1.caller ≡ p.caller = ap (λ (v : PassView). v.caller) ran.pass_is in
    let entry : own ≡ entry_by p.caller (FillBack lent.ticket lent.block (length lent.parts) done) Finished =
    did.entry_is
    ∙ ap (λ l. fill_entry (lent_claims p1 held) l done) back
    ∙ (λ i. entry_by (caller i) (FillBack lent.ticket (place i) (many i) done) Finished) in
    let turned : Acts (Turn b.ticket.stripe others own) p1 p2 = subst (λ k. Acts (Turn k others own) p1 p2) home (turned-act turn) in
    let shut : Acts (Close b.ticket.stripe) p2 q = subst (λ k. Acts (Close k) p2 q) (at ∙ home) (closed-act is closed) in
    record {
      others = others;
      acted = (p1, ran, (p2, subst (λ e. Acts (Turn b.ticket.stripe others e) p1 p2) entry turned, (q, shut, refl)));
      lane = lane;
    }

-- the entries of a loan, of its return, and of a loan that was refused
abbrev loan_entry : ℕ → ℕ → ℕ → Lent → Entry
loan_entry caller block most lent = entry_by caller (LendRead block most) (Lending lent.ticket (length lent.parts))

abbrev back_entry : ℕ → ℕ → Lent → Done → Entry
back_entry caller block lent done = entry_by caller (FillBack lent.ticket block (length lent.parts) done) Finished

abbrev refused_entry : ℕ → ℕ → ℕ → EventFault → Entry
refused_entry caller block most fault = entry_by caller (LendRead block most) (NotDone fault)

-- how a try is told, as its entries are
after-so : (caller block most : ℕ) (entries : List Entry) (done : Done) → CameBack caller block most entries done → FillCame caller block most entries (fill_after block done)
after-so caller block most entries done came = at done.failed refl
  where
    at : (b : Bool) → done.failed ≡ b → FillCame caller block most entries (if b then Failed block done else Filled)
    at true e = (refl, came, e)
    at false e = (done, came, e)

refused-so : (caller block most : ℕ) (entries : List Entry) (fault : EventFault) → IsRefusedLoan caller block most entries fault → FillCame caller block most entries (fill_refused fault)
refused-so caller block most entries (refusal.Away b ticket) is = (refusal.Away b ticket, is, refl)
refused-so caller block most entries (refusal.Settled b) is = (refusal.Settled b, is, refl)
refused-so caller block most entries (refusal.Stale sample now) is = inr (refusal.Stale sample now, is, refl)
refused-so caller block most entries (refusal.Cold b) is = inr (refusal.Cold b, is, refl)
refused-so caller block most entries (refusal.Unattached b) is = inr (refusal.Unattached b, is, refl)
refused-so caller block most entries (refusal.Dirty b) is = inr (refusal.Dirty b, is, refl)
refused-so caller block most entries (refusal.Worn cookie) is = inr (refusal.Worn cookie, is, refl)
refused-so caller block most entries refusal.NoMemory is = inr (refusal.NoMemory, is, refl)
refused-so caller block most entries (refusal.NoSpace wanted found) is = inr (refusal.NoSpace wanted found, is, refl)
refused-so caller block most entries (refusal.Poison done) is = inr (refusal.Poison done, is, refl)

-- where no fault stops a call, the read did not fail
back-sound : (block : ℕ) (lent : Lent) (caller : ℕ) (done : Done) → fill_fault (fill_after block done) ≡ None → IsSound (back_entry caller block lent done).event
back-sound block lent caller done none = at done.failed refl none
  where
    at : (t : Bool) → done.failed ≡ t → fill_fault (if t then Failed block done else Filled) ≡ None → done.failed ≡ false
    at true e none = absurd (none-some _ (sym none))
    at false e none = e

module _ (m : MountView) (file : FileId) (block most : ℕ) (p q : PassView) (has : HasBlock m file block) (of : IsPassOf m q) (keeps : KeepsTickets p q) where
  -- a try whose loan came back, from all its acts
  fill-so : (before after : LaneView) (s : ℕ) (others more : List Entry) (lent : Lent) (done : Done) → s ≡ stripe_at m file block → 0 < length lent.parts
      → Acted (Open s ∷ Turn s others (loan_entry p.caller block most lent) ∷ Run 1 ∷ Turn s more (back_entry p.caller block lent done) ∷ Close s ∷ []) p q
      → ServedBy before after (done ∷ []) → Fills m file block most before after p q (fill_after block done)
  fill-so before after s others more lent done at some acted lane =
      let lends = loan_entry p.caller block most lent in
      let returns = back_entry p.caller block lent done in
      let last : List Act = Turn s more returns ∷ Close s ∷ [] in
      let acts : List Act = Open s ∷ Turn s others lends ∷ Run 1 ∷ last in
      let own = All-cons (λ (e : Entry). e.caller ≡ p.caller) lends (returns ∷ []) refl (All-cons (λ (e : Entry). e.caller ≡ p.caller) returns [] refl (All-nil (λ (e : Entry). e.caller ≡ p.caller))) in
      let made = All-cons (λ (e : Entry). IsTrue (fills e.event)) lends (returns ∷ []) refl (All-cons (λ (e : Entry). IsTrue (fills e.event)) returns [] refl (All-nil (λ (e : Entry). IsTrue (fills e.event)))) in
      let quiet = All-cons IsQuiet lends (returns ∷ []) refl (All-cons IsQuiet returns [] refl (All-nil IsQuiet)) in
      let here : IsActAt m file (Open s) = (block, has, at) in
      record {
        acts = acts;
        steps = record {
          of = of;
          did = record {
            acted = acted;
            at_file = All-cons (IsActAt m file) (Open s) (Turn s others lends ∷ Run 1 ∷ last) here
                (All-cons (IsActAt m file) (Turn s others lends) (Run 1 ∷ last) here
                (All-cons (IsActAt m file) (Run 1) last tt
                (All-cons (IsActAt m file) (Turn s more returns) (Close s ∷ []) here (All-cons (IsActAt m file) (Close s) [] here (All-nil (IsActAt m file))))));
            made = made;
            closed = λ k. refl;
          };
          locks = refl;
          sizes = refl;
          last = (acted-pass acts p q acted).last;
          callers = own;
          placed = quiet-placed m file acts quiet;
          run = refl;
          lane = lane;
          tickets = keeps;
        };
        came = after-so p.caller block most (own_entries acts) done (record { ticket = lent.ticket; blocks = length lent.parts; entries_are = refl });
        few = record {
          among = All-cons (LendsAmong m file (λ b. true) block 1) (Open s) (Turn s others lends ∷ Run 1 ∷ last) tt
              (All-cons (LendsAmong m file (λ b. true) block 1) (Turn s others lends) (Run 1 ∷ last) (omega arith, omega arith, refl, at, some)
              (All-cons (LendsAmong m file (λ b. true) block 1) (Run 1) last tt
              (All-cons (LendsAmong m file (λ b. true) block 1) (Turn s more returns) (Close s ∷ []) tt (All-cons (LendsAmong m file (λ b. true) block 1) (Close s) [] tt (All-nil (LendsAmong m file (λ b. true) block 1))))));
          falls = (tt, (λ failed. All-nil (λ (e : Entry). IsReadBelow block e.event e.outcome), tt));
          sound = λ none. All-cons (λ (e : Entry). IsSound e.event) lends (returns ∷ []) tt (All-cons (λ (e : Entry). IsSound e.event) returns [] (back-sound block lent p.caller done none) (All-nil (λ (e : Entry). IsSound e.event)));
        };
      }

  -- a try whose loan was refused, from all its acts
  unfilled-so : (lane : LaneView) (s : ℕ) (others : List Entry) (fault : EventFault) → s ≡ stripe_at m file block
      → Acted (Open s ∷ Turn s others (refused_entry p.caller block most fault) ∷ Close s ∷ []) p q → Fills m file block most lane lane p q (fill_refused fault)
  unfilled-so lane s others fault at acted =
      let lends = refused_entry p.caller block most fault in
      let acts : List Act = Open s ∷ Turn s others lends ∷ Close s ∷ [] in
      let own = All-cons (λ (e : Entry). e.caller ≡ p.caller) lends [] refl (All-nil (λ (e : Entry). e.caller ≡ p.caller)) in
      let made = All-cons (λ (e : Entry). IsTrue (fills e.event)) lends [] refl (All-nil (λ (e : Entry). IsTrue (fills e.event))) in
      let quiet = All-cons IsQuiet lends [] refl (All-nil IsQuiet) in
      let here : IsActAt m file (Open s) = (block, has, at) in
      record {
        acts = acts;
        steps = record {
          of = of;
          did = record {
            acted = acted;
            at_file = All-cons (IsActAt m file) (Open s) (Turn s others lends ∷ Close s ∷ []) here
                (All-cons (IsActAt m file) (Turn s others lends) (Close s ∷ []) here (All-cons (IsActAt m file) (Close s) [] here (All-nil (IsActAt m file))));
            made = made;
            closed = λ k. refl;
          };
          locks = refl;
          sizes = refl;
          last = (acted-pass acts p q acted).last;
          callers = own;
          placed = quiet-placed m file acts quiet;
          run = refl;
          lane = served-none lane;
          tickets = keeps;
        };
        came = refused-so p.caller block most (own_entries acts) fault refl;
        few = record {
          among = All-cons (LendsAmong m file (λ b. true) block 1) (Open s) (Turn s others lends ∷ Close s ∷ []) tt
              (All-cons (LendsAmong m file (λ b. true) block 1) (Turn s others lends) (Close s ∷ []) tt (All-cons (LendsAmong m file (λ b. true) block 1) (Close s) [] tt (All-nil (LendsAmong m file (λ b. true) block 1))));
          falls = (tt, tt);
          sound = λ none. All-cons (λ (e : Entry). IsSound e.event) lends [] tt (All-nil (λ (e : Entry). IsSound e.event));
        };
      }

-- a try without memory does nothing
pub fills-none : (m : MountView) (file : FileId) (block most : ℕ) (lane : LaneView) (p : PassView) → IsPassOf m p → Fills m file block most lane lane p p NoMemory
fills-none m file block most lane p of = record { acts = []; steps = steps-none m file fills lane p of; came = inl refl; few = few-none m file (λ b. true) block 1 (fill_fault NoMemory) }

-- the turn of a loan was one of the pass
module _ (m : MountView) (file : FileId) (block most : ℕ) (p p1 p2 q : PassView) (t u : TicketView) (parts : List Part) (held kept : Option Held) (c d : ClaimsView) (answer : Result Lent LendRefused)
    (has : HasBlock m file block) (more : 1 < share_at p (stripe_at m file block)) (opened : Opened p (stripe_at m file block) p1 t)
    (lends : TurnsAt (λ opening history value next entry. LendsRead block most parts answer opening value (lent_claims p1 held) next (lent_claims p1 kept) entry) m t.stripe c d p1 p2)
    (same : u.stripe ≡ t.stripe) (of : IsPassOf m q) (keeps : KeepsTickets p q) where
  home : t.stripe ≡ stripe_at m file block
  home = ap (λ (x : TicketView). x.stripe) opened.ticket_is

  first : p1.caller ≡ p.caller
  first = ap (λ (v : PassView). v.caller) opened.pass_is

  -- a try whose loan came back
  pub filled : (before after : LaneView) (lent : Lent) (done : Done) (fill : Fill) → answer ≡ Ok lent → CarriedBack u.stripe lent before after p2 q done → fill ≡ fill_after block done → Fills m file block most before after p q fill
  filled before after lent done fill is carry told =
      let turn : TurnsAt (λ opening history value next entry. LendsRead block most parts (Ok lent) opening value (lent_claims p1 held) next (lent_claims p1 kept) entry) m t.stripe c d p1 p2 =
      subst (λ a. TurnsAt (λ opening history value next entry. LendsRead block most parts a opening value (lent_claims p1 held) next (lent_claims p1 kept) entry) m t.stripe c d p1 p2) is lends in
      let s = stripe_at m file block in
      let own = turn.turned.entry in
      let others = turn.turned.others in
      let value = turn.turned.value in
      let did = turn.turned.done in
      let loan = did.loan in
      let within = did.run.within in
      let count = loan.many in
      let number : lent.ticket ≡ value.tickets = ap (λ (l : Lent). l.ticket) loan.lent_is in
      let begins : lent.block ≡ block = ap (λ (l : Lent). l.block) loan.lent_is in
      let many : length lent.parts ≡ fill_length value block most = ap (λ (l : Lent). length l.parts) loan.lent_is ∙ length-parts_of (block - value.first) value.cells loan.pages (omega (arith, within, count)) ∙ count in
      let entry : own ≡ loan_entry p.caller block most lent = did.entry_is ∙ (λ i. entry_by (first i) (LendRead block most) (Lending (sym number i) (sym many i))) in
      let turned : Acts (Turn s others (loan_entry p.caller block most lent)) p1 p2 =
      subst (λ e. Acts (Turn s others e) p1 p2) entry (subst (λ k. Acts (Turn k others own) p1 p2) home (turned-act turn)) in
      let caller : p2.caller ≡ p.caller = ap (λ (v : PassView). v.caller) turn.pass_is ∙ first in
      let ended : Acted (Run 1 ∷ Turn s carry.others (back_entry p.caller block lent done) ∷ Close s ∷ []) p2 q =
      subst (λ n. Acted (Run 1 ∷ Turn s carry.others (back_entry n block lent done) ∷ Close s ∷ []) p2 q) caller
      (subst (λ b. Acted (Run 1 ∷ Turn s carry.others (back_entry p2.caller b lent done) ∷ Close s ∷ []) p2 q) begins
      (subst (λ k. Acted (Run 1 ∷ Turn k carry.others (back_entry p2.caller lent.block lent done) ∷ Close k ∷ []) p2 q) (same ∙ home) carry.acted)) in
      subst (Fills m file block most before after p q) (sym told) (fill-so m file block most p q has of keeps before after s others carry.others lent done refl (let n = did.run.some in omega (arith, n, many)) (p1, opened-act opened more, (p2, turned, ended)) carry.lane)

  -- a try whose loan was refused
  pub unfilled : (lane : LaneView) (refused : LendRefused) (fill : Fill) → answer ≡ Err refused → IsTicketOf p2 u → ClosedTicket p2 u q → fill ≡ fill_refused refused.fault → Fills m file block most lane lane p q fill
  unfilled lane refused fill is ticket closed told =
      let turn : TurnsAt (λ opening history value next entry. LendsRead block most parts (Err refused) opening value (lent_claims p1 held) next (lent_claims p1 kept) entry) m t.stripe c d p1 p2 =
      subst (λ a. TurnsAt (λ opening history value next entry. LendsRead block most parts a opening value (lent_claims p1 held) next (lent_claims p1 kept) entry) m t.stripe c d p1 p2) is lends in
      let s = stripe_at m file block in
      let own = turn.turned.entry in
      let others = turn.turned.others in
      let entry : own ≡ refused_entry p.caller block most refused.fault = turn.turned.done.entry_is ∙ ap (λ n. refused_entry n block most refused.fault) first in
      let turned : Acts (Turn s others (refused_entry p.caller block most refused.fault)) p1 p2 =
      subst (λ e. Acts (Turn s others e) p1 p2) entry (subst (λ k. Acts (Turn k others own) p1 p2) home (turned-act turn)) in
      let shut : Acts (Close s) p2 q = subst (λ k. Acts (Close k) p2 q) (same ∙ home) (closed-act ticket closed) in
      subst (Fills m file block most lane lane p q) (sym told) (unfilled-so m file block most p q has of keeps lane s others refused.fault refl (p1, opened-act opened more, (p2, turned, (q, shut, refl))))
