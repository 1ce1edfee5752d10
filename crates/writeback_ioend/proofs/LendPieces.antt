-- The turns by which dirty blocks get space and are lent.
use Rattle.std.proofs.Common.{◌≡◌, ℕ, ◌+◌, ◌-◌, ◌<◌, ◌≤◌, inl, inr, Bool, true, false, List, [], ◌∷◌, ◌++◌, Some, None, Option, Result, Ok, Err, length, map, take, drop, refl, sym, ap, ◌∙◌, subst, arith, if◌then◌else◌}
use Rattle.std.specs.Prelude.{◌%◌, ◌⊎◌, ◌==◌, IfOk, IfSome, slice_get, unwrap_or}
use Rattle.iob_base.specs.declared.answer.Fault.{Fault}
use Rattle.iob_base.specs.declared.answer.Fault.TheVariants as answers
use Rattle.iob_base.specs.declared.part.Part.{Part}
use Rattle.iob_base.specs.declared.stamp.FileId.{FileId}
use Rattle.iob_base.specs.declared.stamp.Op.TheVariants.{Write}
use Rattle.bio_pages.specs.declared.bio.Bio.{Bio}
use Rattle.turn_cell.specs.Views.{CellView}
use Rattle.range_core.specs.BlockStates.{BlockState, state_of}
use Rattle.range_core.specs.ClaimsView.{ClaimsView}
use Rattle.range_core.specs.EntryCounts.{one_where}
use Rattle.range_core.specs.LendWritebacks.{MayWrite, page_copy, write_length, write_run, writes_with}
use Rattle.range_core.specs.Lends.{lend_most, lent_of}
use Rattle.range_core.specs.RangeView.{LiesAt, RangeView, cells_from}
use Rattle.range_core.specs.Refusals.{lend_writeback_refusal}
use Rattle.range_core.specs.declared.cell.Cell.{Cell}
use Rattle.range_core.specs.declared.entry.Entry.{Entry}
use Rattle.range_core.specs.declared.entry.Event.TheVariants.{Attach, LendWriteback}
use Rattle.range_core.specs.declared.entry.Outcome.{Outcome}
use Rattle.range_core.specs.declared.entry.Outcome.TheVariants.{Lending, Refused}
use Rattle.range_core.specs.declared.fault.EventFault.{EventFault}
use Rattle.range_core.specs.declared.fault.EventFault.TheVariants as refusal
use Rattle.range_core.specs.declared.lending.Held.{Held}
use Rattle.range_core.specs.declared.lending.Lender.TheVariants.{Writeback}
use Rattle.range_core.specs.declared.lending.Lent.{Lent}
use Rattle.range_core.specs.declared.loan_answer.LendRefused.{LendRefused}
use Rattle.range_core.proofs.LeadingLemmas.{leading-within}
use Rattle.range_core.proofs.LendLemmas.{length-parts_of}
use Rattle.range_core.proofs.LendWritebackLemmas.{copies-length}
use Rattle.mount_parts.specs.MountView.{HasBlock, IsLaidOut, MountView, file_at, stripe_at}
use Rattle.mount_parts.proofs.Places.{there}
use Rattle.mini_fs.specs.Acts.{Act, Acts}
use Rattle.mini_fs.specs.Acts.Act.{Turn, Open, Close}
use Rattle.mini_fs.specs.CallActs.{IsStripeOf, loans_in}
use Rattle.mini_fs.specs.Loans.{CarriesLoan, IsLoaned, LendsWriteback}
use Rattle.mini_fs.specs.PageTurns.{AttachesAt, entry_by}
use Rattle.mini_fs.specs.PassView.{IsPassOf, PassView, claims_of, share_at}
use Rattle.mini_fs.specs.TicketView.{TicketView}
use Rattle.mini_fs.specs.Tickets.{ClosedTicket, IsTicketOf, Opened, lent_claims}
use Rattle.mini_fs.specs.Turns.{ReadyAt, TurnsAt}
use Rattle.mini_fs.proofs.ActLemmas.{closed-act, opened-act, turned-act}
use Rattle.mini_fs.proofs.Ready.{run-lies}
use Rattle.call_parts.specs.Causes.{HasOne, IsCaused}
use Rattle.writeback_ioend.specs.Folios.{Came, Carries, IsLent, Lends, LentOne, OneTurn, Tries, passed_at, stopped_by}
use Rattle.writeback_ioend.specs.declared.lend.Piece.TheVariants.{Ended, On}
use Rattle.writeback_ioend.specs.Writebacks.{IsAway, IsDueState, IsSettled, StopsWriteback, WasFound, asked_again}
use Rattle.writeback_ioend.proofs.FoundLemmas.{away-found, found-turn, settled-found}
use Rattle.writeback_ioend.proofs.LendLemmas.{stopped-caused, stopped-stops}
use Rattle.writeback_ioend.proofs.Moves.{moves-close, moves-none, moves-open, moves-then, moves-turn}
use Rattle.writeback_ioend.proofs.WalkLemmas.{found-left, found-right}

-- a run of blocks of one stripe of the file
module _ (m : MountView) (file : FileId) (at end : ℕ) (some : at < end) (within : end ≤ (file_at m file).blocks) (folds : at % 64 + (end - at) ≤ 64) where
  has : HasBlock m file at
  has = omega (arith, some, within)

  here : IsStripeOf m file (stripe_at m file at)
  here = (at, has, refl)

  -- lies in the range of its stripe, and so does its first block
  pub run-here : IsLaidOut m → (cell : CellView RangeView) → slice_get m.stripes (stripe_at m file at) ≡ Some cell → LiesAt cell.opening at (end - at)
  run-here laid cell is = run-lies m file laid at (end - at) (omega (arith, some)) (omega (arith, some, within)) folds cell is

  first-here : IsLaidOut m → (cell : CellView RangeView) → slice_get m.stripes (stripe_at m file at) ≡ Some cell → LiesAt cell.opening at 1
  first-here laid cell is = let l = run-here laid cell is in let low = l.low in let high = l.high in record { low = low; some = omega arith; high = omega (arith, high, some) }

  -- its dirty blocks may get space
  pub attach-ready : IsLaidOut m → (p : PassView) → ReadyAt (λ opening seen claims. LiesAt opening at (end - at)) m p (stripe_at m file at) (claims_of p)
  attach-ready laid p cell seat stand = run-here laid cell stand.cell_is

  -- one turn gave them space, or was refused
  attach-so : (waits : Bool) (p q : PassView) (others : List Entry) (outcome : Outcome) (fault : Option Fault) → Acts (Turn (stripe_at m file at) others (entry_by p.caller (Attach at (end - at)) outcome)) p q
      → loans_in (Turn (stripe_at m file at) others (entry_by p.caller (Attach at (end - at)) outcome) ∷ []) ≡ 0 → IfSome fault StopsWriteback → IfSome fault (IsCaused m (entry_by p.caller (Attach at (end - at)) outcome ∷ []))
      → OneTurn m file waits at at p q fault
  attach-so waits p q others outcome fault did loans stops cause = record {
    lends = record {
      acts = Turn (stripe_at m file at) others (entry_by p.caller (Attach at (end - at)) outcome) ∷ [];
      moves = moves-turn m file (stripe_at m file at) others (entry_by p.caller (Attach at (end - at)) outcome) p q here did refl refl;
      out = λ k. refl;
      none_run = refl;
      loans = loans;
      none_back = refl;
      none_written = refl;
      none_failed = refl;
      forward = omega arith;
      ascending = (omega arith, tt);
      ends = omega arith;
      many = omega arith;
      few = omega arith;
      short = omega arith;
      lent = tt;
      met = λ b low high. absurd (omega (arith, low, high));
      stops = stops;
      cause = cause;
    };
    turns = omega arith;
    sought = λ start before. ((λ block many e. absurd (cc e)), tt);
  }

  module _ (waits : Bool) (p q : PassView) (claims left : ClaimsView) (answer : Result ℕ EventFault)
      (t : TurnsAt (λ opening history before after entry. AttachesAt m.pool.opening at (end - at) before after p.caller answer entry) m (stripe_at m file at) claims left p q) where
    pub attached : (taken : ℕ) → answer ≡ Ok taken → OneTurn m file waits at at p q None
    attached taken is =
        let did = subst (λ a. AttachesAt m.pool.opening at (end - at) t.turned.value t.turned.next p.caller a t.turned.entry) is t.turned.done in
        attach-so waits p q t.turned.others _ None (subst (λ e. Acts (Turn (stripe_at m file at) t.turned.others e) p q) did.ok.entry_is (turned-act t)) refl tt tt

    pub not-attached : (fault : EventFault) → answer ≡ Err fault → OneTurn m file waits at at p q (stopped_by fault)
    not-attached fault is =
        let did = subst (λ a. AttachesAt m.pool.opening at (end - at) t.turned.value t.turned.next p.caller a t.turned.entry) is t.turned.done in
        attach-so waits p q t.turned.others (Refused fault) (stopped_by fault) (subst (λ e. Acts (Turn (stripe_at m file at) t.turned.others e) p q) did.err.entry_is (turned-act t)) refl (stopped-stops fault)
        (stopped-caused m (entry_by p.caller (Attach at (end - at)) (Refused fault) ∷ []) fault (0, entry_by p.caller (Attach at (end - at)) (Refused fault), refl, refl))

  -- its dirty blocks may be lent for a write on a ticket without a loan
  pub lend-ready : IsLaidOut m → (p q : PassView) (t : TicketView) → Opened p (stripe_at m file at) q t → ReadyAt (λ opening seen claims. MayWrite opening claims at (end - at)) m q t.stripe (lent_claims q t.held)
  lend-ready laid p q t opened cell seat stand =
      let home : t.stripe ≡ stripe_at m file at = ap (λ (x : TicketView). x.stripe) opened.ticket_is in
      record { lies = run-here laid cell (ap (slice_get m.stripes) (sym home) ∙ stand.cell_is); free = ap (λ (x : TicketView). x.held) opened.ticket_is }

  -- a walk that stops for want of memory
  no-memory : (waits : Bool) (slot : ℕ) (p : PassView) → Lends m file waits slot at at p p [] [] (Some answers.NoMemory)
  no-memory waits slot p = record {
    acts = [];
    moves = moves-none m file p;
    out = λ k. refl;
    none_run = refl;
    loans = refl;
    none_back = refl;
    none_written = refl;
    none_failed = refl;
    forward = omega arith;
    ascending = tt;
    ends = omega arith;
    many = omega arith;
    few = omega arith;
    short = omega arith;
    lent = tt;
    met = λ b low high. absurd (omega (arith, low, high));
    stops = tt;
    cause = tt;
  }

  -- a folio, and a try, that stop so
  pub no-folio : (waits : Bool) (p : PassView) → OneTurn m file waits at at p p (Some answers.NoMemory)
  unfolding no-memory
  no-folio waits p = record { lends = no-memory waits 0 p; turns = omega arith; sought = λ start before. tt }

  pub no-try : (waits : Bool) (slot : ℕ) (p : PassView) → Tries m file waits slot at at p p [] [] (Some answers.NoMemory)
  unfolding no-memory
  no-try waits slot p = record { lends = no-memory waits slot p; turns = omega arith; sought = λ start before of acted found. tt; tried = λ none. absurd (cc) }

-- as many blocks are lent as the turn says, and no more than were asked for
write-most : (cells : List Cell) (n : ℕ) → write_run cells n ≤ n
write-most [] n = omega arith
write-most (c ∷ cells) n = (leading-within (writes_with c.kind) 0 (c ∷ cells) n).1

-- The turn of a loan on a ticket was one of the pass
module _ (m : MountView) (file : FileId) (at end : ℕ) (some : at < end) (within : end ≤ (file_at m file).blocks) (folds : at % 64 + (end - at) ≤ 64) (laid : IsLaidOut m) (waits : Bool) (slot : ℕ)
    (p p1 p2 : PassView) (t u : TicketView) (parts : List Part) (held kept : Option Held) (c d : ClaimsView) (answer : Result Lent LendRefused)
    (more : 1 < share_at p (stripe_at m file at)) (opened : Opened p (stripe_at m file at) p1 t)
    (lends : TurnsAt (λ opening history value next entry. LendsWriteback at (end - at) parts answer opening value (lent_claims p1 held) next (lent_claims p1 kept) entry) m t.stripe c d p1 p2)
    (same : u.stripe ≡ t.stripe) where
  home : t.stripe ≡ stripe_at m file at
  home = ap (λ (x : TicketView). x.stripe) opened.ticket_is

  first : p1.caller ≡ p.caller
  first = ap (λ (v : PassView). v.caller) opened.pass_is

  opens : Acts (Open u.stripe) p p1
  opens = subst (λ k. Acts (Open k) p p1) (sym home ∙ sym same) (opened-act opened more)

  at-stripe : IsStripeOf m file u.stripe
  at-stripe = (at, omega (arith, some, within), same ∙ home)

  -- the turn asks for the block behind the one that opened its ticket
  asks-at : (start : PassView) (before : List Act) (stripe : ℕ) → WasFound IsDueState m file at start before → (block most : ℕ) → LendWriteback at (end - at) ≡ LendWriteback block most → WasFound IsDueState m file block start (before ++ Open stripe ∷ [])
  asks-at start before stripe f block most e = (let same : at ≡ block = cc e in subst (λ b. WasFound IsDueState m file b start (before ++ Open stripe ∷ [])) same (found-left IsDueState m file at start before (Open stripe ∷ []) f))

  -- a run of them was lent, and goes with a bio
  lent-so : (others : List Entry) (number : ℕ) (b : Bio TicketView) → b.ticket.stripe ≡ u.stripe → b.slot ≡ slot → b.block ≡ at → 0 < length b.parts → length b.parts ≤ 16 → IsLent m file number b
      → Acts (Turn u.stripe others (entry_by p.caller (LendWriteback at (end - at)) (Lending number (length b.parts)))) p1 p2 → Tries m file waits slot at (at + length b.parts) p p2 (number ∷ []) (b ∷ []) None
  lent-so others number b stripe place block some' few' lent did =
      let own = entry_by p.caller (LendWriteback at (end - at)) (Lending number (length b.parts)) in
      record {
        lends = record {
          acts = Open u.stripe ∷ Turn u.stripe others own ∷ [];
          moves = moves-then m file p p1 p2 (Open u.stripe ∷ []) (Turn u.stripe others own ∷ []) (moves-open m file u.stripe p p1 at-stripe opens) (moves-turn m file u.stripe others own p1 p2 at-stripe did refl (sym first));
          out = λ k. (let e : one_where (b.ticket.stripe == k) ≡ one_where (u.stripe == k) = ap (λ s. one_where (s == k)) stripe in omega (arith, e));
          none_run = refl;
          loans = refl;
          none_back = refl;
          none_written = refl;
          none_failed = refl;
          forward = omega arith;
          ascending = (omega arith, tt);
          ends = omega arith;
          many = omega (arith, some');
          few = omega arith;
          short = omega (arith, few');
          lent = (lent, place, tt);
          met = λ x low high. inr (inl (0, b, refl, (omega (arith, block, low), omega (arith, block, high))));
          stops = tt;
          cause = tt;
        };
        turns = omega arith;
        sought = λ start before of acted f. (tt, (asks-at start before u.stripe f, tt));
        tried = λ none. omega arith;
      }

  pub lent-run : IsPassOf m p2 → (number : ℕ) (b : Bio TicketView) → b ≡ record { op = Write; slot = slot; block = b.block; parts = b.parts; ticket = u } → answer ≡ Ok (lent_of number b.block b.parts) → IfOk answer (λ (l : Lent). IsLoaned m file u l Writeback) → IsTicketOf p2 u
      → LentOne m file waits slot at end p p2 number b
  lent-run of number b bio_is is carried ticket =
      let loan : IsLoaned m file u (lent_of number b.block b.parts) Writeback = subst (λ a. IfOk a (λ (l : Lent). IsLoaned m file u l Writeback)) is carried in
      let turn : TurnsAt (λ opening history value next entry. LendsWriteback at (end - at) parts (Ok (lent_of number b.block b.parts)) opening value (lent_claims p1 held) next (lent_claims p1 kept) entry) m t.stripe c d p1 p2 =
      subst (λ a. TurnsAt (λ opening history value next entry. LendsWriteback at (end - at) parts a opening value (lent_claims p1 held) next (lent_claims p1 kept) entry) m t.stripe c d p1 p2) is lends in
      let value = turn.turned.value in
      let did = turn.turned.done in
      let run = did.run.within in
      let low : ℕ = at - value.first in
      let n = write_length value at (end - at) in
      let copies = copies-length low n value.cells run in
      let number_is : number ≡ value.tickets = ap (λ (l : Lent). l.ticket) did.lent_is in
      let block : b.block ≡ at = ap (λ (l : Lent). l.block) did.lent_is in
      let many : length b.parts ≡ n = ap (λ (l : Lent). length l.parts) did.lent_is ∙ length-parts_of low value.cells (map page_copy (take n (drop low value.cells))) (omega (arith, run, copies)) ∙ copies in
      let short = did.run.few in
      let most = write-most (cells_from value at) (lend_most value.geometry at (end - at)) in
      let stripe : b.ticket.stripe ≡ u.stripe = ap (λ (x : Bio TicketView). x.ticket.stripe) bio_is in
      let carries : CarriesLoan m file Writeback Write number b = record { loan = subst (λ v. IsLoaned m file v (lent_of number b.block b.parts) Writeback) (sym (ap (λ (x : Bio TicketView). x.ticket) bio_is)) loan; way = ap (λ (x : Bio TicketView). x.op) bio_is } in
      let own : turn.turned.entry ≡ entry_by p.caller (LendWriteback at (end - at)) (Lending number (length b.parts)) = did.entry_is ∙ (λ i. entry_by (first i) (LendWriteback at (end - at)) (Lending (sym number_is i) (sym many i))) in
      let acts : Acts (Turn u.stripe turn.turned.others (entry_by p.caller (LendWriteback at (end - at)) (Lending number (length b.parts)))) p1 p2 =
      subst (λ e. Acts (Turn u.stripe turn.turned.others e) p1 p2) own (subst (λ k. Acts (Turn k turn.turned.others turn.turned.entry) p1 p2) (sym same) (turned-act turn)) in
      record {
        tries = lent-so turn.turned.others number b stripe (ap (λ (x : Bio TicketView). x.slot) bio_is) block loan.ready.some (omega (arith, many, short)) (record { loan = carries; here = subst (IsStripeOf m file) (sym stripe) at-stripe; folds = omega (arith, folds, some, block, many, most) }) acts;
        within = omega (arith, many, most, some);
        ticket = subst (IsTicketOf p2) (sym (ap (λ (x : Bio TicketView). x.ticket) bio_is)) ticket;
      }

  -- the block was refused, and the walk goes on at another or ends
  module _ (q : PassView) (refused : LendRefused) (is : answer ≡ Err refused) (of : IsPassOf m p) (ticket : IsTicketOf p2 u) (closed : ClosedTicket p2 u q) where
    abbrev turn : TurnsAt (λ opening history value next entry. LendsWriteback at (end - at) parts (Err refused) opening value (lent_claims p1 held) next (lent_claims p1 kept) entry) m t.stripe c d p1 p2
    turn = subst (λ a. TurnsAt (λ opening history value next entry. LendsWriteback at (end - at) parts a opening value (lent_claims p1 held) next (lent_claims p1 kept) entry) m t.stripe c d p1 p2) is lends

    abbrev own : Entry
    own = entry_by p.caller (LendWriteback at (end - at)) (Refused refused.fault)

    own-is : turn.turned.entry ≡ own
    own-is = turn.turned.done.entry_is ∙ ap (λ n. entry_by n (LendWriteback at (end - at)) (Refused refused.fault)) first

    turned : Acts (Turn u.stripe turn.turned.others own) p1 p2
    turned = subst (λ e. Acts (Turn u.stripe turn.turned.others e) p1 p2) own-is (subst (λ k. Acts (Turn k turn.turned.others turn.turned.entry) p1 p2) (sym same) (turned-act turn))

    abbrev acts : List Act
    acts = Open u.stripe ∷ Turn u.stripe turn.turned.others own ∷ Close u.stripe ∷ []

    refused-so : (next : ℕ) (fault : Option Fault) → at ≤ next → asked_again waits at refused.fault ≤ next → ((b : ℕ) → at ≤ b → b < next → WasFound IsSettled m file b p acts ⊎ (HasOne (Carries b) [] ⊎ ((waits ≡ false) × WasFound IsAway m file b p acts)))
        → IfSome fault StopsWriteback → IfSome fault (IsCaused m (own ∷ [])) → Tries m file waits slot at next p q [] [] fault
    refused-so next fault forward behind met stops cause = record {
      lends = record {
        acts = acts;
        moves = moves-then m file p p1 q (Open u.stripe ∷ []) (Turn u.stripe turn.turned.others own ∷ Close u.stripe ∷ []) (moves-open m file u.stripe p p1 at-stripe opens)
            (moves-then m file p1 p2 q (Turn u.stripe turn.turned.others own ∷ []) (Close u.stripe ∷ []) (moves-turn m file u.stripe turn.turned.others own p1 p2 at-stripe turned refl (sym first)) (moves-close m file u.stripe p2 q at-stripe (closed-act ticket closed)));
        out = λ k. omega arith;
        none_run = refl;
        loans = refl;
        none_back = refl;
        none_written = refl;
        none_failed = refl;
        forward = forward;
        ascending = (omega arith, tt);
        ends = behind;
        many = omega arith;
        few = omega arith;
        short = omega arith;
        lent = tt;
        met = met;
        stops = stops;
        cause = cause;
      };
      turns = omega arith;
      sought = λ start before of acted f. (tt, (asks-at start before u.stripe f, (tt, tt)));
      tried = λ none. omega arith;
    }

    -- what the turn found of the block
    found : (So : BlockState → Type 0) → ((r : RangeView) (x : Cell) → slice_get r.cells (at - r.first) ≡ Some x → refused.fault ≡ unwrap_or (lend_writeback_refusal r at) refusal.NoMemory → So (state_of x)) → WasFound So m file at p acts
    found So tells =
        let value = turn.turned.value in
        let holds = turn.turned.stood.holds in
        let at-home : t.stripe ≡ stripe_at m file at = home in
        let lies = first-here m file at end some within folds laid turn.cell (ap (slice_get m.stripes) (sym home) ∙ turn.stand.cell_is) in
        let low = lies.low in
        let high = lies.high in
        let begins = holds.same_run.first in
        let long = holds.same_run.blocks in
        let x = there value.cells (at - value.first) (omega (arith, low, high, begins, long)) in
        let one : WasFound So m file at p1 (Turn t.stripe turn.turned.others turn.turned.entry ∷ []) = found-turn So m file at t.stripe c d p1 p2 turn x.0 home lies x.1 (tells value x.0 x.1 turn.turned.done.fault_is) in
        let two : WasFound So m file at p1 (Turn u.stripe turn.turned.others own ∷ []) = subst (λ e. WasFound So m file at p1 (Turn u.stripe turn.turned.others e ∷ [])) own-is (subst (λ k. WasFound So m file at p1 (Turn k turn.turned.others turn.turned.entry ∷ [])) (sym same) one) in
        found-right So m file at p p1 (Open u.stripe ∷ []) (Turn u.stripe turn.turned.others own ∷ Close u.stripe ∷ []) of (p1, opens, refl) (found-left So m file at p1 (Turn u.stripe turn.turned.others own ∷ []) (Close u.stripe ∷ []) two)

    only : (b : ℕ) → at ≤ b → b < at + 1 → at ≡ b
    only b low high = omega (arith, low, high)

    ended-so : (fault : EventFault) → refused.fault ≡ fault → asked_again waits at fault ≤ at → Tries m file waits slot at at p q [] [] (stopped_by fault)
    ended-so fault e again = refused-so at (stopped_by fault) (omega arith) (subst (λ x. asked_again waits at x ≤ at) (sym e) again) (λ b low high. absurd (omega (arith, low, high))) (stopped-stops fault)
        (stopped-caused m (own ∷ []) fault (0, own, refl, ap Refused e))

    away-so : (x ticket : ℕ) → refused.fault ≡ refusal.Away x ticket → (w : Bool) → waits ≡ w → Came m file waits slot at end p q (if w then Ended None else On (at + 1))
    away-so x ticket e true f = ended-so (refusal.Away x ticket) e (subst (λ w. asked_again w at (refusal.Away x ticket) ≤ at) (sym f) (omega arith))
    away-so x ticket e false f = record {
      tries = refused-so (at + 1) None (omega arith) (subst (λ y. asked_again waits at y ≤ at + 1) (sym e) (subst (λ w. asked_again w at (refusal.Away x ticket) ≤ at + 1) (sym f) (omega arith)))
          (λ b low high. inr (inr (f, subst (λ k. WasFound IsAway m file k p acts) (only b low high) (found IsAway (λ r y here told. away-found r at y here x ticket (sym e ∙ told)))))) tt tt;
      within = omega (arith, some);
    }

    came-so : (fault : EventFault) → refused.fault ≡ fault → Came m file waits slot at end p q (passed_at waits at fault)
    came-so (refusal.Settled x) e = record {
      tries = refused-so (at + 1) None (omega arith) (subst (λ y. asked_again waits at y ≤ at + 1) (sym e) (omega arith))
          (λ b low high. inl (subst (λ k. WasFound IsSettled m file k p acts) (only b low high) (found IsSettled (λ r y here told. settled-found r at y here x (sym e ∙ told))))) tt tt;
      within = omega (arith, some);
    }
    came-so (refusal.Away x ticket) e = away-so x ticket e waits refl
    came-so (refusal.Unattached x) e = ended-so (refusal.Unattached x) e (omega arith)
    came-so (refusal.Worn cookie) e = ended-so (refusal.Worn cookie) e (omega arith)
    came-so (refusal.Stale sample now) e = ended-so (refusal.Stale sample now) e (omega arith)
    came-so (refusal.Cold x) e = ended-so (refusal.Cold x) e (omega arith)
    came-so (refusal.Dirty x) e = ended-so (refusal.Dirty x) e (omega arith)
    came-so refusal.NoMemory e = ended-so refusal.NoMemory e (omega arith)
    came-so (refusal.NoSpace wanted found) e = ended-so (refusal.NoSpace wanted found) e (omega arith)
    came-so (refusal.Poison done) e = ended-so (refusal.Poison done) e (omega arith)

    pub refused-run : Came m file waits slot at end p q (passed_at waits at refused.fault)
    refused-run = came-so refused.fault refl
