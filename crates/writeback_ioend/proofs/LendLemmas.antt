-- Loans of a folio put one after another, and the turns that they are made of.
use Rattle.std.proofs.Common.{◌≡◌, ℕ, suc, ◌+◌, ◌<◌, ◌≤◌, inl, inr, Bool, true, false, List, [], ◌∷◌, ◌++◌, Some, None, Option, length, refl, sym, ap, ◌∙◌, subst, arith, append_assoc, append-nil, length-append}
use Rattle.std.specs.Prelude.{◌⊎◌, ◌==◌, IfSome, slice_get}
use Rattle.std.proofs.lemmas.Bool.{cases_lt}
use Rattle.iob_base.specs.declared.answer.Fault.{Fault}
use Rattle.iob_base.specs.declared.stamp.FileId.{FileId}
use Rattle.bio_pages.specs.declared.bio.Bio.{Bio}
use Rattle.turn_cell.specs.Views.{SeatView}
use Rattle.turn_cell.proofs.Sums.{total-append}
use Rattle.range_core.specs.EntryCounts.{one_where}
use Rattle.range_core.specs.declared.entry.Entry.{Entry}
use Rattle.range_core.specs.declared.fault.EventFault.{EventFault}
use Rattle.range_core.specs.declared.fault.EventFault.TheVariants as refusal
use Rattle.mount_parts.specs.MountView.{HasBlock, MountView, stripe_at}
use Rattle.mini_fs.specs.Acts.{Act, Acted, own_entries}
use Rattle.mini_fs.specs.Calls.{HasShares}
use Rattle.mini_fs.specs.PassView.{IsPassOf, PassView, share_at, share_in}
use Rattle.mini_fs.specs.TicketView.{TicketView}
use Rattle.mini_fs.specs.Tickets.{IsTicketOf, KeepsTickets}
use Rattle.mini_fs.proofs.ActLemmas.{acted-seat, acted-then}
use Rattle.mini_fs.proofs.CallLemmas.{closed-append, loans-append, opened-append, own_entries-append}
use Rattle.call_parts.specs.Causes.{HasOne, IsCaused, WasRefusedFor}
use Rattle.call_parts.specs.Steps.{dones_in}
use Rattle.call_parts.proofs.StepLemmas.{bios-append, dones-append, one-left, one-right}
use Rattle.writeback_ioend.specs.Folios.{AreLent, Carries, HaveTickets, Lends, LooksOn, OneTurn, Seeks, Sought, Tries, stopped_by, tickets_at}
use Rattle.writeback_ioend.specs.Walks.{asks_end}
use Rattle.writeback_ioend.specs.Writebacks.{AsksAscend, AsksFrom, IsAway, IsDueState, IsSettled, StopsWriteback, WasFound, all_written, first_failed, or_else}
use Rattle.writeback_ioend.proofs.AskLemmas.{asks-append}
use Rattle.writeback_ioend.proofs.Moves.{moves-none, moves-then}
use Rattle.writeback_ioend.proofs.WalkLemmas.{ascending-append, caused-later, ends-then, first-append, found-left, found-right, refused-append, turns-append, written-append}

-- what a refusal stops a walk for, it may, and it is its cause
pub stopped-stops : (fault : EventFault) → IfSome (stopped_by fault) StopsWriteback
stopped-stops (refusal.Away b ticket) = tt
stopped-stops (refusal.Settled b) = tt
stopped-stops (refusal.Unattached b) = tt
stopped-stops (refusal.Worn cookie) = tt
stopped-stops (refusal.Stale sample now) = tt
stopped-stops (refusal.Cold b) = tt
stopped-stops (refusal.Dirty b) = tt
stopped-stops refusal.NoMemory = tt
stopped-stops (refusal.NoSpace wanted found) = tt
stopped-stops (refusal.Poison done) = tt

pub stopped-caused : (m : MountView) (entries : List Entry) (fault : EventFault) → HasOne (WasRefusedFor fault) entries → IfSome (stopped_by fault) (IsCaused m entries)
stopped-caused m entries (refusal.Away b ticket) one = tt
stopped-caused m entries (refusal.Settled b) one = tt
stopped-caused m entries (refusal.Unattached b) one = tt
stopped-caused m entries (refusal.Worn cookie) one = one
stopped-caused m entries (refusal.Stale sample now) one = tt
stopped-caused m entries (refusal.Cold b) one = tt
stopped-caused m entries (refusal.Dirty b) one = tt
stopped-caused m entries refusal.NoMemory one = tt
stopped-caused m entries (refusal.NoSpace wanted found) one = tt
stopped-caused m entries (refusal.Poison done) one = tt

-- bios with loans put one after another
pub lent-append : (m : MountView) (file : FileId) (slot at : ℕ) (numbers more : List ℕ) (bios later : List (Bio TicketView)) → AreLent m file slot numbers bios → at ≡ slot + length bios → AreLent m file at more later → AreLent m file slot (numbers ++ more) (bios ++ later)
lent-append m file slot at [] more [] later first e is = subst (λ n. AreLent m file n more later) (let z : at ≡ slot = omega (arith, e) in z) is
lent-append m file slot at [] more (b ∷ bios) later first e is = absurd first
lent-append m file slot at (n ∷ numbers) more [] later first e is = absurd first
lent-append m file slot at (n ∷ numbers) more (b ∷ bios) later first e is = (first.0, first.1, lent-append m file (suc slot) at numbers more bios later first.2 (omega (arith, e)) is)

-- the tickets of some bios stay tickets of the pass, and one more bio has its ticket
pub tickets-kept : (p q : PassView) (bios : List (Bio TicketView)) → KeepsTickets p q → HaveTickets p bios → HaveTickets q bios
tickets-kept p q [] keeps have = tt
tickets-kept p q (b ∷ bios) keeps have = (keeps b.ticket have.0, tickets-kept p q bios keeps have.1)

pub tickets-more : (p : PassView) (bios : List (Bio TicketView)) (b : Bio TicketView) → HaveTickets p bios → IsTicketOf p b.ticket → HaveTickets p (bios ++ b ∷ [])
tickets-more p [] b have is = (is, tt)
tickets-more p (x ∷ bios) b have is = (have.0, tickets-more p bios b have.1 is)

-- no loan, and loans behind others that nothing stopped
module _ (m : MountView) (file : FileId) (waits : Bool) (slot : ℕ) where
  pub lends-none : (at : ℕ) (p : PassView) → Lends m file waits slot at at p p [] [] None
  lends-none at p = record {
    acts = [];
    moves = moves-none m file p;
    out = λ k. refl;
    none_run = refl;
    loans = refl;
    none_back = refl;
    none_written = refl;
    none_failed = refl;
    forward = omega arith;
    ascending = tt;
    ends = omega arith;
    many = omega arith;
    few = omega arith;
    short = omega arith;
    lent = tt;
    met = λ b low high. absurd (omega (arith, low, high));
    stops = tt;
    cause = tt;
  }

  unfoldable pub lends-then : (at mid next place : ℕ) (p q r : PassView) (numbers more : List ℕ) (bios later : List (Bio TicketView)) (fault : Option Fault) → IsPassOf m p → Lends m file waits slot at mid p q numbers bios None → place ≡ slot + length bios
      → Lends m file waits place mid next q r more later fault → Lends m file waits slot at next p r (numbers ++ more) (bios ++ later) fault
  lends-then at mid next place p q r numbers more bios later fault of one begins two =
      let entries : own_entries (one.acts ++ two.acts) ≡ own_entries one.acts ++ own_entries two.acts = own_entries-append one.acts two.acts in
      let low = one.forward in
      let high = two.forward in
      let end = ends-then waits at mid (own_entries one.acts) (own_entries two.acts) one.ends in
      let end' = two.ends in
      let count = length-append bios later in
      let many = one.many in
      let many' = two.many in
      let parts = total-append (λ (b : Bio TicketView). length b.parts) bios later in
      let few = one.few in
      let few' = two.few in
      let short = one.short in
      let short' = two.short in
      let ran = one.none_run in
      let ran' = two.none_run in
      let loans = one.loans in
      let loans' = two.loans in
      let written = one.none_written in
      let written' = two.none_written in
      record {
        acts = one.acts ++ two.acts;
        moves = moves-then m file p q r one.acts two.acts one.moves two.moves;
        out = λ k.
            let a = opened-append k one.acts two.acts in
            let b = closed-append k one.acts two.acts in
            let c = total-append (λ (x : Bio TicketView). one_where (x.ticket.stripe == k)) bios later in
            let d = one.out k in
            let e = two.out k in
            omega (arith, a, b, c, d, e);
        none_run = (let a = bios-append one.acts two.acts in omega (arith, a, ran, ran'));
        loans = (let a = loans-append one.acts two.acts in omega (arith, a, loans, loans', count));
        none_back = ap dones_in entries ∙ dones-append (own_entries one.acts) (own_entries two.acts) ∙ ap (λ l. l ++ dones_in (own_entries two.acts)) one.none_back ∙ two.none_back;
        none_written = ap all_written entries ∙ (let a = written-append (own_entries one.acts) (own_entries two.acts) in let z : all_written (own_entries one.acts ++ own_entries two.acts) ≡ 0 = omega (arith, a, written, written') in z);
        none_failed = ap first_failed entries ∙ first-append (own_entries one.acts) (own_entries two.acts) ∙ ap (λ o. or_else o (first_failed (own_entries two.acts))) one.none_failed ∙ two.none_failed;
        forward = omega (arith, low, high);
        ascending = subst (AsksAscend waits at) (sym entries) (ascending-append waits at mid (own_entries one.acts) (own_entries two.acts) one.ascending one.ends two.ascending);
        ends = subst (λ l. asks_end waits at l ≤ next) (sym entries) (omega (arith, end, end'));
        many = omega (arith, count, many, many', low, high);
        few = omega (arith, parts, few, few', low, high);
        short = omega (arith, parts, count, short, short');
        lent = lent-append m file slot place numbers more bios later one.lent begins two.lent;
        met = λ b from to. elim (cases_lt b mid) [
          | inl below ↦ met-first b (one.met b from below)
          | inr above ↦ met-later b (two.met b above to)
        ];
        stops = two.stops;
        cause = subst (λ l. IfSome fault (IsCaused m l)) (sym entries) (caused-later m (own_entries one.acts) (own_entries two.acts) fault two.cause);
      }
    where
      met-first : (b : ℕ) → WasFound IsSettled m file b p one.acts ⊎ (HasOne (Carries b) bios ⊎ ((waits ≡ false) × WasFound IsAway m file b p one.acts))
          → WasFound IsSettled m file b p (one.acts ++ two.acts) ⊎ (HasOne (Carries b) (bios ++ later) ⊎ ((waits ≡ false) × WasFound IsAway m file b p (one.acts ++ two.acts)))
      met-first b (inl f) = inl (found-left IsSettled m file b p one.acts two.acts f)
      met-first b (inr (inl x)) = inr (inl (one-left (Carries b) bios later x))
      met-first b (inr (inr f)) = inr (inr (f.0, found-left IsAway m file b p one.acts two.acts f.1))

      met-later : (b : ℕ) → WasFound IsSettled m file b q two.acts ⊎ (HasOne (Carries b) later ⊎ ((waits ≡ false) × WasFound IsAway m file b q two.acts))
          → WasFound IsSettled m file b p (one.acts ++ two.acts) ⊎ (HasOne (Carries b) (bios ++ later) ⊎ ((waits ≡ false) × WasFound IsAway m file b p (one.acts ++ two.acts)))
      met-later b (inl f) = inl (found-right IsSettled m file b p q one.acts two.acts of one.moves.acted f)
      met-later b (inr (inl x)) = inr (inl (one-right (Carries b) bios later x))
      met-later b (inr (inr f)) = inr (inr (f.0, found-right IsAway m file b p q one.acts two.acts of one.moves.acted f.1))

-- what lent nothing did so at whatever slot
slot-any : (m : MountView) (file : FileId) (waits : Bool) (slot other at next : ℕ) (p q : PassView) → Lends m file waits slot at next p q [] [] None → Lends m file waits other at next p q [] [] None
slot-any m file waits slot other at next p q l = record {
  acts = l.acts;
  moves = l.moves;
  out = l.out;
  none_run = l.none_run;
  loans = l.loans;
  none_back = l.none_back;
  none_written = l.none_written;
  none_failed = l.none_failed;
  forward = l.forward;
  ascending = l.ascending;
  ends = l.ends;
  many = l.many;
  few = l.few;
  short = l.short;
  lent = tt;
  met = l.met;
  stops = l.stops;
  cause = l.cause;
}

-- no turn
no-turn : (m : MountView) (file : FileId) (waits : Bool) (at : ℕ) (p : PassView) → OneTurn m file waits at at p p None
unfolding lends-none
no-turn m file waits at p = record { lends = lends-none m file waits 0 at p; turns = omega arith; sought = λ start before. tt }

-- at the end of its folio nothing is looked for
pub no-look : (m : MountView) (file : FileId) (waits : Bool) (at end : ℕ) (p : PassView) → at ≡ end → LooksOn m file waits at end end p p
no-look m file waits at end p same = record { one = subst (λ n. OneTurn m file waits at n p p None) same (no-turn m file waits at p); due = λ less. absurd (omega (arith, less)) }

-- a look that came to the end of its folio
pub looked-to : (m : MountView) (file : FileId) (waits : Bool) (at next end : ℕ) (p q : PassView) → next ≡ end → OneTurn m file waits at next p q None → LooksOn m file waits at end end p q
looked-to m file waits at next end p q same one = record { one = subst (λ n. OneTurn m file waits at n p q None) same one; due = λ less. absurd (omega (arith, less)) }

-- loans have numbers, one for each bio
pub numbered : (m : MountView) (file : FileId) (slot : ℕ) (numbers : List ℕ) (bios : List (Bio TicketView)) → AreLent m file slot numbers bios → length numbers ≡ length bios
numbered m file slot [] [] is = refl
numbered m file slot [] (b ∷ bios) is = absurd is
numbered m file slot (n ∷ numbers) [] is = absurd is
numbered m file slot (n ∷ numbers) (b ∷ bios) is = ap suc (numbered m file (suc slot) numbers bios is.2)

tickets-few : (k : ℕ) (bios : List (Bio TicketView)) → tickets_at k bios ≤ length bios
tickets-few k [] = omega arith
tickets-few k (b ∷ bios) = let rest = tickets-few k bios in at (b.ticket.stripe == k) rest
  where
    at : (t : Bool) → tickets_at k bios ≤ length bios → one_where t + tickets_at k bios ≤ suc (length bios)
    at true le = omega (arith, le)
    at false le = omega (arith, le)

-- The loans of a folio so far
module _ (m : MountView) (file : FileId) (waits : Bool) (from at : ℕ) (p q : PassView) (numbers : List ℕ) (bios : List (Bio TicketView)) (l : Lends m file waits 0 from at p q numbers bios None) where
  -- leave the pass a share for another ticket
  pub lends-share : HasShares m file 64 p → HasBlock m file at → at < from + 32 → 1 < share_at q (stripe_at m file at)
  lends-share shares has few = by (slice_get p.stripes s) refl
    where
      s : ℕ
      s = stripe_at m file at

      by : (o : Option (SeatView Entry)) → slice_get p.stripes s ≡ o → 1 < share_at q s
      by None e = (let low = shares at has in let none : share_at p s ≡ 0 = ap share_in e in absurd (omega (arith, low, none)))
      by (Some seat) e =
          let low = shares at has in
          let one : share_at p s ≡ seat.share = ap share_in e in
          let later = acted-seat s l.acts p q seat l.moves.acted e in
          let now : share_at q s ≡ later.0.share = ap share_in later.1 in
          let sum = later.2.share in
          let out = l.out s in
          let few' = tickets-few s bios in
          let many = l.many in
          omega (arith, low, one, now, sum, out, few', many, few)

module _ (m : MountView) (file : FileId) (waits : Bool) where
  -- at first nothing is lent
  pub seeks-first : (from end : ℕ) (p : PassView) (numbers : List ℕ) (bios : List (Bio TicketView)) → numbers ≡ [] → bios ≡ [] → Seeks m file waits from from end p p numbers bios
  unfolding lends-none
  seeks-first from end p numbers bios none empty =
      subst (λ l. Seeks m file waits from from end p p l bios) (sym none) (subst (λ l. Seeks m file waits from from end p p [] l) (sym empty) (record {
        lends = lends-none m file waits 0 from p;
        turns = omega arith;
        tried = λ less. absurd (omega (arith, less));
        sought = λ start before of acted f. tt;
        due = λ start before of acted f more. found-left IsDueState m file from start before [] f;
      }))

  -- what a try asks for, and the look behind it finds, behind what was sought before
  module _ (from at mid next place end : ℕ) (p q r s : PassView) (numbers more : List ℕ) (bios later : List (Bio TicketView)) (of : IsPassOf m p) (below : at < end)
      (one : Seeks m file waits from at end p q numbers bios) (two : Tries m file waits place at mid q r more later None) (look : LooksOn m file waits mid next end r s) where
    abbrev first : List Act
    first = one.lends.acts ++ two.lends.acts

    behind : (start : PassView) (before : List Act) → Acted before start p → Acted (before ++ first) start r
    behind start before acted = acted-then before first start p r acted (acted-then one.lends.acts two.lends.acts p q r one.lends.moves.acted two.lends.moves.acted)

    sought-more : AsksFrom m file from p (first ++ look.one.lends.acts)
    sought-more start before of' acted f =
        asks-append m file start before first look.one.lends.acts
        (asks-append m file start before one.lends.acts two.lends.acts (one.sought start before of' acted f)
        (two.sought start (before ++ one.lends.acts) of' (acted-then before one.lends.acts start p q acted one.lends.moves.acted) (one.due start before of' acted f below)))
        (look.one.sought start (before ++ first))

    due-more : (start : PassView) (before : List Act) → IsPassOf m start → Acted before start p → WasFound IsDueState m file from start before → next < end → WasFound IsDueState m file next start (before ++ (first ++ look.one.lends.acts))
    due-more start before of' acted f less =
        subst (WasFound IsDueState m file next start) (append_assoc before first look.one.lends.acts) (found-right IsDueState m file next start r (before ++ first) look.one.lends.acts of' (behind start before acted) (look.due less))

    -- then a try, and a look for the next block
    seeks-then : place ≡ length bios → Seeks m file waits from next end p s ((numbers ++ more) ++ []) ((bios ++ later) ++ [])
    unfolding lends-then slot-any
    seeks-then begins =
        let both = lends-then m file waits 0 from at mid place p q r numbers more bios later None of one.lends (omega (arith, begins)) two.lends in
        let lent = length-append bios later in
        let lent' = length-append (bios ++ later) [] in
        let count = turns-append one.lends.acts two.lends.acts in
        let count' = turns-append first look.one.lends.acts in
        let no = refused-append one.lends.acts two.lends.acts in
        let no' = refused-append first look.one.lends.acts in
        let turns = one.turns in
        let turns' = two.turns in
        let turns'' = look.one.turns in
        let tried = two.tried refl in
        record {
          lends = lends-then m file waits 0 from mid next (length (bios ++ later)) p r s (numbers ++ more) [] (bios ++ later) [] None of both (omega arith) (slot-any m file waits 0 (length (bios ++ later)) mid next r s look.one.lends);
          turns = omega (arith, lent, lent', count, count', no, no', turns, turns', turns'', tried);
          tried = λ less. omega (arith, lent, lent', no, no', tried);
          sought = sought-more;
          due = due-more;
        }

  pub seeks-on : (from at mid next place end : ℕ) (p q r s : PassView) (numbers : List ℕ) (bios : List (Bio TicketView)) → IsPassOf m p → at < end → Seeks m file waits from at end p q numbers bios → place ≡ length bios
      → Tries m file waits place at mid q r [] [] None → LooksOn m file waits mid next end r s → Seeks m file waits from next end p s numbers bios
  seeks-on from at mid next place end p q r s numbers bios of below one begins two look =
      let all = seeks-then from at mid next place end p q r s numbers [] bios [] of below one two look begins in
      subst (λ l. Seeks m file waits from next end p s l bios) (append-nil (numbers ++ []) ∙ append-nil numbers) (subst (λ l. Seeks m file waits from next end p s ((numbers ++ []) ++ []) l) (append-nil (bios ++ []) ∙ append-nil bios) all)

  pub seeks-run : (from at mid next place end number : ℕ) (p q r s : PassView) (numbers more : List ℕ) (bios later : List (Bio TicketView)) (b : Bio TicketView) → IsPassOf m p → at < end → Seeks m file waits from at end p q numbers bios → place ≡ length bios
      → Tries m file waits place at mid q r (number ∷ []) (b ∷ []) None → LooksOn m file waits mid next end r s → more ≡ numbers ++ number ∷ [] → later ≡ bios ++ b ∷ [] → Seeks m file waits from next end p s more later
  seeks-run from at mid next place end number p q r s numbers more bios later b of below one begins two look pushed sent =
      let all = seeks-then from at mid next place end p q r s numbers (number ∷ []) bios (b ∷ []) of below one two look begins in
      subst (λ l. Seeks m file waits from next end p s l later) (append-nil (numbers ++ number ∷ []) ∙ sym pushed) (subst (λ l. Seeks m file waits from next end p s ((numbers ++ number ∷ []) ++ []) l) (append-nil (bios ++ b ∷ []) ∙ sym sent) all)

  -- a folio that came to its end, or ended with a try
  pub seeks-all : (from next end : ℕ) (p q : PassView) (numbers : List ℕ) (bios : List (Bio TicketView)) → from < next → Seeks m file waits from next end p q numbers bios → Sought m file waits from next p q numbers bios None
  seeks-all from next end p q numbers bios some one = record { lends = one.lends; sought = one.sought; turns = one.turns; tried = λ none. one.tried some }

  pub seeks-ended : (from at place end : ℕ) (p q r : PassView) (numbers : List ℕ) (bios : List (Bio TicketView)) (fault : Option Fault) → IsPassOf m p → at < end → Seeks m file waits from at end p q numbers bios → place ≡ length bios
      → Tries m file waits place at at q r [] [] fault → Sought m file waits from at p r numbers bios fault
  unfolding lends-then
  seeks-ended from at place end p q r numbers bios fault of below one begins two =
      let lent = length-append bios [] in
      let count = turns-append one.lends.acts two.lends.acts in
      let no = refused-append one.lends.acts two.lends.acts in
      let turns = one.turns in
      let turns' = two.turns in
      let all : Sought m file waits from at p r (numbers ++ []) (bios ++ []) fault = record {
        lends = lends-then m file waits 0 from at at place p q r numbers [] bios [] fault of one.lends (omega (arith, begins)) two.lends;
        sought = λ start before of' acted f. asks-append m file start before one.lends.acts two.lends.acts (one.sought start before of' acted f)
            (two.sought start (before ++ one.lends.acts) of' (acted-then before one.lends.acts start p q acted one.lends.moves.acted) (one.due start before of' acted f below));
        turns = omega (arith, lent, count, no, turns, turns');
        tried = λ none. (let tried = two.tried none in omega (arith, lent, no, tried));
      } in
      subst (λ l. Sought m file waits from at p r l bios fault) (append-nil numbers) (subst (λ l. Sought m file waits from at p r (numbers ++ []) l fault) (append-nil bios) all)
