-- Folios whose dirty blocks went out and came back are parts of a walk.
use Rattle.std.proofs.Common.{◌≡◌, ℕ, ◌+◌, ◌-◌, ◌*◌, ◌<◌, ◌≤◌, inl, inr, min, Bool, false, List, [], ◌∷◌, ◌++◌, Some, None, Option, length, refl, sym, ap, ◌∙◌, subst, arith}
use Rattle.std.specs.Prelude.{◌⊎◌, ◌%◌, IfSome, slice_get}
use Rattle.iob_base.specs.declared.answer.Fault.{Fault}
use Rattle.iob_base.specs.declared.stamp.FileId.{FileId}
use Rattle.fault_device.specs.LaneView.{LaneView}
use Rattle.fault_device.specs.declared.lane.Done.{Done}
use Rattle.bio_pages.specs.declared.bio.Bio.{Bio}
use Rattle.turn_cell.specs.Views.{SeatView}
use Rattle.range_core.specs.declared.entry.Entry.{Entry}
use Rattle.mount_parts.specs.MountView.{MountView, stripe_at}
use Rattle.mini_fs.specs.Acts.{Act, Acted, bios_in, closed_in, made_in, opened_in, own_entries}
use Rattle.mini_fs.specs.Acts.Act.{Run}
use Rattle.mini_fs.specs.CallActs.{loans_in}
use Rattle.mini_fs.specs.Calls.{HasShares}
use Rattle.mini_fs.specs.PassView.{IsPassOf, PassView, share_at, share_in}
use Rattle.mini_fs.specs.TicketView.{TicketView}
use Rattle.mini_fs.specs.Tickets.{KeepsTickets}
use Rattle.mini_fs.proofs.ActLemmas.{acted-then}
use Rattle.mini_fs.proofs.CallEnds.{acted-shares}
use Rattle.mini_fs.proofs.CallLemmas.{closed-append, loans-append, opened-append, own_entries-append}
use Rattle.call_parts.specs.Causes.{HasOne, IsCaused}
use Rattle.call_parts.specs.Steps.{ServedBy, dones_in}
use Rattle.call_parts.proofs.StepLemmas.{bios-append, caused-left, dones-append, one-right, served-none}
use Rattle.writeback_ioend.specs.Folios.{Carries, Lends, OneTurn, Sends, Sought, tries_in}
use Rattle.writeback_ioend.specs.Walks.{Moves, Walks, WalksFolio, WalksOn, asks_end, nothing_written}
use Rattle.writeback_ioend.specs.Writebacks.{AsksAscend, AsksFrom, IsAway, IsDueState, IsMet, IsSettled, TookBack, WasFound, all_written, first_failed, last_turns, or_else}
use Rattle.writeback_ioend.specs.declared.walk.Written.{Written}
use Rattle.writeback_ioend.proofs.AskLemmas.{asks-append}
use Rattle.writeback_ioend.proofs.BackLemmas.{run-at, run-carried, run-carries, run-done, run-many}
use Rattle.writeback_ioend.proofs.LendLemmas.{lends-then}
use Rattle.writeback_ioend.proofs.Moves.{moves-placed, moves-run, moves-then}
use Rattle.writeback_ioend.proofs.SeenLemmas.{made_in-append}
use Rattle.writeback_ioend.proofs.WalkLemmas.{ascending-append, ends-append, first-append, found-left, found-right, refused-append, turns-append, walks-then, written-append}

caused-first : (m : MountView) (entries more : List Entry) (fault : Option Fault) → IfSome fault (IsCaused m entries) → IfSome fault (IsCaused m (entries ++ more))
caused-first m entries more None is = tt
caused-first m entries more (Some fault) is = caused-left m entries more fault is

none-one : {A : Type 0} (P : A → Type 0) → HasOne P [] → ⊥
none-one P (i, x, at, is) = cc

-- acts that closed each ticket that they opened leave the shares
pub shares-kept : (m : MountView) (file : FileId) (n : ℕ) (p q : PassView) (acts : List Act) → 0 < n → Acted acts p q → ((k : ℕ) → opened_in k acts ≡ closed_in k acts) → HasShares m file n p → HasShares m file n q
shares-kept m file n p q acts some acted closed shares b has = at (slice_get p.stripes k) refl
  where
    k : ℕ
    k = stripe_at m file b

    at : (o : Option (SeatView Entry)) → slice_get p.stripes k ≡ o → n ≤ share_at q k
    at None e = (let low = shares b has in let none : share_at p k ≡ 0 = ap share_in e in absurd (omega (arith, low, none, some)))
    at (Some seat) e = (let low = shares b has in let one : share_at p k ≡ seat.share = ap share_in e in let same = acted-shares acts p q acted closed k seat e in omega (arith, low, one, same))

module _ (m : MountView) (file : FileId) (waits : Bool) (slot at next : ℕ) (p q : PassView) (numbers : List ℕ) (fault : Option Fault) (l : Lends m file waits slot at next p q numbers [] fault) where
  -- where nothing was lent, each ticket was closed
  none-out : (k : ℕ) → opened_in k l.acts ≡ closed_in k l.acts
  none-out k = let e = l.out k in omega (arith, e)

  pub lends-shares : HasShares m file 64 p → HasShares m file 64 q
  lends-shares shares = shares-kept m file 64 p q l.acts (omega arith) l.moves.acted none-out shares

  -- it is a walk that wrote nothing
  pub lends-walk : (lane : LaneView) → IsPassOf m q → KeepsTickets p q → Walks m file waits at next lane lane p q (nothing_written fault)
  lends-walk lane of keeps =
      let ran = l.none_run in
      let loans = l.loans in
      record {
        acts = l.acts;
        steps = record {
          of = of;
          did = record { acted = l.moves.acted; at_file = l.moves.at_file; made = l.moves.made; closed = none-out };
          locks = l.moves.locks;
          sizes = l.moves.sizes;
          last = l.moves.last;
          callers = l.moves.callers;
          placed = moves-placed m file p q l.acts l.moves;
          run = omega (arith, ran, loans);
          lane = subst (ServedBy lane lane) (sym l.none_back) (served-none lane);
          tickets = keeps;
        };
        begun = l.moves.begun;
        forward = l.forward;
        ascending = l.ascending;
        ends = l.ends;
        blocks = sym l.none_written;
        few = omega arith;
        bios = sym l.loans;
        few_bios = omega arith;
        enough_bios = omega arith;
        returned = ap length l.none_back ∙ sym l.loans;
        failed = sym l.none_failed;
        met = λ b low high. none-met b (l.met b low high);
        stops = l.stops;
        cause = l.cause;
      }
    where
      none-met : (b : ℕ) → WasFound IsSettled m file b p l.acts ⊎ (HasOne (Carries b) [] ⊎ ((waits ≡ false) × WasFound IsAway m file b p l.acts)) → IsMet waits m file b p l.acts
      none-met b (inl f) = inl f
      none-met b (inr (inl one)) = absurd (none-one (Carries b) one)
      none-met b (inr (inr f)) = inr (inr f)

-- What was lent of a folio was run, and came back
module _ (m : MountView) (file : FileId) (waits : Bool) (at next : ℕ) (x y : LaneView) (p q r : PassView) (numbers : List ℕ) (bios : List (Bio TicketView)) (fault : Option Fault) (blocks : ℕ) (failed : Option Done)
    (l : Lends m file waits 0 at next p q numbers bios fault) (s : Sends m file x y q r bios blocks failed) where
  abbrev last : List Act
  last = s.returns.acts

  abbrev more : List Act
  more = Run (length bios) ∷ last

  moves : Moves m file p r (l.acts ++ more)
  moves = moves-then m file p q r l.acts more l.moves (moves-then m file q s.middle r (Run (length bios) ∷ []) last (moves-run m file (length bios) q s.middle s.ran) s.returns.moves)

  entries : own_entries (l.acts ++ more) ≡ own_entries l.acts ++ own_entries last
  entries = own_entries-append l.acts more

  all-closed : (k : ℕ) → opened_in k (l.acts ++ more) ≡ closed_in k (l.acts ++ more)
  all-closed k =
      let a = opened-append k l.acts more in
      let b = closed-append k l.acts more in
      let c = l.out k in
      let d = s.returns.none_opened k in
      let e = s.returns.closed k in
      let f = run-at k bios s.back s.dones s.run in
      omega (arith, a, b, c, d, e, f)

  all-run : bios_in (l.acts ++ more) ≡ loans_in (l.acts ++ more)
  all-run =
      let a = bios-append l.acts more in
      let b = loans-append l.acts more in
      let c = l.none_run in
      let d = s.returns.none_run in
      let e = l.loans in
      let f = s.returns.none_lent in
      omega (arith, a, b, c, d, e, f)

  all-dones : dones_in (own_entries (l.acts ++ more)) ≡ s.dones
  all-dones = ap dones_in entries ∙ dones-append (own_entries l.acts) (own_entries last) ∙ ap (λ z. z ++ dones_in (own_entries last)) l.none_back ∙ s.returns.dones_are

  all-met : (b : ℕ) → WasFound IsSettled m file b p l.acts ⊎ (HasOne (Carries b) bios ⊎ ((waits ≡ false) × WasFound IsAway m file b p l.acts)) → IsMet waits m file b p (l.acts ++ more)
  all-met b (inl f) = inl (found-left IsSettled m file b p l.acts more f)
  all-met b (inr (inl one)) = inr (inl (subst (HasOne (TookBack b)) (sym (made_in-append (stripe_at m file b) l.acts more)) (one-right (TookBack b) (made_in (stripe_at m file b) l.acts) (made_in (stripe_at m file b) last) (s.returns.back b (run-carries b bios s.back s.dones s.run one)))))
  all-met b (inr (inr f)) = inr (inr (f.0, found-left IsAway m file b p l.acts more f.1))

  pub folio-walk : IsPassOf m r → KeepsTickets p r → (count : ℕ) → count ≡ length bios → Walks m file waits at next x y p r (record { blocks = blocks; bios = count; failed = failed; fault = fault })
  folio-walk of keeps count count-is =
      let few = s.returns.few in
      let same = run-carried bios s.back s.dones s.run in
      let most = l.few in
      let short = l.short in
      let many = l.many in
      let none = l.none_written in
      let written = s.returns.written in
      let sum = written-append (own_entries l.acts) (own_entries last) in
      let loans = loans-append l.acts more in
      let lent = l.loans in
      let none' = s.returns.none_lent in
      let end = l.ends in
      let stay : asks_end waits at (own_entries l.acts ++ own_entries last) ≡ asks_end waits at (own_entries l.acts) = ends-append waits at (own_entries l.acts) (own_entries last) ∙ s.returns.ends waits (asks_end waits at (own_entries l.acts)) in
      record {
        acts = l.acts ++ more;
        steps = record {
          of = of;
          did = record { acted = moves.acted; at_file = moves.at_file; made = moves.made; closed = all-closed };
          locks = moves.locks;
          sizes = moves.sizes;
          last = moves.last;
          callers = moves.callers;
          placed = moves-placed m file p r (l.acts ++ more) moves;
          run = all-run;
          lane = subst (ServedBy x y) (sym all-dones) s.lane;
          tickets = keeps;
        };
        begun = moves.begun;
        forward = l.forward;
        ascending = subst (AsksAscend waits at) (sym entries) (ascending-append waits at next (own_entries l.acts) (own_entries last) l.ascending l.ends (s.returns.ascending waits next));
        ends = subst (λ z. asks_end waits at z ≤ next) (sym entries) (omega (arith, stay, end));
        blocks = (let e : blocks ≡ all_written (own_entries l.acts ++ own_entries last) = omega (arith, none, written, sum) in e) ∙ sym (ap all_written entries);
        few = omega (arith, few, same, most);
        bios = omega (arith, count-is, loans, lent, none');
        few_bios = omega (arith, count-is, many);
        enough_bios = omega (arith, few, same, short, count-is);
        returned = (let done = run-done bios s.back s.dones s.run in let e : length (dones_in (own_entries (l.acts ++ more))) ≡ length s.dones = ap length all-dones in omega (arith, done, e, loans, lent, none'));
        failed = s.returns.failed_is ∙ sym (ap first_failed entries ∙ first-append (own_entries l.acts) (own_entries last) ∙ ap (λ o. or_else o (first_failed (own_entries last))) l.none_failed);
        met = λ b low high. all-met b (l.met b low high);
        stops = l.stops;
        cause = subst (λ z. IfSome fault (IsCaused m z)) (sym entries) (caused-first m (own_entries l.acts) (own_entries last) fault l.cause);
      }

-- a folio that something stopped before a loan
pub folio-stopped : (m : MountView) (file : FileId) (waits : Bool) (at : ℕ) (lane : LaneView) (p q : PassView) (fault : Fault) → IsPassOf m q → KeepsTickets p q → OneTurn m file waits at at p q (Some fault) → WalksFolio m file waits at at lane lane p q (nothing_written (Some fault))
unfolding lends-walk
folio-stopped m file waits at lane p q fault of keeps one =
    let turns = one.turns in
    record { walks = lends-walk m file waits 0 at at p q [] (Some fault) one.lends lane of keeps; turns = omega (arith, turns); sought = λ start before of' acted f. one.sought start before }

-- a folio that was written
module _ (m : MountView) (file : FileId) (waits : Bool) (at next : ℕ) (x y : LaneView) (p o q r : PassView) (numbers : List ℕ) (bios : List (Bio TicketView)) (fault : Option Fault) (blocks : ℕ) (failed : Option Done)
    (of : IsPassOf m p) (space : OneTurn m file waits at at p o None) (l : Sought m file waits at next o q numbers bios fault) (s : Sends m file x y q r bios blocks failed) where
  abbrev both : Lends m file waits 0 at next p q numbers bios fault
  both = lends-then m file waits 0 at at next 0 p o q [] numbers [] bios fault of space.lends (omega arith) l.lends

  -- two turns more are few where one was lent or refused, or where something stopped the walk
  two-more : (o : Option Fault) (tries : ℕ) → (o ≡ None → 0 < tries) → 2 ≤ 2 * tries + last_turns o
  two-more None tries some = let t = some refl in omega (arith, t)
  two-more (Some f) tries some = omega arith

  folio-sought : AsksFrom m file at p ((space.lends.acts ++ l.lends.acts) ++ Run (length bios) ∷ s.returns.acts)
  folio-sought start before of' acted f =
      let first = space.lends.acts ++ l.lends.acts in
      asks-append m file start before first (Run (length bios) ∷ s.returns.acts)
      (asks-append m file start before space.lends.acts l.lends.acts (space.sought start before)
      (l.sought start (before ++ space.lends.acts) of' (acted-then before space.lends.acts start p o acted space.lends.moves.acted) (found-left IsDueState m file at start before space.lends.acts f)))
      (tt, s.returns.none_sought start ((before ++ first) ++ Run (length bios) ∷ []))

  pub folio-walked : IsPassOf m r → KeepsTickets p r → (count : ℕ) → count ≡ length bios → WalksFolio m file waits at next x y p r (record { blocks = blocks; bios = count; failed = failed; fault = fault })
  unfolding folio-walk lends-then
  folio-walked of' keeps count count-is =
      let back = s.returns.acts in
      let turns = space.turns in
      let turns' = l.turns in
      let turns'' = s.returns.turns in
      let many = run-many bios s.back s.dones s.run in
      let sum = turns-append space.lends.acts l.lends.acts in
      let sum' = turns-append (space.lends.acts ++ l.lends.acts) (Run (length bios) ∷ back) in
      let no = refused-append space.lends.acts l.lends.acts in
      let no' = refused-append (space.lends.acts ++ l.lends.acts) (Run (length bios) ∷ back) in
      let more = two-more fault (tries_in bios l.lends.acts) l.tried in
      record {
        walks = folio-walk m file waits at next x y p q r numbers bios fault blocks failed both s of' keeps count count-is;
        turns = omega (arith, count-is, turns, turns', turns'', many, sum, sum', no, no', more);
        sought = folio-sought;
      }

-- a look that found nothing up to the end of a stripe or of the walk
pub looked-through : (m : MountView) (file : FileId) (waits : Bool) (to at most : ℕ) (lane : LaneView) (p q : PassView) → IsPassOf m q → KeepsTickets p q → OneTurn m file waits at (at + most) p q None → at < to → most ≡ min (64 - at % 64) (to - at) → WalksOn m file waits to at (at + most) lane lane p q (nothing_written None)
unfolding lends-walk
looked-through m file waits to at most lane p q of keeps look some most-is =
    let turns = look.turns in
    record { walks = lends-walk m file waits 0 at (at + most) p q [] None look.lends lane of keeps; turns = omega (arith, turns, some, most-is); sought = λ start before of' acted. look.sought start before }

-- a folio behind the look that found its first block
pub folio-behind : (m : MountView) (file : FileId) (waits : Bool) (to at mid next : ℕ) (x y : LaneView) (p q r : PassView) (written : Written) → IsPassOf m p → IsPassOf m q → KeepsTickets p q → (look : OneTurn m file waits at mid p q None) → WasFound IsDueState m file mid p look.lends.acts → WalksFolio m file waits mid next x y q r written → WalksOn m file waits to at next x y p r written
unfolding lends-walk walks-then
folio-behind m file waits to at mid next x y p q r written of of' keeps look due w =
    let turns = look.turns in
    let turns' = w.turns in
    let low = look.lends.forward in
    let high = w.walks.forward in
    let sum = turns-append look.lends.acts w.walks.acts in
    let no = refused-append look.lends.acts w.walks.acts in
    record {
      walks = walks-then m file waits at mid next x x y p q r (nothing_written None) written written of (lends-walk m file waits 0 at mid p q [] None look.lends x of' keeps) w.walks (omega arith) (omega arith) refl refl;
      turns = omega (arith, turns, turns', low, high, sum, no);
      sought = λ start before begun acted. asks-append m file start before look.lends.acts w.walks.acts (look.sought start before)
          (w.sought start (before ++ look.lends.acts) begun (acted-then before look.lends.acts start p q acted look.lends.moves.acted) (found-right IsDueState m file mid start p before look.lends.acts begun acted due));
    }
