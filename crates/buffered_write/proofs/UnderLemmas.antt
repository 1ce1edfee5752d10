-- Bytes that lie in the extent of a sample, and a pass that goes on over a file.
use Rattle.std.proofs.Common.{◌≡◌, ℕ, zero, suc, ◌+◌, ◌-◌, ◌*◌, ◌<◌, ◌≤◌, ◌∷◌, [], List, false, Some, None, refl, sym, ap, ◌∙◌, subst, arith, append-nil, le-div_iff_mul-le, div-lt_iff_lt-mul}
use Rattle.std.specs.Prelude.{◌/◌, Bool, IsSomeAnd, IsTrue, Option, slice_get}
use Rattle.std.proofs.lemmas.List.Elements.{All-cons, All-nil}
use Rattle.iob_base.specs.declared.stamp.FileId.{FileId}
use Rattle.iob_base.specs.declared.stamp.Mode.TheVariants.{Cached, Dax}
use Rattle.iob_base.specs.declared.stamp.Tag.{Tag}
use Rattle.inode_lock.specs.Calls.{IsWon}
use Rattle.inode_lock.specs.declared.word.Class.TheVariants.{Exclusive}
use Rattle.fault_device.specs.LaneView.{LaneView}
use Rattle.turn_cell.specs.Views.{CellView, SeatView}
use Rattle.range_core.specs.ByteRuns.{IsInFolio}
use Rattle.range_core.specs.DaxGets.{IsThrough}
use Rattle.range_core.specs.EntryCounts.{has_lent, one_where}
use Rattle.range_core.specs.EntryStamps.{stamps_met, stamps_of}
use Rattle.range_core.specs.KnownSamples.{WasGiven}
use Rattle.range_core.specs.RangeView.{LiesAt, RangeView}
use Rattle.range_core.specs.Spots.{blocks_met}
use Rattle.range_core.specs.Stamps.{done_by}
use Rattle.range_core.specs.Stores.{LieInExtent}
use Rattle.range_core.specs.declared.entry.Entry.{Entry}
use Rattle.range_core.specs.declared.entry.Event.{Event}
use Rattle.range_core.specs.declared.entry.Outcome.{Outcome}
use Rattle.range_core.specs.declared.sample.Sample.{Sample}
use Rattle.range_core.proofs.SampleLemmas.{given_later}
use Rattle.mount_parts.specs.MountView.{HasBlock, IsLaidOut, MountView, file_at, stripe_at}
use Rattle.mini_fs.specs.Acts.{Act, Acted, Acts, seen_in}
use Rattle.mini_fs.specs.Acts.Act.{Turn}
use Rattle.mini_fs.specs.CallActs.{IsActAt, IsStripeOf}
use Rattle.mini_fs.specs.Calls.{HasShares, KeepsShares, MayCall}
use Rattle.mini_fs.specs.Holds.{HoldView, TakesOut}
use Rattle.mini_fs.specs.CallActs.{tag_of, with_call}
use Rattle.mini_fs.specs.Mappings.{IsGivenAt}
use Rattle.mini_fs.specs.PageTurns.{entry_by}
use Rattle.mini_fs.specs.PassView.{IsPassOf, PassView, share_at, share_in}
use Rattle.mini_fs.specs.Tickets.{KeepsTickets}
use Rattle.mini_fs.specs.Turns.{block_at}
use Rattle.mini_fs.proofs.ActLemmas.{acted-seat}
use Rattle.mini_fs.proofs.CallEnds.{acted-caller, acted-shares}
use Rattle.mini_fs.proofs.Layouts.{stripe-sizes}
use Rattle.mini_fs.proofs.Ready.{run-lies, stripe-here}
use Rattle.call_parts.specs.Steps.{IsPlaced, ServedBy, Steps, done_of}
use Rattle.call_parts.proofs.PartLemmas.{div-mono}
use Rattle.call_parts.proofs.PlacedLemmas.{run-placed}
use Rattle.call_parts.proofs.StepLemmas.{served-none}
use Rattle.buffered_write.specs.Lays.{CanLay, GoesAt, GoesOn, IsDry, LieUnder}

-- acts that close their tickets keep enough of a share
shares-on : (m : MountView) (file : FileId) (least : ℕ) (p q : PassView) (acts : List Act) → Acted acts p q → KeepsShares p q → HasShares m file least p → HasShares m file least q
shares-on m file least p q acts did kept shares b has = at (slice_get p.stripes (stripe_at m file b)) refl (shares b has)
  where
    at : (o : Option (SeatView Entry)) → slice_get p.stripes (stripe_at m file b) ≡ o → least ≤ share_at p (stripe_at m file b) → least ≤ share_at q (stripe_at m file b)
    at None e enough = (let z : share_at p (stripe_at m file b) ≡ 0 = ap share_in e in omega (arith, z, enough))
    at (Some seat) e enough = (let z : share_at p (stripe_at m file b) ≡ seat.share = ap share_in e in let k = kept (stripe_at m file b) seat e in omega (arith, z, k, enough))

module _ (m : MountView) (file : FileId) (by : Tag) where
  -- a pass that goes on over a file goes on after a step
  pub goes-at : (may : Event → Bool) (a b : LaneView) (p q : PassView) (acts : List Act) → Steps m file may a b p q acts → GoesAt m file by p → GoesAt m file by q
  goes-at may a b p q acts steps goes = record {
    of = steps.of;
    caller = goes.caller ∙ sym (acted-caller acts p q steps.did.acted);
    exists = goes.exists;
    shares = shares-on m file 2 p q acts steps.did.acted (acted-shares acts p q steps.did.acted steps.did.closed) goes.shares;
  }

  -- through the cache of a file it goes on where the file has one
  pub at-of : (p : PassView) → GoesOn m file by p → GoesAt m file by p
  at-of p goes = record { of = goes.of; caller = goes.caller; exists = goes.exists; shares = goes.shares }

  pub on-of : (p : PassView) → (file_at m file).mode ≡ Cached → GoesAt m file by p → GoesOn m file by p
  on-of p cached goes = record { of = goes.of; caller = goes.caller; exists = goes.exists; cached = cached; shares = goes.shares }

  -- it goes on once it took the class, and once its call is numbered
  pub taken-at : (p q : PassView) (h : HoldView) → TakesOut (IsWon Exclusive) p file q h → IsPassOf m q → GoesAt m file by p → GoesAt m file by q
  taken-at p q h t of goes = record {
    of = of;
    caller = goes.caller ∙ sym (ap (λ (v : PassView). v.caller) t.pass_is);
    exists = goes.exists;
    shares = subst (λ (v : PassView). HasShares m file 2 v) (sym t.pass_is) goes.shares;
  }

  pub called-at : (call : ℕ) (p start : PassView) → MayCall m file call p → start ≡ with_call p call → by ≡ tag_of p call → GoesAt m file by start
  called-at call p start may start_is by_is = subst (GoesAt m file by) (sym start_is) (record {
    of = record { stripes = may.of.stripes; sizes = may.of.sizes; locks = may.of.locks; queue = may.of.queue };
    caller = ap (λ (t : Tag). t.caller) by_is;
    exists = may.exists;
    shares = λ b has. (let s = may.shares b has in omega (arith, s));
  })

-- a file with a page cache is none whose bytes lie in their sectors alone
pub cached-dry : (m : MountView) (file : FileId) (acts : List Act) → (file_at m file).mode ≡ Cached → IsDry m file acts
cached-dry m file acts cached dax = absurd (apart (sym cached ∙ dax))
  where
    apart : Cached ≡ Dax → ⊥
    apart e = cc

-- a sample once given stays given
pub given-after : (p q : PassView) (acts : List Act) (k : ℕ) (sample : Sample) → Acted acts p q → IsGivenAt p k sample → IsGivenAt q k sample
given-after p q acts k sample did given = at (slice_get p.stripes k) refl given
  where
    P : SeatView Entry → Type 0
    P = λ (seat : SeatView Entry). WasGiven sample seat.seen

    at : (o : Option (SeatView Entry)) → slice_get p.stripes k ≡ o → IsSomeAnd o P → IsGivenAt q k sample
    at None e given = absurd given
    at (Some seat) e given =
        let h = acted-seat k acts p q seat did e in
        subst (λ o. IsSomeAnd o P) (sym h.1) (given_later sample seat.seen h.0.seen (seen_in k acts, sym h.2.seen) given)

-- the blocks of bytes that lie in an extent
pub extent-in : (size from to block n : ℕ) → 0 < size → block * size ≤ from → from < to → to ≤ (block + n) * size → (block ≤ from / size) × (from / size ≤ (to - 1) / size) × ((to - 1) / size < block + n)
extent-in size from to block n some low less high =
    let one : block ≤ from / size = grind (arith, le-div_iff_mul-le) in
    let two : from / size ≤ (to - 1) / size = div-mono from (to - 1) size some (omega (arith, less)) in
    let below : to - 1 < (block + n) * size = omega (arith, less, high) in
    let three : (to - 1) / size < block + n = grind (arith, div-lt_iff_lt-mul) in
    (one, two, three)

module _ (m : MountView) (file : FileId) (seen : Sample) where
  -- bytes that may be laid lie under their sample
  pub under-of : (from to : ℕ) (p : PassView) → CanLay m file seen from to p → LieUnder m file seen from to p
  under-of from to p can = record { some = can.some; low = can.low; high = can.high; lies = can.lies; given = can.given }

  -- they lie there after acts of the pass
  pub under-after : (from to : ℕ) (p q : PassView) (acts : List Act) → Acted acts p q → LieUnder m file seen from to p → LieUnder m file seen from to q
  under-after from to p q acts did under = record {
    some = under.some;
    low = under.low;
    high = under.high;
    lies = under.lies;
    given = given-after p q acts (stripe_at m file seen.extent.block) seen did under.given;
  }

module _ (m : MountView) (file : FileId) (seen : Sample) (from to : ℕ) (p : PassView) (under : LieUnder m file seen from to p) where
  -- where bytes lie, a block has some
  pub under-some : 0 < m.geometry.block_size
  under-some = at m.geometry.block_size (seen.extent.block + seen.extent.length) under.some under.high
    where
      at : (size n : ℕ) → from < to → to ≤ n * size → 0 < size
      at zero n less high = absurd (omega (arith, less, high))
      at (suc size) n less high = omega arith

  in-extent : (seen.extent.block ≤ from / m.geometry.block_size) × (from / m.geometry.block_size ≤ (to - 1) / m.geometry.block_size) × ((to - 1) / m.geometry.block_size < seen.extent.block + seen.extent.length)
  in-extent = extent-in m.geometry.block_size from to seen.extent.block seen.extent.length under-some under.low under.some under.high

  -- the blocks met are blocks of the file
  pub met-under : (k : ℕ) → k < from / m.geometry.block_size + blocks_met m.geometry.block_size from to → HasBlock m file k
  met-under k below =
      let e = in-extent in
      let mid = e.1 in
      let high = e.2 in
      let within = under.lies.within in
      omega (arith, below, mid, high, within)

  pub under-block : HasBlock m file (block_at m from)
  under-block = (let e = in-extent in let mid = e.1 in met-under (from / m.geometry.block_size) (omega (arith, mid)))

  -- the sample's block and the first byte's lie in one stripe
  same-stripe : stripe_at m file (block_at m from) ≡ stripe_at m file seen.extent.block
  same-stripe =
      let e = in-extent in
      let stripe = under.lies.stripe in
      let low = e.0 in
      let mid = e.1 in
      let high = e.2 in
      let same : from / m.geometry.block_size / 64 ≡ seen.extent.block / 64 = omega (arith, stripe, low, mid, high) in
      ap (λ n. (file_at m file).stripe + n) same

  -- an entry there that stamped the blocks met left its stamps where it stands
  pub met-placed : (by : Tag) (others : List Entry) (own : Entry) → stamps_of m.geometry.block_size own ≡ stamps_met m.geometry.block_size by from to → IsPlaced m file (Turn (stripe_at m file (block_at m from)) others own)
  met-placed by others own is =
      let e = in-extent in
      let stripe = under.lies.stripe in
      let low = e.0 in
      let mid = e.1 in
      let high = e.2 in
      run-placed m file (from / m.geometry.block_size) (blocks_met m.geometry.block_size from to) (done_by by) others own (omega (arith, low, mid, high, stripe)) is

  -- the pass was given the sample at the stripe of the first byte
  pub given-here : (seat : SeatView Entry) → slice_get p.stripes (stripe_at m file (block_at m from)) ≡ Some seat → WasGiven seen seat.seen
  given-here seat here =
      let P : SeatView Entry → Type 0 = λ s. WasGiven seen s.seen in
      subst (λ o. IsSomeAnd o P) (ap (slice_get p.stripes) (sym same-stripe) ∙ here) under.given

  -- and is in the range of that stripe
  module _ (laid : IsLaidOut m) (cell : CellView RangeView) (here : slice_get m.stripes (stripe_at m file (block_at m from)) ≡ Some cell) where
    sizes : m.geometry ≡ cell.opening.geometry
    sizes = sym (stripe-sizes m (stripe_at m file (block_at m from)) cell laid here)

    mode-is : cell.opening.mode ≡ (file_at m file).mode
    mode-is = (stripe-here m file laid (block_at m from) cell under-block here).mode

    lies-here : LiesAt cell.opening (from / cell.opening.geometry.block_size) (blocks_met cell.opening.geometry.block_size from to)
    lies-here =
        let size = m.geometry.block_size in
        let e = in-extent in
        let low = e.0 in
        let mid = e.1 in
        let high = e.2 in
        let within = under.lies.within in
        let stripe = under.lies.stripe in
        subst (λ g. LiesAt cell.opening (from / g.block_size) (blocks_met g.block_size from to)) sizes
        (run-lies m file laid (from / size) (blocks_met size from to) (omega (arith, mid)) (omega (arith, mid, high, within)) (omega (arith, low, mid, high, stripe)) cell here)

    pub extent-here : LieInExtent cell.opening from to seen.extent
    extent-here =
        let e = in-extent in
        let low = e.0 in
        let mid = e.1 in
        let high = e.2 in
        record {
          low = subst (λ g. seen.extent.block ≤ from / g.block_size) sizes low;
          high = subst (λ g. from / g.block_size + blocks_met g.block_size from to ≤ seen.extent.block + seen.extent.length) sizes (omega (arith, mid, high));
        }

    -- a part in one folio of a cached file, and a part of a file without a cache
    pub folio-here : (file_at m file).mode ≡ Cached → from / m.geometry.block_size / m.geometry.folio_blocks ≡ (to - 1) / m.geometry.block_size / m.geometry.folio_blocks → IsInFolio cell.opening from to
    folio-here cached folio = record {
      cached = mode-is ∙ cached;
      some = under.some;
      blocks = lies-here;
      folio = subst (λ g. from / g.block_size / g.folio_blocks ≡ (to - 1) / g.block_size / g.folio_blocks) sizes folio;
    }

    pub through-here : (file_at m file).mode ≡ Dax → IsThrough cell.opening seen from to
    through-here dax = record { dax = mode-is ∙ dax; some = under.some; lies = lies-here; extent = extent-here }

-- one turn of an event that lends nothing is a step, with what it tells of a transfer
pub served-turn : (m : MountView) (file : FileId) (may : Event → Bool) (p q : PassView) (stripe : ℕ) (others : List Entry) (e : Event) (o : Outcome) (a b : LaneView) → Acts (Turn stripe others (entry_by p.caller e o)) p q → IsStripeOf m file stripe
    → IsTrue (may e) → has_lent o ≡ false → IsPlaced m file (Turn stripe others (entry_by p.caller e o)) → IsPassOf m q → KeepsTickets p q → ServedBy a b (done_of e o) → Steps m file may a b p q (Turn stripe others (entry_by p.caller e o) ∷ [])
served-turn m file may p q stripe others e o a b did here made home placed of tickets served =
    let act : Act = Turn stripe others (entry_by p.caller e o) in
    let own : Entry = entry_by p.caller e o in
    record {
      of = of;
      did = record {
        acted = (q, did, refl);
        at_file = All-cons (IsActAt m file) act [] here (All-nil (IsActAt m file));
        made = All-cons (λ (x : Entry). IsTrue (may x.event)) own [] made (All-nil (λ (x : Entry). IsTrue (may x.event)));
        closed = λ stripe. refl;
      };
      locks = refl;
      sizes = refl;
      last = ap (λ (v : PassView). v.last) did.pass_is;
      callers = All-cons (λ (x : Entry). x.caller ≡ p.caller) own [] refl (All-nil (λ (x : Entry). x.caller ≡ p.caller));
      placed = All-cons (IsPlaced m file) act [] placed (All-nil (IsPlaced m file));
      run = sym (ap (λ t. one_where t + 0) home);
      lane = subst (ServedBy a b) (sym (append-nil (done_of e o))) served;
      tickets = tickets;
    }

-- and of one that tells of none, on any lane
pub one-turn : (m : MountView) (file : FileId) (may : Event → Bool) (p q : PassView) (stripe : ℕ) (others : List Entry) (e : Event) (o : Outcome) → Acts (Turn stripe others (entry_by p.caller e o)) p q → IsStripeOf m file stripe
    → IsTrue (may e) → done_of e o ≡ [] → has_lent o ≡ false → IsPlaced m file (Turn stripe others (entry_by p.caller e o)) → IsPassOf m q → KeepsTickets p q → (lane : LaneView) → Steps m file may lane lane p q (Turn stripe others (entry_by p.caller e o) ∷ [])
one-turn m file may p q stripe others e o did here made none home placed of tickets lane = served-turn m file may p q stripe others e o lane lane did here made home placed of tickets (subst (ServedBy lane lane) (sym none) (served-none lane))
