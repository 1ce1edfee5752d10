-- A block goes out on a ticket and comes back, and the pass has its share again.
use Rattle.std.proofs.Common.{◌≡◌, ℕ, zero, suc, ◌+◌, ◌-◌, ◌<◌, ◌≤◌, List, [], ◌∷◌, length, map, set, Some, None, Option, refl, sym, ap, ◌∙◌, subst, arith}
use mathlib.Core.Option.{some}
use lib.ListN.{get_elem?}
use Rattle.std.specs.Prelude.{All, slice_get, slice_index_or}
use Rattle.iob_base.specs.declared.stamp.FileId.{FileId}
use Rattle.iob_base.specs.declared.stamp.Op.TheVariants.{Write}
use Rattle.bio_pages.specs.Lists.{AreRun, CanSend}
use Rattle.bio_pages.specs.Running.{IsRun}
use Rattle.bio_pages.specs.declared.bio.Bio.{Bio}
use Rattle.fault_device.specs.Transfer.{CanTransfer}
use Rattle.fault_device.specs.declared.lane.Done.{Done}
use Rattle.turn_cell.specs.Views.{CellView, SeatView, kept_part}
use Rattle.range_core.specs.LendWritebacks.{MayWrite}
use Rattle.range_core.specs.Lends.{lent_of}
use Rattle.range_core.specs.RangeView.{RangeView}
use Rattle.range_core.specs.declared.entry.Entry.{Entry}
use Rattle.range_core.specs.declared.lending.Held.{Held}
use Rattle.range_core.specs.declared.lending.Lender.TheVariants.{Writeback}
use Rattle.range_core.specs.declared.lending.Lent.{Lent}
use Rattle.mount_parts.specs.MountView.{HasBlock, IsLaidOut, MountView, file_at, stripe_at}
use Rattle.mount_parts.proofs.Places.{all-at, map-there, same-length, set-same, there}
use Rattle.mini_fs.specs.Loans.{CarriesLoan, IsLoaned}
use Rattle.mini_fs.specs.PassView.{IsPassOf, PassView, share_at, share_in, with_bios}
use Rattle.mini_fs.specs.BioSeats.{BioSeatsView}
use Rattle.mini_fs.specs.TicketView.{TicketView}
use Rattle.mini_fs.specs.Tickets.{ClosedTicket, IsTicketOf, Opened, lent_claims, with_share}
use Rattle.mini_fs.specs.Turns.{ReadyAt}
use Rattle.mini_fs.proofs.Layouts.{stripe-within}
use Rattle.mini_fs.proofs.Ready.{run-lies}
use Rattle.worked_mounts.specs.Alone.{IsAlone, only_file, share_of}
use Rattle.worked_mounts.specs.Shares.{size_shares, stripe_share}
use Rattle.worked_mounts.proofs.Going.{Goes}

-- a list with another number in a place, seen
map-set : {A B : Type 0} (f : A → B) (xs : List A) (k : ℕ) (y : A) → map f (set xs k y) ≡ set (map f xs) k (f y)
map-set f [] k y = refl
map-set f (x ∷ xs) zero y = refl
map-set f (x ∷ xs) (suc k) y = ap (λ l. f x ∷ l) (map-set f xs k y)

set-back : {A : Type 0} (xs : List A) (k : ℕ) (x y : A) → slice_get xs k ≡ Some y → set (set xs k x) k y ≡ xs
set-back [] k x y at = refl
set-back (z ∷ xs) zero x y at = let e : z ≡ y = cc in ap (λ w. w ∷ xs) (sym e)
set-back (z ∷ xs) (suc k) x y at = ap (λ l. z ∷ l) (set-back xs k x y at)

-- what was taken from a number comes back to it
share-back : (shares now : List ℕ) (k whole left : ℕ) → slice_get shares k ≡ Some whole → 1 < whole → now ≡ set shares k (whole - 1) → slice_get now k ≡ Some left → set now k (left + 1) ≡ shares
share-back shares now k whole left at more is here =
    let put : slice_get (set shares k (whole - 1)) k ≡ Some (whole - 1) = set-same shares k whole (whole - 1) at in
    let both : Some left ≡ Some (whole - 1) = sym here ∙ ap (λ l. slice_get l k) is ∙ put in
    let left_is : left ≡ whole - 1 = cc in
    let sum : left + 1 ≡ whole = omega arith in
    (λ i. set (is i) k (sum i)) ∙ set-back shares k (whole - 1) whole at

-- a ticket that was opened and is closed
pub goes-ticket : (p q r s : PassView) (k : ℕ) (t u : TicketView) → Opened p k q t → 1 < share_at p k → Goes q r → IsTicketOf r u → u.stripe ≡ k → ClosedTicket r u s → Goes p s
goes-ticket p q r s k t u o more g is home c =
    let opened : map stripe_share q.stripes ≡ set (map stripe_share p.stripes) k (o.seat.share - 1) =
    ap (λ (x : PassView). map stripe_share x.stripes) o.pass_is ∙ map-set stripe_share p.stripes k (kept_part o.seat 1)
    in
    let here : slice_get r.stripes k ≡ Some c.seat = ap (slice_get r.stripes) (sym home) ∙ c.here in
    let one : u.seat.share ≡ 1 = is.loan.share in
    let closed : map stripe_share s.stripes ≡ set (map stripe_share r.stripes) k (c.seat.share + 1) =
    ap (λ (x : PassView). map stripe_share x.stripes) c.pass_is ∙ map-set stripe_share r.stripes u.stripe (with_share c.seat u.seat.share)
    ∙ (λ i. set (map stripe_share r.stripes) (home i) (c.seat.share + one i))
    in
    let whole : 1 < o.seat.share = subst (λ v. 1 < share_in v) o.here more in
    record {
      stripes = closed ∙ share-back (map stripe_share p.stripes) (map stripe_share r.stripes) k o.seat.share c.seat.share (map-there stripe_share p.stripes k o.seat o.here) whole (g.stripes ∙ opened) (map-there stripe_share r.stripes k c.seat here);
      sizes = ap size_shares c.pass_is ∙ g.sizes ∙ ap size_shares o.pass_is;
      locks = ap (λ (x : PassView). x.locks) c.pass_is ∙ g.locks ∙ ap (λ (x : PassView). x.locks) o.pass_is;
      spare = ap (λ (x : PassView). x.spare) c.pass_is ∙ g.spare ∙ ap (λ (x : PassView). x.spare) o.pass_is;
    }

-- a run of bios
pub goes-bios : (p q : PassView) (bios : BioSeatsView) → q ≡ with_bios p bios → Goes p q
goes-bios p q bios is = subst (Goes p) (sym is) (record { stripes = refl; sizes = refl; locks = refl; spare = refl })

module _ (m : MountView) (file : FileId) (p : PassView) (b : ℕ) (laid : IsLaidOut m) (alone : IsAlone m p) (has : HasBlock m file b) where
  -- the pass has its share at the stripe of a block of any file
  pub share-there : share_at p (stripe_at m file b) ≡ share_of p
  share-there =
      let k = stripe_at m file b in
      let within = stripe-within m file b laid has in
      let long = same-length (λ (s : SeatView Entry). s.cell) (λ (c : CellView RangeView). c.cell) p.stripes m.stripes alone.of.stripes in
      let s = there p.stripes k (omega (arith, within, long)) in
      ap share_in s.1 ∙ all-at (λ (x : SeatView Entry). x.share ≡ share_of p) p.stripes k s.0 alone.shares s.1

-- at that of a block of the first file
pub share-here : (m : MountView) (p : PassView) (b : ℕ) → IsLaidOut m → IsAlone m p → HasBlock m only_file b → share_at p (stripe_at m only_file b) ≡ share_of p
share-here m p b = share-there m only_file p b

-- a block may be lent for a write
pub lend-ready : (m : MountView) (file : FileId) (p : PassView) (stripe b : ℕ) (held : Option Held) → IsLaidOut m → stripe ≡ stripe_at m file b → held ≡ None → b + 1 ≤ (file_at m file).blocks
    → ReadyAt (λ opening seen claims. MayWrite opening claims b 1) m p stripe (lent_claims p held)
lend-ready m file p stripe b held laid at free within cell seat stand = record {
  lies = run-lies m file laid b 1 (omega arith) within (omega arith) cell (ap (slice_get m.stripes) (sym at) ∙ stand.cell_is);
  free = free;
}

-- a list of one bio may be sent
pub send-one : {T : Type 0} (b : Bio T) → b.slot ≡ 0 → CanTransfer b.parts → CanSend (b ∷ [])
send-one b slot ready zero other at = let same : b ≡ other = (let e : some b ≡ some other = at in cc) in subst (λ (x : Bio _). (x.slot ≡ 0) × CanTransfer x.parts) same (slot, ready)
send-one b slot ready (suc k) other at = absurd (cc)

-- what comes of it: one bio, and what its transfer did
pub one-ran : {T : Type 0} (b : Bio T) (rs : List (Bio T)) (ds : List Done) → AreRun (b ∷ []) rs ds → (length rs ≡ 1) × (length ds ≡ 1)
one-ran b [] ds run = absurd run
one-ran b (r ∷ rs) [] run = absurd run
one-ran b (r ∷ []) (d ∷ []) run = (refl, refl)
one-ran b (r ∷ []) (d ∷ e ∷ ds) run = absurd run.1
one-ran b (r ∷ s ∷ rs) (d ∷ ds) run = absurd run.1

pub first-run : {T : Type 0} (b r : Bio T) (rs : List (Bio T)) (d : Done) (ds : List Done) → AreRun (b ∷ []) rs ds → r ≡ slice_index_or rs 0 r → d ≡ slice_index_or ds 0 d → IsRun b r d
first-run b r [] d ds run one two = absurd run
first-run b r (x ∷ rs) d [] run one two = absurd run
first-run b r (x ∷ rs) d (y ∷ ds) run one two =
    let bio : r ≡ x = one in
    let done : d ≡ y = two in
    subst (λ (v : Bio _). IsRun b v d) (sym bio) (subst (λ v. IsRun b x v) (sym done) run.0)
