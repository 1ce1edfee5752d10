-- A turn that a pass makes with a ticket's loan, between the join of the ticket's seat and the cut of the next.
use Rattle.std.proofs.Common.{◌≡◌, ℕ, ◌+◌, ◌<◌, List, [], ◌++◌, length, inl, inr, Some, None, Option, refl, sym, ap, ◌∙◌, subst, arith, append-nil, append_assoc, ◌∷◌}
use Rattle.turn_cell.specs.Stakes.{Begins}
use Rattle.turn_cell.specs.Views.{SeatView, Turned, joined, kept_part, longer, new_part}
use Rattle.std.specs.Prelude.{slice_get, Bool, true, false, nat_lt, if◌then◌else◌}
use Rattle.std.proofs.lemmas.Bool.Decides.{nat_tests}
use Rattle.turn_cell.proofs.Beginnings.{begins-length, begins-self}
use Rattle.range_core.specs.ClaimsView.{ClaimsView, MayMerge, either_held, merged_claims, released}
use Rattle.range_core.specs.RangeTruth.{RangeTruth}
use Rattle.range_core.specs.RangeView.{RangeView}
use Rattle.range_core.specs.declared.entry.Entry.{Entry}
use Rattle.range_core.specs.declared.lending.Held.{Held}
use Rattle.mini_fs.specs.TicketView.{TicketView}
use Rattle.mini_fs.specs.Tickets.{IsLoanSeat, IsTicketOf, ticket_claims, with_held, with_share}
use Rattle.mini_fs.specs.PassView.{PassView}

longer-whole : (xs ys : List Entry) → Begins ys xs → longer xs ys ≡ xs
longer-whole xs ys b = by (nat_lt (length xs) (length ys)) refl
  where
    by : (t : Bool) → nat_lt (length xs) (length ys) ≡ t → (if t then ys else xs) ≡ xs
    by true e = let h = begins-length ys xs b in let less : length xs < length ys = grind (arith, nat_tests) in absurd (omega arith)
    by false e = refl

-- a seat that takes in one that carries its loan has that one's share more, and is else as it was
pub joined-loan : (s t : SeatView Entry) → IsLoanSeat s t → joined s t ≡ with_share s t.share
joined-loan s t is =
    let seen = longer-whole s.seen t.seen is.begins in
    let made : s.made ++ t.made ≡ s.made = ap (λ l. s.made ++ l) is.made ∙ append-nil s.made in
    λ i. record { cell = s.cell; seen = seen i; made = made i; share = s.share + t.share; refused = s.refused }

pub may-merge : (c : ClaimsView) (held : Option Held) → c.held ≡ None → MayMerge c (ticket_claims c.caller held)
may-merge c held free = record { one_held = inl free; one_spare = inr refl; own = λ _. refl }

pub merged-loan : (c : ClaimsView) (held : Option Held) → c.held ≡ None → merged_claims c (ticket_claims c.caller held) ≡ with_held c held
merged-loan c held free =
    let e : c.spare + 0 ≡ c.spare = omega arith in
    λ i. record c { spare = e i; held = either_held (free i) held }

-- the claims of a seat without a loan, after a turn with one that left their numbers
pub left-held : (c left : ClaimsView) (held : Option Held) → c.held ≡ None → released left ≡ released (with_held c held) → left ≡ with_held c left.held
left-held c left held free same = ap (λ (x : ClaimsView). with_held x left.held) same

pub released-left : (c left : ClaimsView) (held : Option Held) → c.held ≡ None → released left ≡ released (with_held c held) → released left ≡ c
released-left c left held free same = same ∙ (λ i. record c { held = sym free i })

-- a turn of the seat with the loan's share is one of the seat alone
pub turned-alone : (does : List Entry → RangeView → RangeView → Entry → Type 0) (opening : RangeView) (claims left : ClaimsView) (s after : SeatView Entry) (share part : ℕ)
    → Turned RangeTruth does opening claims left (with_share s share) after → Turned RangeTruth does opening claims left s (kept_part after part)
turned-alone does opening claims left s after share part t =
    record { others = t.others; entry = t.entry; value = t.value; next = t.next; number = t.number; stakes = t.stakes; seen_is = t.seen_is; made_is = t.made_is; done = t.done; stood = t.stood; stands = t.stands; own = t.own }

-- a turn with the claims before and after it told otherwise
pub turned-claims : (does : ClaimsView → ClaimsView → List Entry → RangeView → RangeView → Entry → Type 0) (opening : RangeView) (c1 c2 d1 d2 : ClaimsView) (before after : SeatView Entry)
    → c1 ≡ d1 → c2 ≡ d2 → Turned RangeTruth (does c1 c2) opening c1 c2 before after → Turned RangeTruth (does d1 d2) opening d1 d2 before after
turned-claims does opening c1 c2 d1 d2 before after e1 e2 t =
    let f : Turned RangeTruth (does d1 c2) opening d1 c2 before after = subst (λ c. Turned RangeTruth (does c c2) opening c c2 before after) e1 t in
    subst (λ c. Turned RangeTruth (does d1 c) opening d1 c before after) e2 f

-- a turn between a join of the loan's seat and a cut of the next, as one turn of the seat alone
pub turned-with : (does : ClaimsView → ClaimsView → List Entry → RangeView → RangeView → Entry → Type 0) (opening : RangeView) (c1 c2 d1 d2 : ClaimsView) (s0 s1 s2 s3 : SeatView Entry) (share : ℕ)
    → c1 ≡ d1 → c2 ≡ d2 → s1 ≡ with_share s0 share → s3 ≡ kept_part s2 1 → Turned RangeTruth (does c1 c2) opening c1 c2 s1 s2 → Turned RangeTruth (does d1 d2) opening d1 d2 s0 s3
turned-with does opening c1 c2 d1 d2 s0 s1 s2 s3 share e1 e2 es ek t =
    let a : Turned RangeTruth (does c1 c2) opening c1 c2 (with_share s0 share) s2 = subst (λ s. Turned RangeTruth (does c1 c2) opening c1 c2 s s2) es t in
    let b : Turned RangeTruth (does c1 c2) opening c1 c2 s0 (kept_part s2 1) = turned-alone (does c1 c2) opening c1 c2 s0 s2 share 1 a in
    let d : Turned RangeTruth (does c1 c2) opening c1 c2 s0 s3 = subst (λ s. Turned RangeTruth (does c1 c2) opening c1 c2 s0 s) (sym ek) b in
    turned-claims does opening c1 c2 d1 d2 s0 s3 e1 e2 d

-- a turn sees more
pub turned-begins : (does : List Entry → RangeView → RangeView → Entry → Type 0) (opening : RangeView) (claims left : ClaimsView) (before after : SeatView Entry) → Turned RangeTruth does opening claims left before after → Begins before.seen after.seen
turned-begins does opening claims left before after t = (t.others ++ t.entry ∷ [], sym (append_assoc before.seen t.others (t.entry ∷ [])) ∙ sym t.seen_is)

-- a ticket's seat carries a loan of the seat of its stripe
pub loan-at : (p : PassView) (t : TicketView) (seat : SeatView Entry) → IsTicketOf p t → slice_get p.stripes t.stripe ≡ Some seat → IsLoanSeat seat t.seat
loan-at p t seat is here =
    let both : Some is.seat ≡ Some seat = sym is.here ∙ here in
    let same : is.seat ≡ seat = cc in
    subst (λ (s : SeatView Entry). IsLoanSeat s t.seat) same is.loan

-- a seat that was split off with a loan carries it
pub new-loan : (seat loan : SeatView Entry) → loan ≡ new_part seat 1 → IsLoanSeat seat loan
new-loan seat loan is = subst (IsLoanSeat seat) (sym is) (record { cell = refl; begins = begins-self seat.seen; made = refl; share = refl })
