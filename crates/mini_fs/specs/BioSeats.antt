-- What contracts see of the shelves of a pass, and of its pass at the queue of bios.
use Rattle.std.specs.Prelude.{◌≡◌, ℕ, ◌+◌, ◌<◌, ◌≤◌, List, [], ◌∷◌, ◌++◌, All, length, take, ⊤}
use Rattle.atomic_table.specs.Seated.{TableId}
use Rattle.bio_pages.specs.Lists.{AreFree}
use Rattle.bio_pages.specs.Queue.{new_pass}
use Rattle.bio_pages.specs.Queue as passing
use Rattle.bio_pages.specs.Shelf.{SeatView, owner_of}
use Rattle.mini_fs.specs.TicketView.{TicketView}

-- the pass at the queue, and the owner's seat at each shelf that the pass has
pub record BioSeatsView : Type 0 where
  pub queue : passing.PassView TicketView
  pub shelves : List (SeatView TicketView)

abbrev pub bio_seats_view : passing.PassView TicketView → List (SeatView TicketView) → BioSeatsView
bio_seats_view queue shelves = record { queue = queue; shelves = shelves }

-- The seat is the owner's at this shelf, and notes nothing for any of its 32 slots
pub record IsOwner (shelf : TableId) (owner : SeatView TicketView) : Type 0 where
  pub shelf_is : owner.shelf ≡ shelf
  pub seat : owner.seat ≡ 0
  pub free : AreFree 32 owner

-- a new shelf's owner has the whole amount, and notes nothing for its 32 slots
abbrev pub IsNewOwner : SeatView TicketView → Type 0
IsNewOwner s = s ≡ owner_of s.shelf 32

-- What the first pass has: it passed nothing through the queue, and has all 32 shelves, which are new
pub record AreFirst (queue : TableId) (b : BioSeatsView) : Type 0 where
  pub passed : b.queue ≡ new_pass queue
  pub count : length b.shelves ≡ 32
  pub each : All IsNewOwner b.shelves

-- what the owners have together
abbrev pub amounts : List (SeatView TicketView) → ℕ
amounts [] = 0
amounts (s ∷ ss) = s.amount + amounts ss

-- there is a shelf, and each owner has more than 32 of its amount
abbrev pub HavePlenty : List (SeatView TicketView) → Type 0
HavePlenty ss = (0 < length ss) × All (λ s. 32 < s.amount) ss

-- place by place the same shelves, and no owner has more than before
abbrev pub NoneRose : List (SeatView TicketView) → List (SeatView TicketView) → Type 0
NoneRose [] [] = ⊤
NoneRose (s ∷ ss) (t ∷ ts) = ((t.shelf ≡ s.shelf) × (t.amount ≤ s.amount)) × NoneRose ss ts
NoneRose ss ts = ⊥

-- The shelves are those of before, and what their owners have together fell by the number of bios sent out, of so many
pub record KeepsShelves (bios : ℕ) (p q : BioSeatsView) : Type 0 where
  pub same : NoneRose p.shelves q.shelves
  pub sent : ℕ
  pub most : sent ≤ bios
  pub fell : amounts p.shelves ≡ amounts q.shelves + sent

-- the shelves that are left after one was given away, and the one given: the first, where there is another
abbrev pub kept_shelves : List (SeatView TicketView) → List (SeatView TicketView)
kept_shelves [] = []
kept_shelves (s ∷ []) = s ∷ []
kept_shelves (s ∷ t ∷ ss) = t ∷ ss

abbrev pub given_shelves : List (SeatView TicketView) → List (SeatView TicketView)
given_shelves [] = []
given_shelves (s ∷ []) = []
given_shelves (s ∷ t ∷ ss) = s ∷ []

-- what a pass keeps, and what another that is split off gets: a pass at the same queue, which passed nothing
abbrev pub kept_bios : BioSeatsView → BioSeatsView
kept_bios b = record b { shelves = kept_shelves b.shelves }

abbrev pub given_bios : BioSeatsView → BioSeatsView
given_bios b = record { queue = new_pass b.queue.queue; shelves = given_shelves b.shelves }

-- both passes' shelves, up to the 32 that there are, with the first one's pass at the queue
abbrev pub joined_bios : BioSeatsView → BioSeatsView → BioSeatsView
joined_bios b c = record b { shelves = take 32 (b.shelves ++ c.shelves) }
