-- What the calls of a run did at one stripe.
use Rattle.std.specs.Prelude.{◌≡◌, ℕ, ◌+◌, List, [], ◌∷◌, ◌++◌, Some, All, slice_get}
use Rattle.turn_cell.specs.Stakes.{Begins, total}
use Rattle.turn_cell.specs.Views.{SeatView}
use Rattle.range_core.specs.declared.entry.Entry.{Entry}
use Rattle.mount_parts.specs.MountView.{MountView}
use Rattle.mini_fs.specs.Acts.{made_in, seen_in}
use Rattle.mini_fs.specs.PassView.{PassView}
use Rattle.call_parts.specs.Reads.{seen_at}
use Rattle.call_traces.specs.Traces.{Phases, Traced}

-- all calls of some callers, and of some phases
abbrev pub calls_in : List (List Traced) → List Traced
calls_in [] = []
calls_in (calls ∷ callers) = calls ++ calls_in callers

abbrev pub all_calls : List (List (List Traced)) → List Traced
all_calls [] = []
all_calls (callers ∷ phases) = calls_in callers ++ all_calls phases

-- the weight of a call's own entries at a stripe, and of those of some calls
abbrev pub own_weight : ℕ → (Entry → ℕ) → Traced → ℕ
own_weight k f c = total f (made_in k c.acts)

module _ (k : ℕ) where
  -- A call saw at a stripe what the first seat had seen, then what its acts add, and the last seat has seen all that
  pub record IsWithin (s t : SeatView Entry) (c : Traced) : Type 0 where
    pub begins : Begins s.seen (seen_at c.before k)
    pub grows : seen_at c.after k ≡ seen_at c.before k ++ seen_in k c.acts
    pub ends : Begins (seen_at c.after k) t.seen

  -- when the later call began, its pass had seen all that the first one's had seen at its end
  abbrev pub ComesBefore : Traced → Traced → Type 0
  ComesBefore c later = Begins (seen_at c.after k) (seen_at later.before k)

  -- each of these calls comes before each of those, and before each later one of its own list
  abbrev pub AllBefore : List Traced → List Traced → Type 0
  AllBefore calls others = All (λ c. All (ComesBefore c) others) calls

  abbrev pub EachBefore : List Traced → Type 0
  EachBefore [] = Unit {0}
  EachBefore (c ∷ calls) = All (ComesBefore c) calls × EachBefore calls

  -- the calls of each caller come one before the other, and those of each phase before all of later phases
  abbrev pub PhasesInOrder : List (List (List Traced)) → Type 0
  PhasesInOrder [] = Unit {0}
  PhasesInOrder (callers ∷ phases) = All EachBefore callers × AllBefore (calls_in callers) (all_calls phases) × PhasesInOrder phases

  -- Calls made the first seat of a stripe the second: it has seen more, and has made besides what they made there, however entries are weighed
  pub record RanAt (calls : List Traced) (s t : SeatView Entry) : Type 0 where
    pub seen : Begins s.seen t.seen
    pub weighs : (f : Entry → ℕ) → total f t.made ≡ total f s.made + total (own_weight k f) calls
    pub within : All (IsWithin s t) calls

-- Phases made the first pass the second: so they did at each stripe where it has a seat, and the calls stand in order there
abbrev pub PhasesAtStripe : Type 0
PhasesAtStripe = (m : MountView) (phases : List (List (List Traced))) (p q : PassView) → Phases m phases p q → (k : ℕ) (s : SeatView Entry) → slice_get p.stripes k ≡ Some s
    → (t : SeatView Entry) × (slice_get q.stripes k ≡ Some t) × RanAt k (all_calls phases) s t × PhasesInOrder k phases
