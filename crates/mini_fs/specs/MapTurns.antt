-- The turns that a pass makes to map a range of a file, and to end a mapping.
use Rattle.std.specs.Prelude.{◌≡◌, ℕ, List, [], ◌∷◌, ◌++◌, Result}
use Rattle.iob_base.specs.declared.stamp.FileId.{FileId}
use Rattle.range_core.specs.ClaimsView.{ClaimsView}
use Rattle.range_core.specs.RangeView.{RangeView}
use Rattle.range_core.specs.Samples.{GaveSample}
use Rattle.range_core.specs.declared.entry.Entry.{Entry}
use Rattle.range_core.specs.declared.fault.EventFault.{EventFault}
use Rattle.range_core.specs.declared.sample.Sample.{Sample}
use Rattle.mount_parts.specs.MountView.{MountView, stripe_at}
use Rattle.mini_fs.specs.PassView.{PassView, claims_of}
use Rattle.mini_fs.specs.SpaceTurns.{Preallocated, Reserved, Unreserved, sample_run}
use Rattle.mini_fs.specs.Turns.{TurnsAt}

-- A turn at the stripe of a block of a file, with what it answered: a look at an extent, a promise of space to the first blocks of a sample, sectors for all blocks of a run, promises taken back from a run
pub data MapTurn : Type 0 where
  Look : (block most : ℕ) (sample : Sample) → MapTurn
  Promise : (seen : Sample) (blocks : ℕ) (answer : Result Sample EventFault) → MapTurn
  Place : (block blocks : ℕ) (answer : Result ℕ EventFault) → MapTurn
  TakeBack : (block blocks count : ℕ) → MapTurn

-- a turn of the pass `p` at the stripe of a block, which claims what its seat there did before, makes it the pass `q`
abbrev pub TurnsAtBlock : (ClaimsView → RangeView → RangeView → RangeView → Entry → Type 0) → MountView → FileId → ℕ → PassView → PassView → Type 0
TurnsAtBlock does m file b p q = TurnsAt (λ opening _ value next entry. does (claims_of p) opening value next entry) m (stripe_at m file b) (claims_of p) (claims_of p) p q

-- the turn makes the first pass the second
abbrev pub MakesTurn : MountView → FileId → MapTurn → PassView → PassView → Type 0
MakesTurn m file (Look b most sample) p q = TurnsAtBlock (λ claims opening value next entry. GaveSample opening (sample_run b most) (sample_run b most) value next claims claims sample entry) m file b p q
MakesTurn m file (Promise seen n answer) p q = TurnsAtBlock (λ claims opening value next entry. Reserved m.pool.opening seen n claims answer opening value next entry) m file seen.extent.block p q
MakesTurn m file (Place b n answer) p q = TurnsAtBlock (λ claims _ value next entry. Preallocated m.pool.opening b n claims answer value next entry) m file b p q
MakesTurn m file (TakeBack b n count) p q = TurnsAtBlock (λ claims _ value next entry. Unreserved m.pool.opening b n claims count value next entry) m file b p q

-- these turns, one after another, make the first pass the second
abbrev pub MakesTurns : MountView → FileId → List MapTurn → PassView → PassView → Type 0
MakesTurns m file [] p q = q ≡ p
MakesTurns m file (t ∷ ts) p q = (r : PassView) × MakesTurn m file t p r × MakesTurns m file ts r q

-- Turns of this shape made the first pass the second
pub record MadeTurns (m : MountView) (file : FileId) (shape : List MapTurn → Type 0) (p q : PassView) : Type 0 where
  pub turns : List MapTurn
  pub make : MakesTurns m file turns p q
  pub are : shape turns

-- the turns of each of these, one after another
abbrev pub turns_of : {A : Type 0} → (A → List MapTurn) → List A → List MapTurn
turns_of f [] = []
turns_of f (x ∷ xs) = f x ++ turns_of f xs
