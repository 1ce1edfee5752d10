-- What calls did at a mount, one after another and side by side.
use Rattle.std.specs.Prelude.{◌≡◌, ℕ, List, [], ◌∷◌, All}
use Rattle.iob_base.specs.declared.stamp.FileId.{FileId}
use Rattle.io_model.specs.Parts.{Span}
use Rattle.range_core.specs.EntryStamps.{stamps_in}
use Rattle.range_core.specs.Stamps.{done_by}
use Rattle.mount_parts.specs.MountView.{HasFile, MountView}
use Rattle.mini_fs.specs.Acts.{Act, Acted, own_entries}
use Rattle.mini_fs.specs.CallActs.{IsActAt, tag_of}
use Rattle.mini_fs.specs.Joins.{JoinedHistories, joined_pass}
use Rattle.mini_fs.specs.PassView.{PassView}
use Rattle.mini_fs.specs.Splits.{SplitOff}
use Rattle.call_parts.specs.Parts.{stamps_over}
use Rattle.call_parts.specs.Steps.{IsPlaced}

-- a call: its number, its file, the bytes that it answered, the pass before it, what the pass did, and the pass after it
pub record Traced : Type 0 where
  pub number : ℕ
  pub file : FileId
  pub answered : Span
  pub before : PassView
  pub acts : List Act
  pub after : PassView

-- The acts of a call were at its file, under the number of its pass, and stamped each block that it answered once, with the number of the call, and no other
pub record IsTraced (m : MountView) (c : Traced) : Type 0 where
  pub exists : HasFile m c.file
  pub acted : Acted c.acts c.before c.after
  pub at_file : All (IsActAt m c.file) c.acts
  pub placed : All (IsPlaced m c.file) c.acts
  pub callers : All (λ e. e.caller ≡ c.before.caller) (own_entries c.acts)
  pub stamps : stamps_in m.geometry.block_size (own_entries c.acts) ≡ stamps_over m.geometry.block_size c.answered (done_by (tag_of c.before c.number))

-- these calls, one after another, made the first pass the second
abbrev pub Ran : MountView → List Traced → PassView → PassView → Type 0
Ran m [] p q = q ≡ p
Ran m (c ∷ calls) p q = (c.before ≡ p) × IsTraced m c × Ran m calls c.after q

-- A pass was split, the new one ran these calls while `Others` became of what was left, and both were joined
pub record Forks (m : MountView) (calls : List Traced) (Others : PassView → PassView → Type 0) (p q : PassView) : Type 0 where
  pub kept : PassView
  pub new : PassView
  pub ran : PassView
  pub back : PassView
  pub split : SplitOff m p kept new
  pub mine : Ran m calls new ran
  pub others : Others kept back
  pub histories : JoinedHistories back ran
  pub joined : q ≡ joined_pass back ran

-- callers made these calls in one phase, side by side: the last of them with the pass itself, and each other with one that was split off it and joined again
abbrev pub Phase : MountView → List (List Traced) → PassView → PassView → Type 0
Phase m [] p q = q ≡ p
Phase m (calls ∷ []) p q = Ran m calls p q
Phase m (calls ∷ next ∷ callers) p q = Forks m calls (Phase m (next ∷ callers)) p q

-- phases, one after another
abbrev pub Phases : MountView → List (List (List Traced)) → PassView → PassView → Type 0
Phases m [] p q = q ≡ p
Phases m (callers ∷ phases) p q = (r : PassView) × Phase m callers p r × Phases m phases r q
