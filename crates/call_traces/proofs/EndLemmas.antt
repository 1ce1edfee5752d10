-- What the end of a run shows of a block.
use Rattle.std.proofs.Common.{◌≡◌, ℕ, Bool, true, false, ◌&&◌, ◌||◌, not, is_some, refl, sym, ◌∙◌, ap}
use Rattle.std.specs.Prelude.{slice_get}
use Rattle.io_model.specs.Contents.{extents_of}
use Rattle.io_model.specs.Conversion.{is_converted}
use Rattle.io_model.specs.Kinds.{kind_at, mapped_number}
use Rattle.io_model.specs.Space.{is_hole, keeps_space}
use Rattle.io_model.specs.declared.file.Kind.{Kind}
use Rattle.io_model.specs.declared.file.Kind.TheVariants.{Hole, Delalloc, Unwritten, Mapped}
use Rattle.range_core.specs.BlockStates.{BlockState, state_of, states_replayed}
use Rattle.range_core.specs.Kinds.{is_hole as is_hole_in}
use Rattle.call_traces.specs.BlockEnds.{EndsConvert, EndsKeepSpace}
use Rattle.call_traces.proofs.SpaceLemmas.{calls_keep_space, dirty_is_no_hole}
use Rattle.call_traces.proofs.WriteLemmas.{calls_convert}

hole-is : (k : Kind) → is_hole k ≡ is_hole_in k
hole-is Hole = refl
hole-is Delalloc = refl
hole-is (Unwritten d) = refl
hole-is (Mapped d) = refl

no-dirty-hole : (dirty : Bool) (k : Kind) → (dirty ≡ true → is_hole_in k ≡ false) → not (dirty && is_hole k) ≡ true
no-dirty-hole true k h = ap not (hole-is k ∙ h refl)
no-dirty-hole false k h = refl

both : (t u : Bool) → t ≡ true → u ≡ true → (t && u) ≡ true
both t u e f = ap (λ x. x && u) e ∙ f

pub ends_keep_space : EndsKeepSpace
ends_keep_space script f b calls was history ran extents end ends = both _ _ space hole
  where
    size : ℕ
    size = script.geometry.block_size

    s : BlockState
    s = state_of was

    space : keeps_space size calls f b (kind_at (extents_of (slice_get script.files f)) b) (kind_at extents b) end.journal ≡ true
    space =
        ap (λ k. keeps_space size calls f b k (kind_at extents b) end.journal) (sym ran.kind)
        ∙ ap (λ k. keeps_space size calls f b was.kind k end.journal) ends.kind_is
        ∙ ap (keeps_space size calls f b was.kind (states_replayed size b s history).kind) ends.journal_is
        ∙ calls_keep_space size f b calls s history ran.happened ran.clean ran.here ran.works

    hole : not (is_some end.dirty && is_hole (kind_at extents b)) ≡ true
    hole =
        ap (λ t. not (t && is_hole (kind_at extents b))) ends.dirty_is
        ∙ ap (λ k. not ((states_replayed size b s history).dirty && is_hole k)) ends.kind_is
        ∙ no-dirty-hole (states_replayed size b s history).dirty (states_replayed size b s history).kind (dirty_is_no_hole size b s history ran.happened ran.clean ran.here)

pub ends_convert : EndsConvert
ends_convert script run f b was history ran good extents end ends =
    ap (λ k. not (is_some (mapped_number k)) || is_converted script run f b end.journal) ends.kind_is
    ∙ ap (λ l. not (is_some (mapped_number (states_replayed script.geometry.block_size b (state_of was) history).kind)) || is_converted script run f b l) ends.journal_is
    ∙ calls_convert script run f b (state_of was) history ran.happened ran.clean ran.here ran.kind ran.works good
