-- From the outcome of the one read to the causes of its run.
use Rattle.std.proofs.Common.{◌≡◌, ℕ, Bool, true, false, List, [], ◌∷◌, map, refl, sym, ap, ◌∙◌, subst}
use Rattle.std.specs.Bool.{MatchBool}
use Rattle.std.specs.List.{list_all}
use Rattle.fault_device.specs.LaneView.{LaneView}
use Rattle.fault_device.specs.Opening.{Opening}
use Rattle.iob_base.specs.DeviceBlock.{DeviceBlock}
use Rattle.iob_base.specs.declared.answer.Reply.{Reply}
use Rattle.io_model.specs.Causes.{AreCaused, is_done_mark}
use Rattle.io_model.specs.Journals.{each_block}
use Rattle.io_model.specs.RunText.{is_error}
use Rattle.io_model.specs.declared.file.FileEnd.{FileEnd}
use Rattle.io_model.specs.declared.run.CallEnd.{CallEnd}
use Rattle.io_model.specs.declared.run.LaneEnd.{LaneEnd}
use Rattle.io_model.specs.declared.script.Script.{Script}
use Rattle.iomap_replay.proofs.OneCauses.{IsLaneEnd, is_plain, one_cause}
use Rattle.iomap_replay.proofs.OneFile.{stamps_at-run, stamps_at-none}
use Rattle.iomap_replay.proofs.Outcome.{IsEndOf, read_file}
use Rattle.iomap_replay.proofs.RightRun.{all_done}
use Rattle.iomap_replay.specs.Causes.{IsCausedReply}
use Rattle.iomap_replay.specs.Jobs.{IsJobOf}
use Rattle.iomap_replay.specs.OneRead.{block_of, count_of, IsOpened, GaveRange, GaveNothing, IsOutcome}
use Rattle.iomap_replay.specs.Runs.{is_among, read_stamp, one_run}
use Rattle.iomap_replay.specs.Starts.{idle_end, starts_of}
use Rattle.iomap_replay.specs.declared.job.Job.{Job}
use Rattle.range_core.specs.Events.{with_stamps}
use Rattle.range_core.specs.RangeView.{RangeView}
use Rattle.range_core.specs.Stamps.{stamps_from}

-- the reply is that of a read, and no stamp is a mark of failure
record IsPlainRead (end : CallEnd) (file : FileEnd) : Type 0 where
  plain : is_plain end.answer.reply ≡ true
  done : each_block (λ f b block. list_all (λ st. is_done_mark st.mark) block.journal) (file ∷ []) ≡ true

plain_read : (script : Script) (job : Job) (end : CallEnd) (file : FileEnd) (old new : RangeView) → IsJobOf script job
    → IsOpened script job old → IsOutcome script job end old new → IsEndOf file new → IsPlainRead end file
plain_read script job end file old new of opened outcome file_end = by_reply (is_error end.answer.reply) outcome
  where
    by_reply : (t : Bool) → MatchBool t (GaveNothing end old new) (GaveRange script job end old new) → IsPlainRead end file
    by_reply true nothing =
        let on = of.shape.tail.extent in
        let none : ℕ → Bool = λ _. false in
        let read = read_file script job old on.mapped.0 none [] [] file on.mapped.1 (stamps_at-none none) (subst (IsEndOf file) opened (subst (IsEndOf file) nothing.left file_end)) in
        record { plain = ap is_plain nothing.reply ∙ nothing.told; done = all_done script job none [] file read refl }
    by_reply false whole =
        let on = of.shape.tail.extent in
        let b = block_of job in
        let k = count_of job in
        let E : RangeView → Type 0 = λ r. IsEndOf file (with_stamps r (stamps_from b k read_stamp)) in
        let read = read_file script job old on.mapped.0 (is_among b k) (read_stamp ∷ []) (stamps_from b k read_stamp) file on.mapped.1 (stamps_at-run read_stamp b k) (subst E opened (subst (IsEndOf file) whole.left file_end)) in
        record { plain = ap is_plain whole.reply; done = all_done script job (is_among b k) (read_stamp ∷ []) file read refl }

pub caused_from_outcome : (script : Script) (job : Job) (end : CallEnd) (file : FileEnd) (free : List DeviceBlock) (own : LaneEnd) (o : Opening) (rest : List Opening) (v : LaneView) (old new : RangeView)
    → IsJobOf script job → IsOpened script job old → IsOutcome script job end old new → IsEndOf file new
    → IsCausedReply o 0 own.faults end.answer.reply → IsLaneEnd o v own
    → AreCaused (starts_of script (o ∷ rest)) script (one_run end file free (own ∷ map (λ (o : Opening). idle_end o.count) rest))
caused_from_outcome script job end file free own o rest v old new of opened outcome file_end caused lane =
    let read = plain_read script job end file old new of opened outcome file_end in
    let P : Script → Type 0 = λ s. AreCaused (starts_of s (o ∷ rest)) s (one_run end file free (own ∷ map (λ (o : Opening). idle_end o.count) rest)) in
    subst P (sym of.is) (one_cause of.name job script.blocks end file free own o rest v read.plain caused lane read.done)

-- a reply of lane 0, which has as many faults as its fate counts
pub caused_here : (o : Opening) (lane count faults : ℕ) (r : Reply) → lane ≡ 0 → faults ≡ count → IsCausedReply o lane count r → IsCausedReply o 0 faults r
caused_here o lane count faults r number is caused =
    let N : ℕ → Type 0 = λ n. IsCausedReply o n count r in
    let F : ℕ → Type 0 = λ n. IsCausedReply o 0 n r in
    subst F (sym is) (subst N number caused)
