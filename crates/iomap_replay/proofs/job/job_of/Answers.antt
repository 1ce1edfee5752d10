use Rattle.std.proofs.Common.{◌≡◌, ℕ, ◌==◌, true, List, [], length, sym, ◌∙◌, ap, arith}
use Rattle.std.proofs.lemmas.Bool.{eqb-true}
use Rattle.io_model.specs.declared.file.FileSpec.{FileSpec}
use Rattle.io_model.specs.declared.script.Call.{Call}
use Rattle.iomap_replay.proofs.JobOf.{job_is, one_item, item_of, no_item, is_sole}
use Rattle.iomap_replay.specs.Jobs.{one_call, one_file}
use Rattle.iomap_replay.proofs.job.job_of.Goals as goal

pub returns-clause-job : goal.returns-clause-job
returns-clause-job c =
    let names = ap (λ (l : List (List ℕ)). length l) c.as_slice-2.ensures in
    let files = ap (λ (l : List FileSpec). length l) c.as_slice-3.ensures in
    let calls = ap (λ (l : List Call). length l) c.as_slice-4.ensures in
    let faults = ap (λ (l : List (ℕ × ℕ)). length l) c.as_slice.ensures in
    let empty : (length c.as_slice.result.now == 0) ≡ true = sym c.is_empty.ensures ∙ c.if-not-is_empty.false in
    job_is c.args.script.now c.device_of.result _ _ _ _ c.device_of.ensures
    (is_sole c.args.script.now.names [] (omega (arith, names, c.in-len1.len_at_least)) (omega (arith, names, c.in-len1.len_below)))
    (one_item c.args.script.now.files (one_file c.in_ok-blocks.blocks c.in_ok-blocks.extent) _ (omega (arith, files, c.in-len1-as_slice.len_at_least)) (omega (arith, files, c.in-len1-as_slice.len_below))
    (item_of _ _ _ _ _ c.in_ok-blocks.ensures.facts.0 c.file-item.is c.as_slice-3.ensures))
    (no_item c.args.script.now.faults (sym faults ∙ eqb-true _ _ empty))
    (one_item c.args.script.now.calls (one_call c.in_ok-asked.asked) _ (omega (arith, calls, c.in-len1-as_slice-2.len_at_least)) (omega (arith, calls, c.in-len1-as_slice-2.len_below))
    (item_of _ _ _ _ _ c.in_ok-asked.ensures.facts c.call-item.is c.as_slice-4.ensures))
    (c.has_form.ensures.shape c.if-not-has_form.false)
    (c.has_form.ensures.whole c.if-not-has_form.false)
