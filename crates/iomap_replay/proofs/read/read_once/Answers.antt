use Rattle.std.proofs.Common.{◌≡◌, ℕ, Bool, true, Option, Some, None, ◌%◌, ◌+◌, ◌≤◌, List, length, take, drop, replicate, sym, ◌∙◌, ap, subst, arith}
use Rattle.std.specs.Prelude.{All, IsTrue}
use Rattle.std.proofs.lemmas.List.{length-replicate}
use Rattle.iob_base.specs.Parting.{pages_of}
use Rattle.iob_base.specs.declared.part.Part.{Part}
use Rattle.iob_base.specs.declared.sector.Page.{Page}
use Rattle.io_model.specs.declared.run.CallEnd.{CallEnd}
use Rattle.iomap_replay.proofs.ReadRun.{begins_in, can_read, gave, if_ok, not_refused, reaches, was_read, WasReadNow}
use Rattle.iomap_replay.proofs.Spans.{size-some}
use Rattle.io_model.specs.declared.script.Script.{Script}
use Rattle.iomap_replay.specs.Jobs.{IsJobOf}
use Rattle.iomap_replay.specs.declared.job.Job.{Job}
use Rattle.iomap_replay.specs.OneRead.{blank, block_of, bytes_of, count_of, IsOpened, IsOutcome, IsWholeEnd}
use Rattle.fault_device.specs.LaneView.{LaneView}
use Rattle.fault_device.specs.Opening.{IsServed, Opening, Serves}
use Rattle.fault_device.specs.declared.lane.Done.{Done}
use Rattle.iob_base.specs.declared.answer.Fault.TheVariants.{Eio}
use Rattle.iob_base.specs.declared.answer.Reply.{Reply}
use Rattle.iob_base.specs.declared.answer.Reply.TheVariants.{Err}
use Rattle.iomap_replay.specs.Causes.{IsCausedReply}
use Rattle.range_core.specs.DirectNows.{CanReadNow, after_direct_now, now_count, pages_filled}
use Rattle.range_core.specs.Judges.{AsksLane, IsAsked, Judges, RefusesNow}
use Rattle.range_core.specs.RangeView.{RangeView, cells_from}
use Rattle.range_core.specs.Refusals.{direct_now_refusal}
use Rattle.range_core.specs.Runs.{begins_mapped}
use Rattle.range_core.specs.declared.fault.EventFault.{EventFault}
use Rattle.range_core.specs.declared.fault.EventFault.TheVariants.{Poison}
use Rattle.iomap_replay.proofs.read.read_once.Goals as goal

pub begin_of-block-requires : goal.begin_of-block-requires
begin_of-block-requires g c = size-some _ c.requires.job.shape.device.size

pub count_of-requires-clause-size : goal.count_of-requires-clause-size
count_of-requires-clause-size g c = size-some _ c.requires.job.shape.device.size

-- what the event says, at the block and with the pages of the call
was_read_here : (old new : RangeView) (before pages : List Page) (n : ℕ) (script : Script) (job : Job) → IsJobOf script job → IsOpened script job old
    → length before ≡ count_of job → {b : ℕ} → b ≡ block_of job → n ≡ now_count old b before
    → pages ≡ pages_filled old.geometry.block_size n (cells_from old b) before → new ≡ after_direct_now old (record { caller = 0; call = 1 }) b n → WasReadNow script job pages old new
was_read_here old new before pages n script job of opened many block run read left =
    was_read script job before pages n old new of opened many (run ∙ ap (λ b. now_count old b before) block)
    (read ∙ ap (λ b. pages_filled old.geometry.block_size n (cells_from old b) before) block) (left ∙ ap (λ b. after_direct_now old (record { caller = 0; call = 1 }) b n) block)

pub direct_now-requires : goal.direct_now-requires
direct_now-requires g c =
    let script = c.args.script.now in
    let job = c.args.job.now in
    let size = job.device.block_size in
    let pages : pages_of c.in_ok-pages.pages ≡ replicate (count_of job) (blank size) = c.in_ok-pages.ensures ∙ ap (λ n. replicate n (blank size)) c.count_of.ensures in
    let range : RangeView = c.args.range.now in
    let B : ℕ → Type 0 = λ b. CanReadNow range b (pages_of c.in_ok-pages.pages) in
    let P : List Page → Type 0 = λ ps. CanReadNow range (block_of job) ps in
    subst B (sym c.begin_of-block.ensures) (subst P (sym pages) (can_read script job range c.requires.job c.requires.opened))

pub whole_end-requires-clause-begins : goal.whole_end-requires-clause-begins
whole_end-requires-clause-begins g c =
    let script = c.args.script.now in
    let job = c.args.job.now in
    let was = was_read_here c.args.range.now c.direct_now.new.self (pages_of c.in_ok-pages.pages) (pages_of c.direct_now.new.pages) c.in-Ok.field-0 script job c.requires.job c.requires.opened
    (ap length c.in_ok-pages.ensures ∙ length-replicate _ _ ∙ c.count_of.ensures) c.begin_of-block.ensures c.in-Ok.ensures.count c.in-Ok.ensures.read c.in-Ok.ensures.state in
    let A : List Part → Type 0 = λ ps. All (λ (p : Page). job.asked.off % c.from.result ≤ length p.bytes) (pages_of ps) in
    let S : ℕ → Type 0 = λ s. All (λ (p : Page). job.asked.off % s ≤ length p.bytes) (pages_of c.direct_now.new.pages) in
    subst A (sym c.as_slice.ensures.value) (subst S (sym c.from.ensures) (begins_in script job (pages_of c.direct_now.new.pages) c.args.range.now c.direct_now.new.self c.requires.job was))

pub whole_end-requires-clause-ends : goal.whole_end-requires-clause-ends
whole_end-requires-clause-ends g c =
    let script = c.args.script.now in
    let job = c.args.job.now in
    let was = was_read_here c.args.range.now c.direct_now.new.self (pages_of c.in_ok-pages.pages) (pages_of c.direct_now.new.pages) c.in-Ok.field-0 script job c.requires.job c.requires.opened
    (ap length c.in_ok-pages.ensures ∙ length-replicate _ _ ∙ c.count_of.ensures) c.begin_of-block.ensures c.in-Ok.ensures.count c.in-Ok.ensures.read c.in-Ok.ensures.state in
    let A : List Part → Type 0 = λ ps. job.asked.off % c.from.result + job.asked.length ≤ length (bytes_of (pages_of ps)) in
    let S : ℕ → Type 0 = λ s. job.asked.off % s + job.asked.length ≤ length (bytes_of (pages_of c.direct_now.new.pages)) in
    subst A (sym c.as_slice.ensures.value) (subst S (sym c.from.ensures) (reaches script job (pages_of c.direct_now.new.pages) c.args.range.now c.direct_now.new.self c.requires.job was))

pub returns-in-Ok-clause-outcome : goal.returns-in-Ok-clause-outcome
returns-in-Ok-clause-outcome g c =
    let script = c.args.script.now in
    let job = c.args.job.now in
    let old = c.args.range.now in
    let new = c.direct_now.new.self in
    let pages = pages_of c.direct_now.new.pages in
    let len = job.asked.length in
    let was = was_read_here old new (pages_of c.in_ok-pages.pages) pages c.in-Ok.field-0 script job c.requires.job c.requires.opened
    (ap length c.in_ok-pages.ensures ∙ length-replicate _ _ ∙ c.count_of.ensures) c.begin_of-block.ensures c.in-Ok.ensures.count c.in-Ok.ensures.read c.in-Ok.ensures.state in
    let same : take len (drop (job.asked.off % c.from.result) (bytes_of (pages_of c.as_slice.result.now))) ≡ take len (drop (job.asked.off % job.device.block_size) (bytes_of pages)) =
    ap (λ s. take len (drop (job.asked.off % s) (bytes_of (pages_of c.as_slice.result.now)))) c.from.ensures
    ∙ ap (λ (ps : List Part). take len (drop (job.asked.off % job.device.block_size) (bytes_of (pages_of ps)))) c.as_slice.ensures.value in
    let P : CallEnd → Type 0 = λ end. IsWholeEnd end len (take len (drop (job.asked.off % c.from.result) (bytes_of (pages_of c.as_slice.result.now)))) in
    let Q : CallEnd → Type 0 = λ end. IsOutcome script job end old new in
    if_ok c.whole_end.result P Q
    (λ end is.
    let B : List ℕ → Type 0 = λ bs. IsWholeEnd end len bs in
    gave script job pages end old new c.requires.job was (subst B same is))
    c.whole_end.ensures

-- a judgement that failed has its cause in the fate of the lane
caused_by : (o : Opening) (old new : LaneView) (n : ℕ) (j : Judges AsksLane n old new) (refusal : Option EventFault) (mapped : Bool) (fault : EventFault) (done : Done) (reply : Reply) → refusal ≡ None → fault ≡ Poison done
    → RefusesNow refusal mapped j.answer fault → Serves o old → reply ≡ Err (Eio done.lane done.before done.after) 0 → IsCausedReply o old.number new.count reply
caused_by o old new n j refusal mapped fault done reply none is refused served said =
    let T : EventFault → Type 0 = λ f. RefusesNow refusal mapped j.answer f in
    let N : Option EventFault → Type 0 = λ r. RefusesNow r mapped j.answer (Poison done) in
    let A : Option Done → Type 0 = λ a. IsAsked AsksLane n old new a in
    let R : Reply → Type 0 = λ r. IsCausedReply o old.number new.count r in
    let failed : IsTrue mapped × (done.failed ≡ true) × (j.answer ≡ Some done) = subst N none (subst T is refused) in
    let told : AsksLane old n done new = subst A failed.2 j.is_asked in
    let own : IsServed o done new = told.serves o served in
    subst R (sym said) (record { own = told.tells.lane; rose = told.tells.rose failed.1; counted = omega (arith, told.tells.after); may = own.may failed.1; bound = own.bound })

pub returns-in-Err-Poison-clause-caused : goal.returns-in-Err-Poison-clause-caused
returns-in-Err-Poison-clause-caused g c o serves =
    let job = c.args.job.now in
    let range : RangeView = c.args.range.now in
    let none : direct_now_refusal range c.begin_of-block.result ≡ None =
    ap (direct_now_refusal range) c.begin_of-block.ensures ∙ not_refused c.args.script.now job range c.requires.job c.requires.opened in
    caused_by o _ _ (now_count range c.begin_of-block.result (pages_of c.in_ok-pages.pages)) c.in-Err-Poison.ensures.judged (direct_now_refusal range c.begin_of-block.result) (begins_mapped (cells_from range c.begin_of-block.result))
    c.in-Err-Poison.field-0 c.in-Err-Poison.done c.failed_end.result.answer.reply none c.in-Err-Poison.field-0-is c.in-Err-Poison.ensures.refused serves c.failed_end.ensures.reply
