-- One read of a run of blocks, against the definitions of a right run, block by block.
use Rattle.std.proofs.Common.{◌≡◌, ℕ, ◌+◌, ◌-◌, ◌*◌, ◌/◌, ◌%◌, ◌<◌, ◌≤◌, Bool, true, false, not, ◌&&◌, ◌||◌, List, [], ◌∷◌, if◌then◌else◌, nat_eq, nat_lt, refl, ap, ◌∙◌, sym, zero-add, arith, eq-eqb}
use Rattle.std.specs.Prelude.{min, max}
use Rattle.std.proofs.Math.Nat.{mul-le-mul_right, div-add-mod, mod-lt, mul_comm}
use Rattle.std.proofs.lemmas.Bool.{le-ltb, le-leb, lt-ltb, ne_eqb}
use Rattle.iob_base.specs.declared.answer.Fault.{Fault}
use Rattle.iob_base.specs.declared.answer.Fault.TheVariants.{Eio, SyncEio, Again, NoMemory, NotAligned, TooFar, NoSpace, Worn}
use Rattle.iob_base.specs.declared.answer.Reply.TheVariants.{Ok, Err}
use Rattle.iob_base.specs.declared.answer.Stop.TheVariants.{Whole}
use Rattle.iob_base.specs.declared.stamp.Stamp.{Stamp}
use Rattle.io_model.specs.Answered.{answered_span, is_answered}
use Rattle.io_model.specs.Journals.{are_named_once, are_answered}
use Rattle.io_model.specs.Lawful.{is_lawful_call, is_nothing_done, may_meet}
use Rattle.io_model.specs.Budgets.{is_in_budget}
use Rattle.io_model.specs.Parts.{Span, span, span_length, range_in, blocks_met, meets}
use Rattle.io_model.specs.Ranges.{Ranged, ranged}
use Rattle.io_model.specs.declared.run.CallEnd.{CallEnd}
use Rattle.io_model.specs.declared.script.Verb.TheVariants.{Pread}
use Rattle.iomap_replay.proofs.Spans.{LiesAcross, begins-first, meets-among, meets-elsewhere, size-some}
use Rattle.iomap_replay.specs.Facts.{IsShape}
use Rattle.iomap_replay.specs.Jobs.{script_of_job}
use Rattle.iomap_replay.specs.Jobs.{one_call}
use Rattle.iomap_replay.specs.OneRead.{block_of, count_of, is_read_fault}
use Rattle.iomap_replay.specs.Runs.{is_among, read_stamp}
use Rattle.iomap_replay.specs.declared.job.Job.{Job}

-- what the proofs need of a job: its range begins in a block and meets so many, which are of the extent
-- and of the file
pub record IsAt (job : Job) (b k : ℕ) : Type 0 where
  pub lies : LiesAcross job.geometry.block_size b k job.asked.off job.asked.length
  pub low : job.extent.block ≤ b
  pub high : b + k ≤ job.extent.block + job.extent.length
  pub inside : job.extent.block + job.extent.length ≤ job.blocks
  pub many : 1 ≤ k
  pub few : k ≤ 16

pub is_at : (job : Job) → IsShape job.device job.geometry job.blocks job.extent job.asked → IsAt job (block_of job) (count_of job)
is_at job shape =
    let size = job.device.block_size in
    let off = job.asked.off in
    let end = job.asked.off + job.asked.length - 1 in
    let range = shape.tail.range in
    let some : 0 < size = size-some size shape.device.size in
    let order = begins-first size off job.asked.length some range.some in
    let whole : size * (off / size) + off % size ≡ off = div-add-mod off size in
    let turned : size * (off / size) ≡ off / size * size = mul_comm size (off / size) in
    let more : (off / size + 1) * size ≡ off / size * size + size = omega arith in
    let rest : off % size < size = mod-lt off some in
    let whole_end : size * (end / size) + end % size ≡ end = div-add-mod end size in
    let turned_end : size * (end / size) ≡ end / size * size = mul_comm size (end / size) in
    let rest_end : end % size < size = mod-lt end some in
    let count : off / size + (end / size + 1 - off / size) ≡ end / size + 1 = omega (arith, order) in
    let ends : (off / size + (end / size + 1 - off / size)) * size ≡ end / size * size + size = ap (λ c. c * size) count ∙ (let e : (end / size + 1) * size ≡ end / size * size + size = omega arith in e) in
    record {
      lies = rw shape.size (record {
        whole = some;
        some = range.some;
        low = omega (arith, whole, turned);
        begin = omega (arith, whole, turned, more, rest);
        end = omega (arith, whole_end, turned_end, ends, range.some);
        high = omega (arith, whole_end, turned_end, ends, rest_end, range.some);
      });
      low = range.low;
      high = omega (arith, count, range.high);
      inside = shape.tail.extent.inside;
      many = omega (arith, order);
      few = omega (arith, range.few);
    }

-- the range of the one call, and the call with it
abbrev pub one_range : Job → Span
one_range job = range_in (job.blocks * job.geometry.block_size) job.asked.off (0 + job.asked.length)

abbrev pub one_ranged : Job → Ranged
one_ranged job = ranged (one_call job.asked) (one_range job)

-- the range of the call is not cut
pub range-is : (job : Job) (b k : ℕ) → IsAt job b k → one_range job ≡ span job.asked.off (job.asked.off + job.asked.length)
range-is job b k at =
    let size = job.geometry.block_size in
    let ends : (b + k) * size ≤ job.blocks * size = mul-le-mul_right size (let step : b + k ≤ job.blocks = omega (arith, at.high, at.inside) in step) in
    let cut : min (job.asked.off + (0 + job.asked.length)) (job.blocks * size) ≡ job.asked.off + job.asked.length = omega (arith, at.lies.high, ends) in
    ap (span job.asked.off) cut

-- the reply of a whole read speaks of its whole range
pub answered-whole : (job : Job) (b k : ℕ) → IsAt job b k
    → answered_span job.geometry.block_size (one_ranged job) (Ok job.asked.length Whole) ≡ span job.asked.off (job.asked.off + job.asked.length)
answered-whole job b k at =
    let n = job.asked.off + job.asked.length in
    let f : Span → Span = λ range. span range.from (min range.to (range.from + job.asked.length)) in
    let same : min n n ≡ n = omega arith in
    ap f (range-is job b k at) ∙ ap (span job.asked.off) same

pub is_answered-here : (job : Job) (b k c : ℕ) → IsAt job b k → is_among b k c ≡ true
    → is_answered job.geometry.block_size (one_ranged job) (Ok job.asked.length Whole) c ≡ true
is_answered-here job b k c at here =
    ap (λ s. meets job.geometry.block_size s c) (answered-whole job b k at) ∙ meets-among job.geometry.block_size b k job.asked.off job.asked.length c at.lies here

pub is_answered-elsewhere : (job : Job) (b k c : ℕ) → IsAt job b k → is_among b k c ≡ false
    → is_answered job.geometry.block_size (one_ranged job) (Ok job.asked.length Whole) c ≡ false
is_answered-elsewhere job b k c at other =
    ap (λ s. meets job.geometry.block_size s c) (answered-whole job b k at) ∙ meets-elsewhere job.geometry.block_size b k job.asked.off job.asked.length c at.lies other

-- a read that failed answered nowhere
pub is_answered-failed : (job : Job) (fault : Fault) (c : ℕ) → is_answered job.geometry.block_size (one_ranged job) (Err fault 0) c ≡ false
is_answered-failed job fault c =
    let size = job.geometry.block_size in
    let none : min 0 ((c + 1) * size) ≤ max 0 (c * size) = omega arith in
    le-ltb _ _ none

pub touches-here : (job : Job) (b k c : ℕ) → IsAt job b k → is_among b k c ≡ true → meets job.geometry.block_size (one_range job) c ≡ true
touches-here job b k c at here =
    ap (λ s. meets job.geometry.block_size s c) (range-is job b k at) ∙ meets-among job.geometry.block_size b k job.asked.off job.asked.length c at.lies here

-- a read of its whole range answers as it may
pub lawful-whole : (name : List ℕ) (job : Job) (given : List (ℕ × List ℕ)) (b k : ℕ) → IsAt job b k
    → is_lawful_call (script_of_job name job given) (one_ranged job) (Ok job.asked.length Whole) ≡ true
lawful-whole name job given b k at =
    let n = job.asked.length in
    let asks : nat_eq (0 + n) 0 ≡ false = some-asked n at.lies.some in
    let long : span_length (one_range job) ≡ n = ap span_length (range-is job b k at) ∙ (let e : job.asked.off + n - job.asked.off ≡ n = omega arith in e) in
    ap (λ (t : Bool). if t then is_nothing_done (Ok n Whole) else (nat_eq n (span_length (one_range job)) && nat_eq (span_length (one_range job)) (0 + n)) || false) asks
    ∙ ap (λ m. (nat_eq n m && nat_eq m (0 + n)) || false) long
    ∙ ap (λ (t : Bool). (t && nat_eq n (0 + n)) || false) (eq-eqb n n refl) ∙ ap (λ (t : Bool). t || false) (eq-eqb n (0 + n) (sym (zero-add n)))
  where
    some-asked : (n : ℕ) → 1 ≤ n → nat_eq (0 + n) 0 ≡ false
    some-asked n some = ne_eqb (0 + n) 0 (λ e. omega (arith, some, e))

-- a read that failed by a fault of a read answers as it may
pub lawful-failed : (name : List ℕ) (job : Job) (given : List (ℕ × List ℕ)) (fault : Fault) (b k : ℕ) → IsAt job b k → is_read_fault fault ≡ true
    → is_lawful_call (script_of_job name job given) (one_ranged job) (Err fault 0) ≡ true
lawful-failed name job given fault b k at may =
    let n = job.asked.length in
    let asks : nat_eq (0 + n) 0 ≡ false = some-asked n at.lies.some in
    ap (λ (t : Bool). if t then is_nothing_done (Err fault 0) else may_meet true (Pread job.asked.off (n ∷ [])) fault && true) asks
    ∙ ap (λ (t : Bool). t && true) (by_fault fault may)
  where
    some-asked : (n : ℕ) → 1 ≤ n → nat_eq (0 + n) 0 ≡ false
    some-asked n some = ne_eqb (0 + n) 0 (λ e. omega (arith, some, e))

    by_fault : (f : Fault) → is_read_fault f ≡ true → may_meet true (Pread job.asked.off (job.asked.length ∷ [])) f ≡ true
    by_fault (Eio _ _ _) m = refl
    by_fault NoMemory m = refl
    by_fault (SyncEio _ _) m = absurd (cc)
    by_fault (Again _) m = absurd (cc)
    by_fault (NotAligned _) m = absurd (cc)
    by_fault (TooFar _ _) m = absurd (cc)
    by_fault (NoSpace _ _) m = absurd (cc)
    by_fault (Worn _) m = absurd (cc)

-- at most one bio is no more than the blocks that the range meets
pub in-budget : (name : List ℕ) (job : Job) (given : List (ℕ × List ℕ)) (b k bios : ℕ) → IsAt job b k → bios ≤ 1
    → is_in_budget (script_of_job name job given) (one_ranged job) bios ≡ true
in-budget name job given b k bios at few =
    let size = job.geometry.block_size in
    let off = job.asked.off in
    let n = job.asked.length in
    let some : 1 ≤ n = at.lies.some in
    let order = begins-first size off n at.lies.whole some in
    let below : nat_lt off (off + n) ≡ true = lt-ltb _ _ (omega (arith, some)) in
    let met : 1 ≤ (off + n - 1) / size + 1 - off / size = omega (arith, order) in
    let blocks : blocks_met size (one_range job) ≡ (off + n - 1) / size + 1 - off / size =
    ap (blocks_met size) (range-is job b k at) ∙ ap (λ (t : Bool). if t then (off + n - 1) / size + 1 - off / size else 0) below in
    let within : bios ≤ blocks_met size (one_range job) = omega (arith, met, blocks, few) in
    le-leb _ _ within

-- a test of the stamps at a block, where they stand at some blocks alone
pub by_block : (t : Bool) (stamps : List Stamp) (test : List Stamp → Bool) → (t ≡ true → test stamps ≡ true) → (t ≡ false → test [] ≡ true)
    → test (if t then stamps else []) ≡ true
by_block true stamps test here elsewhere = here refl
by_block false stamps test here elsewhere = elsewhere refl

-- the one stamp names the call
pub named-here : (job : Job) (b k c : ℕ) → IsAt job b k → is_among b k c ≡ true
    → are_named_once job.geometry.block_size (one_ranged job ∷ []) (0 ∷ []) 0 c (read_stamp ∷ []) ≡ true
named-here job b k c at here = ap (λ (t : Bool). ((t && true) && true) && true) (touches-here job b k c at here)

-- the call stands where it answered
pub answered-here : (job : Job) (b k c : ℕ) (end : CallEnd) → IsAt job b k → is_among b k c ≡ true
    → end.answer.reply ≡ Ok job.asked.length Whole → are_answered job.geometry.block_size (one_ranged job ∷ []) (end ∷ []) 0 c (read_stamp ∷ []) ≡ true
answered-here job b k c end at here reply =
    ap (λ (t : Bool). t && true) (ap (λ r. is_answered job.geometry.block_size (one_ranged job) r c) reply ∙ is_answered-here job b k c at here)

pub answered-elsewhere : (job : Job) (c : ℕ) (end : CallEnd) → is_answered job.geometry.block_size (one_ranged job) end.answer.reply c ≡ false
    → are_answered job.geometry.block_size (one_ranged job ∷ []) (end ∷ []) 0 c [] ≡ true
answered-elsewhere job c end none = ap (λ (t : Bool). not t && true) none
