-- The run of blocks that is read: its cells, its bytes, and what one event reads of it.
use Rattle.std.proofs.Common.{◌≡◌, ℕ, zero, suc, ◌+◌, ◌-◌, ◌*◌, ◌%◌, ◌<◌, ◌≤◌, Bool, true, false, List, [], ◌∷◌, ◌++◌, Some, None, Option, nat_eq, if◌then◌else◌, get_or, length, take, drop, replicate, Result, Ok, Err, refl, sym, ap, ◌∙◌, arith, subst, eq-eqb}
use Rattle.std.specs.Bool.{MatchBool}
use Rattle.std.specs.List.{AllByRecursion, prefix_len}
use Rattle.std.specs.Prelude.{All, IfOk}
use Rattle.std.proofs.lemmas.Bool.{le-leb, lt-ltb}
use Rattle.std.proofs.Math.Nat.{mod-eq-sub-div-mul, mod-lt}
use Rattle.std.proofs.lemmas.List.{drop-append-le, length-replicate, take_all}
use Rattle.std.proofs.lemmas.List.Elements.{All-from_recursion, All-head, All-replicate, All-tail, All-weaker}
use Rattle.iob_base.specs.DeviceBlock.{DeviceBlock, device_block}
use Rattle.iob_base.specs.Parting.{pages_of}
use Rattle.iob_base.specs.declared.part.Part.{Part}
use Rattle.iob_base.specs.declared.sector.Page.{Page}
use Rattle.io_model.specs.Contents.{Content, device_bytes, mapped_or_zeros, opening_content}
use Rattle.io_model.specs.Kinds.{covers, kind_after, kind_at, mapped_number}
use Rattle.io_model.specs.RunText.{is_error}
use Rattle.io_model.specs.declared.file.Extent.{Extent}
use Rattle.io_model.specs.declared.run.CallEnd.{CallEnd}
use Rattle.io_model.specs.declared.file.Kind.{Kind}
use Rattle.io_model.specs.declared.file.Kind.TheVariants.{Hole, Mapped}
use Rattle.io_model.specs.declared.script.Script.{Script}
use Rattle.iomap_replay.proofs.Joined.{length-joined}
use Rattle.iomap_replay.proofs.OneContents.{length-opening}
use Rattle.iomap_replay.proofs.OneFile.{rest_at, inside, cells-dropped, start_rest}
use Rattle.iomap_replay.proofs.OneRange.{first_is, length-device}
use Rattle.iomap_replay.proofs.OneRead.{is_at}
use Rattle.iomap_replay.proofs.Spans.{size-some}
use Rattle.iomap_replay.specs.Devices.{blocks_with, first_number}
use Rattle.iomap_replay.specs.Jobs.{IsJobOf, script_of_job}
use Rattle.iomap_replay.specs.OneRead.{blank, block_of, bytes_of, count_of, joined_from, opened_range, IsOpened, GaveRange, GaveNothing, IsOutcome, IsWholeEnd}
use Rattle.iomap_replay.specs.Runs.{read_stamp, sector_with}
use Rattle.iomap_replay.specs.declared.job.Job.{Job}
use Rattle.range_core.proofs.CellLemmas.{length-cells_of, length-kinds_from}
use Rattle.range_core.proofs.FirstTruth.{IsUntouched, all_cold}
use Rattle.range_core.specs.Cells.{cells_of, cold_cell, sectors_after}
use Rattle.fault_device.specs.LaneView.{LaneView}
use Rattle.fault_device.specs.Opening.{Opening, Serves}
use Rattle.fault_device.specs.declared.lane.Done.{Done}
use Rattle.range_core.specs.Judges.{AsksLane, IsAsked, Judges}
use Rattle.range_core.specs.DirectNows.{CanReadNow, after_direct_now, is_clean_home, now_count, now_length, pages_filled, without_mapped_page}
use Rattle.range_core.specs.Events.{with_stamps}
use Rattle.range_core.specs.Kinds.{is_mapped, kinds_from}
use Rattle.range_core.specs.OnRun.{on_each, on_run}
use Rattle.range_core.specs.RangeView.{RangeView, cells_from}
use Rattle.range_core.specs.Refusals.{◌orElse◌, away, direct_now_refusal, dirty, first_that_stops}
use Rattle.range_core.specs.Runs.{run_length, run_from}
use Rattle.range_core.specs.Stamps.{stamps_from}
use Rattle.range_core.specs.declared.cell.Cell.{Cell}

-- a mapped block with its device block
abbrev pub mapped_cell : (ℕ → Content) → ℕ → Cell
mapped_cell content m = cold_cell (Mapped m) (Some (device_block m (content m)))

-- so many mapped blocks, whose device blocks go on by one
abbrev pub mapped_run : (ℕ → Content) → ℕ → ℕ → List Cell
mapped_run content m zero = []
mapped_run content m (suc k) = mapped_cell content m ∷ mapped_run content (m + 1) k

-- these blocks begin with such a run
pub record BeginsWith (content : ℕ → Content) (m k : ℕ) (cells : List Cell) : Type 0 where
  pub others : List Cell
  pub is : cells ≡ mapped_run content m k ++ others

-- the blocks of a file with one extent from one on, with the sectors that are left there
abbrev pub cells_at : (ℕ → Content) → Extent → ℕ → ℕ → ℕ → List Cell
cells_at content e d c n = cells_of (kinds_from (e ∷ []) c n) (rest_at content d e.block (e.block + e.length) c)

-- the kind of a block of the extent
kind-inside : (e : Extent) (d c : ℕ) → e.kind ≡ Mapped d → e.block ≤ c → c < e.block + e.length → kind_at (e ∷ []) c ≡ Mapped (d + (c - e.block))
kind-inside e d c kind low high =
    let covered : covers e c ≡ true = rw (le-leb _ _ low, lt-ltb _ _ high) refl in
    ap (λ (t : Bool). if t then kind_after e.kind (c - e.block) else Hole) covered ∙ ap (λ k. kind_after k (c - e.block)) kind

begins : (content : ℕ → Content) (e : Extent) (d : ℕ) → e.kind ≡ Mapped d → (k c n : ℕ) → e.block ≤ c → c + k ≤ e.block + e.length → k ≤ n
    → BeginsWith content (d + (c - e.block)) k (cells_at content e d c n)
begins content e d kind zero c n low high within = record { others = cells_at content e d c n; is = refl }
begins content e d kind (suc k) c zero low high within = absurd (omega (arith, within))
begins content e d kind (suc k) c (suc n) low high within =
    let m = d + (c - e.block) in
    let below : c < e.block + e.length = omega (arith, high) in
    let next : d + (c + 1 - e.block) ≡ m + 1 = omega (arith, low) in
    let is : kind_at (e ∷ []) c ≡ Mapped m = kind-inside e d c kind low below in
    let here = inside content e d c kind low below in
    let rest = begins content e d kind k (c + 1) n (omega (arith, low)) (omega (arith, high)) (omega (arith, within)) in
    let cell : Option DeviceBlock → Kind → Cell = λ sector kind. cold_cell kind sector in
    let others = cells_of (kinds_from (e ∷ []) (c + 1) n) (sectors_after (kind_at (e ∷ []) c) (rest_at content d e.block (e.block + e.length) c)) in
    record {
      others = rest.others;
      is = ap (λ sector. cell sector (kind_at (e ∷ []) c) ∷ others) here.cell
          ∙ ap (λ kind. cell (sector_with content (mapped_number kind)) kind ∷ others) is
          ∙ ap (λ sectors. mapped_cell content m ∷ cells_of (kinds_from (e ∷ []) (c + 1) n) sectors) here.rest
          ∙ ap (λ cells. mapped_cell content m ∷ cells) (rest.is ∙ ap (λ i. mapped_run content i k ++ rest.others) next);
    }

-- the contents of the run's blocks are those of their device blocks
contents-inside : (script : Script) (job : Job) (d : ℕ) → IsJobOf script job → job.extent.kind ≡ Mapped d
    → (k c : ℕ) → job.extent.block ≤ c → c + k ≤ job.extent.block + job.extent.length
    → joined_from (opening_content script 0) c k ≡ joined_from (device_bytes script) (d + (c - job.extent.block)) k
contents-inside script job d of kind zero c low high = refl
contents-inside script job d of kind (suc k) c low high =
    let e = job.extent in
    let m = d + (c - e.block) in
    let next : d + (c + 1 - e.block) ≡ m + 1 = omega (arith, low) in
    let here : opening_content script 0 c ≡ device_bytes script m =
    ap (λ s. opening_content s 0 c) of.is
    ∙ ap (λ k. mapped_or_zeros (script_of_job of.name job script.blocks) (mapped_number k)) (kind-inside e d c kind low (omega (arith, high)))
    ∙ sym (ap (λ s. device_bytes s m) of.is) in
    ap (λ bytes. bytes ++ joined_from (opening_content script 0) (c + 1) k) here
    ∙ ap (λ rest. device_bytes script m ++ rest) (contents-inside script job d of kind k (c + 1) (omega (arith, low)) (omega (arith, high))
    ∙ ap (λ i. joined_from (device_bytes script) i k) next)

-- the range of the call is a run of mapped blocks, whose bytes are the opening contents
pub record IsHere (script : Script) (b k : ℕ) (cells : List Cell) : Type 0 where
  pub number : ℕ
  pub begin : BeginsWith (device_bytes script) number k cells
  pub bytes : joined_from (opening_content script 0) b k ≡ joined_from (device_bytes script) number k

pub here : (script : Script) (job : Job) (r : RangeView) → IsJobOf script job → IsOpened script job r → IsHere script (block_of job) (count_of job) (cells_from r (block_of job))
here script job r of opened =
    let e = job.extent in
    let b = block_of job in
    let k = count_of job in
    let at = is_at job of.shape in
    let on = of.shape.tail.extent in
    let d = on.mapped.0 in
    let kind = on.mapped.1 in
    let content : ℕ → Content = device_bytes script in
    let first : blocks_with content (first_number e.kind) e.length ≡ rest_at content d e.block (e.block + e.length) 0 =
    ap (λ n. blocks_with content n e.length) (first_is e d kind) ∙ sym (start_rest content e d) in
    let whole : b - 0 ≡ b = omega arith in
    let place : 0 + b ≡ b = omega arith in
    let run = begins content e d kind k b (job.blocks - b) at.low at.high (omega (arith, at.high, at.inside)) in
    record {
      number = d + (b - e.block);
      begin = record {
        others = run.others;
        is = ap (λ (v : RangeView). cells_from v b) opened
            ∙ ap (λ sectors. drop (b - 0) (cells_of (kinds_from (e ∷ []) 0 job.blocks) sectors)) first
            ∙ ap (λ i. drop i (cells_at content e d 0 job.blocks)) whole
            ∙ cells-dropped content e d kind b 0 job.blocks
            ∙ ap (λ c. cells_at content e d c (job.blocks - b)) place ∙ run.is;
      };
      bytes = contents-inside script job d of kind k b at.low at.high;
    }

-- what the pages have after a run of mapped blocks was read
pub filled-bytes : (content : ℕ → Content) (size m k : ℕ) (others : List Cell) (pages : List Page) → length pages ≡ k
    → bytes_of (pages_filled size k (mapped_run content m k ++ others) pages) ≡ joined_from content m k
filled-bytes content size m zero others [] many = refl
filled-bytes content size m zero others (p ∷ pages) many = absurd (omega (arith, many))
filled-bytes content size m (suc k) others [] many = absurd (omega (arith, many))
filled-bytes content size m (suc k) others (p ∷ pages) many =
    ap (λ rest. content m ++ rest) (filled-bytes content size (m + 1) k others pages (omega (arith, many)))

filled-sized : (content : ℕ → Content) (size s m k : ℕ) (others : List Cell) (pages : List Page) → ((i : ℕ) → length (content i) ≡ size) → length pages ≡ k
    → AllByRecursion (λ (p : Page). length p.bytes ≡ size) (pages_filled s k (mapped_run content m k ++ others) pages)
filled-sized content size s m zero others [] whole many = tt
filled-sized content size s m zero others (p ∷ pages) whole many = absurd (omega (arith, many))
filled-sized content size s m (suc k) others [] whole many = absurd (omega (arith, many))
filled-sized content size s m (suc k) others (p ∷ pages) whole many =
    (whole m, filled-sized content size s (m + 1) k others pages whole (omega (arith, many)))

-- the run goes on over all of these blocks
run_from-mapped : (content : ℕ → Content) (m i k : ℕ) (others : List Cell) → run_from (Mapped m) i (mapped_run content (m + i) k ++ others) k ≡ k
run_from-mapped content m i zero others = none others
  where
    none : (cells : List Cell) → run_from (Mapped m) i cells 0 ≡ 0
    none [] = refl
    none (c ∷ cs) = refl
run_from-mapped content m i (suc k) others =
    let own : nat_eq (m + i) (m + i) ≡ true = eq-eqb _ _ refl in
    let next : m + i + 1 ≡ m + (i + 1) = omega arith in
    ap (λ (t : Bool). if t then suc (run_from (Mapped m) (i + 1) (mapped_run content (m + i + 1) k ++ others) k) else 0) own
    ∙ ap suc (ap (λ j. run_from (Mapped m) (i + 1) (mapped_run content j k ++ others) k) next ∙ run_from-mapped content m (i + 1) k others)

pub run_length-mapped : (content : ℕ → Content) (m k : ℕ) (others : List Cell) → 0 < k → run_length (mapped_run content m k ++ others) k ≡ k
run_length-mapped content m zero others some = absurd (omega (arith, some))
run_length-mapped content m (suc k) others some =
    let own : nat_eq (m + 0) m ≡ true = eq-eqb _ _ (omega arith) in
    ap (λ (t : Bool). if t then suc (run_from (Mapped m) 1 (mapped_run content (m + 1) k ++ others) k) else 0) own
    ∙ ap suc (run_from-mapped content m 1 k others)

-- all of them are at home and not dirty
clean-mapped : (content : ℕ → Content) (m k : ℕ) (others : List Cell) → prefix_len is_clean_home (take k (mapped_run content m k ++ others)) ≡ k
clean-mapped content m zero others = refl
clean-mapped content m (suc k) others =
    let z : 1 + k ≡ suc k = omega arith in
    ap (λ n. 1 + n) (clean-mapped content (m + 1) k others) ∙ z

-- so all of them are read
now_length-mapped : (content : ℕ → Content) (m k : ℕ) (others : List Cell) → 0 < k → now_length (mapped_run content m k ++ others) k ≡ k
now_length-mapped content m k others some =
    ap (λ n. prefix_len is_clean_home (take n (mapped_run content m k ++ others))) (run_length-mapped content m k others some) ∙ clean-mapped content m k others

-- and none of them hinders
unhindered : (content : ℕ → Content) (b m k : ℕ) (others : List Cell) → 1 ≤ k
    → (first_that_stops away b (take 1 (mapped_run content m k ++ others)) orElse first_that_stops dirty b (take 1 (mapped_run content m k ++ others))) ≡ None
unhindered content b m zero others some = absurd (omega (arith, some))
unhindered content b m (suc k) others some = refl

pub not_refused : (script : Script) (job : Job) (r : RangeView) → IsJobOf script job → IsOpened script job r → direct_now_refusal r (block_of job) ≡ None
not_refused script job r of opened =
    let h = here script job r of opened in
    let b = block_of job in
    ap (λ cells. first_that_stops away b (take 1 cells) orElse first_that_stops dirty b (take 1 cells)) h.begin.is
    ∙ unhindered (device_bytes script) b h.number (count_of job) h.begin.others (is_at job of.shape).many

-- the run can be read at once, with as many pages of a block's length
pub can_read : (script : Script) (job : Job) (r : RangeView) → IsJobOf script job → IsOpened script job r
    → CanReadNow r (block_of job) (replicate (count_of job) (blank job.device.block_size))
can_read script job r of opened =
    let k = count_of job in
    let b = block_of job in
    let at = is_at job of.shape in
    let low = at.low in
    let high = at.high in
    let inside = at.inside in
    let some = at.many in
    let many = length-replicate k (blank job.device.block_size) in
    let C : RangeView → Type 0 = λ v. CanReadNow v b (replicate k (blank job.device.block_size)) in
    let blocks : length (opened_range script job r.seat r.space).cells ≡ job.blocks =
    length-cells_of (kinds_from (job.extent ∷ []) 0 job.blocks) (blocks_with (device_bytes script) (first_number job.extent.kind) job.extent.length) ∙ length-kinds_from (job.extent ∷ []) 0 job.blocks in
    subst C (sym opened)
    (record {
      cached = refl;
      here = record { low = omega arith; some = omega arith; high = omega arith };
      some = omega arith;
      whole = All-replicate (λ (p : Page). length p.bytes ≡ job.geometry.block_size) k (blank job.device.block_size) (length-replicate _ _ ∙ sym of.shape.size);
    })

-- blocks without pages lose none
bare_run : (low n : ℕ) (cells : List Cell) → All IsUntouched cells → on_run without_mapped_page low n cells ≡ cells
bare_run low n cells all = each 0 low n cells all
  where
    same : (c : Cell) → IsUntouched c → without_mapped_page c ≡ c
    same c cold = at (is_mapped c.kind)
      where
        at : (t : Bool) → (if t then record c { page = None } else c) ≡ c
        at true = ap (λ p. record c { page = p }) (sym cold.page)
        at false = refl

    each : (k low n : ℕ) (cells : List Cell) → All IsUntouched cells → on_each (λ _. without_mapped_page) k low n cells ≡ cells
    each k zero zero cells all = refl
    each k zero (suc n) [] all = refl
    each k zero (suc n) (c ∷ cells) all =
        ap (λ x. x ∷ on_each (λ _. without_mapped_page) (suc k) zero n cells) (same c (all 0 c (omega arith))) ∙ ap (λ l. c ∷ l) (each (suc k) zero n cells (All-tail IsUntouched c cells all))
    each k (suc low) n [] all = refl
    each k (suc low) n (c ∷ cells) all = ap (λ l. c ∷ l) (each k low n cells (All-tail IsUntouched c cells all))

-- the read leaves the stamps alone, where the range was just opened
left_stamps : (script : Script) (job : Job) (r : RangeView) (b n : ℕ) → IsOpened script job r → after_direct_now r (record { caller = 0; call = 1 }) b n ≡ with_stamps r (stamps_from b n read_stamp)
left_stamps script job r b n opened =
    let L : RangeView → Type 0 = λ v. after_direct_now v (record { caller = 0; call = 1 }) b n ≡ with_stamps v (stamps_from b n read_stamp) in
    let v : RangeView = opened_range script job r.seat r.space in
    subst L (sym opened)
    (ap (λ cells. record (with_stamps v (stamps_from b n read_stamp)) { cells = cells })
    (bare_run (b - 0) n v.cells (all_cold (kinds_from (job.extent ∷ []) 0 job.blocks) (blocks_with (device_bytes script) (first_number job.extent.kind) job.extent.length))))

-- where in its first block the range begins
pub place_is : (job : Job) → job.geometry.block_size ≡ job.device.block_size
    → job.asked.off % job.device.block_size ≡ job.asked.off - block_of job * job.geometry.block_size
place_is job size = mod-eq-sub-div-mul job.asked.off job.device.block_size ∙ ap (λ s. job.asked.off - block_of job * s) (sym size)

-- what one event read, and what it left
pub record WasReadNow (script : Script) (job : Job) (pages : List Page) (old new : RangeView) : Type 0 where
  pub bytes_are : bytes_of pages ≡ joined_from (opening_content script 0) (block_of job) (count_of job)
  pub sized : All (λ p. length p.bytes ≡ job.geometry.block_size) pages
  pub left : new ≡ with_stamps old (stamps_from (block_of job) (count_of job) read_stamp)

pub was_read : (script : Script) (job : Job) (before pages : List Page) (n : ℕ) (old new : RangeView) → IsJobOf script job
    → IsOpened script job old → length before ≡ count_of job
    → n ≡ now_count old (block_of job) before → pages ≡ pages_filled old.geometry.block_size n (cells_from old (block_of job)) before
    → new ≡ after_direct_now old (record { caller = 0; call = 1 }) (block_of job) n → WasReadNow script job pages old new
was_read script job before pages n old new of opened many run read left =
    let h = here script job old of opened in
    let b = block_of job in
    let k = count_of job in
    let at = is_at job of.shape in
    let size = old.geometry.block_size in
    let content : ℕ → Content = device_bytes script in
    let cells : cells_from old b ≡ mapped_run content h.number k ++ h.begin.others = h.begin.is in
    let all : n ≡ k = run ∙ ap (now_length (cells_from old b)) many ∙ ap (λ cs. now_length cs k) cells
    ∙ now_length-mapped content h.number k h.begin.others at.many in
    let pages_are : pages ≡ pages_filled size k (mapped_run content h.number k ++ h.begin.others) before =
    read ∙ ap (λ i. pages_filled size i (cells_from old b) before) all ∙ ap (λ cs. pages_filled size k cs before) cells in
    let S : List Page → Type 0 = λ ps. All (λ (p : Page). length p.bytes ≡ job.geometry.block_size) ps in
    record {
      bytes_are = ap bytes_of pages_are ∙ filled-bytes content size h.number k h.begin.others before many ∙ sym h.bytes;
      sized = subst S (sym pages_are) (All-from_recursion (λ (p : Page). length p.bytes ≡ job.geometry.block_size) _
          (filled-sized content job.geometry.block_size size h.number k h.begin.others before (length-device script job of) many));
      left = left ∙ left_stamps script job old b n opened ∙ ap (λ i. with_stamps old (stamps_from b i read_stamp)) all;
    }

pub gave : (script : Script) (job : Job) (pages : List Page) (end : CallEnd) (old new : RangeView) → IsJobOf script job → WasReadNow script job pages old new
    → IsWholeEnd end job.asked.length (take job.asked.length (drop (job.asked.off % job.device.block_size) (bytes_of pages)))
    → IsOutcome script job end old new
gave script job pages end old new of read end_is =
    let b = block_of job in
    let n = job.asked.length in
    let opening = joined_from (opening_content script 0) b (count_of job) in
    let whole : GaveRange script job end old new = record {
      reply = end_is.reply;
      bios = end_is.bios;
      many = end_is.many;
      got = end_is.got ∙ ap (λ bs. take n (drop (job.asked.off % job.device.block_size) bs)) read.bytes_are
          ∙ ap (λ p. take n (drop p opening)) (place_is job of.shape.size);
      pages = end_is.pages;
      left = read.left;
    } in
    let P : Bool → Type 0 = λ t. MatchBool t (GaveNothing end old new) (GaveRange script job end old new) in
    subst P (sym (ap is_error end_is.reply)) whole

-- the pages have as many bytes as the range reaches
pub reaches : (script : Script) (job : Job) (pages : List Page) (old new : RangeView) → IsJobOf script job → WasReadNow script job pages old new
    → job.asked.off % job.device.block_size + job.asked.length ≤ length (bytes_of pages)
reaches script job pages old new of read =
    let b = block_of job in
    let k = count_of job in
    let size = job.geometry.block_size in
    let at = is_at job of.shape in
    let whole : (i : ℕ) → length (opening_content script 0 i) ≡ size =
    λ i. ap (λ (s : Script). length (opening_content s 0 i)) of.is ∙ length-opening of.name job script.blocks of.shape of.whole i in
    let many = ap length read.bytes_are ∙ length-joined (opening_content script 0) size b k whole in
    let place = place_is job of.shape.size in
    let far : (b + k) * size ≡ b * size + k * size = omega arith in
    omega (arith, many, place, far, at.lies.low, at.lies.high)

-- the range begins in the first page
pub begins_in : (script : Script) (job : Job) (pages : List Page) (old new : RangeView) → IsJobOf script job → WasReadNow script job pages old new
    → All (λ (p : Page). job.asked.off % job.device.block_size ≤ length p.bytes) pages
begins_in script job pages old new of read =
    let P : Page → Type 0 = λ p. length p.bytes ≡ job.geometry.block_size in
    let Q : Page → Type 0 = λ p. job.asked.off % job.device.block_size ≤ length p.bytes in
    let turn : (p : Page) → P p → Q p = λ p is. within p is in
    All-weaker P Q turn pages read.sized
  where
    within : (p : Page) → length p.bytes ≡ job.geometry.block_size → job.asked.off % job.device.block_size ≤ length p.bytes
    within p is =
        let below = mod-lt job.asked.off (size-some job.device.block_size of.shape.device.size) in
        omega (arith, is, below, of.shape.size)

pub if_ok : {T E : Type 0} (r : Result T E) (P Q : T → Type 0) → ((x : T) → P x → Q x) → IfOk r P → IfOk r Q
if_ok (Ok x) P Q turn holds = turn x holds
if_ok (Err e) P Q turn holds = tt

-- a lane that was asked at most once still stands over the fate that it was opened with
pub still_serves : (o : Opening) (n : ℕ) (was now : LaneView) → Judges AsksLane n was now → Serves o was → Serves o now
still_serves o n was now j served = at j.answer j.is_asked
  where
    at : (answer : Option Done) → IsAsked AsksLane n was now answer → Serves o now
    at None same = subst (Serves o) (sym same) served
    at (Some done) told = (told.serves o served).still

-- the bytes of pages from a place of the first one on: its own from there, and all of the others
pub after_first : (place : ℕ) (d first : Part) (parts : List Part) → first ≡ get_or parts 0 d → 1 ≤ length parts → All (λ p. place ≤ length p.bytes) (pages_of parts)
    → drop place first.page.bytes ++ bytes_of (pages_of (take (length parts - 1) (drop 1 parts))) ≡ drop place (bytes_of (pages_of parts))
after_first place d first [] is some all = absurd (omega (arith, some))
after_first place d first (p ∷ parts) is some all =
    ap (λ (q : Part). drop place q.page.bytes ++ bytes_of (pages_of (take (length (p ∷ parts) - 1) parts))) is
    ∙ ap (λ l. drop place p.page.bytes ++ bytes_of (pages_of l)) (take_all (length (p ∷ parts) - 1) parts (omega arith))
    ∙ sym (drop-append-le place p.page.bytes (bytes_of (pages_of parts)) (All-head (λ q. place ≤ length q.bytes) p.page (pages_of parts) all))
