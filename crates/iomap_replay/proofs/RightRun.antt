-- A run of one read is right: what is true block by block, joined.
use Rattle.std.proofs.Common.{◌≡◌, ℕ, ◌*◌, ◌<◌, ◌≤◌, ◌+◌, Bool, true, false, not, ◌&&◌, ◌||◌, List, [], ◌∷◌, Option, None, nat_eq, nat_le, if◌then◌else◌, is_some, length, take, drop, ◌-◌, refl, sym, ap, ◌∙◌, arith, eq-eqb, subst}
use Rattle.std.proofs.lemmas.Bool.{le-leb}
use Rattle.std.specs.Prelude.{IsTrue}
use Rattle.std.specs.List.{list_all, list_any}
use Rattle.std.specs.Str.{bytes_eq}
use Rattle.iob_base.specs.DeviceBlock.{DeviceBlock}
use Rattle.iob_base.specs.declared.answer.Fault.{Fault}
use Rattle.iob_base.specs.declared.answer.Fault.TheVariants.{Eio, SyncEio, Again, NoMemory, NotAligned, TooFar, NoSpace, Worn}
use Rattle.iob_base.specs.declared.answer.Reply.TheVariants.{Ok, Err}
use Rattle.iob_base.specs.declared.answer.Stop.TheVariants.{Whole}
use Rattle.iob_base.specs.declared.stamp.Stamp.{Stamp}
use Rattle.io_model.specs.Causes.{is_done_mark}
use Rattle.io_model.specs.Contents.{Content, device_bytes, opening_content}
use Rattle.io_model.specs.Effects.{replayed}
use Rattle.io_model.specs.Finals.{IsFinalContent, final_content, device_content}
use Rattle.io_model.specs.Fitting.{Fits, is_merged_from, is_block_end, is_file_end, is_again, is_again_reply, has_size, is_own_sector, is_size_end}
use Rattle.io_model.specs.Journals.{IsLawfulJournal, each_block, are_named_once, are_answered, are_in_caller_order, are_in_phase_order, are_marked}
use Rattle.io_model.specs.Budgets.{OneCaller, is_in_budget, is_reserved}
use Rattle.io_model.specs.Conversion.{ShowsConversion, is_converted, is_wipe}
use Rattle.io_model.specs.Kinds.{covers, kind_after, kind_at, mapped_number, device_number}
use Rattle.io_model.specs.Lawful.{is_lawful_call}
use Rattle.io_model.specs.Lists.{each_from}
use Rattle.io_model.specs.Parts.{span_length}
use Rattle.io_model.specs.Space.{KeepsSpace, has_space, is_clean, is_hole, keeps_block, keeps_kind, keeps_space}
use Rattle.io_model.specs.Answered.{is_answered}
use Rattle.io_model.specs.Reads.{is_read_reply, gives_block, gives_bytes}
use Rattle.io_model.specs.Right.{RunIsRight}
use Rattle.io_model.specs.declared.file.BlockEnd.{BlockEnd}
use Rattle.io_model.specs.declared.file.FileEnd.{FileEnd}
use Rattle.io_model.specs.declared.file.Extent.{Extent}
use Rattle.io_model.specs.declared.file.Kind.{Kind}
use Rattle.io_model.specs.declared.file.Kind.TheVariants.{Hole, Delalloc, Unwritten, Mapped}
use Rattle.io_model.specs.declared.file.SizeStamp.{SizeStamp}
use Rattle.io_model.specs.declared.run.CallEnd.{CallEnd}
use Rattle.io_model.specs.declared.run.LaneEnd.{LaneEnd}
use Rattle.io_model.specs.declared.script.Script.{Script}
use Rattle.iomap_replay.proofs.OneContents.{gives-here, gives-elsewhere, bytes_eq-refl, device_content-opening, sector_fits, sector_whole, length-device_bytes}
use Rattle.iomap_replay.proofs.OneParted.{parted}
use Rattle.iomap_replay.proofs.OneRead.{IsAt, one_range, one_ranged, range-is, by_block, named-here, answered-here, answered-elsewhere, is_answered-elsewhere, is_answered-failed, lawful-whole, lawful-failed, in-budget}
use Rattle.iomap_replay.proofs.Tables.{each_from-tabulated, length-tabulated}
use Rattle.iomap_replay.specs.Devices.{SameNumbers, blocks_beside, first_number}
use Rattle.iomap_replay.specs.Facts.{IsShape, is_whole}
use Rattle.iomap_replay.specs.Jobs.{script_of_job}
use Rattle.iomap_replay.specs.Jobs.{one_file}
use Rattle.iomap_replay.specs.OneRead.{joined_from, is_read_fault, bios_of}
use Rattle.iomap_replay.specs.Runs.{is_among, read_stamp, one_run, read_end, sector_with, tabulated}
use Rattle.iomap_replay.specs.declared.job.Job.{Job}

-- the mapped blocks of a file with one extent
abbrev pub mapped_in : Job → ℕ → Option ℕ
mapped_in job i = mapped_number (kind_at (job.extent ∷ []) i)

-- the end of a file that was only read
pub record IsReadFile (script : Script) (job : Job) (read : ℕ → Bool) (stamps : List Stamp) (file : FileEnd) : Type 0 where
  pub blocks : file.blocks ≡ tabulated (read_end (device_bytes script) (mapped_in job) read stamps) 0 job.blocks
  pub merged : IsTrue (is_merged_from 0 job.blocks file.extents)
  pub kinds : (i : ℕ) → i < job.blocks → kind_at file.extents i ≡ kind_at (job.extent ∷ []) i
  pub size : file.size ≡ None
  pub sizes : file.sizes ≡ []

-- the end of the one call, with the stamps that it left on the blocks that it met
pub record IsReadCall (script : Script) (job : Job) (read : ℕ → Bool) (stamps : List Stamp) (file : FileEnd) (end : CallEnd) : Type 0 where
  pub named : (i : ℕ) → read i ≡ true → are_named_once job.geometry.block_size (one_ranged job ∷ []) (0 ∷ []) 0 i stamps ≡ true
  pub here : (i : ℕ) → read i ≡ true → are_answered job.geometry.block_size (one_ranged job ∷ []) (end ∷ []) 0 i stamps ≡ true
  pub elsewhere : (i : ℕ) → read i ≡ false → are_answered job.geometry.block_size (one_ranged job ∷ []) (end ∷ []) 0 i [] ≡ true
  pub caller_order : are_in_caller_order script.calls stamps ≡ true
  pub phase_order : are_in_phase_order script.calls stamps ≡ true
  pub marked : are_marked script (end ∷ []) stamps ≡ true
  pub silent : (i : ℕ) → replayed script (one_ranged job ∷ []) 0 i stamps ≡ opening_content script 0 i
  pub reply : is_read_reply script (one_ranged job ∷ []) (file ∷ []) 1 (one_ranged job) end ≡ true
  pub lawful : is_lawful_call script (one_ranged job) end.answer.reply ≡ true
  pub budget : is_in_budget script (one_ranged job) end.answer.bios ≡ true
  pub unwiped : (i : ℕ) → list_any (is_wipe job.geometry.block_size (one_ranged job ∷ []) i) stamps ≡ false
  pub waited : is_again_reply end.answer.reply ≡ false
  pub pages : end.pages ≡ []

-- a test of each block of the one file
each_block-one : (test : ℕ → ℕ → BlockEnd → Bool) (file : FileEnd) (f : ℕ → BlockEnd) (n : ℕ) → file.blocks ≡ tabulated f 0 n
    → ((i : ℕ) → i < n → test 0 i (f i) ≡ true) → each_block test (file ∷ []) ≡ true
each_block-one test file f n is all =
    ap (λ blocks. each_from (test 0) 0 blocks && true) is
    ∙ ap (λ (t : Bool). t && true) (each_from-tabulated (test 0) f 0 n (λ i low high. all i (let within : i < n = omega arith in within)))

-- a test of the journals of the one file, whose stamps stand at the blocks that were read
journals : (test : ℕ → ℕ → List Stamp → Bool) (script : Script) (job : Job) (read : ℕ → Bool) (stamps : List Stamp) (file : FileEnd) → IsReadFile script job read stamps file
    → ((i : ℕ) → read i ≡ true → test 0 i stamps ≡ true) → ((i : ℕ) → read i ≡ false → test 0 i [] ≡ true)
    → each_block (λ f b block. test f b block.journal) (file ∷ []) ≡ true
journals test script job read stamps file is here elsewhere =
    each_block-one (λ f b block. test f b block.journal) file (read_end (device_bytes script) (mapped_in job) read stamps) job.blocks is.blocks
    (λ i within. by_block (read i) stamps (test 0 i) (here i) (elsewhere i))

-- no stamp is a mark of failure
pub all_done : (script : Script) (job : Job) (read : ℕ → Bool) (stamps : List Stamp) (file : FileEnd) → IsReadFile script job read stamps file
    → list_all (λ (st : Stamp). is_done_mark st.mark) stamps ≡ true
    → each_block (λ f b block. list_all (λ st. is_done_mark st.mark) block.journal) (file ∷ []) ≡ true
all_done script job read stamps file is done =
    journals (λ _ _ sts. list_all (λ (st : Stamp). is_done_mark st.mark) sts) script job read stamps file is (λ _ _. done) (λ _ _. refl)

lawful : (name : List ℕ) (job : Job) (given : List (ℕ × List ℕ)) (read : ℕ → Bool) (stamps : List Stamp) (file : FileEnd) (end : CallEnd) (free : List DeviceBlock) (lanes : List LaneEnd)
    → IsReadFile (script_of_job name job given) job read stamps file → IsReadCall (script_of_job name job given) job read stamps file end
    → IsLawfulJournal (script_of_job name job given) (0 ∷ []) (one_run end file free lanes)
lawful name job given read stamps file end free lanes is call =
    let script = script_of_job name job given in
    let calls = one_ranged job ∷ [] in
    record {
      named_once = journals (are_named_once job.geometry.block_size calls (0 ∷ [])) script job read stamps file is call.named (λ _ _. refl);
      answered = journals (are_answered job.geometry.block_size calls (end ∷ [])) script job read stamps file is call.here call.elsewhere;
      in_caller_order = journals (λ _ _ sts. are_in_caller_order script.calls sts) script job read stamps file is (λ _ _. call.caller_order) (λ _ _. refl);
      in_phase_order = journals (λ _ _ sts. are_in_phase_order script.calls sts) script job read stamps file is (λ _ _. call.phase_order) (λ _ _. refl);
      failed_marks = journals (λ _ _ sts. are_marked script (end ∷ []) sts) script job read stamps file is (λ _ _. call.marked) (λ _ _. refl);
    }

-- the final contents, block by block
contents : (name : List ℕ) (job : Job) (given : List (ℕ × List ℕ)) (read : ℕ → Bool) (stamps : List Stamp) (file : FileEnd) (end : CallEnd) (free : List DeviceBlock) (lanes : List LaneEnd)
    → IsReadFile (script_of_job name job given) job read stamps file → IsReadCall (script_of_job name job given) job read stamps file end
    → IsFinalContent (script_of_job name job given) (one_run end file free lanes)
contents name job given read stamps file end free lanes is call =
    let script = script_of_job name job given in
    let size = job.geometry.block_size in
    let content : ℕ → Content = device_bytes script in
    let test : ℕ → ℕ → BlockEnd → Bool = λ f b block.
    bytes_eq (final_content size (mapped_number (kind_at file.extents b)) block.sector block.dirty) (replayed script (one_ranged job ∷ []) f b block.journal) in
    each_block-one test file (read_end content (mapped_in job) read stamps) job.blocks is.blocks
    (λ i within.
    let opening : device_content size (mapped_number (kind_at file.extents i)) (sector_with content (mapped_in job i)) ≡ opening_content script 0 i =
    ap (λ k. device_content size (mapped_number k) (sector_with content (mapped_in job i))) (is.kinds i within) ∙ device_content-opening script (mapped_in job i) in
    by_block (read i) stamps
    (λ sts. bytes_eq (device_content size (mapped_number (kind_at file.extents i)) (sector_with content (mapped_in job i))) (replayed script (one_ranged job ∷ []) 0 i sts))
    (λ _. ap (λ bytes. bytes_eq bytes (replayed script (one_ranged job ∷ []) 0 i stamps)) opening
    ∙ ap (λ bytes. bytes_eq (opening_content script 0 i) bytes) (call.silent i) ∙ bytes_eq-refl (opening_content script 0 i))
    (λ _. ap (λ bytes. bytes_eq bytes (opening_content script 0 i)) opening ∙ bytes_eq-refl (opening_content script 0 i)))

-- the file fits: each block has a whole sector exactly where it is mapped
file_fits : (name : List ℕ) (job : Job) (given : List (ℕ × List ℕ)) (d : ℕ) (read : ℕ → Bool) (stamps : List Stamp) (file : FileEnd)
    → IsShape job.device job.geometry job.blocks job.extent job.asked → list_all (is_whole job.device) given ≡ true → job.extent.kind ≡ Mapped d
    → IsReadFile (script_of_job name job given) job read stamps file
    → is_file_end job.geometry.block_size (one_file job.blocks job.extent) file ≡ true
file_fits name job given d read stamps file shape whole kind is =
    let script = script_of_job name job given in
    let size = job.geometry.block_size in
    let content : ℕ → Content = device_bytes script in
    let f = read_end content (mapped_in job) read stamps in
    let many : nat_eq (length file.blocks) job.blocks ≡ true = eq-eqb _ _ (ap length is.blocks ∙ length-tabulated f 0 job.blocks) in
    let each : each_from (is_block_end size file.extents) 0 file.blocks ≡ true =
    ap (each_from (is_block_end size file.extents) 0) is.blocks
    ∙ each_from-tabulated (is_block_end size file.extents) f 0 job.blocks (λ i low high.
    let within : i < job.blocks = omega arith in
    let placed : is_own_sector (sector_with content (mapped_in job i)) (device_number (kind_at file.extents i)) ≡ true =
    ap (λ k. is_own_sector (sector_with content (mapped_in job i)) (device_number k)) (is.kinds i within) ∙ sector_fits content job.extent d i kind in
    let sized : has_size size (sector_with content (mapped_in job i)) ≡ true =
    sector_whole content size (mapped_in job i) (λ n. length-device_bytes name job given n shape whole) in
    ap (λ (t : Bool). t && (has_size size (sector_with content (mapped_in job i)) && true)) placed ∙ ap (λ (t : Bool). t && true) sized) in
    let unsized : is_size_end None file.size file.sizes ≡ true = ap (λ now. is_size_end None now file.sizes) is.size ∙ ap (λ (sts : List SizeStamp). nat_eq (length sts) 0) is.sizes in
    let rest = each_from (is_block_end size file.extents) 0 file.blocks in
    ap (λ (t : Bool). t && (is_merged_from 0 job.blocks file.extents && (rest && is_size_end None file.size file.sizes))) many
    ∙ ap (λ (t : Bool). t && (rest && is_size_end None file.size file.sizes)) is.merged
    ∙ ap (λ (t : Bool). t && is_size_end None file.size file.sizes) each ∙ unsized

fits : (name : List ℕ) (job : Job) (given : List (ℕ × List ℕ)) (d : ℕ) (read : ℕ → Bool) (stamps : List Stamp) (file : FileEnd) (end : CallEnd) (free : List DeviceBlock) (lanes : List LaneEnd)
    → IsShape job.device job.geometry job.blocks job.extent job.asked → list_all (is_whole job.device) given ≡ true → job.extent.kind ≡ Mapped d
    → IsReadFile (script_of_job name job given) job read stamps file → IsReadCall (script_of_job name job given) job read stamps file end
    → length lanes ≡ 17 → Fits (script_of_job name job given) (one_run end file free lanes)
fits name job given d read stamps file end free lanes shape whole kind is call many = record {
  calls = refl;
  closes = refl;
  lanes = eq-eqb _ _ many;
  files = ap (λ (t : Bool). t && true) (file_fits name job given d read stamps file shape whole kind is);
  waited = ap (λ (t : Bool). (not t && true) && true) call.waited;
}

-- a block that is mapped was mapped before, and no call gave it back
converted : (m now any w : Bool) → now ≡ m → any ≡ false → (not now || ((not any && m) || w)) ≡ true
converted true true false w same none = refl
converted false false any w same none = refl
converted true false any w same none = refl
converted false true any w same none = absurd (cc)
converted true true true w same none = absurd (cc)

-- a block of the same kind as before keeps its space
kept_same : (before now : Kind) (any gives : Bool) → now ≡ before → any ≡ false
    → ((if has_space before && not any then keeps_kind before now else not (has_space now) || gives) && not (false && is_hole now)) ≡ true
kept_same before now any gives same none =
    let K : Kind → Type 0 = λ k. ((if has_space before && not any then keeps_kind before k else not (has_space k) || gives) && not (false && is_hole k)) ≡ true in
    let A : Bool → Type 0 = λ t. ((if has_space before && not t then keeps_kind before before else not (has_space before) || gives) && not (false && is_hole before)) ≡ true in
    subst K (sym same) (subst A (sym none) (by_kind before gives))
  where
    by_kind : (k : Kind) (gives : Bool) → ((if has_space k && not false then keeps_kind k k else not (has_space k) || gives) && not (false && is_hole k)) ≡ true
    by_kind Hole gives = refl
    by_kind Delalloc gives = refl
    by_kind (Unwritten d) gives = ap (λ (t : Bool). t && true) (eq-eqb d d refl)
    by_kind (Mapped d) gives = ap (λ (t : Bool). t && true) (eq-eqb d d refl)

-- no block of a file with one mapped extent is only promised space
unreserved : (e : Extent) (d b : ℕ) → e.kind ≡ Mapped d → is_reserved (kind_at (e ∷ []) b) ≡ false
unreserved e d b kind = by_test (covers e b)
  where
    by_test : (t : Bool) → is_reserved (if t then kind_after e.kind (b - e.block) else Hole) ≡ false
    by_test true = ap (λ k. is_reserved (kind_after k (b - e.block))) kind
    by_test false = refl

conversion : (name : List ℕ) (job : Job) (given : List (ℕ × List ℕ)) (read : ℕ → Bool) (stamps : List Stamp) (file : FileEnd) (end : CallEnd) (free : List DeviceBlock) (lanes : List LaneEnd)
    → IsReadFile (script_of_job name job given) job read stamps file → IsReadCall (script_of_job name job given) job read stamps file end
    → ShowsConversion (script_of_job name job given) (one_run end file free lanes)
conversion name job given read stamps file end free lanes is call =
    let script = script_of_job name job given in
    let run = one_run end file free lanes in
    let test : ℕ → ℕ → BlockEnd → Bool = λ f b block. not (is_some (mapped_number (kind_at file.extents b))) || is_converted script run f b block.journal in
    each_block-one test file (read_end (device_bytes script) (mapped_in job) read stamps) job.blocks is.blocks
    (λ i within.
    let same : is_some (mapped_number (kind_at file.extents i)) ≡ is_some (mapped_in job i) = ap (λ k. is_some (mapped_number k)) (is.kinds i within) in
    by_block (read i) stamps (λ sts. not (is_some (mapped_number (kind_at file.extents i))) || is_converted script run 0 i sts)
    (λ _. converted _ _ _ _ same (call.unwiped i)) (λ _. converted _ _ _ _ same refl))

space : (name : List ℕ) (job : Job) (given : List (ℕ × List ℕ)) (read : ℕ → Bool) (stamps : List Stamp) (file : FileEnd) (end : CallEnd) (free : List DeviceBlock) (lanes : List LaneEnd)
    → IsReadFile (script_of_job name job given) job read stamps file → IsReadCall (script_of_job name job given) job read stamps file end
    → KeepsSpace (script_of_job name job given) (one_run end file free lanes)
space name job given read stamps file end free lanes is call =
    let script = script_of_job name job given in
    let calls = one_ranged job ∷ [] in
    let size = job.geometry.block_size in
    each_block-one (λ f b block. keeps_block script calls f file.extents b block) file (read_end (device_bytes script) (mapped_in job) read stamps) job.blocks is.blocks
    (λ i within.
    by_block (read i) stamps (λ sts. keeps_space size calls 0 i (kind_at (job.extent ∷ []) i) (kind_at file.extents i) sts && not (false && is_hole (kind_at file.extents i)))
    (λ _. kept_same _ _ _ _ (is.kinds i within) (call.unwiped i)) (λ _. kept_same _ _ _ _ (is.kinds i within) refl))

one_caller : (name : List ℕ) (job : Job) (given : List (ℕ × List ℕ)) (d : ℕ) (read : ℕ → Bool) (stamps : List Stamp) (file : FileEnd) (end : CallEnd) (free : List DeviceBlock) (lanes : List LaneEnd)
    → job.extent.kind ≡ Mapped d → IsReadFile (script_of_job name job given) job read stamps file → IsReadCall (script_of_job name job given) job read stamps file end
    → OneCaller (script_of_job name job given) (one_run end file free lanes)
one_caller name job given d read stamps file end free lanes kind is call single =
    let script = script_of_job name job given in
    record {
      calls = ap (λ (t : Bool). t && true) call.budget;
      closes = ap (λ (t : Bool). t && true) (le-leb 0 job.blocks (omega arith));
      given_back = each_block-one (λ f b block. not (is_reserved (kind_at file.extents b)) || is_some block.dirty) file
          (read_end (device_bytes script) (mapped_in job) read stamps) job.blocks is.blocks
          (λ i within. ap (λ k. not (is_reserved k) || false) (is.kinds i within) ∙ ap (λ (t : Bool). not t || false) (unreserved job.extent d i kind));
    }

-- a run of one read is right
pub right_run : (name : List ℕ) (job : Job) (given : List (ℕ × List ℕ)) (d : ℕ) (read : ℕ → Bool) (stamps : List Stamp) (file : FileEnd) (end : CallEnd) (free : List DeviceBlock) (lanes : List LaneEnd)
    → IsShape job.device job.geometry job.blocks job.extent job.asked → list_all (is_whole job.device) given ≡ true → job.extent.kind ≡ Mapped d
    → IsReadFile (script_of_job name job given) job read stamps file → IsReadCall (script_of_job name job given) job read stamps file end
    → length lanes ≡ 17 → SameNumbers free (blocks_beside (device_bytes (script_of_job name job given)) d job.extent.length job.device.blocks)
    → RunIsRight (script_of_job name job given) (0 ∷ []) (one_run end file free lanes)
right_run name job given d read stamps file end free lanes shape whole kind is call many same =
    let script = script_of_job name job given in
    record {
      fits = fits name job given d read stamps file end free lanes shape whole kind is call many;
      makers_known = refl;
      journals = lawful name job given read stamps file end free lanes is call;
      reads = ap (λ (t : Bool). t && true) call.reply;
      contents = contents name job given read stamps file end free lanes is call;
      pages = ap (λ pages. bytes_eq pages [] && true) call.pages;
      replies = record { calls = ap (λ (t : Bool). t && true) call.lawful; closes = ap (λ (t : Bool). (t && true) && true) (le-leb 0 job.blocks (omega arith)) };
      partition = parted script end file free lanes job.extent d job.blocks read stamps kind shape.tail.extent.inside
          (on_device shape.tail.extent.mapped kind) is.blocks same;
      conversion = conversion name job given read stamps file end free lanes is call;
      space = space name job given read stamps file end free lanes is call;
      allocated = refl;
      clean = ap (λ (t : Bool). t && true) (each_from-clean script job read stamps file is);
      floors = record { calls = refl; closes = refl };
      sizes = refl;
      one_caller = one_caller name job given d read stamps file end free lanes kind is call;
    }
  where
    on_device : ((n : ℕ) × (job.extent.kind ≡ Mapped n) × (n + job.extent.length ≤ job.device.blocks)) → job.extent.kind ≡ Mapped d → d + job.extent.length ≤ job.device.blocks
    on_device m is =
        let P : ℕ → Type 0 = λ n. n + job.extent.length ≤ job.device.blocks in
        let N : Kind → ℕ = λ k. first_number k in
        subst P (ap N (sym m.1 ∙ is)) m.2

    each_from-clean : (script : Script) (job : Job) (read : ℕ → Bool) (stamps : List Stamp) (file : FileEnd) → IsReadFile script job read stamps file
        → each_from (λ b block. is_clean block) 0 file.blocks ≡ true
    each_from-clean script job read stamps file is =
        let f = read_end (device_bytes script) (mapped_in job) read stamps in
        ap (each_from (λ b block. is_clean block) 0) is.blocks ∙ each_from-tabulated (λ b block. is_clean block) f 0 job.blocks (λ i low high. refl)

-- the end of a read that gave its whole range
pub whole_read : (name : List ℕ) (job : Job) (given : List (ℕ × List ℕ)) (b k : ℕ) (file : FileEnd) (end : CallEnd)
    → IsShape job.device job.geometry job.blocks job.extent job.asked → list_all (is_whole job.device) given ≡ true → IsAt job b k
    → IsReadFile (script_of_job name job given) job (is_among b k) (read_stamp ∷ []) file
    → end.answer.reply ≡ Ok job.asked.length Whole → end.answer.bios ≡ 1 → end.pages ≡ [] → length end.got ≡ job.asked.length
    → end.got ≡ take job.asked.length (drop (job.asked.off - b * job.geometry.block_size) (joined_from (opening_content (script_of_job name job given) 0) b k))
    → IsReadCall (script_of_job name job given) job (is_among b k) (read_stamp ∷ []) file end
whole_read name job given b k file end shape whole at is reply bios pages many got =
    let script = script_of_job name job given in
    let f = read_end (device_bytes script) (mapped_in job) (is_among b k) (read_stamp ∷ []) in
    let each : each_from (gives_block script (one_ranged job ∷ []) 1 (one_ranged job) end) 0 file.blocks ≡ true =
    ap (each_from (gives_block script (one_ranged job ∷ []) 1 (one_ranged job) end) 0) is.blocks
    ∙ each_from-tabulated (gives_block script (one_ranged job ∷ []) 1 (one_ranged job) end) f 0 job.blocks (λ i low high. gives i (is_among b k i) refl) in
    let n = job.asked.length in
    let all_given = each_from (gives_block script (one_ranged job ∷ []) 1 (one_ranged job) end) 0 file.blocks in
    let long : span_length (one_range job) ≡ job.asked.off + n - job.asked.off = ap span_length (range-is job b k at) in
    let within : n ≤ span_length (one_range job) = omega (arith, long) in
    record {
      named = λ i here. named-here job b k i at here;
      here = λ i here. answered-here job b k i end at here reply;
      elsewhere = λ i other. answered-elsewhere job i end (ap (λ r. is_answered job.geometry.block_size (one_ranged job) r i) reply ∙ is_answered-elsewhere job b k i at other);
      caller_order = refl;
      phase_order = refl;
      marked = refl;
      silent = λ i. refl;
      reply = ap (gives_bytes script (one_ranged job ∷ []) file.blocks 1 (one_ranged job) end) reply
          ∙ ap (λ (t : Bool). t && (nat_le n (span_length (one_range job)) && all_given)) (eq-eqb _ _ (sym many))
          ∙ ap (λ (t : Bool). t && all_given) (le-leb _ _ within) ∙ each;
      lawful = ap (is_lawful_call script (one_ranged job)) reply ∙ lawful-whole name job given b k at;
      budget = in-budget name job given b k end.answer.bios at (omega (arith, bios));
      unwiped = λ i. refl;
      waited = ap is_again_reply reply;
      pages = pages;
    }
  where
    block_at : ℕ → BlockEnd
    block_at i = read_end (device_bytes (script_of_job name job given)) (mapped_in job) (is_among b k) (read_stamp ∷ []) i

    gives : (i : ℕ) (t : Bool) → is_among b k i ≡ t → gives_block (script_of_job name job given) (one_ranged job ∷ []) 1 (one_ranged job) end i (block_at i) ≡ true
    gives i true here =
        let stamped : (if is_among b k i then read_stamp ∷ [] else []) ≡ read_stamp ∷ [] = ap (λ (t : Bool). if t then read_stamp ∷ [] else []) here in
        gives-here name job given b k i end (block_at i) shape whole at here reply stamped got
    gives i false other =
        gives-elsewhere name job given i end (block_at i)
        (ap (λ r. is_answered job.geometry.block_size (one_ranged job) r i) reply ∙ is_answered-elsewhere job b k i at other)

-- the end of a read that failed and gave nothing
pub failed_read : (name : List ℕ) (job : Job) (given : List (ℕ × List ℕ)) (b k : ℕ) (read : ℕ → Bool) (file : FileEnd) (end : CallEnd) (fault : Fault) → IsAt job b k
    → IsReadFile (script_of_job name job given) job read [] file → end.answer.reply ≡ Err fault 0 → is_again fault ≡ false → is_read_fault fault ≡ true → end.answer.bios ≡ bios_of fault → end.pages ≡ [] → end.got ≡ []
    → IsReadCall (script_of_job name job given) job read [] file end
failed_read name job given b k read file end fault at is reply waited may bios pages got =
    let script = script_of_job name job given in
    let f = read_end (device_bytes script) (mapped_in job) read [] in
    let nowhere : (i : ℕ) → is_answered job.geometry.block_size (one_ranged job) end.answer.reply i ≡ false =
    λ i. ap (λ r. is_answered job.geometry.block_size (one_ranged job) r i) reply ∙ is_answered-failed job fault i in
    record {
      named = λ i here. refl;
      here = λ i here. answered-elsewhere job i end (nowhere i);
      elsewhere = λ i other. answered-elsewhere job i end (nowhere i);
      caller_order = refl;
      phase_order = refl;
      marked = refl;
      silent = λ i. refl;
      reply = ap (gives_bytes script (one_ranged job ∷ []) file.blocks 1 (one_ranged job) end) reply ∙ ap (λ (bytes : List ℕ). nat_eq (length bytes) 0) got;
      lawful = ap (is_lawful_call script (one_ranged job)) reply ∙ lawful-failed name job given fault b k at may;
      budget = in-budget name job given b k end.answer.bios at (rw bios (bios_few fault));
      unwiped = λ i. refl;
      waited = ap is_again_reply reply ∙ waited;
      pages = pages;
    }
  where
    bios_few : (f : Fault) → bios_of f ≤ 1
    bios_few (Eio _ _ _) = omega arith
    bios_few (SyncEio _ _) = omega arith
    bios_few (Again _) = omega arith
    bios_few NoMemory = omega arith
    bios_few (NotAligned _) = omega arith
    bios_few (TooFar _ _) = omega arith
    bios_few (NoSpace _ _) = omega arith
    bios_few (Worn _) = omega arith
