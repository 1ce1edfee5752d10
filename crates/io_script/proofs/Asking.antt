-- What the calls of a generated script ask decides the journals of a run that did it all.
use Rattle.std.proofs.Common.{◌≡◌, ℕ, ◌+◌, ◌-◌, ◌<◌, ◌≤◌, ◌==◌, ◌&&◌, ◌||◌, Bool, true, false, not, min, nat_le, nat_lt, List, [], ◌∷◌, None, length, IsTrue, refl, sym, ap, ◌∙◌, subst, arith, if◌then◌else◌}
use Rattle.std.proofs.lemmas.Bool.{and_parts, and_from, eqb-true, leb-true, false≢true}
use Rattle.std.proofs.lemmas.List.{length-map}
use Rattle.std.proofs.lemmas.List.Sums.{sum_by-cons}
use Rattle.std.proofs.lemmas.Slice.Eq.{bytes_eq-Decides}
use Rattle.std.specs.List.{list_all, slice_get, sum, concat}
use Rattle.std.specs.Str.{bytes_eq}
use Rattle.iob_base.specs.declared.answer.Reply.{Reply}
use Rattle.iob_base.specs.declared.answer.Reply.TheVariants.{Ok, Err}
use Rattle.iob_base.specs.declared.stamp.Stamp.{Stamp}
use Rattle.io_model.specs.Answered.{answered_span}
use Rattle.io_model.specs.Calls.{asked_of, is_data_call, is_writeback, offset_of}
use Rattle.io_model.specs.Fitting.{Fits, is_file_end}
use Rattle.io_model.specs.Journals.{IsLawfulJournal, each_block}
use Rattle.io_model.specs.Lists.{both_from, each_from}
use Rattle.io_model.specs.OneOrder.{answered_in_order, calls_of, has_answered, places_where, touches}
use Rattle.io_model.specs.Parts.{Span, meets, range_in, span}
use Rattle.io_model.specs.Ranges.{Ranged, declared_end, range_of, range_with, ranged, ranged_calls, ranged_from, seen_by, sizes_at}
use Rattle.io_model.specs.RunText.{is_error}
use Rattle.io_model.specs.declared.file.BlockEnd.{BlockEnd}
use Rattle.io_model.specs.declared.file.FileEnd.{FileEnd}
use Rattle.io_model.specs.declared.file.FileSpec.{FileSpec}
use Rattle.io_model.specs.declared.run.CallEnd.{CallEnd}
use Rattle.io_model.specs.declared.run.Run.{Run}
use Rattle.io_model.specs.declared.script.Call.{Call}
use Rattle.io_model.specs.declared.script.Verb.{Verb}
use Rattle.io_model.specs.declared.script.Verb.TheVariants.{Pread, Pwrite, Dread, Dwrite, Xread, Xwrite, Zero, Punch, Alloc, Wb, Sync, Drop, Trunc}
use Rattle.io_script.specs.Generated.{CALLS_GENERATED, first_byte, generated, generated_file, stripe_of}
use Rattle.io_script.specs.GeneratedJournal.{AnswersWhole, asked_span, asking, did_all, generated_journal, generated_stamps, is_whole_reply, numbers_where, sum_over}
use Rattle.io_script.specs.Stripes.{asks_in_stripe, keeps_to_stripe}
use Rattle.io_script.specs.Summary.{stamps_in, stamps_on}
use Rattle.io_script.proofs.Keeping.{generated_calls-keep}
use Rattle.io_script.proofs.Meeting.{generated-in_order, told}

-- a range that ends before it is cut
cut : (end off asked : ℕ) → off + asked ≤ end → range_in end off asked ≡ span off (off + asked)
cut end off asked h = let e : min (off + asked) end ≡ off + asked = omega arith in ap (λ (t : ℕ). span off t) e

range-is : (size end : ℕ) (verb : Verb) → (is_writeback verb ≡ false → offset_of verb + asked_of verb ≤ end) → range_with size end None verb ≡ asked_span verb
range-is size end (Pread off lengths) h = cut end off (sum lengths) (h refl)
range-is size end (Pwrite off segments) h = cut end off (length (concat segments)) (h refl)
range-is size end (Dread off lengths) h = cut end off (sum lengths) (h refl)
range-is size end (Dwrite off segments) h = cut end off (length (concat segments)) (h refl)
range-is size end (Xread off lengths) h = cut end off (sum lengths) (h refl)
range-is size end (Xwrite off segments) h = cut end off (length (concat segments)) (h refl)
range-is size end (Zero off n) h = cut end off n (h refl)
range-is size end (Punch off n) h = cut end off n (h refl)
range-is size end (Alloc off n) h = cut end off n (h refl)
range-is size end (Wb from blocks) h = cut end 0 0 (omega arith)
range-is size end Sync h = cut end 0 0 (omega arith)
range-is size end Drop h = cut end 0 0 (omega arith)
range-is size end (Trunc to) h = let e : to ≡ to + 0 = omega arith in ap (λ (t : ℕ). span to t) e

-- a stripe lies in the file
pub asked-within : (stripe : ℕ) (verb : Verb) → stripe < 32 → IsTrue (asks_in_stripe stripe verb) → is_writeback verb ≡ false → offset_of verb + asked_of verb ≤ 1048576
asked-within stripe verb low asks is =
    let parts = and_parts (nat_le (first_byte stripe) (offset_of verb)) (nat_le (offset_of verb + asked_of verb) (first_byte stripe + 32768))
    (told (is_writeback verb) (nat_le (first_byte stripe) (offset_of verb) && nat_le (offset_of verb + asked_of verb) (first_byte stripe + 32768)) is asks) in
    let high = leb-true (offset_of verb + asked_of verb) (first_byte stripe + 32768) parts.1 in
    omega arith

call-range : (seed : ℕ) (files : List FileEnd) (n : ℕ) (call : Call) → IsTrue (keeps_to_stripe call) → range_of (generated seed) files n call ≡ asked_span call.verb
call-range seed files n call h =
    let stripe = stripe_of call.caller (call.phase - 1) in
    let asks = asks_in_stripe stripe call.verb in
    let few = and_parts (nat_lt call.caller 8) (nat_lt 0 call.phase && (call.file.0 == 0 && asks)) h in
    let started = and_parts (nat_lt 0 call.phase) (call.file.0 == 0 && asks) few.1 in
    let first = and_parts (call.file.0 == 0) asks started.1 in
    let zeroth = eqb-true call.file.0 0 first.0 in
    subst
    (λ f. range_with 512 (declared_end (generated seed) f) (seen_by (slice_get (generated_file ∷ []) f) n (sizes_at files f)) call.verb ≡ asked_span call.verb)
    (sym zeroth) (range-is 512 1048576 call.verb (asked-within stripe call.verb (omega arith) first.1))

ranged-are : (seed : ℕ) (files : List FileEnd) (n : ℕ) (calls : List Call) → IsTrue (list_all keeps_to_stripe calls) → ranged_from (generated seed) files n calls ≡ asking calls
ranged-are seed files n [] all = refl
ranged-are seed files n (call ∷ calls) all =
    let parts = and_parts (keeps_to_stripe call) (list_all keeps_to_stripe calls) all in
    ap (λ (s : Span). ranged call s ∷ ranged_from (generated seed) files (n + 1) calls) (call-range seed files n call parts.0)
    ∙ ap (λ (rest : List Ranged). ranged call (asked_span call.verb) ∷ rest) (ranged-are seed files (n + 1) calls parts.1)

-- the ranges of a generated script are what its calls ask, in every run
pub generated-asking : (seed : ℕ) (run : Run) → ranged_calls (generated seed) run ≡ asking (generated seed).calls
generated-asking seed run = ranged-are seed run.ends.files 1 (generated seed).calls (generated_calls-keep CALLS_GENERATED 0 seed 0)

-- a reply that did all speaks of the whole range
pub answered-whole : (size : ℕ) (r : Ranged) (asked : ℕ) (reply : Reply) → r.range.to ≡ r.range.from + asked → IsTrue (is_whole_reply asked reply) → answered_span size r reply ≡ r.range
answered-whole size r asked (Ok count stop) e h =
    let same = eqb-true count asked (and_parts (count == asked) _ h).0 in
    let whole : min r.range.to (r.range.from + count) ≡ r.range.to = omega arith in
    ap (λ (t : ℕ). span r.range.from t) whole
answered-whole size r asked (Err fault sent) e h = absurd (false≢true h)

ordered : (d f m k : Bool) → (d ≡ true → m ≡ k) → (f && (d && m)) ≡ (d && (f && k))
ordered true f m k e = ap (λ (b : Bool). f && b) (e refl)
ordered false true m k e = refl
ordered false false m k e = refl

pub when_data : (d w : Bool) → IsTrue (not d || w) → d ≡ true → IsTrue w
when_data true w h is = h
when_data false w h is = absurd (false≢true is)

answers-are : (b : ℕ) (call : Call) (end : CallEnd) → IsTrue (did_all call end)
    → has_answered 512 0 b (ranged call (asked_span call.verb)) end ≡ touches 512 0 b (ranged call (asked_span call.verb))
answers-are b call end h =
    let r = ranged call (asked_span call.verb) in
    ordered (is_data_call call.verb) (call.file.0 == 0) (meets 512 (answered_span 512 r end.answer.reply) b) (meets 512 r.range b)
    (λ is. ap (λ (s : Span). meets 512 s b)
    (answered-whole 512 r (asked_of call.verb) end.answer.reply refl (when_data (is_data_call call.verb) (is_whole_reply (asked_of call.verb) end.answer.reply)
    (and_parts (not (is_error end.answer.reply)) (not (is_data_call call.verb) || is_whole_reply (asked_of call.verb) end.answer.reply) h).1 is)))

answered-are : (b n : ℕ) (calls : List Call) (ends : List CallEnd) → IsTrue (both_from (λ k call end. did_all call end) n calls ends)
    → places_where (has_answered 512 0 b) n (asking calls) ends ≡ numbers_where (touches 512 0 b) n (asking calls)
answered-are b n [] [] all = refl
answered-are b n [] (end ∷ ends) all = absurd (false≢true all)
answered-are b n (call ∷ calls) [] all = absurd (false≢true all)
answered-are b n (call ∷ calls) (end ∷ ends) all =
    let parts = and_parts (did_all call end) (both_from (λ k call end. did_all call end) (n + 1) calls ends) all in
    let rest = places_where (has_answered 512 0 b) (n + 1) (asking calls) ends in
    ap (λ (t : Bool). if t then n ∷ rest else rest) (answers-are b call end parts.0)
    ∙ ap (λ (xs : List ℕ). if touches 512 0 b (ranged call (asked_span call.verb)) then n ∷ xs else xs) (answered-are b (n + 1) calls ends parts.1)

-- the calls that answered a block are those that ask some of it
pub generated-answered : (seed : ℕ) (run : Run) (b : ℕ) → AnswersWhole (generated seed) run → answered_in_order (generated seed) run 0 b ≡ generated_journal seed b
generated-answered seed run b whole =
    ap (λ (rs : List Ranged). places_where (has_answered 512 0 b) 1 rs run.calls) (generated-asking seed run)
    ∙ answered-are b 1 (generated seed).calls run.calls whole

-- a fact of each block of the one file
each_from-then : {A : Type 0} (p q : ℕ → A → Bool) → ((n : ℕ) (x : A) → IsTrue (p n x) → IsTrue (q n x)) → (n : ℕ) (xs : List A) → IsTrue (each_from p n xs) → IsTrue (each_from q n xs)
each_from-then p q show n [] h = refl
each_from-then p q show n (x ∷ xs) h =
    let parts = and_parts (p n x) (each_from p (n + 1) xs) h in
    and_from (q n x) (each_from q (n + 1) xs) (show n x parts.0) (each_from-then p q show (n + 1) xs parts.1)

one-file : (p q : ℕ → ℕ → BlockEnd → Bool) → ((b : ℕ) (block : BlockEnd) → IsTrue (p 0 b block) → IsTrue (q 0 b block))
    → (files : List FileEnd) → length files ≡ 1 → IsTrue (each_block p files) → IsTrue (each_block q files)
one-file p q show [] one h = absurd (omega arith)
one-file p q show (file ∷ []) one h =
    and_from (each_from (q 0) 0 file.blocks) true (each_from-then (p 0) (q 0) show 0 file.blocks (and_parts (each_from (p 0) 0 file.blocks) true h).0) refl
one-file p q show (file ∷ other ∷ files) one h = absurd (omega arith)

-- a run that fits has an end of the one file, which has its blocks
fits-one : (size : ℕ) (spec : FileSpec) (files : List FileEnd) → IsTrue (both_from (λ f file end. is_file_end size file end) 0 (spec ∷ []) files) → length files ≡ 1
fits-one size spec [] h = absurd (false≢true h)
fits-one size spec (file ∷ []) h = refl
fits-one size spec (file ∷ other ∷ files) h = absurd (false≢true (and_parts (is_file_end size spec file) false h).1)

pub generated-journals : (seed : ℕ) (makers : List ℕ) (run : Run) → Fits (generated seed) run → IsLawfulJournal (generated seed) makers run → AnswersWhole (generated seed) run
    → IsTrue (each_block (λ f b block. bytes_eq (calls_of block.journal) (generated_journal seed b)) run.ends.files)
generated-journals seed makers run fits lawful whole =
    one-file (λ f b block. bytes_eq (calls_of block.journal) (answered_in_order (generated seed) run f b))
    (λ f b block. bytes_eq (calls_of block.journal) (generated_journal seed b))
    (λ b block h. subst (λ (js : List ℕ). IsTrue (bytes_eq (calls_of block.journal) js)) (generated-answered seed run b whole) h)
    run.ends.files (fits-one 512 generated_file run.ends.files fits.files) (generated-in_order seed makers run lawful)

-- so the stamps are known
stamps-over : (journal : ℕ → List ℕ) (b : ℕ) (blocks : List BlockEnd) → IsTrue (each_from (λ b block. bytes_eq (calls_of block.journal) (journal b)) b blocks)
    → stamps_on blocks ≡ sum_over (λ b. length (journal b)) b (length blocks)
unfolding sum_over
stamps-over journal b [] h = refl
stamps-over journal b (block ∷ blocks) h =
    let parts = and_parts (bytes_eq (calls_of block.journal) (journal b)) (each_from (λ b block. bytes_eq (calls_of block.journal) (journal b)) (b + 1) blocks) h in
    let same : calls_of block.journal ≡ journal b = (bytes_eq-Decides (calls_of block.journal) (journal b)).0 parts.0 in
    let many = length-map block.journal (λ (st : Stamp). st.call) in
    let here = ap length same in
    let rest = stamps-over journal (b + 1) blocks parts.1 in
    sum_by-cons (λ (block : BlockEnd). length block.journal) block blocks ∙ ap (λ (n : ℕ). length block.journal + n) rest
    ∙ ap (λ (n : ℕ). n + sum_over (λ b. length (journal b)) (b + 1) (length blocks)) (sym many ∙ here)

file-stamps : (seed : ℕ) (files : List FileEnd) → IsTrue (both_from (λ f file end. is_file_end 512 file end) 0 (generated_file ∷ []) files)
    → IsTrue (each_block (λ f b block. bytes_eq (calls_of block.journal) (generated_journal seed b)) files) → stamps_in files ≡ generated_stamps seed
file-stamps seed [] fits h = absurd (false≢true fits)
file-stamps seed (file ∷ []) fits h =
    let journals = (and_parts (each_from (λ b block. bytes_eq (calls_of block.journal) (generated_journal seed b)) 0 file.blocks) true h).0 in
    let parts = and_parts (is_file_end 512 generated_file file) true fits in
    let many : length file.blocks ≡ 2048 = eqb-true (length file.blocks) 2048 (and_parts (length file.blocks == 2048) _ parts.0).0 in
    let counted = stamps-over (λ b. generated_journal seed b) 0 file.blocks journals in
    let alone = sum_by-cons (λ (end : FileEnd). stamps_on end.blocks) file [] in
    let zeroth : stamps_on file.blocks + 0 ≡ stamps_on file.blocks = omega arith in
    alone ∙ zeroth ∙ counted ∙ ap (λ (n : ℕ). sum_over (λ b. length (generated_journal seed b)) 0 n) many
file-stamps seed (file ∷ other ∷ files) fits h = absurd (false≢true (and_parts (is_file_end 512 generated_file file) false fits).1)

pub generated-stamps : (seed : ℕ) (makers : List ℕ) (run : Run) → Fits (generated seed) run → IsLawfulJournal (generated seed) makers run → AnswersWhole (generated seed) run
    → stamps_in run.ends.files ≡ generated_stamps seed
generated-stamps seed makers run fits lawful whole = file-stamps seed run.ends.files fits.files (generated-journals seed makers run fits lawful whole)
