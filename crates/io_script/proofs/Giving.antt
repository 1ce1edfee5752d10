-- What a generated script asks decides what the reads of a run give that did it all.
use Rattle.std.proofs.Common.{◌≡◌, ℕ, zero, suc, ◌+◌, ◌-◌, ◌*◌, ◌/◌, ◌%◌, ◌<◌, ◌≤◌, ◌==◌, ◌&&◌, ◌||◌, Bool, true, false, not, cond, nat_le, nat_lt, List, [], ◌∷◌, Some, length, map, min, max, take, drop, get_or, get_or-take, get_or-drop, codes, decimal, IsTrue, refl, sym, ap, ◌∙◌, subst, arith, if◌then◌else◌}
use Rattle.std.proofs.lemmas.Bool.{and_parts, and_from, or_left, eqb-true, lt-ltb, false≢true}
use Rattle.std.proofs.lemmas.List.Sums.{sum_by-cons, take_while-cons}
use Rattle.std.proofs.lemmas.Slice.Eq.{bytes_eq-Decides}
use Rattle.std.specs.List.{fold, list_all, slice_get, sum, sum_by, take_while}
use Rattle.std.specs.Str.{bytes_eq}
use Rattle.iob_base.specs.declared.answer.Reply.{Reply}
use Rattle.iob_base.specs.declared.answer.Reply.TheVariants.{Ok, Err}
use Rattle.iob_base.specs.declared.stamp.Mark.{Mark}
use Rattle.iob_base.specs.declared.stamp.Mark.TheVariants.{Done, Landed, Missed}
use Rattle.iob_base.specs.declared.stamp.Stamp.{Stamp}
use Rattle.io_model.specs.Answered.{answered_span}
use Rattle.io_model.specs.Calls.{asked_of, is_data_call, is_dwrite, is_direct, is_read, is_write, is_zeroing, offset_of}
use Rattle.io_model.specs.Contents.{Content, opening_content}
use Rattle.io_model.specs.Effects.{effect, effect_of, replayed}
use Rattle.io_model.specs.Fitting.{Fits, is_file_end}
use Rattle.io_model.specs.Journals.{IsLawfulJournal, are_marked, each_block, has_failed, may_be_marked}
use Rattle.io_model.specs.Lists.{both_from, bytes_between, each_from, is_some_and, numbered}
use Rattle.io_model.specs.OneOrder.{calls_of}
use Rattle.io_model.specs.Parts.{Span, meets, part_in, span, span_length}
use Rattle.io_model.specs.Ranges.{Ranged, ranged}
use Rattle.io_model.specs.Reads.{IsReadReply, blocks_at, gives_block, gives_bytes, is_read_reply, stamps_before}
use Rattle.io_model.specs.RunText.{is_error}
use Rattle.io_model.specs.Text.{◌⋅◌}
use Rattle.io_model.specs.declared.file.BlockEnd.{BlockEnd}
use Rattle.io_model.specs.declared.file.FileEnd.{FileEnd}
use Rattle.io_model.specs.declared.run.CallEnd.{CallEnd}
use Rattle.io_model.specs.declared.run.Run.{Run}
use Rattle.io_model.specs.declared.script.Call.{Call}
use Rattle.io_model.specs.declared.script.Verb.{Verb}
use Rattle.io_model.proofs.Blocks.{some_meets}
use Rattle.io_script.specs.Generated.{CALLS_GENERATED, generated, generated_file, stripe_of}
use Rattle.io_script.specs.GeneratedJournal.{AnswersWhole, asked_span, asking, did_all, generated_journal, is_whole_reply, sum_over}
use Rattle.io_script.specs.GeneratedReads.{byte_before, bytes_by, content_before, done, generated_bytes, generated_sum, known_summary, sum_by_call, sum_numbered}
use Rattle.io_script.specs.Stripes.{asks_in_stripe, keeps_to_stripe}
use Rattle.io_script.specs.Summary.{bytes_in, errors_in, stamps_in, sum_in, summary_text}
use Rattle.io_script.proofs.Asking.{answered-whole, asked-within, generated-asking, generated-journals, generated-stamps, when_data}
use Rattle.io_script.proofs.Keeping.{generated_calls-keep, generated_calls-many}
use Rattle.io_script.proofs.Meeting.{moved}

-- items of lists by their places

both-at : {A B : Type 0} (test : A → B → Bool) (n : ℕ) (xs : List A) (ys : List B) (i : ℕ) (x : A) (y : B) → IsTrue (both_from (λ k a b. test a b) n xs ys)
    → slice_get xs i ≡ Some x → slice_get ys i ≡ Some y → IsTrue (test x y)
both-at test n [] ys i x y all e f = absurd (cc)
both-at test n (a ∷ xs) [] i x y all e f = absurd (false≢true all)
both-at test n (a ∷ xs) (b ∷ ys) zero x y all e f =
    let same : a ≡ x = cc in
    let other : b ≡ y = cc in
    let here = (and_parts (test a b) (both_from (λ k a b. test a b) (n + 1) xs ys) all).0 in
    subst (λ z. IsTrue (test x z)) other (subst (λ z. IsTrue (test z b)) same here)
both-at test n (a ∷ xs) (b ∷ ys) (suc i) x y all e f =
    both-at test (n + 1) xs ys i x y (and_parts (test a b) (both_from (λ k a b. test a b) (n + 1) xs ys) all).1 e f

both-numbered : {A B : Type 0} (test : A → B → Bool) (xs : List A) (ys : List B) (m : ℕ) (x : A) (y : B) → IsTrue (both_from (λ k a b. test a b) 1 xs ys)
    → numbered xs m ≡ Some x → numbered ys m ≡ Some y → IsTrue (test x y)
both-numbered test xs ys zero x y all e f = absurd (cc)
both-numbered test xs ys (suc m) x y all e f = both-at test 1 xs ys m x y all e f

each-at : {A : Type 0} (test : ℕ → A → Bool) (n : ℕ) (xs : List A) (i : ℕ) (x : A) → IsTrue (each_from test n xs) → slice_get xs i ≡ Some x → IsTrue (test (n + i) x)
each-at test n [] i x all e = absurd (cc)
each-at test n (a ∷ xs) zero x all e =
    let same : a ≡ x = cc in
    let at : n ≡ n + 0 = omega arith in
    let here = (and_parts (test n a) (each_from test (n + 1) xs) all).0 in
    subst (λ k. IsTrue (test k x)) at (subst (λ z. IsTrue (test n z)) same here)
each-at test n (a ∷ xs) (suc i) x all e =
    let at : (n + 1) + i ≡ n + suc i = omega arith in
    subst (λ k. IsTrue (test k x)) at (each-at test (n + 1) xs i x (and_parts (test n a) (each_from test (n + 1) xs) all).1 e)

each-first : {A : Type 0} (test : ℕ → A → Bool) (xs : List A) (i : ℕ) (x : A) → IsTrue (each_from test 0 xs) → slice_get xs i ≡ Some x → IsTrue (test i x)
each-first test xs i x all e = let at : 0 + i ≡ i = omega arith in subst (λ k. IsTrue (test k x)) at (each-at test 0 xs i x all e)

item-there : {A : Type 0} (xs : List A) (i : ℕ) → i < length xs → (x : A) × (slice_get xs i ≡ Some x)
item-there [] i h = absurd (omega arith)
item-there (x ∷ xs) zero h = (x, refl)
item-there (x ∷ xs) (suc i) h = item-there xs i (omega arith)

-- stamps of calls that were done

no_failure : (reply : Reply) → IsTrue (not (is_error reply)) → has_failed reply ≡ false
no_failure (Ok count stop) h = refl
no_failure (Err fault sent) h = absurd (false≢true h)

marked-done : (mark : Mark) (call : Call) (end : CallEnd) → has_failed end.answer.reply ≡ false → IsTrue (may_be_marked mark call end) → mark ≡ Done
marked-done Done call end fine m = refl
marked-done Landed call end fine m = absurd (false≢true (sym fine ∙ (and_parts (is_dwrite call.verb) (has_failed end.answer.reply) m).1))
marked-done Missed call end fine m = absurd (false≢true (sym fine ∙ (and_parts (is_direct call.verb) (has_failed end.answer.reply) m).1))

-- the stamps before a call, by their calls
abbrev known_before : ℕ → List ℕ → List Stamp
known_before n names = map done (take_while (λ m. not (m == n)) names)

-- the effects of stamps up to a call, by whether the first is before it
by_test : (t : Bool) (size b : ℕ) (ranged : List Ranged) (n : ℕ) (c : Content) (st : Stamp) (stamps : List Stamp)
    → effect_of size b st.mark (numbered ranged st.call) c ≡ effect_of size b Done (numbered ranged st.call) c
    → ((c' : Content) → fold (effect size ranged b) c' (stamps_before n stamps) ≡ fold (effect size ranged b) c' (known_before n (calls_of stamps)))
    → fold (effect size ranged b) c (cond t (st ∷ stamps_before n stamps) [])
    ≡ fold (effect size ranged b) c (map done (cond t (st.call ∷ take_while (λ m. not (m == n)) (calls_of stamps)) []))
by_test true size b ranged n c st stamps step more =
    ap (λ (c' : Content). fold (effect size ranged b) c' (stamps_before n stamps)) step ∙ more (effect_of size b Done (numbered ranged st.call) c)
by_test false size b ranged n c st stamps step more = refl

-- stamps that may stand beside calls that did all are all of one mark
module _ (calls : List Call) (ends : List CallEnd) (whole : IsTrue (both_from (λ k call end. did_all call end) 1 calls ends)) where
  abbrev may_stand : Stamp → Bool
  may_stand st = is_some_and (numbered calls st.call) (λ call. is_some_and (numbered ends st.call) (may_be_marked st.mark call))

  stands-done : (st : Stamp) → IsTrue (may_stand st) → st.mark ≡ Done
  stands-done st h =
      let c = some_meets (λ call. is_some_and (numbered ends st.call) (may_be_marked st.mark call)) (numbered calls st.call) h in
      let e = some_meets (may_be_marked st.mark c.0) (numbered ends st.call) c.2 in
      let did = both-numbered did_all calls ends st.call c.0 e.0 whole c.1 e.1 in
      let fine = no_failure e.0.answer.reply (and_parts (not (is_error e.0.answer.reply)) (not (is_data_call c.0.verb) || is_whole_reply (asked_of c.0.verb) e.0.answer.reply) did).0 in
      marked-done st.mark c.0 e.0 fine e.2

  effects-are : (size b : ℕ) (ranged : List Ranged) (n : ℕ) (c : Content) (stamps : List Stamp) → IsTrue (list_all may_stand stamps)
      → fold (effect size ranged b) c (stamps_before n stamps) ≡ fold (effect size ranged b) c (known_before n (calls_of stamps))
  effects-are size b ranged n c [] all = refl
  effects-are size b ranged n c (st ∷ stamps) all =
      let parts = and_parts (may_stand st) (list_all may_stand stamps) all in
      let one = take_while-cons (λ (st : Stamp). not (st.call == n)) st stamps in
      let other = take_while-cons (λ (m : ℕ). not (m == n)) st.call (calls_of stamps) in
      let mark = stands-done st parts.0 in
      let step = ap (λ (m : Mark). effect_of size b m (numbered ranged st.call) c) mark in
      ap (λ (sts : List Stamp). fold (effect size ranged b) c sts) one
      ∙ by_test (not (st.call == n)) size b ranged n c st stamps step (λ c'. effects-are size b ranged n c' stamps parts.1)
      ∙ sym (ap (λ (ms : List ℕ). fold (effect size ranged b) c (map done ms)) other)

-- bytes of reads

-- two lists that agree between two places
same-at : (got content : List ℕ) (lo hi low high k : ℕ) → IsTrue (bytes_eq (bytes_between lo hi got) (bytes_between low high content))
    → lo + k < hi → low + k < high → get_or got (lo + k) 0 ≡ get_or content (low + k) 0
same-at got content lo hi low high k h one other =
    let same : take (hi - lo) (drop lo got) ≡ take (high - low) (drop low content) =
    (bytes_eq-Decides (bytes_between lo hi got) (bytes_between low high content)).0 h in
    sym (get_or-take (hi - lo) (drop lo got) k 0 (omega arith) ∙ get_or-drop lo got k 0)
    ∙ ap (λ (xs : List ℕ). get_or xs k 0) same
    ∙ (get_or-take (high - low) (drop low content) k 0 (omega arith) ∙ get_or-drop low content k 0)

-- a byte of a read, from what it gives of the byte's block
byte-given : (off asked i b : ℕ) (d : Bool) (s : Span) (got content : List ℕ) → d ≡ true → s ≡ span off (off + asked) → i < asked → b ≡ (off + i) / 512
    → IsTrue (not (d && meets 512 s b)
    || bytes_eq (bytes_between ((part_in 512 s b).from - off) ((part_in 512 s b).to - off) got) (bytes_between ((part_in 512 s b).from - b * 512) ((part_in 512 s b).to - b * 512) content))
    → get_or got i 0 ≡ get_or content ((off + i) % 512) 0
byte-given off asked i b d s got content moves is low at h =
    let t = span off (off + asked) in
    let from = max off (b * 512) in
    let to = min (off + asked) ((b + 1) * 512) in
    let P = λ (r : Span). IsTrue (not (d && meets 512 r b)
    || bytes_eq (bytes_between ((part_in 512 r b).from - off) ((part_in 512 r b).to - off) got) (bytes_between ((part_in 512 r b).from - b * 512) ((part_in 512 r b).to - b * 512) content)) in
    let h' = subst P is h in
    let met = and_from d (nat_lt from to) moves (lt-ltb from to (omega arith)) in
    let same = when_data (d && nat_lt from to) (bytes_eq (bytes_between (from - off) (to - off) got) (bytes_between (from - b * 512) (to - b * 512) content)) h' met in
    let k = (off + i) - from in
    let here = same-at got content (from - off) (to - off) (from - b * 512) (to - b * 512) k same (omega arith) (omega arith) in
    let one : (from - off) + k ≡ i = omega arith in
    let two : (from - b * 512) + k ≡ (off + i) % 512 = omega arith in
    sym (ap (λ (j : ℕ). get_or got j 0) one) ∙ here ∙ ap (λ (j : ℕ). get_or content j 0) two

-- a list whose items are those of a function sums up to its sum
sum-by_index : (f : ℕ → ℕ) (first : ℕ) (xs : List ℕ) → ((i : ℕ) → i < length xs → get_or xs i 0 ≡ f (first + i)) → sum xs ≡ sum_over f first (length xs)
unfolding sum_over
sum-by_index f first [] h = refl
sum-by_index f first (x ∷ xs) h =
    let zeroth : first + 0 ≡ first = omega arith in
    let here : x ≡ f first = h zero (omega arith) ∙ ap f zeroth in
    let rest = sum-by_index f (first + 1) xs (λ i low. let at : first + suc i ≡ (first + 1) + i = omega arith in h (suc i) (omega arith) ∙ ap f at) in
    sum_by-cons (λ (n : ℕ). n) x xs ∙ ap (λ (n : ℕ). n + sum xs) here ∙ ap (λ (n : ℕ). f first + n) rest

reads_data : (verb : Verb) → is_read verb ≡ true → is_data_call verb ≡ true
reads_data verb h = or_left (is_read verb || is_write verb) (is_zeroing verb) (or_left (is_read verb) (is_write verb) h)

-- the blocks of the file after a run, as far as they are known
record KnownBlocks (seed : ℕ) (ends : List CallEnd) (blocks : List BlockEnd) : Type 0 where
  many : length blocks ≡ 2048
  journals : IsTrue (each_from (λ b block. bytes_eq (calls_of block.journal) (generated_journal seed b)) 0 blocks)
  marked : IsTrue (each_from (λ b block. are_marked (generated seed) ends block.journal) 0 blocks)
  whole : IsTrue (both_from (λ k call end. did_all call end) 1 (generated seed).calls ends)

-- the content of a block before a call is what its journal leaves
content-is : (seed n b : ℕ) (ends : List CallEnd) (block : BlockEnd) → IsTrue (both_from (λ k call end. did_all call end) 1 (generated seed).calls ends)
    → IsTrue (are_marked (generated seed) ends block.journal) → calls_of block.journal ≡ generated_journal seed b
    → replayed (generated seed) (asking (generated seed).calls) 0 b (stamps_before n block.journal) ≡ content_before seed n b
unfolding content_before
content-is seed n b ends block whole marked same =
    effects-are (generated seed).calls ends whole 512 b (asking (generated seed).calls) n (opening_content (generated seed) 0 b) block.journal marked
    ∙ ap (λ (names : List ℕ). replayed (generated seed) (asking (generated seed).calls) 0 b (known_before n names)) same

-- a read that did all gives the bytes before it
read-byte : (seed n : ℕ) (ends : List CallEnd) (blocks : List BlockEnd) (call : Call) (end : CallEnd) → KnownBlocks seed ends blocks
    → call.file.0 ≡ 0 → is_data_call call.verb ≡ true → offset_of call.verb + asked_of call.verb ≤ 1048576
    → IsTrue (is_whole_reply (asked_of call.verb) end.answer.reply)
    → IsTrue (each_from (gives_block (generated seed) (asking (generated seed).calls) n (ranged call (asked_span call.verb)) end) 0 blocks)
    → (i : ℕ) → i < asked_of call.verb → get_or end.got i 0 ≡ byte_before seed n (offset_of call.verb + i)
read-byte seed n ends blocks call end known first moves within whole gives i low =
    let verb = call.verb in
    let off = offset_of verb in
    let asked = asked_of verb in
    let r = ranged call (asked_span verb) in
    let place = off + i in
    let b = place / 512 in
    let many = known.many in
    let there = item-there blocks b (omega arith) in
    let block = there.0 in
    let journal = each-first (λ b block. bytes_eq (calls_of block.journal) (generated_journal seed b)) blocks b block known.journals there.1 in
    let marked = each-first (λ b block. are_marked (generated seed) ends block.journal) blocks b block known.marked there.1 in
    let give = each-first (gives_block (generated seed) (asking (generated seed).calls) n r end) blocks b block gives there.1 in
    let same = (bytes_eq-Decides (calls_of block.journal) (generated_journal seed b)).0 journal in
    let content = replayed (generated seed) (asking (generated seed).calls) call.file.0 b (stamps_before n block.journal) in
    let is = answered-whole 512 r asked end.answer.reply refl whole in
    byte-given off asked i b (is_data_call verb) (answered_span 512 r end.answer.reply) end.got content moves is low refl give
    ∙ ap (λ (f : ℕ). get_or (replayed (generated seed) (asking (generated seed).calls) f b (stamps_before n block.journal)) (place % 512) 0) first
    ∙ ap (λ (c : Content). get_or c (place % 512) 0) (content-is seed n b ends block known.whole marked same)

-- what a reply owes, of a read that did all
gives-parts : (seed n asked : ℕ) (all : List Ranged) (blocks : List BlockEnd) (r : Ranged) (end : CallEnd) (reply : Reply) → IsTrue (is_whole_reply asked reply)
    → IsTrue (gives_bytes (generated seed) all blocks n r end reply) → (length end.got ≡ asked) × IsTrue (each_from (gives_block (generated seed) all n r end) 0 blocks)
gives-parts seed n asked all blocks r end (Ok count stop) whole h =
    let parts = and_parts (count == length end.got) (nat_le count (span_length r.range) && each_from (gives_block (generated seed) all n r end) 0 blocks) h in
    let more = and_parts (nat_le count (span_length r.range)) (each_from (gives_block (generated seed) all n r end) 0 blocks) parts.1 in
    let one = eqb-true count (length end.got) parts.0 in
    let two = eqb-true count asked (and_parts (count == asked) _ whole).0 in
    (sym one ∙ two, more.1)
gives-parts seed n asked all blocks r end (Err fault sent) whole h = absurd (false≢true whole)

-- a call that gives what it owes: how many bytes, and their sum
record GivesAll (seed n : ℕ) (call : Call) (end : CallEnd) : Type 0 where
  many : length end.got ≡ bytes_by call
  total : sum end.got ≡ sum_by_call seed n call

none-given : (got : List ℕ) → length got ≡ 0 → sum got ≡ 0
none-given [] e = refl
none-given (x ∷ xs) e = absurd (omega arith)

call-gives : (seed n : ℕ) (ends : List CallEnd) (blocks : List BlockEnd) (call : Call) (end : CallEnd) → KnownBlocks seed ends blocks
    → call.file.0 ≡ 0 → (is_data_call call.verb ≡ true → offset_of call.verb + asked_of call.verb ≤ 1048576) → IsTrue (did_all call end)
    → (reads : Bool) → is_read call.verb ≡ reads
    → IsTrue (if reads then gives_bytes (generated seed) (asking (generated seed).calls) blocks n (ranged call (asked_span call.verb)) end end.answer.reply else length end.got == 0)
    → GivesAll seed n call end
call-gives seed n ends blocks call end known first within did true is h =
    let asked = asked_of call.verb in
    let moves = reads_data call.verb is in
    let whole = when_data (is_data_call call.verb) (is_whole_reply asked end.answer.reply) (and_parts (not (is_error end.answer.reply)) (not (is_data_call call.verb) || is_whole_reply asked end.answer.reply) did).1 moves in
    let parts = gives-parts seed n asked (asking (generated seed).calls) blocks (ranged call (asked_span call.verb)) end end.answer.reply whole h in
    let f = λ (i : ℕ). byte_before seed n (offset_of call.verb + i) in
    let many = parts.0 in
    let total = sum-by_index f 0 end.got (λ i low. let at : i ≡ 0 + i = omega arith in read-byte seed n ends blocks call end known first moves (within moves) whole parts.1 i (omega arith) ∙ ap f at) in
    record {
      many = many ∙ sym (ap (λ (b : Bool). if b then asked else 0) is);
      total = total ∙ ap (λ (k : ℕ). sum_over f 0 k) many ∙ sym (ap (λ (b : Bool). if b then sum_over f 0 asked else 0) is);
    }
call-gives seed n ends blocks call end known first within did false is h =
    let none = eqb-true (length end.got) 0 h in
    let f = λ (i : ℕ). byte_before seed n (offset_of call.verb + i) in
    record {
      many = none ∙ sym (ap (λ (b : Bool). if b then asked_of call.verb else 0) is);
      total = none-given end.got none ∙ sym (ap (λ (b : Bool). if b then sum_over f 0 (asked_of call.verb) else 0) is);
    }

-- all calls together

keeps-parts : (call : Call) → IsTrue (keeps_to_stripe call) → (call.file.0 ≡ 0) × (is_data_call call.verb ≡ true → offset_of call.verb + asked_of call.verb ≤ 1048576)
keeps-parts call h =
    let stripe = stripe_of call.caller (call.phase - 1) in
    let asks = asks_in_stripe stripe call.verb in
    let few = and_parts (nat_lt call.caller 8) (nat_lt 0 call.phase && (call.file.0 == 0 && asks)) h in
    let started = and_parts (nat_lt 0 call.phase) (call.file.0 == 0 && asks) few.1 in
    let first = and_parts (call.file.0 == 0) asks started.1 in
    (eqb-true call.file.0 0 first.0, λ is_data. asked-within stripe call.verb (omega arith) first.1 (moved call.verb is_data))

module _ (seed : ℕ) (all_ends : List CallEnd) (files : List FileEnd) (known : KnownBlocks seed all_ends (blocks_at files 0)) where
  calls-give : (n : ℕ) (calls : List Call) (ends : List CallEnd) → IsTrue (both_from (is_read_reply (generated seed) (asking (generated seed).calls) files) n (asking calls) ends)
      → IsTrue (both_from (λ k call end. did_all call end) n calls ends) → IsTrue (list_all keeps_to_stripe calls)
      → (bytes_in ends ≡ sum_by bytes_by calls) × (sum_in ends ≡ sum_numbered (sum_by_call seed) n calls)
  calls-give n [] [] reads did keep = (refl, refl)
  calls-give n [] (end ∷ ends) reads did keep = absurd (false≢true did)
  calls-give n (call ∷ calls) [] reads did keep = absurd (false≢true did)
  calls-give n (call ∷ calls) (end ∷ ends) reads did keep =
      let r = ranged call (asked_span call.verb) in
      let read = and_parts (is_read_reply (generated seed) (asking (generated seed).calls) files n r end) (both_from (is_read_reply (generated seed) (asking (generated seed).calls) files) (n + 1) (asking calls) ends) reads in
      let done_it = and_parts (did_all call end) (both_from (λ k call end. did_all call end) (n + 1) calls ends) did in
      let kept = and_parts (keeps_to_stripe call) (list_all keeps_to_stripe calls) keep in
      let own = keeps-parts call kept.0 in
      let owed = subst (λ f. IsTrue (if is_read call.verb then gives_bytes (generated seed) (asking (generated seed).calls) (blocks_at files f) n r end end.answer.reply else length end.got == 0)) own.0 read.0 in
      let here = call-gives seed n all_ends (blocks_at files 0) call end known own.0 own.1 done_it.0 (is_read call.verb) refl owed in
      let rest = calls-give (n + 1) calls ends read.1 done_it.1 kept.1 in (
        sum_by-cons (λ (end : CallEnd). length end.got) end ends ∙ ap (λ (k : ℕ). k + bytes_in ends) here.many ∙ ap (λ (k : ℕ). bytes_by call + k) rest.0
            ∙ sym (sum_by-cons bytes_by call calls),
        sum_by-cons (λ (end : CallEnd). sum end.got) end ends ∙ ap (λ (k : ℕ). k + sum_in ends) here.total ∙ ap (λ (k : ℕ). sum_by_call seed n call + k) rest.1,
      )

no_error : (b : Bool) → IsTrue (not b) → ◌≡◌ {A = ℕ} (if b then 1 else 0) 0
no_error true h = absurd (false≢true h)
no_error false h = refl

errors-none : (calls : List Call) (ends : List CallEnd) (n : ℕ) → IsTrue (both_from (λ k call end. did_all call end) n calls ends) → errors_in ends ≡ 0
errors-none [] [] n h = refl
errors-none [] (end ∷ ends) n h = absurd (false≢true h)
errors-none (call ∷ calls) [] n h = absurd (false≢true h)
errors-none (call ∷ calls) (end ∷ ends) n h =
    let parts = and_parts (did_all call end) (both_from (λ k call end. did_all call end) (n + 1) calls ends) h in
    let fine = (and_parts (not (is_error end.answer.reply)) (not (is_data_call call.verb) || is_whole_reply (asked_of call.verb) end.answer.reply) parts.0).0 in
    let rest = errors-none calls ends (n + 1) parts.1 in
    let nothing : 0 + errors_in ends ≡ 0 = omega arith in
    sum_by-cons (λ (end : CallEnd). if is_error end.answer.reply then 1 else 0) end ends
    ∙ ap (λ (k : ℕ). k + errors_in ends) (no_error (is_error end.answer.reply) fine) ∙ nothing

-- the one file, by its blocks
file-known : (seed : ℕ) (ends : List CallEnd) (files : List FileEnd) → IsTrue (both_from (λ f file end. is_file_end 512 file end) 0 (generated_file ∷ []) files)
    → IsTrue (each_block (λ f b block. bytes_eq (calls_of block.journal) (generated_journal seed b)) files)
    → IsTrue (each_block (λ f b block. are_marked (generated seed) ends block.journal) files)
    → IsTrue (both_from (λ k call end. did_all call end) 1 (generated seed).calls ends) → KnownBlocks seed ends (blocks_at files 0)
file-known seed ends [] fits journals marked whole = absurd (false≢true fits)
file-known seed ends (file ∷ files) fits journals marked whole =
    let parts = and_parts (is_file_end 512 generated_file file) (both_from (λ f file end. is_file_end 512 file end) 1 [] files) fits in
    let test = λ (b : ℕ) (block : BlockEnd). bytes_eq (calls_of block.journal) (generated_journal seed b) in
    let mark = λ (b : ℕ) (block : BlockEnd). are_marked (generated seed) ends block.journal in
    record {
      many = eqb-true (length file.blocks) 2048 (and_parts (length file.blocks == 2048) _ parts.0).0;
      journals = (and_parts (each_from test 0 file.blocks) _ journals).0;
      marked = (and_parts (each_from mark 0 file.blocks) _ marked).0;
      whole = whole;
    }

-- the summary of a run that did all is known but for the free blocks
pub generated-summary : (seed : ℕ) (makers : List ℕ) (run : Run) → Fits (generated seed) run → IsLawfulJournal (generated seed) makers run
    → IsReadReply (generated seed) run → AnswersWhole (generated seed) run → summary_text seed run ≡ known_summary seed (length run.ends.free)
generated-summary seed makers run fits lawful reads whole =
    let journals = generated-journals seed makers run fits lawful whole in
    let known = file-known seed run.calls run.ends.files fits.files journals lawful.failed_marks whole in
    let owed = subst (λ (rs : List Ranged). IsTrue (both_from (is_read_reply (generated seed) rs run.ends.files) 1 rs run.calls)) (generated-asking seed run) reads in
    let given = calls-give seed run.calls run.ends.files known 1 (generated seed).calls run.calls owed whole (generated_calls-keep CALLS_GENERATED 0 seed 0) in
    let many : length run.calls ≡ 2048 = eqb-true (length run.calls) (length (generated seed).calls) fits.calls ∙ generated_calls-many CALLS_GENERATED 0 seed 0 in
    let errors = errors-none (generated seed).calls run.calls 1 whole in
    let stamps = generated-stamps seed makers run fits lawful whole in
    let text = λ (calls wrong bytes total marks : ℕ).
    codes "gen " ⋅ decimal seed ⋅ codes "\ncalls " ⋅ decimal calls ⋅ codes " errors " ⋅ decimal wrong ⋅ codes "\nread " ⋅ decimal bytes ⋅ codes " sum " ⋅ decimal (total % 18446744073709551616)
    ⋅ codes "\nstamps " ⋅ decimal marks ⋅ codes "\nfree " ⋅ decimal (length run.ends.free) ⋅ codes "\nend\n" in
    ap (λ (n : ℕ). text n (errors_in run.calls) (bytes_in run.calls) (sum_in run.calls) (stamps_in run.ends.files)) many
    ∙ ap (λ (n : ℕ). text 2048 n (bytes_in run.calls) (sum_in run.calls) (stamps_in run.ends.files)) errors
    ∙ ap (λ (n : ℕ). text 2048 0 n (sum_in run.calls) (stamps_in run.ends.files)) given.0
    ∙ ap (λ (n : ℕ). text 2048 0 (generated_bytes seed) n (stamps_in run.ends.files)) given.1
    ∙ ap (λ (n : ℕ). text 2048 0 (generated_bytes seed) (generated_sum seed) n) stamps
