-- The entries of a call that laid what it answered change a block as its stamps say.
use Rattle.std.proofs.Common.{◌≡◌, ℕ, ◌+◌, ◌*◌, ◌/◌, ◌<◌, Bool, true, false, ◌==◌, List, length, take, drop, replicate, Option, Some, if◌then◌else◌, sym, ap, ◌∙◌, subst, arith}
use Rattle.std.specs.Prelude.{All, IfSome, nat_le, nat_lt}
use Rattle.std.specs.List.{concat}
use Rattle.std.proofs.lemmas.List.{length-replicate, take-append-drop}
use Rattle.iob_base.specs.declared.answer.Fault.{Fault}
use Rattle.iob_base.specs.declared.answer.Reply.{Reply}
use Rattle.iob_base.specs.declared.answer.Reply.TheVariants.{Ok, Err}
use Rattle.iob_base.specs.declared.answer.Fault.TheVariants.{TooFar}
use Rattle.iob_base.specs.declared.answer.Stop.{Stop}
use Rattle.iob_base.specs.declared.answer.Stop.TheVariants.{Whole}
use Rattle.iob_base.specs.declared.stamp.Tag.{Tag}
use Rattle.io_model.specs.Answered.{answered_in}
use Rattle.io_model.specs.Calls.{bytes_of, is_write, is_zeroing, offset_of}
use Rattle.io_model.specs.Contents.{Content, zeros}
use Rattle.io_model.specs.Effects as model
use Rattle.io_model.specs.Lawful.{is_data_reply, is_lawful_reply, is_too_far}
use Rattle.io_model.specs.Lists.{numbered}
use Rattle.io_model.specs.Parts.{Span, blocks_met, range_in, span_length}
use Rattle.io_model.specs.Ranges.{Ranged}
use Rattle.io_model.specs.declared.script.Verb.{Verb}
use Rattle.io_model.specs.declared.script.Verb.TheVariants.{Punch, Pwrite, Trunc, Zero}
use Rattle.range_core.specs.EntryStamps.{stamps_in}
use Rattle.range_core.specs.Spots.{is_met, overlaid}
use Rattle.range_core.specs.Stamps.{done_by, stamps_from}
use Rattle.range_core.specs.declared.entry.Entry.{Entry}
use Rattle.call_traces.specs.Changes.{ChangesAsTold}
use Rattle.buffered_write.specs.Lays.{IsLeftAfter, LieOn, laid_in}
use Rattle.call_parts.specs.Replies.{end_stop, read_reply}
use Rattle.buffered_write.specs.Pwrites.{write_reply}
use Rattle.buffered_write.specs.Truncates.{cut_reply}
use Rattle.call_traces.proofs.LayingLemmas.{is_laying}
use Rattle.call_traces.proofs.ReplyLemmas.{Answers, counts-some, data-reply, ends-right, errs-nothing}
use Rattle.call_traces.proofs.ToldLemmas.{EndsRight, laid-told, write-lies, zeros-lie}

module _ (size b : ℕ) (range : Span) where
  -- a reply of a call that has bytes in the block is that of one that was asked some and not refused
  pub of-write : (reply worked : Reply) (stop : Stop) (fault : Fault) (t u : Bool) → reply ≡ (if t then Ok 0 stop else (if u then Err fault 0 else worked)) → Answers size b range reply → reply ≡ worked
  of-write reply worked stop fault true u is answers = absurd (let some = counts-some size b range 0 stop (subst (Answers size b range) is answers) in let none = some.1 in omega (arith, none))
  of-write reply worked stop fault false true is answers = absurd (errs-nothing size b range fault 0 (subst (Answers size b range) is answers))
  of-write reply worked stop fault false false is answers = is

  pub of-cut : (reply worked : Reply) (fault : Fault) (t : Bool) → reply ≡ (if t then Err fault 0 else worked) → Answers size b range reply → reply ≡ worked
  of-cut reply worked fault true is answers = absurd (errs-nothing size b range fault 0 (subst (Answers size b range) is answers))
  of-cut reply worked fault false is answers = is

  pub of-punch : (reply worked : Reply) (stop : Stop) (t : Bool) → reply ≡ (if t then worked else Ok 0 stop) → Answers size b range reply → reply ≡ worked
  of-punch reply worked stop true is answers = is
  of-punch reply worked stop false is answers = absurd (let some = counts-some size b range 0 stop (subst (Answers size b range) is answers) in let none = some.1 in omega (arith, none))

module _ (size : ℕ) (some : 0 < size) (calls : List Ranged) (b n : ℕ) (r : Ranged) (named : numbered calls n ≡ Some r) (by : Tag) (tag : by.call ≡ n)
    (es : List Entry) (lays : All (λ e. is_laying e.event ≡ true) es) (off count : ℕ) (fault : Option Fault) (begins : r.range.from ≡ off) (stops : IfSome fault (λ f. IsLeftAfter size off count))
    (reply : Reply) (stamps : stamps_in size es ≡ stamps_from ((answered_in size r.range false reply).from / size) (blocks_met size (answered_in size r.range false reply)) (done_by by)) where
  -- what a call laid, as long as it counts, over a block of those that it answered
  abbrev pub LiesOver : List ℕ → Type 0
  LiesOver bytes = is_met size off (off + length bytes) b ≡ true → EndsRight size (off + length bytes) r.range.to → (content : Content) → overlaid size off (off + length bytes) bytes b content ≡ model.content_after size r b content

  pub called-told : (bytes : List ℕ) (whole met asked : ℕ) (verb : Verb) → LieOn off (off + count) bytes (laid_in size es) → LiesOver bytes
      → (Answers size b r.range reply → reply ≡ read_reply whole met count fault) → (Answers size b r.range reply → is_data_reply size r.range true verb asked reply ≡ true)
      → All (ChangesAsTold size calls b) es
  called-told bytes whole met asked verb laid lies reply_is lawful =
      laid-told size some calls b n r named by tag es off (answered_in size r.range false reply) lays laid.order stamps (λ answers. covers laid.together answers)
    where
      long : length bytes ≡ count
      long = (let reach = laid.reach in omega (arith, reach))

      ends : Answers size b r.range reply → (is_met size off (off + length bytes) b ≡ true) × EndsRight size (off + length bytes) r.range.to
      ends answers =
          let is = reply_is answers in
          let left : IfSome fault (λ f. IsLeftAfter size r.range.from count) = subst (λ k. IfSome fault (λ f. IsLeftAfter size k count)) (sym begins) stops in
          let right = ends-right size b r.range verb asked met count fault whole left (subst (λ k. is_data_reply size r.range true verb asked k ≡ true) is (lawful answers)) (subst (Answers size b r.range) is answers) in
          let placed = subst (λ k. (is_met size k (k + count) b ≡ true) × EndsRight size (k + count) r.range.to) begins right in
          subst (λ k. (is_met size off (off + k) b ≡ true) × EndsRight size (off + k) r.range.to) (sym long) placed

      covers : {laids : List ℕ} → laids ≡ bytes → Answers size b r.range reply → (is_met size off (off + length laids) b ≡ true) × ((content : Content) → length content ≡ size → overlaid size off (off + length laids) laids b content ≡ model.content_after size r b content)
      covers same answers =
          let e = ends answers in
          subst (λ l. (is_met size off (off + length l) b ≡ true) × ((content : Content) → length content ≡ size → overlaid size off (off + length l) l b content ≡ model.content_after size r b content)) (sym same)
          (e.0, λ content whole. lies e.0 e.1 content)

  -- a write through the page cache
  pub written-told : (end grain blocks : ℕ) (all : List ℕ) (segments : List (List ℕ)) → r.call.verb ≡ Pwrite off segments → concat segments ≡ all → LieOn off (off + count) (take count all) (laid_in size es)
      → reply ≡ write_reply end off (length all) count fault → is_lawful_reply grain size blocks r.range true (Pwrite off segments) reply ≡ true → All (ChangesAsTold size calls b) es
  written-told end grain blocks all segments verb bytes laid reply_is lawful =
      called-told (take count all) (length all) (span_length (range_in end off (length all))) (length (concat segments)) (Pwrite off segments) laid
      (λ met ends content. write-lies size b r off (take count all) begins met ends (drop count all) (ap is_write verb) (ap offset_of verb) (ap bytes_of verb ∙ bytes ∙ sym (take-append-drop count all)) content)
      (λ answers. of-write size b r.range reply (read_reply (length all) (span_length (range_in end off (length all))) count fault) Whole (TooFar off end) (length all == 0) (nat_le end off) reply_is answers)
      (λ answers. data-reply size b r.range reply answers (length (concat segments) == 0) (is_too_far (blocks * size) (Pwrite off segments)) off (blocks * size) (is_data_reply size r.range true (Pwrite off segments) (length (concat segments)) reply) lawful)

  -- calls that lay zeros
  zeroed-told : (whole met asked : ℕ) (verb : Verb) → is_write r.call.verb ≡ false → is_zeroing r.call.verb ≡ true → LieOn off (off + count) (replicate count 0) (laid_in size es)
      → (Answers size b r.range reply → reply ≡ read_reply whole met count fault) → (Answers size b r.range reply → is_data_reply size r.range true verb asked reply ≡ true) → All (ChangesAsTold size calls b) es
  zeroed-told whole met asked verb writes clears laid reply_is lawful =
      called-told (zeros count) whole met asked verb laid (λ met ends content. zeros-lie size b r off (zeros count) begins met ends writes clears (sym (ap zeros long)) content) reply_is lawful
    where
      long : length (zeros count) ≡ count
      long = length-replicate count 0

  -- a call of zeros
  pub zero-told : (end grain blocks asked : ℕ) → r.call.verb ≡ Zero off asked → LieOn off (off + count) (replicate count 0) (laid_in size es)
      → reply ≡ write_reply end off asked count fault → is_lawful_reply grain size blocks r.range true (Zero off asked) reply ≡ true → All (ChangesAsTold size calls b) es
  zero-told end grain blocks asked verb laid reply_is lawful =
      zeroed-told asked (span_length (range_in end off asked)) asked (Zero off asked) (ap is_write verb) (ap is_zeroing verb) laid
      (λ answers. of-write size b r.range reply (read_reply asked (span_length (range_in end off asked)) count fault) Whole (TooFar off end) (asked == 0) (nat_le end off) reply_is answers)
      (λ answers. data-reply size b r.range reply answers (asked == 0) (is_too_far (blocks * size) (Zero off asked)) off (blocks * size) (is_data_reply size r.range true (Zero off asked) asked reply) lawful)

  -- a punch
  pub punch-told : (room : Bool) (met grain blocks asked : ℕ) → r.call.verb ≡ Punch off asked → LieOn off (off + count) (replicate count 0) (laid_in size es)
      → reply ≡ (if room then read_reply asked met count fault else Ok 0 (end_stop asked 0)) → is_lawful_reply grain size blocks r.range true (Punch off asked) reply ≡ true → All (ChangesAsTold size calls b) es
  punch-told room met grain blocks asked verb laid reply_is lawful =
      zeroed-told asked met asked (Punch off asked) (ap is_write verb) (ap is_zeroing verb) laid
      (λ answers. of-punch size b r.range reply (read_reply asked met count fault) (end_stop asked 0) room reply_is answers)
      (λ answers. data-reply size b r.range reply answers (asked == 0) (is_too_far (blocks * size) (Punch off asked)) off (blocks * size) (is_data_reply size r.range true (Punch off asked) asked reply) lawful)

  -- a cut of the file's size
  pub cut-told : (end grain blocks : ℕ) → r.call.verb ≡ Trunc off → LieOn off (off + count) (replicate count 0) (laid_in size es)
      → reply ≡ cut_reply end off count fault → is_lawful_reply grain size blocks r.range true (Trunc off) reply ≡ true → All (ChangesAsTold size calls b) es
  cut-told end grain blocks verb laid reply_is lawful =
      zeroed-told count count (span_length r.range) (Trunc off) (ap is_write verb) (ap is_zeroing verb) laid
      (λ answers. of-cut size b r.range reply (read_reply count count count fault) (TooFar off end) (nat_lt end off) reply_is answers)
      (λ answers. data-reply size b r.range reply answers false (is_too_far (blocks * size) (Trunc off)) off (blocks * size) (is_data_reply size r.range true (Trunc off) (span_length r.range) reply) lawful)
