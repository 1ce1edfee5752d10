-- Calls and closes, read off their lines.
use Rattle.std.proofs.Common.{◌≡◌, ℕ, ◌+◌, not, Bool, true, false, List, [], ◌∷◌, ◌++◌, length, map, decimal, codes, All, IsTrue, if◌then◌else◌, refl, ap₂, arith}
use Rattle.std.proofs.lemmas.Bool.{and_parts}
use Rattle.std.proofs.lemmas.List.{append_cancel_left}
use Rattle.std.proofs.lemmas.List.Elements.{All-head, All-tail}
use Rattle.std.specs.List.{list_all}
use Rattle.iob_base.specs.declared.answer.Answer.{Answer}
use Rattle.io_model.specs.Calls.{is_direct}
use Rattle.io_model.specs.Fitting.{is_again_reply}
use Rattle.io_model.specs.ReplyText.{verb_text}
use Rattle.io_model.specs.RunText.{page_runs, runs_text, call_line, call_lines, close_line, close_lines}
use Rattle.io_model.specs.declared.run.CallEnd.{CallEnd}
use Rattle.io_model.specs.declared.script.Call.{Call}
use Rattle.io_model.specs.declared.script.Verb.TheVariants.{Sync}
use Rattle.io_script.specs.Ranges.{IsWord, IsAnswerInRange, IsCallInRange}
use Rattle.io_script.specs.Told.{told_reply, told_bytes, told_pages, of_calls}
use Rattle.io_script.proofs.Reading.Lists.{tails}
use Rattle.io_script.proofs.Reading.Pages.{pages_one}
use Rattle.io_script.proofs.Reading.Pieces.{stops, is_digit, number_one}
use Rattle.io_script.proofs.Reading.Replies.{reply_one}

-- the pages of a direct call, and the end of its line
abbrev paged_text : Bool → ℕ → List ℕ → List ℕ → List ℕ
paged_text direct first pages rest = if direct then codes " pages " ++ runs_text first (page_runs pages) (10 ∷ rest) else 10 ∷ rest

paged_stop : (direct : Bool) (first : ℕ) (pages rest : List ℕ) → IsTrue (stops is_digit (paged_text direct first pages rest))
paged_stop true first pages rest = refl
paged_stop false first pages rest = refl

paged_one : (direct : Bool) (first : ℕ) (ps qs a b : List ℕ) → IsWord first → All IsWord ps → IsWord (length ps) → All IsWord qs → IsWord (length qs)
    → paged_text direct first ps a ≡ paged_text direct first qs b → ((if direct then ps else []) ≡ (if direct then qs else [])) × (a ≡ b)
paged_one true first ps qs a b hf hp lp hq lq e =
    pages_one first ps qs a b hf hp lp hq lq (append_cancel_left (codes " pages ") (runs_text first (page_runs ps) (10 ∷ a)) (runs_text first (page_runs qs) (10 ∷ b)) e)
paged_one false first ps qs a b hf hp lp hq lq e = (refl, tails 10 10 a b e)

six_cancel : (p q r s t u a b : List ℕ) → p ++ (q ++ (r ++ (s ++ (t ++ (u ++ a))))) ≡ p ++ (q ++ (r ++ (s ++ (t ++ (u ++ b))))) → a ≡ b
six_cancel p q r s t u a b e =
    append_cancel_left u a b (append_cancel_left t (u ++ a) (u ++ b) (append_cancel_left s (t ++ (u ++ a)) (t ++ (u ++ b))
    (append_cancel_left r (s ++ (t ++ (u ++ a))) (s ++ (t ++ (u ++ b))) (append_cancel_left q (r ++ (s ++ (t ++ (u ++ a)))) (r ++ (s ++ (t ++ (u ++ b))))
    (append_cancel_left p (q ++ (r ++ (s ++ (t ++ (u ++ a))))) (q ++ (r ++ (s ++ (t ++ (u ++ b))))) e)))))

-- what follows the reply of a call
abbrev after_reply : Call → CallEnd → List ℕ → List ℕ
after_reply call end rest = decimal end.answer.bios ++ paged_text (is_direct call.verb) call.first_page end.pages rest

call_one : (n : ℕ) (call : Call) (end other : CallEnd) (a b : List ℕ) → IsWord call.first_page → IsCallInRange end → IsCallInRange other
    → IsTrue (not (is_again_reply end.answer.reply)) → IsTrue (not (is_again_reply other.answer.reply)) → call_line n call end a ≡ call_line n call other b
    → (told_reply call.verb end.answer.reply ≡ told_reply call.verb other.answer.reply) × (told_bytes call.verb end.answer.reply end.got ≡ told_bytes call.verb other.answer.reply other.got)
    × (told_pages call.verb end.pages ≡ told_pages call.verb other.pages) × (end.answer.bios ≡ other.answer.bios) × (a ≡ b)
call_one n call end other a b hf he ho we wo e =
    let line = six_cancel (codes "call ") (decimal n) (codes " ") (decimal call.caller) (codes " ") (verb_text call.verb) _ _ e in
    let reply = reply_one call.verb end.answer.reply other.answer.reply end.got other.got (after_reply call end a) (after_reply call other b) we wo he.0.0 ho.0.0 he.1 ho.1
    (append_cancel_left (codes " ") _ _ line) in
    let bios = number_one end.answer.bios other.answer.bios (paged_text (is_direct call.verb) call.first_page end.pages a) (paged_text (is_direct call.verb) call.first_page other.pages b) he.0.1 ho.0.1
    (paged_stop (is_direct call.verb) call.first_page end.pages a) (paged_stop (is_direct call.verb) call.first_page other.pages b) reply.2 in
    let pages = paged_one (is_direct call.verb) call.first_page end.pages other.pages a b hf he.2 he.3 ho.2 ho.3 bios.1 in
    (reply.0, reply.1, pages.0, bios.0, pages.1)

-- two runs' calls are the same in all that their lines tell
pub record SameCalls (calls : List Call) (ends others : List CallEnd) : Type 0 where
  pub replies : of_calls (λ verb end. told_reply verb end.answer.reply) calls ends ≡ of_calls (λ verb end. told_reply verb end.answer.reply) calls others
  pub bytes : of_calls (λ verb end. told_bytes verb end.answer.reply end.got) calls ends ≡ of_calls (λ verb end. told_bytes verb end.answer.reply end.got) calls others
  pub pages : of_calls (λ verb end. told_pages verb end.pages) calls ends ≡ of_calls (λ verb end. told_pages verb end.pages) calls others
  pub bios : map (λ end. end.answer.bios) ends ≡ map (λ end. end.answer.bios) others

abbrev Waited : List CallEnd → Type 0
Waited ends = IsTrue (list_all (λ end. not (is_again_reply end.answer.reply)) ends)

pub calls_one : (n : ℕ) (calls : List Call) (ends others : List CallEnd) (a b : List ℕ) → length ends ≡ length calls → length others ≡ length calls
    → All (λ call. IsWord call.first_page) calls → All IsCallInRange ends → All IsCallInRange others → Waited ends → Waited others
    → call_lines n calls ends a ≡ call_lines n calls others b → SameCalls calls ends others × (a ≡ b)
calls_one n [] [] [] a b le lo hf he ho we wo e = (record { replies = refl; bytes = refl; pages = refl; bios = refl }, e)
calls_one n [] (end ∷ ends) others a b le lo hf he ho we wo e = absurd (omega (arith, le))
calls_one n [] [] (other ∷ others) a b le lo hf he ho we wo e = absurd (omega (arith, lo))
calls_one n (call ∷ calls) [] others a b le lo hf he ho we wo e = absurd (omega (arith, le))
calls_one n (call ∷ calls) (end ∷ ends) [] a b le lo hf he ho we wo e = absurd (omega (arith, lo))
calls_one n (call ∷ calls) (end ∷ ends) (other ∷ others) a b le lo hf he ho we wo e =
    let w = and_parts (not (is_again_reply end.answer.reply)) (list_all (λ end. not (is_again_reply end.answer.reply)) ends) we in
    let v = and_parts (not (is_again_reply other.answer.reply)) (list_all (λ end. not (is_again_reply end.answer.reply)) others) wo in
    let one = call_one n call end other (call_lines (n + 1) calls ends a) (call_lines (n + 1) calls others b) (All-head (λ call. IsWord call.first_page) call calls hf)
    (All-head IsCallInRange end ends he) (All-head IsCallInRange other others ho) w.0 v.0 e in
    let more = calls_one (n + 1) calls ends others a b (omega (arith, le)) (omega (arith, lo)) (All-tail (λ call. IsWord call.first_page) call calls hf)
    (All-tail IsCallInRange end ends he) (All-tail IsCallInRange other others ho) w.1 v.1 one.4 in (
      record {
        replies = ap₂ (λ x xs. x ∷ xs) one.0 more.0.replies;
        bytes = ap₂ (λ x xs. x ∷ xs) one.1 more.0.bytes;
        pages = ap₂ (λ x xs. x ∷ xs) one.2 more.0.pages;
        bios = ap₂ (λ x xs. x ∷ xs) one.3 more.0.bios;
      },
      more.1,
    )

-- Closes

abbrev ClosesWaited : List Answer → Type 0
ClosesWaited closes = IsTrue (list_all (λ close. not (is_again_reply close.reply)) closes)

close_one : (name : List ℕ) (close other : Answer) (a b : List ℕ) → IsAnswerInRange close → IsAnswerInRange other
    → IsTrue (not (is_again_reply close.reply)) → IsTrue (not (is_again_reply other.reply)) → close_line name close a ≡ close_line name other b
    → (told_reply Sync close.reply ≡ told_reply Sync other.reply) × (close.bios ≡ other.bios) × (a ≡ b)
close_one name close other a b hc ho wc wo e =
    let line = append_cancel_left name _ _ (append_cancel_left (codes "close ") _ _ e) in
    let reply = reply_one Sync close.reply other.reply [] [] (decimal close.bios ++ (10 ∷ a)) (decimal other.bios ++ (10 ∷ b)) wc wo hc.0 ho.0 (λ i. omega arith) (λ i. omega arith)
    (append_cancel_left (codes " ") _ _ line) in
    let bios = number_one close.bios other.bios (10 ∷ a) (10 ∷ b) hc.1 ho.1 refl refl reply.2 in
    (reply.0, bios.0, tails 10 10 a b bios.1)

pub closes_one : (names : List (List ℕ)) (closes others : List Answer) (a b : List ℕ) → length closes ≡ length names → length others ≡ length names
    → All IsAnswerInRange closes → All IsAnswerInRange others → ClosesWaited closes → ClosesWaited others → close_lines names closes a ≡ close_lines names others b
    → (map (λ close. told_reply Sync close.reply) closes ≡ map (λ close. told_reply Sync close.reply) others) × (map (λ close. close.bios) closes ≡ map (λ close. close.bios) others) × (a ≡ b)
closes_one [] [] [] a b lc lo hc ho wc wo e = (refl, refl, e)
closes_one [] (close ∷ closes) others a b lc lo hc ho wc wo e = absurd (omega (arith, lc))
closes_one [] [] (other ∷ others) a b lc lo hc ho wc wo e = absurd (omega (arith, lo))
closes_one (name ∷ names) [] others a b lc lo hc ho wc wo e = absurd (omega (arith, lc))
closes_one (name ∷ names) (close ∷ closes) [] a b lc lo hc ho wc wo e = absurd (omega (arith, lo))
closes_one (name ∷ names) (close ∷ closes) (other ∷ others) a b lc lo hc ho wc wo e =
    let w = and_parts (not (is_again_reply close.reply)) (list_all (λ close. not (is_again_reply close.reply)) closes) wc in
    let v = and_parts (not (is_again_reply other.reply)) (list_all (λ close. not (is_again_reply close.reply)) others) wo in
    let one = close_one name close other (close_lines names closes a) (close_lines names others b) (All-head IsAnswerInRange close closes hc) (All-head IsAnswerInRange other others ho) w.0 v.0 e in
    let more = closes_one names closes others a b (omega (arith, lc)) (omega (arith, lo)) (All-tail IsAnswerInRange close closes hc) (All-tail IsAnswerInRange other others ho) w.1 v.1 one.2 in
    (ap₂ (λ x xs. x ∷ xs) one.0 more.0, ap₂ (λ x xs. x ∷ xs) one.1 more.1, more.2)
