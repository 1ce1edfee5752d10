-- Replies, read off their texts.
use Rattle.std.proofs.Common.{◌≡◌, ℕ, ◌==◌, not, Bool, true, false, List, [], ◌++◌, slice_index, decimal, codes, IsTrue, if◌then◌else◌, refl, sym, ap, ap₂, ◌∙◌, arith}
use Rattle.std.proofs.lemmas.Bool.{true≢false, false≢true}
use Rattle.std.proofs.lemmas.List.{append_cancel_left}
use Rattle.hex.specs.Hex.{IsBytes}
use Rattle.iob_base.specs.declared.answer.Alignment.{Alignment}
use Rattle.iob_base.specs.declared.answer.Alignment.TheVariants.{Offset, Segment}
use Rattle.iob_base.specs.declared.answer.Fault.{Fault}
use Rattle.iob_base.specs.declared.answer.Fault.TheVariants.{Eio, SyncEio, Again, NoMemory, NotAligned, TooFar, NoSpace, Worn}
use Rattle.iob_base.specs.declared.answer.Reply.{Reply}
use Rattle.iob_base.specs.declared.answer.Reply.TheVariants.{Ok, Err}
use Rattle.iob_base.specs.declared.answer.Stop.{Stop}
use Rattle.iob_base.specs.declared.answer.Stop.TheVariants.{Whole, End, Fault as Short}
use Rattle.io_model.specs.Calls.{is_direct, is_read}
use Rattle.io_model.specs.Fitting.{is_again, is_again_stop, is_again_reply}
use Rattle.io_model.specs.ReplyText.{hex_text, fault_text, stop_text, reply_text}
use Rattle.io_model.specs.declared.script.Verb.{Verb}
use Rattle.io_script.specs.Ranges.{IsWord, IsFaultInRange, IsStopInRange, IsReplyInRange}
use Rattle.io_script.specs.Told.{told_reply, told_bytes}
use Rattle.io_script.proofs.Reading.Pieces.{stops, is_digit, is_mark, counted_one, pair_one, bytes_one}

-- a fault by the number of its kind
abbrev kind_of : Fault → ℕ
kind_of (Eio lane before now) = 0
kind_of (SyncEio seen count) = 1
kind_of (Again why) = 2
kind_of NoMemory = 3
kind_of (NotAligned part) = 4
kind_of (TooFar offset end) = 5
kind_of (NoSpace wanted found) = 6
kind_of (Worn cookie) = 7

-- the kind of a printed fault, by letters that tell: EIO l, EIO s, ENOM, EINVAL, EF, ENOS and EO
abbrev kind_in : List ℕ → ℕ
kind_in t =
    if slice_index t 1 == 73 then (if slice_index t 2 == 79 then (if slice_index t 4 == 108 then 0 else 1) else 4)
    else (if slice_index t 1 == 78 then (if slice_index t 3 == 77 then 3 else 6) else (if slice_index t 1 == 70 then 5 else 7))

kind_in-fault : (f : Fault) (rest : List ℕ) → IsTrue (not (is_again f)) → kind_in (fault_text f rest) ≡ kind_of f
kind_in-fault (Eio lane before now) rest h = refl
kind_in-fault (SyncEio seen count) rest h = refl
kind_in-fault (Again why) rest h = absurd (false≢true h)
kind_in-fault NoMemory rest h = refl
kind_in-fault (NotAligned (Offset n)) rest h = refl
kind_in-fault (NotAligned (Segment index n)) rest h = refl
kind_in-fault (TooFar offset end) rest h = refl
kind_in-fault (NoSpace wanted found) rest h = refl
kind_in-fault (Worn cookie) rest h = refl

three_one : (l m n x y z : ℕ) (a b : List ℕ) → IsWord l → IsWord m → IsWord n → IsWord x → IsWord y → IsWord z → IsTrue (stops is_digit a) → IsTrue (stops is_digit b)
    → codes "EIO lane " ++ (decimal l ++ (codes " rose " ++ (decimal m ++ (codes " " ++ (decimal n ++ a))))) ≡ codes "EIO lane " ++ (decimal x ++ (codes " rose " ++ (decimal y ++ (codes " " ++ (decimal z ++ b)))))
    → (l ≡ x) × (m ≡ y) × (n ≡ z) × (a ≡ b)
three_one l m n x y z a b hl hm hn hx hy hz ha hb e =
    let first = counted_one (codes "EIO lane ") l x (codes " rose " ++ (decimal m ++ (codes " " ++ (decimal n ++ a)))) (codes " rose " ++ (decimal y ++ (codes " " ++ (decimal z ++ b)))) hl hx refl refl e in
    let others = pair_one (codes " rose ") (codes " ") m n y z a b hm hn hy hz refl refl ha hb first.1 in
    (first.0, others.0, others.1.0, others.1.1)

eio_of : (l m n x y z : ℕ) → l ≡ x → m ≡ y → n ≡ z → Eio l m n ≡ Eio x y z
eio_of l m n x y z p q r = ap (λ k. Eio k m n) p ∙ ap (λ k. Eio x k n) q ∙ ap (λ k. Eio x y k) r

parts_apart : (a b : List ℕ) → codes "EINVAL offset " ++ a ≡ codes "EINVAL segment " ++ b → ⊥
parts_apart a b e = let differ : 111 ≡ 115 = ap (λ l. slice_index l 7) e in omega (arith, differ)

alignment_one : (p q : Alignment) (a b : List ℕ) → IsFaultInRange (NotAligned p) → IsFaultInRange (NotAligned q) → IsTrue (stops is_digit a) → IsTrue (stops is_digit b)
    → fault_text (NotAligned p) a ≡ fault_text (NotAligned q) b → (NotAligned p ≡ NotAligned q) × (a ≡ b)
alignment_one (Offset m) (Offset n) a b hp hq ha hb e =
    let same = counted_one (codes "EINVAL offset ") m n a b hp hq ha hb e in (ap (λ x. NotAligned (Offset x)) same.0, same.1)
alignment_one (Offset m) (Segment x y) a b hp hq ha hb e = absurd (parts_apart _ _ e)
alignment_one (Segment m n) (Offset x) a b hp hq ha hb e = absurd (parts_apart _ _ (sym e))
alignment_one (Segment m n) (Segment x y) a b hp hq ha hb e =
    let same = pair_one (codes "EINVAL segment ") (codes " length ") m n x y a b hp.0 hp.1 hq.0 hq.1 refl refl ha hb e in (ap₂ (λ i l. NotAligned (Segment i l)) same.0 same.1.0, same.1.1)

fault_by_kind : (f g : Fault) (a b : List ℕ) → kind_of f ≡ kind_of g → IsTrue (not (is_again f)) → IsFaultInRange f → IsFaultInRange g → IsTrue (stops is_digit a) → IsTrue (stops is_digit b)
    → fault_text f a ≡ fault_text g b → (f ≡ g) × (a ≡ b)
fault_by_kind (Eio l m n) (Eio x y z) a b k w hf hg ha hb e =
    let same = three_one l m n x y z a b hf.0 hf.1 hf.2 hg.0 hg.1 hg.2 ha hb e in (eio_of l m n x y z same.0 same.1 same.2, same.3)
fault_by_kind (Eio l m n) g a b k w hf hg ha hb e = absurd (omega (arith, k))
fault_by_kind (SyncEio m n) (SyncEio x y) a b k w hf hg ha hb e =
    let same = pair_one (codes "EIO seen ") (codes " count ") m n x y a b hf.0 hf.1 hg.0 hg.1 refl refl ha hb e in (ap₂ SyncEio same.0 same.1.0, same.1.1)
fault_by_kind (SyncEio m n) g a b k w hf hg ha hb e = absurd (omega (arith, k))
fault_by_kind (Again why) g a b k w hf hg ha hb e = absurd (false≢true w)
fault_by_kind NoMemory NoMemory a b k w hf hg ha hb e = (refl, append_cancel_left (codes "ENOMEM") a b e)
fault_by_kind NoMemory g a b k w hf hg ha hb e = absurd (omega (arith, k))
fault_by_kind (NotAligned p) (NotAligned q) a b k w hf hg ha hb e = alignment_one p q a b hf hg ha hb e
fault_by_kind (NotAligned p) g a b k w hf hg ha hb e = absurd (omega (arith, k))
fault_by_kind (TooFar m n) (TooFar x y) a b k w hf hg ha hb e =
    let same = pair_one (codes "EFBIG offset ") (codes " end ") m n x y a b hf.0 hf.1 hg.0 hg.1 refl refl ha hb e in (ap₂ TooFar same.0 same.1.0, same.1.1)
fault_by_kind (TooFar m n) g a b k w hf hg ha hb e = absurd (omega (arith, k))
fault_by_kind (NoSpace m n) (NoSpace x y) a b k w hf hg ha hb e =
    let same = pair_one (codes "ENOSPC wanted ") (codes " found ") m n x y a b hf.0 hf.1 hg.0 hg.1 refl refl ha hb e in (ap₂ NoSpace same.0 same.1.0, same.1.1)
fault_by_kind (NoSpace m n) g a b k w hf hg ha hb e = absurd (omega (arith, k))
fault_by_kind (Worn m) (Worn n) a b k w hf hg ha hb e =
    let same = counted_one (codes "EOVERFLOW cookie ") m n a b hf hg ha hb e in (ap Worn same.0, same.1)
fault_by_kind (Worn m) g a b k w hf hg ha hb e = absurd (omega (arith, k))

-- a fault, up to a byte that is no digit
pub fault_one : (f g : Fault) (a b : List ℕ) → IsTrue (not (is_again f)) → IsTrue (not (is_again g)) → IsFaultInRange f → IsFaultInRange g → IsTrue (stops is_digit a) → IsTrue (stops is_digit b)
    → fault_text f a ≡ fault_text g b → (f ≡ g) × (a ≡ b)
fault_one f g a b wf wg hf hg ha hb e =
    fault_by_kind f g a b (sym (kind_in-fault f a wf) ∙ ap kind_in e ∙ kind_in-fault g b wg) wf hf hg ha hb e

-- Stops

-- END by its third letter, which no fault has there
abbrev is_end : List ℕ → Bool
is_end t = slice_index t 9 == 68

is_end-fault : (f : Fault) (rest : List ℕ) → IsTrue (not (is_again f)) → is_end (codes " short " ++ fault_text f rest) ≡ false
is_end-fault (Eio lane before now) rest h = refl
is_end-fault (SyncEio seen count) rest h = refl
is_end-fault (Again why) rest h = absurd (false≢true h)
is_end-fault NoMemory rest h = refl
is_end-fault (NotAligned (Offset n)) rest h = refl
is_end-fault (NotAligned (Segment index n)) rest h = refl
is_end-fault (TooFar offset end) rest h = refl
is_end-fault (NoSpace wanted found) rest h = refl
is_end-fault (Worn cookie) rest h = refl

-- what follows a reply
abbrev pub with_bios : List ℕ → List ℕ
with_bios a = codes " bios " ++ a

pub stop_stops : (test : ℕ → Bool) (s : Stop) (a : List ℕ) → stops test (stop_text s (with_bios a)) ≡ not (test 32)
stop_stops test Whole a = refl
stop_stops test End a = refl
stop_stops test (Short f) a = refl

-- bios come right after the reply, or it was short
whole_apart : (a t : List ℕ) → with_bios a ≡ codes " short " ++ t → ⊥
whole_apart a t e = let differ : 98 ≡ 115 = ap (λ l. slice_index l 1) e in omega (arith, differ)

pub stop_one : (s t : Stop) (a b : List ℕ) → IsTrue (not (is_again_stop s)) → IsTrue (not (is_again_stop t)) → IsStopInRange s → IsStopInRange t
    → stop_text s (with_bios a) ≡ stop_text t (with_bios b) → (s ≡ t) × (a ≡ b)
stop_one Whole Whole a b ws wt hs ht e = (refl, append_cancel_left (codes " bios ") a b e)
stop_one Whole End a b ws wt hs ht e = absurd (whole_apart a (codes "END" ++ with_bios b) e)
stop_one Whole (Short g) a b ws wt hs ht e = absurd (whole_apart a (fault_text g (with_bios b)) e)
stop_one End Whole a b ws wt hs ht e = absurd (whole_apart b (codes "END" ++ with_bios a) (sym e))
stop_one End End a b ws wt hs ht e = (refl, append_cancel_left (codes " short END bios ") a b e)
stop_one End (Short g) a b ws wt hs ht e = absurd (true≢false (ap is_end e ∙ is_end-fault g (with_bios b) wt))
stop_one (Short f) Whole a b ws wt hs ht e = absurd (whole_apart b (fault_text f (with_bios a)) (sym e))
stop_one (Short f) End a b ws wt hs ht e = absurd (true≢false (ap is_end (sym e) ∙ is_end-fault f (with_bios a) ws))
stop_one (Short f) (Short g) a b ws wt hs ht e =
    let same = fault_one f g (with_bios a) (with_bios b) ws wt hs ht refl refl (append_cancel_left (codes " short ") (fault_text f (with_bios a)) (fault_text g (with_bios b)) e) in
    (ap Short same.0, append_cancel_left (codes " bios ") a b same.1)

-- Replies

abbrev ok_text : Bool → ℕ → Stop → List ℕ → List ℕ → List ℕ
ok_text read count stop got rest = codes "ok " ++ (decimal count ++ (if read then codes " " ++ (hex_text got ++ stop_text stop rest) else stop_text stop rest))

ok_one : (read : Bool) (m n : ℕ) (s t : Stop) (got others a b : List ℕ) → IsWord m → IsWord n → IsTrue (not (is_again_stop s)) → IsTrue (not (is_again_stop t))
    → IsStopInRange s → IsStopInRange t → IsBytes got → IsBytes others → ok_text read m s got (with_bios a) ≡ ok_text read n t others (with_bios b)
    → (Ok m s ≡ Ok n t) × ((if read then got else []) ≡ (if read then others else [])) × (a ≡ b)
ok_one true m n s t got others a b hm hn ws wt hs ht hg ho e =
    let count = counted_one (codes "ok ") m n (codes " " ++ (hex_text got ++ stop_text s (with_bios a))) (codes " " ++ (hex_text others ++ stop_text t (with_bios b))) hm hn refl refl e in
    let bytes = bytes_one got others (stop_text s (with_bios a)) (stop_text t (with_bios b)) hg ho (stop_stops is_mark s a) (stop_stops is_mark t b)
    (append_cancel_left (codes " ") (hex_text got ++ stop_text s (with_bios a)) (hex_text others ++ stop_text t (with_bios b)) count.1) in
    let stop = stop_one s t a b ws wt hs ht bytes.1 in
    (ap₂ Ok count.0 stop.0, bytes.0, stop.1)
ok_one false m n s t got others a b hm hn ws wt hs ht hg ho e =
    let count = counted_one (codes "ok ") m n (stop_text s (with_bios a)) (stop_text t (with_bios b)) hm hn (stop_stops is_digit s a) (stop_stops is_digit t b) e in
    let stop = stop_one s t a b ws wt hs ht count.1 in
    (ap₂ Ok count.0 stop.0, refl, stop.1)

abbrev err_text : Bool → Fault → ℕ → List ℕ → List ℕ
err_text direct f sent rest = codes "err " ++ fault_text f (if direct then codes " sent " ++ (decimal sent ++ rest) else rest)

err_one : (direct : Bool) (f g : Fault) (m n : ℕ) (a b : List ℕ) → IsTrue (not (is_again f)) → IsTrue (not (is_again g)) → IsFaultInRange f → IsFaultInRange g → IsWord m → IsWord n
    → err_text direct f m (with_bios a) ≡ err_text direct g n (with_bios b) → (Err f (if direct then m else 0) ≡ Err g (if direct then n else 0)) × (a ≡ b)
err_one true f g m n a b wf wg hf hg hm hn e =
    let fault = fault_one f g (codes " sent " ++ (decimal m ++ with_bios a)) (codes " sent " ++ (decimal n ++ with_bios b)) wf wg hf hg refl refl
    (append_cancel_left (codes "err ") (fault_text f (codes " sent " ++ (decimal m ++ with_bios a))) (fault_text g (codes " sent " ++ (decimal n ++ with_bios b))) e) in
    let sent = counted_one (codes " sent ") m n (with_bios a) (with_bios b) hm hn refl refl fault.1 in
    (ap₂ Err fault.0 sent.0, append_cancel_left (codes " bios ") a b sent.1)
err_one false f g m n a b wf wg hf hg hm hn e =
    let fault = fault_one f g (with_bios a) (with_bios b) wf wg hf hg refl refl (append_cancel_left (codes "err ") (fault_text f (with_bios a)) (fault_text g (with_bios b)) e) in
    (ap (λ k. Err k 0) fault.0, append_cancel_left (codes " bios ") a b fault.1)

ok_apart : (a b : List ℕ) → codes "ok " ++ a ≡ codes "err " ++ b → ⊥
ok_apart a b e = let differ : 111 ≡ 101 = ap (λ l. slice_index l 0) e in omega (arith, differ)

-- what a reply's text tells of it, up to the bios
pub reply_one : (verb : Verb) (r s : Reply) (got others a b : List ℕ) → IsTrue (not (is_again_reply r)) → IsTrue (not (is_again_reply s)) → IsReplyInRange r → IsReplyInRange s → IsBytes got → IsBytes others
    → reply_text verb r got (with_bios a) ≡ reply_text verb s others (with_bios b)
    → (told_reply verb r ≡ told_reply verb s) × (told_bytes verb r got ≡ told_bytes verb s others) × (a ≡ b)
reply_one verb (Ok m s) (Ok n t) got others a b wr ws hr hs hg ho e = ok_one (is_read verb) m n s t got others a b hr.0 hs.0 wr ws hr.1 hs.1 hg ho e
reply_one verb (Ok m s) (Err g sent) got others a b wr ws hr hs hg ho e = absurd (ok_apart _ _ e)
reply_one verb (Err f sent) (Ok n t) got others a b wr ws hr hs hg ho e = absurd (ok_apart _ _ (sym e))
reply_one verb (Err f m) (Err g n) got others a b wr ws hr hs hg ho e =
    let same = err_one (is_direct verb) f g m n a b wr ws hr.0 hs.0 hr.1 hs.1 e in (same.0, refl, same.1)
