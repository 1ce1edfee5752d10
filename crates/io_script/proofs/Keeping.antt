-- Calls of a generated script keep to their stripes.
use Rattle.std.proofs.Common.{◌≡◌, ℕ, zero, suc, ◌+◌, ◌-◌, ◌*◌, ◌%◌, ◌<◌, ◌≤◌, ◌==◌, ◌&&◌, Bool, true, false, nat_le, nat_lt, [], ◌∷◌, length, replicate, IsTrue, refl, sym, ap, subst, arith, if◌then◌else◌, length-append}
use Rattle.std.proofs.lemmas.Bool.{and_from, or_right, eq-eqb, le-leb, lt-ltb}
use Rattle.std.proofs.lemmas.List.{length-replicate}
use Rattle.std.specs.List.{concat, list_all, sum}
use Rattle.io_model.specs.Calls.{asked_of, is_writeback, offset_of}
use Rattle.io_model.specs.OneOrder.{phases_rise}
use Rattle.io_model.specs.declared.script.Call.{Call}
use Rattle.io_model.specs.declared.script.Verb.{Verb}
use Rattle.io_model.specs.declared.script.Verb.TheVariants.{Pread, Pwrite, Dread, Dwrite, Zero, Punch, Wb}
use Rattle.io_script.specs.Generated.{block_length, block_offset, byte_length, byte_offset, caller_of, draws_from, first_byte, generated_call, generated_calls, pages_in, phase_of, state_after, stripe_of, verb_in, written_byte}
use Rattle.io_script.specs.Stripes.{asks_in_stripe, keeps_to_stripe}
use Rattle.io_script.specs.declared.generator.Draws.{Draws}

-- bytes that begin in a stripe and end there
pub record InStripe (stripe off asked : ℕ) : Type 0 where
  pub low : first_byte stripe ≤ off
  pub high : off + asked ≤ first_byte stripe + 32768

bytes-in : (stripe : ℕ) (d : Draws) → InStripe stripe (byte_offset (first_byte stripe) d) (byte_length (first_byte stripe) d)
bytes-in stripe d = record { low = omega arith; high = omega arith }

blocks-in : (stripe : ℕ) (d : Draws) → InStripe stripe (block_offset (first_byte stripe) d) (block_length d)
blocks-in stripe d = record { low = omega arith; high = omega arith }

-- a call whose bytes lie there asks in the stripe
asks : (stripe : ℕ) (verb : Verb) → InStripe stripe (offset_of verb) (asked_of verb) → IsTrue (asks_in_stripe stripe verb)
asks stripe verb s =
    let first = first_byte stripe in
    let off = offset_of verb in
    let end = offset_of verb + asked_of verb in
    or_right (is_writeback verb) (nat_le first off && nat_le end (first + 32768))
    (and_from (nat_le first off) (nat_le end (first + 32768)) (le-leb first off s.low) (le-leb end (first + 32768) s.high))

-- the bytes of one segment, as a length or as they are
reads : (stripe off len : ℕ) → InStripe stripe off len → InStripe stripe off (sum (len ∷ []))
reads stripe off len s = record { low = s.low; high = omega arith }

writes : (stripe off len byte : ℕ) → InStripe stripe off len → InStripe stripe off (length (concat (replicate len byte ∷ [])))
writes stripe off len byte s =
    let many : length (concat (replicate len byte ∷ [])) ≡ len = simp (length-append, length-replicate) (omega arith) in
    record { low = s.low; high = omega arith }

either : (P : Verb → Type 0) (b : Bool) (x y : Verb) → P x → P y → P (if b then x else y)
either P true x y p q = p
either P false x y p q = q

verb-asks : (stripe : ℕ) (d : Draws) → IsTrue (asks_in_stripe stripe (verb_in stripe d))
verb-asks stripe d =
    let first = first_byte stripe in
    let kind = d.r1 % 8 in
    let off = byte_offset first d in
    let len = byte_length first d in
    let start = block_offset first d in
    let size = block_length d in
    let byte = written_byte d in
    let P = λ (v : Verb). IsTrue (asks_in_stripe stripe v) in
    let pread = Pread off (len ∷ []) in
    let dread = Dread start (size ∷ []) in
    let dwrite = Dwrite start (replicate size byte ∷ []) in
    let zero_it = Zero off len in
    let punch = Punch off len in
    let wb = Wb (64 * stripe) 64 in
    let pwrite = Pwrite off (replicate len byte ∷ []) in
    let six = if kind == 6 then wb else pwrite in
    let five = if kind == 5 then punch else six in
    let four = if kind == 4 then zero_it else five in
    let three = if kind == 3 then dwrite else four in
    let two = if kind == 2 then dread else three in
    either P (kind == 0) pread two (asks stripe pread (reads stripe off len (bytes-in stripe d)))
    (either P (kind == 2) dread three (asks stripe dread (reads stripe start size (blocks-in stripe d)))
    (either P (kind == 3) dwrite four (asks stripe dwrite (writes stripe start size byte (blocks-in stripe d)))
    (either P (kind == 4) zero_it five (asks stripe zero_it (bytes-in stripe d))
    (either P (kind == 5) punch six (asks stripe punch (bytes-in stripe d))
    (either P (kind == 6) wb pwrite refl (asks stripe pwrite (writes stripe off len byte (bytes-in stripe d))))))))

keeps : (call : Call) (stripe : ℕ) → call.caller < 8 → 0 < call.phase → call.file.0 ≡ 0 → stripe_of call.caller (call.phase - 1) ≡ stripe
    → IsTrue (asks_in_stripe stripe call.verb) → IsTrue (keeps_to_stripe call)
keeps call stripe few started first own asked =
    let own_asked = subst (λ s. IsTrue (asks_in_stripe s call.verb)) (sym own) asked in
    let asks_own = asks_in_stripe (stripe_of call.caller (call.phase - 1)) call.verb in
    and_from (nat_lt call.caller 8) (nat_lt 0 call.phase && (call.file.0 == 0 && asks_own)) (lt-ltb call.caller 8 few)
    (and_from (nat_lt 0 call.phase) (call.file.0 == 0 && asks_own) (lt-ltb 0 call.phase started)
    (and_from (call.file.0 == 0) asks_own (eq-eqb call.file.0 0 first) own_asked))

call-keeps : (n page : ℕ) (d : Draws) → IsTrue (keeps_to_stripe (generated_call n page d))
call-keeps n page d =
    let back : (phase_of n + 1) - 1 ≡ phase_of n = omega arith in
    keeps (generated_call n page d) (stripe_of (caller_of n) (phase_of n)) (omega arith) (omega arith) refl
    (ap (λ p. stripe_of (caller_of n) p) back) (verb-asks (stripe_of (caller_of n) (phase_of n)) d)

-- so many calls, each of which keeps to its stripe
pub generated_calls-keep : (more n x page : ℕ) → IsTrue (list_all keeps_to_stripe (generated_calls more n x page))
unfolding generated_calls
generated_calls-keep zero n x page = refl
generated_calls-keep (suc more) n x page =
    let rest = generated_calls more (n + 1) (state_after x) (page + pages_in (draws_from x)) in
    and_from (keeps_to_stripe (generated_call n page (draws_from x))) (list_all keeps_to_stripe rest)
    (call-keeps n page (draws_from x)) (generated_calls-keep more (n + 1) (state_after x) (page + pages_in (draws_from x)))

pub generated_calls-many : (more n x page : ℕ) → length (generated_calls more n x page) ≡ more
unfolding generated_calls
generated_calls-many zero n x page = refl
generated_calls-many (suc more) n x page = ap suc (generated_calls-many more (n + 1) (state_after x) (page + pages_in (draws_from x)))

-- no call is of an earlier phase than the first
phases-after : (p more n x page : ℕ) → p ≤ phase_of n + 1 → IsTrue (list_all (λ later. nat_le p later.phase) (generated_calls more n x page))
unfolding generated_calls
phases-after p zero n x page low = refl
phases-after p (suc more) n x page low =
    let rest = generated_calls more (n + 1) (state_after x) (page + pages_in (draws_from x)) in
    and_from (nat_le p (phase_of n + 1)) (list_all (λ later. nat_le p later.phase) rest) (le-leb p (phase_of n + 1) low)
    (phases-after p more (n + 1) (state_after x) (page + pages_in (draws_from x)) (omega arith))

pub generated_phases-rise : (more n x page : ℕ) → IsTrue (phases_rise (generated_calls more n x page))
unfolding generated_calls
generated_phases-rise zero n x page = refl
generated_phases-rise (suc more) n x page =
    let rest = generated_calls more (n + 1) (state_after x) (page + pages_in (draws_from x)) in
    and_from (list_all (λ later. nat_le (phase_of n + 1) later.phase) rest) (phases_rise rest)
    (phases-after (phase_of n + 1) more (n + 1) (state_after x) (page + pages_in (draws_from x)) (omega arith))
    (generated_phases-rise more (n + 1) (state_after x) (page + pages_in (draws_from x)))
