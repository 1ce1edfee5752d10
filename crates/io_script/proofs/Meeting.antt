-- Callers that keep to their stripes meet in no block of a phase.
use Rattle.std.proofs.Common.{◌≡◌, ℕ, ◌+◌, ◌-◌, ◌/◌, ◌<◌, ◌≤◌, ◌==◌, ◌&&◌, ◌||◌, Bool, true, false, not, nat_le, nat_lt, List, [], ◌∷◌, None, IsTrue, refl, sym, ap, ◌∙◌, subst, arith}
use Rattle.std.proofs.lemmas.Bool.{and_parts, and_from, eqb-true, eq-eqb, leb-true, ltb-true, false≢true}
use Rattle.std.specs.List.{list_all, slice_get}
use Rattle.io_model.specs.Calls.{asked_of, is_data_call, is_writeback, offset_of}
use Rattle.io_model.specs.Journals.{IsLawfulJournal, each_block}
use Rattle.io_model.specs.Lists.{each_from, each_pair}
use Rattle.io_model.specs.OneOrder.{HasOneOrder, IsInScriptOrder, stay_apart, touches}
use Rattle.io_model.specs.Parts.{Span, meets}
use Rattle.io_model.specs.Ranges.{Ranged, declared_end, range_of, range_with, ranged, ranged_calls, ranged_from, seen_by, sizes_at}
use Rattle.io_model.specs.declared.file.BlockEnd.{BlockEnd}
use Rattle.io_model.specs.declared.file.FileEnd.{FileEnd}
use Rattle.io_model.specs.declared.file.SizeStamp.{SizeStamp}
use Rattle.io_model.specs.declared.run.Run.{Run}
use Rattle.io_model.specs.declared.script.Call.{Call}
use Rattle.io_model.specs.declared.script.Verb.{Verb}
use Rattle.io_model.specs.declared.script.Verb.TheVariants.{Pread, Pwrite, Dread, Dwrite, Xread, Xwrite, Zero, Punch, Alloc, Wb, Sync, Drop, Trunc}
use Rattle.io_model.proofs.ScriptOrder.{one_order}
use Rattle.io_script.specs.Generated.{CALLS_GENERATED, first_byte, generated, generated_file, stripe_of}
use Rattle.io_script.specs.Stripes.{asks_in_stripe, keeps_to_stripe}
use Rattle.io_script.proofs.Keeping.{generated_calls-keep, generated_phases-rise}

-- a range that has no bytes but those that its call asks
record IsAsked (verb : Verb) (range : Span) : Type 0 where
  from : range.from ≡ offset_of verb
  to : range.to ≤ offset_of verb + asked_of verb

-- the range of a call on a file without a size
range-asked : (size end : ℕ) (verb : Verb) → IsAsked verb (range_with size end None verb)
range-asked size end (Pread off lengths) = record { from = refl; to = omega arith }
range-asked size end (Pwrite off segments) = record { from = refl; to = omega arith }
range-asked size end (Dread off lengths) = record { from = refl; to = omega arith }
range-asked size end (Dwrite off segments) = record { from = refl; to = omega arith }
range-asked size end (Xread off lengths) = record { from = refl; to = omega arith }
range-asked size end (Xwrite off segments) = record { from = refl; to = omega arith }
range-asked size end (Zero off n) = record { from = refl; to = omega arith }
range-asked size end (Punch off n) = record { from = refl; to = omega arith }
range-asked size end (Alloc off n) = record { from = refl; to = omega arith }
range-asked size end (Wb from blocks) = record { from = refl; to = omega arith }
range-asked size end Sync = record { from = refl; to = omega arith }
range-asked size end Drop = record { from = refl; to = omega arith }
range-asked size end (Trunc to) = record { from = refl; to = omega arith }

-- the one file of a generated script has none
seen-none : (f n : ℕ) (stamps : List SizeStamp) → f ≡ 0 → seen_by (slice_get (generated_file ∷ []) f) n stamps ≡ None
seen-none f n stamps e = ap (λ g. seen_by (slice_get (generated_file ∷ []) g) n stamps) e

-- a call with its range, that keeps to its stripe
record Keeps (r : Ranged) : Type 0 where
  few : r.call.caller < 8
  started : 0 < r.call.phase
  asked : IsAsked r.call.verb r.range
  inside : IsTrue (asks_in_stripe (stripe_of r.call.caller (r.call.phase - 1)) r.call.verb)

call-keeps : (seed : ℕ) (files : List FileEnd) (n : ℕ) (call : Call) → IsTrue (keeps_to_stripe call) → Keeps (ranged call (range_of (generated seed) files n call))
call-keeps seed files n call h =
    let asks = asks_in_stripe (stripe_of call.caller (call.phase - 1)) call.verb in
    let few = and_parts (nat_lt call.caller 8) (nat_lt 0 call.phase && (call.file.0 == 0 && asks)) h in
    let started = and_parts (nat_lt 0 call.phase) (call.file.0 == 0 && asks) few.1 in
    let first = and_parts (call.file.0 == 0) asks started.1 in
    let none = seen-none call.file.0 n (sizes_at files call.file.0) (eqb-true call.file.0 0 first.0) in
    record {
      few = ltb-true call.caller 8 few.0;
      started = ltb-true 0 call.phase started.0;
      asked = subst (λ seen. IsAsked call.verb (range_with 512 (declared_end (generated seed) call.file.0) seen call.verb)) (sym none)
          (range-asked 512 (declared_end (generated seed) call.file.0) call.verb);
      inside = first.1;
    }

-- bytes of a stripe meet its blocks alone
stripe-met : (stripe b : ℕ) (range : Span) → first_byte stripe ≤ range.from → range.to ≤ first_byte stripe + 32768 → IsTrue (meets 512 range b) → b / 64 ≡ stripe
stripe-met stripe b range low high met =
    let lt = ltb-true _ _ met in
    omega arith

-- a data call is no writeback
pub moved : (verb : Verb) → IsTrue (is_data_call verb) → is_writeback verb ≡ false
moved (Pread off lengths) h = refl
moved (Pwrite off segments) h = refl
moved (Dread off lengths) h = refl
moved (Dwrite off segments) h = refl
moved (Xread off lengths) h = refl
moved (Xwrite off segments) h = refl
moved (Zero off n) h = refl
moved (Punch off n) h = refl
moved (Alloc off n) h = absurd (false≢true h)
moved (Wb from blocks) h = absurd (false≢true h)
moved Sync h = absurd (false≢true h)
moved Drop h = absurd (false≢true h)
moved (Trunc to) h = refl

pub told : (p q : Bool) → p ≡ false → IsTrue (p || q) → IsTrue q
told true q is h = absurd (false≢true (sym is))
told false q is h = h

unless : (p q : Bool) → (p ≡ true → q ≡ true) → IsTrue (not p || q)
unless true q show = show refl
unless false q show = refl

-- a block that a call touches is one of its stripe
touched : (f b : ℕ) (r : Ranged) → Keeps r → IsTrue (touches 512 f b r) → b / 64 ≡ stripe_of r.call.caller (r.call.phase - 1)
touched f b r k touch =
    let stripe = stripe_of r.call.caller (r.call.phase - 1) in
    let verb = r.call.verb in
    let moves = and_parts (is_data_call verb) (r.call.file.0 == f && meets 512 r.range b) touch in
    let met = and_parts (r.call.file.0 == f) (meets 512 r.range b) moves.1 in
    let parts = and_parts (nat_le (first_byte stripe) (offset_of verb)) (nat_le (offset_of verb + asked_of verb) (first_byte stripe + 32768))
    (told (is_writeback verb) (nat_le (first_byte stripe) (offset_of verb) && nat_le (offset_of verb + asked_of verb) (first_byte stripe + 32768)) (moved verb moves.0) k.inside) in
    let low = leb-true (first_byte stripe) (offset_of verb) parts.0 in
    let high = leb-true (offset_of verb + asked_of verb) (first_byte stripe + 32768) parts.1 in
    let from = k.asked.from in
    let to = k.asked.to in
    stripe-met stripe b r.range (omega arith) (omega arith) met.1

-- eight callers have eight stripes in a phase
one_caller : (c e p : ℕ) → c < 8 → e < 8 → stripe_of c p ≡ stripe_of e p → c ≡ e
one_caller c e p low high same = omega arith

apart : (f b : ℕ) (r s : Ranged) → Keeps r → Keeps s → IsTrue (stay_apart 512 f b r s)
apart f b r s k l =
    unless (r.call.phase == s.call.phase && (touches 512 f b r && touches 512 f b s)) (r.call.caller == s.call.caller)
    (λ h.
    let phase = and_parts (r.call.phase == s.call.phase) (touches 512 f b r && touches 512 f b s) h in
    let both = and_parts (touches 512 f b r) (touches 512 f b s) phase.1 in
    let one = eqb-true r.call.phase s.call.phase phase.0 in
    let here = touched f b r k both.0 in
    let there = touched f b s l both.1 in
    let back = ap (λ p. stripe_of s.call.caller (p - 1)) one in
    eq-eqb r.call.caller s.call.caller
    (one_caller r.call.caller s.call.caller (r.call.phase - 1) k.few l.few (sym here ∙ there ∙ sym back)))

-- the same of calls with their ranges
module _ (seed : ℕ) (files : List FileEnd) (f b : ℕ) where
  apart-later : (r : Ranged) → Keeps r → (n : ℕ) (calls : List Call) → IsTrue (list_all keeps_to_stripe calls)
      → IsTrue (list_all (stay_apart 512 f b r) (ranged_from (generated seed) files n calls))
  apart-later r k n [] all = refl
  apart-later r k n (call ∷ calls) all =
      let parts = and_parts (keeps_to_stripe call) (list_all keeps_to_stripe calls) all in
      let s = ranged call (range_of (generated seed) files n call) in
      and_from (stay_apart 512 f b r s) (list_all (stay_apart 512 f b r) (ranged_from (generated seed) files (n + 1) calls))
      (apart f b r s k (call-keeps seed files n call parts.0)) (apart-later r k (n + 1) calls parts.1)

  apart-all : (n : ℕ) (calls : List Call) → IsTrue (list_all keeps_to_stripe calls) → IsTrue (each_pair (stay_apart 512 f b) (ranged_from (generated seed) files n calls))
  apart-all n [] all = refl
  apart-all n (call ∷ calls) all =
      let parts = and_parts (keeps_to_stripe call) (list_all keeps_to_stripe calls) all in
      let r = ranged call (range_of (generated seed) files n call) in
      let rest = ranged_from (generated seed) files (n + 1) calls in
      and_from (list_all (stay_apart 512 f b r) rest) (each_pair (stay_apart 512 f b) rest)
      (apart-later r (call-keeps seed files n call parts.0) (n + 1) calls parts.1) (apart-all (n + 1) calls parts.1)

-- a fact of every item, and of every block of every file
each_from-all : {A : Type 0} (test : ℕ → A → Bool) → ((n : ℕ) (x : A) → IsTrue (test n x)) → (n : ℕ) (xs : List A) → IsTrue (each_from test n xs)
each_from-all test show n [] = refl
each_from-all test show n (x ∷ xs) = and_from (test n x) (each_from test (n + 1) xs) (show n x) (each_from-all test show (n + 1) xs)

each_block-all : (test : ℕ → ℕ → BlockEnd → Bool) → ((f b : ℕ) (block : BlockEnd) → IsTrue (test f b block)) → (files : List FileEnd) → IsTrue (each_block test files)
each_block-all test show files =
    each_from-all (λ f file. each_from (test f) 0 file.blocks) (λ f file. each_from-all (test f) (show f) 0 file.blocks) 0 files

-- no two callers of a phase of a generated script meet in a block
pub generated-one_order : (seed : ℕ) (run : Run) → HasOneOrder (generated seed) run
generated-one_order seed run = record {
  phases = generated_phases-rise CALLS_GENERATED 0 seed 0;
  apart = each_block-all (λ f b block. each_pair (stay_apart 512 f b) (ranged_calls (generated seed) run))
      (λ f b block. apart-all seed run.ends.files f b 1 (generated seed).calls (generated_calls-keep CALLS_GENERATED 0 seed 0)) run.ends.files;
}

-- so lawful journals are in the order of the script
pub generated-in_order : (seed : ℕ) (makers : List ℕ) (run : Run) → IsLawfulJournal (generated seed) makers run → IsInScriptOrder (generated seed) run
generated-in_order seed makers run lawful = one_order (generated seed) makers run (generated-one_order seed run) lawful
