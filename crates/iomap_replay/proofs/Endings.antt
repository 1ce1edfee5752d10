-- What an ending says, from what was read to what was written.
use Rattle.std.proofs.Common.{◌≡◌, ℕ, ◌<◌, Bool, true, false, List, [], Option, Some, None, Result, Ok, Err, IfOk, length, nat_le, subst, sym, ◌∙◌, ap, refl, inl, inr, arith, if◌then◌else◌}
use Rattle.std.proofs.lemmas.Bool.{leb-true, leb-false, lt-ltb}
use Rattle.fault_device.specs.Opening.{Opening}
use Rattle.io_script.specs.Grammar.{TEXT_LIMIT, refusal_of, refusal_from}
use Rattle.io_script.specs.GrammarWords.{pieces}
use Rattle.io_script.specs.declared.read.cause.Cause.TheVariants.{TooMuch}
use Rattle.iomap_replay.specs.Endings.{IsTold, IsWritten, IsAnswer, Ends, HasEnded, number_of}
use Rattle.iomap_replay.specs.Refusals.{IsNoScript}
use Rattle.iomap_replay.specs.Statuses.{Replays, Checks, WasWhole, IsTextOf, WasReadFor, WroteWhole}
use Rattle.iomap_replay.specs.Streams.{ReadTold, TookWhole}
use Rattle.iomap_replay.specs.declared.ending.Ending.{Ending}
use Rattle.iomap_replay.specs.declared.ending.Ending.TheVariants.{Whole, Errors, Refused, SourceFailed, SinkFailed, NoMemory, BadWords}
use Rattle.iomap_replay.specs.declared.ending.Output.{Output}

-- what is said of a text that is too long is its refusal, which is that of every such text
pub record IsSaying (Says : List ℕ → Ending → List ℕ → Type 0) : Type 0 where
  pub told : (text : List ℕ) (ending : Ending) (written : List ℕ) → Says text ending written → IsTold ending
  pub far : (text bytes : List ℕ) (ending : Ending) (written : List ℕ) → TEXT_LIMIT < length text → TEXT_LIMIT < length bytes → Says text ending written
      → (ending ≡ Refused) × Says bytes Refused written

-- a text that is too long has this refusal
long_is_refused : (text : List ℕ) → TEXT_LIMIT < length text → refusal_of text ≡ Some (0, TooMuch)
long_is_refused text long = ap (λ (t : Bool). if t then Some (0, TooMuch) else refusal_from [] 1 (pieces 10 text)) (lt-ltb _ _ long)

long_is_no_script : {A : Type 0} (text : List ℕ) → TEXT_LIMIT < length text → refusal_of text ≡ None → A
long_is_no_script text long none = absurd (let both : None ≡ Some (0, TooMuch) = sym none ∙ long_is_refused text long in cc)

no_script_far : (text bytes written : List ℕ) → TEXT_LIMIT < length text → TEXT_LIMIT < length bytes → IsNoScript text written → IsNoScript bytes written
no_script_far text bytes written long far is =
    record { line = is.line; cause = is.cause; refused = long_is_refused bytes far ∙ sym (long_is_refused text long) ∙ is.refused; says = is.says }

pub checks_say : IsSaying Checks
checks_say = record { told = told; far = far }
  where
    told : (text : List ℕ) (ending : Ending) (written : List ℕ) → Checks text ending written → IsTold ending
    told text Whole written says = tt
    told text Refused written says = tt
    told text Errors written says = tt
    told text SourceFailed written says = says
    told text SinkFailed written says = says
    told text NoMemory written says = says
    told text BadWords written says = says

    far : (text bytes : List ℕ) (ending : Ending) (written : List ℕ) → TEXT_LIMIT < length text → TEXT_LIMIT < length bytes → Checks text ending written
        → (ending ≡ Refused) × Checks bytes Refused written
    far text bytes Whole written long longer says = long_is_no_script text long says.is.script.not_refused
    far text bytes Refused written long longer says = (refl, no_script_far text bytes written long longer says)
    far text bytes Errors written long longer says = absurd says
    far text bytes SourceFailed written long longer says = absurd says
    far text bytes SinkFailed written long longer says = absurd says
    far text bytes NoMemory written long longer says = absurd says
    far text bytes BadWords written long longer says = absurd says

pub replays_say : (openings : List Opening) (image : Bool) → IsSaying (Replays openings image)
replays_say openings image = record { told = told; far = far }
  where
    told : (text : List ℕ) (ending : Ending) (written : List ℕ) → Replays openings image text ending written → IsTold ending
    told text Whole written says = tt
    told text Refused written says = tt
    told text Errors written says = tt
    told text SourceFailed written says = says
    told text SinkFailed written says = says
    told text NoMemory written says = says
    told text BadWords written says = says

    far : (text bytes : List ℕ) (ending : Ending) (written : List ℕ) → TEXT_LIMIT < length text → TEXT_LIMIT < length bytes → Replays openings image text ending written
        → (ending ≡ Refused) × Replays openings image bytes Refused written
    far text bytes Whole written long longer says = long_is_no_script text long says.is_script.not_refused
    far text bytes Errors written long longer says = long_is_no_script text long says.is_script.not_refused
    far text bytes Refused written long longer (inl says) = (refl, inl (no_script_far text bytes written long longer says))
    far text bytes Refused written long longer (inr says) = long_is_no_script text long says.is_script.not_refused
    far text bytes SourceFailed written long longer says = absurd says
    far text bytes SinkFailed written long longer says = absurd says
    far text bytes NoMemory written long longer says = absurd says
    far text bytes BadWords written long longer says = absurd says

is_text_of : (left now : Option (List ℕ)) (text : List ℕ) → WasWhole left text now → IsTextOf left text
is_text_of None now text whole = tt
is_text_of (Some bytes) now text whole = whole.0

read_for : (ending : Ending) (left now : Option (List ℕ)) (text : List ℕ) → WasWhole left text now → WasReadFor ending left text now
read_for Refused left now text whole = is_text_of left now text whole
read_for Whole left now text whole = whole
read_for Errors left now text whole = whole
read_for SourceFailed left now text whole = whole
read_for SinkFailed left now text whole = whole
read_for NoMemory left now text whole = whole
read_for BadWords left now text whole = whole

-- what was read and is said of it tell what is said of the source's text
record WasSaid (Says : List ℕ → Ending → List ℕ → Type 0) (ending : Ending) (written : List ℕ) (left now : Option (List ℕ)) : Type 0 where
  text : List ℕ
  read : WasReadFor ending left text now
  is : IsTextOf left text
  says : Says text ending written

was_said : (Says : List ℕ → Ending → List ℕ → Type 0) → IsSaying Says → (ending : Ending) (written text : List ℕ) (left now : Option (List ℕ))
    → ReadTold left text now → Says text ending written → WasSaid Says ending written left now
was_said Says saying ending written text None now read says = record { text = text; read = read_for ending None now text tt; is = tt; says = says }
was_said Says saying ending written text (Some bytes) now read says = by_test (nat_le (length text) TEXT_LIMIT) refl
  where
    by_test : (t : Bool) → nat_le (length text) TEXT_LIMIT ≡ t → WasSaid Says ending written (Some bytes) now
    by_test true fits =
        let whole = read.whole (leb-true _ _ fits) in
        record { text = text; read = read_for ending (Some bytes) now text (sym whole.0, whole.1); is = sym whole.0; says = says }
    by_test false long =
        let beyond = leb-false _ _ long in
        let far = saying.far text bytes ending written beyond (read.beyond beyond) says in
        let P : Ending → Type 0 = λ e. WasSaid Says e written (Some bytes) now in
        subst P (sym far.0) (record { text = bytes; read = refl; is = refl; says = far.1 })

wrote : (Says : List ℕ → Ending → List ℕ → Type 0) (ending : Ending) (written : List ℕ) (left now taken after : Option (List ℕ)) → WasSaid Says ending written left now
    → TookWhole taken written after → WroteWhole Says ending left now taken after
wrote Says ending written left now taken after said took = record { text = said.text; written = written; read = said.read; says = said.says; took = took }

-- what was written whole is how the call ends
told_whole : (Says : List ℕ → Ending → List ℕ → Type 0) (ending : Ending) (written : List ℕ) (s s' k k' : ℕ) (left left' taken taken' : Option (List ℕ)) → IsTold ending
    → WasSaid Says ending written left left' → TookWhole taken written taken' → Ends Says ending s s' k k' left left' taken taken'
told_whole Says Whole written s s' k k' left left' taken taken' told said took = wrote Says Whole written left left' taken taken' said took
told_whole Says Errors written s s' k k' left left' taken taken' told said took = wrote Says Errors written left left' taken taken' said took
told_whole Says Refused written s s' k k' left left' taken taken' told said took = wrote Says Refused written left left' taken taken' said took
told_whole Says SourceFailed written s s' k k' left left' taken taken' told said took = absurd told
told_whole Says SinkFailed written s s' k k' left left' taken taken' told said took = absurd told
told_whole Says NoMemory written s s' k k' left left' taken taken' told said took = absurd told
told_whole Says BadWords written s s' k k' left left' taken taken' told said took = absurd told

-- what was to be written of a text that was read, and what became of it, is how the call ends
pub ended : (Says : List ℕ → Ending → List ℕ → Type 0) → IsSaying Says → (text : List ℕ) (output : Output) (ending : Ending) (s s' k k' : ℕ) (left left' taken taken' : Option (List ℕ))
    → ReadTold left text left' → Says text output.ending output.written.items → IsWritten output ending k k' taken taken' → Ends Says ending s s' k k' left left' taken taken'
ended Says saying text output ending s s' k k' left left' taken taken' read says (inl whole) =
    let P : Ending → Type 0 = λ e. Ends Says e s s' k k' left left' taken taken' in
    let said = was_said Says saying output.ending output.written.items text left left' read says in
    subst P (sym whole.0) (told_whole Says output.ending output.written.items s s' k k' left left' taken taken' (saying.told _ _ _ says) said whole.1)
ended Says saying text output ending s s' k k' left left' taken taken' read says (inr part) =
    let P : Ending → Type 0 = λ e. Ends Says e s s' k k' left left' taken taken' in
    let said = was_said Says saying output.ending output.written.items text left left' read says in
    subst P (sym part.0) (part.1, record { text = said.text; written = output.written.items; ending = output.ending; read = said.is; says = said.says; took = part.2 })

-- an ending tells its status, and each status its clause
by_ending : (Says : List ℕ → Ending → List ℕ → Type 0) (ending : Ending) (s s' k k' : ℕ) (left left' taken taken' : Option (List ℕ))
    → Ends Says ending s s' k k' left left' taken taken' → HasEnded Says (number_of ending) s s' k k' left left' taken taken'
by_ending Says Whole s s' k k' left left' taken taken' ends = record {
  known = refl;
  whole = λ is. ends;
  errors = λ is. absurd (omega (arith, is));
  refused = λ is. absurd (omega (arith, is));
  source_failed = λ is. absurd (omega (arith, is));
  sink_failed = λ is. absurd (omega (arith, is));
  no_memory = λ is. absurd (omega (arith, is));
}
by_ending Says Errors s s' k k' left left' taken taken' ends = record {
  known = refl;
  whole = λ is. absurd (omega (arith, is));
  errors = λ is. ends;
  refused = λ is. absurd (omega (arith, is));
  source_failed = λ is. absurd (omega (arith, is));
  sink_failed = λ is. absurd (omega (arith, is));
  no_memory = λ is. absurd (omega (arith, is));
}
by_ending Says Refused s s' k k' left left' taken taken' ends = record {
  known = refl;
  whole = λ is. absurd (omega (arith, is));
  errors = λ is. absurd (omega (arith, is));
  refused = λ is. ends;
  source_failed = λ is. absurd (omega (arith, is));
  sink_failed = λ is. absurd (omega (arith, is));
  no_memory = λ is. absurd (omega (arith, is));
}
by_ending Says SourceFailed s s' k k' left left' taken taken' ends = record {
  known = refl;
  whole = λ is. absurd (omega (arith, is));
  errors = λ is. absurd (omega (arith, is));
  refused = λ is. absurd (omega (arith, is));
  source_failed = λ is. ends;
  sink_failed = λ is. absurd (omega (arith, is));
  no_memory = λ is. absurd (omega (arith, is));
}
by_ending Says SinkFailed s s' k k' left left' taken taken' ends = record {
  known = refl;
  whole = λ is. absurd (omega (arith, is));
  errors = λ is. absurd (omega (arith, is));
  refused = λ is. absurd (omega (arith, is));
  source_failed = λ is. absurd (omega (arith, is));
  sink_failed = λ is. ends;
  no_memory = λ is. absurd (omega (arith, is));
}
by_ending Says NoMemory s s' k k' left left' taken taken' ends = record {
  known = refl;
  whole = λ is. absurd (omega (arith, is));
  errors = λ is. absurd (omega (arith, is));
  refused = λ is. absurd (omega (arith, is));
  source_failed = λ is. absurd (omega (arith, is));
  sink_failed = λ is. absurd (omega (arith, is));
  no_memory = λ is. ends;
}
by_ending Says BadWords s s' k k' left left' taken taken' ends = absurd ends

pub has_ended : (Says : List ℕ → Ending → List ℕ → Type 0) (ending : Ending) (status s s' k k' : ℕ) (left left' taken taken' : Option (List ℕ)) → status ≡ number_of ending
    → Ends Says ending s s' k k' left left' taken taken' → HasEnded Says status s s' k k' left left' taken taken'
has_ended Says ending status s s' k k' left left' taken taken' is ends =
    let P : ℕ → Type 0 = λ n. HasEnded Says n s s' k k' left left' taken taken' in
    subst P (sym is) (by_ending Says ending s s' k k' left left' taken taken' ends)

-- what is to be written of a text that was read, or the want of memory for it, and what became of it, is how the call ends
pub answered : {E : Type 0} (Says : List ℕ → Ending → List ℕ → Type 0) → IsSaying Says → (text : List ℕ) (result : Result Output E) (ending : Ending) (s s' k k' : ℕ) (left left' taken taken' : Option (List ℕ))
    → ReadTold left text left' → IfOk result (λ output. Says text output.ending output.written.items) → IsAnswer result ending k k' taken taken' → Ends Says ending s s' k k' left left' taken taken'
answered Says saying text (Ok output) ending s s' k k' left left' taken taken' read says answer = ended Says saying text output ending s s' k k' left left' taken taken' read says answer
answered Says saying text (Err e) ending s s' k k' left left' taken taken' read says answer =
    let P : Ending → Type 0 = λ e. Ends Says e s s' k k' left left' taken taken' in
    subst P (sym answer.0) answer.1
