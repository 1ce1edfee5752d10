-- Every script of the grammar names its files: so does what the lines so far say, line by line.
use Rattle.std.proofs.Common.{◌≡◌, ℕ, ◌+◌, not, ◌||◌, ◌==◌, Bool, true, false, List, [], ◌∷◌, ◌++◌, Option, Some, None, length, map, refl, sym, ap, ◌∙◌, subst, arith, cond, nat_le, nat_lt, bytes_eq, is_some, IsTrue, length-append}
use Rattle.std.proofs.lemmas.Bool.{and_parts, and_from, or_parts, not-false, false≢true, eqb-true, eq-eqb}
use Rattle.std.proofs.lemmas.List.{length-set}
use Rattle.std.proofs.lemmas.List.Folds.{list_all-append}
use Rattle.std.proofs.lemmas.Iterator.Adapters.{position_from-zero}
use Rattle.std.specs.Prelude.{unwrap_or}
use Rattle.std.specs.List.{filter, fold, list_all, position_from}
use Rattle.iob_base.specs.declared.stamp.Mode.TheVariants.{Cached}
use Rattle.io_model.specs.Lists.{each_pair}
use Rattle.io_model.specs.declared.file.FileSpec.{FileSpec}
use Rattle.io_model.specs.declared.script.Script.{Script}
use Rattle.io_script.specs.Causes.{first_of, or_else}
use Rattle.io_script.specs.Grammar.{IsScript, TEXT_LIMIT, at_line, cause_by_kind, common_cause, kind_cause, line_cause, next_said, refusal_from, refusal_of, so_far, unended_cause, with_header, with_kind, with_line, with_piece}
use Rattle.io_script.specs.GrammarCalls.{with_name}
use Rattle.io_script.specs.GrammarKinds.{call_name_of, kind_of}
use Rattle.io_script.specs.GrammarLines.{extent_of, file_cause, file_named, file_with, has_words, is_wrong, mode_of, place_of, with_extent_at, with_file, with_size_at}
use Rattle.io_script.specs.GrammarNumbers.{is_name, is_name_byte as is_letter, number_in, value_of}
use Rattle.io_script.specs.GrammarWords.{Fields, Word, fields_of, is_kept, pieces, words}
use Rattle.io_script.specs.OneReading.{NamesFiles, is_name_byte}
use Rattle.io_script.specs.SoFar.{SoFar, is_header_next, may_describe, nothing, script_so_far}
use Rattle.io_script.specs.declared.read.cause.Cause.{Cause}
use Rattle.io_script.specs.declared.read.cause.Cause.TheVariants.{NoEnd, BadWord, BadOrder, BadCount, BadNumber, BadName, TooMuch}
use Rattle.io_script.specs.declared.read.kinds.CallName.{CallName}
use Rattle.io_script.specs.declared.read.kinds.LineKind.{LineKind}
use Rattle.io_script.specs.declared.read.kinds.LineKind.TheVariants.{Header, Device, Folio, Grain, File, Size, Extent, Data, Fault, Phase, Call, Unknown}
use Rattle.io_script.proofs.Walking.{so_far-piece}

-- names that could be those of a script with these files
record AreNames (names : List Word) (files : List FileSpec) : Type 0 where
  one_each : length names ≡ length files
  words : IsTrue (list_all (list_all is_name_byte) names)
  own : IsTrue (each_pair (λ name other. not (bytes_eq name other)) names)

abbrev AreNamed : SoFar → Type 0
AreNamed s = AreNames s.names s.files

-- a letter of a name is no blank
is_letter-blank : (b : ℕ) → IsTrue (is_letter b) → IsTrue (is_name_byte b)
is_letter-blank b h = by_test (b == 32) refl
  where
    by_test : (t : Bool) → (b == 32) ≡ t → not t ≡ true
    by_test true e = absurd (false≢true (ap is_letter (sym (eqb-true b 32 e)) ∙ h))
    by_test false e = refl

letters-blank : (word : Word) → IsTrue (list_all is_letter word) → IsTrue (list_all is_name_byte word)
letters-blank [] h = refl
letters-blank (b ∷ bs) h =
    let p = and_parts (is_letter b) (list_all is_letter bs) h in
    and_from (is_name_byte b) (list_all is_name_byte bs) (is_letter-blank b p.0) (letters-blank bs p.1)

-- a name has no blank
is_name-blank : (word : Word) → IsTrue (is_name word) → IsTrue (list_all is_name_byte word)
is_name-blank word h = letters-blank word (and_parts _ _ (and_parts _ _ h).1).1

-- a name that has no place is none of the names
no_place-step : (t : Bool) (i : ℕ) (o : Option ℕ) → is_some (cond t (Some i) o) ≡ false → (t ≡ false) × (is_some o ≡ false)
no_place-step true i o e = absurd (false≢true (sym e))
no_place-step false i o e = (refl, e)

no_place : (name : Word) (names : List Word) (i : ℕ) → is_some (position_from (λ n. bytes_eq n name) i names) ≡ false → IsTrue (list_all (λ n. not (bytes_eq n name)) names)
no_place name [] i e = refl
no_place name (n ∷ names) i e =
    let p = no_place-step (bytes_eq n name) i (position_from (λ n. bytes_eq n name) (i + 1) names) e in
    and_from (not (bytes_eq n name)) (list_all (λ n. not (bytes_eq n name)) names) (ap not p.0) (no_place name names (i + 1) p.1)

list_all-one : {A : Type 0} (test : A → Bool) (xs : List A) (x : A) → IsTrue (list_all test xs) → IsTrue (test x) → IsTrue (list_all test (xs ++ x ∷ []))
list_all-one test xs x all one = list_all-append test xs (x ∷ []) ∙ and_from (list_all test xs) (list_all test (x ∷ [])) all (and_from (test x) true one refl)

-- one more item that no earlier one is
each_pair-one : {A : Type 0} (test : A → A → Bool) (xs : List A) (x : A) → IsTrue (each_pair test xs) → IsTrue (list_all (λ y. test y x) xs) → IsTrue (each_pair test (xs ++ x ∷ []))
each_pair-one test [] x all new = refl
each_pair-one test (y ∷ xs) x all new =
    let p = and_parts (list_all (test y) xs) (each_pair test xs) all in
    let q = and_parts (test y x) (list_all (λ y. test y x) xs) new in
    and_from (list_all (test y) (xs ++ x ∷ [])) (each_pair test (xs ++ x ∷ [])) (list_all-one (test y) xs x p.0 q.0) (each_pair-one test xs x p.1 q.1)

-- one more file
one_file : (names : List Word) (files : List FileSpec) (name : Word) (file : FileSpec) → AreNames names files → IsTrue (is_name name) → is_some (place_of name names) ≡ false
    → AreNames (names ++ name ∷ []) (files ++ file ∷ [])
one_file names files name file h is new = record {
  one_each = (let e = h.one_each in omega (arith, e, length-append names (name ∷ []), length-append files (file ∷ [])));
  words = list_all-one (list_all is_name_byte) names name h.words (is_name-blank name is);
  own = each_pair-one (λ name other. not (bytes_eq name other)) names name h.own (no_place name names 0 (ap is_some (sym (position_from-zero (λ n. bytes_eq n name) names)) ∙ new));
}

-- a file line without a cause: nothing is wrong with its name
no_bad_name : (word order count number name much : Bool)
    → first_of ((word, BadWord) ∷ (order, BadOrder) ∷ (count, BadCount) ∷ (number, BadNumber) ∷ (name, BadName) ∷ (much, TooMuch) ∷ []) ≡ None → name ≡ false
no_bad_name true order count number name much e = absurd (cc)
no_bad_name false true count number name much e = absurd (cc)
no_bad_name false false true number name much e = absurd (cc)
no_bad_name false false false true name much e = absurd (cc)
no_bad_name false false false false true much e = absurd (cc)
no_bad_name false false false false false much e = refl

file_line : (s : SoFar) (w : Fields) → file_cause s w ≡ None → AreNamed s → AreNamed (with_file s w)
file_line s w none h =
    let fine = no_bad_name (is_wrong mode_of w.third) (not (may_describe s.stage)) (not (has_words 4 w)) (not (is_some (number_in 1 65536 w.fourth)))
    (not (is_name w.second) || is_some (place_of w.second s.names)) (nat_le 64 (length s.names) || nat_lt 131072 (s.file_blocks + value_of w.fourth)) none in
    let p = or_parts (not (is_name w.second)) (is_some (place_of w.second s.names)) fine in
    one_file s.names s.files w.second (file_with (unwrap_or (mode_of w.third) Cached) (value_of w.fourth)) h (not-false (is_name w.second) p.0) p.1

-- an extent leaves the number of files
same_count : (names : List Word) (files others : List FileSpec) → length others ≡ length files → AreNames names files → AreNames names others
same_count names files others e h = record { one_each = h.one_each ∙ sym e; words = h.words; own = h.own }

call_line : (name : Option CallName) (s : SoFar) (w : Fields) → AreNamed s → AreNamed (with_name name s w)
call_line None s w h = h
call_line (Some name) s w h = h

-- a line that has no cause
kind_line : (kind : LineKind) (s : SoFar) (w : Fields) → cause_by_kind kind s w ≡ None → AreNamed s → AreNamed (with_kind kind s w)
kind_line Header s w none h = h
kind_line Device s w none h = h
kind_line Folio s w none h = h
kind_line Grain s w none h = h
kind_line Size s w none h = same_count s.names s.files (with_size_at s.files (file_named s w.second) (value_of w.third)) (length-set s.files (file_named s w.second) _) h
kind_line File s w none h = file_line s w none h
kind_line Extent s w none h = same_count s.names s.files (with_extent_at s.files (file_named s w.second) (extent_of w)) (length-set s.files (file_named s w.second) _) h
kind_line Data s w none h = h
kind_line Fault s w none h = h
kind_line Phase s w none h = h
kind_line Call s w none h = call_line (call_name_of w.second) s w h
kind_line Unknown s w none h = h

no_cause-either : (o p : Option Cause) → or_else o p ≡ None → p ≡ None
no_cause-either None p e = e
no_cause-either (Some cause) p e = absurd (cc)

kept_line : (s : SoFar) (w : Fields) → kind_cause s w ≡ None → AreNamed s → AreNamed (with_line s w)
kept_line s w none h = by_test (is_header_next s.stage) none
  where
    by_test : (t : Bool) → cond t None (cause_by_kind (kind_of w.first) s w) ≡ None → AreNamed (cond t (with_header s w) (with_kind (kind_of w.first) s w))
    by_test true e = h
    by_test false e = kind_line (kind_of w.first) s w e h

any_line : (s : SoFar) (line : List ℕ) → line_cause s line ≡ None → AreNamed s → AreNamed (next_said s line)
any_line s line none h = by_test (is_kept (words line)) none
  where
    by_test : (t : Bool) → cond t (or_else (common_cause s.stage line) (kind_cause s (fields_of (words line)))) None ≡ None → AreNamed (cond t (with_line s (fields_of (words line))) s)
    by_test true e = kept_line s (fields_of (words line)) (no_cause-either (common_cause s.stage line) (kind_cause s (fields_of (words line))) e) h
    by_test false e = h

-- bytes without an end have a cause
unended_line : {A : Type 0} (s : SoFar) (line : List ℕ) → unended_cause s line ≡ None → A
unended_line s line none = by_test (is_kept (words line)) none
  where
    by_test : {A : Type 0} (t : Bool) → cond t (or_else (common_cause s.stage line) (Some NoEnd)) (Some NoEnd) ≡ None → A
    by_test true e = absurd (let n = no_cause-either (common_cause s.stage line) (Some NoEnd) e in cc)
    by_test false e = absurd (cc)

no_refusal : (n : ℕ) (o : Option Cause) (more : Option (ℕ × Cause)) → at_line n o more ≡ None → (o ≡ None) × (more ≡ None)
no_refusal n None more e = (refl, e)
no_refusal n (Some cause) more e = absurd (cc)

-- what the kept ones of these lines add to what is said
abbrev said_by : SoFar → List (List ℕ) → SoFar
said_by s lines = fold (λ s ws. with_line s (fields_of ws)) s (filter is_kept (map words lines))

said_by-line : (s : SoFar) (line : List ℕ) (lines : List (List ℕ)) → said_by s (line ∷ lines) ≡ said_by (next_said s line) lines
said_by-line s line lines = by_test (is_kept (words line))
  where
    by_test : (t : Bool) → fold (λ s ws. with_line s (fields_of ws)) s (cond t (words line ∷ filter is_kept (map words lines)) (filter is_kept (map words lines)))
        ≡ said_by (cond t (with_line s (fields_of (words line))) s) lines
    by_test true = refl
    by_test false = refl

-- lines that are not refused
all_lines : (earlier : List (List Word)) (n : ℕ) (lines : List (List ℕ)) → refusal_from earlier n lines ≡ None → AreNamed (so_far earlier) → AreNamed (said_by (so_far earlier) lines)
all_lines earlier n [] none h = h
all_lines earlier n ([] ∷ []) none h = h
all_lines earlier n ((b ∷ bs) ∷ []) none h = unended_line (so_far earlier) (b ∷ bs) (no_refusal n (unended_cause (so_far earlier) (b ∷ bs)) None none).0
all_lines earlier n (line ∷ more ∷ lines) none h =
    let p = no_refusal n (line_cause (so_far earlier) line) (refusal_from (with_piece earlier line) (n + 1) (more ∷ lines)) none in
    let next = so_far-piece earlier line in
    let here : AreNamed (so_far (with_piece earlier line)) = subst AreNamed (sym next) (any_line (so_far earlier) line p.0 h) in
    subst AreNamed (ap (λ s. said_by s (more ∷ lines)) next ∙ sym (said_by-line (so_far earlier) line (more ∷ lines))) (all_lines (with_piece earlier line) (n + 1) (more ∷ lines) p.1 here)

whole_text : (text : List ℕ) → refusal_of text ≡ None → AreNamed (said_by nothing (pieces 10 text))
whole_text text none = by_test (nat_lt TEXT_LIMIT (length text)) none
  where
    by_test : (t : Bool) → cond t (Some (0, TooMuch)) (refusal_from [] 1 (pieces 10 text)) ≡ None → AreNamed (said_by nothing (pieces 10 text))
    by_test true e = absurd (cc)
    by_test false e = all_lines [] 1 (pieces 10 text) e (record { one_each = refl; words = refl; own = refl })

pub names_files : (text : List ℕ) (script : Script) → IsScript text script → NamesFiles script
names_files text script is =
    let h = whole_text text is.not_refused in
    let named : NamesFiles (script_so_far (said_by nothing (pieces 10 text))) = record { one_each = eq-eqb _ _ h.one_each; words = h.words; own = h.own } in
    subst NamesFiles (sym is.said) named
