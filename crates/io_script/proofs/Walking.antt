-- The walk over the lines of a text.
use Rattle.std.proofs.Common.{◌≡◌, ℕ, ◌+◌, ◌<◌, ◌≤◌, Bool, true, false, List, [], ◌∷◌, ◌++◌, Option, Some, None, Err, length, map, refl, sym, ap, ◌∙◌, append_assoc, append-nil, subst, arith, nat_eq, nat_lt, cond}
use Rattle.std.specs.List.{filter, fold, onto_first}
use Rattle.std.proofs.lemmas.Bool.{le-ltb}
use Rattle.io_script.specs.Checking.{IsChecked}
use Rattle.io_script.specs.Grammar.{IsFaultOf, IsRefusal, refusal_of, refusal_from, at_line, so_far, with_piece, next_said, with_line, line_cause, last_cause, end_cause, kept_lines, TEXT_LIMIT}
use Rattle.io_script.specs.GrammarWords.{Word, words, pieces, is_kept, fields_of}
use Rattle.io_script.specs.Reading.{said, IsReader, Takes, IsFaultAt}
use Rattle.io_script.specs.SoFar.{SoFar, nothing, script_so_far}
use Rattle.io_script.specs.declared.read.cause.Cause.{Cause}
use Rattle.io_script.specs.declared.read.cause.ScriptFault.{ScriptFault}
use Rattle.io_script.specs.declared.read.cause.ScriptFault.TheVariants.{Refused, NoMemory as NoMemoryFault}
use Rattle.io_script.specs.declared.read.reader.LineFault.{LineFault}
use Rattle.io_script.specs.declared.read.reader.LineFault.TheVariants.{Because, NoMemory}
use Rattle.io_script.specs.declared.read.reader.Reader.{Reader}
use Rattle.io_script.specs.declared.read.script.Checked.{Checked}

-- how far a reader has come with a text: what is left of it, and the number of the next line
pub record HasCome (text left : List ℕ) (line : ℕ) (r : Reader) : Type 0 where
  pub earlier : List (List Word)
  pub read : said r ≡ so_far earlier
  pub same : refusal_from earlier line (pieces 10 left) ≡ refusal_from [] 1 (pieces 10 text)
  pub lines : earlier ++ kept_lines left ≡ kept_lines text
  pub reader : IsReader r
  pub few : line + length left ≤ 1 + length text

-- a list of pieces that is not empty
abbrev HasSome : List (List ℕ) → Type 0
HasSome ps = (first : List ℕ) × (more : List (List ℕ)) × (ps ≡ first ∷ more)

some-onto : (t : Bool) (b : ℕ) (ps : List (List ℕ)) → HasSome ps → HasSome (cond t ([] ∷ ps) (onto_first b ps))
some-onto true b ps p = ([], ps, refl)
some-onto false b ps p = (b ∷ p.0, p.1, ap (onto_first b) p.2)

-- a text has at least one piece
pieces-some : (separator : ℕ) (text : List ℕ) → HasSome (pieces separator text)
pieces-some separator [] = ([], [], refl)
pieces-some separator (b ∷ bs) = some-onto (nat_eq b separator) b (pieces separator bs) (pieces-some separator bs)

-- a line before the last piece has the causes of a line that has its end
refusal_from-line : (earlier : List (List Word)) (n : ℕ) (line : List ℕ) (rest : List (List ℕ)) (first : List ℕ) (more : List (List ℕ)) → rest ≡ first ∷ more
    → refusal_from earlier n (line ∷ rest) ≡ at_line n (line_cause (so_far earlier) line) (refusal_from (with_piece earlier line) (n + 1) rest)
refusal_from-line earlier n line rest first more e = rw e refl

fold-append : {A B : Type 0} (f : A → B → A) (a : A) (xs ys : List B) → fold f a (xs ++ ys) ≡ fold f (fold f a xs) ys
fold-append f a [] ys = refl
fold-append f a (x ∷ xs) ys = fold-append f (f a x) xs ys

-- what the lines say with one more line
pub so_far-piece : (earlier : List (List Word)) (line : List ℕ) → so_far (with_piece earlier line) ≡ next_said (so_far earlier) line
so_far-piece earlier line =
    fold-append (λ s ws. with_line s (fields_of ws)) nothing earlier (filter is_kept (words line ∷ [])) ∙ by_test (is_kept (words line))
  where
    by_test : (t : Bool) → fold (λ s ws. with_line s (fields_of ws)) (so_far earlier) (cond t (words line ∷ []) [])
        ≡ cond t (with_line (so_far earlier) (fields_of (words line))) (so_far earlier)
    by_test true = refl
    by_test false = refl

-- the kept lines from a line on
kept_lines-piece : (earlier : List (List Word)) (left line after : List ℕ) → pieces 10 left ≡ line ∷ pieces 10 after
    → with_piece earlier line ++ kept_lines after ≡ earlier ++ kept_lines left
kept_lines-piece earlier left line after e =
    append_assoc earlier (filter is_kept (words line ∷ [])) (kept_lines after)
    ∙ ap (λ ls. earlier ++ ls) (by_test (is_kept (words line)) ∙ ap (λ ps. filter is_kept (map words ps)) (sym e))
  where
    by_test : (t : Bool) → cond t (words line ∷ []) [] ++ kept_lines after ≡ cond t (words line ∷ kept_lines after) (kept_lines after)
    by_test true = refl
    by_test false = refl

pub has_come-none : (text : List ℕ) (r : Reader) → said r ≡ nothing → IsReader r → HasCome text text 1 r
has_come-none text r e reader = record { earlier = []; read = e; same = refl; lines = refl; reader = reader; few = omega arith }

-- the refusal of what is left, once the next line is known
left_refusal : (text left line after : List ℕ) (n : ℕ) (r : Reader) (h : HasCome text left n r) → pieces 10 left ≡ line ∷ pieces 10 after
    → at_line n (line_cause (said r) line) (refusal_from (with_piece h.earlier line) (n + 1) (pieces 10 after)) ≡ refusal_from [] 1 (pieces 10 text)
left_refusal text left line after n r h e =
    let p = pieces-some 10 after in
    ap (λ s. at_line n (line_cause s line) (refusal_from (with_piece h.earlier line) (n + 1) (pieces 10 after))) h.read
    ∙ sym (refusal_from-line h.earlier n line (pieces 10 after) p.0 p.1 p.2)
    ∙ ap (refusal_from h.earlier n) (sym e) ∙ h.same

-- one line further
pub has_come-line : (text left line after : List ℕ) (n : ℕ) (r now : Reader) → HasCome text left n r → pieces 10 left ≡ line ∷ pieces 10 after
    → length after < length left → line_cause (said r) line ≡ None → said now ≡ next_said (said r) line → IsReader now → HasCome text after (n + 1) now
has_come-line text left line after n r now h e shorter none says reader = record {
  earlier = with_piece h.earlier line;
  read = says ∙ ap (λ s. next_said s line) h.read ∙ sym (so_far-piece h.earlier line);
  same = subst (λ (o : Option Cause). at_line n o (refusal_from (with_piece h.earlier line) (n + 1) (pieces 10 after)) ≡ refusal_from [] 1 (pieces 10 text)) none (left_refusal text left line after n r h e);
  lines = kept_lines-piece h.earlier left line after e ∙ h.lines;
  reader = reader;
  few = (let few = h.few in omega (arith, few, shorter));
}

-- a text that is not too long has the refusal of its lines
refusal_of-lines : (text : List ℕ) → length text ≤ TEXT_LIMIT → refusal_of text ≡ refusal_from [] 1 (pieces 10 text)
refusal_of-lines text h = let no : nat_lt TEXT_LIMIT (length text) ≡ false = le-ltb TEXT_LIMIT (length text) h in rw no refl

-- a line that has a cause refuses the text
pub refused_line : (text left line after : List ℕ) (n : ℕ) (r : Reader) (cause : Cause) → length text ≤ TEXT_LIMIT → HasCome text left n r → pieces 10 left ≡ line ∷ pieces 10 after
    → line_cause (said r) line ≡ Some cause → refusal_of text ≡ Some (n, cause)
refused_line text left line after n r cause short h e is =
    refusal_of-lines text short ∙ sym (left_refusal text left line after n r h e)
    ∙ ap (λ o. at_line n o (refusal_from (with_piece h.earlier line) (n + 1) (pieces 10 after))) is

last_refusal : (text left : List ℕ) (n : ℕ) (r : Reader) → HasCome text left n r → pieces 10 left ≡ left ∷ []
    → at_line n (last_cause (said r) left) None ≡ refusal_from [] 1 (pieces 10 text)
last_refusal text left n r h e = ap (λ s. at_line n (last_cause s left) None) h.read ∙ ap (refusal_from h.earlier n) (sym e) ∙ h.same

-- what stands after the last line end has a cause
pub refused_end : (text left : List ℕ) (n : ℕ) (r : Reader) (cause : Cause) → length text ≤ TEXT_LIMIT → HasCome text left n r → pieces 10 left ≡ left ∷ []
    → last_cause (said r) left ≡ Some cause → refusal_of text ≡ Some (n, cause)
refused_end text left n r cause short h e is =
    refusal_of-lines text short ∙ sym (last_refusal text left n r h e) ∙ ap (λ o. at_line n o None) is

-- nothing is wrong
pub is_checked : (text left : List ℕ) (n : ℕ) (r : Reader) (checked : Checked) → length text ≤ TEXT_LIMIT → HasCome text left n r → pieces 10 left ≡ left ∷ []
    → left ≡ [] → end_cause (said r) ≡ None → checked.script ≡ script_so_far (said r) → checked.phases ≡ (said r).phases → IsChecked text checked
is_checked text left n r checked short h e empty none script phases =
    let whole : said r ≡ so_far (kept_lines text) = h.read ∙ ap so_far (sym (append-nil h.earlier) ∙ sym (ap (λ l. h.earlier ++ kept_lines l) empty) ∙ h.lines) in
    record {
      script = record {
        not_refused = refusal_of-lines text short ∙ sym (last_refusal text left n r h e) ∙ ap (λ l. at_line n (last_cause (said r) l) None) empty ∙ ap (λ o. at_line n o None) none;
        said = script ∙ ap script_so_far whole;
      };
      phases = phases ∙ ap (λ s. s.phases) whole;
    }

-- a line that was not taken refuses the text, or there was no memory
pub refused_fault : (text left line after : List ℕ) (n : ℕ) (r now : Reader) (then : SoFar) (fault : LineFault) (out : ScriptFault) → length text ≤ TEXT_LIMIT
    → HasCome text left n r → pieces 10 left ≡ line ∷ pieces 10 after → Takes (line_cause (said r) line) then (Err fault) now → IsFaultAt n fault out → IsFaultOf text out
refused_fault text left line after n r now then (Because cause) out short h e takes is =
    subst (IsFaultOf text) (sym is) (refused_line text left line after n r cause short h e takes)
refused_fault text left line after n r now then NoMemory out short h e takes is = subst (IsFaultOf text) (sym is) tt

-- what is wrong after the last line end refuses the text
pub refused_last : (text left : List ℕ) (n : ℕ) (r : Reader) (out : ScriptFault) → length text ≤ TEXT_LIMIT → HasCome text left n r → pieces 10 left ≡ left ∷ []
    → IsRefusal n (last_cause (said r) left) out → IsFaultOf text out
refused_last text left n r (Refused line why) short h e is = refused_end text left n r why short h e is.1 ∙ ap (λ m. Some (m, why)) (sym is.0)
refused_last text left n r NoMemoryFault short h e is = absurd is
