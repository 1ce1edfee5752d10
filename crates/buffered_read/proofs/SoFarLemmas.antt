-- Parts read one after the other.
use Rattle.std.proofs.Common.{◌≡◌, ℕ, ◌+◌, ◌-◌, ◌<◌, ◌≤◌, Some, List, [], ◌∷◌, ◌++◌, length, take, drop, refl, sym, ap, ◌∙◌, subst, arith, append-nil, append_assoc, length-append}
use Rattle.std.specs.Prelude.{IsTrue, None, slice_get}
use Rattle.iob_base.specs.Geometry.{is_block_size, is_folio_blocks}
use Rattle.std.proofs.lemmas.List.{take-append-drop}
use Rattle.iob_base.specs.declared.answer.Fault.{Fault}
use Rattle.iob_base.specs.declared.stamp.FileId.{FileId}
use Rattle.iob_base.specs.declared.stamp.Tag.{Tag}
use Rattle.iov_iter.specs.IovView.{IovView, put_at, written_on}
use Rattle.iov_iter.proofs.Bytes.{length-put_at, put_at_more}
use Rattle.turn_cell.specs.Views.{CellView, SeatView}
use Rattle.range_core.specs.ByteRuns.{HasNext}
use Rattle.range_core.specs.RangeView.{RangeView}
use Rattle.range_core.specs.declared.entry.Entry.{Entry}
use Rattle.mount_parts.specs.MountView.{MountView}
use Rattle.mount_parts.proofs.Places.{same-length, there, within}
use Rattle.mini_fs.specs.Acts.{Act, Acted, Acts, seen_in}
use Rattle.mini_fs.specs.Acts.Act.{Turn, SizeTurn, Busy, Open, Close, Take, Refused, Leave, Run, Note, Number}
use Rattle.mini_fs.specs.PassView.{IsPassOf, PassView}
use Rattle.mini_fs.proofs.ActLemmas.{acted-more, acted-seat}
use Rattle.call_parts.specs.Parts.{part_end}
use Rattle.call_parts.specs.Reads.{bytes_of_act, bytes_read, given_in, seen_at, seen_by}
use Rattle.buffered_read.specs.Tries.{FoundWords, HasRead, OnlyTurned, ReadParts, ReadsPart, TriedPart, TriedParts, words_at, words_in}
use Rattle.call_parts.proofs.PartLemmas.{part-is}
use Rattle.call_parts.proofs.ReadyLemmas.{some-blocks, some-bytes}

-- nothing is written
put-none : (at : ℕ) (bytes : List ℕ) → put_at at [] bytes ≡ bytes
put-none at bytes =
    ap (λ l. l ++ drop (at + 0) bytes) (append-nil (take at bytes)) ∙ ap (λ n. take at bytes ++ drop n bytes) (let z : at + 0 ≡ at = omega arith in z) ∙ take-append-drop at bytes

pub written-none : (v : IovView) → written_on [] v ≡ v
written-none v = ap (λ b. record v { bytes = b; place = v.place + 0 }) (put-none v.place v.bytes) ∙ ap (λ n. record v { place = n }) (let z : v.place + 0 ≡ v.place = omega arith in z)

-- bytes are written after others
pub written-more : (xs ys : List ℕ) (v : IovView) → v.place + length xs ≤ length v.bytes → written_on ys (written_on xs v) ≡ written_on (xs ++ ys) v
written-more xs ys v fits =
    let place : v.place + length xs + length ys ≡ v.place + length (xs ++ ys) = (let h = length-append xs ys in omega (arith, h)) in
    ap (λ b. record v { bytes = b; place = v.place + length xs + length ys }) (put_at_more v.place xs ys v.bytes fits)
    ∙ ap (λ n. record v { bytes = put_at v.place (xs ++ ys) v.bytes; place = n }) place

-- the iov has as many bytes as before, and is as far on as was written
pub next-written : (v : IovView) (xs : List ℕ) (n k : ℕ) → HasNext v n → length xs ≡ k → k ≤ n → HasNext (written_on xs v) (n - k)
next-written v xs n k room long le =
    let fits = room.within in
    let same : length (put_at v.place xs v.bytes) ≡ length v.bytes = length-put_at v.place xs v.bytes (omega (arith, long, le, fits)) in
    record { within = omega (arith, same, long, le, fits); home = λ b low below. room.home b (omega (arith, low)) (omega (arith, below, long, le)) }

-- where one pass of a mount has a seat, each other has one
pub seat-there : (m : MountView) (p q : PassView) (k : ℕ) (s : SeatView Entry) → IsPassOf m p → IsPassOf m q → slice_get q.stripes k ≡ Some s → (t : SeatView Entry) × (slice_get p.stripes k ≡ Some t)
seat-there m p q k s of mine is =
    let one = same-length (λ (v : SeatView Entry). v.cell) (λ (c : CellView RangeView). c.cell) p.stripes m.stripes of.stripes in
    let two = same-length (λ (v : SeatView Entry). v.cell) (λ (c : CellView RangeView). c.cell) q.stripes m.stripes mine.stripes in
    let in_q = within q.stripes k s is in
    there p.stripes k (omega (arith, one, two, in_q))

-- an act gives the same bytes after others, as they count with what the pass had seen
pub given-on : (m : MountView) (file : FileId) (by : Tag) (to at : ℕ) (p q r : PassView) (acts : List Act) (a : Act) → IsPassOf m p → IsPassOf m q → Acted acts p q → Acts a q r → ReadsPart m file by to at a
    → bytes_of_act m q [] a ≡ bytes_of_act m p acts a
given-on m file by to at p q r acts (Turn stripe others own) of mine acted did reads =
    let first = seat-there m p q stripe did.before of mine did.here in
    let later = acted-seat stripe acts p q first.0 acted first.1 in
    let seen : seen_at q stripe ≡ seen_at p stripe ++ seen_in stripe acts = ap seen_by later.1 ∙ later.2.seen ∙ ap (λ o. seen_by o ++ seen_in stripe acts) (sym first.1) in
    ap (λ l. given_in (slice_get m.stripes stripe) (l ++ others) own) (append-nil (seen_at q stripe) ∙ seen)
given-on m file by to at p q r acts (SizeTurn cell others own) of mine acted did reads = absurd reads
given-on m file by to at p q r acts (Busy stripe word) of mine acted did reads = absurd reads
given-on m file by to at p q r acts (Open stripe) of mine acted did reads = absurd reads
given-on m file by to at p q r acts (Close stripe) of mine acted did reads = absurd reads
given-on m file by to at p q r acts (Take f c before after) of mine acted did reads = absurd reads
given-on m file by to at p q r acts (Refused f c before after) of mine acted did reads = absurd reads
given-on m file by to at p q r acts (Leave f c before after) of mine acted did reads = absurd reads
given-on m file by to at p q r acts (Run bios) of mine acted did reads = absurd reads
given-on m file by to at p q r acts (Note begun) of mine acted did reads = absurd reads
given-on m file by to at p q r acts (Number call) of mine acted did reads = absurd reads

-- bytes of acts put one after another
pub read-append : (m : MountView) (p : PassView) (before acts more : List Act) → bytes_read m p before (acts ++ more) ≡ bytes_read m p before acts ++ bytes_read m p (before ++ acts) more
read-append m p before [] more = ap (λ l. bytes_read m p l more) (sym (append-nil before))
read-append m p before (a ∷ acts) more =
    ap (λ l. bytes_of_act m p before a ++ l) (read-append m p (before ++ a ∷ []) acts more ∙ ap (λ l. bytes_read m p (before ++ a ∷ []) acts ++ bytes_read m p l more) (append_assoc before (a ∷ []) acts))
    ∙ sym (append_assoc (bytes_of_act m p before a) (bytes_read m p (before ++ a ∷ []) acts) (bytes_read m p (before ++ a ∷ acts) more))

pub read-more : (m : MountView) (p : PassView) (acts : List Act) (a : Act) → bytes_read m p [] (acts ++ a ∷ []) ≡ bytes_read m p [] acts ++ bytes_of_act m p acts a
read-more m p acts a = read-append m p [] acts (a ∷ []) ∙ ap (λ l. bytes_read m p [] acts ++ l) (append-nil (bytes_of_act m p acts a))

-- words of acts put one after another
pub words-first : (k : ℕ) (a : Act) (acts : List Act) → words_in k (a ∷ acts) ≡ words_in k (a ∷ []) ++ words_in k acts
words-first k (Turn stripe others own) acts = refl
words-first k (SizeTurn cell others own) acts = refl
words-first k (Busy stripe word) acts = ap (λ l. l ++ words_in k acts) (sym (append-nil _))
words-first k (Open stripe) acts = refl
words-first k (Close stripe) acts = refl
words-first k (Take f c before after) acts = refl
words-first k (Refused f c before after) acts = refl
words-first k (Leave f c before after) acts = refl
words-first k (Run bios) acts = refl
words-first k (Note begun) acts = refl
words-first k (Number call) acts = refl

pub words-append : (k : ℕ) (acts more : List Act) → words_in k (acts ++ more) ≡ words_in k acts ++ words_in k more
words-append k [] more = refl
words-append k (a ∷ acts) more =
    words-first k a (acts ++ more) ∙ ap (λ l. words_in k (a ∷ []) ++ l) (words-append k acts more)
    ∙ sym (append_assoc (words_in k (a ∷ [])) (words_in k acts) (words_in k more)) ∙ ap (λ l. l ++ words_in k more) (sym (words-first k a acts))

pub found-then : (p q r : PassView) (acts more : List Act) → FoundWords p q acts → FoundWords q r more → FoundWords p r (acts ++ more)
found-then p q r acts more first later k =
    later k ∙ ap (λ l. l ++ words_in k more) (first k) ∙ append_assoc (words_at p k) (words_in k acts) (words_in k more) ∙ ap (λ l. words_at p k ++ l) (sym (words-append k acts more))

module _ (m : MountView) (file : FileId) (by : Tag) (to : ℕ) where
  -- one more part
  parts-more : (from at : ℕ) (acts : List Act) (a : Act) → ReadParts m file by to from at acts → ReadsPart m file by to at a → ReadParts m file by to from (part_end m.geometry to at) (acts ++ a ∷ [])
  parts-more from at [] a e one = (subst (λ n. ReadsPart m file by to n a) (sym e) one, ap (part_end m.geometry to) e)
  parts-more from at (b ∷ acts) a (first, rest) one = (first, parts-more (part_end m.geometry to from) at acts a rest one)

  pub read-none : (from : ℕ) (p : PassView) (iov : IovView) → HasRead m file by to from from p p iov iov
  read-none from p iov = record {
    acts = [];
    acted = refl;
    words = λ k. sym (append-nil (words_at p k));
    parts = refl;
    bytes = sym (written-none iov);
    long = omega arith;
  }

  pub read-then : (from at : ℕ) (p q r : PassView) (iov later last : IovView) → IsPassOf m p → IsPassOf m q → from ≤ at → at < part_end m.geometry to at → iov.place + (at - from) ≤ length iov.bytes
      → HasRead m file by to from at p q iov later → TriedPart m file by to at q r later last None → HasRead m file by to from (part_end m.geometry to at) p r iov last
  read-then from at p q r iov later last of mine low high fits sofar tried =
      let one = tried.read in
      let same = given-on m file by to at p q r sofar.acts tried.act of mine sofar.acted tried.did one.reads in
      let first = sofar.long in
      let next = one.long in
      let both = length-append (bytes_read m p [] sofar.acts) (bytes_of_act m q [] tried.act) in
      record {
        acts = sofar.acts ++ tried.act ∷ [];
        acted = acted-more sofar.acts tried.act p q r sofar.acted tried.did;
        words = found-then p q r sofar.acts (tried.act ∷ []) sofar.words tried.words;
        parts = parts-more from at sofar.acts tried.act sofar.parts one.reads;
        bytes = one.bytes ∙ ap (λ v. written_on (bytes_of_act m q [] tried.act) v) sofar.bytes
            ∙ written-more (bytes_read m p [] sofar.acts) (bytes_of_act m q [] tried.act) iov (omega (arith, first, fits))
            ∙ ap (λ l. written_on (bytes_read m p [] sofar.acts ++ l) iov) same
            ∙ ap (λ l. written_on l iov) (sym (read-more m p sofar.acts tried.act));
        long = ap length (read-more m p sofar.acts tried.act) ∙ ap (λ l. length (bytes_read m p [] sofar.acts ++ l)) (sym same) ∙ (let e : length (bytes_read m p [] sofar.acts ++ bytes_of_act m q [] tried.act) ≡ part_end m.geometry to at - from = omega (arith, both, first, next, low, high) in e);
      }

  -- what a loop over the parts keeps, after one more
  pub record IsSoFar (from next : ℕ) (p r : PassView) (iov last : IovView) : Type 0 where
    pub read : HasRead m file by to from next p r iov last
    pub low : from ≤ next
    pub high : next ≤ to
    pub room : HasNext last (to - next)

  pub so-far-then : (from at next : ℕ) (p q r : PassView) (iov later last : IovView) → next ≡ part_end m.geometry to at → IsTrue (is_block_size m.geometry.block_size) → IsTrue (is_folio_blocks m.geometry.folio_blocks)
      → IsPassOf m p → IsPassOf m q → from ≤ at → at < to → HasNext iov (to - from) → HasNext later (to - at)
      → HasRead m file by to from at p q iov later → TriedPart m file by to at q r later last None → IsSoFar from next p r iov last
  so-far-then from at next p q r iov later last is sized foliod of mine low less room left sofar tried =
      let end = part_end m.geometry to at in
      let part = part-is m.geometry.block_size m.geometry.folio_blocks to at (some-bytes m.geometry.block_size sized) (some-blocks m.geometry.folio_blocks foliod) less in
      let begins = part.some in
      let ends = part.within in
      let fits = room.within in
      let k : to - at - (end - at) ≡ to - end = omega (arith, begins, ends) in
      let rest : HasNext last (to - end) = subst (λ v. HasNext v (to - end)) (sym tried.read.bytes)
      (subst (HasNext (written_on (bytes_of_act m q [] tried.act) later)) k (next-written later (bytes_of_act m q [] tried.act) (to - at) (end - at) left tried.read.long (omega (arith, ends)))) in
      subst (λ n. IsSoFar from n p r iov last) (sym is) (record {
        read = read-then from at p q r iov later last of mine low begins (omega (arith, fits, low, less)) sofar tried;
        low = omega (arith, low, begins);
        high = ends;
        room = rest;
      })

  -- the part after those that were read was hindered
  pub hindered-then : (from at : ℕ) (p q r : PassView) (iov later last : IovView) (fault : Fault) → HasRead m file by to from at p q iov later → TriedPart m file by to at q r later last (Some fault) → TriedParts m file by to from at p r iov last (Some fault)
  hindered-then from at p q r iov later last fault sofar tried = record {
    middle = q;
    read = subst (HasRead m file by to from at p q iov) (sym tried.hindered.nothing) sofar;
    last = tried.act ∷ [];
    ended = (r, tried.did, refl);
    words = tried.words;
    ends = (tried.act, refl, tried.hindered.hinders);
  }

-- nothing but seats at stripes changed, twice
pub turned-then : (p q r : PassView) → OnlyTurned p q → OnlyTurned q r → OnlyTurned p r
turned-then p q r first later = later ∙ ap (λ (v : PassView). record v { stripes = r.stripes }) first
