-- Where the rounds of a read of a part aim, and the part that comes next.
use Rattle.std.proofs.Common.{◌≡◌, ℕ, ◌+◌, ◌-◌, ◌*◌, ◌<◌, ◌≤◌, ◌==◌, min, inl, inr, Bool, true, false, Some, List, [], ◌∷◌, ◌++◌, length, if◌then◌else◌, refl, sym, ap, ◌∙◌, subst, arith}
use Rattle.std.specs.Prelude.{◌/◌, ◌%◌, ◌^◌, All, IsTrue, None, Option}
use Rattle.std.proofs.lemmas.Bool.{cases_eq, eq-eqb, eqb-true, false≢true}
use Rattle.std.proofs.lemmas.List.Elements.{All-append, All-nil}
use Rattle.std.proofs.lemmas.Option.{none-some}
use Rattle.iob_base.specs.Geometry.{is_block_size, is_folio_blocks}
use Rattle.iob_base.specs.declared.answer.Fault.{Fault}
use Rattle.iob_base.specs.declared.stamp.FileId.{FileId}
use Rattle.iob_base.specs.declared.stamp.Tag.{Tag}
use Rattle.io_model.specs.Parts.{blocks_met, span}
use Rattle.iov_iter.specs.IovView.{IovView, written_on}
use Rattle.fault_device.specs.LaneView.{LaneView}
use Rattle.range_core.specs.ByteRuns.{HasNext}
use Rattle.range_core.specs.declared.entry.Entry.{Entry}
use Rattle.mount_parts.specs.MountView.{MountView, file_at}
use Rattle.mini_fs.specs.Acts.{Act, own_entries}
use Rattle.mini_fs.specs.CallActs.{loans_in}
use Rattle.mini_fs.specs.Mappings.{file_end}
use Rattle.mini_fs.specs.PassView.{IsPassOf, PassView}
use Rattle.mini_fs.proofs.CallLemmas.{own_entries-append}
use Rattle.call_parts.specs.Budgets.{IsBehind, IsSound}
use Rattle.call_parts.specs.Parts.{part_end}
use Rattle.buffered_read.specs.Preads.{EndsAt, HasReadFrom, HasReadUpTo, ReadsFew, progress}
use Rattle.call_parts.specs.Reads.{bytes_read}
use Rattle.buffered_read.specs.Warms.{TriesPart, after_try, more_bios}
use Rattle.call_parts.specs.declared.progress.Progress.{Progress}
use Rattle.buffered_read.specs.declared.warm.Round.{Round}
use Rattle.buffered_read.specs.declared.warm.Round.TheVariants as round
use Rattle.buffered_read.specs.declared.warm.Tried.{Tried}
use Rattle.buffered_read.specs.declared.warm.Tried.TheVariants as tried
use Rattle.call_parts.proofs.FewLemmas.{all-behind, behind-before, few-back, few-none}
use Rattle.call_parts.proofs.PartLemmas.{div-mono, part-is}
use Rattle.buffered_read.proofs.ReadLemmas.{blocks-of, both, read-kept, read-none, read-quiet, read-then, read-up-to}
use Rattle.call_parts.proofs.ReadyLemmas.{some-blocks, some-bytes}
use Rattle.buffered_read.proofs.SoFarLemmas.{written-none}
use Rattle.buffered_read.proofs.WarmLemmas.{few-more}

-- The bytes of a part are yet to be read, up to a place where the part ends or a fault stops the read
module _ (m : MountView) (file : FileId) (by : Tag) (from to : ℕ) where
  pub record IsAim (a b : LaneView) (p q : PassView) (iov later : IovView) (aim : Progress) : Type 0 where
    pub read : HasReadFrom m file by from a b p q iov later (progress from aim.bios aim.fault)
    pub stops : EndsAt m.geometry.block_size from to aim.at aim.fault
    pub some : from < aim.at
    pub few : ReadsFew m file from to aim.fault read.acts
    pub behind : All (λ (e : Entry). IsBehind (from / m.geometry.block_size + blocks_met m.geometry.block_size (span from aim.at)) e.event) (own_entries read.acts)

  abbrev pub RoundIs : LaneView → LaneView → PassView → PassView → IovView → IovView → Round → Type 0
  RoundIs a b p q iov later (round.Came came) = HasReadUpTo m file by from to a b p q iov later came
  RoundIs a b p q iov later (round.Again aim) = IsAim a b p q iov later aim

  pub aim-first : from < to → (a : LaneView) (p : PassView) (iov : IovView) → IsPassOf m p → IsAim a a p p iov iov (progress to 0 None)
  unfolding read-none read-quiet
  aim-first less a p iov of = record {
    read = read-none m file by from a p iov of;
    stops = refl;
    some = less;
    few = few-none m file (λ b. true) (from / m.geometry.block_size) (blocks_met m.geometry.block_size (span from to)) None;
    behind = All-nil (λ (e : Entry). IsBehind (from / m.geometry.block_size + blocks_met m.geometry.block_size (span from to)) e.event);
  }

  ends-within : (at : ℕ) (o : Option Fault) → EndsAt m.geometry.block_size from to at o → at ≤ to
  ends-within at None e = omega (arith, e)
  ends-within at (Some f) e = (let l = e.0 in omega (arith, l))

  pub aim-within : (a b : LaneView) (p q : PassView) (iov later : IovView) (aim : Progress) → IsAim a b p q iov later aim → aim.at ≤ to
  aim-within a b p q iov later aim is = ends-within aim.at aim.fault is.stops

  -- nothing was read yet
  nothing : (xs : List ℕ) (iov later : IovView) → later ≡ written_on xs iov → length xs ≡ from - from → later ≡ iov
  nothing [] iov later is long = is ∙ written-none iov
  nothing (x ∷ xs) iov later is long = absurd (omega (arith, long))

  pub aim-iov : (a b : LaneView) (p q : PassView) (iov later : IovView) (aim : Progress) → IsAim a b p q iov later aim → later ≡ iov
  aim-iov a b p q iov later aim is = nothing (bytes_read m p [] is.read.acts) iov later is.read.bytes is.read.long

  module _ (some : 0 < m.geometry.block_size) (a b c : LaneView) (p q r : PassView) (iov later last : IovView) (of : IsPassOf m p) (room : HasNext iov (to - from)) (aim : Progress) (is : IsAim a b p q iov later aim) where
    unfoldable kept : (came : Progress) → came.fault ≡ None → HasReadFrom m file by from b c q r later last came → HasReadFrom m file by from a c p r iov last (progress came.at (more_bios aim.bios came.bios) aim.fault)
    kept came none next =
        let fits = room.within in
        read-kept m file by some from from a b c p q r iov later last (progress from aim.bios aim.fault) came of refl (omega (arith, fits)) (λ no. absurd (omega (arith, no))) is.read next

    unfoldable stopped : (came : Progress) → HasReadFrom m file by from b c q r later last came → HasReadFrom m file by from a c p r iov last (progress came.at (more_bios aim.bios came.bios) came.fault)
    stopped came next =
        let fits = room.within in
        read-then m file by some from from a b c p q r iov later last (progress from aim.bios aim.fault) came of refl (omega (arith, fits)) (λ no. absurd (omega (arith, no))) is.read next

    -- what is tried next lends blocks before those whose read failed
    few-after : (fault last : Option Fault) (more : List Act) → ReadsFew m file from aim.at fault more → (last ≡ None → (aim.fault ≡ None) × (fault ≡ None)) → ReadsFew m file from to last (is.read.acts ++ more)
    few-after fault last more few sound =
        let size = m.geometry.block_size in
        let low = from / size in
        let all = blocks_met size (span from to) in
        let less = blocks_met size (span from aim.at) in
        let here = is.some in
        let most = aim-within a b p q iov later aim is in
        let one = blocks-of m file some from to from aim.at here in
        let two = blocks-of m file some from to from to (omega (arith, here, most)) in
        let order = div-mono (aim.at - 1) (to - 1) size some (omega (arith, most)) in
        few-back m file (λ b. true) low all less (low + less) aim.fault last is.read.acts more (omega (arith, one, two, order)) (omega arith) is.behind
        (λ none. All-append (λ (e : Entry). IsSound e.event) (own_entries is.read.acts) (own_entries more) (is.few.sound (sound none).0) (few.sound (sound none).1)) is.few
        (record { among = few.among; falls = few.falls; sound = λ none. few.sound (sound none).1 })

    -- a part that is all read, or stopped where it begins
    round-came : (at n bios : ℕ) (o : Option Fault) → n ≡ bios → (read : HasReadFrom m file by from a c p r iov last (progress at n o)) → EndsAt m.geometry.block_size from to at o → ReadsFew m file from to o read.acts → HasReadUpTo m file by from to a c p r iov last (progress at bios o)
    round-came at n bios o = read-up-to m file by from to a c p r iov last at n bios o

    place-is : (at : ℕ) (o : Option Fault) (bios : ℕ) → from ≡ at → (read : HasReadFrom m file by from a c p r iov last (progress from bios o)) → ReadsFew m file from to o read.acts → EndsAt m.geometry.block_size from to at o → HasReadUpTo m file by from to a c p r iov last (progress at bios o)
    place-is at o bios same = subst (λ n. (read : HasReadFrom m file by from a c p r iov last (progress from bios o)) → ReadsFew m file from to o read.acts → EndsAt m.geometry.block_size from to n o → HasReadUpTo m file by from to a c p r iov last (progress n bios o)) same (λ read few stops. record { read = read; stops = stops; few = few })

    behind-aim : (at : ℕ) (more : List Act) → from < at → at ≤ aim.at → All (λ (e : Entry). IsBehind (from / m.geometry.block_size + blocks_met m.geometry.block_size (span from at)) e.event) (own_entries more)
        → All (λ (e : Entry). IsBehind (from / m.geometry.block_size + blocks_met m.geometry.block_size (span from at)) e.event) (own_entries (is.read.acts ++ more))
    behind-aim at more low high behind =
        let size = m.geometry.block_size in
        let limit = from / size + blocks_met size (span from at) in
        let here = is.some in
        let one = blocks-of m file some from to from at low in
        let two = blocks-of m file some from to from aim.at here in
        let order = div-mono (at - 1) (aim.at - 1) size some (omega (arith, high)) in
        subst (All (λ (e : Entry). IsBehind limit e.event)) (sym (own_entries-append is.read.acts more))
        (All-append (λ (e : Entry). IsBehind limit e.event) (own_entries is.read.acts) (own_entries more)
        (behind-before (from / size + blocks_met size (span from aim.at)) limit (own_entries is.read.acts) (omega (arith, one, two, order)) is.behind) behind)

    round-stopped : (at bios : ℕ) (f : Fault) → TriesPart m file by from aim.at b c q r later last (tried.Stopped at bios f) → (t : Bool) → (at == from) ≡ t
        → RoundIs a c p r iov last (if t then round.Came (progress at (more_bios aim.bios bios) (Some f)) else round.Again (progress at (more_bios aim.bios bios) (Some f)))
    unfolding stopped read-then both
    round-stopped at bios f next true e =
        let same = eqb-true at from e in
        let high = next.stops.1 in
        let most = aim-within a b p q iov later aim is in
        place-is at (Some f) (more_bios aim.bios bios) (sym same) (stopped (progress from bios (Some f)) next.read) (few-after (Some f) (Some f) next.read.acts next.few (λ none. absurd (none-some f (sym none)))) (omega (arith, high, most), next.stops.2)
    round-stopped at bios f next false e =
        let low = next.stops.0 in
        let high = next.stops.1 in
        let most = aim-within a b p q iov later aim is in
        let other : at ≡ from → ⊥ = λ same. false≢true (sym e ∙ eq-eqb at from same) in
        record {
          read = stopped (progress from bios (Some f)) next.read;
          stops = (omega (arith, high, most), next.stops.2);
          some = omega (arith, low, other);
          few = few-after (Some f) (Some f) next.read.acts next.few (λ none. absurd (none-some f (sym none)));
          behind = behind-aim at next.read.acts (omega (arith, low, other)) (omega (arith, high)) (next.behind other);
        }

    pub round-so : (t : Tried) → TriesPart m file by from aim.at b c q r later last t → RoundIs a c p r iov last (after_try from aim t)
    unfolding kept read-kept both
    round-so tried.Read next =
        round-came aim.at (more_bios aim.bios 0) aim.bios aim.fault (few-more aim.bios (loans_in is.read.acts) (2 ^ 64 - 1) is.read.bios) (kept (progress aim.at 0 None) refl next.read) is.stops
        (few-after None aim.fault next.read.acts next.few (λ none. (none, refl)))
    round-so (tried.Again bios) next = record {
      read = kept (progress from bios None) refl next.read;
      stops = is.stops;
      some = is.some;
      few = few-after None aim.fault next.read.acts next.few (λ none. (none, refl));
      behind = behind-aim aim.at next.read.acts is.some (omega arith) (all-behind (from / m.geometry.block_size + blocks_met m.geometry.block_size (span from aim.at)) (own_entries next.read.acts) (next.few.sound refl));
    }
    round-so (tried.Stopped at bios f) next = round-stopped at bios f next (at == from) refl

-- where a file has bytes its blocks have some
pub some-size : (m : MountView) (file : FileId) (from to : ℕ) → from < to → to ≤ file_end m file → 0 < m.geometry.block_size
some-size m file from to less within = elim (cases_eq m.geometry.block_size 0) [
  | inl none ↦ (let zeros : (file_at m file).blocks * m.geometry.block_size ≡ (file_at m file).blocks * 0 = ap (λ n. (file_at m file).blocks * n) none in absurd (omega (arith, zeros, less, within)))
  | inr some ↦ omega (arith, some)
]

-- bytes before the end of a part are a part
pub part-before : (m : MountView) (from to next : ℕ) → part_end m.geometry to from ≡ to → next ≤ to → part_end m.geometry next from ≡ next
part-before m from to next part before = shorter to next _ part before
  where
    shorter : (to next most : ℕ) → min to most ≡ to → next ≤ to → min next most ≡ next
    shorter to next most is le = omega (arith, is, le)

pub next-fewer : (v : IovView) (n k : ℕ) → k ≤ n → HasNext v n → HasNext v k
next-fewer v n k fewer room = (let fits = room.within in record { within = omega (arith, fits, fewer); home = λ b low below. room.home b low (omega (arith, below, fewer)) })

-- The next part of a range is one: it has bytes, lies in one folio, and ends with a block or with the range
pub record IsNextPart (m : MountView) (to at next : ℕ) : Type 0 where
  pub some : at < next
  pub within : next ≤ to
  pub ends : next < to → next % m.geometry.block_size ≡ 0
  pub part : part_end m.geometry next at ≡ next

pub next-part : (m : MountView) (to at next : ℕ) → IsTrue (is_block_size m.geometry.block_size) → IsTrue (is_folio_blocks m.geometry.folio_blocks) → at < to → next ≡ part_end m.geometry to at → IsNextPart m to at next
next-part m to at next sized foliod less is =
    let whole = part-is m.geometry.block_size m.geometry.folio_blocks to at (some-bytes m.geometry.block_size sized) (some-blocks m.geometry.folio_blocks foliod) less in
    subst (IsNextPart m to at) (sym is) (record { some = whole.some; within = whole.within; ends = whole.ends; part = twice to _ })
  where
    twice : (to most : ℕ) → min (min to most) most ≡ min to most
    twice to most = omega arith
