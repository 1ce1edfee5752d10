-- A pass that goes on keeps its mapping, and a begin gives it one.
use Rattle.std.proofs.Common.{◌≡◌, ℕ, ◌++◌, inl, inr, List, [], ◌∷◌, false, true, length, set, Option, Some, None, Ok, Err, refl, sym, ap, ◌∙◌, subst}
use Rattle.std.specs.Prelude.{IfOk, IfSome, IsSomeAnd, Result, slice_get}
use Rattle.iob_base.specs.declared.stamp.FileId.{FileId}
use Rattle.iob_base.specs.declared.stamp.Mode.TheVariants.{Cached}
use Rattle.iomap_core.specs.Mappings.{IsBegun}
use Rattle.iomap_core.specs.declared.mapping.Iomap.{Iomap}
use Rattle.iomap_core.specs.declared.ops.BeginFault.{BeginFault}
use Rattle.turn_cell.specs.Stakes.{Begins}
use Rattle.turn_cell.specs.Views.{SeatView}
use Rattle.range_core.specs.ClaimsView.{ClaimsView}
use Rattle.range_core.specs.KnownSamples.{WasGiven}
use Rattle.range_core.specs.RangeView.{RangeView}
use Rattle.range_core.specs.declared.entry.Entry.{Entry}
use Rattle.range_core.specs.declared.entry.Outcome.TheVariants.{Sampled}
use Rattle.range_core.specs.declared.fault.EventFault.{EventFault}
use Rattle.range_core.specs.declared.sample.Sample.{Sample}
use Rattle.range_core.proofs.SampleLemmas.{given_later}
use Rattle.mount_parts.specs.MountView.{MountView, file_at, stripe_at}
use Rattle.mount_parts.proofs.Places.{set-same}
use Rattle.mini_fs.specs.Acts.Act.{Turn}
use Rattle.mini_fs.specs.MapTurns.{MakesTurn, MakesTurns, MapTurn}
use Rattle.mini_fs.specs.MapTurns.MapTurn.{Look, Place, Promise, TakeBack}
use Rattle.mini_fs.specs.Mappings.{AnswersPromise, AskedPromise, Begins as BeginsAt, Ends, FoundUsed, IsGivenAt, IsOpen, IsWrite, LiesInStripe, NotesBegun, Tells, begun_of, blocks_asked, sample_in, with_begun, write_flags}
use Rattle.mini_fs.specs.PassView.{IsPassOf, PassView}
use Rattle.mini_fs.specs.Turns.{TurnsAt, block_at}
use Rattle.mini_fs.specs.declared.begun.Begun.{Begun}
use Rattle.mini_fs.proofs.ActLemmas.{act-seat, turned-act}
use Rattle.mini_fs.proofs.MapSteps.{look-given, look-starts}
use Rattle.mini_fs.proofs.Opens.{still-open}
use Rattle.worked_mounts.specs.Alone.{HasMapping, IsAlone, IsSeen, KeepsMapping, share_of}
use Rattle.worked_mounts.proofs.Going.{Goes, goes-none, goes-then, goes-turn}

-- each seat at a stripe sees on from what it had seen
abbrev pub SeesOn : PassView → PassView → Type 0
SeesOn p q = (k : ℕ) (s : SeatView Entry) → slice_get p.stripes k ≡ Some s → (t : SeatView Entry) × (slice_get q.stripes k ≡ Some t) × Begins s.seen t.seen

pub sees-turn : {does : RangeView → List Entry → RangeView → RangeView → Entry → Type 0} {m : MountView} {stripe : ℕ} {claims left : ClaimsView} {p q : PassView} → TurnsAt does m stripe claims left p q → SeesOn p q
sees-turn {stripe = stripe} {p = p} {q = q} t k s here =
    let one = act-seat k (Turn stripe t.turned.others t.turned.entry) p q s (turned-act t) here in
    (one.0, one.1, (_, sym one.2.seen))

given-in : (p q : PassView) (k : ℕ) (sample : Sample) (o : Option (SeatView Entry)) → slice_get p.stripes k ≡ o → SeesOn p q → IsSomeAnd o (λ (s : SeatView Entry). WasGiven sample s.seen) → IsGivenAt q k sample
given-in p q k sample None here on given = absurd given
given-in p q k sample (Some s) here on given =
    let t = on k s here in
    subst (λ o. IsSomeAnd o (λ (x : SeatView Entry). WasGiven sample x.seen)) (sym t.1) (given_later sample s.seen t.0.seen t.2 given)

pub given-on : (p q : PassView) (k : ℕ) (sample : Sample) → SeesOn p q → IsGivenAt p k sample → IsGivenAt q k sample
given-on p q k sample on given = given-in p q k sample (slice_get p.stripes k) refl on given

seen-in : (m : MountView) (file : FileId) (p q : PassView) (o : Option Begun) → SeesOn p q → IfSome o (λ (b : Begun). IsSeen m file p b.sample) → IfSome o (λ (b : Begun). IsSeen m file q b.sample)
seen-in m file p q None on seen = seen
seen-in m file p q (Some b) on seen = record { given = given-on p q (stripe_at m file b.sample.extent.block) b.sample on seen.given; lies = seen.lies }

pub mapping-kept : (m : MountView) (p q : PassView) → IsPassOf m q → q.begun ≡ p.begun → SeesOn p q → KeepsMapping m p q
mapping-kept m p q of same on iomap has = record {
  cached = has.cached;
  unended = still-open m p q iomap has.unended of same;
  seen = subst (λ o. IfSome o (λ (b : Begun). IsSeen m iomap.file q b.sample)) (sym same) (seen-in m iomap.file p q p.begun on has.seen);
}

pub mapping-turn : {does : RangeView → List Entry → RangeView → RangeView → Entry → Type 0} {m : MountView} {stripe : ℕ} {claims left : ClaimsView} {p q : PassView} → IsPassOf m q → TurnsAt does m stripe claims left p q → KeepsMapping m p q
mapping-turn {m = m} {p = p} {q = q} of t = mapping-kept m p q of (ap (λ (x : PassView). x.begun) t.pass_is) (sees-turn t)

-- one turn of a mapping, and turns one after another
goes-one : (m : MountView) (file : FileId) (t : MapTurn) (p q : PassView) → MakesTurn m file t p q → Goes p q
goes-one m file (Look b most sample) p q t = goes-turn t
goes-one m file (Promise seen n answer) p q t = goes-turn t
goes-one m file (Place b n answer) p q t = goes-turn t
goes-one m file (TakeBack b n count) p q t = goes-turn t

pub goes-made : (m : MountView) (file : FileId) (ts : List MapTurn) (p q : PassView) → MakesTurns m file ts p q → Goes p q
goes-made m file [] p q e = subst (Goes p) (sym e) (goes-none p)
goes-made m file (t ∷ ts) p q (r, one, rest) = goes-then p r q (goes-one m file t p r one) (goes-made m file ts r q rest)

goes-noted : (p r q : PassView) (begun : Option Begun) → Goes p r → q ≡ with_begun r begun → Goes p q
goes-noted p r q begun g e = subst (Goes p) (sym e) (record { stripes = g.stripes; sizes = g.sizes; locks = g.locks; spare = g.spare })

came-goes : (p r q : PassView) (came : Result Begun BeginFault) (answer : Result Iomap BeginFault) → Goes p r → NotesBegun came r answer q → Goes p q
came-goes p r q (Ok begun) answer g noted = goes-noted p r q (Some begun) g noted.1
came-goes p r q (Err fault) answer g noted = subst (Goes p) (sym noted.1) g

pub goes-begin : (m : MountView) (file : FileId) (p q : PassView) (pos length : ℕ) (answer : Result Iomap BeginFault) → BeginsAt m p file pos length write_flags answer q → Goes p q
goes-begin m file p q pos length answer b = came-goes p b.reached q b.came answer (goes-made m file b.made.turns p b.reached b.made.make) b.noted

pub goes-end : (m : MountView) (p q : PassView) (iomap : Iomap) (written : ℕ) → Ends m p iomap written q → Goes p q
goes-end m p q iomap written e = goes-noted p e.reached q None (goes-made m iomap.file e.made.turns p e.reached e.made.make) e.pass_is

-- turns after turns, taken apart
after : (m : MountView) (file : FileId) (ts us : List MapTurn) (p q : PassView) → MakesTurns m file (ts ++ us) p q → (r : PassView) × MakesTurns m file us r q
after m file [] us p q make = (p, make)
after m file (t ∷ ts) us p q (r, one, rest) = after m file ts us r q rest

at-end : {A : Type 0} (xs : List A) (x : A) → slice_get (xs ++ x ∷ []) (length xs) ≡ Some x
at-end [] x = refl
at-end (y ∷ xs) x = at-end xs x

-- a turn whose entry gave a sample gave it to the pass
gave-given : {does : RangeView → List Entry → RangeView → RangeView → Entry → Type 0} {m : MountView} {stripe : ℕ} {claims left : ClaimsView} {p q : PassView} (t : TurnsAt does m stripe claims left p q) (sample : Sample) → t.turned.entry.outcome ≡ Sampled sample → IsGivenAt q stripe sample
gave-given {stripe = stripe} {p = p} {q = q} t sample gave =
    let h = t.turned in
    let there : slice_get (set p.stripes stripe t.after) stripe ≡ Some t.after = set-same p.stripes stripe t.before t.after t.stand.seat_is in
    let here : slice_get q.stripes stripe ≡ Some t.after = subst (λ (x : PassView). slice_get x.stripes stripe ≡ Some t.after) (sym t.pass_is) there in
    let last : slice_get ((t.before.seen ++ h.others) ++ h.entry ∷ []) (length (t.before.seen ++ h.others)) ≡ Some h.entry = at-end (t.before.seen ++ h.others) h.entry in
    let given : WasGiven sample t.after.seen = record {
      place = length (t.before.seen ++ h.others);
      entry = h.entry;
      here = subst (λ l. slice_get l (length (t.before.seen ++ h.others)) ≡ Some h.entry) (sym h.seen_is) last;
      gave = gave;
    } in
    subst (λ o. IsSomeAnd o (λ (x : SeatView Entry). WasGiven sample x.seen)) (sym here) given

module _ (m : MountView) (file : FileId) where
  promise-given : (p q : PassView) (seen promised : Sample) (n : ℕ) → MakesTurn m file (Promise seen n (Ok promised)) p q → IsGivenAt q (stripe_at m file promised.extent.block) promised
  promise-given p q seen promised n t =
      let starts : promised.extent.block ≡ seen.extent.block = ap (λ (x : Sample). x.extent.block) t.turned.done.ok.sample_is in
      subst (λ b. IsGivenAt q (stripe_at m file b) promised) (sym starts) (gave-given t promised (ap (λ (e : Entry). e.outcome) t.turned.done.entry_is))

  look-gives : (p q : PassView) (b most : ℕ) (sample : Sample) → MakesTurn m file (Look b most sample) p q → IsGivenAt q (stripe_at m file sample.extent.block) sample
  look-gives p q b most sample t = subst (λ k. IsGivenAt q (stripe_at m file k) sample) (sym (look-starts m file p q b most sample t)) (look-given m file p q b most sample t)

  -- the sample of a mapping that the second pass was given
  abbrev WasGivenTo : PassView → Begun → Type 0
  WasGivenTo q begun = IsGivenAt q (stripe_at m file begun.sample.extent.block) begun.sample

  used-given : (b most : ℕ) (turns : List MapTurn) (begun : Begun) (p q : PassView) → FoundUsed m file b most turns (Ok begun) → MakesTurns m file turns p q → WasGivenTo q begun
  used-given b most turns begun p q f make =
      let run = subst (λ ts. MakesTurns m file ts p q) f.turns_are make in
      let r = run.0 in
      let given : IsGivenAt q (stripe_at m file f.sample.extent.block) f.sample = subst (λ x. IsGivenAt x (stripe_at m file f.sample.extent.block) f.sample) (sym run.2) (look-gives p r b most f.sample run.1) in
      let is : begun_of m file false f.sample ≡ begun = (let e = f.answer_is in cc) in
      subst (WasGivenTo q) is given

  asked-given : (b most : ℕ) (seen : Sample) (promise : Result Sample EventFault) (begun : Begun) (p q : PassView) → AnswersPromise m file b most promise (Ok begun) → MakesTurns m file (Look b most seen ∷ Promise seen seen.extent.length promise ∷ []) p q → WasGivenTo q begun
  asked-given b most seen (Ok promised) begun p q answers (r, look, (s, turn, last)) =
      let given : IsGivenAt q (stripe_at m file promised.extent.block) promised = subst (λ x. IsGivenAt x (stripe_at m file promised.extent.block) promised) (sym last) (promise-given r s seen promised seen.extent.length turn) in
      let is : begun_of m file true promised ≡ begun = cc in
      subst (WasGivenTo q) is given
  asked-given b most seen (Err fault) begun p q (refusal, is, answers) make = absurd (cc)

  write-given : (b most : ℕ) (turns : List MapTurn) (begun : Begun) (p q : PassView) → IsWrite m file b most turns (Ok begun) → MakesTurns m file turns p q → WasGivenTo q begun
  write-given b most turns begun p q w make =
      let last = after m file w.before w.last p q (subst (λ ts. MakesTurns m file ts p q) w.turns_are make) in
      elim w.ends [
        | inl f ↦ used-given b most w.last begun last.0 q f last.1
        | inr a ↦ asked-given b most a.sample a.promise begun last.0 q a.answer_is (subst (λ ts. MakesTurns m file ts last.0 q) a.turns_are last.1)
      ]

came-seen : (m : MountView) (file : FileId) (b most : ℕ) (p r q : PassView) (turns : List MapTurn) (came : Result Begun BeginFault) (iomap : Iomap) → IsWrite m file b most turns came → MakesTurns m file turns p r → NotesBegun came r (Ok iomap) q → IsOpen m q iomap → iomap.file ≡ file
    → IfSome q.begun (λ (begun : Begun). IsSeen m file q begun.sample)
came-seen m file b most p r q turns (Err fault) iomap w make noted is home = absurd (let e = noted.0 in cc)
came-seen m file b most p r q turns (Ok begun) iomap w make noted is home =
    let same : iomap ≡ begun.iomap = (let e = noted.0 in cc) in
    let begun_is : q.begun ≡ Some begun = ap (λ (x : PassView). x.begun) noted.1 in
    let tells : Tells m begun = subst (λ o. IfSome o (Tells m)) begun_is is.tells in
    let of : begun.iomap.file ≡ file = ap (λ (x : Iomap). x.file) (sym same) ∙ home in
    let given : IsGivenAt q (stripe_at m file begun.sample.extent.block) begun.sample = subst (λ x. IsGivenAt x (stripe_at m file begun.sample.extent.block) begun.sample) (sym noted.1) (write-given m file b most turns begun p r w make) in
    subst (λ o. IfSome o (λ (x : Begun). IsSeen m file q x.sample)) (sym begun_is) (record { given = given; lies = subst (λ f. LiesInStripe m f begun.sample.extent) of tells.lies })

-- a begin gives the pass its mapping
module _ (m : MountView) (file : FileId) (p q : PassView) (pos length : ℕ) (cached : (file_at m file).mode ≡ Cached) where
  begin-has : (iomap : Iomap) → BeginsAt m p file pos length write_flags (Ok iomap) q → IsOpen m q iomap → iomap.file ≡ file → HasMapping m q iomap
  begin-has iomap b is home = record {
    cached = subst (λ f. (file_at m f).mode ≡ Cached) (sym home) cached;
    unended = is;
    seen = subst (λ f. IfSome q.begun (λ (begun : Begun). IsSeen m f q begun.sample)) (sym home)
        (came-seen m file (block_at m pos) (blocks_asked m file pos length) p b.reached q b.made.turns b.came iomap b.made.are b.made.make b.noted is home);
  }

  pub begin-maps : (answer : Result Iomap BeginFault) → BeginsAt m p file pos length write_flags answer q → IfOk answer (λ iomap. IsOpen m q iomap) → IfOk answer (λ iomap. IsBegun file pos iomap) → IfOk answer (HasMapping m q)
  begin-maps (Ok iomap) b is begun = begin-has iomap b is begun.file_is
  begin-maps (Err fault) b is begun = tt

-- the sample of the mapping was given to the pass
pub seen-is : (m : MountView) (file : FileId) (p : PassView) (sample : Sample) (o : Option Begun) → IfSome o (λ (b : Begun). IsSeen m file p b.sample) → sample_in o ≡ Some sample → IsSeen m file p sample
seen-is m file p sample None seen is = absurd (cc)
seen-is m file p sample (Some b) seen is = let e : b.sample ≡ sample = cc in subst (IsSeen m file p) e seen
