-- What is laid over a file by steps one after another.
use Rattle.std.proofs.Common.{inl, inr, ◌≡◌, ℕ, ◌+◌, ◌-◌, ◌<◌, ◌≤◌, ◌++◌, ◌∷◌, [], List, min, length, take, drop, refl, sym, ap, ◌∙◌, subst, arith, append-nil, append_assoc, length-append}
use Rattle.std.specs.Prelude.{◌^◌, ◌%◌, Bool, IfSome, IsTrue, None, Option, Some}
use Rattle.std.proofs.lemmas.Bool.{cases_eq}
use Rattle.std.proofs.lemmas.List.Elements.{All-append}
use Rattle.std.proofs.Math.Seq.{take-add}
use Rattle.iob_base.specs.declared.answer.Fault.{Fault}
use Rattle.iob_base.specs.declared.stamp.FileId.{FileId}
use Rattle.iob_base.specs.declared.stamp.Stamp.{Stamp}
use Rattle.iob_base.specs.declared.stamp.Tag.{Tag}
use Rattle.io_model.specs.Parts.{span}
use Rattle.fault_device.specs.LaneView.{LaneView}
use Rattle.range_core.specs.EntryStamps.{stamps_in}
use Rattle.range_core.specs.Stamps.{done_by}
use Rattle.range_core.specs.declared.entry.Entry.{Entry}
use Rattle.range_core.specs.declared.entry.Event.{Event}
use Rattle.mount_parts.specs.MountView.{MountView}
use Rattle.mini_fs.specs.Acts.{Act, own_entries}
use Rattle.mini_fs.specs.CallActs.{loans_in}
use Rattle.mini_fs.specs.PassView.{PassView}
use Rattle.mini_fs.proofs.CallLemmas.{loans-append, own_entries-append}
use Rattle.call_parts.specs.Budgets.{AreSound, IsSound}
use Rattle.call_parts.specs.Causes.{IsCaused}
use Rattle.buffered_write.specs.Lays.{FollowOn, HasLaid, IsDry, Laid, Meet, LaysNothing, LieOn, bytes_laid, laid_by, laid_in}
use Rattle.call_parts.specs.Parts.{stamps_over}
use Rattle.buffered_write.specs.Pwrites.{followed, progress}
use Rattle.call_parts.specs.declared.progress.Progress.{Progress}
use Rattle.call_parts.proofs.NumberLemmas.{stamps-append}
use Rattle.call_parts.proofs.PartLemmas.{over-none, over-parts}
use Rattle.call_parts.proofs.StepLemmas.{caused-left, caused-right, steps-may, steps-then}

-- what two lists of entries laid
pub laid-append : (size : ℕ) (es more : List Entry) → laid_in size (es ++ more) ≡ laid_in size es ++ laid_in size more
laid-append size [] more = refl
laid-append size (e ∷ es) more = ap (λ l. laid_by size e.event e.outcome ++ l) (laid-append size es more) ∙ sym (append_assoc (laid_by size e.event e.outcome) (laid_in size es) (laid_in size more))

bytes-append : (ls more : List Laid) → bytes_laid (ls ++ more) ≡ bytes_laid ls ++ bytes_laid more
bytes-append [] more = refl
bytes-append (x ∷ ls) more = ap (λ l. x.bytes ++ l) (bytes-append ls more) ∙ sym (append_assoc x.bytes (bytes_laid ls) (bytes_laid more))

follow-then : (at : ℕ) (ls more : List Laid) → FollowOn at ls → FollowOn (at + length (bytes_laid ls)) more → FollowOn at (ls ++ more)
follow-then at [] more first later = subst (λ n. FollowOn n more) (let z : at + 0 ≡ at = omega arith in z) later
follow-then at (x ∷ ls) more (is, first) later =
    let long = length-append x.bytes (bytes_laid ls) in
    let n : at + length (x.bytes ++ bytes_laid ls) ≡ at + length x.bytes + length (bytes_laid ls) = omega (arith, long) in
    (is, follow-then (at + length x.bytes) ls more first (subst (λ k. FollowOn k more) n later))

-- nothing lies from a place up to itself
pub lie-none : (at : ℕ) → LieOn at at [] []
lie-none at = record { order = tt; together = refl; reach = omega arith }

-- runs of bytes that meet
pub lie-then : (from at to : ℕ) (xs ys : List ℕ) (ls more : List Laid) → LieOn from at xs ls → LieOn at to ys more → LieOn from to (xs ++ ys) (ls ++ more)
lie-then from at to xs ys ls more first later = record {
  order = follow-then from ls more first.order (subst (λ n. FollowOn n more) (sym first.reach ∙ ap (λ l. from + length l) (sym first.together)) later.order);
  together = bytes-append ls more ∙ ap (λ l. l ++ bytes_laid more) first.together ∙ ap (λ l. xs ++ l) later.together;
  reach = (let one = first.reach in let two = later.reach in let both = length-append xs ys in omega (arith, one, two, both));
}

module _ (size : ℕ) (some : 0 < size) (stamp : Stamp) where
  -- the blocks of two runs that meet have one stamp each
  pub over-meet : (from at to : ℕ) → from ≤ at → at ≤ to → Meet size from at to → stamps_over size (span from at) stamp ++ stamps_over size (span at to) stamp ≡ stamps_over size (span from to) stamp
  over-meet from at to low high meet = elim (cases_eq at from) [
    | inl e ↦ ap (λ n. stamps_over size (span from n) stamp ++ stamps_over size (span n to) stamp) e ∙ ap (λ l. l ++ stamps_over size (span from to) stamp) (over-none size some stamp from)
    | inr n ↦ elim (cases_eq at to) [
      | inl e ↦ ap (λ n. stamps_over size (span from n) stamp ++ stamps_over size (span n to) stamp) e ∙ ap (λ l. stamps_over size (span from to) stamp ++ l) (over-none size some stamp to) ∙ append-nil (stamps_over size (span from to) stamp)
      | inr k ↦ over-parts size some stamp from at to (omega (arith, n, low)) (omega (arith, k, high)) (border n k meet)
    ]
  ]
    where
      border : (at ≡ from → ⊥) → (at ≡ to → ⊥) → Meet size from at to → at % size ≡ 0
      border n k (inl e) = absurd (n e)
      border n k (inr (inl e)) = absurd (k e)
      border n k (inr (inr e)) = e

-- the bios of two steps
pub bios-both : (a b m n : ℕ) → a ≡ min m (2 ^ 64 - 1) → b ≡ min n (2 ^ 64 - 1) → min (a + b) (2 ^ 64 - 1) ≡ min (m + n) (2 ^ 64 - 1)
bios-both a b m n one two = omega (arith, one, two)

-- two steps that lent nothing lent nothing
pub dry-both : (m : MountView) (file : FileId) (acts more : List Act) → IsDry m file acts → IsDry m file more → IsDry m file (acts ++ more)
dry-both m file acts more first later dax = (let all = loans-append acts more in let a = first dax in let b = later dax in omega (arith, all, a, b))

-- a cause of the last step is one of the whole
pub caused-last : (m : MountView) (before after : List Entry) (fault : Option Fault) → IfSome fault (IsCaused m after) → IfSome fault (IsCaused m (before ++ after))
caused-last m before after None cause = tt
caused-last m before after (Some fault) cause = caused-right m before after fault cause

module _ (m : MountView) (may : Event → Bool) (file : FileId) where
  -- steps that lay nothing, one after another
  pub nothing-then : (a b c : LaneView) (p q r : PassView) (bios sent : ℕ) (fault : Option Fault) → LaysNothing m may file a b p q bios None → LaysNothing m may file b c q r sent fault → LaysNothing m may file a c p r (min (bios + sent) (2 ^ 64 - 1)) fault
  nothing-then a b c p q r bios sent fault one two =
      let size = m.geometry.block_size in
      let own = own_entries-append one.acts two.acts in
      record {
        acts = one.acts ++ two.acts;
        steps = steps-then m file may a b c p q r one.acts two.acts one.steps two.steps;
        laid = ap (laid_in size) own ∙ laid-append size (own_entries one.acts) (own_entries two.acts) ∙ ap (λ l. l ++ laid_in size (own_entries two.acts)) one.laid ∙ two.laid;
        stamps = ap (stamps_in size) own ∙ stamps-append size (own_entries one.acts) (own_entries two.acts) ∙ ap (λ l. l ++ stamps_in size (own_entries two.acts)) one.stamps ∙ two.stamps;
        cause = subst (λ l. IfSome fault (IsCaused m l)) (sym own) (caused-last m (own_entries one.acts) (own_entries two.acts) fault two.cause);
        sent = bios-both bios sent (loans_in one.acts) (loans_in two.acts) one.sent two.sent ∙ ap (λ n. min n (2 ^ 64 - 1)) (sym (loans-append one.acts two.acts));
        sound = λ none. subst AreSound (sym own) (All-append (λ (e : Entry). IsSound e.event) (own_entries one.acts) (own_entries two.acts) (one.sound (omega (arith, none))) (two.sound (omega (arith, none))));
        dry = dry-both m file one.acts two.acts one.dry two.dry;
      }

  module _ (by : Tag) (some : 0 < m.geometry.block_size) where
    -- a step that lays nothing lays the bytes from a place up to itself
    unfoldable pub laid-nothing : (from : ℕ) (bytes : List ℕ) (a b : LaneView) (p q : PassView) (bios : ℕ) (fault : Option Fault) → LaysNothing m may file a b p q bios fault → HasLaid m may file by from bytes a b p q (progress from bios fault)
    laid-nothing from bytes a b p q bios fault step =
        let zero_long : from - from ≡ 0 = omega arith in
        record {
          acts = step.acts;
          steps = step.steps;
          begins = omega arith;
          laid = subst (λ n. LieOn from from (take n bytes) (laid_in m.geometry.block_size (own_entries step.acts))) (sym zero_long) (subst (LieOn from from []) (sym step.laid) (lie-none from));
          stamps = step.stamps ∙ sym (over-none m.geometry.block_size some (done_by by) from);
          cause = step.cause;
          bios = step.sent;
          dry = step.dry;
        }

    -- bytes laid up to a place, and those from there on
    unfoldable pub laid-then : (from : ℕ) (bytes more : List ℕ) (a b c : LaneView) (p q r : PassView) (came next : Progress) → came.fault ≡ None → more ≡ drop (came.at - from) bytes → Meet m.geometry.block_size from came.at next.at
        → HasLaid m may file by from bytes a b p q came → HasLaid m may file by came.at more b c q r next → HasLaid m may file by from bytes a c p r (followed came next)
    laid-then from bytes more a b c p q r came next whole rest meet one two =
        let size = m.geometry.block_size in
        let own = own_entries-append one.acts two.acts in
        let low = one.begins in
        let high = two.begins in
        let long : came.at - from + (next.at - came.at) ≡ next.at - from = omega (arith, low, high) in
        let all : take (came.at - from) bytes ++ take (next.at - came.at) more ≡ take (next.at - from) bytes =
        ap (λ l. take (came.at - from) bytes ++ take (next.at - came.at) l) rest ∙ sym (take-add (came.at - from) (next.at - came.at) bytes) ∙ ap (λ n. take n bytes) long in
        record {
          acts = one.acts ++ two.acts;
          steps = steps-then m file may a b c p q r one.acts two.acts one.steps two.steps;
          begins = omega (arith, low, high);
          laid = subst (λ l. LieOn from next.at (take (next.at - from) bytes) l) (sym (ap (laid_in size) own ∙ laid-append size (own_entries one.acts) (own_entries two.acts)))
              (subst (λ l. LieOn from next.at l (laid_in size (own_entries one.acts) ++ laid_in size (own_entries two.acts))) all
              (lie-then from came.at next.at (take (came.at - from) bytes) (take (next.at - came.at) more) (laid_in size (own_entries one.acts)) (laid_in size (own_entries two.acts)) one.laid two.laid));
          stamps = ap (stamps_in size) own ∙ stamps-append size (own_entries one.acts) (own_entries two.acts)
              ∙ ap (λ l. l ++ stamps_in size (own_entries two.acts)) one.stamps ∙ ap (λ l. stamps_over size (span from came.at) (done_by by) ++ l) two.stamps
              ∙ over-meet size some (done_by by) from came.at next.at low high meet;
          cause = subst (λ l. IfSome next.fault (IsCaused m l)) (sym own) (caused-last m (own_entries one.acts) (own_entries two.acts) next.fault two.cause);
          bios = bios-both came.bios next.bios (loans_in one.acts) (loans_in two.acts) one.bios two.bios ∙ ap (λ n. min n (2 ^ 64 - 1)) (sym (loans-append one.acts two.acts));
          dry = dry-both m file one.acts two.acts one.dry two.dry;
        }

module _ (m : MountView) (file : FileId) (may might : Event → Bool) (wider : (e : Event) → IsTrue (may e) → IsTrue (might e)) where
  -- a step that lays nothing and may make only such events is one that may make more
  unfoldable pub nothing-may : (a b : LaneView) (p q : PassView) (bios : ℕ) (fault : Option Fault) → LaysNothing m may file a b p q bios fault → LaysNothing m might file a b p q bios fault
  nothing-may a b p q bios fault n = record {
    acts = n.acts;
    steps = steps-may m file may might a b p q n.acts wider n.steps;
    laid = n.laid;
    stamps = n.stamps;
    cause = n.cause;
    sent = n.sent;
    sound = n.sound;
    dry = n.dry;
  }

module _ (m : MountView) (may : Event → Bool) (file : FileId) (by : Tag) where
  pub caused-first : (before after : List Entry) (fault : Option Fault) → IfSome fault (IsCaused m before) → IfSome fault (IsCaused m (before ++ after))
  caused-first before after None cause = tt
  caused-first before after (Some fault) cause = caused-left m before after fault cause

  -- a step that lays nothing behind bytes that were laid leaves what they came to, and their fault
  unfoldable pub laid-quiet : (from : ℕ) (bytes : List ℕ) (a b c : LaneView) (p q r : PassView) (came : Progress) → HasLaid m may file by from bytes a b p q came → LaysNothing m may file b c q r 0 None → HasLaid m may file by from bytes a c p r came
  laid-quiet from bytes a b c p q r came one n =
      let size = m.geometry.block_size in
      let own = own_entries-append one.acts n.acts in
      let sent = n.sent in
      let none : loans_in n.acts ≡ 0 = omega (arith, sent) in
      record {
        acts = one.acts ++ n.acts;
        steps = steps-then m file may a b c p q r one.acts n.acts one.steps n.steps;
        begins = one.begins;
        laid = subst (λ l. LieOn from came.at (take (came.at - from) bytes) l)
            (sym (ap (laid_in size) own ∙ laid-append size (own_entries one.acts) (own_entries n.acts) ∙ ap (λ l. laid_in size (own_entries one.acts) ++ l) n.laid ∙ append-nil (laid_in size (own_entries one.acts)))) one.laid;
        stamps = ap (stamps_in size) own ∙ stamps-append size (own_entries one.acts) (own_entries n.acts) ∙ ap (λ l. stamps_in size (own_entries one.acts) ++ l) n.stamps ∙ append-nil (stamps_in size (own_entries one.acts)) ∙ one.stamps;
        cause = subst (λ l. IfSome came.fault (IsCaused m l)) (sym own) (caused-first (own_entries one.acts) (own_entries n.acts) came.fault one.cause);
        bios = one.bios ∙ ap (λ k. min k (2 ^ 64 - 1)) (let z : loans_in one.acts ≡ loans_in (one.acts ++ n.acts) = (let h = loans-append one.acts n.acts in omega (arith, h, none)) in z);
        dry = dry-both m file one.acts n.acts one.dry n.dry;
      }

module _ (m : MountView) (may : Event → Bool) (file : FileId) (by : Tag) (some : 0 < m.geometry.block_size) (from : ℕ) (bytes more : List ℕ) (a b c : LaneView) (p q r : PassView) (came next : Progress) (whole : came.fault ≡ None) (rest : more ≡ drop (came.at - from) bytes)
    (meet : Meet m.geometry.block_size from came.at next.at) (one : HasLaid m may file by from bytes a b p q came) (two : HasLaid m may file by came.at more b c q r next) where
  -- the acts of both steps are the whole's
  pub acts-then : (laid-then m may file by some from bytes more a b c p q r came next whole rest meet one two).acts ≡ one.acts ++ two.acts
  unfolding laid-then
  acts-then = refl
