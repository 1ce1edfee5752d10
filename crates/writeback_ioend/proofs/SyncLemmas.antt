-- The looks of a sync, and what it does with what they found.
use Rattle.std.proofs.Common.{◌≡◌, ℕ, suc, ◌+◌, ◌-◌, ◌*◌, ◌≤◌, ◌<◌, min, Bool, true, false, List, [], ◌∷◌, ◌++◌, length, Some, None, set, refl, sym, ap, ◌∙◌, subst, arith, append_assoc, append-nil, if◌then◌else◌}
use Rattle.std.specs.Prelude.{◌&&◌, ◌^◌, All, IfSome, IsTrue, nat_lt}
use Rattle.std.proofs.lemmas.Bool.{le-leb}
use Rattle.std.proofs.lemmas.List.{length-append}
use Rattle.std.proofs.lemmas.List.Elements.{All-cons, All-nil}
use Rattle.iob_base.specs.declared.answer.Answer.{Answer}
use Rattle.iob_base.specs.declared.answer.Fault.{Fault}
use Rattle.iob_base.specs.declared.answer.Fault.TheVariants.{SyncEio}
use Rattle.iob_base.specs.declared.answer.Reply.TheVariants.{Ok, Err}
use Rattle.iob_base.specs.declared.answer.Stop.TheVariants.{Whole}
use Rattle.iob_base.specs.declared.stamp.FileId.{FileId}
use Rattle.io_model.specs.Lawful.{is_count_reply}
use Rattle.io_model.specs.declared.script.Verb.TheVariants.{Sync}
use Rattle.fault_device.specs.LaneView.{LaneView, lane_of}
use Rattle.turn_cell.specs.Stakes.{total}
use Rattle.turn_cell.proofs.Sums.{total-append}
use Rattle.range_core.specs.EntryCounts.{failures, has_lent, lendings}
use Rattle.range_core.specs.Samples.{GaveSample, MaySample}
use Rattle.range_core.specs.declared.entry.Entry.{Entry}
use Rattle.range_core.specs.declared.entry.Event.TheVariants.{Sample as Look}
use Rattle.range_core.specs.declared.entry.Outcome.TheVariants.{Sampled}
use Rattle.range_core.specs.declared.sample.Sample.{Sample}
use Rattle.mount_parts.specs.MountView.{HasBlock, IsLaidOut, MountView, file_at, stripe_at, stripes_of}
use Rattle.mini_fs.specs.Acts.{Act, Acted, own_entries}
use Rattle.mini_fs.specs.Acts.Act.{Turn, Number}
use Rattle.mini_fs.specs.CallActs.{loans_in, with_call}
use Rattle.mini_fs.specs.Calls.{LeavesPass, MayCall}
use Rattle.mini_fs.specs.PageTurns.{entry_by}
use Rattle.mini_fs.specs.PassView.{IsPassOf, PassView, claims_of}
use Rattle.mini_fs.specs.SpaceTurns.{sample_run}
use Rattle.mini_fs.specs.Turns.{ReadyAt, TurnsAt}
use Rattle.mini_fs.proofs.ActLemmas.{turned-act}
use Rattle.mini_fs.proofs.CallEnds.{acted-caller}
use Rattle.mini_fs.proofs.CallLemmas.{loans-append, own_entries-append}
use Rattle.mini_fs.proofs.Ready.{run-lies}
use Rattle.call_parts.specs.Causes.{IsCaused}
use Rattle.call_parts.specs.Reads.{seen_at, seen_by}
use Rattle.call_parts.specs.Steps.{Steps, done_of, dones_in, is_quiet}
use Rattle.call_parts.proofs.MapLemmas.{act-step}
use Rattle.call_parts.proofs.StepLemmas.{quiet-act, steps-none, steps-then}
use Rattle.writeback_ioend.specs.DropsCache.{blocks_from}
use Rattle.writeback_ioend.specs.ErrorCounts.{count_of}
use Rattle.writeback_ioend.specs.Syncs.{AreTold, CountsErrors, LooksOnce, Syncs, ToldErrors, compared, errors_in, found_errors, look_entry, looks_from}
use Rattle.writeback_ioend.specs.Writebacks.{AsksAscend, StopsWriteback, WritesBack, all_written, asked_to, last_turns, turns_in, writes_back, written_by}
use Rattle.writeback_ioend.specs.declared.walk.Written.{Written}
use Rattle.writeback_ioend.proofs.AskLemmas.{AsksNone, asks-append, asks-none}
use Rattle.writeback_ioend.proofs.SeenLemmas.{seen-after}
use Rattle.writeback_ioend.proofs.WalkLemmas.{met-left, refused-append, returned-then, turns-append}
use Rattle.writeback_ioend.proofs.WriteOuts.{call-leaves, out-numbered, reply-counts}

-- One look at a stripe
module _ (m : MountView) (file : FileId) (stripe run : ℕ) (p q : PassView) (run_is : run ≡ blocks_from (file_at m file).blocks (stripe * 64)) (below : stripe < stripes_of (file_at m file).blocks) where
  pub look-block : HasBlock m file (stripe * 64)
  look-block = omega (arith, below)

  pub look-ready : IsLaidOut m → ReadyAt (λ opening entries claims. MaySample opening (stripe * 64) run) m p (stripe_at m file (stripe * 64)) (claims_of p)
  look-ready laid cell seat stand = record {
    lies = run-lies m file laid (stripe * 64) 1 (omega arith) (omega (arith, below)) (omega arith) cell stand.cell_is;
    some = omega (arith, run_is, below);
  }

  pub looked-once : (sample : Sample) → IsPassOf m p → TurnsAt (λ opening history value next entry. GaveSample opening (sample_run (stripe * 64) run) (sample_run (stripe * 64) run) value next (claims_of p) (claims_of p) sample entry) m (stripe_at m file (stripe * 64)) (claims_of p) (claims_of p) p q
      → LooksOnce m file stripe p q sample.errors
  looked-once sample of t =
      let at = stripe_at m file (stripe * 64) in
      let own = t.turned.entry in
      let gave = t.turned.done in
      let event : own.event ≡ Look (stripe * 64) run = ap (λ (e : Entry). e.event) gave.entry_is in
      let outcome : own.outcome ≡ Sampled sample = ap (λ (e : Entry). e.outcome) gave.entry_is in
      let seen : seen_at p at ≡ t.before.seen = ap seen_by t.stand.seat_is in
      record {
        acts = Turn at t.turned.others own ∷ [];
        sample = sample;
        steps = act-step m file writes_back (stripe * 64) t.turned.others own p q of look-block (turned-act t) (subst (λ e. IsTrue (writes_back e)) (sym event) refl) (ap (λ (e : Entry). e.caller) gave.entry_is) (ap has_lent outcome) (ap (λ e. done_of e own.outcome) event) (quiet-act m file at t.turned.others own (subst (λ e. IsTrue (is_quiet e)) (sym event) refl));
        entries = ap (λ (e : Entry). e ∷ []) gave.entry_is ∙ ap (λ n. entry_by p.caller (Look (stripe * 64) n) (Sampled sample) ∷ []) run_is;
        told = record {
          before = [];
          others = t.turned.others;
          own = own;
          after = [];
          acts_are = refl;
          gave = outcome;
          cell = t.cell;
          cell_is = t.stand.cell_is;
          errors_are =
              ap (λ (s : Sample). s.errors) gave.sample_is
              ∙ t.turned.stood.holds.errors_counted
              ∙ ap (λ l. min (t.cell.opening.errors + total failures (l ++ t.turned.others)) (2 ^ 64 - 1)) (sym (append-nil (seen_at p at) ∙ seen));
        };
        found = refl;
      }

-- the samples of more stripes stand behind those of the first ones
looks-append : (caller blocks from : ℕ) (samples more : List Sample) → looks_from caller blocks from (samples ++ more) ≡ looks_from caller blocks from samples ++ looks_from caller blocks (from + length samples * 64) more
looks-append caller blocks from [] more = ap (λ k. looks_from caller blocks k more) (let e : from ≡ from + 0 * 64 = omega arith in e)
looks-append caller blocks from (s ∷ samples) more =
    ap (λ l. look_entry caller blocks from s ∷ l)
    (looks-append caller blocks (from + 64) samples more
    ∙ ap (λ k. looks_from caller blocks (from + 64) samples ++ looks_from caller blocks k more) (let e : from + 64 + length samples * 64 ≡ from + suc (length samples) * 64 = omega arith in e))

-- a sample that was told of in acts was told of in acts around them
module _ (m : MountView) where
  told-left : (p : PassView) (acts more : List Act) (stripe : ℕ) (sample : Sample) → ToldErrors m stripe sample p acts → ToldErrors m stripe sample p (acts ++ more)
  told-left p acts more stripe sample t = record {
    before = t.before;
    others = t.others;
    own = t.own;
    after = t.after ++ more;
    acts_are = ap (λ l. l ++ more) t.acts_are ∙ append_assoc t.before (Turn stripe t.others t.own ∷ t.after) more;
    gave = t.gave;
    cell = t.cell;
    cell_is = t.cell_is;
    errors_are = t.errors_are;
  }

  told-right : (p q : PassView) (first acts : List Act) → IsPassOf m p → Acted first p q → (stripe : ℕ) (sample : Sample) → ToldErrors m stripe sample q acts → ToldErrors m stripe sample p (first ++ acts)
  told-right p q first acts of acted stripe sample t = record {
    before = first ++ t.before;
    others = t.others;
    own = t.own;
    after = t.after;
    acts_are = ap (λ l. first ++ l) t.acts_are ∙ sym (append_assoc first t.before (Turn stripe t.others t.own ∷ t.after));
    gave = t.gave;
    cell = t.cell;
    cell_is = t.cell_is;
    errors_are = t.errors_are ∙ ap (λ l. min (t.cell.opening.errors + total failures (l ++ t.others)) (2 ^ 64 - 1)) (seen-after m p q first t.before stripe t.cell of acted t.cell_is);
  }

  told-numbered : (p : PassView) (call : ℕ) (acts : List Act) (stripe : ℕ) (sample : Sample) → ToldErrors m stripe sample (with_call p call) acts → ToldErrors m stripe sample p (Number call ∷ acts)
  told-numbered p call acts stripe sample t = record {
    before = Number call ∷ t.before;
    others = t.others;
    own = t.own;
    after = t.after;
    acts_are = ap (λ l. Number call ∷ l) t.acts_are;
    gave = t.gave;
    cell = t.cell;
    cell_is = t.cell_is;
    errors_are = t.errors_are;
  }

  all-told : (file : FileId) (p q : PassView) (acts others : List Act) → ((stripe : ℕ) (sample : Sample) → ToldErrors m stripe sample p acts → ToldErrors m stripe sample q others) → (from : ℕ) (samples : List Sample)
      → AreTold m file from samples p acts → AreTold m file from samples q others
  all-told file p q acts others so from [] told = tt
  all-told file p q acts others so from (s ∷ samples) (one, rest) = (so (stripe_at m file from) s one, all-told file p q acts others so (from + 64) samples rest)

  told-append : (file : FileId) (p : PassView) (acts : List Act) (from : ℕ) (samples more : List Sample) → AreTold m file from samples p acts → AreTold m file (from + length samples * 64) more p acts → AreTold m file from (samples ++ more) p acts
  told-append file p acts from [] more told later = subst (λ k. AreTold m file k more p acts) (let e : from + 0 * 64 ≡ from = omega arith in e) later
  told-append file p acts from (s ∷ samples) more (one, rest) later = (one, told-append file p acts (from + 64) samples more rest (subst (λ k. AreTold m file k more p acts) (let e : from + suc (length samples) * 64 ≡ from + 64 + length samples * 64 = omega arith in e) later))

-- a lane, where a step says the same of each
some_lane : LaneView
some_lane = lane_of 0 0 None

-- no stripe is none, and one more stripe is one more
module _ (m : MountView) (file : FileId) where
  pub none-counted : (p : PassView) → IsPassOf m p → CountsErrors m file 0 p p 0
  none-counted p of = record { acts = []; samples = []; steps = λ lane. steps-none m file writes_back lane p of; stripes_are = refl; entries = refl; told = tt; found = refl }

  pub more-counted : (stripe : ℕ) (p q r : PassView) (errors more : ℕ) → IsPassOf m p → CountsErrors m file stripe p q errors → LooksOnce m file stripe q r more → CountsErrors m file (stripe + 1) p r (min (errors + more) (2 ^ 64 - 1))
  more-counted stripe p q r errors more of so one =
      let blocks = (file_at m file).blocks in
      let did = (so.steps some_lane).did.acted in
      let same : q.caller ≡ p.caller = acted-caller so.acts p q did in
      let place : stripe * 64 ≡ 0 + length so.samples * 64 = (let l = so.stripes_are in omega (arith, l)) in
      let was = so.found in
      let now = one.found in
      let sum = total-append (λ (s : Sample). s.errors) so.samples (one.sample ∷ []) in
      record {
        acts = so.acts ++ one.acts;
        samples = so.samples ++ one.sample ∷ [];
        steps = λ lane. steps-then m file writes_back lane lane lane p q r so.acts one.acts (so.steps lane) (one.steps lane);
        stripes_are = length-append so.samples (one.sample ∷ []) ∙ ap (λ k. k + 1) so.stripes_are;
        entries =
            own_entries-append so.acts one.acts
            ∙ ap (λ l. l ++ own_entries one.acts) so.entries
            ∙ ap (λ l. looks_from p.caller blocks 0 so.samples ++ l) (one.entries ∙ ap (λ c. look_entry c blocks (stripe * 64) one.sample ∷ []) same ∙ ap (λ k. look_entry p.caller blocks k one.sample ∷ []) place)
            ∙ sym (looks-append p.caller blocks 0 so.samples (one.sample ∷ []));
        told = told-append m file p (so.acts ++ one.acts) 0 so.samples (one.sample ∷ [])
            (all-told m file p p so.acts (so.acts ++ one.acts) (told-left m p so.acts one.acts) 0 so.samples so.told)
            (subst (λ k. ToldErrors m (stripe_at m file k) one.sample p (so.acts ++ one.acts)) place (told-right m p q so.acts one.acts of did (stripe_at m file (stripe * 64)) one.sample one.told), tt);
        found = (let e : min (errors + more) (2 ^ 64 - 1) ≡ min (errors_in so.samples + (one.sample.errors + 0)) (2 ^ 64 - 1) = omega (arith, was, now) in e) ∙ ap (λ k. min k (2 ^ 64 - 1)) (sym sum);
      }

-- looks lend nothing, write nothing and fail nothing
looks-ascend : (caller blocks from at : ℕ) (samples : List Sample) → AsksAscend true at (looks_from caller blocks from samples)
looks-ascend caller blocks from at [] = tt
looks-ascend caller blocks from at (s ∷ samples) = (omega arith, looks-ascend caller blocks (from + 64) at samples)

ascend-then : (caller blocks from at : ℕ) (entries : List Entry) (samples : List Sample) → AsksAscend true at entries → AsksAscend true at (entries ++ looks_from caller blocks from samples)
ascend-then caller blocks from at [] samples first = looks-ascend caller blocks from at samples
ascend-then caller blocks from at (e ∷ entries) samples (one, rest) = (one, ascend-then caller blocks from (asked_to true at e.event e.outcome) entries samples rest)

looks-write-none : (caller blocks from : ℕ) (samples : List Sample) → all_written (looks_from caller blocks from samples) ≡ 0
looks-write-none caller blocks from [] = refl
looks-write-none caller blocks from (s ∷ samples) = (let rest = looks-write-none caller blocks (from + 64) samples in omega (arith, rest))

looks-lend-none : (caller blocks from : ℕ) (samples : List Sample) → total lendings (looks_from caller blocks from samples) ≡ 0
looks-lend-none caller blocks from [] = refl
looks-lend-none caller blocks from (s ∷ samples) = (let rest = looks-lend-none caller blocks (from + 64) samples in omega (arith, rest))

looks-back-none : (caller blocks from : ℕ) (samples : List Sample) → dones_in (looks_from caller blocks from samples) ≡ []
looks-back-none caller blocks from [] = refl
looks-back-none caller blocks from (s ∷ samples) = looks-back-none caller blocks (from + 64) samples

looks-ask-none : (caller blocks from : ℕ) (samples : List Sample) → All AsksNone (looks_from caller blocks from samples)
looks-ask-none caller blocks from [] = All-nil AsksNone
looks-ask-none caller blocks from (s ∷ samples) = All-cons AsksNone (look_entry caller blocks from s) (looks_from caller blocks (from + 64) samples) (λ block most e. absurd (cc e)) (looks-ask-none caller blocks (from + 64) samples)

looks-long : (caller blocks from : ℕ) (samples : List Sample) → length (looks_from caller blocks from samples) ≡ length samples
looks-long caller blocks from [] = refl
looks-long caller blocks from (s ∷ samples) = ap suc (looks-long caller blocks (from + 64) samples)

-- the reply of a sync is lawful
compared-lawful : (blocks count told found : ℕ) → count ≤ blocks → is_count_reply blocks true Sync (compared count told found) ≡ true
compared-lawful blocks count told found few = at (nat_lt told found)
  where
    at : (b : Bool) → is_count_reply blocks true Sync (if b then Err (SyncEio told found) 0 else Ok count Whole) ≡ true
    at true = refl
    at false = ap (λ b. b && true) (le-leb count blocks few)

-- a sync, from the pass with its number on
module _ (m : MountView) (file : FileId) (call all : ℕ) (a b : LaneView) (p start r : PassView) (written : Written) (seen : List ℕ) (first : start ≡ with_call p call) (whole_file : all ≡ (file_at m file).blocks) (back : WritesBack m file true 0 all a b start r written) where
  begun-back : WritesBack m file true 0 (file_at m file).blocks a b (with_call p call) r written
  begun-back = subst (λ v. WritesBack m file true 0 (file_at m file).blocks a b v r written) first (subst (λ n. WritesBack m file true 0 n a b start r written) whole_file back)

  -- it was stopped
  module _ (fault : Fault) (stopped : written.fault ≡ Some fault) where
    pub stopped-syncs : (answer : Answer) → answer.reply ≡ Err fault 0 → answer.bios ≡ written.bios → Syncs m file seen seen a b p r answer
    stopped-syncs answer is sent =
        let w = begun-back in
        let few = w.few in
        let wrote = w.blocks in
        let lent = w.bios in
        let few' = w.few_bios in
        let enough = w.enough_bios in
        let turns = w.turns in
        let two : last_turns written.fault ≡ 2 = ap last_turns stopped in
        let stops : StopsWriteback fault = subst (λ f. IfSome f StopsWriteback) stopped w.stops in
        record {
          acts = Number call ∷ w.acts;
          stopped = Some fault;
          out = out-numbered m file true 0 (file_at m file).blocks a b call p r w.acts (Some fault) w.steps w.ascending w.sought (omega (arith, lent, few')) (omega (arith, lent, wrote, enough)) w.returned (λ none. absurd (cc)) stops (subst (λ f. IfSome f (IsCaused m (own_entries w.acts))) stopped w.cause);
          written = Number call ∷ w.acts;
          looks = [];
          acts_are = sym (append-nil (Number call ∷ w.acts));
          samples = [];
          stripes = refl;
          looked = refl;
          found = tt;
          counts = refl;
          reply = is;
          lawful = λ range. ap (is_count_reply (file_at m file).blocks true Sync) is ∙ reply-counts Sync (file_at m file).blocks written.blocks (Some fault) refl (λ cookie. refl) (omega (arith, few)) stops;
          bios = sent ∙ w.bios;
          turns = omega (arith, sent, turns, two);
        }

    pub stopped-leaves : MayCall m file call p → LeavesPass m file call p r
    stopped-leaves may = call-leaves m file call a b p r begun-back.acts may begun-back.steps

  -- it was not, and looked at all stripes then
  module _ (q : PassView) (found : ℕ) (whole : written.fault ≡ None) (counted : CountsErrors m file (stripes_of (file_at m file).blocks) r q found) where
    both-steps : Steps m file writes_back a b (with_call p call) q (begun-back.acts ++ counted.acts)
    both-steps = steps-then m file writes_back a b b (with_call p call) r q begun-back.acts counted.acts begun-back.steps (counted.steps b)

    pub whole-syncs : IsPassOf m start → (count : ℕ) (told : List ℕ) (answer : Answer) → count ≡ count_of seen file → told ≡ set seen file.0 found → answer.reply ≡ compared written.blocks count found → answer.bios ≡ written.bios → Syncs m file seen told a b p q answer
    whole-syncs of count told answer counts tells is sent =
        let w = begun-back in
        let blocks = (file_at m file).blocks in
        let few = w.few in
        let begun : IsPassOf m (with_call p call) = subst (IsPassOf m) first of in
        let same : r.caller ≡ p.caller = acted-caller w.acts (with_call p call) r w.steps.did.acted in
        let looked : own_entries counted.acts ≡ looks_from p.caller blocks 0 counted.samples = counted.entries ∙ ap (λ c. looks_from c blocks 0 counted.samples) same in
        let entries : own_entries (w.acts ++ counted.acts) ≡ own_entries w.acts ++ looks_from p.caller blocks 0 counted.samples = own_entries-append w.acts counted.acts ∙ ap (λ l. own_entries w.acts ++ l) looked in
        let none = looks-write-none p.caller blocks 0 counted.samples in
        let sum = total-append (λ (e : Entry). written_by e.event e.outcome) (own_entries w.acts) (looks_from p.caller blocks 0 counted.samples) in
        let wrote = w.blocks in
        let many : written.blocks ≡ all_written (own_entries w.acts ++ looks_from p.caller blocks 0 counted.samples) = omega (arith, none, sum, wrote) in
        let unlent : loans_in counted.acts ≡ 0 = ap (total lendings) looked ∙ looks-lend-none p.caller blocks 0 counted.samples in
        let loans = loans-append w.acts counted.acts in
        let bios = w.bios in
        let few' = w.few_bios in
        let enough = w.enough_bios in
        let turns = w.turns in
        let none' : last_turns written.fault ≡ 0 = ap last_turns whole in
        let made = turns-append w.acts counted.acts in
        let refused = refused-append w.acts counted.acts in
        let looks : turns_in counted.acts ≡ length counted.samples = ap length looked ∙ looks-long p.caller blocks 0 counted.samples in
        let stripes = counted.stripes_are in
        let wrote' : written.blocks ≡ all_written (own_entries (w.acts ++ counted.acts)) = many ∙ ap all_written (sym entries) in
        let lent : written.bios ≡ loans_in (w.acts ++ counted.acts) = omega (arith, unlent, loans, bios) in
        let replied : answer.reply ≡ compared written.blocks (count_of seen file) (found_errors counted.samples) = is ∙ ap (λ k. compared written.blocks k found) counts ∙ ap (compared written.blocks (count_of seen file)) counted.found in
        record {
          acts = Number call ∷ (w.acts ++ counted.acts);
          stopped = None;
          out = out-numbered m file true 0 blocks a b call p q (w.acts ++ counted.acts) None both-steps
              (subst (AsksAscend true 0) (sym entries) (ascend-then p.caller blocks 0 0 (own_entries w.acts) counted.samples w.ascending))
              (asks-append m file (with_call p call) [] w.acts counted.acts w.sought (asks-none m file (with_call p call) w.acts counted.acts (subst (All AsksNone) (sym looked) (looks-ask-none p.caller blocks 0 counted.samples))))
              (omega (arith, lent, few')) (omega (arith, lent, wrote', enough))
              (returned-then w.acts counted.acts w.returned (ap length (ap dones_in looked ∙ looks-back-none p.caller blocks 0 counted.samples) ∙ sym unlent))
              (λ none i low high. met-left true m file i (with_call p call) w.acts counted.acts (w.met whole i low high))
              tt tt;
          written = Number call ∷ w.acts;
          looks = counted.acts;
          acts_are = refl;
          samples = counted.samples;
          stripes = counted.stripes_are;
          looked = looked;
          found = all-told m file (with_call p call) p (w.acts ++ counted.acts) (Number call ∷ (w.acts ++ counted.acts)) (told-numbered m p call (w.acts ++ counted.acts)) 0 counted.samples
              (all-told m file r (with_call p call) counted.acts (w.acts ++ counted.acts) (told-right m (with_call p call) r w.acts counted.acts begun w.steps.did.acted) 0 counted.samples counted.told);
          counts = tells ∙ ap (set seen file.0) counted.found;
          reply = replied ∙ ap (λ k. compared k (count_of seen file) (found_errors counted.samples)) wrote';
          lawful = λ range. ap (is_count_reply blocks true Sync) is ∙ compared-lawful blocks written.blocks count found (omega (arith, few));
          bios = sent ∙ lent;
          turns = omega (arith, sent, turns, none', made, refused, looks, stripes);
        }

    pub whole-leaves : MayCall m file call p → LeavesPass m file call p q
    whole-leaves may = call-leaves m file call a b p q (begun-back.acts ++ counted.acts) may both-steps
