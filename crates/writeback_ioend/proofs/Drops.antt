-- Turns that drop clean pages make up a call.
use Rattle.std.proofs.Common.{◌≡◌, ℕ, zero, suc, ◌+◌, ◌-◌, ◌*◌, ◌<◌, ◌≤◌, min, Bool, true, false, List, [], ◌∷◌, ◌++◌, length, Some, refl, sym, ap, subst, ◌∙◌, arith}
use Rattle.std.specs.Prelude.{◌/◌, ◌^◌, IsTrue, slice_get}
use Rattle.std.proofs.lemmas.List.{length-append}
use Rattle.std.proofs.lemmas.List.Elements.{All-nil, All-cons}
use Rattle.iob_base.specs.declared.answer.Answer.{Answer}
use Rattle.iob_base.specs.declared.answer.Reply.TheVariants.{Ok}
use Rattle.iob_base.specs.declared.answer.Stop.TheVariants.{Whole}
use Rattle.iob_base.specs.declared.stamp.FileId.{FileId}
use Rattle.turn_cell.specs.Stakes.{total}
use Rattle.turn_cell.proofs.Sums.{total-append}
use Rattle.range_core.specs.DropCleans.{Dropped, is_droppable}
use Rattle.range_core.specs.EntryCounts.{lendings, one_where}
use Rattle.range_core.specs.EntryStamps.{stamps_in}
use Rattle.range_core.specs.OnRun.{count_on}
use Rattle.range_core.specs.RangeView.{LiesAt}
use Rattle.range_core.specs.declared.entry.Entry.{Entry}
use Rattle.range_core.specs.declared.entry.Event.TheVariants.{DropClean}
use Rattle.range_core.specs.declared.entry.Outcome.TheVariants.{Counted}
use Rattle.mount_parts.specs.MountView.{HasBlock, IsLaidOut, MountView, file_at, stripe_at, stripes_of}
use Rattle.mini_fs.specs.Acts.{Act, own_entries}
use Rattle.mini_fs.specs.Acts.Act.{Turn, Number}
use Rattle.mini_fs.specs.CallActs.{CallActs, IsActAt, loans_in, lock_acts, size_acts, with_call}
use Rattle.mini_fs.specs.Calls.{LeavesPass, MayCall}
use Rattle.mini_fs.specs.PageTurns.{drop_run, entry_by}
use Rattle.mini_fs.specs.PassView.{IsPassOf, PassView, claims_of}
use Rattle.mini_fs.specs.Tickets.{IsTicketOf, KeepsTickets}
use Rattle.mini_fs.specs.Turns.{ReadyAt, TurnsAt}
use Rattle.mini_fs.proofs.ActLemmas.{turned-act}
use Rattle.mini_fs.proofs.Ready.{run-lies}
use Rattle.mini_fs.proofs.CallEnds.{acted-caller, acted-locks, acted-shares, acted-spare}
use Rattle.mini_fs.proofs.CallLemmas.{call-none, call-then, lock_acts-append, own_entries-append, size_acts-append}
use Rattle.writeback_ioend.specs.DropsCache.{DropsCache, DropsStripe, DropsStripes, HasDropped, blocks_from, drops, drops_from, sum_of}

-- no more blocks are counted than the run has
one-few : (t : Bool) → one_where t ≤ 1
one-few true = omega arith
one-few false = omega arith

count-few : {A : Type 0} (p : A → Bool) (low n : ℕ) (xs : List A) → count_on p low n xs ≤ n
count-few p zero zero xs = omega arith
count-few p zero (suc n) [] = omega arith
count-few p zero (suc n) (x ∷ xs) = let one = one-few (p x) in let rest = count-few p zero n xs in omega (arith, one, rest)
count-few p (suc low) n [] = omega arith
count-few p (suc low) n (x ∷ xs) = count-few p low n xs

-- the run of a stripe lies in its range, and one turn drops the clean pages there
module _ (m : MountView) (file : FileId) (stripe run n : ℕ) (p q : PassView) (run_is : run ≡ blocks_from (file_at m file).blocks (stripe * 64)) (below : stripe < stripes_of (file_at m file).blocks) where
  pub stripe-block : HasBlock m file (stripe * 64)
  stripe-block = omega (arith, below)

  pub stripe-ready : IsLaidOut m → ReadyAt (λ opening history claims. LiesAt opening (stripe * 64) run) m p (stripe_at m file (stripe * 64)) (claims_of p)
  stripe-ready laid cell seat stand = run-lies m file laid (stripe * 64) run (omega (arith, run_is, below)) (omega (arith, run_is, below)) (omega (arith, run_is)) cell stand.cell_is

  pub stripe-dropped : TurnsAt (λ opening history before after entry. Dropped (drop_run (stripe * 64) run) (drop_run (stripe * 64) run) before after (claims_of p) (claims_of p) n entry) m (stripe_at m file (stripe * 64)) (claims_of p) (claims_of p) p q → DropsStripe m file stripe p q n
  stripe-dropped t =
      let own = t.turned.entry in
      let act = Turn (stripe_at m file (stripe * 64)) t.turned.others own in
      record {
        acts = act ∷ [];
        did = record {
          acted = (q, turned-act t, refl);
          at_file = All-cons (IsActAt m file) act [] (stripe * 64, stripe-block, refl) (All-nil (IsActAt m file));
          made = All-cons (λ (e : Entry). IsTrue (drops e.event)) own [] (subst (λ (e : Entry). IsTrue (drops e.event)) (sym t.turned.done.entry_is) refl) (All-nil (λ (e : Entry). IsTrue (drops e.event)));
          closed = λ k. refl;
        };
        entries = ap (λ (e : Entry). e ∷ []) (t.turned.done.entry_is ∙ ap (λ k. entry_by p.caller (DropClean (stripe * 64) k) (Counted n)) run_is);
        last = ap (λ (v : PassView). v.last) t.pass_is;
        locks = refl;
        sizes = refl;
        few = subst (λ k. n ≤ k) run_is (subst (λ k. k ≤ run) (sym t.turned.done.count) (count-few is_droppable (stripe * 64 - t.turned.value.first) run t.turned.value.cells));
      }

-- the entries of more stripes stand behind those of the first ones
drops-append : (caller blocks from : ℕ) (counts more : List ℕ) → drops_from caller blocks from (counts ++ more) ≡ drops_from caller blocks from counts ++ drops_from caller blocks (from + length counts * 64) more
drops-append caller blocks from [] more = ap (λ k. drops_from caller blocks k more) (let e : from ≡ from + 0 * 64 = omega arith in e)
drops-append caller blocks from (n ∷ counts) more =
    ap (λ l. entry_by caller (DropClean from (blocks_from blocks from)) (Counted n) ∷ l)
    (drops-append caller blocks (from + 64) counts more
    ∙ ap (λ k. drops_from caller blocks (from + 64) counts ++ drops_from caller blocks k more) (let e : from + 64 + length counts * 64 ≡ from + suc (length counts) * 64 = omega arith in e))

-- no stripe is none, and one more stripe is one more
module _ (m : MountView) (file : FileId) where
  pub none-dropped : (p : PassView) → DropsStripes m file 0 p p 0
  none-dropped p = record { acts = []; counts = []; did = call-none m file drops p; stripes_are = refl; entries = refl; last = refl; locks = refl; sizes = refl; sum = refl; few = omega arith }

  pub more-dropped : (stripe : ℕ) (p q r : PassView) (pages n : ℕ) → stripe * 64 < (file_at m file).blocks → DropsStripes m file stripe p q pages → DropsStripe m file stripe q r n → DropsStripes m file (stripe + 1) p r (pages + n)
  more-dropped stripe p q r pages n below so one =
      let blocks = (file_at m file).blocks in
      let same = acted-caller so.acts p q so.did.acted in
      record {
        acts = so.acts ++ one.acts;
        counts = so.counts ++ n ∷ [];
        did = call-then m file drops p q r so.acts one.acts so.did one.did;
        stripes_are = length-append so.counts (n ∷ []) ∙ ap (λ k. k + 1) so.stripes_are;
        entries =
            own_entries-append so.acts one.acts
            ∙ ap (λ l. l ++ own_entries one.acts) so.entries
            ∙ ap (λ l. drops_from p.caller blocks 0 so.counts ++ l) (one.entries ∙ ap (λ c. drops_from c blocks (stripe * 64) (n ∷ [])) same ∙ ap (λ k. drops_from p.caller blocks k (n ∷ [])) (let e : stripe * 64 ≡ 0 + length so.counts * 64 = (let l = so.stripes_are in omega (arith, l)) in e))
            ∙ sym (drops-append p.caller blocks 0 so.counts (n ∷ []));
        last = one.last ∙ so.last;
        locks = lock_acts-append so.acts one.acts ∙ ap (λ l. l ++ lock_acts one.acts) so.locks ∙ one.locks;
        sizes = size_acts-append so.acts one.acts ∙ ap (λ l. l ++ size_acts one.acts) so.sizes ∙ one.sizes;
        sum = ap (λ k. k + n) so.sum ∙ (let e : sum_of so.counts + n ≡ sum_of so.counts + sum_of (n ∷ []) = omega arith in e) ∙ sym (total-append (λ k. k) so.counts (n ∷ []));
        few = let a = so.few in let b = one.few in omega (arith, a, b, below);
      }

-- the sum of the pages is no more than the blocks of a file
pub pages-fit : (stripe blocks pages n : ℕ) → blocks ≤ 65536 → pages ≤ min (stripe * 64) blocks → n ≤ blocks_from blocks (stripe * 64) → pages + n < 2 ^ 64
pages-fit stripe blocks pages n few so one = omega (arith, few, so, one)

-- each stripe has its entry
entry-at : (caller blocks from : ℕ) (counts : List ℕ) (i : ℕ) → i < length counts → (n : ℕ) × (slice_get (drops_from caller blocks from counts) i ≡ Some (entry_by caller (DropClean (from + i * 64) (blocks_from blocks (from + i * 64))) (Counted n)))
entry-at caller blocks from [] i below = absurd (omega arith)
entry-at caller blocks from (n ∷ counts) zero below = (n, ap (λ k. Some (entry_by caller (DropClean k (blocks_from blocks k)) (Counted n))) (let e : from ≡ from + 0 * 64 = omega arith in e))
entry-at caller blocks from (n ∷ counts) (suc i) below =
    let rest = entry-at caller blocks (from + 64) counts i (omega arith) in
    (rest.0, rest.1 ∙ ap (λ k. Some (entry_by caller (DropClean k (blocks_from blocks k)) (Counted rest.0))) (let e : from + 64 + i * 64 ≡ from + suc i * 64 = omega arith in e))

drops-no-stamps : (size caller blocks from : ℕ) (counts : List ℕ) → stamps_in size (drops_from caller blocks from counts) ≡ []
drops-no-stamps size caller blocks from [] = refl
drops-no-stamps size caller blocks from (n ∷ counts) = drops-no-stamps size caller blocks (from + 64) counts

drops-no-loans : (caller blocks from : ℕ) (counts : List ℕ) → total lendings (drops_from caller blocks from counts) ≡ 0
drops-no-loans caller blocks from [] = refl
drops-no-loans caller blocks from (n ∷ counts) = (let rest = drops-no-loans caller blocks (from + 64) counts in omega (arith, rest))

-- each block of the file is in the run of the entry of its stripe
block-dropped : (caller blocks : ℕ) (counts : List ℕ) (b : ℕ) → length counts ≡ stripes_of blocks → b < blocks → HasDropped caller b (drops_from caller blocks 0 counts)
block-dropped caller blocks counts b stripes below =
    let i = b / 64 in
    let here : i < length counts = omega (arith, stripes, below) in
    let at = entry-at caller blocks 0 counts i here in
    (i, _, at.1, record { from = 0 + i * 64; blocks = blocks_from blocks (0 + i * 64); count = at.0; entry_is = refl; low = omega arith; high = omega (arith, below) })

-- the call: its number, and all stripes
module _ (m : MountView) (file : FileId) (call : ℕ) (p q r : PassView) (pages : ℕ) where
  abbrev all_acts : DropsStripes m file (stripes_of (file_at m file).blocks) q r pages → List Act
  all_acts so = Number call ∷ so.acts

  numbered-did : q ≡ with_call p call → (so : DropsStripes m file (stripes_of (file_at m file).blocks) q r pages) → CallActs m file drops p r (all_acts so)
  numbered-did first so = call-then m file drops p q r (Number call ∷ []) so.acts (record { acted = (q, first, refl); at_file = All-cons (IsActAt m file) (Number call) [] tt (All-nil (IsActAt m file)); made = All-nil (λ (e : Entry). IsTrue (drops e.event)); closed = λ k. refl }) so.did

  pub cache-dropped : (answer : Answer) → q ≡ with_call p call → DropsStripes m file (stripes_of (file_at m file).blocks) q r pages → answer ≡ record { reply = Ok pages Whole; bios = 0 } → DropsCache m file p r answer
  cache-dropped answer first so is =
      let blocks = (file_at m file).blocks in
      let caller : q.caller ≡ p.caller = ap (λ (v : PassView). v.caller) first in
      let entries : own_entries so.acts ≡ drops_from p.caller blocks 0 so.counts = so.entries ∙ ap (λ c. drops_from c blocks 0 so.counts) caller in
      let none : loans_in so.acts ≡ 0 = ap (total lendings) entries ∙ drops-no-loans p.caller blocks 0 so.counts in
      record {
        acts = all_acts so;
        counts = so.counts;
        did = numbered-did first so;
        stripes = so.stripes_are;
        entries = entries;
        all = λ b has. subst (HasDropped p.caller b) (sym entries) (block-dropped p.caller blocks so.counts b so.stripes_are has);
        stamps = ap (stamps_in m.geometry.block_size) entries ∙ drops-no-stamps m.geometry.block_size p.caller blocks 0 so.counts;
        bios = ap (λ (a : Answer). a.bios) is ∙ ap (λ k. min k (2 ^ 64 - 1)) (sym none);
        locks = so.locks;
        sizes = so.sizes;
        reply = ap (λ (a : Answer). a.reply) is ∙ ap (λ k. Ok k Whole) so.sum;
        few = let f = so.few in subst (λ k. k ≤ blocks) so.sum (omega (arith, f));
      }

  pub cache-leaves : MayCall m file call p → q ≡ with_call p call → (so : DropsStripes m file (stripes_of (file_at m file).blocks) q r pages) → IsPassOf m r → KeepsTickets q r → LeavesPass m file call p r
  cache-leaves may first so of tickets =
      let did = numbered-did first so in
      record {
        of = of;
        last = so.last ∙ ap (λ (v : PassView). v.last) first;
        caller = acted-caller (all_acts so) p r did.acted;
        spare = acted-spare (all_acts so) p r did.acted;
        shares = acted-shares (all_acts so) p r did.acted did.closed;
        free = (may.free.0, ap (λ l. slice_get l file.0) (acted-locks (all_acts so) p r did.acted so.locks) ∙ may.free.1);
        tickets = λ t is. tickets t (subst (λ v. IsTicketOf v t) (sym first) (record { caller = is.caller; seat = is.seat; here = is.here; loan = is.loan }));
      }
