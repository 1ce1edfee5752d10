-- A call that has the blocks of its range for itself reads each of them into the cache at most once.
use Rattle.std.proofs.Common.{◌≡◌, ◌⊎◌, inl, inr, ℕ, zero, suc, ◌+◌, ◌<◌, ◌≤◌, ◌==◌, ◌&&◌, Bool, true, false, not, if◌then◌else◌, List, [], ◌∷◌, ◌++◌, Some, None, append_assoc, refl, sym, ap, ◌∙◌, subst, arith}
use Rattle.std.specs.Prelude.{All, IsTrue, is_some, is_none, Option}
use Rattle.std.proofs.lemmas.Bool.{and_parts, false≢true}
use Rattle.std.proofs.lemmas.List.Elements.{All-cons, All-head, All-nil, All-tail}
use Rattle.iob_base.specs.declared.stamp.FileId.{FileId}
use Rattle.turn_cell.specs.Stakes.{total}
use Rattle.range_core.specs.BlockStates.{BlockState, lent_for, read_back, state_after, state_by}
use Rattle.range_core.specs.EntryCounts.{lendings, one_where}
use Rattle.range_core.specs.Happened.{found_by, is_at_home, is_cold_in, lawful_from}
use Rattle.range_core.specs.Kinds.{is_delalloc, is_mapped}
use Rattle.range_core.specs.Spots.{in_run, is_met}
use Rattle.range_core.specs.declared.entry.Entry.{Entry}
use Rattle.range_core.specs.declared.entry.Event.{Event}
use Rattle.range_core.specs.declared.entry.Event.TheVariants as event
use Rattle.range_core.specs.declared.entry.Outcome.{Outcome}
use Rattle.range_core.specs.declared.entry.Outcome.TheVariants as outcome
use Rattle.range_core.specs.declared.lending.Lender.TheVariants.{Reading}
use Rattle.mount_parts.specs.MountView.{MountView, stripe_at}
use Rattle.mini_fs.specs.Acts.{Act, made_in, own_entries}
use Rattle.mini_fs.specs.Acts.Act.{Turn, SizeTurn, Busy, Open, Close, Take, Refused, Leave, Run, Note, Number}
use Rattle.mini_fs.specs.CallActs.{loans_in}
use Rattle.mini_fs.specs.PassView.{PassView}
use Rattle.call_parts.specs.Budgets.{Bounds, FallsBack, HasHappenedTo, IsAlone, IsLentAmong, IsReadBelow, LendsAmong, ReadBelow, how_many, keeps_read, lends_from, loans_from}
use Rattle.call_parts.specs.Reads.{seen_at}

-- a block needs no read
abbrev NeedsNone : BlockState → Type 0
NeedsNone s = (s.uptodate ≡ true) ⊎ (is_mapped s.kind ≡ false)

abbrev IsOut : BlockState → Type 0
IsOut s = is_some s.away ≡ true

-- a run that was lent has some block
abbrev IsSome : Event → Outcome → Type 0
IsSome (event.LendRead block most) (outcome.Lending ticket blocks) = 0 < blocks
IsSome _ _ = Unit {0}

abbrev SomeLent : List Entry → Type 0
SomeLent entries = All (λ (e : Entry). IsSome e.event e.outcome) entries

choose : (P : BlockState → Type 0) (t : Bool) (s u : BlockState) → (t ≡ true → P s) → P u → P (if t then s else u)
choose P true s u here there = here refl
choose P false s u here there = there

not-cold : (s : BlockState) → NeedsNone s → is_cold_in s ≡ true → ⊥
not-cold s (inl up) cold = (let p = and_parts (is_mapped s.kind) _ cold in let q = and_parts (is_at_home s) (not s.uptodate) p.1 in false≢true (sym (ap not up) ∙ q.1))
not-cold s (inr other) cold = (let p = and_parts (is_mapped s.kind) _ cold in false≢true (sym other ∙ p.0))

at-home-not-out : (s : BlockState) → IsOut s → is_at_home s ≡ true → ⊥
at-home-not-out s out home = go s.away out home
  where
    go : {A : Type 0} (a : Option A) → is_some a ≡ true → is_none a ≡ true → ⊥
    go None out home = false≢true out
    go (Some x) out home = false≢true home

cold-not-out : (s : BlockState) → IsOut s → is_cold_in s ≡ true → ⊥
cold-not-out s out cold = at-home-not-out s out (and_parts (is_at_home s) (not s.uptodate) (and_parts (is_mapped s.kind) _ cold).1).0

read-back-none : (failed : Bool) (s : BlockState) → NeedsNone s → NeedsNone (read_back failed s)
read-back-none true s needs = needs
read-back-none false s needs = inl refl

-- events keep a block so that needs no read
needs-none-stays : (size b : ℕ) (e : Event) (o : Outcome) (s : BlockState) → IsTrue (keeps_read e) → NeedsNone s → NeedsNone (state_by size b e o s)
needs-none-stays size b (event.Reserve seen blocks) (outcome.Sampled sample) s keeps needs = choose NeedsNone (in_run sample.extent.block sample.extent.length b) _ s (λ is. inr refl) needs
needs-none-stays size b (event.Unreserve block blocks) (outcome.Counted n) s keeps needs = choose NeedsNone (in_run block blocks b && (is_delalloc s.kind && not s.dirty)) _ s (λ is. inr refl) needs
needs-none-stays size b (event.LendRead block most) (outcome.Lending ticket n) s keeps needs = choose NeedsNone (in_run block n b) _ s (λ is. needs) needs
needs-none-stays size b (event.Fetch by from to) outcome.Finished s keeps needs = choose NeedsNone (is_met size from to b) _ s (λ is. inl refl) needs
needs-none-stays size b (event.FillBack ticket block n done) outcome.Finished s keeps needs = choose NeedsNone (in_run block n b) _ s (λ is. read-back-none done.failed s needs) needs
needs-none-stays size b (event.Store by seen from to bytes) outcome.Finished s keeps needs = choose NeedsNone (is_met size from to b) _ s (λ is. inl refl) needs
needs-none-stays size b (event.StoreZeros by seen from to) outcome.Finished s keeps needs = choose NeedsNone _ _ s (λ is. inl refl) needs
needs-none-stays size b (event.Wipe by block blocks) (outcome.Counted n) s keeps needs = choose NeedsNone (in_run block blocks b) _ s (λ is. inr refl) needs
needs-none-stays size b (event.Attach block blocks) o s keeps needs = absurd (false≢true keeps)
needs-none-stays size b (event.Preallocate block blocks) o s keeps needs = absurd (false≢true keeps)
needs-none-stays size b (event.LendWriteback block most) o s keeps needs = absurd (false≢true keeps)
needs-none-stays size b (event.WrittenBack ticket block kind n done) o s keeps needs = absurd (false≢true keeps)
needs-none-stays size b (event.DropClean block blocks) o s keeps needs = absurd (false≢true keeps)
needs-none-stays size b (event.LendDirect by seen op block n) o s keeps needs = absurd (false≢true keeps)
needs-none-stays size b (event.LendPart by seen block from to) o s keeps needs = absurd (false≢true keeps)
needs-none-stays size b (event.DirectBack by op ticket block kind pages done) o s keeps needs = absurd (false≢true keeps)
needs-none-stays size b (event.PartBack by ticket block kind from to bytes done) o s keeps needs = absurd (false≢true keeps)
needs-none-stays size b (event.DirectNow by block blocks) o s keeps needs = absurd (false≢true keeps)
needs-none-stays size b (event.DaxGet by seen from to) o s keeps needs = absurd (false≢true keeps)
needs-none-stays size b (event.DaxPut by seen from to bytes) o s keeps needs = absurd (false≢true keeps)
needs-none-stays size b (event.DaxZero by seen from to) o s keeps needs = absurd (false≢true keeps)
needs-none-stays size b e o s keeps needs = needs

-- a block lies in the run that begins with it
begins-in : (block n b : ℕ) → 0 < n → (block == b) ≡ true → in_run block n b ≡ true
begins-in block n b some is = grind (arith, some, is)

cold-in-run : (t u : Bool) → t ≡ true → (if t then u else true) ≡ true → u ≡ true
cold-in-run true u is found = found
cold-in-run false u is found = absurd (false≢true is)

-- the first block of a run that was lent to be read is cold
lent-cold : (size block most ticket n b : ℕ) (s : BlockState) → 0 < n → (block == b) ≡ true → found_by size b (event.LendRead block most) (outcome.Lending ticket n) s ≡ true → is_cold_in s ≡ true
lent-cold size block most ticket n b s some is found = (and_parts (is_cold_in s) (not s.dirty) (cold-in-run (in_run block n b) _ (begins-in block n b some is) found)).0

one-or-none : (t : Bool) → (t ≡ true → ⊥) → one_where t ≡ 0
one-or-none true never = absurd (never refl)
one-or-none false never = refl

-- a block that is not cold is not lent to be read
not-lent : (size b : ℕ) (e : Event) (o : Outcome) (s : BlockState) → IsSome e o → (is_cold_in s ≡ true → ⊥) → found_by size b e o s ≡ true → one_where (lends_from b e o) ≡ 0
not-lent size b (event.LendRead block most) (outcome.Lending ticket n) s some warm found = one-or-none (block == b) (λ is. warm (lent-cold size block most ticket n b s some is found))
not-lent size b e o s some warm found = refl

lawful-parts : (size b : ℕ) (s : BlockState) (e : Entry) (entries : List Entry) → lawful_from size b s (e ∷ entries) ≡ true → (found_by size b e.event e.outcome s ≡ true) × (lawful_from size b (state_after size b s e) entries ≡ true)
lawful-parts size b s e entries lawful = and_parts (found_by size b e.event e.outcome s) (lawful_from size b (state_after size b s e) entries) lawful

abbrev KeepRead : List Entry → Type 0
KeepRead entries = All (λ (e : Entry). IsTrue (keeps_read e.event)) entries

-- a block that needs no read is lent by no later entry to be read
none-of-read : (size b : ℕ) (s : BlockState) (entries : List Entry) → NeedsNone s → KeepRead entries → SomeLent entries → lawful_from size b s entries ≡ true → loans_from b entries ≡ 0
none-of-read size b s [] needs keep some lawful = refl
none-of-read size b s (e ∷ entries) needs keep some lawful =
    let p = lawful-parts size b s e entries lawful in
    let k = All-head (λ (e : Entry). IsTrue (keeps_read e.event)) e entries keep in
    let one = not-lent size b e.event e.outcome s (All-head (λ (e : Entry). IsSome e.event e.outcome) e entries some) (not-cold s needs) p.0 in
    let rest = none-of-read size b (state_after size b s e) entries (needs-none-stays size b e.event e.outcome s k needs) (All-tail (λ (e : Entry). IsTrue (keeps_read e.event)) e entries keep) (All-tail (λ (e : Entry). IsSome e.event e.outcome) e entries some) p.1 in
    omega (arith, one, rest)

-- a block at or behind a bound is not lent by entries that read below it
below-one : (below b : ℕ) (e : Event) (o : Outcome) → below ≤ b → IsReadBelow below e o → one_where (lends_from b e o) ≡ 0
below-one below b (event.LendRead block most) (outcome.Lending ticket n) low is = one-or-none (block == b) (λ same. grind (arith, low, is, same))
below-one below b e o low is = refl

none-below : (below b : ℕ) (entries : List Entry) → below ≤ b → ReadBelow below entries → loans_from b entries ≡ 0
none-below below b [] low all = refl
none-below below b (e ∷ entries) low all =
    let one = below-one below b e.event e.outcome low (All-head (λ (e : Entry). IsReadBelow below e.event e.outcome) e entries all) in
    let rest = none-below below b entries low (All-tail (λ (e : Entry). IsReadBelow below e.event e.outcome) e entries all) in
    omega (arith, one, rest)

-- what an entry leaves of a block that is out: it is still out, or it was read and needs no read, or its read failed and nothing at or behind it is read by later entries
abbrev LeavesOut : BlockState → ℕ → List Entry → Type 0
LeavesOut s b later = IsOut s ⊎ (NeedsNone s ⊎ ((below : ℕ) × (below ≤ b) × ReadBelow below later))

out-unless-in : (P : BlockState → Type 0) (t u : Bool) (s next : BlockState) → (u ≡ true → ⊥) → P s → (if t then u else true) ≡ true → P (if t then next else s)
out-unless-in P true u s next not-so is found = absurd (not-so found)
out-unless-in P false u s next not-so is found = is

run-low : (block n b : ℕ) → in_run block n b ≡ true → block ≤ b
run-low block n b is = grind (arith, is)

came-back : (failed : Bool) (s : BlockState) (block b : ℕ) (later : List Entry) → block ≤ b → (failed ≡ true → ReadBelow block later) → LeavesOut (read_back failed s) b later
came-back true s block b later low bound = inr (inr (block, low, bound refl))
came-back false s block b later low bound = inr (inl (inl refl))

back-or-out : (t failed : Bool) (s : BlockState) (block b : ℕ) (later : List Entry) → IsOut s → (t ≡ true → block ≤ b) → (failed ≡ true → ReadBelow block later) → LeavesOut (if t then read_back failed s else s) b later
back-or-out true failed s block b later out low bound = came-back failed s block b later (low refl) bound
back-or-out false failed s block b later out low bound = inl out

out-stays : (size b : ℕ) (e : Event) (o : Outcome) (s : BlockState) (later : List Entry) → IsTrue (keeps_read e) → IsOut s → Bounds e later → found_by size b e o s ≡ true → LeavesOut (state_by size b e o s) b later
out-stays size b (event.Reserve seen blocks) (outcome.Sampled sample) s later keeps out bound found = inl (choose IsOut (in_run sample.extent.block sample.extent.length b) _ s (λ is. out) out)
out-stays size b (event.Unreserve block blocks) (outcome.Counted n) s later keeps out bound found = inl (choose IsOut (in_run block blocks b && (is_delalloc s.kind && not s.dirty)) _ s (λ is. out) out)
out-stays size b (event.LendRead block most) (outcome.Lending ticket n) s later keeps out bound found =
    inl (out-unless-in IsOut (in_run block n b) (is_cold_in s && not s.dirty) s _ (λ is. cold-not-out s out (and_parts (is_cold_in s) (not s.dirty) is).0) out found)
out-stays size b (event.Fetch by from to) outcome.Finished s later keeps out bound found = inl (choose IsOut (is_met size from to b) _ s (λ is. out) out)
out-stays size b (event.FillBack ticket block n done) outcome.Finished s later keeps out bound found = back-or-out (in_run block n b) done.failed s block b later out (run-low block n b) bound
out-stays size b (event.Store by seen from to bytes) outcome.Finished s later keeps out bound found = inl (choose IsOut (is_met size from to b) _ s (λ is. out) out)
out-stays size b (event.StoreZeros by seen from to) outcome.Finished s later keeps out bound found = inl (choose IsOut _ _ s (λ is. out) out)
out-stays size b (event.Wipe by block blocks) (outcome.Counted n) s later keeps out bound found = inl (out-unless-in IsOut (in_run block blocks b) (is_at_home s) s _ (at-home-not-out s out) out found)
out-stays size b (event.Attach block blocks) o s later keeps out bound found = absurd (false≢true keeps)
out-stays size b (event.Preallocate block blocks) o s later keeps out bound found = absurd (false≢true keeps)
out-stays size b (event.LendWriteback block most) o s later keeps out bound found = absurd (false≢true keeps)
out-stays size b (event.WrittenBack ticket block kind n done) o s later keeps out bound found = absurd (false≢true keeps)
out-stays size b (event.DropClean block blocks) o s later keeps out bound found = absurd (false≢true keeps)
out-stays size b (event.LendDirect by seen op block n) o s later keeps out bound found = absurd (false≢true keeps)
out-stays size b (event.LendPart by seen block from to) o s later keeps out bound found = absurd (false≢true keeps)
out-stays size b (event.DirectBack by op ticket block kind pages done) o s later keeps out bound found = absurd (false≢true keeps)
out-stays size b (event.PartBack by ticket block kind from to bytes done) o s later keeps out bound found = absurd (false≢true keeps)
out-stays size b (event.DirectNow by block blocks) o s later keeps out bound found = absurd (false≢true keeps)
out-stays size b (event.DaxGet by seen from to) o s later keeps out bound found = absurd (false≢true keeps)
out-stays size b (event.DaxPut by seen from to bytes) o s later keeps out bound found = absurd (false≢true keeps)
out-stays size b (event.DaxZero by seen from to) o s later keeps out bound found = absurd (false≢true keeps)
out-stays size b e o s later keeps out bound found = inl out

-- a block that is out is lent by no later entry to be read
none-of-out : (size b : ℕ) (s : BlockState) (entries : List Entry) → LeavesOut s b entries → KeepRead entries → SomeLent entries → FallsBack entries → lawful_from size b s entries ≡ true → loans_from b entries ≡ 0
none-of-out size b s entries (inr (inl needs)) keep some falls lawful = none-of-read size b s entries needs keep some lawful
none-of-out size b s entries (inr (inr (below, low, all))) keep some falls lawful = none-below below b entries low all
none-of-out size b s [] (inl out) keep some falls lawful = refl
none-of-out size b s (e ∷ entries) (inl out) keep some falls lawful =
    let p = lawful-parts size b s e entries lawful in
    let k = All-head (λ (e : Entry). IsTrue (keeps_read e.event)) e entries keep in
    let one = not-lent size b e.event e.outcome s (All-head (λ (e : Entry). IsSome e.event e.outcome) e entries some) (cold-not-out s out) p.0 in
    let rest = none-of-out size b (state_after size b s e) entries (out-stays size b e.event e.outcome s entries k out falls.0 p.0) (All-tail (λ (e : Entry). IsTrue (keeps_read e.event)) e entries keep) (All-tail (λ (e : Entry). IsSome e.event e.outcome) e entries some) falls.1 p.1 in
    omega (arith, one, rest)

-- after a loan of a run that begins with it, a block is out
out-after-loan : (size b : ℕ) (e : Event) (o : Outcome) (s : BlockState) → IsSome e o → lends_from b e o ≡ true → IsOut (state_by size b e o s)
out-after-loan size b (event.LendRead block most) (outcome.Lending ticket n) s some is = subst (λ t. IsOut (if t then lent_for Reading ticket s else s)) (sym (begins-in block n b some is)) refl
out-after-loan size b e o s some is = absurd (false≢true is)

one-then : (t : Bool) (n : ℕ) → (t ≡ true → n ≡ 0) → n ≤ 1 → one_where t + n ≤ 1
one-then true n none few = let e = none refl in omega (arith, e)
one-then false n none few = omega (arith, few)

-- a block is lent at most once to be read
one-loan : (size b : ℕ) (s : BlockState) (entries : List Entry) → KeepRead entries → SomeLent entries → FallsBack entries → lawful_from size b s entries ≡ true → loans_from b entries ≤ 1
one-loan size b s [] keep some falls lawful = omega arith
one-loan size b s (e ∷ entries) keep some falls lawful =
    let p = lawful-parts size b s e entries lawful in
    let keep' = All-tail (λ (e : Entry). IsTrue (keeps_read e.event)) e entries keep in
    let some' = All-tail (λ (e : Entry). IsSome e.event e.outcome) e entries some in
    let here = All-head (λ (e : Entry). IsSome e.event e.outcome) e entries some in
    one-then (lends_from b e.event e.outcome) (loans_from b entries)
    (λ is. none-of-out size b (state_after size b s e) entries (inl (out-after-loan size b e.event e.outcome s here is)) keep' some' falls.1 p.1)
    (one-loan size b (state_after size b s e) entries keep' some' falls.1 p.1)

-- the second part of a lawful history is lawful from what the first leaves
lawful-rest : (size b : ℕ) (s : BlockState) (first later : List Entry) → lawful_from size b s (first ++ later) ≡ true → (t : BlockState) × (lawful_from size b t later ≡ true)
lawful-rest size b s [] later lawful = (s, lawful)
lawful-rest size b s (e ∷ first) later lawful = lawful-rest size b (state_after size b s e) first later (lawful-parts size b s e (first ++ later) lawful).1

-- sums over n numbers from one on
abbrev sum_over : (ℕ → ℕ) → ℕ → ℕ → ℕ
sum_over f low zero = 0
sum_over f low (suc n) = f low + sum_over f (suc low) n

sum-le : (f g : ℕ → ℕ) (low n : ℕ) → ((b : ℕ) → low ≤ b → b < low + n → f b ≤ g b) → sum_over f low n ≤ sum_over g low n
sum-le f g low zero le = omega arith
sum-le f g low (suc n) le =
    let one = le low (omega arith) (omega arith) in
    let rest = sum-le f g (suc low) n (λ b from to. le b (omega (arith, from)) (omega (arith, to))) in
    omega (arith, one, rest)

sum-add : (f g : ℕ → ℕ) (low n : ℕ) → sum_over (λ b. f b + g b) low n ≡ sum_over f low n + sum_over g low n
sum-add f g low zero = refl
sum-add f g low (suc n) = let rest = sum-add f g (suc low) n in omega (arith, rest)

at-or-behind : (low b : ℕ) → low ≤ b → (low ≡ b) ⊎ (suc low ≤ b)
at-or-behind zero zero le = inl refl
at-or-behind zero (suc b) le = inr (omega arith)
at-or-behind (suc low) zero le = absurd (omega (arith, le))
at-or-behind (suc low) (suc b) le = shifted (at-or-behind low b (omega (arith, le)))
  where
    shifted : (low ≡ b) ⊎ (suc low ≤ b) → (suc low ≡ suc b) ⊎ (suc (suc low) ≤ suc b)
    shifted (inl same) = inl (ap suc same)
    shifted (inr more) = inr (omega (arith, more))

has-part : (f : ℕ → ℕ) (low b rest : ℕ) → (low ≡ b) ⊎ (suc low ≤ b) → (suc low ≤ b → f b ≤ rest) → f b ≤ f low + rest
has-part f low b rest (inl same) behind = let e : f low ≡ f b = ap f same in omega (arith, e)
has-part f low b rest (inr more) behind = let le = behind more in omega (arith, le)

sum-has : (f : ℕ → ℕ) (low n b : ℕ) → low ≤ b → b < low + n → f b ≤ sum_over f low n
sum-has f low zero b from to = absurd (omega (arith, from, to))
sum-has f low (suc n) b from to = has-part f low b (sum_over f (suc low) n) (at-or-behind low b from) (λ more. sum-has f (suc low) n b more (omega (arith, to)))

-- a number where this is so
abbrev when : Bool → ℕ → ℕ
when true n = n
when false n = 0

when-add : (t : Bool) (a b : ℕ) → when t (a + b) ≡ when t a + when t b
when-add true a b = refl
when-add false a b = refl

when-one : (t : Bool) (n : ℕ) → n ≤ 1 → when t n ≤ one_where t
when-one true n few = few
when-one false n few = omega arith

how-many-is : (so : ℕ → Bool) (low n : ℕ) → sum_over (λ b. one_where (so b)) low n ≡ how_many so low n
how-many-is so low zero = refl
how-many-is so low (suc n) = ap (λ k. one_where (so low) + k) (how-many-is so (suc low) n)

-- entries picked from others, in their order
abbrev Picked : List Entry → List Entry → Type 0
Picked made [] = made ≡ []
Picked made (e ∷ own) = Picked made own ⊎ ((rest : List Entry) × (made ≡ e ∷ rest) × Picked rest own)

pick : (t : Bool) (own : Entry) (made entries : List Entry) → Picked made entries → Picked ((if t then own ∷ [] else []) ++ made) (own ∷ entries)
pick true own made entries from = inr (made, refl, from)
pick false own made entries from = inl from

picked : (k : ℕ) (acts : List Act) → Picked (made_in k acts) (own_entries acts)
picked k [] = refl
picked k (Turn stripe others own ∷ acts) = pick (stripe == k) own (made_in k acts) (own_entries acts) (picked k acts)
picked k (SizeTurn cell others own ∷ acts) = picked k acts
picked k (Busy stripe word ∷ acts) = picked k acts
picked k (Open stripe ∷ acts) = picked k acts
picked k (Close stripe ∷ acts) = picked k acts
picked k (Take f c was now ∷ acts) = picked k acts
picked k (Refused f c was now ∷ acts) = picked k acts
picked k (Leave f c was now ∷ acts) = picked k acts
picked k (Run bios ∷ acts) = picked k acts
picked k (Note begun ∷ acts) = picked k acts
picked k (Number call ∷ acts) = picked k acts

all-picked : (P : Entry → Type 0) (made own : List Entry) → Picked made own → All P own → All P made
all-picked P made [] from all = subst (All P) (sym from) (All-nil P)
all-picked P made (e ∷ own) (inl from) all = all-picked P made own from (All-tail P e own all)
all-picked P made (e ∷ own) (inr (rest, is, from)) all = subst (All P) (sym is) (All-cons P e rest (All-head P e own all) (all-picked P rest own from (All-tail P e own all)))

bounds-picked : (e : Event) (made own : List Entry) → Picked made own → Bounds e own → Bounds e made
bounds-picked (event.FillBack ticket block n done) made own from bound = λ failed. all-picked (λ (e : Entry). IsReadBelow block e.event e.outcome) made own from (bound failed)
bounds-picked e made own from bound = tt

falls-picked : (made own : List Entry) → Picked made own → FallsBack own → FallsBack made
falls-picked made [] from falls = subst FallsBack (sym from) tt
falls-picked made (e ∷ own) (inl from) falls = falls-picked made own from falls.1
falls-picked made (e ∷ own) (inr (rest, is, from)) falls = subst FallsBack (sym is) (bounds-picked e.event rest own from falls.0, falls-picked rest own from falls.1)

module _ (m : MountView) (file : FileId) (so : ℕ → Bool) (low n : ℕ) where
  -- the loans of these blocks, all together
  abbrev loans_among : List Entry → ℕ
  loans_among entries = sum_over (λ b. when (so b) (loans_from b entries)) low n

  among-one : (e : Entry) (entries : List Entry) → sum_over (λ b. when (so b) (one_where (lends_from b e.event e.outcome))) low n + loans_among entries ≡ loans_among (e ∷ entries)
  among-one e entries =
      sym (sum-add (λ b. when (so b) (one_where (lends_from b e.event e.outcome))) (λ b. when (so b) (loans_from b entries)) low n)
      ∙ sum-same _ _ low n (λ b. sym (when-add (so b) (one_where (lends_from b e.event e.outcome)) (loans_from b entries)))
    where
      sum-same : (f g : ℕ → ℕ) (low n : ℕ) → ((b : ℕ) → f b ≡ g b) → sum_over f low n ≡ sum_over g low n
      sum-same f g low zero same = refl
      sum-same f g low (suc n) same = let one = same low in let rest = sum-same f g (suc low) n same in omega (arith, one, rest)

  counted-one : (block n' : ℕ) → so block ≡ true → 1 ≤ when (so block) (one_where (block == block))
  counted-one block n' is = subst (λ t. 1 ≤ when t (one_where (block == block))) (sym is) (subst (λ t. 1 ≤ one_where t) (sym (let e : (block == block) ≡ true = grind arith in e)) (omega arith))

  -- an entry that lent blocks lent one of these
  lent-one : (stripe : ℕ) (e : Event) (o : Outcome) → IsLentAmong m file so low n stripe e o → (caller : ℕ) → lendings (record { caller = caller; event = e; outcome = o }) ≤ sum_over (λ b. when (so b) (one_where (lends_from b e o))) low n
  lent-one stripe (event.LendRead block most) (outcome.Lending ticket blocks) (from, to, is, at, some) caller =
      let one = counted-one block 0 is in
      let has = sum-has (λ b. when (so b) (one_where (block == b))) low n block from to in
      omega (arith, one, has)
  lent-one stripe e (outcome.Lending ticket blocks) among caller = absurd among
  lent-one stripe e o among caller = omega arith

  -- what acts lend is lent among these blocks, at their stripes, and of each run some block
  among-all : (acts : List Act) → All (LendsAmong m file so low n) acts → total lendings (own_entries acts) ≤ loans_among (own_entries acts)
  among-all [] all = omega arith
  among-all (Turn stripe others own ∷ acts) all =
      let one = lent-one stripe own.event own.outcome (All-head (LendsAmong m file so low n) (Turn stripe others own) acts all) own.caller in
      let both = among-one own (own_entries acts) in
      let rest = among-all acts (All-tail (LendsAmong m file so low n) (Turn stripe others own) acts all) in
      omega (arith, one, both, rest)
  among-all (SizeTurn cell others own ∷ acts) all = among-all acts (All-tail (LendsAmong m file so low n) (SizeTurn cell others own) acts all)
  among-all (Busy stripe word ∷ acts) all = among-all acts (All-tail (LendsAmong m file so low n) (Busy stripe word) acts all)
  among-all (Open stripe ∷ acts) all = among-all acts (All-tail (LendsAmong m file so low n) (Open stripe) acts all)
  among-all (Close stripe ∷ acts) all = among-all acts (All-tail (LendsAmong m file so low n) (Close stripe) acts all)
  among-all (Take f c was now ∷ acts) all = among-all acts (All-tail (LendsAmong m file so low n) (Take f c was now) acts all)
  among-all (Refused f c was now ∷ acts) all = among-all acts (All-tail (LendsAmong m file so low n) (Refused f c was now) acts all)
  among-all (Leave f c was now ∷ acts) all = among-all acts (All-tail (LendsAmong m file so low n) (Leave f c was now) acts all)
  among-all (Run bios ∷ acts) all = among-all acts (All-tail (LendsAmong m file so low n) (Run bios) acts all)
  among-all (Note begun ∷ acts) all = among-all acts (All-tail (LendsAmong m file so low n) (Note begun) acts all)
  among-all (Number call ∷ acts) all = among-all acts (All-tail (LendsAmong m file so low n) (Number call) acts all)

  -- a loan from a block is at its stripe
  elsewhere : (stripe b : ℕ) (e : Event) (o : Outcome) → IsLentAmong m file so low n stripe e o → (stripe == stripe_at m file b) ≡ false → one_where (lends_from b e o) ≡ 0
  elsewhere stripe b (event.LendRead block most) (outcome.Lending ticket blocks) (from, to, is, at, some) other =
      one-or-none (block == b) (λ same. let e : stripe ≡ stripe_at m file b = at ∙ ap (stripe_at m file) (let is' : block ≡ b = grind (arith, same) in is') in grind (arith, e, other))
  elsewhere stripe b e o among other = refl

  here-or-not : (b : ℕ) (t : Bool) (w k l : ℕ) → (t ≡ false → w ≡ 0) → k ≡ l → (own : Entry) (made : List Entry) → w ≡ one_where (lends_from b own.event own.outcome) → l ≡ loans_from b made → w + k ≡ loans_from b ((if t then own ∷ [] else []) ++ made)
  here-or-not b true w k l none same own made is more = (let e = same in omega (arith, e, is, more))
  here-or-not b false w k l none same own made is more = (let z = none refl in let e = same in omega (arith, z, e, more))

  at-stripe : (b : ℕ) (acts : List Act) → All (LendsAmong m file so low n) acts → loans_from b (own_entries acts) ≡ loans_from b (made_in (stripe_at m file b) acts)
  at-stripe b [] all = refl
  at-stripe b (Turn stripe others own ∷ acts) all =
      here-or-not b (stripe == stripe_at m file b) _ _ _ (elsewhere stripe b own.event own.outcome (All-head (LendsAmong m file so low n) (Turn stripe others own) acts all))
      (at-stripe b acts (All-tail (LendsAmong m file so low n) (Turn stripe others own) acts all)) own (made_in (stripe_at m file b) acts) refl refl
  at-stripe b (SizeTurn cell others own ∷ acts) all = at-stripe b acts (All-tail (LendsAmong m file so low n) (SizeTurn cell others own) acts all)
  at-stripe b (Busy stripe word ∷ acts) all = at-stripe b acts (All-tail (LendsAmong m file so low n) (Busy stripe word) acts all)
  at-stripe b (Open stripe ∷ acts) all = at-stripe b acts (All-tail (LendsAmong m file so low n) (Open stripe) acts all)
  at-stripe b (Close stripe ∷ acts) all = at-stripe b acts (All-tail (LendsAmong m file so low n) (Close stripe) acts all)
  at-stripe b (Take f c was now ∷ acts) all = at-stripe b acts (All-tail (LendsAmong m file so low n) (Take f c was now) acts all)
  at-stripe b (Refused f c was now ∷ acts) all = at-stripe b acts (All-tail (LendsAmong m file so low n) (Refused f c was now) acts all)
  at-stripe b (Leave f c was now ∷ acts) all = at-stripe b acts (All-tail (LendsAmong m file so low n) (Leave f c was now) acts all)
  at-stripe b (Run bios ∷ acts) all = at-stripe b acts (All-tail (LendsAmong m file so low n) (Run bios) acts all)
  at-stripe b (Note begun ∷ acts) all = at-stripe b acts (All-tail (LendsAmong m file so low n) (Note begun) acts all)
  at-stripe b (Number call ∷ acts) all = at-stripe b acts (All-tail (LendsAmong m file so low n) (Number call) acts all)

  some-of : (stripe : ℕ) (e : Event) (o : Outcome) → IsLentAmong m file so low n stripe e o → IsSome e o
  some-of stripe (event.LendRead block most) (outcome.Lending ticket blocks) (from, to, is, at, some) = some
  some-of stripe e o among = tt

  some-all : (acts : List Act) → All (LendsAmong m file so low n) acts → SomeLent (own_entries acts)
  some-all [] all = All-nil (λ (e : Entry). IsSome e.event e.outcome)
  some-all (Turn stripe others own ∷ acts) all =
      All-cons (λ (e : Entry). IsSome e.event e.outcome) own (own_entries acts) (some-of stripe own.event own.outcome (All-head (LendsAmong m file so low n) (Turn stripe others own) acts all))
      (some-all acts (All-tail (LendsAmong m file so low n) (Turn stripe others own) acts all))
  some-all (SizeTurn cell others own ∷ acts) all = some-all acts (All-tail (LendsAmong m file so low n) (SizeTurn cell others own) acts all)
  some-all (Busy stripe word ∷ acts) all = some-all acts (All-tail (LendsAmong m file so low n) (Busy stripe word) acts all)
  some-all (Open stripe ∷ acts) all = some-all acts (All-tail (LendsAmong m file so low n) (Open stripe) acts all)
  some-all (Close stripe ∷ acts) all = some-all acts (All-tail (LendsAmong m file so low n) (Close stripe) acts all)
  some-all (Take f c was now ∷ acts) all = some-all acts (All-tail (LendsAmong m file so low n) (Take f c was now) acts all)
  some-all (Refused f c was now ∷ acts) all = some-all acts (All-tail (LendsAmong m file so low n) (Refused f c was now) acts all)
  some-all (Leave f c was now ∷ acts) all = some-all acts (All-tail (LendsAmong m file so low n) (Leave f c was now) acts all)
  some-all (Run bios ∷ acts) all = some-all acts (All-tail (LendsAmong m file so low n) (Run bios) acts all)
  some-all (Note begun ∷ acts) all = some-all acts (All-tail (LendsAmong m file so low n) (Note begun) acts all)
  some-all (Number call ∷ acts) all = some-all acts (All-tail (LendsAmong m file so low n) (Number call) acts all)

  -- where nobody else comes between, a block is lent at most once
  lent-once : (p : PassView) (acts : List Act) (b : ℕ) → All (LendsAmong m file so low n) acts → KeepRead (own_entries acts) → FallsBack (own_entries acts) → IsAlone acts → HasHappenedTo m file p acts b → loans_from b (own_entries acts) ≤ 1
  lent-once p acts b all keep falls alone (s, lawful) =
      let k = stripe_at m file b in
      let made = made_in k acts in
      let others = alone k in
      let from = picked k acts in
      let whole : lawful_from m.geometry.block_size b s ((seen_at p k ++ others.0) ++ made) ≡ true = subst (λ l. lawful_from m.geometry.block_size b s l ≡ true) (ap (λ l. seen_at p k ++ l) others.1 ∙ sym (append_assoc (seen_at p k) others.0 made)) lawful in
      let rest = lawful-rest m.geometry.block_size b s (seen_at p k ++ others.0) made whole in
      subst (λ l. l ≤ 1) (sym (at-stripe b acts all))
      (one-loan m.geometry.block_size b rest.0 made (all-picked (λ (e : Entry). IsTrue (keeps_read e.event)) made (own_entries acts) from keep) (all-picked (λ (e : Entry). IsSome e.event e.outcome) made (own_entries acts) from (some-all acts all)) (falls-picked made (own_entries acts) from falls) rest.1)

  pub loans-few : (p : PassView) (acts : List Act) → All (LendsAmong m file so low n) acts → KeepRead (own_entries acts) → FallsBack (own_entries acts) → IsAlone acts → ((b : ℕ) → low ≤ b → b < low + n → HasHappenedTo m file p acts b) → loans_in acts ≤ how_many so low n
  loans-few p acts all keep falls alone happened =
      let few = sum-le (λ b. when (so b) (loans_from b (own_entries acts))) (λ b. one_where (so b)) low n (λ b from to. when-one (so b) (loans_from b (own_entries acts)) (lent-once p acts b all keep falls alone (happened b from to))) in
      let among = among-all acts all in
      let same = how-many-is so low n in
      omega (arith, few, among, same)

-- all of n numbers are n
pub how-many-all : (low n : ℕ) → how_many (λ b. true) low n ≡ n
how-many-all low zero = refl
how-many-all low (suc n) = (let rest = how-many-all (suc low) n in omega (arith, rest))
