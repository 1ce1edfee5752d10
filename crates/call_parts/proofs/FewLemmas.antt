-- Acts that lend few blocks to be read, put one after another.
use Rattle.std.proofs.Common.{◌≡◌, ℕ, ◌+◌, ◌≤◌, Bool, List, [], ◌∷◌, ◌++◌, None, refl, sym, ◌∙◌, subst, arith}
use Rattle.std.specs.Prelude.{All, Option}
use Rattle.std.proofs.lemmas.Bool.{false≢true}
use Rattle.std.proofs.lemmas.List.Elements.{All-append, All-cons, All-head, All-nil, All-tail, All-weaker}
use Rattle.iob_base.specs.declared.answer.Fault.{Fault}
use Rattle.iob_base.specs.declared.stamp.FileId.{FileId}
use Rattle.turn_cell.specs.Stakes.{total}
use Rattle.range_core.specs.EntryCounts.{has_lent, lendings, one_where}
use Rattle.range_core.specs.declared.entry.Entry.{Entry}
use Rattle.range_core.specs.declared.entry.Event.{Event}
use Rattle.range_core.specs.declared.entry.Event.TheVariants as event
use Rattle.range_core.specs.declared.entry.Outcome.{Outcome}
use Rattle.range_core.specs.declared.entry.Outcome.TheVariants as outcome
use Rattle.mount_parts.specs.MountView.{MountView}
use Rattle.mini_fs.specs.Acts.{Act, own_entries}
use Rattle.mini_fs.specs.Acts.Act.{Turn, SizeTurn, Busy, Open, Close, Take, Refused, Leave, Run, Note, Number}
use Rattle.mini_fs.specs.CallActs.{loans_in}
use Rattle.mini_fs.proofs.CallLemmas.{own_entries-append}
use Rattle.call_parts.specs.Budgets.{AreSound, Bounds, FallsBack, IsBehind, IsLentAmong, IsReadBelow, IsSound, LendsAmong, LendsFew, ReadBelow}

abbrev Behind : ℕ → List Entry → Type 0
Behind limit entries = All (λ (e : Entry). IsBehind limit e.event) entries

-- what is sound lies behind every block, and what lies behind a block behind each one before it
sound-behind : (limit : ℕ) (e : Event) → IsSound e → IsBehind limit e
sound-behind limit (event.FillBack ticket block blocks done) sound = λ failed. absurd (false≢true (sym sound ∙ failed))
sound-behind limit e sound = tt

pub all-behind : (limit : ℕ) (entries : List Entry) → AreSound entries → Behind limit entries
all-behind limit entries sound = All-weaker (λ (e : Entry). IsSound e.event) (λ (e : Entry). IsBehind limit e.event) (λ e is. sound-behind limit e.event is) entries sound

behind-less : (limit less : ℕ) (e : Event) → less ≤ limit → IsBehind limit e → IsBehind less e
behind-less limit less (event.FillBack ticket block blocks done) low is = λ failed. (let far = is failed in omega (arith, low, far))
behind-less limit less e low is = tt

pub behind-before : (limit less : ℕ) (entries : List Entry) → less ≤ limit → Behind limit entries → Behind less entries
behind-before limit less entries low all = All-weaker (λ (e : Entry). IsBehind limit e.event) (λ (e : Entry). IsBehind less e.event) (λ e is. behind-less limit less e.event low is) entries all

read-less : (below more : ℕ) (e : Event) (o : Outcome) → below ≤ more → IsReadBelow below e o → IsReadBelow more e o
read-less below more (event.LendRead block most) (outcome.Lending ticket blocks) low is = omega (arith, low, is)
read-less below more e o low is = tt

read-before : (below more : ℕ) (entries : List Entry) → below ≤ more → ReadBelow below entries → ReadBelow more entries
read-before below more entries low all = All-weaker (λ (e : Entry). IsReadBelow below e.event e.outcome) (λ (e : Entry). IsReadBelow more e.event e.outcome) (λ e is. read-less below more e.event e.outcome low is) entries all

-- a read that failed bounds what comes later, also where more comes later that lies before all failed ones
bounds-then : (limit : ℕ) (e : Event) (rest more : List Entry) → IsBehind limit e → Bounds e rest → ReadBelow limit more → Bounds e (rest ++ more)
bounds-then limit (event.FillBack ticket block blocks done) rest more behind bound below = λ failed. All-append (λ (e : Entry). IsReadBelow block e.event e.outcome) rest more (bound failed) (read-before limit block more (behind failed) below)
bounds-then limit e rest more behind bound below = tt

falls-then : (limit : ℕ) (entries more : List Entry) → Behind limit entries → FallsBack entries → ReadBelow limit more → FallsBack more → FallsBack (entries ++ more)
falls-then limit [] more behind falls below later = later
falls-then limit (e ∷ entries) more behind falls below later = (
  bounds-then limit e.event entries more (All-head (λ (e : Entry). IsBehind limit e.event) e entries behind) falls.0 below,
  falls-then limit entries more (All-tail (λ (e : Entry). IsBehind limit e.event) e entries behind) falls.1 below later,
)

-- where no read failed, none bounds what comes later
sound-bounds : (e : Event) (later : List Entry) → IsSound e → Bounds e later
sound-bounds (event.FillBack ticket block blocks done) later sound = λ failed. absurd (false≢true (sym sound ∙ failed))
sound-bounds e later sound = tt

sound-falls : (entries : List Entry) → AreSound entries → FallsBack entries
sound-falls [] sound = tt
sound-falls (e ∷ entries) sound = (sound-bounds e.event entries (All-head (λ (e : Entry). IsSound e.event) e entries sound), sound-falls entries (All-tail (λ (e : Entry). IsSound e.event) e entries sound))

-- all lies behind the first block of all
behind-first : (e : Event) → IsBehind 0 e
behind-first (event.FillBack ticket block blocks done) = λ failed. omega arith
behind-first e = tt

all-behind-first : (entries : List Entry) → Behind 0 entries
all-behind-first [] = All-nil (λ (e : Entry). IsBehind 0 e.event)
all-behind-first (e ∷ entries) = All-cons (λ (e : Entry). IsBehind 0 e.event) e entries (behind-first e.event) (all-behind-first entries)

-- what lent nothing read nothing
lent-none-below : (e : Event) (o : Outcome) → one_where (has_lent o) ≡ 0 → IsReadBelow 0 e o
lent-none-below (event.LendRead block most) (outcome.Lending ticket blocks) none = absurd (omega (arith, none))
lent-none-below e o none = tt

none-below-first : (entries : List Entry) → total lendings entries ≡ 0 → ReadBelow 0 entries
none-below-first [] none = All-nil (λ (e : Entry). IsReadBelow 0 e.event e.outcome)
none-below-first (e ∷ entries) none =
    All-cons (λ (e : Entry). IsReadBelow 0 e.event e.outcome) e entries (lent-none-below e.event e.outcome (let one : one_where (has_lent e.outcome) ≡ 0 = omega (arith, none) in one)) (none-below-first entries (omega (arith, none)))

module _ (m : MountView) (file : FileId) (so : ℕ → Bool) where
  -- what lends these blocks lends them among more
  wider-one : (low n from all : ℕ) → from ≤ low → low + n ≤ from + all → (stripe : ℕ) (e : Event) (o : Outcome) → IsLentAmong m file so low n stripe e o → IsLentAmong m file so from all stripe e o
  wider-one low n from all begins ends stripe (event.LendRead block most) (outcome.Lending ticket blocks) (low_is, high, is, at, some) = (omega (arith, begins, low_is), omega (arith, ends, high), is, at, some)
  wider-one low n from all begins ends stripe e (outcome.Lending ticket blocks) among = absurd among
  wider-one low n from all begins ends stripe e o among = tt

  wider-act : (low n from all : ℕ) → from ≤ low → low + n ≤ from + all → (a : Act) → LendsAmong m file so low n a → LendsAmong m file so from all a
  wider-act low n from all begins ends (Turn stripe others own) among = wider-one low n from all begins ends stripe own.event own.outcome among
  wider-act low n from all begins ends (SizeTurn cell others own) among = tt
  wider-act low n from all begins ends (Busy stripe word) among = tt
  wider-act low n from all begins ends (Open stripe) among = tt
  wider-act low n from all begins ends (Close stripe) among = tt
  wider-act low n from all begins ends (Take f c was now) among = tt
  wider-act low n from all begins ends (Refused f c was now) among = tt
  wider-act low n from all begins ends (Leave f c was now) among = tt
  wider-act low n from all begins ends (Run bios) among = tt
  wider-act low n from all begins ends (Note begun) among = tt
  wider-act low n from all begins ends (Number call) among = tt

  among-wider : (low n from all : ℕ) (acts : List Act) → from ≤ low → low + n ≤ from + all → All (LendsAmong m file so low n) acts → All (LendsAmong m file so from all) acts
  among-wider low n from all acts begins ends among = All-weaker (LendsAmong m file so low n) (LendsAmong m file so from all) (λ a is. wider-act low n from all begins ends a is) acts among

  -- what lends these blocks reads nothing at or behind their end
  below-one : (low n limit stripe : ℕ) (e : Event) (o : Outcome) → low + n ≤ limit → IsLentAmong m file so low n stripe e o → IsReadBelow limit e o
  below-one low n limit stripe (event.LendRead block most) (outcome.Lending ticket blocks) ends (low_is, high, is, at, some) = omega (arith, ends, high)
  below-one low n limit stripe e o ends among = tt

  pub among-below : (low n limit : ℕ) (acts : List Act) → low + n ≤ limit → All (LendsAmong m file so low n) acts → ReadBelow limit (own_entries acts)
  among-below low n limit [] ends among = All-nil (λ (e : Entry). IsReadBelow limit e.event e.outcome)
  among-below low n limit (Turn stripe others own ∷ acts) ends among =
      All-cons (λ (e : Entry). IsReadBelow limit e.event e.outcome) own (own_entries acts) (below-one low n limit stripe own.event own.outcome ends (All-head (LendsAmong m file so low n) (Turn stripe others own) acts among))
      (among-below low n limit acts ends (All-tail (LendsAmong m file so low n) (Turn stripe others own) acts among))
  among-below low n limit (SizeTurn cell others own ∷ acts) ends among = among-below low n limit acts ends (All-tail (LendsAmong m file so low n) (SizeTurn cell others own) acts among)
  among-below low n limit (Busy stripe word ∷ acts) ends among = among-below low n limit acts ends (All-tail (LendsAmong m file so low n) (Busy stripe word) acts among)
  among-below low n limit (Open stripe ∷ acts) ends among = among-below low n limit acts ends (All-tail (LendsAmong m file so low n) (Open stripe) acts among)
  among-below low n limit (Close stripe ∷ acts) ends among = among-below low n limit acts ends (All-tail (LendsAmong m file so low n) (Close stripe) acts among)
  among-below low n limit (Take f c was now ∷ acts) ends among = among-below low n limit acts ends (All-tail (LendsAmong m file so low n) (Take f c was now) acts among)
  among-below low n limit (Refused f c was now ∷ acts) ends among = among-below low n limit acts ends (All-tail (LendsAmong m file so low n) (Refused f c was now) acts among)
  among-below low n limit (Leave f c was now ∷ acts) ends among = among-below low n limit acts ends (All-tail (LendsAmong m file so low n) (Leave f c was now) acts among)
  among-below low n limit (Run bios ∷ acts) ends among = among-below low n limit acts ends (All-tail (LendsAmong m file so low n) (Run bios) acts among)
  among-below low n limit (Note begun ∷ acts) ends among = among-below low n limit acts ends (All-tail (LendsAmong m file so low n) (Note begun) acts among)
  among-below low n limit (Number call ∷ acts) ends among = among-below low n limit acts ends (All-tail (LendsAmong m file so low n) (Number call) acts among)

  -- acts that lend nothing to be read, acts among fewer blocks, and acts one after another of which the first met no fault
  pub few-none : (low n : ℕ) (fault : Option Fault) → LendsFew m file so low n fault []
  few-none low n fault = record { among = All-nil (LendsAmong m file so low n); falls = tt; sound = λ none. All-nil (λ (e : Entry). IsSound e.event) }

  pub few-wider : (low n from all : ℕ) (fault : Option Fault) (acts : List Act) → from ≤ low → low + n ≤ from + all → LendsFew m file so low n fault acts → LendsFew m file so from all fault acts
  few-wider low n from all fault acts begins ends few = record { among = among-wider low n from all acts begins ends few.among; falls = few.falls; sound = few.sound }

  -- what comes after reads that failed lends blocks before them
  pub few-back : (low n less limit : ℕ) (fault last : Option Fault) (acts more : List Act) → less ≤ n → low + less ≤ limit → Behind limit (own_entries acts) → (last ≡ None → AreSound (own_entries acts ++ own_entries more))
      → LendsFew m file so low n fault acts → LendsFew m file so low less last more → LendsFew m file so low n last (acts ++ more)
  few-back low n less limit fault last acts more fewer ends behind sound first later =
      let entries = own_entries-append acts more in
      let wide = among-wider low less low n more (omega arith) (omega (arith, fewer)) later.among in
      record {
        among = All-append (LendsAmong m file so low n) acts more first.among wide;
        falls = subst FallsBack (sym entries) (falls-then limit (own_entries acts) (own_entries more) behind first.falls (among-below low less limit more ends later.among) later.falls);
        sound = λ none. subst AreSound (sym entries) (sound none);
      }

  pub few-then : (low n : ℕ) (fault : Option Fault) (acts more : List Act) → LendsFew m file so low n None acts → LendsFew m file so low n fault more → LendsFew m file so low n fault (acts ++ more)
  few-then low n fault acts more first later =
      let sound = first.sound refl in
      few-back low n n (low + n) None fault acts more (omega arith) (omega arith) (all-behind (low + n) (own_entries acts) sound) (λ none. All-append (λ (e : Entry). IsSound e.event) (own_entries acts) (own_entries more) sound (later.sound none)) first later

  -- acts of which no entry lends
  lent-none : (low n stripe : ℕ) (e : Event) (o : Outcome) → one_where (has_lent o) ≡ 0 → IsLentAmong m file so low n stripe e o
  lent-none low n stripe (event.LendRead block most) (outcome.Lending ticket blocks) none = absurd (omega (arith, none))
  lent-none low n stripe e (outcome.Lending ticket blocks) none = absurd (omega (arith, none))
  lent-none low n stripe e o none = tt

  among-none : (low n : ℕ) (acts : List Act) → total lendings (own_entries acts) ≡ 0 → All (LendsAmong m file so low n) acts
  among-none low n [] none = All-nil (LendsAmong m file so low n)
  among-none low n (Turn stripe others own ∷ acts) none =
      All-cons (LendsAmong m file so low n) (Turn stripe others own) acts (lent-none low n stripe own.event own.outcome (let one : one_where (has_lent own.outcome) ≡ 0 = omega (arith, none) in one)) (among-none low n acts (omega (arith, none)))
  among-none low n (SizeTurn cell others own ∷ acts) none = All-cons (LendsAmong m file so low n) (SizeTurn cell others own) acts tt (among-none low n acts none)
  among-none low n (Busy stripe word ∷ acts) none = All-cons (LendsAmong m file so low n) (Busy stripe word) acts tt (among-none low n acts none)
  among-none low n (Open stripe ∷ acts) none = All-cons (LendsAmong m file so low n) (Open stripe) acts tt (among-none low n acts none)
  among-none low n (Close stripe ∷ acts) none = All-cons (LendsAmong m file so low n) (Close stripe) acts tt (among-none low n acts none)
  among-none low n (Take f c was now ∷ acts) none = All-cons (LendsAmong m file so low n) (Take f c was now) acts tt (among-none low n acts none)
  among-none low n (Refused f c was now ∷ acts) none = All-cons (LendsAmong m file so low n) (Refused f c was now) acts tt (among-none low n acts none)
  among-none low n (Leave f c was now ∷ acts) none = All-cons (LendsAmong m file so low n) (Leave f c was now) acts tt (among-none low n acts none)
  among-none low n (Run bios ∷ acts) none = All-cons (LendsAmong m file so low n) (Run bios) acts tt (among-none low n acts none)
  among-none low n (Note begun ∷ acts) none = All-cons (LendsAmong m file so low n) (Note begun) acts tt (among-none low n acts none)
  among-none low n (Number call ∷ acts) none = All-cons (LendsAmong m file so low n) (Number call) acts tt (among-none low n acts none)

  -- acts that lend nothing and of which no read failed, alone and behind others
  pub few-quiet : (low n : ℕ) (fault : Option Fault) (acts : List Act) → AreSound (own_entries acts) → loans_in acts ≡ 0 → LendsFew m file so low n fault acts
  few-quiet low n fault acts sound none = record { among = among-none low n acts none; falls = sound-falls (own_entries acts) sound; sound = λ no. sound }

  pub few-ended : (low n : ℕ) (fault : Option Fault) (acts more : List Act) → LendsFew m file so low n fault acts → AreSound (own_entries more) → loans_in more ≡ 0 → LendsFew m file so low n fault (acts ++ more)
  few-ended low n fault acts more first sound none =
      let entries = own_entries-append acts more in
      record {
        among = All-append (LendsAmong m file so low n) acts more first.among (among-none low n more none);
        falls = subst FallsBack (sym entries) (falls-then 0 (own_entries acts) (own_entries more) (all-behind-first (own_entries acts)) first.falls (none-below-first (own_entries more) none) (sound-falls (own_entries more) sound));
        sound = λ no. subst AreSound (sym entries) (All-append (λ (e : Entry). IsSound e.event) (own_entries acts) (own_entries more) (first.sound no) sound);
      }
