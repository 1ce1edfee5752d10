-- The job of a script whose lists have the one file, extent and call.
use Rattle.std.proofs.Common.{◌≡◌, ℕ, ◌<◌, ◌≤◌, true, List, [], ◌∷◌, length, get_or, refl, sym, ◌∙◌, ap, subst, arith}
use Rattle.std.specs.List.{list_all}
use Rattle.io_model.specs.declared.file.Extent.{Extent}
use Rattle.io_model.specs.declared.file.FileSpec.{FileSpec}
use Rattle.io_model.specs.declared.script.Call.{Call}
use Rattle.io_model.specs.declared.script.Script.{Script}
use Rattle.iomap_replay.specs.Facts.{IsShape, is_whole}
use Rattle.iomap_replay.specs.Form.{device_of}
use Rattle.iomap_replay.specs.Jobs.{IsJobOf, one_call, one_file}
use Rattle.iomap_replay.specs.declared.job.Asked.{Asked}
use Rattle.iomap_replay.specs.declared.job.Device.{Device}
use Rattle.iomap_replay.specs.declared.job.Job.{Job}

-- a list of one item has that item alone
pub one_item : {A : Type 0} (xs : List A) (x other : A) → 1 ≤ length xs → length xs < 2 → x ≡ get_or xs 0 other → xs ≡ x ∷ []
one_item [] x other some few is = absurd (omega (arith, some))
one_item (y ∷ []) x other some few is = ap (λ z. z ∷ []) (sym is)
one_item (y ∷ z ∷ xs) x other some few is = absurd (omega (arith, few))

-- the first item of a list is that of a list that is the same
pub item_of : {A : Type 0} (xs ys : List A) (x z other : A) → x ≡ z → x ≡ get_or xs 0 other → xs ≡ ys → z ≡ get_or ys 0 other
item_of xs ys x z other same is equal = sym same ∙ is ∙ ap (λ l. get_or l 0 other) equal

pub no_item : {A : Type 0} (xs : List A) → length xs ≡ 0 → xs ≡ []
no_item [] none = refl
no_item (x ∷ xs) none = absurd (omega (arith, none))

-- what a list of one item has at its one place
abbrev pub sole : {A : Type 0} → List A → A → A
sole xs x = get_or xs 0 x

-- a list with one item is that item
pub is_sole : {A : Type 0} (xs : List A) (x : A) → 1 ≤ length xs → length xs < 2 → xs ≡ sole xs x ∷ []
is_sole [] x some few = absurd (omega (arith, some))
is_sole (y ∷ []) x some few = refl
is_sole (y ∷ z ∷ xs) x some few = absurd (omega (arith, few))

-- the job of a device that is the script's
abbrev job_on : Device → Script → ℕ → Extent → Asked → Job
job_on device script blocks extent asked = record { device = device; geometry = script.geometry; blocks = blocks; extent = extent; asked = asked }

pub job_is : (script : Script) (device : Device) (blocks : ℕ) (extent : Extent) (asked : Asked) (name : List ℕ) → device ≡ device_of script
    → script.names ≡ name ∷ [] → script.files ≡ one_file blocks extent ∷ [] → script.faults ≡ [] → script.calls ≡ one_call asked ∷ []
    → IsShape (device_of script) script.geometry blocks extent asked → list_all (is_whole (device_of script)) script.blocks ≡ true
    → IsJobOf script (job_on device script blocks extent asked)
job_is script device blocks extent asked name device_is names files faults calls shape whole =
    let P : Device → Type 0 = λ d. IsJobOf script (job_on d script blocks extent asked) in
    let build : List (List ℕ) → List FileSpec → List (ℕ × ℕ) → List Call → Script = λ n f g c. record {
      geometry = script.geometry;
      device_blocks = script.device_blocks;
      fill = script.fill;
      blocks = script.blocks;
      names = n;
      files = f;
      faults = g;
      calls = c;
    } in
    subst P (sym device_is) (record {
      name = name;
      is = ap (λ n. build n script.files script.faults script.calls) names ∙ ap (λ f. build (name ∷ []) f script.faults script.calls) files
          ∙ ap (λ g. build (name ∷ []) (one_file blocks extent ∷ []) g script.calls) faults ∙ ap (λ c. build (name ∷ []) (one_file blocks extent ∷ []) [] c) calls;
      shape = shape;
      whole = whole;
    })
