-- The one range: that it can be opened, and what can be read of it at once.
use Rattle.std.proofs.Common.{◌≡◌, ℕ, zero, suc, ◌+◌, ◌-◌, ◌≤◌, List, [], ◌∷◌, ◌++◌, length, map, take, drop, replicate, sym, ap, ◌∙◌, arith, subst, lit≤}
use Rattle.std.specs.Prelude.{max, All, IfSome, is_some, ◌^◌}
use Rattle.std.specs.List.{cons_option, AllByRecursion}
use Rattle.std.proofs.lemmas.List.Elements.{All-from_recursion}
use Rattle.iob_base.specs.DeviceBlock.{DeviceBlock}
use Rattle.io_model.specs.Contents.{Content, device_bytes}
use Rattle.io_model.specs.Kinds.{kind_at, device_number}
use Rattle.io_model.specs.declared.file.Extent.{Extent}
use Rattle.io_model.specs.declared.file.Kind.{Kind}
use Rattle.io_model.specs.declared.file.Kind.TheVariants.{Mapped}
use Rattle.io_model.specs.declared.script.Script.{Script}
use Rattle.iomap_replay.proofs.Devices.{drop-blocks_with, take-blocks_with}
use Rattle.iomap_replay.proofs.OneContents.{length-device_bytes}
use Rattle.iomap_replay.proofs.OneFile.{rest_at, steps, start_rest}
use Rattle.iomap_replay.specs.Devices.{blocks_beside, blocks_with, content_given, first_number}
use Rattle.iomap_replay.specs.Facts.{LiesOn}
use Rattle.iomap_replay.specs.Jobs.{IsJobOf}
use Rattle.iomap_replay.specs.declared.job.Job.{Job}
use Rattle.range_core.specs.Kinds.{kinds_from, numbers_of}
use Rattle.range_core.specs.Opening.{CanOpen, ClaimsSectors, LiesIn}
use Rattle.range_core.specs.Space.{SpaceClaims}

-- the device as it was made is the device of the script
pub device_is : (script : Script) (job : Job) (n : ℕ) → IsJobOf script job
    → blocks_with (content_given script.blocks (replicate job.device.block_size job.device.fill)) 0 n ≡ blocks_with (device_bytes script) 0 n
device_is script job n of =
    let others : replicate script.geometry.block_size script.fill ≡ replicate job.device.block_size job.device.fill =
    ap (λ (s : Script). replicate s.geometry.block_size s.fill) of.is ∙ ap (λ size. replicate size job.device.fill) of.shape.size in
    ap (λ bytes. blocks_with (content_given script.blocks bytes) 0 n) (sym others)

-- the blocks of the extent are cut out of the device
pub own_is : (content : ℕ → Content) (d n blocks : ℕ) → d + n ≤ blocks → take n (drop d (blocks_with content 0 blocks)) ≡ blocks_with content d n
own_is content d n blocks within =
    let place : 0 + d ≡ d = omega arith in
    ap (take n) (drop-blocks_with content 0 blocks d ∙ ap (λ p. blocks_with content p (blocks - d)) place)
    ∙ take-blocks_with content d (blocks - d) n (omega arith)

-- and those before it and after it are left
pub beside_is : (content : ℕ → Content) (d n blocks : ℕ) → d + n ≤ blocks → take d (blocks_with content 0 blocks) ++ drop n (drop d (blocks_with content 0 blocks)) ≡ blocks_beside content d n blocks
beside_is content d n blocks within =
    let place : 0 + d + n ≡ d + n = omega arith in
    let many : blocks - d - n ≡ blocks - (d + n) = omega arith in
    let front : take d (blocks_with content 0 blocks) ≡ blocks_with content 0 d = take-blocks_with content 0 blocks d (omega arith) in
    let back : drop n (drop d (blocks_with content 0 blocks)) ≡ blocks_with content (d + n) (blocks - (d + n)) =
    ap (drop n) (drop-blocks_with content 0 blocks d) ∙ drop-blocks_with content (0 + d) (blocks - d) n ∙ ap (λ p. blocks_with content p (blocks - d - n)) place ∙ ap (blocks_with content (d + n)) many in
    ap (λ f. f ++ drop n (drop d (blocks_with content 0 blocks))) front ∙ ap (λ b. blocks_with content 0 d ++ b) back

-- the device number of a mapped extent
pub first_is : (e : Extent) (d : ℕ) → e.kind ≡ Mapped d → first_number e.kind ≡ d
first_is e d kind = ap first_number kind

-- every block has its bytes
pub all_whole : (content : ℕ → Content) (size d n : ℕ) → ((i : ℕ) → length (content i) ≡ size) → AllByRecursion (λ (s : DeviceBlock). length s.bytes ≡ size) (blocks_with content d n)
all_whole content size d zero whole = tt
all_whole content size d (suc n) whole = (whole d, all_whole content size (d + 1) n whole)

-- the numbers of the sectors that are left are those that the kinds from here on name
numbers-from : (content : ℕ → Content) (e : Extent) (d : ℕ) → e.kind ≡ Mapped d → (b n : ℕ) → e.block + e.length ≤ b + n
    → map (λ (s : DeviceBlock). s.number) (rest_at content d e.block (e.block + e.length) b) ≡ numbers_of (kinds_from (e ∷ []) b n)
numbers-from content e d kind b zero within =
    let none : e.block + e.length - max b e.block ≡ 0 = omega (arith, within) in
    ap (λ m. map (λ (s : DeviceBlock). s.number) (blocks_with content (d + (b - e.block)) m)) none
numbers-from content e d kind b (suc n) within =
    (steps content e d b kind).numbers ∙ ap (cons_option (device_number (kind_at (e ∷ []) b))) (numbers-from content e d kind (b + 1) n (omega (arith, within)))

lies_in : (e : Extent) (d blocks device_blocks : ℕ) → e.kind ≡ Mapped d → LiesOn blocks device_blocks e → device_blocks ≤ 65536 → d + e.length ≤ device_blocks → LiesIn 0 blocks e
lies_in e d blocks device_blocks kind on few within =
    let K : Kind → Type 0 = λ k. IfSome (device_number k) (λ m. m + e.length ≤ 2 ^ 32) in
    record {
      placed = ap (λ k. is_some (device_number k)) kind;
      low = omega arith;
      high = omega (arith, on.inside);
      numbers = subst K (sym kind) (omega (arith, few, within));
    }

-- the bytes of every device block of a job's script are as many as a block has
pub length-device : (script : Script) (job : Job) → IsJobOf script job → (i : ℕ) → length (device_bytes script i) ≡ job.geometry.block_size
length-device script job of i = ap (λ (s : Script). length (device_bytes s i)) of.is ∙ length-device_bytes of.name job script.blocks i of.shape of.whole

-- the range can be opened
pub can_open : (script : Script) (job : Job) (own : List DeviceBlock) (space : SpaceClaims) → IsJobOf script job
    → own ≡ blocks_with (device_bytes script) (first_number job.extent.kind) job.extent.length → ClaimsSectors job.geometry.block_size job.blocks own space
    → CanOpen job.geometry.block_size 0 job.blocks (job.extent ∷ []) own space 0
can_open script job own space of is claims =
    let on = of.shape.tail.extent in
    let d = on.mapped.0 in
    let kind = on.mapped.1 in
    let size = job.geometry.block_size in
    let content : ℕ → Content = device_bytes script in
    let own_are : own ≡ blocks_with content d job.extent.length = is ∙ ap (λ n. blocks_with content n job.extent.length) (first_is job.extent d kind) in
    let whole : (i : ℕ) → length (content i) ≡ size = length-device script job of in
    let W : List DeviceBlock → Type 0 = λ all. All (λ (s : DeviceBlock). length s.bytes ≡ size) all in
    record {
      some = omega (arith, of.shape.tail.some);
      few = omega (arith, of.shape.tail.few);
      inside = All-from_recursion (LiesIn 0 job.blocks) (job.extent ∷ []) (lies_in job.extent d job.blocks job.device.blocks kind on of.shape.device.few on.mapped.2, tt);
      sectors_are = ap (map (λ (s : DeviceBlock). s.number)) (own_are ∙ sym (start_rest content job.extent d))
          ∙ numbers-from content job.extent d kind 0 job.blocks (omega (arith, on.inside));
      whole = subst W (sym own_are) (All-from_recursion (λ (s : DeviceBlock). length s.bytes ≡ size) _ (all_whole content size d job.extent.length whole));
      space_is = claims;
      unworn = lit≤ tt;
    }
