-- The contents of a file that was only read, and the bytes that the read gave.
use Rattle.std.proofs.Common.{◌≡◌, ℕ, ◌+◌, ◌-◌, ◌*◌, ◌≤◌, Bool, true, false, not, ◌||◌, List, [], ◌∷◌, Some, None, Option, if◌then◌else◌, length, take, drop, replicate, refl, sym, ap, ◌∙◌, arith, eq-eqb}
use Rattle.std.specs.Prelude.{max, min}
use Rattle.std.specs.List.{list_all}
use Rattle.std.specs.Str.{bytes_eq}
use Rattle.std.proofs.lemmas.List.{length-replicate}
use Rattle.iob_base.specs.declared.answer.Reply.TheVariants.{Ok}
use Rattle.iob_base.specs.declared.answer.Stop.TheVariants.{Whole}
use Rattle.io_model.specs.Answered.{answered_span, is_answered}
use Rattle.io_model.specs.Contents.{Content, device_bytes, mapped_or_zeros, opening_content}
use Rattle.io_model.specs.Finals.{device_content}
use Rattle.io_model.specs.Kinds.{covers, kind_after, kind_at, mapped_number, device_number}
use Rattle.io_model.specs.Lists.{bytes_between}
use Rattle.io_model.specs.Fitting.{has_size, is_own_sector}
use Rattle.io_model.specs.Parts.{Span, span, part_in}
use Rattle.io_model.specs.Reads.{gives_block, stamps_before}
use Rattle.io_model.specs.Effects.{replayed}
use Rattle.io_model.specs.declared.file.BlockEnd.{BlockEnd}
use Rattle.io_model.specs.declared.file.Extent.{Extent}
use Rattle.io_model.specs.declared.file.Kind.TheVariants.{Hole, Mapped}
use Rattle.io_model.specs.declared.run.CallEnd.{CallEnd}
use Rattle.io_model.specs.declared.script.Script.{Script}
use Rattle.iomap_replay.proofs.Devices.{length-given_or}
use Rattle.iomap_replay.proofs.OneRead.{IsAt, one_ranged, answered-whole, is_answered-here}
use Rattle.iomap_replay.proofs.Joined.{between-taken, piece-joined}
use Rattle.iomap_replay.proofs.Spans.{LiesAcross, among, met}
use Rattle.iomap_replay.specs.Facts.{IsShape, is_whole}
use Rattle.iomap_replay.specs.Jobs.{script_of_job}
use Rattle.iomap_replay.specs.OneRead.{joined_from}
use Rattle.iomap_replay.specs.Runs.{is_among, read_stamp, sector_with}
use Rattle.iomap_replay.specs.declared.job.Job.{Job}

pub bytes_eq-refl : (bytes : List ℕ) → bytes_eq bytes bytes ≡ true
bytes_eq-refl [] = refl
bytes_eq-refl (b ∷ bs) = rw (eq-eqb b b refl) (bytes_eq-refl bs)

-- what stands on the device for a block is its opening content, where its sector has the device's bytes
pub device_content-opening : (script : Script) (mapped : Option ℕ)
    → device_content script.geometry.block_size mapped (sector_with (device_bytes script) mapped) ≡ mapped_or_zeros script mapped
device_content-opening script None = refl
device_content-opening script (Some d) = refl

-- a block of one mapped extent, or a hole: it has a device number exactly where it is mapped
kind_number : (e : Extent) (d b : ℕ) → e.kind ≡ Mapped d → device_number (kind_at (e ∷ []) b) ≡ mapped_number (kind_at (e ∷ []) b)
kind_number e d b kind = by_test (covers e b)
  where
    by_test : (t : Bool) → device_number (if t then kind_after e.kind (b - e.block) else Hole) ≡ mapped_number (if t then kind_after e.kind (b - e.block) else Hole)
    by_test true = ap (λ k. device_number (kind_after k (b - e.block))) kind ∙ sym (ap (λ k. mapped_number (kind_after k (b - e.block))) kind)
    by_test false = refl

-- the block has the sector of its device number, where it has one
pub sector_fits : (content : ℕ → Content) (e : Extent) (d b : ℕ) → e.kind ≡ Mapped d
    → is_own_sector (sector_with content (mapped_number (kind_at (e ∷ []) b))) (device_number (kind_at (e ∷ []) b)) ≡ true
sector_fits content e d b kind = rw (kind_number e d b kind) (alike (mapped_number (kind_at (e ∷ []) b)))
  where
    alike : (m : Option ℕ) → is_own_sector (sector_with content m) m ≡ true
    alike None = refl
    alike (Some n) = eq-eqb n n refl

-- the sector is a whole block
pub sector_whole : (content : ℕ → Content) (size : ℕ) (m : Option ℕ) → ((d : ℕ) → length (content d) ≡ size) → has_size size (sector_with content m) ≡ true
sector_whole content size None whole = refl
sector_whole content size (Some d) whole = eq-eqb _ _ (whole d)

-- the bytes of a device block are as many as a block has
pub length-device_bytes : (name : List ℕ) (job : Job) (given : List (ℕ × List ℕ)) (d : ℕ) → IsShape job.device job.geometry job.blocks job.extent job.asked
    → list_all (is_whole job.device) given ≡ true → length (device_bytes (script_of_job name job given) d) ≡ job.geometry.block_size
length-device_bytes name job given d shape whole =
    length-given_or job.device given (replicate job.geometry.block_size job.device.fill) d whole (length-replicate _ _ ∙ shape.size) ∙ sym shape.size

-- the content of a block is as many bytes as a block has
pub length-opening : (name : List ℕ) (job : Job) (given : List (ℕ × List ℕ)) → IsShape job.device job.geometry job.blocks job.extent job.asked
    → list_all (is_whole job.device) given ≡ true → (b : ℕ) → length (opening_content (script_of_job name job given) 0 b) ≡ job.geometry.block_size
length-opening name job given shape whole b = by_number (mapped_number (kind_at (job.extent ∷ []) b))
  where
    by_number : (m : Option ℕ) → length (mapped_or_zeros (script_of_job name job given) m) ≡ job.geometry.block_size
    by_number None = length-replicate _ _
    by_number (Some d) = length-device_bytes name job given d shape whole

-- what the read gave of a block that it met is what the block had
between-equal : (opening : ℕ → Content) (size b k off n c : ℕ) (got : List ℕ) → ((i : ℕ) → length (opening i) ≡ size)
    → LiesAcross size b k off n → is_among b k c ≡ true → got ≡ take n (drop (off - b * size) (joined_from opening b k))
    → bytes_between (max off (c * size) - off) (min (off + n) ((c + 1) * size) - off) got
    ≡ bytes_between (max off (c * size) - c * size) (min (off + n) ((c + 1) * size) - c * size) (opening c)
between-equal opening size b k off n c got whole lies here is =
    let at = among b k c here in
    let m = met size b k off n c lies at.0 at.1 in
    let from = max off (c * size) in
    let to = min (off + n) ((c + 1) * size) in
    let j = c - b in
    let x = from - c * size in
    let above : c * size ≤ from = omega arith in
    let order : from ≤ to = omega (arith, lies.whole, lies.some, m.next, m.begin, m.end) in
    let place : c ≡ b + j = omega (arith, at.0) in
    let far : c * size ≡ b * size + j * size = ap (λ i. i * size) place ∙ (let e : (b + j) * size ≡ b * size + j * size = omega arith in e) in
    let there : from - b * size ≡ j * size + x = omega (arith, far, above) in
    let fits : x + (to - from) ≤ size = omega (arith, m.next, above, order) in
    let many : to - c * size - x ≡ to - from = omega (arith, above, order) in
    ap (bytes_between (from - off) (to - off)) is
    ∙ between-taken (joined_from opening b k) (b * size) off n from to lies.low (omega arith) order (omega arith)
    ∙ ap (λ p. take (to - from) (drop p (joined_from opening b k))) there
    ∙ piece-joined opening size b k j x (to - from) whole (omega (arith, at.0, at.1)) fits
    ∙ ap (λ i. take (to - from) (drop x (opening i))) (sym place)
    ∙ sym (ap (λ l. take l (drop x (opening c))) many)

pub gives-here : (name : List ℕ) (job : Job) (given : List (ℕ × List ℕ)) (b k c : ℕ) (end : CallEnd) (block : BlockEnd)
    → IsShape job.device job.geometry job.blocks job.extent job.asked → list_all (is_whole job.device) given ≡ true → IsAt job b k → is_among b k c ≡ true
    → end.answer.reply ≡ Ok job.asked.length Whole → block.journal ≡ read_stamp ∷ []
    → end.got ≡ take job.asked.length (drop (job.asked.off - b * job.geometry.block_size) (joined_from (opening_content (script_of_job name job given) 0) b k))
    → gives_block (script_of_job name job given) (one_ranged job ∷ []) 1 (one_ranged job) end c block ≡ true
gives-here name job given b k c end block shape whole at here reply journal got =
    let script = script_of_job name job given in
    let size = job.geometry.block_size in
    let off = job.asked.off in
    let n = job.asked.length in
    let opening = opening_content script 0 c in
    let cut : Span → Bool = λ part. bytes_eq (bytes_between (part.from - off) (part.to - off) end.got) (bytes_between (part.from - c * size) (part.to - c * size) opening) in
    let part : part_in size (answered_span size (one_ranged job) end.answer.reply) c ≡ part_in size (span off (off + n)) c =
    ap (λ r. part_in size (answered_span size (one_ranged job) r) c) reply
    ∙ ap (λ s. part_in size s c) (answered-whole job b k at) in
    let equal : cut (part_in size (span off (off + n)) c) ≡ true =
    ap (λ bytes. bytes_eq bytes (bytes_between (max off (c * size) - c * size) (min (off + n) ((c + 1) * size) - c * size) opening))
    (between-equal (opening_content script 0) size b k off n c end.got (length-opening name job given shape whole) at.lies here got)
    ∙ bytes_eq-refl (bytes_between (max off (c * size) - c * size) (min (off + n) ((c + 1) * size) - c * size) opening) in
    let answered : is_answered size (one_ranged job) end.answer.reply c ≡ true =
    ap (λ r. is_answered size (one_ranged job) r c) reply ∙ is_answered-here job b k c at here in
    ap (λ stamps. not (is_answered size (one_ranged job) end.answer.reply c)
    || bytes_eq (bytes_between ((part_in size (answered_span size (one_ranged job) end.answer.reply) c).from - off)
    ((part_in size (answered_span size (one_ranged job) end.answer.reply) c).to - off) end.got)
    (bytes_between ((part_in size (answered_span size (one_ranged job) end.answer.reply) c).from - c * size)
    ((part_in size (answered_span size (one_ranged job) end.answer.reply) c).to - c * size) (replayed script (one_ranged job ∷ []) 0 c (stamps_before 1 stamps)))) journal
    ∙ ap (λ (t : Bool). not t || cut (part_in size (answered_span size (one_ranged job) end.answer.reply) c)) answered
    ∙ ap cut part ∙ equal

-- a block that was not answered is not asked after
pub gives-elsewhere : (name : List ℕ) (job : Job) (given : List (ℕ × List ℕ)) (c : ℕ) (end : CallEnd) (block : BlockEnd)
    → is_answered job.geometry.block_size (one_ranged job) end.answer.reply c ≡ false
    → gives_block (script_of_job name job given) (one_ranged job ∷ []) 1 (one_ranged job) end c block ≡ true
gives-elsewhere name job given c end block none = not_asked _ _ none
  where
    not_asked : (t u : Bool) → t ≡ false → (not t || u) ≡ true
    not_asked true u e = cc
    not_asked false u e = refl
