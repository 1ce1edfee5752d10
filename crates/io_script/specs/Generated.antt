use Rattle.std.specs.Prelude.{ℕ, zero, suc, ◌||◌, ◌==◌, ◌+◌, ◌-◌, ◌*◌, ◌/◌, ◌%◌, min, List, [], ◌∷◌, None, codes, replicate, if◌then◌else◌}
use Rattle.iob_base.specs.Layout.{layout}
use Rattle.iob_base.specs.declared.stamp.Mode.TheVariants.{Cached}
use Rattle.io_model.specs.declared.file.FileSpec.{FileSpec}
use Rattle.io_model.specs.declared.script.Call.{Call}
use Rattle.io_model.specs.declared.script.Script.{Script}
use Rattle.io_model.specs.declared.script.Verb.{Verb}
use Rattle.io_model.specs.declared.script.Verb.TheVariants.{Pread, Pwrite, Dread, Dwrite, Zero, Punch, Wb}
use Rattle.io_script.specs.declared.generator.Draws.{Draws}

-- the state of the random numbers that follows another; proofs open it where they need it
unfoldable pub next_state : ℕ → ℕ
next_state x = (x * 6364136223846793005 + 1442695040888963407) % 18446744073709551616

-- the number that is drawn at a state: its upper half
unfoldable pub drawn : ℕ → ℕ
drawn x = x / 4294967296

-- a call is made from three numbers, drawn one after another; the state after them
abbrev pub state_after : ℕ → ℕ
state_after x = next_state (next_state (next_state x))

abbrev pub draws_from : ℕ → Draws
draws_from x = record { r1 = drawn (next_state x); r2 = drawn (next_state (next_state x)); r3 = drawn (state_after x) }

-- a phase has eight callers, and each makes eight calls there; calls and phases are counted from 0
abbrev pub phase_of : ℕ → ℕ
phase_of n = n / 64

abbrev pub caller_of : ℕ → ℕ
caller_of n = (n / 8) % 8

-- the part of the file that a caller has for itself in a phase
abbrev pub stripe_of : ℕ → ℕ → ℕ
stripe_of caller phase = (4 * caller + phase) % 32

-- the first byte of a stripe
abbrev pub first_byte : ℕ → ℕ
first_byte stripe = 32768 * stripe

-- where a call begins that may begin at any byte of its stripe, and how many bytes it asks: it ends in the stripe
abbrev pub byte_offset : ℕ → Draws → ℕ
byte_offset first d = first + d.r2 % 32768

abbrev pub byte_length : ℕ → Draws → ℕ
byte_length first d = min (1 + d.r3 % 2048) ((first + 32768) - byte_offset first d)

-- where a direct call begins, and of how many whole blocks it is
abbrev pub block_offset : ℕ → Draws → ℕ
block_offset first d = first + 512 * (d.r2 % 64)

abbrev pub block_count : Draws → ℕ
block_count d = min (1 + d.r3 % 8) (64 - d.r2 % 64)

abbrev pub block_length : Draws → ℕ
block_length d = 512 * block_count d

-- the byte that a write has throughout
abbrev pub written_byte : Draws → ℕ
written_byte d = d.r1 / 16777216

-- what a call in a stripe does, by its three numbers
abbrev pub verb_in : ℕ → Draws → Verb
verb_in stripe d =
    let first = first_byte stripe in
    let kind = d.r1 % 8 in
    if kind == 0 then Pread (byte_offset first d) (byte_length first d ∷ [])
    else (if kind == 2 then Dread (block_offset first d) (block_length d ∷ [])
    else (if kind == 3 then Dwrite (block_offset first d) (replicate (block_length d) (written_byte d) ∷ [])
    else (if kind == 4 then Zero (byte_offset first d) (byte_length first d)
    else (if kind == 5 then Punch (byte_offset first d) (byte_length first d)
    else (if kind == 6 then Wb (64 * stripe) 64
    else Pwrite (byte_offset first d) (replicate (byte_length first d) (written_byte d) ∷ []))))))

-- how many user pages a call has: as many as its blocks, where it is direct
abbrev pub pages_in : Draws → ℕ
pages_in d = if d.r1 % 8 == 2 || d.r1 % 8 == 3 then block_count d else 0

-- a call by its number from 0, the number of the next user page, and what was drawn for it
abbrev pub generated_call : ℕ → ℕ → Draws → Call
generated_call n page d = record {
  phase = phase_of n + 1;
  caller = caller_of n;
  file = record { 0 = 0 };
  first_page = page;
  verb = verb_in (stripe_of (caller_of n) (phase_of n)) d;
}

-- so many calls, the first of which has this number, from a state on and from a user page on
unfoldable pub generated_calls : ℕ → ℕ → ℕ → ℕ → List Call
generated_calls zero n x page = []
generated_calls (suc more) n x page =
    generated_call n page (draws_from x) ∷ generated_calls more (n + 1) (state_after x) (page + pages_in (draws_from x))

-- 32 phases of eight calls of each of eight callers
abbrev pub CALLS_GENERATED : ℕ
CALLS_GENERATED = 2048

-- a cached file of 2048 blocks, all of them holes
abbrev pub generated_file : FileSpec
generated_file = record { mode = Cached; blocks = 2048; size = None; extents = [] }

-- the script of a number, from which all is drawn
abbrev pub generated : ℕ → Script
generated seed = record {
  geometry = layout 512 8;
  device_blocks = 8192;
  fill = 238;
  blocks = [];
  names = codes "g" ∷ [];
  files = generated_file ∷ [];
  faults = [];
  calls = generated_calls CALLS_GENERATED 0 seed 0;
}
