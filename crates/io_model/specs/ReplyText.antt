use Rattle.std.specs.Prelude.{ℕ, List, [], ◌∷◌, codes, decimal, if◌then◌else◌}
use Rattle.hex.specs.Hex.{encode_lower}
use Rattle.iob_base.specs.declared.answer.Alignment.TheVariants.{Offset, Segment}
use Rattle.iob_base.specs.declared.answer.Fault.{Fault}
use Rattle.iob_base.specs.declared.answer.Fault.TheVariants.{Eio, SyncEio, Again, NoMemory, NotAligned, TooFar, NoSpace, Worn}
use Rattle.iob_base.specs.declared.answer.Reply.{Reply}
use Rattle.iob_base.specs.declared.answer.Reply.TheVariants.{Ok, Err}
use Rattle.iob_base.specs.declared.answer.Stop.{Stop}
use Rattle.iob_base.specs.declared.answer.Stop.TheVariants.{Whole, End}
use Rattle.iob_base.specs.declared.answer.Stop.TheVariants.{Fault as Short}
use Rattle.io_model.specs.Calls.{is_read, is_direct}
use Rattle.io_model.specs.Text.{◌⋅◌}
use Rattle.io_model.specs.declared.script.Verb.{Verb}
use Rattle.io_model.specs.declared.script.Verb.TheVariants.{Pread, Pwrite, Dread, Dwrite, Xread, Xwrite, Zero, Punch, Alloc, Wb, Sync, Drop, Trunc}

-- bytes in lower case hexadecimal, and no bytes as a dash
abbrev pub hex_text : List ℕ → List ℕ
hex_text [] = codes "-"
hex_text (x ∷ xs) = encode_lower (x ∷ xs)

abbrev pub verb_text : Verb → List ℕ
verb_text (Pread _ _) = codes "pread"
verb_text (Pwrite _ _) = codes "pwrite"
verb_text (Dread _ _) = codes "dread"
verb_text (Dwrite _ _) = codes "dwrite"
verb_text (Xread _ _) = codes "xread"
verb_text (Xwrite _ _) = codes "xwrite"
verb_text (Zero _ _) = codes "zero"
verb_text (Punch _ _) = codes "punch"
verb_text (Alloc _ _) = codes "alloc"
verb_text (Wb _ _) = codes "wb"
verb_text Sync = codes "sync"
verb_text Drop = codes "drop"
verb_text (Trunc _) = codes "trunc"

-- a fault, and what comes after it; `Again` is never printed, since no script call goes without waiting
abbrev pub fault_text : Fault → List ℕ → List ℕ
fault_text (Eio lane before now) rest = codes "EIO lane " ⋅ decimal lane ⋅ codes " rose " ⋅ decimal before ⋅ codes " " ⋅ decimal now ⋅ rest
fault_text (SyncEio seen count) rest = codes "EIO seen " ⋅ decimal seen ⋅ codes " count " ⋅ decimal count ⋅ rest
fault_text (Again _) rest = codes "EAGAIN" ⋅ rest
fault_text NoMemory rest = codes "ENOMEM" ⋅ rest
fault_text (NotAligned (Offset n)) rest = codes "EINVAL offset " ⋅ decimal n ⋅ rest
fault_text (NotAligned (Segment index n)) rest = codes "EINVAL segment " ⋅ decimal index ⋅ codes " length " ⋅ decimal n ⋅ rest
fault_text (TooFar offset end) rest = codes "EFBIG offset " ⋅ decimal offset ⋅ codes " end " ⋅ decimal end ⋅ rest
fault_text (NoSpace wanted found) rest = codes "ENOSPC wanted " ⋅ decimal wanted ⋅ codes " found " ⋅ decimal found ⋅ rest
fault_text (Worn cookie) rest = codes "EOVERFLOW cookie " ⋅ decimal cookie ⋅ rest

abbrev pub stop_text : Stop → List ℕ → List ℕ
stop_text Whole rest = rest
stop_text End rest = codes " short END" ⋅ rest
stop_text (Short fault) rest = codes " short " ⋅ fault_text fault rest

-- an Ok tells its count, a read its bytes too, and then how it stopped; an Err tells its fault, and a
-- direct call's how many blocks it sent
abbrev pub reply_text : Verb → Reply → List ℕ → List ℕ → List ℕ
reply_text verb (Ok count stop) got rest =
    codes "ok " ⋅ decimal count ⋅ (if is_read verb then codes " " ⋅ hex_text got ⋅ stop_text stop rest else stop_text stop rest)
reply_text verb (Err fault sent) got rest =
    codes "err " ⋅ fault_text fault (if is_direct verb then codes " sent " ⋅ decimal sent ⋅ rest else rest)
