-- What reading a log and writing do to the bytes of devices. Of a device that does not tell its bytes these words say that
-- there are such bytes, and for the reader that the answer is the one to them.
use Rattle.std.specs.Prelude.{◌≡◌, ◌⊎◌, ◌+◌, ◌≤◌, ◌++◌, ℕ, Bool, true, false, List, length, ⊤, Vec, Option, Result, Ok, Err}
use Rattle.std.specs.Io.KnownBytes.{Appends, Consumes, IsAtEnd}
use Rattle.blog_event.specs.declared.fault.Fault.TheVariants.{TooLong, OutOfMemory}
use Rattle.blog_device.specs.declared.fault.RunFault.{RunFault}
use Rattle.blog_device.specs.declared.fault.RunFault.TheVariants.{Log, Read, Write}

-- ---- the answers that name a device

-- the answer is that a read failed
abbrev pub is_read_fault : {X : Type 0} → Result X RunFault → Bool
is_read_fault (Ok x) = false
is_read_fault (Err (Log fault)) = false
is_read_fault (Err Read) = true
is_read_fault (Err Write) = false

-- the answer is that a write failed
abbrev pub is_write_fault : {X : Type 0} → Result X RunFault → Bool
is_write_fault (Ok x) = false
is_write_fault (Err (Log fault)) = false
is_write_fault (Err Read) = false
is_write_fault (Err Write) = true

-- ---- reading

-- the greatest length of a log, in bytes
abbrev pub greatest_length : ℕ
greatest_length = 4294967295

-- one read gave n bytes, which stand after those that were there before
abbrev pub AppendsRead : Option (List ℕ) → Option (List ℕ) → ℕ → List ℕ → List ℕ → Type 0
AppendsRead old new n before after = (part : List ℕ) × Consumes old new part × (after ≡ before ++ part) × (length part ≡ n)

-- these bytes were read: all that the reader had, and no more than the limit
abbrev pub ReadsAll : ℕ → Option (List ℕ) → Option (List ℕ) → List ℕ → Type 0
ReadsAll limit old new bytes = Consumes old new bytes × IsAtEnd new × (length bytes ≤ limit)

-- one byte more than the limit was read
abbrev pub PassesLimit : ℕ → Option (List ℕ) → Option (List ℕ) → Type 0
PassesLimit limit old new = (bytes : List ℕ) × Consumes old new bytes × (length bytes ≡ limit + 1)

-- what comes of reading up to a limit: all bytes; or memory, more bytes than the limit, or a failed read
abbrev pub ReadsUpTo : {A : Type 0} → ℕ → Option (List ℕ) → Option (List ℕ) → Result (Vec ℕ A) RunFault → Type 0
ReadsUpTo limit old new (Ok bytes) = ReadsAll limit old new bytes.items
ReadsUpTo limit old new (Err (Log fault)) = (fault ≡ OutOfMemory) ⊎ ((fault ≡ TooLong 0) × PassesLimit limit old new)
ReadsUpTo limit old new (Err Read) = ⊤
ReadsUpTo limit old new (Err Write) = ⊥

-- this log was read, to the reader's end
abbrev pub ReadsLog : Option (List ℕ) → Option (List ℕ) → List ℕ → Type 0
ReadsLog old new log = ReadsAll greatest_length old new log

-- ---- writing

-- known bytes grow by a beginning of these
abbrev pub AppendsBeginning : Option (List ℕ) → Option (List ℕ) → List ℕ → Type 0
AppendsBeginning old new bytes = (written rest : List ℕ) × (bytes ≡ written ++ rest) × Appends old new written
