-- The format description event, the first of each file (MySQL Internals manual, "FORMAT_DESCRIPTION_EVENT").
-- Body: binlog version, 2 bytes; server version, 50; creation time, 4; header length, 1; the post-header length of
-- each event type from 1 on, 1 each; and of a server from 5.6.1 on checksum algorithm, 1; checksum, 4.
use Rattle.std.specs.Prelude.{ℕ, ◌+◌, ◌-◌, ◌*◌, ◌==◌, ◌&&◌, ◌||◌, nat_lt, nat_le, not, Bool, if◌then◌else◌, List, [], ◌∷◌, length, take, drop, fold, slice_index, Option, Some, None}
use Rattle.std.specs.Char.{is_ascii_digit}
use Rattle.std.specs.List.{list_all}
use Rattle.byteorder.specs.Endian.{little_number}
use Rattle.blog_event.specs.declared.fault.Fault.TheVariants.{BadFormat, OldServer, Checksums}
use Rattle.blog_event.specs.declared.format.Version as told
use Rattle.blog_event.specs.Fault.{Cause, needs, first_failing}
use Rattle.blog_event.specs.Event.{Event}

-- ---- the server version: three numbers joined by points, and anything after them

-- major, minor and patch number
pub record Version : Type 0 where
  pub major : ℕ
  pub minor : ℕ
  pub patch : ℕ

-- a version of the program, by its numbers
abbrev pub version_value : told.Version → Version
version_value v = record { major = v.major; minor = v.minor; patch = v.patch }

-- the elements in front of the first that fails the test
abbrev pub front_while : {A : Type 0} → (A → Bool) → List A → List A
front_while test [] = []
front_while test (x ∷ xs) = if test x then x ∷ front_while test xs else []

-- the number that digits write
abbrev pub decimal : List ℕ → ℕ
decimal digits = fold (λ n digit. 10 * n + (digit - 48)) 0 digits

-- a number at the front, the longest run of digits and one to three of them, and what follows it
abbrev pub number_front : List ℕ → Option (ℕ × List ℕ)
number_front bytes =
    let digits = front_while is_ascii_digit bytes in
    if nat_le 1 (length digits) && nat_le (length digits) 3 then Some (decimal digits, drop (length digits) bytes) else None

-- what follows a point at the front
abbrev pub after_point : List ℕ → Option (List ℕ)
after_point [] = None
after_point (byte ∷ bytes) = if byte == 46 then Some bytes else None

infixl 10 ◌>>=◌
abbrev pub ◌>>=◌ : {A B : Type 0} → Option A → (A → Option B) → Option B
None >>= f = None
(Some x) >>= f = f x

unfoldable pub version_of : List ℕ → Option Version
version_of bytes = do
  major ← number_front bytes
  first ← after_point major.1
  minor ← number_front first
  second ← after_point minor.1
  patch ← number_front second
  Some (record { major = major.0; minor = minor.0; patch = patch.0 })

-- number by number
abbrev pub is_older : Version → Version → Bool
is_older v w = nat_lt v.major w.major || (v.major == w.major && (nat_lt v.minor w.minor || (v.minor == w.minor && nat_lt v.patch w.patch)))

-- ---- the fields of the body

-- the first field
abbrev pub binlog_version : List ℕ → ℕ
binlog_version body = little_number 2 body

-- the field of 50 bytes up to its first zero byte
abbrev pub version_text : List ℕ → List ℕ
version_text body = front_while (λ byte. not (byte == 0)) (take 50 (drop 2 body))

-- the field behind the creation time
abbrev pub header_length : List ℕ → ℕ
header_length body = slice_index body 56

-- the post-header length of an event type
abbrev pub post_header_length : List ℕ → ℕ → ℕ
post_header_length body kind = slice_index body (56 + kind)

-- each of these types has this post-header length
abbrev pub has_lengths : List (ℕ × ℕ) → List ℕ → Bool
has_lengths lengths body = list_all (λ entry. post_header_length body entry.0 == entry.1) lengths

-- the fifth byte from the end, of a server from 5.6.1 on
abbrev pub checksum_algorithm : List ℕ → ℕ
checksum_algorithm body = slice_index body (length body - 5)

-- ---- the checks

-- a server below 5.6.1, which brought the checksum algorithm into this event
abbrev pub is_old : Version → Bool
is_old v = is_older v (record { major = 5; minor = 6; patch = 1 })

-- before: 25 types at least; Query, Table_map, and the rows events of version 1
abbrev pub old_lengths : List (ℕ × ℕ)
old_lengths = (2, 13) ∷ (19, 8) ∷ (23, 8) ∷ (24, 8) ∷ (25, 8) ∷ []

-- since then: 32 types at least; Query, Table_map, and the rows events of version 2
abbrev pub checked_lengths : List (ℕ × ℕ)
checked_lengths = (2, 13) ∷ (19, 8) ∷ (30, 10) ∷ (31, 10) ∷ (32, 10) ∷ []

-- the checks by the server's version: it is readable; the post-header lengths
abbrev pub server_checks : Option Version → List ℕ → List (Option Cause)
server_checks None body = Some OldServer ∷ []
server_checks (Some v) body =
    (if is_old v
    then needs (nat_le 82 (length body) && has_lengths old_lengths body) BadFormat
    else needs (nat_le 94 (length body) && has_lengths checked_lengths body) BadFormat) ∷ []

-- the checksum algorithm by the server's version: below 5.6.1 there is none
abbrev pub algorithm_by : Option Version → List ℕ → ℕ
algorithm_by None body = 0
algorithm_by (Some v) body = if is_old v then 0 else checksum_algorithm body

-- the checksum algorithm of the events of a file: 0 none, 1 CRC-32
abbrev pub algorithm : List ℕ → ℕ
algorithm body = algorithm_by (version_of (version_text body)) body

-- the first check of the event at 4 that fails, whatever its checksum algorithm is
unfoldable pub description_fault : Event → Option Cause
description_fault e = first_failing (
    needs (e.kind == 15) BadFormat
    ∷ needs (nat_le 57 (length e.body)) BadFormat
    ∷ needs (binlog_version e.body == 4 && header_length e.body == 19) BadFormat
    ∷ server_checks (version_of (version_text e.body)) e.body)

-- the first check of the event at 4 that fails: the last is that there are no checksums
unfoldable pub format_fault : Event → Option Cause
format_fault e = first_failing (description_fault e ∷ needs (algorithm e.body == 0) Checksums ∷ [])
