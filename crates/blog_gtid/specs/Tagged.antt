-- The body of a tagged GTID event (MySQL source code documentation, "mysql::serialization"; event type 42,
-- "GTID_TAGGED_LOG_EVENT"), and of the Gtid event that it becomes (event type 33, "GTID_LOG_EVENT").
use Rattle.std.specs.Prelude.{◌≡◌, ◌↔◌, ◌⊎◌, ◌<◌, ◌≤◌, ℕ, ◌*◌, ◌==◌, ◌&&◌, nat_lt, nat_le, if◌then◌else◌, List, [], ◌∷◌, ◌++◌, length, take, replicate, Option, Some, None}
use Rattle.std.specs.List.{AllByRecursion}
use Rattle.std.specs.Option.{option_map_or}
use Rattle.byteorder.specs.Endian.{little_bytes}
use Rattle.blog_event.specs.Format.{◌>>=◌}
use Rattle.blog_gtid.specs.declared.tagged.TaggedId as told
use Rattle.blog_gtid.specs.Integers.{BeginWith, integer_front, byte_front, bytes_front, signed_front}

-- flags, the server's UUID, the transaction's number, and the tag, which can be empty
pub record TaggedId : Type 0 where
  pub flags : ℕ
  pub server : List ℕ
  pub number : ℕ
  pub tag : List ℕ

-- the same of the program
abbrev pub tagged_value : told.TaggedId → TaggedId
tagged_value id = record { flags = id.flags; server = id.server; number = id.number; tag = id.tag.now }

-- ---- what a body is

-- what is after the number: field 3 with the tag's length and bytes, or no tag, and then nothing or a later field
abbrev pub HasTag : List ℕ → List ℕ → Type 0
HasTag tag bytes =
    ((length tag ≤ 32) × ((rest : List ℕ) × BeginWith (3 ∷ length tag ∷ []) (tag ++ rest) bytes))
    ⊎ ((tag ≡ []) × ((bytes ≡ []) ⊎ ((id : ℕ) × (rest : List ℕ) × (3 < id) × BeginWith (id ∷ []) rest bytes)))

-- version 1, the size of the body, the id of the last field that a reader has to know; field 0, the flags; field 1, the
-- bytes of the UUID, each an integer; field 2, the number, twice as large; then the tag
pub record HasTagged (body : List ℕ) (id : TaggedId) : Type 0 where
  pub last : ℕ
  pub after : List ℕ
  pub flags : id.flags < 256
  pub server : AllByRecursion (λ byte. byte < 256) id.server
  pub server_len : length id.server ≡ 16
  pub text : BeginWith (1 ∷ length body ∷ last ∷ 0 ∷ id.flags ∷ 1 ∷ (id.server ++ 2 ∷ 2 * id.number ∷ [])) after body
  pub tag : HasTag id.tag after

-- ---- the parts of a message

-- the version of the format, which is 1, the size of the whole message, and the id of the last field that a reader has to
-- know; the bytes after these
unfoldable pub after_header : List ℕ → Option (List ℕ)
after_header body = do
  version ← integer_front body
  size ← integer_front version.1
  last ← integer_front size.1
  if version.0 == 1 && size.0 == length body then Some last.1 else None

-- the bytes after a field's id
unfoldable pub after_id : ℕ → List ℕ → Option (List ℕ)
after_id id bytes = do
  found ← integer_front bytes
  if found.0 == id then Some found.1 else None

-- a text of at most 32 bytes, after its length
unfoldable pub text_front : List ℕ → Option (List ℕ)
text_front bytes = do
  size ← integer_front bytes
  if nat_le size.0 32 && nat_le size.0 (length size.1) then Some (take size.0 size.1) else None

-- the tag: field 3, or none where the message ends or a later field follows
unfoldable pub tag_of : List ℕ → Option (List ℕ)
tag_of [] = Some []
tag_of (first ∷ bytes) = do
  id ← integer_front (first ∷ bytes)
  if id.0 == 3 then text_front id.1 else if nat_lt 3 id.0 then Some [] else None

-- ---- the body

-- the fields 0 to 3; the later ones aren't read
unfoldable pub tagged_of : List ℕ → Option TaggedId
tagged_of body = do
  fields ← after_header body
  flags ← after_id 0 fields >>= byte_front
  server ← after_id 1 flags.1 >>= bytes_front 16
  number ← after_id 2 server.1 >>= signed_front
  tag ← tag_of number.1
  Some (record { flags = flags.0; server = server.0; number = number.0; tag = tag })

-- an identifier is read exactly where the body has it
abbrev pub ReadsTagged : List ℕ → TaggedId → Type 0
ReadsTagged body id = (tagged_of body ≡ Some id) ↔ HasTagged body id

-- flags, UUID and number: the 25 bytes with which the body of a Gtid event begins
abbrev pub fixed_text : TaggedId → List ℕ
fixed_text id = id.flags ∷ (id.server ++ little_bytes 8 id.number)

-- a tag after these: the byte 42, and the tag. The body that a server writes ends before, or has the byte 2 there.
abbrev pub tag_text : List ℕ → List ℕ
tag_text [] = []
tag_text (first ∷ tag) = 42 ∷ first ∷ tag

-- the body of the Gtid event that a tagged one becomes, with its tag; 25 zero bytes where the tagged one can't be read
unfoldable pub gtid_body_of : List ℕ → List ℕ
gtid_body_of body = option_map_or (λ id. fixed_text id ++ tag_text id.tag) (tagged_of body) (replicate 25 0)
