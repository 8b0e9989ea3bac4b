-- Objects and arrays (MySQL's sources, sql-common/json_binary.h, "object ::=" and "array ::="): a count, a size in bytes, an entry for
-- each key (its offset and its length), an entry for each value (its type, and its offset or the value itself), and what the
-- offsets lead to. They count from the start of the count.
use Rattle.std.specs.Prelude.{ℕ, ◌+◌, ◌*◌, nat_le, nat_lt, if◌then◌else◌, List, [], ◌∷◌, Option, Some, None, option_and_then, option_map}
use Rattle.std.specs.Borrow.{Bor}
use Rattle.blog_json.specs.declared.kinds.Width.{Width}
use Rattle.blog_json.specs.declared.kinds.Width.TheVariants.{Small, Large}
use Rattle.blog_json.specs.declared.kinds.Kind.{Kind}
use Rattle.blog_json.specs.declared.containers.Form.{Form}
use Rattle.blog_json.specs.declared.containers.Form.TheVariants.{Object, Array}
use Rattle.blog_json.specs.declared.containers.Container.{Container}
use Rattle.blog_json.specs.Kinds.{width_bytes, kind_of, is_inlined}
use Rattle.blog_json.specs.Scalars.{size_front}
use Rattle.blog_json.specs.Slices.{bytes_from, bytes_within}

-- an object or an array: whether it has keys, how wide its counts and offsets are, how many values it has, and its bytes
pub record Held : Type 0 where
  pub form : Form
  pub width : Width
  pub count : ℕ
  pub own : List ℕ

-- the same of one of the program
abbrev pub container_seen : Container → Held
container_seen c = record { form = c.form; width = c.width; count = c.count; own = c.bytes.now }

-- how many bytes the entries of so many keys take: an offset and a length of two bytes each
abbrev pub keys_len : Width → ℕ → ℕ
keys_len Small keys = 4 * keys
keys_len Large keys = 6 * keys

-- how many bytes the entries of so many values take: a type of one byte and an offset each
abbrev pub values_len : Width → ℕ → ℕ
values_len Small values = 3 * values
values_len Large values = 5 * values

-- where the entries of the values begin
abbrev pub values_start : Form → Width → ℕ → ℕ
values_start Object width count = 2 * width_bytes width + keys_len width count
values_start Array width count = 2 * width_bytes width

-- where they end
abbrev pub entries_end : Form → Width → ℕ → ℕ
entries_end form width count = values_start form width count + values_len width count

-- the object or the array at the front, if its size and its entries lie within the bytes
abbrev pub container_front : Form → Width → List ℕ → Option Held
container_front form width bytes =
    option_and_then (λ count. option_and_then (λ behind. option_and_then (λ size. option_and_then (λ own.
    if nat_le (entries_end form width count) size then Some (record { form = form; width = width; count = count; own = own }) else None)
    (bytes_within 0 size bytes)) (size_front width behind)) (bytes_from (width_bytes width) bytes)) (size_front width bytes)

-- the key of a value by its number from 0, if it lies behind all entries
abbrev pub key_at : Held → ℕ → Option (List ℕ)
key_at c i =
    option_and_then (λ entry. option_and_then (λ offset. option_and_then (λ behind. option_and_then (λ len.
    if nat_lt offset (entries_end c.form c.width c.count) then None else bytes_within offset len c.own)
    (size_front Small behind)) (bytes_from (width_bytes c.width) entry)) (size_front c.width entry))
    (bytes_from (2 * width_bytes c.width + keys_len c.width i) c.own)

-- a value of this type, whose entry begins at a place and has these bytes behind its type
abbrev pub place_of : Held → ℕ → List ℕ → Kind → Option (Kind × List ℕ)
place_of c start place kind =
    if is_inlined kind c.width then option_map (λ bytes. (kind, bytes)) (bytes_within 0 (width_bytes c.width) place)
    else option_and_then (λ offset. if nat_le offset (start + width_bytes c.width) then None
    else option_map (λ bytes. (kind, bytes)) (bytes_from offset c.own)) (size_front c.width place)

-- the same of an entry from its type on
abbrev pub entry_of : Held → ℕ → List ℕ → Option (Kind × List ℕ)
entry_of c start [] = None
entry_of c start (first ∷ place) = option_and_then (place_of c start place) (kind_of first)

-- the type of a value by its number from 0, and the bytes at whose front it is
abbrev pub entry_at : Held → ℕ → Option (Kind × List ℕ)
entry_at c i =
    option_and_then (entry_of c (values_start c.form c.width c.count + values_len c.width i))
    (bytes_from (values_start c.form c.width c.count + values_len c.width i) c.own)

-- the same of a pair of the program
abbrev pub entry_seen : Kind × Bor (List ℕ) → Kind × List ℕ
entry_seen pair = (pair.0, pair.1.now)
