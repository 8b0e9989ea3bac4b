-- Which global transaction ids a user asks for (MySQL 8.4 Reference Manual, "GTID Format and Storage").
use Rattle.std.specs.Prelude.{ℕ, ◌+◌, ◌^◌, ◌==◌, ◌&&◌, ◌||◌, Bool, true, false, nat_le, nat_lt, if◌then◌else◌, List, [], ◌∷◌, ◌++◌, length, take, drop, slice_index, Option, Some, None, option_map, bytes_eq, position, unwrap_or}
use Rattle.std.specs.Char.{is_ascii_digit, is_ascii_lowercase}
use Rattle.std.specs.List.{list_all, list_any}
use Rattle.std.specs.Option.{option_map_or}
use Rattle.std.specs.Result.{result_ok}
use Rattle.std.specs.Str.Parse.{digits_value}
use Rattle.hex.specs.Hex.{decode_sized}
use Rattle.blog_event.specs.Format.{◌>>=◌}
use Rattle.blog_units.specs.Units.{Id}
use Rattle.blog_choice.specs.Choice.{is_nil}

-- the ids of a server, with a tag or without, whose numbers are from the first to the last
pub record Ids : Type 0 where
  pub server : List ℕ
  pub tag : List ℕ
  pub first : ℕ
  pub last : ℕ

-- an id is among them; a server counts from 1, and the number 0 says nothing
abbrev pub has_id : Ids → Id → Bool
has_id ids id = bytes_eq id.server ids.server && bytes_eq id.tag ids.tag && nat_lt 0 id.number && nat_le ids.first id.number && nat_le id.number ids.last

-- a unit's id is among those that are asked for, or none is asked for
abbrev pub is_of_ids : List Ids → Option Id → Bool
is_of_ids asked id = is_nil asked || option_map_or (λ id. list_any (λ ids. has_id ids id) asked) id false

-- ---- how they are spelled

-- what is before the first byte of this value, and what is after it
abbrev pub cut_at : ℕ → List ℕ → Option (List ℕ × List ℕ)
cut_at byte text = option_map (λ at. (take at text, drop (at + 1) text)) (position (λ b. b == byte) text)

-- 36 bytes with hyphens at four places
abbrev pub is_hyphened : List ℕ → Bool
is_hyphened text = length text == 36 && slice_index text 8 == 45 && slice_index text 13 == 45 && slice_index text 18 == 45 && slice_index text 23 == 45

-- what is between the hyphens
abbrev pub without_hyphens : List ℕ → List ℕ
without_hyphens text = take 8 text ++ take 4 (drop 9 text) ++ take 4 (drop 14 text) ++ take 4 (drop 19 text) ++ drop 24 text

-- a server's 16 bytes: 8, 4, 4, 4 and 12 hexadecimal digits in either case, joined by hyphens
unfoldable pub read_server : List ℕ → Option (List ℕ)
read_server text = if is_hyphened text then result_ok (decode_sized (without_hyphens text) 16) else None

-- a letter from a to z or an underscore
abbrev pub begins_tag : ℕ → Bool
begins_tag byte = is_ascii_lowercase byte || byte == 95

-- such bytes and digits
abbrev pub are_of_tag : List ℕ → Bool
are_of_tag bytes = list_all (λ byte. begins_tag byte || is_ascii_digit byte) bytes

-- a tag: 1 to 32 such bytes, of which the first is no digit
abbrev pub is_tag : List ℕ → Bool
is_tag text = nat_le 1 (length text) && nat_le (length text) 32 && begins_tag (slice_index text 0) && are_of_tag text

-- a tag, a colon and numbers; without a colon numbers alone
abbrev pub read_tag : List ℕ → Option (List ℕ × List ℕ)
read_tag text = option_map_or (λ parts. if is_tag parts.0 then Some parts else None) (cut_at 58 text) (Some ([], text))

-- decimal digits and nothing else
abbrev pub are_digits : List ℕ → Bool
are_digits text = list_all is_ascii_digit text

-- a number from 1 to 2^64 - 1
unfoldable pub read_number : List ℕ → Option ℕ
read_number text =
    let n = digits_value 10 text in
    if are_digits text && nat_lt 0 n && nat_lt n (2 ^ 64) then Some n else None

-- the first number and the last, joined by a hyphen; one number is both
abbrev pub read_numbers : List ℕ → Option (ℕ × ℕ)
read_numbers text = do
  first ← read_number (unwrap_or (cut_at 45 text) (text, text)).0
  last ← read_number (unwrap_or (cut_at 45 text) (text, text)).1
  if nat_le first last then Some (first, last) else None

-- ids as a user writes them: `SERVER:NUMBERS` or `SERVER:TAG:NUMBERS`
unfoldable pub read_ids : List ℕ → Option Ids
read_ids text = do
  parts ← cut_at 58 text
  server ← read_server parts.0
  tagged ← read_tag parts.1
  numbers ← read_numbers tagged.1
  Some (record { server = server; tag = tagged.0; first = numbers.0; last = numbers.1 })
