-- Values of types of columns that JSON lacks, as MySQL prints them (MySQL's sources, sql-common/json_dom.cc,
-- `Json_wrapper::to_string`).
use Rattle.std.specs.Prelude.{ℕ, zero, suc, ◌-◌, ◌/◌, ◌==◌, ◌||◌, if◌then◌else◌, List, [], ◌∷◌, ◌++◌, length, take, drop, codes, Option, Some, None, option_and_then}
use Rattle.std.specs.Fmt.{decimal}
use Rattle.base64.specs.Engines.{standard}
use Rattle.base64.specs.GeneralPurpose.{encode_of}
use Rattle.blog_json.specs.Lengths.{sized_front}
use Rattle.blog_json.specs.Times.{date_text, datetime_text, time_text}

-- base64 of so many lines of 57 bytes, each with an escaped line feed behind it, and of the bytes that are left
unfoldable pub lines_text : ℕ → List ℕ → List ℕ
lines_text zero bytes = encode_of standard bytes
lines_text (suc lines) bytes = encode_of standard (take 57 bytes) ++ (92 ∷ 110 ∷ lines_text lines (drop 57 bytes))

-- the same of all lines: no line feed stands behind the last
unfoldable pub lines_of : List ℕ → List ℕ
lines_of bytes = lines_text ((length bytes - 1) / 57) bytes

-- the name of the encoding
unfoldable pub base64_name : List ℕ
base64_name = codes "\"base64:type"

-- what stands in front of the bytes of a type of columns
abbrev pub type_text : ℕ → List ℕ
type_text kind = base64_name ++ (decimal kind ++ (58 ∷ []))

-- bytes of a type of columns
abbrev pub base64_text : ℕ → List ℕ → List ℕ
base64_text kind bytes = type_text kind ++ (lines_of bytes ++ 34 ∷ [])

-- the text of bytes of a type of columns, where `text` stands for that of a decimal number
abbrev pub column_text : ℕ → List ℕ → List ℕ → Option (List ℕ)
column_text kind bytes text =
    if kind == 246 then Some text
    else if kind == 10 then date_text bytes
    else if kind == 11 then time_text bytes
    else if kind == 12 || kind == 7 then datetime_text bytes
    else Some (base64_text kind bytes)

-- the same of a type and the bytes behind their length
abbrev pub opaque_text : List ℕ → List ℕ → Option (List ℕ)
opaque_text [] text = None
opaque_text (kind ∷ rest) text = option_and_then (λ own. column_text kind own text) (sized_front rest)
