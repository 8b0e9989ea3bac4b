-- What a value of a column means, and its text.
use Rattle.std.specs.Prelude.{◌≡◌, ℕ, ℤ, Bool, true, false, if◌then◌else◌, List, ◌++◌, Option, Some, None, option_map, unwrap_or}
use Rattle.std.specs.Fmt.{decimal, signed_decimal}
use Rattle.std.specs.Float.{binary32, binary64}
use Rattle.std.specs.Float.Ieee.{Float}
use Rattle.blog_value.specs.Bits.{bits_of, bits_text}
use Rattle.blog_value.specs.Dates.{date_of, date_text, year_of, year_text}
use Rattle.blog_value.specs.Decimals.{DecimalValue, decimal_of, decimal_text}
use Rattle.blog_value.specs.Floats.{AppendsFloat, double_of, float_of}
use Rattle.blog_value.specs.Integers.{signed_of, unsigned_of}
use Rattle.blog_value.specs.Kinds.{kind_of}
use Rattle.blog_value.specs.Times.{datetime_of, datetime_text, old_datetime_of, old_time_of, old_timestamp_of, time_of, time_text, timestamp_of}
use Rattle.blog_value.specs.declared.bit_values.Bits as bits
use Rattle.blog_value.specs.declared.dates.Date as date
use Rattle.blog_value.specs.declared.datetimes.DateTime as datetime
use Rattle.blog_value.specs.declared.datetimes.Timestamp as timestamp
use Rattle.blog_value.specs.declared.times.Time as time
use Rattle.blog_value.specs.declared.kinds.Kind as kinds
use Rattle.blog_value.specs.declared.kinds.Kind.TheVariants as kind

-- a value: a number of its kind, or bytes
pub data Meaning : Type 0 where
  IsSigned : (n : ℤ) → Meaning
  IsUnsigned : (n : ℕ) → Meaning
  IsDecimal : (number : DecimalValue) → Meaning
  IsFloat : (x : Float) → Meaning
  IsDouble : (x : Float) → Meaning
  IsYear : (year : ℕ) → Meaning
  IsDate : (day : date.Date) → Meaning
  IsTime : (duration : time.Time) → Meaning
  IsDateTime : (moment : datetime.DateTime) → Meaning
  IsTimestamp : (moment : timestamp.Timestamp) → Meaning
  IsBits : (value : bits.Bits) → Meaning
  IsEnum : (n : ℕ) → Meaning
  IsSet : (n : ℕ) → Meaning
  IsText : (bytes : List ℕ) → Meaning
  IsBlob : (bytes : List ℕ) → Meaning
  IsJson : (bytes : List ℕ) → Meaning
  IsGeometry : (bytes : List ℕ) → Meaning
  IsUnknown : (bytes : List ℕ) → Meaning

-- what bytes mean in a column of a kind, if they are a value of that kind
unfoldable pub meaning_in : kinds.Kind → Bool → List ℕ → Option Meaning
meaning_in (kind.Integer width) unsigned bytes =
    if unsigned then option_map IsUnsigned (unsigned_of width bytes) else option_map IsSigned (signed_of width bytes)
meaning_in (kind.Decimal precision scale) unsigned bytes = option_map IsDecimal (decimal_of precision scale bytes)
meaning_in kind.Float unsigned bytes = option_map IsFloat (float_of bytes)
meaning_in kind.Double unsigned bytes = option_map IsDouble (double_of bytes)
meaning_in kind.Year unsigned bytes = option_map IsYear (year_of bytes)
meaning_in kind.Date unsigned bytes = option_map IsDate (date_of bytes)
meaning_in kind.OldTime unsigned bytes = option_map IsTime (old_time_of bytes)
meaning_in kind.OldDateTime unsigned bytes = option_map IsDateTime (old_datetime_of bytes)
meaning_in kind.OldTimestamp unsigned bytes = option_map IsTimestamp (old_timestamp_of bytes)
meaning_in (kind.Time digits) unsigned bytes = option_map IsTime (time_of digits bytes)
meaning_in (kind.DateTime digits) unsigned bytes = option_map IsDateTime (datetime_of digits bytes)
meaning_in (kind.Timestamp digits) unsigned bytes = option_map IsTimestamp (timestamp_of digits bytes)
meaning_in (kind.Bits count) unsigned bytes = option_map IsBits (bits_of count bytes)
meaning_in (kind.Enum width) unsigned bytes = option_map IsEnum (unsigned_of width bytes)
meaning_in (kind.Set width) unsigned bytes = option_map IsSet (unsigned_of width bytes)
meaning_in kind.Text unsigned bytes = Some (IsText bytes)
meaning_in kind.Blob unsigned bytes = Some (IsBlob bytes)
meaning_in kind.Json unsigned bytes = Some (IsJson bytes)
meaning_in kind.Geometry unsigned bytes = Some (IsGeometry bytes)
meaning_in kind.Other unsigned bytes = None

-- what bytes mean in a column of a type with metadata
unfoldable pub meaning_of : ℕ → List ℕ → Bool → List ℕ → Meaning
meaning_of type metadata unsigned bytes = unwrap_or (meaning_in (kind_of type metadata) unsigned bytes) (IsUnknown bytes)

-- ---- texts

-- the text, if it needs no character set, no time zone and no list of texts; for that of a float see AppendsValue
abbrev pub text_of : Meaning → Option (List ℕ)
text_of (IsSigned n) = Some (signed_decimal n)
text_of (IsUnsigned n) = Some (decimal n)
text_of (IsDecimal number) = Some (decimal_text number)
text_of (IsYear year) = Some (year_text year)
text_of (IsDate day) = Some (date_text day)
text_of (IsTime duration) = Some (time_text duration)
text_of (IsDateTime moment) = Some (datetime_text moment)
text_of (IsBits value) = Some (bits_text value)
text_of _ = None

-- a text is appended, and nothing if there is none
abbrev pub AppendsText : Option (List ℕ) → Bool → List ℕ → List ℕ → Type 0
AppendsText None appended old new = (appended ≡ false) × (new ≡ old)
AppendsText (Some text) appended old new = (appended ≡ true) × (new ≡ old ++ text)

abbrev pub AppendsValue : Meaning → Bool → List ℕ → List ℕ → Type 0
AppendsValue (IsFloat x) appended old new = (appended ≡ true) × AppendsFloat binary32 x old new
AppendsValue (IsDouble x) appended old new = (appended ≡ true) × AppendsFloat binary64 x old new
AppendsValue meaning appended old new = AppendsText (text_of meaning) appended old new
