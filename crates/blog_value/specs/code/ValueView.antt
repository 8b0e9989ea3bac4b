-- A value as what it means.
use Rattle.blog_value.specs.Values.{Meaning, IsSigned, IsUnsigned, IsDecimal, IsFloat, IsDouble, IsYear, IsDate, IsTime, IsDateTime, IsTimestamp, IsBits, IsEnum, IsSet, IsText, IsBlob, IsJson, IsGeometry, IsUnknown}
use Rattle.blog_value.specs.code.DecimalView.{decimal_value}
use Rattle.blog_value.specs.declared.values.Value.{Value}
use Rattle.blog_value.specs.declared.values.Value.TheVariants as value

abbrev pub value_meaning : Value → Meaning
value_meaning (value.Signed n) = IsSigned n
value_meaning (value.Unsigned n) = IsUnsigned n
value_meaning (value.Decimal number) = IsDecimal (decimal_value number)
value_meaning (value.Float x) = IsFloat x
value_meaning (value.Double x) = IsDouble x
value_meaning (value.Year year) = IsYear year
value_meaning (value.Date day) = IsDate day
value_meaning (value.Time duration) = IsTime duration
value_meaning (value.DateTime moment) = IsDateTime moment
value_meaning (value.Timestamp moment) = IsTimestamp moment
value_meaning (value.Bits bits) = IsBits bits
value_meaning (value.Enum n) = IsEnum n
value_meaning (value.Set n) = IsSet n
value_meaning (value.Text bytes) = IsText bytes.now
value_meaning (value.Blob bytes) = IsBlob bytes.now
value_meaning (value.Json bytes) = IsJson bytes.now
value_meaning (value.Geometry bytes) = IsGeometry bytes.now
value_meaning (value.Unknown bytes) = IsUnknown bytes.now
