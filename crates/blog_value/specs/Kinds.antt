-- What kind of values a column has, by its type and its metadata in the table map (MySQL Internals manual, "Table_map_event").
use Rattle.std.specs.Prelude.{ℕ, ◌+◌, ◌*◌, ◌==◌, if◌then◌else◌, List, [], ◌∷◌}
use Rattle.blog_value.specs.declared.kinds.Kind.{Kind}
use Rattle.blog_value.specs.declared.kinds.Kind.TheVariants.{Integer, Decimal, Float, Double, Year, Date, OldTime, OldDateTime, OldTimestamp, Time, DateTime, Timestamp, Bits, Enum, Set, Text, Blob, Json, Geometry, Other}

-- the kind of a type among these
abbrev pub kind_among : List (ℕ × Kind) → Kind → ℕ → Kind
kind_among [] other type = other
kind_among (one ∷ others) other type = if type == one.0 then one.1 else kind_among others other type

-- the types whose values don't depend on metadata
unfoldable pub plain_kind : ℕ → Kind
plain_kind type =
    kind_among
    ((1, Integer 1)  -- TINY
    ∷ (2, Integer 2)  -- SHORT
    ∷ (3, Integer 4)  -- LONG
    ∷ (4, Float)  -- FLOAT
    ∷ (5, Double)  -- DOUBLE
    ∷ (7, OldTimestamp)  -- TIMESTAMP
    ∷ (8, Integer 8)  -- LONGLONG
    ∷ (9, Integer 3)  -- INT24
    ∷ (10, Date)  -- DATE
    ∷ (11, OldTime)  -- TIME
    ∷ (12, OldDateTime)  -- DATETIME
    ∷ (13, Year)  -- YEAR
    ∷ (15, Text)  -- VARCHAR
    ∷ (245, Json)  -- JSON
    ∷ (252, Blob)  -- BLOB
    ∷ (255, Geometry)  -- GEOMETRY
    ∷ [])
    Other type

-- types whose metadata is one byte: the digits of a fraction
unfoldable pub byte_kind : ℕ → ℕ → Kind
byte_kind type digits =
    kind_among
    ((17, Timestamp digits)  -- TIMESTAMP2
    ∷ (18, DateTime digits)  -- DATETIME2
    ∷ (19, Time digits)  -- TIME2
    ∷ [])
    (plain_kind type) type

-- a STRING column: an ENUM (247) of one or two bytes or a SET (248) of up to eight, or text
abbrev pub string_kind : ℕ → ℕ → Kind
string_kind real width = if real == 247 then Enum width else if real == 248 then Set width else Text

-- types whose metadata is two bytes
unfoldable pub pair_kind : ℕ → ℕ → ℕ → Kind
pair_kind type first second =
    kind_among
    ((16, Bits (8 * second + first))  -- BIT: the bits that are over, and the whole bytes
    ∷ (246, Decimal first second)  -- NEWDECIMAL: the digits, and those behind the point
    ∷ (254, string_kind first second)  -- STRING
    ∷ [])
    (plain_kind type) type

unfoldable pub kind_of : ℕ → List ℕ → Kind
kind_of type (digits ∷ []) = byte_kind type digits
kind_of type (first ∷ second ∷ []) = pair_kind type first second
kind_of type metadata = plain_kind type
