-- Literals and whole numbers (MySQL's sources, sql-common/json_binary.h, "literal ::=", "int16 ::=" and what follows): the lowest byte
-- first, signed ones in two's complement.
use Rattle.std.specs.Prelude.{ℕ, ◌==◌, nat_le, if◌then◌else◌, true, false, List, [], ◌∷◌, length, codes, Option, Some, None, option_and_then}
use Rattle.std.specs.Int.{w16, w32, w64, cast_signed}
use Rattle.std.specs.Fmt.{decimal, signed_decimal}
use Rattle.byteorder.specs.Endian.{little_number}
use Rattle.blog_json.specs.declared.kinds.Width.{Width}
use Rattle.blog_json.specs.declared.kinds.Kind.{Kind}
use Rattle.blog_json.specs.declared.kinds.Kind.TheVariants.{Literal, Int16, Uint16, Int32, Uint32, Int64, Uint64}
use Rattle.blog_json.specs.declared.scalars.Scalar.{Scalar}
use Rattle.blog_json.specs.declared.scalars.Scalar.TheVariants.{Null, Truth, Signed, Unsigned}
use Rattle.blog_json.specs.Kinds.{width_bytes}

-- the number that the first n bytes spell, if there are that many
abbrev pub number_front : ℕ → List ℕ → Option ℕ
number_front n bytes = if nat_le n (length bytes) then Some (little_number n bytes) else None

-- a count, a size or an offset
abbrev pub size_front : Width → List ℕ → Option ℕ
size_front width bytes = number_front (width_bytes width) bytes

-- a literal
abbrev pub literal_front : List ℕ → Option Scalar
literal_front [] = None
literal_front (byte ∷ rest) =
    if byte == 0 then Some Null
    else if byte == 1 then Some (Truth true)
    else if byte == 2 then Some (Truth false)
    else None

-- how many bytes a whole number takes
abbrev pub number_bytes : Kind → Option ℕ
number_bytes Int16 = Some 2
number_bytes Uint16 = Some 2
number_bytes Int32 = Some 4
number_bytes Uint32 = Some 4
number_bytes Int64 = Some 8
number_bytes Uint64 = Some 8
number_bytes kind = None

-- the literal or the whole number at the front
abbrev pub scalar_front : Kind → List ℕ → Option Scalar
scalar_front Literal bytes = literal_front bytes
scalar_front Int16 bytes = option_and_then (λ n. Some (Signed (cast_signed w16 n))) (number_front 2 bytes)
scalar_front Uint16 bytes = option_and_then (λ n. Some (Unsigned n)) (number_front 2 bytes)
scalar_front Int32 bytes = option_and_then (λ n. Some (Signed (cast_signed w32 n))) (number_front 4 bytes)
scalar_front Uint32 bytes = option_and_then (λ n. Some (Unsigned n)) (number_front 4 bytes)
scalar_front Int64 bytes = option_and_then (λ n. Some (Signed (cast_signed w64 n))) (number_front 8 bytes)
scalar_front Uint64 bytes = option_and_then (λ n. Some (Unsigned n)) (number_front 8 bytes)
scalar_front kind bytes = None

-- its text
abbrev pub scalar_text : Scalar → List ℕ
scalar_text Null = codes "null"
scalar_text (Truth true) = codes "true"
scalar_text (Truth false) = codes "false"
scalar_text (Signed n) = signed_decimal n
scalar_text (Unsigned n) = decimal n
