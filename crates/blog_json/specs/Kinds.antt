-- The types of values (MySQL's sources, sql-common/json_binary.h, "type ::=").
use Rattle.std.specs.Prelude.{ℕ, ◌==◌, if◌then◌else◌, Bool, true, false, Option, Some, None}
use Rattle.blog_json.specs.declared.kinds.Width.{Width}
use Rattle.blog_json.specs.declared.kinds.Width.TheVariants.{Small, Large}
use Rattle.blog_json.specs.declared.kinds.Kind.{Kind}
use Rattle.blog_json.specs.declared.kinds.Kind.TheVariants.{Object, Array, Literal, Int16, Uint16, Int32, Uint32, Int64, Uint64, Double, Text, Opaque}

-- how many bytes a count, a size or an offset takes
abbrev pub width_bytes : Width → ℕ
width_bytes Small = 2
width_bytes Large = 4

-- the type that a byte stands for
abbrev pub kind_of : ℕ → Option Kind
kind_of byte =
    if byte == 0 then Some (Object Small)
    else if byte == 1 then Some (Object Large)
    else if byte == 2 then Some (Array Small)
    else if byte == 3 then Some (Array Large)
    else if byte == 4 then Some Literal
    else if byte == 5 then Some Int16
    else if byte == 6 then Some Uint16
    else if byte == 7 then Some Int32
    else if byte == 8 then Some Uint32
    else if byte == 9 then Some Int64
    else if byte == 10 then Some Uint64
    else if byte == 11 then Some Double
    else if byte == 12 then Some Text
    else if byte == 15 then Some Opaque
    else None

-- an entry has the value itself in place of its offset: literals and numbers that are no longer than the offset
abbrev pub is_inlined : Kind → Width → Bool
is_inlined Literal width = true
is_inlined Int16 width = true
is_inlined Uint16 width = true
is_inlined Int32 Large = true
is_inlined Uint32 Large = true
is_inlined kind width = false
