-- Dates and times, packed into bits (MySQL's sources, mysys/my_time.cc, `TIME_from_longlong_datetime_packed`): from the lowest on 24 bits
-- of millionths of a second, 6 of seconds, 6 of minutes, and then 5 of hours, 5 of days and years of 13 months, or 10 of hours.
use Rattle.std.specs.Prelude.{ℕ, ◌/◌, ◌%◌, ◌^◌, ◌==◌, ◌&&◌, nat_lt, not, unsigned_abs, if◌then◌else◌, Bool, List, [], ◌∷◌, ◌++◌, length, Option, Some, None, option_and_then}
use Rattle.std.specs.Int.{w64, cast_signed, is_negative}
use Rattle.std.specs.Fmt.{sign_text}
use Rattle.byteorder.specs.Endian.{little_number}
use Rattle.blog_json.specs.Texts.{padded}
use Rattle.blog_json.specs.declared.times.Packed.{Packed}

-- what eight bytes hold, the lowest first
abbrev pub packed_of : List ℕ → Option Packed
packed_of bytes =
    if length bytes == 8 then Some (record { is_negative = is_negative (cast_signed w64 (little_number 8 bytes)); bits = unsigned_abs (cast_signed w64 (little_number 8 bytes)) })
    else None

abbrev pub fraction_of : ℕ → ℕ
fraction_of bits = bits % 2 ^ 24

abbrev pub second_of : ℕ → ℕ
second_of bits = bits / 2 ^ 24 % 2 ^ 6

abbrev pub minute_of : ℕ → ℕ
minute_of bits = bits / 2 ^ 30 % 2 ^ 6

abbrev pub hour_of : ℕ → ℕ
hour_of bits = bits / 2 ^ 36 % 2 ^ 5

abbrev pub hours_of : ℕ → ℕ
hours_of bits = bits / 2 ^ 36 % 2 ^ 10

abbrev pub day_of : ℕ → ℕ
day_of bits = bits / 2 ^ 41 % 2 ^ 5

abbrev pub month_of : ℕ → ℕ
month_of bits = bits / 2 ^ 46 % 13

abbrev pub year_of : ℕ → ℕ
year_of bits = bits / 2 ^ 46 / 13

-- the minute, the second and its parts are those of a clock
abbrev pub has_clock : ℕ → Bool
has_clock bits = nat_lt (minute_of bits) 60 && nat_lt (second_of bits) 60 && nat_lt (fraction_of bits) 1000000

-- a date and a time of day
abbrev pub is_datetime : Packed → Bool
is_datetime p = not p.is_negative && nat_lt (year_of p.bits) 10000 && nat_lt (hour_of p.bits) 24 && has_clock p.bits

-- `MM:SS.FFFFFF`
abbrev pub minutes_text : ℕ → List ℕ
minutes_text bits = padded 2 (minute_of bits) ++ (58 ∷ (padded 2 (second_of bits) ++ (46 ∷ padded 6 (fraction_of bits))))

-- `HH:MM:SS.FFFFFF` of so many hours
abbrev pub clock_text : ℕ → ℕ → List ℕ
clock_text hours bits = padded 2 hours ++ (58 ∷ minutes_text bits)

-- `YYYY-MM-DD`
abbrev pub days_text : ℕ → List ℕ
days_text bits = padded 4 (year_of bits) ++ (45 ∷ (padded 2 (month_of bits) ++ (45 ∷ padded 2 (day_of bits))))

-- the text of bytes of the type `DATE`
abbrev pub date_text : List ℕ → Option (List ℕ)
date_text bytes =
    option_and_then (λ p. if is_datetime p then Some (34 ∷ (days_text p.bits ++ 34 ∷ [])) else None) (packed_of bytes)

-- the same of `DATETIME` and `TIMESTAMP`
abbrev pub datetime_text : List ℕ → Option (List ℕ)
datetime_text bytes =
    option_and_then (λ p. if is_datetime p then Some (34 ∷ (days_text p.bits ++ (32 ∷ (clock_text (hour_of p.bits) p.bits ++ 34 ∷ [])))) else None) (packed_of bytes)

-- the same of `TIME`
abbrev pub time_text : List ℕ → Option (List ℕ)
time_text bytes =
    option_and_then (λ p. if has_clock p.bits then Some (34 ∷ (sign_text p.is_negative ++ (clock_text (hours_of p.bits) p.bits ++ 34 ∷ []))) else None) (packed_of bytes)
