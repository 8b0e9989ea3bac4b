-- The values of TIME, DATETIME and TIMESTAMP columns (MySQL Internals manual, "Date and Time Data Type Representation").
use Rattle.std.specs.Prelude.{ℕ, ◌+◌, ◌-◌, ◌*◌, ◌/◌, ◌%◌, ◌^◌, ◌==◌, ◌&&◌, nat_le, nat_lt, Bool, if◌then◌else◌, min, unsigned_abs, List, [], ◌∷◌, ◌++◌, Option, Some, None, option_and_then, option_map}
use Rattle.std.specs.Fmt.{decimal}
use Rattle.std.specs.Int.{abs_diff, is_negative}
use Rattle.blog_value.specs.Dates.{allowed, date_from, date_text}
use Rattle.blog_value.specs.Digits.{padded}
use Rattle.blog_value.specs.Integers.{big_of, signed_of, unsigned_of}
use Rattle.blog_value.specs.declared.dates.Date.{Date}
use Rattle.blog_value.specs.declared.fractions.Fraction.{Fraction}
use Rattle.blog_value.specs.declared.times.Time.{Time}
use Rattle.blog_value.specs.declared.datetimes.DateTime.{DateTime}
use Rattle.blog_value.specs.declared.datetimes.Timestamp.{Timestamp}

-- ---- fractions of a second

-- the bytes of a fraction of up to six digits, two digits in a byte
abbrev pub fraction_width : ℕ → ℕ
fraction_width digits = (digits + 1) / 2

-- seconds in the higher bytes of a number, and behind them a fraction of that many digits
abbrev pub seconds_in : ℕ → ℕ → ℕ
seconds_in digits n = n / 256 ^ fraction_width digits

abbrev pub units_in : ℕ → ℕ → ℕ
units_in digits n = n % 256 ^ fraction_width digits

-- the fraction behind the seconds: hundredths in one byte, ten thousandths in two, millionths in three
unfoldable pub fraction_of : ℕ → ℕ → Option Fraction
fraction_of digits n =
    if nat_lt (units_in digits n) (100 ^ fraction_width digits)
    then Some (record { micros = units_in digits n * 100 ^ (3 - fraction_width digits); digits = digits })
    else None

abbrev pub no_fraction : Fraction
no_fraction = record { micros = 0; digits = 0 }

-- a number with seconds in that many bytes, the highest first, and a fraction behind them
abbrev pub with_fraction_of : ℕ → ℕ → List ℕ → Option ℕ
with_fraction_of width digits bytes = if nat_le digits 6 then big_of (width + fraction_width digits) bytes else None

-- ---- times

-- -838:59:59 to 838:59:59, and a fraction
abbrev pub is_time : Time → Bool
is_time t = nat_le t.hour 838 && (nat_le t.minute 59 && nat_le t.second 59)

abbrev pub time_from : Bool → ℕ → ℕ → ℕ → Fraction → Option Time
time_from negative hour minute second fraction =
    allowed is_time (record { negative = negative; hour = hour; minute = minute; second = second; fraction = fraction })

-- TIME before MySQL 5.6 in three bytes, the lowest first, two's complement: its decimal digits are hhmmss
unfoldable pub old_time_of : List ℕ → Option Time
old_time_of bytes =
    option_and_then
    (λ z. time_from (is_negative z) (unsigned_abs z / 10000) (unsigned_abs z / 100 % 100) (unsigned_abs z % 100) no_fraction)
    (signed_of 3 bytes)

-- the number that stands for 00:00:00 with that many digits of a fraction: a one bit and zeros
abbrev pub zero_time : ℕ → ℕ
zero_time digits = 2 ^ 23 * 256 ^ fraction_width digits

-- as far above it, or below it for a negative time, as the number whose bits are, the highest first: the hour, 6 of the minute,
-- 6 of the second, and the fraction
unfoldable pub time_in : ℕ → ℕ → Option Time
time_in digits n =
    option_and_then
    (λ fraction. let seconds : ℕ = seconds_in digits (abs_diff n (zero_time digits)) in
    time_from (nat_lt n (zero_time digits)) (seconds / 2 ^ 12) (seconds / 2 ^ 6 % 2 ^ 6) (seconds % 2 ^ 6) fraction)
    (fraction_of digits (abs_diff n (zero_time digits)))

-- TIME(digits) in three bytes and those of the fraction
abbrev pub time_of : ℕ → List ℕ → Option Time
time_of digits bytes = option_and_then (time_in digits) (with_fraction_of 3 digits bytes)

-- ---- dates with times

-- a time of day
abbrev pub is_day_time : DateTime → Bool
is_day_time d = nat_le d.hour 23 && (nat_le d.minute 59 && nat_le d.second 59)

abbrev pub datetime_from : Option Date → ℕ → ℕ → ℕ → Fraction → Option DateTime
datetime_from date hour minute second fraction =
    option_and_then
    (λ day. allowed is_day_time (record { date = day; hour = hour; minute = minute; second = second; fraction = fraction }))
    date

-- DATETIME before MySQL 5.6 in eight bytes, the lowest first: its decimal digits are YYYYMMDDhhmmss
unfoldable pub old_datetime_of : List ℕ → Option DateTime
old_datetime_of bytes =
    option_and_then
    (λ n. datetime_from (date_from (n / 10 ^ 10) (n / 10 ^ 8 % 100) (n / 10 ^ 6 % 100)) (n / 10 ^ 4 % 100) (n / 100 % 100) (n % 100) no_fraction)
    (unsigned_of 8 bytes)

-- above 2^39, from the highest bit on: 17 bits of year * 13 + month, 5 of the day, 5 of the hour, 6 of the minute, 6 of the second
abbrev pub packed_datetime : ℕ → Fraction → Option DateTime
packed_datetime n fraction =
    datetime_from (date_from (n / 2 ^ 22 / 13) (n / 2 ^ 22 % 13) (n / 2 ^ 17 % 2 ^ 5)) (n / 2 ^ 12 % 2 ^ 5) (n / 2 ^ 6 % 2 ^ 6) (n % 2 ^ 6) fraction

unfoldable pub datetime_in : ℕ → ℕ → Option DateTime
datetime_in digits n =
    if nat_le (2 ^ 39) (seconds_in digits n)
    then option_and_then (packed_datetime (seconds_in digits n - 2 ^ 39)) (fraction_of digits n)
    else None

-- DATETIME(digits) in five bytes and those of the fraction
abbrev pub datetime_of : ℕ → List ℕ → Option DateTime
datetime_of digits bytes = option_and_then (datetime_in digits) (with_fraction_of 5 digits bytes)

-- ---- timestamps

-- TIMESTAMP before MySQL 5.6: seconds since 1970 in four bytes, the lowest first
unfoldable pub old_timestamp_of : List ℕ → Option Timestamp
old_timestamp_of bytes = option_map (λ n. record { seconds = n; fraction = no_fraction }) (unsigned_of 4 bytes)

unfoldable pub timestamp_in : ℕ → ℕ → Option Timestamp
timestamp_in digits n = option_map (λ fraction. record { seconds = seconds_in digits n; fraction = fraction }) (fraction_of digits n)

-- TIMESTAMP(digits): seconds since 1970 in four bytes, the highest first, and the bytes of the fraction
abbrev pub timestamp_of : ℕ → List ℕ → Option Timestamp
timestamp_of digits bytes = option_and_then (timestamp_in digits) (with_fraction_of 4 digits bytes)

-- ---- texts

-- .250: the first digits of the microseconds, at most six; nothing if there are to be no digits
abbrev pub fraction_text : Fraction → List ℕ
fraction_text f = if f.digits == 0 then [] else 46 ∷ padded (min f.digits 6) (f.micros / 10 ^ (6 - f.digits))

-- :59:59.250
abbrev pub after_hour_text : ℕ → ℕ → Fraction → List ℕ
after_hour_text minute second fraction = 58 ∷ (padded 2 minute ++ (58 ∷ (padded 2 second ++ fraction_text fraction)))

-- an hour in two digits, or in as many as it needs
abbrev pub hour_text : ℕ → List ℕ
hour_text hour = if nat_lt hour 100 then padded 2 hour else decimal hour

-- -838:59:59
abbrev pub time_text : Time → List ℕ
time_text t = (if t.negative then 45 ∷ [] else []) ++ (hour_text t.hour ++ after_hour_text t.minute t.second t.fraction)

-- 2026-11-22 09:05:07
abbrev pub datetime_text : DateTime → List ℕ
datetime_text d = date_text d.date ++ (32 ∷ (padded 2 d.hour ++ after_hour_text d.minute d.second d.fraction))
