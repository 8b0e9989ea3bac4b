-- The values of DATE and YEAR columns (MySQL Internals manual, "Date and Time Data Type Representation").
use Rattle.std.specs.Prelude.{ℕ, ◌+◌, ◌*◌, ◌/◌, ◌%◌, ◌^◌, ◌==◌, ◌&&◌, nat_le, Bool, if◌then◌else◌, List, ◌∷◌, ◌++◌, Option, Some, None, option_and_then, option_map}
use Rattle.blog_value.specs.Digits.{padded}
use Rattle.blog_value.specs.Integers.{unsigned_of}
use Rattle.blog_value.specs.declared.dates.Date.{Date}

-- a value that passes a test
abbrev pub allowed : {X : Type 0} → (X → Bool) → X → Option X
allowed test x = if test x then Some x else None

-- a year of four digits, a month and a day; the last two can be 0, as in 0000-00-00 and 2026-11-00
abbrev pub is_date : Date → Bool
is_date d = nat_le d.year 9999 && (nat_le d.month 12 && nat_le d.day 31)

abbrev pub date_from : ℕ → ℕ → ℕ → Option Date
date_from year month day = allowed is_date (record { year = year; month = month; day = day })

-- DATE in three bytes, the lowest first: from the highest bit on 15 bits of the year, 4 of the month, 5 of the day
abbrev pub packed : Date → ℕ
packed d = d.day + 2 ^ 5 * d.month + 2 ^ 9 * d.year

unfoldable pub date_of : List ℕ → Option Date
date_of bytes = option_and_then (λ n. date_from (n / 2 ^ 9) (n / 2 ^ 5 % 2 ^ 4) (n % 2 ^ 5)) (unsigned_of 3 bytes)

-- YEAR in one byte: 0, or the years since 1900
unfoldable pub year_of : List ℕ → Option ℕ
year_of bytes = option_map (λ n. if n == 0 then 0 else 1900 + n) (unsigned_of 1 bytes)

-- 2026-11-22
abbrev pub date_text : Date → List ℕ
date_text d = padded 4 d.year ++ (45 ∷ (padded 2 d.month ++ (45 ∷ padded 2 d.day)))

abbrev pub year_text : ℕ → List ℕ
year_text year = padded 4 year
