-- Dates are read from the bytes that spell them.
use Rattle.std.proofs.Common.{◌≡◌, ℕ, ◌/◌, ◌%◌, ◌^◌, ◌≤◌, Bool, true, if◌then◌else◌, Some, None, [], ap, ◌∙◌, arith}
use Rattle.std.proofs.lemmas.Bool.{and_parts, leb-true}
use Rattle.byteorder.specs.Endian.{little_bytes, little_number}
use Rattle.byteorder.specs.Numbers.{little_number-reads_back}
use Rattle.blog_value.specs.Dates.{date_from, date_of, is_date, packed}
use Rattle.blog_value.specs.Integers.{unsigned_of}
use Rattle.blog_value.specs.declared.dates.Date.{Date}

-- a date in range is made of its year, month and day
made-of : (d : Date) → is_date d ≡ true → (year month day : ℕ) → year ≡ d.year → month ≡ d.month → day ≡ d.day → date_from year month day ≡ Some d
made-of d allowed year month day same_year same_month same_day =
    ap (λ (y : ℕ). date_from y month day) same_year ∙ ap (λ (m : ℕ). date_from d.year m day) same_month ∙ ap (λ (x : ℕ). date_from d.year d.month x) same_day
    ∙ ap (λ (b : Bool). if b then Some d else None) allowed

pub date-read : (d : Date) → is_date d ≡ true → date_of (little_bytes 3 (packed d)) ≡ Some d
unfolding date_of unsigned_of
date-read d allowed =
    let years : d.year ≤ 9999 = leb-true d.year 9999 (and_parts _ _ allowed).0 in
    let months : d.month ≤ 12 = leb-true d.month 12 (and_parts _ _ (and_parts _ _ allowed).1).0 in
    let days : d.day ≤ 31 = leb-true d.day 31 (and_parts _ _ (and_parts _ _ allowed).1).1 in
    let back : little_number 3 (little_bytes 3 (packed d)) ≡ packed d = little_number-reads_back 3 (packed d) [] (omega (arith, years, months, days)) in
    ap (λ (n : ℕ). date_from (n / 2 ^ 9) (n / 2 ^ 5 % 2 ^ 4) (n % 2 ^ 5)) back
    ∙ made-of d allowed (packed d / 2 ^ 9) (packed d / 2 ^ 5 % 2 ^ 4) (packed d % 2 ^ 5) (omega (arith, years, months, days)) (omega (arith, years, months, days)) (omega (arith, years, months, days))
