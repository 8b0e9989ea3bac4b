-- Numbers fit in the bytes that they are read from.
use Rattle.std.proofs.Common.{◌≡◌, ℕ, zero, suc, ◌+◌, ◌*◌, ◌/◌, ◌^◌, ◌<◌, List, Option, Some, None, IfSome, slice_index, subst, arith}
use Rattle.std.proofs.Math.Nat.{div-lt_iff_lt-mul, one-le-pow, mul-lt-mul_of_pos_right}
use lib.Pow.{pow-add}
use Rattle.byteorder.specs.Endian.{big_number, little_number}
use Rattle.byteorder.specs.Numbers.{big_from-lt, little_from-lt}

pub little-fits : (width n : ℕ) (bytes : List ℕ) → ((k : ℕ) → slice_index bytes k < 256) → n ≡ little_number width bytes → n < 256 ^ width
little-fits width n bytes each is = let fits = little_from-lt 0 width bytes each in omega (arith, fits, is)

pub big-fits : (width n : ℕ) (bytes : List ℕ) → ((k : ℕ) → slice_index bytes k < 256) → n ≡ big_number width bytes → n < 256 ^ width
big-fits width n bytes each is = let fits = big_from-lt 0 width bytes each in omega (arith, fits, is)

-- what is in front of the lowest w bytes
pub front-fits : (width w n : ℕ) → n < 256 ^ (width + w) → n / 256 ^ w < 256 ^ width
front-fits width w n fits =
    let some = one-le-pow w 256 (omega arith) in
    (div-lt_iff_lt-mul (omega arith)).1 (subst (λ (m : ℕ). n < m) (pow-add 256 width w) fits)

-- units below those of a second have fewer microseconds than a second
pub micros-fit : (n units micros : ℕ) → n < units → units * micros ≡ 1000000 → n * micros < 1000000
micros-fit n units zero below whole = absurd (omega (arith, whole))
micros-fit n units (suc m) below whole =
    let less = mul-lt-mul_of_pos_right {m = n} {n = units} {k = suc m} below (omega arith) in
    omega (arith, less, whole)

pub all-front-fit : (number : Option ℕ) (width w : ℕ) → IfSome number (λ n. n < 256 ^ (width + w)) → IfSome number (λ n. n / 256 ^ w < 256 ^ width)
all-front-fit None width w fits = fits
all-front-fit (Some n) width w fits = front-fits width w n fits
