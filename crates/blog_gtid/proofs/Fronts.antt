-- Integers that are read one after the other.
use Rattle.std.proofs.Common.{◌≡◌, ℕ, suc, ◌+◌, ◌-◌, ◌<◌, List, [], ◌∷◌, ◌++◌, take, length, Option, Some, None, option_map, refl, sym, ap, append_assoc, arith}
use Rattle.std.proofs.Math.ListN.{set}
use Rattle.std.proofs.lemmas.List.{take_more_set}
use Rattle.blog_event.specs.Format.{◌>>=◌}
use Rattle.blog_gtid.specs.Integers.{byte_front, bytes_front}

-- what is read after these
abbrev pub after : List ℕ → Option (List ℕ × List ℕ) → Option (List ℕ × List ℕ)
after front read = option_map (λ p. (front ++ p.0, p.1)) read

-- one more in front of those that are read
abbrev in_front : ℕ → Option (List ℕ × List ℕ) → Option (List ℕ × List ℕ)
in_front value read = read >>= (λ others. Some (value ∷ others.0, others.1))

-- it moves to the end of those before
after-moved : (front : List ℕ) (value : ℕ) (read : Option (List ℕ × List ℕ)) → after front (in_front value read) ≡ after (front ++ value ∷ []) read
after-moved front value None = refl
after-moved front value (Some (others, rest)) = ap (λ xs. Some (xs, rest)) (sym (append_assoc front (value ∷ []) others))

-- the first of several is read
bytes-more : (front : List ℕ) (n : ℕ) (bytes : List ℕ) (value : ℕ) (rest : List ℕ) → Some (value, rest) ≡ byte_front bytes
    → after front (bytes_front (suc n) bytes) ≡ after (front ++ value ∷ []) (bytes_front n rest)
unfolding bytes_front
bytes-more front n bytes value rest e = rw (← e) (after-moved front value (bytes_front n rest))

-- the first of several can't be read
bytes-none : (front : List ℕ) (n : ℕ) (bytes : List ℕ) → None ≡ byte_front bytes → after front (bytes_front (suc n) bytes) ≡ None
unfolding bytes_front
bytes-none front n bytes e = rw (← e)

-- of n items the first i are read: one more is
pub front-more : (n : ℕ) (items : List ℕ) (i : ℕ) (bytes : List ℕ) (value : ℕ) (rest : List ℕ) → i < n → length items ≡ n → Some (value, rest) ≡ byte_front bytes
    → after (take i items) (bytes_front (n - i) bytes) ≡ after (take (i + 1) (set items i value)) (bytes_front (n - (i + 1)) rest)
front-more n items i bytes value rest within size e =
    let left : n - i ≡ suc (n - (i + 1)) = omega arith in
    let here : i < length items = omega arith in
    rw (left, take_more_set items i value here) (bytes-more (take i items) (n - (i + 1)) bytes value rest e)

-- of n items the first i are read, and the next can't be
pub front-none : (n : ℕ) (items : List ℕ) (i : ℕ) (bytes : List ℕ) → i < n → None ≡ byte_front bytes
    → after (take i items) (bytes_front (n - i) bytes) ≡ None
front-none n items i bytes within e =
    let left : n - i ≡ suc (n - (i + 1)) = omega arith in
    rw left (bytes-none (take i items) (n - (i + 1)) bytes e)
