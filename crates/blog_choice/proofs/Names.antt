-- A name that is spelled is read again, and what is read is so spelled.
use Rattle.std.proofs.Common.{◌≡◌, ℕ, ◌+◌, ◌-◌, ◌<◌, Bool, true, false, cond, List, [], ◌∷◌, ◌++◌, length, take, drop, Option, Some, None, suc, get_or, length-append, take-append-drop, refl, sym, ap, ◌∙◌, arith}
use Rattle.std.specs.Prelude.{◌==◌, not, nat_lt}
use Rattle.std.specs.List.{position, position_or_len, list_any}
use Rattle.std.specs.Option.{option_map_or}
use Rattle.std.proofs.lemmas.Bool.{or_parts, not-true, eqb-true}
use Rattle.std.proofs.lemmas.Bool.Decides.{nat_tests}
use Rattle.std.proofs.lemmas.List.{take_rest, take_at, drop_at, drop_more, drop-drop}
use Rattle.std.proofs.lemmas.List.Quantifiers.{position-Some}
use Rattle.blog_choice.specs.Choice.{Name, read_name, spelled, can_be_spelled}

abbrev is_point : ℕ → Bool
is_point byte = byte == 46

-- the name with the point at a place, or with none
abbrev pub named : List ℕ → Option ℕ → Name
named text found = option_map_or (λ at. record { schema = Some (take at text); table = drop (at + 1) text }) found (record { schema = None; table = text })

read-at : (text : List ℕ) (found : Option ℕ) → found ≡ position (λ byte. byte == 46) text → named text found ≡ read_name text
unfolding read_name
read-at text found h = ap (named text) h

pub read-some : (text : List ℕ) (place : ℕ) → Some place ≡ position (λ byte. byte == 46) text
    → record { schema = Some (take place text); table = take (length text - (place + 1)) (drop (place + 1) text) } ≡ read_name text
read-some text place h =
    let with_table : List ℕ → Name = λ table. record { schema = Some (take place text); table = table } in
    ap with_table (take_rest text (place + 1)) ∙ read-at text (Some place) h

pub read-none : (text : List ℕ) → None ≡ position (λ byte. byte == 46) text → record { schema = None; table = text } ≡ read_name text
read-none text h = read-at text None h

-- ---- what is read is so spelled

spelled-by : (text : List ℕ) (found : Option ℕ) → found ≡ position (λ byte. byte == 46) text → spelled (named text found) ≡ text
spelled-by text None h = refl
spelled-by text (Some place) h =
    let at = position-Some is_point text place 0 (sym h) in
    let here : get_or text place 0 ≡ 46 = eqb-true _ _ at.1 in
    let within : place < length text = at.0 in
    let rest : drop place text ≡ 46 ∷ drop (place + 1) text = drop_more text place 0 within ∙ ap (λ byte. byte ∷ drop (place + 1) text) here in
    ap (λ part. take place text ++ part) (sym rest) ∙ take-append-drop place text

pub spelled-read : (text : List ℕ) → spelled (read_name text) ≡ text
unfolding read_name
spelled-read text = spelled-by text (position (λ byte. byte == 46) text) refl

-- ---- what is spelled is read

-- one byte more that is no point
no-point : (b : Bool) (n m : ℕ) → b ≡ false → n ≡ m → cond (not b) (1 + n) 0 ≡ suc m
no-point true n m h e = cc
no-point false n m h e = omega (arith, e)

-- the first point is after a text without one
place-after : (xs ys : List ℕ) → list_any is_point xs ≡ false → position_or_len is_point (xs ++ 46 ∷ ys) ≡ length xs
place-after [] ys h = refl
place-after (x ∷ xs) ys h =
    let parts = or_parts (is_point x) (list_any is_point xs) h in
    no-point (is_point x) _ _ parts.0 (place-after xs ys parts.1)

no-place : (xs : List ℕ) → list_any is_point xs ≡ false → position_or_len is_point xs ≡ length xs
no-place [] h = refl
no-place (x ∷ xs) h =
    let parts = or_parts (is_point x) (list_any is_point xs) h in
    no-point (is_point x) _ _ parts.0 (no-place xs parts.1)

-- the place, found or not
found-within : (n m : ℕ) → n < m → cond (nat_lt n m) (Some n) None ≡ Some n
found-within n m h = let test : nat_lt n m ≡ true = grind (arith, nat_tests) in rw test refl

found-past : (n : ℕ) → cond (nat_lt n n) (Some n) None ≡ None
found-past n = let test : nat_lt n n ≡ false = grind (arith, nat_tests) in rw test refl

position-after : (xs ys : List ℕ) → list_any is_point xs ≡ false → position is_point (xs ++ 46 ∷ ys) ≡ Some (length xs)
position-after xs ys h =
    rw (place-after xs ys h) (found-within (length xs) (length (xs ++ 46 ∷ ys)) (omega (arith, length-append xs (46 ∷ ys))))

position-none : (xs : List ℕ) → list_any is_point xs ≡ false → position is_point xs ≡ None
position-none xs h = rw (no-place xs h) (found-past (length xs))

read-by : (schema : Option (List ℕ)) (table : List ℕ) → can_be_spelled (record { schema = schema; table = table }) ≡ true
    → read_name (spelled (record { schema = schema; table = table })) ≡ record { schema = schema; table = table }
unfolding read_name
read-by None table h = ap (named table) (position-none table (not-true _ h))
read-by (Some schema) table h =
    let text = schema ++ 46 ∷ table in
    let front : take (length schema) text ≡ schema = take_at schema (46 ∷ table) (length schema) refl in
    let back : drop (length schema + 1) text ≡ table = sym (drop-drop 1 (length schema) text) ∙ ap (λ part. drop 1 part) (drop_at schema (46 ∷ table) (length schema) refl) in
    ap (named text) (position-after schema table (not-true _ h)) ∙ rw (front, back) refl

pub read-spelled : (name : Name) → can_be_spelled name ≡ true → read_name (spelled name) ≡ name
read-spelled name h = read-by name.schema name.table h
