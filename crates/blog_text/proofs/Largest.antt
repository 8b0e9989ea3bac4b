-- Tables by their rows, the most first, and as many of them as fit.
use Rattle.std.specs.Prelude.{codes, map, min, nat_le, slice_get, unwrap_or}
use Rattle.std.specs.List.{insert}
use Rattle.std.specs.Option.{SomeIff}
use Rattle.std.proofs.Common.{◌≡◌, ℕ, zero, suc, ◌+◌, ◌*◌, ◌-◌, ◌<◌, ◌≤◌, Bool, true, false, List, [], ◌∷◌, ◌++◌, length, take, drop, Option, Some, None, refl, sym, ap, subst, ◌∙◌, append_assoc, append-nil, arith}
use Rattle.std.proofs.lemmas.Bool.{cond-true, cond-false, le-leb, lt-leb}
use Rattle.std.proofs.lemmas.List.{get_or-map, get_or-take, length-drop, length-map, length-take, take-map}
use Rattle.std.proofs.Math.ListN.{get_or}
use Rattle.std.proofs.Math.Seq.{drop-cons, take-suc}
use Rattle.blog_trans.proofs.Turns.{drop-at}
use Rattle.blog_trans.specs.Changes.{TableCount}
use Rattle.blog_text.specs.Tables.{count_columns, count_text, counts_text, further_text, largest_first, more_text, next_columns, next_count, placed, rows_in, tables_text}
use Rattle.blog_text.proofs.Growing.{both-parts, next-part}

-- ---- the first of them

-- the first n of the first n and more
front-of-front : (n : ℕ) (cs : List TableCount) → take n (take (suc n) cs) ≡ take n cs
front-of-front zero cs = refl
front-of-front (suc n) [] = refl
front-of-front (suc n) (c ∷ cs) = ap (λ (l : List TableCount). c ∷ l) (front-of-front n cs)

one-before : (n : ℕ) (d : TableCount) (ds : List TableCount) → take n (d ∷ take n ds) ≡ take n (d ∷ ds)
one-before zero d ds = refl
one-before (suc n) d ds = ap (λ (l : List TableCount). d ∷ l) (front-of-front n ds)

-- what is behind the first n has no part in the first n of what comes
pub placed-among : (n : ℕ) (c : TableCount) (cs : List TableCount) → take n (placed c (take n cs)) ≡ take n (placed c cs)
placed-among zero c cs = refl
placed-among (suc n) c [] = refl
placed-among (suc n) c (d ∷ ds) = by_case (nat_le (rows_in d) (rows_in c)) refl (placed-among n c ds) where
  by_case : (before : Bool) → nat_le (rows_in d) (rows_in c) ≡ before → take n (placed c (take n ds)) ≡ take n (placed c ds)
      → take (suc n) (placed c (d ∷ take n ds)) ≡ take (suc n) (placed c (d ∷ ds))
  by_case true is behind =
      ap (take (suc n)) (cond-true _ _ _ is) ∙ ap (λ (l : List TableCount). c ∷ l) (one-before n d ds) ∙ sym (ap (take (suc n)) (cond-true _ _ _ is))
  by_case false isnt behind =
      ap (take (suc n)) (cond-false _ _ _ isnt) ∙ ap (λ (l : List TableCount). d ∷ l) behind ∙ sym (ap (take (suc n)) (cond-false _ _ _ isnt))

length-placed : (c : TableCount) (cs : List TableCount) → length (placed c cs) ≡ suc (length cs)
length-placed c [] = refl
length-placed c (d ∷ ds) = by_case (nat_le (rows_in d) (rows_in c)) refl (length-placed c ds) where
  by_case : (before : Bool) → nat_le (rows_in d) (rows_in c) ≡ before → length (placed c ds) ≡ suc (length ds) → length (placed c (d ∷ ds)) ≡ suc (suc (length ds))
  by_case true is behind = ap length (cond-true _ _ _ is)
  by_case false isnt behind = ap length (cond-false _ _ _ isnt) ∙ ap suc behind

-- none is lost
pub length-largest : (cs : List TableCount) → length (largest_first cs) ≡ length cs
length-largest [] = refl
length-largest (c ∷ cs) = length-placed c (largest_first cs) ∙ ap suc (length-largest cs)

-- ---- a table in its place

pub map-insert : {A B : Type 0} (f : A → B) (xs : List A) (i : ℕ) (x : A) → map f (insert xs i x) ≡ insert (map f xs) i (f x)
map-insert f [] zero x = refl
map-insert f [] (suc i) x = refl
map-insert f (y ∷ ys) zero x = refl
map-insert f (y ∷ ys) (suc i) x = ap (λ (l : List _). f y ∷ l) (map-insert f ys i x)

-- it comes in front of this one
pub before-it : (c d : TableCount) (ds : List TableCount) → rows_in d ≤ rows_in c → placed c (d ∷ ds) ≡ c ∷ d ∷ ds
before-it c d ds less = cond-true _ _ _ (le-leb (rows_in d) (rows_in c) less)

-- it comes behind this one
pub behind-it : (c d : TableCount) (ds : List TableCount) → rows_in c < rows_in d → placed c (d ∷ ds) ≡ d ∷ placed c ds
behind-it c d ds more = cond-false _ _ _ (lt-leb (rows_in d) (rows_in c) more)

-- ---- the texts

-- no table
pub no-table : (room : ℕ) (cs : List TableCount) → length cs ≡ 0 → counts_text room cs ≡ codes "no rows"
no-table room [] none = refl
no-table room (c ∷ cs) none = absurd (omega arith)

-- one table
pub one-table : (room : ℕ) (cs : List TableCount) (c : TableCount) → length cs ≡ 1 → slice_get cs 0 ≡ Some c → counts_text room cs ≡ count_text c
one-table room [] c one is = absurd (omega arith)
one-table room (d ∷ []) c one is = let same : d ≡ c = cc in append-nil (count_text d) ∙ ap count_text same
one-table room (d ∷ e ∷ es) c one is = absurd (omega arith)

-- a further table fits
pub it-fits : (left : ℕ) (c : TableCount) (cs : List TableCount) → next_columns c + length (more_text (length cs)) ≤ left
    → further_text left (c ∷ cs) ≡ next_count c ++ further_text (left - next_columns c) cs
it-fits left c cs fits = cond-true _ _ _ (le-leb _ left fits)

-- it doesn't, and is counted with those behind it
pub it-is-counted : (left : ℕ) (c : TableCount) (cs : List TableCount) → left < next_columns c + length (more_text (length cs))
    → further_text left (c ∷ cs) ≡ more_text (suc (length cs))
it-is-counted left c cs wide = cond-false _ _ _ (lt-leb _ left wide)

-- no further one fits
pub none-fits : (left : ℕ) (cs : List TableCount) → (0 < length cs → left < 7) → further_text left cs ≡ more_text (length cs)
none-fits left [] few = refl
none-fits left (c ∷ cs) few = it-is-counted left c cs (let less : left < 7 = few (omega arith) in omega arith)

-- ---- the list of the largest

-- a table of the list comes next
pub next-kept : {A : Type 0} (f : A → TableCount) (xs : List A) (all : List TableCount) (n : ℕ) (blank : A) → map f xs ≡ take 10 all → n < length xs
    → drop n all ≡ f (get_or xs n blank) ∷ drop (n + 1) all
next-kept f xs all n blank are within =
    let c : TableCount = f (get_or xs n blank) in
    let long : length xs ≡ min 10 (length all) = sym (length-map xs f) ∙ ap length are ∙ length-take 10 all in
    let next : get_or all n c ≡ c =
    sym (get_or-take 10 all n c (omega (arith, long))) ∙ ap (λ (l : List TableCount). get_or l n c) (sym are) ∙ get_or-map f xs n blank c within in
    drop-cons all n c (omega (arith, long))
    ∙ ap (λ (d : TableCount). d ∷ drop (suc n) all) next
    ∙ ap (λ (k : ℕ). c ∷ drop k all) (let more : suc n ≡ n + 1 = omega arith in more)

-- one more table is put in its place
pub one-kept : (kept new : List TableCount) (all : List TableCount) (c : TableCount) (n : ℕ) → kept ≡ take 10 (largest_first (drop (n + 1) all)) → slice_get all n ≡ Some c
    → new ≡ take 10 (placed c kept) → new ≡ take 10 (largest_first (drop n all))
one-kept kept new all c n so_far here put =
    put ∙ ap (λ (l : List TableCount). take 10 (placed c l)) so_far ∙ placed-among 10 c (largest_first (drop (n + 1) all))
    ∙ ap (λ (l : List TableCount). take 10 (largest_first l)) (sym (drop-at all n c here))

-- as many as the list has
pub how-many : {A : Type 0} (f : A → TableCount) (xs : List A) (all : List TableCount) → map f xs ≡ take 10 (largest_first all) → length xs ≡ min 10 (length all)
how-many f xs all are = sym (length-map xs f) ∙ ap length are ∙ length-take 10 (largest_first all) ∙ ap (min 10) (length-largest all)

-- a table goes on behind this one
pub goes-on : {A : Type 0} (f : A → TableCount) (xs : List A) (i : ℕ) (blank : A) (c : TableCount) (rows its : ℕ) → i < length xs
    → rows ≡ rows_in c → its ≡ rows_in (f (get_or xs i blank)) → rows < its
    → take i (map f xs) ++ placed c (drop i (map f xs)) ≡ placed c (map f xs) → take (i + 1) (map f xs) ++ placed c (drop (i + 1) (map f xs)) ≡ placed c (map f xs)
goes-on f xs i blank c rows its within are are_its more so_far =
    let ys : List TableCount = map f xs in
    let d : TableCount = f (get_or xs i blank) in
    let there : i < length ys = omega (arith, within, length-map xs f) in
    let is : get_or ys i d ≡ d = get_or-map f xs i blank d within in
    let one : suc i ≡ i + 1 = omega arith in
    let front : take (i + 1) ys ≡ take i ys ++ d ∷ [] = ap (λ (k : ℕ). take k ys) (sym one) ∙ take-suc ys i d there ∙ ap (λ (e : TableCount). take i ys ++ e ∷ []) is in
    let back : drop i ys ≡ d ∷ drop (i + 1) ys = drop-cons ys i d there ∙ ap (λ (e : TableCount). e ∷ drop (suc i) ys) is ∙ ap (λ (k : ℕ). d ∷ drop k ys) one in
    ap (λ (l : List TableCount). l ++ placed c (drop (i + 1) ys)) front ∙ append_assoc (take i ys) (d ∷ []) (placed c (drop (i + 1) ys))
    ∙ ap (λ (l : List TableCount). take i ys ++ l) (sym (ap (placed c) back ∙ behind-it c d (drop (i + 1) ys) (omega (arith, are, are_its, more))))
    ∙ so_far

-- a table stops in front of this one
pub stops : {A : Type 0} (f : A → TableCount) (xs : List A) (i : ℕ) (blank : A) (c : TableCount) (rows its : ℕ) → i < length xs
    → rows ≡ rows_in c → its ≡ rows_in (f (get_or xs i blank)) → its ≤ rows
    → take i (map f xs) ++ placed c (drop i (map f xs)) ≡ placed c (map f xs) → insert (map f xs) i c ≡ placed c (map f xs)
stops f xs i blank c rows its within are are_its less so_far =
    let ys : List TableCount = map f xs in
    let d : TableCount = f (get_or xs i blank) in
    let there : i < length ys = omega (arith, within, length-map xs f) in
    let is : get_or ys i d ≡ d = get_or-map f xs i blank d within in
    let back : drop i ys ≡ d ∷ drop (suc i) ys = drop-cons ys i d there ∙ ap (λ (e : TableCount). e ∷ drop (suc i) ys) is in
    ap (λ (l : List TableCount). take i ys ++ c ∷ l) back
    ∙ ap (λ (l : List TableCount). take i ys ++ l) (sym (ap (placed c) back ∙ before-it c d (drop (suc i) ys) (omega (arith, are, are_its, less))))
    ∙ so_far

-- it is put there, and the list is cut
pub put-there : {A : Type 0} (f : A → TableCount) (old seen inserted new : List A) (i : ℕ) (x : A) → seen ≡ old → inserted ≡ insert old i x → new ≡ take 10 inserted
    → insert (map f seen) i (f x) ≡ placed (f x) (map f seen) → map f new ≡ take 10 (placed (f x) (map f old))
put-there f old seen inserted new i x same is cut place =
    ap (map f) cut ∙ sym (take-map f 10 inserted) ∙ ap (λ (l : List _). take 10 (map f l)) is
    ∙ ap (take 10) (map-insert f old i x ∙ ap (λ (l : List _). insert (map f l) i (f x)) (sym same) ∙ place ∙ ap (λ (l : List _). placed (f x) (map f l)) same)

-- ---- what was appended

-- what is left beside the first table
pub left-is : (o : Option ℕ) (columns room left : ℕ) → SomeIff o (columns ≤ room) (room - columns) → left ≡ unwrap_or o 0 → left ≡ room - columns
left-is None columns room left wide is = let more : room < columns = grind arith in omega (arith, is, more)
left-is (Some n) columns room left (fits, same) is = is ∙ same

-- the first table
pub first-shown : (room left : ℕ) (old new : List ℕ) (all : List TableCount) (c : TableCount) → all ≡ c ∷ drop 1 all → new ≡ old ++ count_text c → left ≡ room - count_columns c
    → new ++ further_text left (drop 1 all) ≡ old ++ tables_text room all
first-shown room left old new all c first is beside =
    ap (λ (text : List ℕ). text ++ further_text left (drop 1 all)) is ∙ append_assoc old (count_text c) (further_text left (drop 1 all))
    ∙ ap (λ (k : ℕ). old ++ (count_text c ++ further_text k (drop 1 all))) beside
    ∙ ap (λ (l : List TableCount). old ++ tables_text room l) (sym first)

-- how many are behind one
behind-one : (n tables : ℕ) (all : List TableCount) → length all ≡ tables → length (drop (n + 1) all) ≡ tables - n - 1
behind-one n tables all long = omega (arith, long, length-drop (n + 1) all)

-- one more table
pub one-shown : (so_far mid new text : List ℕ) (left more n tables : ℕ) (all : List TableCount) (c : TableCount) → length all ≡ tables
    → so_far ++ further_text left (drop n all) ≡ text → drop n all ≡ c ∷ drop (n + 1) all → next_columns c + length (more_text (tables - n - 1)) ≤ left
    → more ≡ left - next_columns c → mid ≡ so_far ++ codes "; " → new ≡ mid ++ count_text c → new ++ further_text more (drop (n + 1) all) ≡ text
one-shown so_far mid new text left more n tables all c long are next fits beside first second =
    next-part so_far (further_text left (drop n all)) text (next_count c) (further_text more (drop (n + 1) all)) new are
    (ap (further_text left) next
    ∙ it-fits left c (drop (n + 1) all) (subst (λ (k : ℕ). next_columns c + length (more_text k) ≤ left) (sym (behind-one n tables all long)) fits)
    ∙ ap (λ (k : ℕ). next_count c ++ further_text k (drop (n + 1) all)) (sym beside))
    (both-parts so_far mid new (codes "; ") (count_text c) first second)

not-within : (a b : ℕ) → ¬ (a ≤ b) → b < a
not-within a b wide = grind arith

-- the others are counted
pub others-counted : (so_far new text : List ℕ) (left n tables : ℕ) (all : List TableCount) (c : TableCount) → n < tables → length all ≡ tables
    → so_far ++ further_text left (drop n all) ≡ text → drop n all ≡ c ∷ drop (n + 1) all → ¬ (next_columns c + length (more_text (tables - n - 1)) ≤ left)
    → new ≡ so_far ++ more_text (tables - n) → new ≡ text
others-counted so_far new text left n tables all c some long are next wide is =
    let behind : length (drop (n + 1) all) ≡ tables - n - 1 = behind-one n tables all long in
    let count : tables - n ≡ suc (length (drop (n + 1) all)) = omega (arith, some, behind) in
    is ∙ ap (λ (k : ℕ). so_far ++ more_text k) count
    ∙ ap (λ (rest : List ℕ). so_far ++ rest) (sym (ap (further_text left) next ∙ it-is-counted left c (drop (n + 1) all) (subst (λ (k : ℕ). left < next_columns c + length (more_text k)) (sym behind) (not-within _ left wide))))
    ∙ are

-- no other fits behind those of the list
pub rest-counted : (so_far new text : List ℕ) (left n tables : ℕ) (all : List TableCount) → n ≡ min 10 tables → length all ≡ tables → left + 7 * n ≤ 70
    → so_far ++ further_text left (drop n all) ≡ text → new ≡ so_far ++ more_text (tables - n) → new ≡ text
rest-counted so_far new text left n tables all few long room are is =
    let rest : length (drop n all) ≡ tables - n = omega (arith, long, length-drop n all) in
    is ∙ ap (λ (k : ℕ). so_far ++ more_text k) (sym rest)
    ∙ ap (λ (last : List ℕ). so_far ++ last) (sym (none-fits left (drop n all) (λ some. omega (arith, some, rest, few, room))))
    ∙ are
