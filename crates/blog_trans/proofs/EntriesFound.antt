-- Where the lists of an index have what of the groups, by number.
use Rattle.std.proofs.Common.{◌≡◌, ℕ, zero, suc, ◌+◌, ◌<◌, ◌≤◌, List, [], ◌∷◌, ◌++◌, length, map, take, get_or, Option, Some, None, IsSome, option_map, option_and_then, refl, ap, ap₂, ◌∙◌, length-append, arith}
use Rattle.std.specs.Option.{option_map_or}
use Rattle.std.specs.List.{flat_map, slice_get}
use Rattle.std.proofs.lemmas.List.{length-map, take_all, take_more, get_or_append_left, get_or-append-add}
use Rattle.std.proofs.lemmas.Option.{option_and_then_some, none-some, same_Some, slice_get-map, slice_get_within, slice_get-get_or, get_or_from_slice_get}
use Rattle.blog_event.specs.File.{Placed}
use Rattle.blog_trans.specs.declared.lists.Entry.{Entry}
use Rattle.blog_trans.specs.Groups.{PlacedRows, PlacedStatement, PlacedTransaction}
use Rattle.blog_trans.specs.code.Entries.{event_entry, rows_entry, statement_entries, transaction_entries, entries_of, transaction_start, transaction_starts, statement_start, starts_in, statement_starts, statements_in, statements_at, transaction_place, statement_place}
use Rattle.blog_trans.specs.code.IndexView.{statement_at, map_at, rows_at, maps_in, rows_place}
use Rattle.blog_trans.proofs.Columns.{flat_push, entries_cons, statements_cons, statement_len, starts_len}

-- ---- lists of what there may be

-- an element of such a list, and how long it is
pub mapped : {A B : Type 0} (g : A → B) (o : Option A) (v : B) → option_map g o ≡ Some v → (x : A) × (o ≡ Some x) × (g x ≡ v)
mapped g o v is = grind arith

pub inner : {A B : Type 0} (f : A → List B) (o : Option A) (n : ℕ) → option_and_then (λ x. slice_get (f x) n) o ≡ slice_get (option_map_or f o []) n
inner f o n = grind arith

pub counted : {A B : Type 0} (f : A → List B) (o : Option A) (n : ℕ) → option_map (λ x. length (f x)) o ≡ Some n → length (option_map_or f o []) ≡ n
counted f o n is = grind arith

pub many : {A B : Type 0} (f : A → List B) (o : Option A) (n : ℕ) → IsSome o → length (option_map_or f o []) ≡ n → option_map (λ x. length (f x)) o ≡ Some n
many f o n some is = grind arith

-- there is a list that has an element
pub list_some : {A B : Type 0} (f : A → List B) (o : Option A) (n : ℕ) → IsSome (option_and_then (λ x. slice_get (f x) n) o) → IsSome o
list_some f o n some = grind arith

-- ---- elements of lists that are put together

-- an element, as the program reads it
pub own_item : {A : Type 0} (xs : List A) (n : ℕ) (x v : A) → slice_get xs n ≡ Some v → x ≡ get_or xs n x → x ≡ v
own_item xs n x v here item = item ∙ get_or_from_slice_get xs n v x here

pub get_front : {A : Type 0} (xs ys : List A) (n : ℕ) (x : A) → slice_get xs n ≡ Some x → slice_get (xs ++ ys) n ≡ Some x
get_front xs ys n x found =
    let within = slice_get_within xs n x found in
    slice_get-get_or (xs ++ ys) n x (omega (arith, length-append xs ys)) ∙ ap Some (get_or_append_left xs ys x n within ∙ get_or_from_slice_get xs n x x found)

get_behind : {A : Type 0} (xs ys : List A) (n m : ℕ) (x : A) → m ≡ length xs + n → slice_get ys n ≡ Some x → slice_get (xs ++ ys) m ≡ Some x
get_behind xs ys n m x at found =
    let within = slice_get_within ys n x found in
    slice_get-get_or (xs ++ ys) m x (omega (arith, length-append xs ys))
    ∙ ap Some (ap (λ k. get_or (xs ++ ys) k x) at ∙ get_or-append-add xs ys n x ∙ get_or_from_slice_get ys n x x found)

-- of lists joined
get_flat : {X A : Type 0} (f : X → List A) (xs : List X) (n k m : ℕ) (y : A) → slice_get (option_map_or f (slice_get xs n) []) k ≡ Some y → m ≡ length (flat_map f (take n xs)) + k
    → slice_get (flat_map f xs) m ≡ Some y
get_flat f [] n k m y found place = absurd (none-some y found)
get_flat f (a ∷ xs) zero k m y found place = let same : m ≡ k = omega arith in get_front (f a) (flat_map f xs) m y (ap (slice_get (f a)) same ∙ found)
get_flat f (a ∷ xs) (suc n) k m y found place =
    grind (arith, get_flat f xs n k (length (flat_map f (take n xs)) + k) y found refl, length-append, get_behind)

-- one more of the first elements, and of their lists joined
pub take_next : {A : Type 0} (xs : List A) (n : ℕ) (x : A) → slice_get xs n ≡ Some x → take (n + 1) xs ≡ take n xs ++ x ∷ []
take_next xs n x at = take_more xs n x (slice_get_within xs n x at) ∙ ap (λ y. take n xs ++ y ∷ []) (get_or_from_slice_get xs n x x at)

pub flat_next : {X A : Type 0} (f : X → List A) (xs : List X) (n : ℕ) (x : X) → slice_get xs n ≡ Some x → length (flat_map f (take (n + 1) xs)) ≡ length (flat_map f (take n xs)) + length (f x)
flat_next f xs n x at =
    ap (λ l. length (flat_map f l)) (take_next xs n x at) ∙ ap length (flat_push f (take n xs) x) ∙ length-append (flat_map f (take n xs)) (f x)

-- ---- places

-- of the next transaction, of the next statement, and of what follows the last statement
pub next_transaction : (ts : List PlacedTransaction) (t : ℕ) (x : PlacedTransaction) → slice_get ts t ≡ Some x
    → transaction_place ts (t + 1) ≡ transaction_place ts t + 2 + length (flat_map statement_entries x.statements)
next_transaction ts t x at = omega (arith, flat_next transaction_entries ts t x at, length-append (flat_map statement_entries x.statements) (event_entry x.end ∷ []))

pub next_statement : (ts : List PlacedTransaction) (t s : ℕ) (y : PlacedStatement) → slice_get (statements_at ts t) s ≡ Some y
    → statement_place ts t (s + 1) ≡ statement_place ts t s + length y.maps + length y.rows
next_statement ts t s y at = omega (arith, flat_next statement_entries (statements_at ts t) s y at, statement_len y)

pub last_statement : (ts : List PlacedTransaction) (t s : ℕ) (x : PlacedTransaction) → slice_get ts t ≡ Some x → length x.statements ≤ s → statement_place ts t s + 1 ≡ transaction_place ts (t + 1)
last_statement ts t s x at all = grind (arith, take_all, next_transaction)

-- ---- beginnings

pub get_transaction_start : (n s : ℕ) (ts : List PlacedTransaction) (t k l : ℕ) → t < length ts → k ≡ n + transaction_place ts t → l ≡ s + statements_in (take t ts)
    → slice_get (transaction_starts n s ts) t ≡ Some (transaction_start k l)
get_transaction_start n s [] t k l below entry statement = absurd (omega arith)
get_transaction_start n s (a ∷ ts) zero k l below entry statement = ap₂ (λ x y. Some (transaction_start x y)) (omega arith) (omega arith)
get_transaction_start n s (a ∷ ts) (suc t) k l below entry statement =
    get_transaction_start (n + length (transaction_entries a)) (s + length a.statements) ts t k l (omega arith) (omega (arith, entries_cons a (take t ts))) (omega (arith, statements_cons a (take t ts)))

get_start : (n : ℕ) (ss : List PlacedStatement) (s k : ℕ) (y : PlacedStatement) → slice_get ss s ≡ Some y → k ≡ n + length (flat_map statement_entries (take s ss))
    → slice_get (starts_in n ss) s ≡ Some (statement_start k (length y.maps))
get_start n [] s k y at place = absurd (none-some y at)
get_start n (a ∷ ss) zero k y at place = ap₂ (λ (m : ℕ) (z : PlacedStatement). Some (statement_start m (length z.maps))) (omega arith) (same_Some a y at)
get_start n (a ∷ ss) (suc s) k y at place =
    get_start (n + length (statement_entries a)) ss s k y at (omega (arith, length-append (statement_entries a) (flat_map statement_entries (take s ss))))

pub get_statement_start : (n : ℕ) (ts : List PlacedTransaction) (t s m k : ℕ) (y : PlacedStatement) → slice_get (statements_at ts t) s ≡ Some y → m ≡ statements_in (take t ts) + s → k ≡ n + statement_place ts t s
    → slice_get (statement_starts n ts) m ≡ Some (statement_start k (length y.maps))
get_statement_start n [] t s m k y at place start = absurd (none-some y at)
get_statement_start n (a ∷ ts) zero s m k y at place start = grind (arith, get_front, get_start (n + 1) a.statements s k y at)
get_statement_start n (a ∷ ts) (suc t) s m k y at place start =
    let rest = get_statement_start (n + length (transaction_entries a)) ts t s (statements_in (take t ts) + s) k y at refl in
    grind (arith, statements_cons, starts_len, get_behind, entries_cons)

-- ---- entries

pub get_begin : (ts : List PlacedTransaction) (t m : ℕ) (x : PlacedTransaction) → slice_get ts t ≡ Some x → m ≡ transaction_place ts t → slice_get (entries_of ts) m ≡ Some (event_entry x.begin)
get_begin ts t m x at place = grind (arith, get_flat transaction_entries ts t 0)

pub get_end : (ts : List PlacedTransaction) (t m : ℕ) (x : PlacedTransaction) → slice_get ts t ≡ Some x → m + 1 ≡ transaction_place ts (t + 1) → slice_get (entries_of ts) m ≡ Some (event_entry x.end)
get_end ts t m x at place =
    let inside = flat_map statement_entries x.statements in
    let last = event_entry x.end in
    let behind = get_behind (event_entry x.begin ∷ inside) (last ∷ []) 0 in
    grind (arith, get_flat transaction_entries ts t (1 + length inside) m last, next_transaction ts t x at)

-- of a statement, by its number in it
get_statement : (ts : List PlacedTransaction) (t s k m : ℕ) (e : Entry) → slice_get (option_map_or statement_entries (statement_at ts t s) []) k ≡ Some e → m ≡ statement_place ts t s + k
    → slice_get (entries_of ts) m ≡ Some e
get_statement ts t s k m e found place =
    get_flat transaction_entries ts t (suc (length (flat_map statement_entries (take s (statements_at ts t))) + k)) m e (inside (slice_get ts t) found) (omega arith)
  where
    inside : (o : Option PlacedTransaction) → slice_get (option_map_or statement_entries (option_and_then (λ x. slice_get x.statements s) o) []) k ≡ Some e
        → slice_get (option_map_or transaction_entries o []) (suc (length (flat_map statement_entries (take s (option_map_or (λ x. x.statements) o []))) + k)) ≡ Some e
    inside None found = absurd (none-some e found)
    inside (Some x) found =
        let n = length (flat_map statement_entries (take s x.statements)) + k in
        get_front (event_entry x.begin ∷ flat_map statement_entries x.statements) (event_entry x.end ∷ []) (suc n) e (get_flat statement_entries x.statements s k n e found refl)

pub get_map : (ts : List PlacedTransaction) (t s k m : ℕ) (p : Placed) → map_at ts t s k ≡ Some p → m ≡ statement_place ts t s + k → slice_get (entries_of ts) m ≡ Some (event_entry p)
get_map ts t s k m p is place =
    option_and_then_some (λ y. slice_get y.maps k) (statement_at ts t s) p is
    (λ y at found. let front = get_front (map event_entry y.maps) (map rows_entry y.rows) k in
    get_statement ts t s k m (event_entry p) (grind (arith, at, slice_get-map)) place)

pub get_rows : (ts : List PlacedTransaction) (t s k m : ℕ) (r : PlacedRows) → rows_at ts t s k ≡ Some r → m ≡ rows_place ts t s + k → slice_get (entries_of ts) m ≡ Some (rows_entry r)
get_rows ts t s k m r is place =
    option_and_then_some (λ y. slice_get y.rows k) (statement_at ts t s) r is
    (λ y at found. let behind = get_behind (map event_entry y.maps) (map rows_entry y.rows) k in
    get_statement ts t s (length (maps_in ts t s) + k) m (rows_entry r) (grind (arith, at, slice_get-map, length-map)) (omega arith))
