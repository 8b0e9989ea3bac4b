-- How much longer cut groups are: each rows event can bring the maps of its statement once more.
use Rattle.std.proofs.Common.{◌≡◌, ℕ, suc, ◌+◌, ◌*◌, ◌-◌, ◌<◌, ◌≤◌, Bool, true, false, List, [], ◌∷◌, ◌++◌, length, map, filter, length-append, append_assoc, refl, sym, ap, ap₂, subst, ◌∙◌, arith}
use Rattle.std.specs.List.{AllByRecursion, flat_map}
use Rattle.std.proofs.Math.Nat.{add-mul, suc-mul, mul-le-mul_right}
use Rattle.std.proofs.lemmas.Nat.{mul-le}
use Rattle.std.proofs.lemmas.List.Concat.{flat_map-append}
use Rattle.blog_event.specs.Event.{Event, event_size}
use Rattle.blog_row.specs.declared.order.Order.{Order}
use Rattle.blog_row.specs.declared.order.Order.TheVariants.{Forward, Backward}
use Rattle.std.proofs.lemmas.List.{length-map, length-reverse}
use Rattle.blog_trans.specs.Groups.{PlacedRows, PlacedStatement, PlacedTransaction, RowsEvent, Statement, Transaction, rows_value, statement_value, transaction_value}
use Rattle.blog_trans.specs.Shown.{statement_shown, transaction_shown}
use Rattle.blog_flash.specs.Reversal.{reversed_rows, reversed_statement, reversed_transaction}
use Rattle.blog_flash.specs.code.LaidOut.{groups_in}
use Rattle.blog_trans.proofs.Sums.{sum_of, sum-append, sum-filter}
use Rattle.blog_flash.specs.Texts.{group_events, rows_events, statement_events, transaction_events}
use Rattle.blog_split.specs.declared.most.Most.{Most}
use Rattle.blog_split.specs.Cuts.{is_used_by, piece_statement}
use Rattle.blog_split.specs.code.Greedy.{cut_groups, cut_statement, cut_transaction, pieces_of}
use Rattle.blog_split.proofs.CutWritten.{HasAtMost}
use Rattle.blog_split.proofs.Greedy.{some-pieces, pieces-joined}
use Rattle.blog_split.proofs.Turned.{rows_event-size, rows_size, sum-turned}

-- how many rows events groups have
abbrev pub rows_of : List Transaction → ℕ
rows_of ts = sum_of (λ (t : Transaction). sum_of (λ (s : Statement). length s.rows) t.statements) ts

module _ (f : ℕ → ℕ) where
  -- a number of each event, by its size
  abbrev pub of_sizes : List Event → ℕ
  of_sizes es = sum_of (λ (e : Event). f (event_size e)) es

  of_rows : List RowsEvent → ℕ
  of_rows rows = sum_of (λ (r : RowsEvent). f (rows_size r)) rows

  -- ---- a statement

  -- the end flag changes no size
  rows-sum : (rows : List RowsEvent) → of_sizes (rows_events rows) ≡ of_rows rows
  unfolding of_rows
  rows-sum [] = refl
  rows-sum (r ∷ []) = ap (λ (n : ℕ). f n + 0) (rows_event-size true r)
  rows-sum (r ∷ s ∷ rows) = ap₂ ◌+◌ (ap f (rows_event-size false r)) (rows-sum (s ∷ rows))

  statement-sum : (s : Statement) → of_sizes (statement_events s) ≡ of_sizes s.maps + of_rows s.rows
  statement-sum s = sum-append (λ (e : Event). f (event_size e)) s.maps (rows_events s.rows) ∙ ap (λ (n : ℕ). of_sizes s.maps + n) (rows-sum s.rows)

  -- its pieces: each has a rows event, and no more maps than the statement
  pieces-sum : (s : Statement) (pieces : List (List RowsEvent)) → AllByRecursion (λ piece. 0 < length piece) pieces
      → of_sizes (flat_map statement_events (map (piece_statement s) pieces)) ≤ length (flat_map (λ piece. piece) pieces) * of_sizes s.maps + of_rows (flat_map (λ piece. piece) pieces)
  unfolding of_rows
  pieces-sum s [] some = omega arith
  pieces-sum s ([] ∷ pieces) some = absurd (omega (arith, some.0))
  pieces-sum s ((r ∷ rest) ∷ pieces) some =
      let piece : List RowsEvent = r ∷ rest in
      let others : List RowsEvent = flat_map (λ p. p) pieces in
      let own = statement-sum (piece_statement s piece) in
      let fewer = sum-filter (λ (e : Event). f (event_size e)) (is_used_by piece) s.maps in
      let next = pieces-sum s pieces some.1 in
      let joined = sum-append (λ (e : Event). f (event_size e)) (statement_events (piece_statement s piece)) (flat_map statement_events (map (piece_statement s) pieces)) in
      let rows = sum-append (λ (r : RowsEvent). f (rows_size r)) piece others in
      let long : length (piece ++ others) ≡ suc (length (rest ++ others)) = refl in
      let many : length others ≤ length (rest ++ others) = omega (arith, length-append rest others) in
      let more = mul-le-mul_right (of_sizes s.maps) many in
      let times = suc-mul (length (rest ++ others)) (of_sizes s.maps) in
      omega (arith, ap (λ (n : ℕ). n * of_sizes s.maps) long)

  -- as it is cut
  cut-statement-sum : (limit : ℕ) (s : Statement) → of_sizes (flat_map statement_events (cut_statement limit s)) ≤ length s.rows * of_sizes s.maps + of_rows s.rows
  cut-statement-sum limit s =
      subst (λ (rows : List RowsEvent). of_sizes (flat_map statement_events (cut_statement limit s)) ≤ length rows * of_sizes s.maps + of_rows rows) (pieces-joined limit s.maps s.rows)
      (pieces-sum s (pieces_of limit s.maps s.rows) (some-pieces limit s.maps s.rows))

  -- ---- groups whose statements have no more than so much in their maps

  module _ (most : ℕ) where
    statements-sum : (limit : ℕ) (ss : List Statement) → AllByRecursion (λ (s : Statement). of_sizes s.maps ≤ most) ss
        → of_sizes (flat_map statement_events (flat_map (cut_statement limit) ss)) ≤ sum_of (λ (s : Statement). length s.rows) ss * most + of_sizes (flat_map statement_events ss)
    statements-sum limit [] few = omega arith
    statements-sum limit (s ∷ ss) few =
        let own = cut-statement-sum limit s in
        let within = mul-le (length s.rows) (of_sizes s.maps) (length s.rows) most (omega arith) few.0 in
        let whole = statement-sum s in
        let next = statements-sum limit ss few.1 in
        let split = ap of_sizes (flat_map-append statement_events (cut_statement limit s) (flat_map (cut_statement limit) ss)) in
        let cut = sum-append (λ (e : Event). f (event_size e)) (flat_map statement_events (cut_statement limit s)) (flat_map statement_events (flat_map (cut_statement limit) ss)) in
        let before = sum-append (λ (e : Event). f (event_size e)) (statement_events s) (flat_map statement_events ss) in
        let times = add-mul (length s.rows) (sum_of (λ (s : Statement). length s.rows) ss) most in
        omega arith

    pub groups-sum : (limit : ℕ) (ts : List Transaction) → AllByRecursion (λ (t : Transaction). AllByRecursion (λ (s : Statement). of_sizes s.maps ≤ most) t.statements) ts
        → of_sizes (group_events (cut_groups limit ts)) ≤ rows_of ts * most + of_sizes (group_events ts)
    groups-sum limit [] few = omega arith
    groups-sum limit (t ∷ ts) few =
        let own = statements-sum limit t.statements few.0 in
        let next = groups-sum limit ts few.1 in
        let cut = sum-append (λ (e : Event). f (event_size e)) (transaction_events (cut_transaction limit t)) (group_events (cut_groups limit ts)) in
        let inside = sum-append (λ (e : Event). f (event_size e)) (flat_map statement_events (flat_map (cut_statement limit) t.statements)) (t.end ∷ []) in
        let before = sum-append (λ (e : Event). f (event_size e)) (transaction_events t) (group_events ts) in
        let plain = sum-append (λ (e : Event). f (event_size e)) (flat_map statement_events t.statements) (t.end ∷ []) in
        let times = add-mul (sum_of (λ (s : Statement). length s.rows) t.statements) (rows_of ts) most in
        omega arith

-- ---- the bound

all-both : {A : Type 0} (P : A → Type 0) (xs ys : List A) → AllByRecursion P (xs ++ ys) → AllByRecursion P xs × AllByRecursion P ys
all-both P [] ys all = (tt, all)
all-both P (x ∷ xs) ys all = let others = all-both P xs ys all.1 in ((all.0, others.0), others.1)

-- maps of groups whose events have at most n bytes
statements-small : (n : ℕ) (ss : List Statement) (es : List Event) → AllByRecursion (λ (e : Event). event_size e ≤ n) (flat_map statement_events ss ++ es)
    → AllByRecursion (λ (s : Statement). AllByRecursion (λ (m : Event). event_size m ≤ n) s.maps) ss
statements-small n [] es all = tt
statements-small n (s ∷ ss) es all =
    let parts = all-both (λ (e : Event). event_size e ≤ n) (statement_events s) (flat_map statement_events ss ++ es) (subst (AllByRecursion (λ (e : Event). event_size e ≤ n)) (append_assoc (statement_events s) (flat_map statement_events ss) es) all) in
    ((all-both (λ (e : Event). event_size e ≤ n) s.maps (rows_events s.rows) parts.0).0, statements-small n ss es parts.1)

groups-small : (n : ℕ) (ts : List Transaction) → AllByRecursion (λ (e : Event). event_size e ≤ n) (group_events ts)
    → AllByRecursion (λ (t : Transaction). AllByRecursion (λ (s : Statement). AllByRecursion (λ (m : Event). event_size m ≤ n) s.maps) t.statements) ts
groups-small n [] all = tt
groups-small n (t ∷ ts) all =
    let parts = all-both (λ (e : Event). event_size e ≤ n) (transaction_events t) (group_events ts) all in
    (statements-small n t.statements (t.end ∷ []) parts.0.1, groups-small n ts parts.1)

-- so many maps of at most n bytes
maps-total : (n : ℕ) (ms : List Event) → AllByRecursion (λ (m : Event). event_size m ≤ n) ms → of_sizes (λ k. k) ms ≤ length ms * n
maps-total n [] all = omega arith
maps-total n (m ∷ ms) all = let others = maps-total n ms all.1 in let times = suc-mul (length ms) n in omega (arith, all.0)

-- nothing of them is behind the n-th byte
maps-none : (n : ℕ) (ms : List Event) → AllByRecursion (λ (m : Event). event_size m ≤ n) ms → of_sizes (λ k. k - n) ms ≤ 0
maps-none n [] all = omega arith
maps-none n (m ∷ ms) all = let others = maps-none n ms all.1 in omega (arith, all.0)

few-total : (most : Most) (n : ℕ) (ss : List Statement) → AllByRecursion (HasAtMost most) ss → AllByRecursion (λ (s : Statement). AllByRecursion (λ (m : Event). event_size m ≤ n) s.maps) ss
    → AllByRecursion (λ (s : Statement). of_sizes (λ k. k) s.maps ≤ most.maps * n) ss
few-total most n [] few small = tt
few-total most n (s ∷ ss) few small =
    let own = maps-total n s.maps small.0 in
    let within = mul-le (length s.maps) n most.maps n few.0.0 (omega arith) in
    (omega arith, few-total most n ss few.1 small.1)

few-none : (n : ℕ) (ss : List Statement) → AllByRecursion (λ (s : Statement). AllByRecursion (λ (m : Event). event_size m ≤ n) s.maps) ss → AllByRecursion (λ (s : Statement). of_sizes (λ k. k - n) s.maps ≤ 0) ss
few-none n [] small = tt
few-none n (s ∷ ss) small = (maps-none n s.maps small.0, few-none n ss small.1)

groups-few : (most : Most) (n : ℕ) (ts : List Transaction) → AllByRecursion (λ (t : Transaction). AllByRecursion (HasAtMost most) t.statements) ts
    → AllByRecursion (λ (t : Transaction). AllByRecursion (λ (s : Statement). AllByRecursion (λ (m : Event). event_size m ≤ n) s.maps) t.statements) ts
    → AllByRecursion (λ (t : Transaction). AllByRecursion (λ (s : Statement). of_sizes (λ k. k) s.maps ≤ most.maps * n) t.statements) ts
groups-few most n [] few small = tt
groups-few most n (t ∷ ts) few small = (few-total most n t.statements few.0 small.0, groups-few most n ts few.1 small.1)

groups-none : (n : ℕ) (ts : List Transaction) → AllByRecursion (λ (t : Transaction). AllByRecursion (λ (s : Statement). AllByRecursion (λ (m : Event). event_size m ≤ n) s.maps) t.statements) ts
    → AllByRecursion (λ (t : Transaction). AllByRecursion (λ (s : Statement). of_sizes (λ k. k - n) s.maps ≤ 0) t.statements) ts
groups-none n [] small = tt
groups-none n (t ∷ ts) small = (few-none n t.statements small.0, groups-none n ts small.1)

each-within : (n : ℕ) (es : List Event) → of_sizes (λ k. k - n) es ≤ 0 → AllByRecursion (λ (e : Event). event_size e ≤ n) es
each-within n [] none = tt
each-within n (e ∷ es) none = (omega (arith, none), each-within n es (omega (arith, none)))

none-within : (n : ℕ) (es : List Event) → AllByRecursion (λ (e : Event). event_size e ≤ n) es → of_sizes (λ k. k - n) es ≤ 0
none-within n [] all = omega arith
none-within n (e ∷ es) all = let others = none-within n es all.1 in omega (arith, all.0)

-- there are no more rows events than events that the groups show
statements-few : (ss : List PlacedStatement) → sum_of (λ (s : Statement). length s.rows) (map statement_value ss) ≤ length (flat_map statement_shown ss)
statements-few [] = omega arith
statements-few (s ∷ ss) =
    let next = statements-few ss in
    omega (arith, length-map s.rows rows_value, length-map s.rows (λ (r : PlacedRows). r.event), length-append s.maps (map (λ (r : PlacedRows). r.event) s.rows), length-append (statement_shown s) (flat_map statement_shown ss))

pub rows-shown : (ts : List PlacedTransaction) → rows_of (map transaction_value ts) ≤ length (flat_map transaction_shown ts)
rows-shown [] = omega arith
rows-shown (t ∷ ts) =
    let own = statements-few t.statements in
    let next = rows-shown ts in
    omega (arith, length-append (flat_map statement_shown t.statements) (t.end ∷ []), length-append (transaction_shown t) (flat_map transaction_shown ts))

-- as many in either order
pub rows-in-order : (order : Order) (ts : List Transaction) → rows_of (groups_in order ts) ≡ rows_of ts
rows-in-order Forward ts = refl
rows-in-order Backward ts =
    sum-turned (λ (t : Transaction). sum_of (λ (s : Statement). length s.rows) t.statements) reversed_transaction
    (λ t. sum-turned (λ (s : Statement). length s.rows) reversed_statement (λ s. length-reverse (map reversed_rows s.rows) ∙ length-map s.rows reversed_rows) t.statements) ts

-- what is cut of groups is no longer than this, and no event of it is larger than theirs
pub cut-total : (limit : ℕ) (most : Most) (n events : ℕ) (ts : List Transaction) → AllByRecursion (λ (t : Transaction). AllByRecursion (HasAtMost most) t.statements) ts
    → AllByRecursion (λ (e : Event). event_size e ≤ n) (group_events ts) → rows_of ts ≤ events
    → of_sizes (λ k. k) (group_events (cut_groups limit ts)) ≤ events * (most.maps * n) + of_sizes (λ k. k) (group_events ts)
cut-total limit most n events ts few small many =
    let whole = groups-sum (λ k. k) (most.maps * n) limit ts (groups-few most n ts few (groups-small n ts small)) in
    let times = mul-le (rows_of ts) (most.maps * n) events (most.maps * n) many (omega arith) in
    omega arith

pub cut-each : (limit n : ℕ) (ts : List Transaction) → AllByRecursion (λ (e : Event). event_size e ≤ n) (group_events ts) → AllByRecursion (λ (e : Event). event_size e ≤ n) (group_events (cut_groups limit ts))
cut-each limit n ts small =
    let whole = groups-sum (λ k. k - n) 0 limit ts (groups-none n ts (groups-small n ts small)) in
    let own = none-within n (group_events ts) small in
    each-within n (group_events (cut_groups limit ts)) (omega arith)
