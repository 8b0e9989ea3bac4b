-- What is known of an index: its lists, and that the events of its groups stand in its log.
use Rattle.std.proofs.Common.{rules, ◌≡◌, ℕ, zero, suc, ◌+◌, ◌<◌, List, [], ◌∷◌, length, take, drop, Option, Some, IsSome, refl, sym, ap, subst, ◌∙◌, arith}
use Rattle.std.specs.List.{AllByRecursion, slice_get}
use Rattle.std.proofs.lemmas.Option.{slice_get_within, option_and_then_some}
use Rattle.blog_event.specs.declared.event.Event as told
use Rattle.blog_event.specs.Event.{Event, event_at, event_of, event_size}
use Rattle.blog_event.specs.File.{Placed, placed_from, read}
use Rattle.blog_event.specs.code.Going.{AreRead}
use Rattle.blog_event.proofs.Going.{opened-reads-on}
use Rattle.blog_trans.specs.declared.groups.Index.{Index}
use Rattle.blog_trans.specs.Selection.{Selection}
use Rattle.blog_trans.specs.Acceptance.{IsAccepted}
use Rattle.blog_trans.specs.Groups.{PlacedRows, PlacedStatement, PlacedTransaction, placed_groups}
use Rattle.blog_trans.specs.PlacedFacts.{IsPlacedMap, IsPlacedStatement, IsPlacedTransaction}
use Rattle.blog_trans.specs.code.IndexView.{Stands, IsOfEntry, IsRowsOfEntry, index_bytes, index_groups, index_selection, placed, statement_at, map_at, rows_at, maps_in, rows_in, rows_place}
use Rattle.blog_trans.specs.code.Entries.{event_entry, transaction_start, statement_start, statements_in, transaction_place, statement_place}
use Rattle.blog_trans.proofs.PlacedParts.{all-at, all-by, all-filter}
use Rattle.blog_trans.proofs.PlacedFacts.{groups-placed}
use Rattle.blog_trans.proofs.Shown.{accepted-opens}
use Rattle.blog_trans.proofs.Columns.{transactions_len, statements_len}
use Rattle.blog_trans.proofs.EntriesFound.{inner, get_begin, get_end, get_map, get_rows, get_statement_start, get_transaction_start, next_statement}

-- ---- the events of the groups stand in the log

stand_left : (bytes : List ℕ) (stop : Option ℕ) (at : ℕ) (es : List Event) → AreRead bytes stop at es → AllByRecursion (Stands bytes) (placed_from at es)
stand_left bytes stop at [] are = tt
stand_left bytes stop at (e ∷ es) (below, stands, left) = (stands, stand_left bytes stop (at + event_size e) es left)

stand_read : (bytes : List ℕ) (sel : Selection) → IsAccepted bytes sel → AllByRecursion (Stands bytes) (placed_from 4 (read bytes sel.stop))
stand_read bytes sel accepted =
    let on = opened-reads-on bytes sel.stop (accepted-opens bytes sel accepted) in
    subst (λ es. AllByRecursion (Stands bytes) (placed_from 4 es)) (sym on.read_is) (on.stands, stand_left bytes sel.stop (4 + event_size on.first) on.later on.left.are)

pub groups_known : (bytes : List ℕ) (sel : Selection) → IsAccepted bytes sel → AllByRecursion (IsPlacedTransaction (Stands bytes) sel) (placed_groups bytes sel)
unfolding placed_groups
groups_known bytes sel accepted = search (rules, groups-placed, all-by, all-filter, stand_read)

-- ---- of an index, by number

pub found : {A : Type 0} (xs : List A) (n : ℕ) → n < length xs → (x : A) × (slice_get xs n ≡ Some x)
found [] n below = absurd (omega arith)
found (x ∷ xs) zero below = (x, refl)
found (x ∷ xs) (suc n) below = found xs n (omega arith)

pub some_found : {A : Type 0} (o : Option A) → IsSome o → (x : A) × (o ≡ Some x)
some_found o some = grind arith

known : {A : Type 0} (index : Index A) (t : ℕ) (x : PlacedTransaction) → slice_get (index_groups index) t ≡ Some x → IsPlacedTransaction (Stands (index_bytes index)) (index_selection index) x
known index t x at = all-at (IsPlacedTransaction (Stands (index_bytes index)) (index_selection index)) (index_groups index) t x (groups_known (index_bytes index) (index_selection index) index.accepted) at

statement_known : {A : Type 0} (index : Index A) (t s : ℕ) (y : PlacedStatement) → statement_at (index_groups index) t s ≡ Some y → IsPlacedStatement (Stands (index_bytes index)) (index_selection index) y
statement_known index t s y is =
    option_and_then_some (λ x. slice_get x.statements s) (slice_get (index_groups index) t) y is
    (λ x at inside. all-at (IsPlacedStatement (Stands (index_bytes index)) (index_selection index)) x.statements s y (known index t x at).statements inside)

pub map_known : {A : Type 0} (index : Index A) (t s m : ℕ) (p : Placed) → map_at (index_groups index) t s m ≡ Some p → IsPlacedMap (Stands (index_bytes index)) (index_selection index) p
map_known index t s m p is =
    option_and_then_some (λ y. slice_get y.maps m) (statement_at (index_groups index) t s) p is
    (λ y at. all-at _ y.maps m p (statement_known index t s y at).maps)

-- ---- entries

pub begin_read : {A : Type 0} (index : Index A) (t n : ℕ) → t < length (index_groups index) → n ≡ transaction_place (index_groups index) t
    → (x : PlacedTransaction) × (slice_get (index_groups index) t ≡ Some x) × IsOfEntry index n x.begin
begin_read index t n below place =
    let (x, at) = found (index_groups index) t below in
    (x, at, record { entry = event_entry x.begin; here = rw (index.entries_are) (get_begin (index_groups index) t n x at place); place = refl; stands = (known index t x at).begin_member })

pub end_read : {A : Type 0} (index : Index A) (t n : ℕ) → t < length (index_groups index) → n + 1 ≡ transaction_place (index_groups index) (t + 1)
    → (x : PlacedTransaction) × (slice_get (index_groups index) t ≡ Some x) × IsOfEntry index n x.end
end_read index t n below place =
    let (x, at) = found (index_groups index) t below in
    (x, at, record { entry = event_entry x.end; here = rw (index.entries_are) (get_end (index_groups index) t n x at place); place = refl; stands = (known index t x at).end_member })

pub map_read : {A : Type 0} (index : Index A) (t s m n : ℕ) → IsSome (map_at (index_groups index) t s m) → n ≡ statement_place (index_groups index) t s + m
    → (p : Placed) × (map_at (index_groups index) t s m ≡ Some p) × IsOfEntry index n p
map_read index t s m n some place =
    let (p, is) = some_found (map_at (index_groups index) t s m) some in
    (p, is, record { entry = event_entry p; here = rw (index.entries_are) (get_map (index_groups index) t s m n p is place); place = refl; stands = (map_known index t s m p is).member })

pub rows_read : {A : Type 0} (index : Index A) (t s r n : ℕ) → IsSome (rows_at (index_groups index) t s r) → n ≡ rows_place (index_groups index) t s + r
    → (p : PlacedRows) × (rows_at (index_groups index) t s r ≡ Some p) × IsRowsOfEntry index n p
rows_read index t s r n some place =
    let (p, is) = some_found (rows_at (index_groups index) t s r) some in
    let here = ap (λ es. slice_get es n) index.entries_are ∙ get_rows (index_groups index) t s r n p is place in
    option_and_then_some (λ y. slice_get y.rows r) (statement_at (index_groups index) t s) p is
    (λ y at inside. (p, is, record { here = here; maps = y.maps; known = all-at _ y.rows r p (statement_known index t s y at).rows inside }))

-- ---- an event that was read is the one that stands there

pub some_at : (bytes : List ℕ) (p : Placed) (at : ℕ) → at ≡ p.pos → Stands bytes p → IsSome (event_at (drop at bytes))
some_at bytes p at same stands = rw (same, stands) refl

pub placed_is : (bytes : List ℕ) (p : Placed) (at : ℕ) (e : told.Event) → at ≡ p.pos → Stands bytes p → event_at (drop at bytes) ≡ Some (event_of e) → e.pos ≡ at → placed e ≡ p
placed_is bytes p at e same stands read pos = grind arith

-- ---- beginnings

-- how many transactions and statements there are
pub many_transactions : {A : Type 0} (index : Index A) → length index.transactions.items ≡ length (index_groups index)
many_transactions index = ap length index.transactions_are ∙ transactions_len 0 0 (index_groups index)

pub many_statements : {A : Type 0} (index : Index A) → length index.statements.items ≡ statements_in (index_groups index)
many_statements index = ap length index.statements_are ∙ statements_len 0 (index_groups index)

pub transaction_read : {A : Type 0} (index : Index A) (t : ℕ) → t < length (index_groups index)
    → slice_get index.transactions.items t ≡ Some (transaction_start (transaction_place (index_groups index) t) (statements_in (take t (index_groups index))))
transaction_read index t below = ap (λ xs. slice_get xs t) index.transactions_are ∙ get_transaction_start 0 0 (index_groups index) t _ _ below (omega arith) (omega arith)

pub below : {A : Type 0} (index : Index A) (t s : ℕ) → IsSome (statement_at (index_groups index) t s) → t < length (index_groups index)
below index t s some = grind (arith, some_found, option_and_then_some, slice_get_within)

pub statement_read : {A : Type 0} (index : Index A) (t s n : ℕ) → IsSome (statement_at (index_groups index) t s) → n ≡ statements_in (take t (index_groups index)) + s
    → slice_get index.statements.items n ≡ Some (statement_start (statement_place (index_groups index) t s) (length (maps_in (index_groups index) t s)))
statement_read index t s n some place = grind (arith, some_found, get_statement_start, inner)

-- where the next statement begins
pub end_found : {A : Type 0} (index : Index A) (t s : ℕ) → IsSome (statement_at (index_groups index) t s)
    → statement_place (index_groups index) t (s + 1) ≡ rows_place (index_groups index) t s + length (rows_in (index_groups index) t s)
end_found index t s some = grind (arith, some_found, next_statement, inner)
