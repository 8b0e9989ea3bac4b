-- The values of a column that no change of others changes.
use Rattle.std.proofs.Common.{◌≡◌, ◌<◌, ◌⊎◌, ℕ, zero, suc, ◌+◌, Bool, true, false, List, [], ◌∷◌, length, get_or, Option, Some, None, inl, inr, ⊎_elim, refl, sym, ap, ◌∙◌, subst, arith}
use Rattle.std.specs.Prelude.{⊤, option_map, slice_get}
use Rattle.std.proofs.lemmas.Bool.{cond-false, cond-true}
use Rattle.std.proofs.lemmas.Option.{same_Some, slice_get-get_or}
use Rattle.blog_row.specs.Image.{Row}
use Rattle.blog_row.specs.TableMap.{Table}
use Rattle.blog_row.proofs.Cutting.{and_then_found}
use Rattle.blog_trans.specs.Changes.{Change, Inserted, Deleted, Updated}
use Rattle.blog_flash.specs.States.{State, apply_all, delete_row, insert_row, is_row, is_same_value}
use Rattle.blog_flash.proofs.Undoing.{insert-delete, with_copies-own}
use Rattle.blog_undo.specs.Mixed.{Marked, other_changes}
use Rattle.blog_undo.proofs.Rows.{is_row-Decides}
use Rattle.blog_merge.specs.Columns.{IsFrom, LeavesColumn, RestoresColumns}
use Rattle.blog_merge.specs.Merge.{change_would_be, later_would_be, merged, pairs_by, rebased_after}
use Rattle.blog_merge.specs.Pairs.{Pair, would_be}
use Rattle.blog_merge.proofs.Columns.{equal-value, merged-value}
use Rattle.blog_merge.proofs.Steps.{apply-front, apply_some}

-- ---- values

-- the row has column i, and P holds of its value
abbrev HasValue : (Option (List ℕ) → Type 0) → ℕ → Row → Type 0
HasValue P i r = (a : Option (List ℕ)) × (slice_get r i ≡ Some a) × P a

-- so has each row of the table
abbrev AllHaveValue : (Option (List ℕ) → Type 0) → Table → ℕ → State → Type 0
AllHaveValue P t i state = (r : Row) → 0 < state t r → HasValue P i r

-- an insert into the table has such a row; an update of it leaves the value of column i
abbrev KeepsColumn : (Option (List ℕ) → Type 0) → Table → ℕ → Change → Type 0
KeepsColumn P t i (Inserted u r) = u ≡ t → HasValue P i r
KeepsColumn P t i (Deleted u r) = ⊤
KeepsColumn P t i (Updated u r s) = u ≡ t → (a : Option (List ℕ)) × (slice_get r i ≡ Some a) × (slice_get s i ≡ Some a)

-- so does each of the changes
abbrev AllKeep : (Option (List ℕ) → Type 0) → Table → ℕ → List Change → Type 0
AllKeep P t i cs = (place : ℕ) (c : Change) → slice_get cs place ≡ Some c → KeepsColumn P t i c

-- ---- rows that are there

-- after a row was put in, it is there, and each other row that is there was there before
put-there : (u : Table) (r : Row) (state : State) → 0 < insert_row u r state u r
put-there u r state = let own = with_copies-own state u r (state u r + 1) in omega (arith, own)

there-before : (u : Table) (r : Row) (state : State) (t : Table) (q : Row) → 0 < insert_row u r state t q → ((u ≡ t) × (r ≡ q)) ⊎ (0 < state t q)
there-before u r state t q some = by_case (is_row u r t q) refl
  where
    by_case : (b : Bool) → is_row u r t q ≡ b → ((u ≡ t) × (r ≡ q)) ⊎ (0 < state t q)
    by_case true is = inl ((is_row-Decides u r t q).0 is)
    by_case false is = inr (subst (λ n. 0 < n) (cond-false (is_row u r t q) (state u r + 1) (state t q) is) some)

-- and no row that was there is gone
there-after : (u : Table) (r : Row) (state : State) (t : Table) (q : Row) → 0 < state t q → 0 < insert_row u r state t q
there-after u r state t q some = by_case (is_row u r t q) refl
  where
    by_case : (b : Bool) → is_row u r t q ≡ b → 0 < insert_row u r state t q
    by_case true is = subst (λ n. 0 < n) (sym (cond-true (is_row u r t q) (state u r + 1) (state t q) is)) (omega arith)
    by_case false is = subst (λ n. 0 < n) (sym (cond-false (is_row u r t q) (state u r + 1) (state t q) is)) some

-- ---- one change

inserted-has : (P : Option (List ℕ) → Type 0) (t : Table) (i : ℕ) (u : Table) (r : Row) (state : State) → (u ≡ t → HasValue P i r) → AllHaveValue P t i state
    → AllHaveValue P t i (insert_row u r state)
inserted-has P t i u r state new all q some = ⊎_elim
    (λ (same : (u ≡ t) × (r ≡ q)). subst (HasValue P i) same.1 (new same.0))
    (λ there. all q there)
    (there-before u r state t q some)

deleted-has : (P : Option (List ℕ) → Type 0) (t : Table) (i : ℕ) (u : Table) (r : Row) (state left : State) → delete_row u r state ≡ Some left → AllHaveValue P t i state
    → ((u ≡ t → HasValue P i r) × AllHaveValue P t i left)
deleted-has P t i u r state left e all =
    let back : insert_row u r left ≡ state = insert-delete u r state left e in (
      λ is. all r (subst (λ (v : Table). 0 < state v r) is (subst (λ (x : State). 0 < x u r) back (put-there u r left))),
      λ q some. all q (subst (λ (x : State). 0 < x t q) back (there-after u r left t q some)),
    )

-- an update that leaves the value, made to another row
kept-value : (P : Option (List ℕ) → Type 0) (i : ℕ) (before after other : Row) → ((a : Option (List ℕ)) × (slice_get before i ≡ Some a) × (slice_get after i ≡ Some a)) → HasValue P i other
    → HasValue P i (merged before after other)
kept-value P i before after other (a, e, f) (c, g, p) =
    (c, merged-value before after other i a a c e f g ∙ ap Some (cond-true (is_same_value a a) c a (equal-value a)), p)

later-has : (P : Option (List ℕ) → Type 0) (t : Table) (i : ℕ) (c : Change) (ps : List Pair) (state after : State) → KeepsColumn P t i c → AllHaveValue P t i state
    → apply_some (later_would_be c ps) state ≡ Some after → AllHaveValue P t i after
later-has P t i (Inserted u r) ps state after keeps all e = subst (AllHaveValue P t i) (same_Some _ _ e) (inserted-has P t i u r state keeps all)
later-has P t i (Deleted u r) ps state after keeps all e = by_case (would_be u r ps) e
  where
    by_case : (o : Option Row) → apply_some (option_map (Deleted u) o) state ≡ Some after → AllHaveValue P t i after
    by_case None same = subst (AllHaveValue P t i) (same_Some _ _ same) all
    by_case (Some w) gone = (deleted-has P t i u w state after gone all).1
later-has P t i (Updated u r s) ps state after keeps all e = by_case (would_be u r ps) e
  where
    by_case : (o : Option Row) → apply_some (option_map (λ w. Updated u w (merged r s w)) o) state ≡ Some after → AllHaveValue P t i after
    by_case None same = subst (AllHaveValue P t i) (same_Some _ _ same) all
    by_case (Some w) made =
        let (left, taken, put) = and_then_found (λ (x : State). Some (insert_row u (merged r s w) x)) (delete_row u w state) after made in
        let (had, others) = deleted-has P t i u w state left taken all in
        subst (AllHaveValue P t i) (same_Some _ _ put) (inserted-has P t i u (merged r s w) left (λ is. kept-value P i r s w (keeps is) (had is)) others)

-- ---- all changes

-- a selected change isn't among the others, and another comes first among them
other-selected : (m : Marked) (ms : List Marked) → m.selected ≡ true → other_changes (m ∷ ms) ≡ other_changes ms
other-selected m ms e = rw e refl

other-other : (m : Marked) (ms : List Marked) → m.selected ≡ false → other_changes (m ∷ ms) ≡ m.change ∷ other_changes ms
other-other m ms e = rw e refl

all-have : (P : Option (List ℕ) → Type 0) (t : Table) (i : ℕ) (ms : List Marked) (ps : List Pair) (before alone : State)
    → AllKeep P t i (other_changes ms) → AllHaveValue P t i before → apply_all (rebased_after ps ms) before ≡ Some alone → AllHaveValue P t i alone
all-have P t i [] ps before alone keep all e = subst (AllHaveValue P t i) (same_Some _ _ e) all
all-have P t i (m ∷ ms) ps before alone keep all e =
    let step = sym (apply-front (change_would_be m ps) (rebased_after (pairs_by m ps) ms) before) ∙ e in
    let (x, first, others) = and_then_found (apply_all (rebased_after (pairs_by m ps) ms)) (apply_some (change_would_be m ps) before) alone step in
    by_case m.selected refl x first (λ rest has. all-have P t i ms (pairs_by m ps) x alone rest has others)
  where
    by_case : (b : Bool) → m.selected ≡ b → (x : State) → apply_some (change_would_be m ps) before ≡ Some x
        → (AllKeep P t i (other_changes ms) → AllHaveValue P t i x → AllHaveValue P t i alone) → AllHaveValue P t i alone
    by_case true is x first later =
        let none = cond-true m.selected None (later_would_be m.change ps) is in
        let same = same_Some before x (sym (ap (λ o. apply_some o before) none) ∙ first) in
        later (subst (AllKeep P t i) (other-selected m ms is) keep) (subst (AllHaveValue P t i) same all)
    by_case false is x first later =
        let change = cond-false m.selected None (later_would_be m.change ps) is in
        let each = subst (AllKeep P t i) (other-other m ms is) keep in
        later (λ place. each (suc place)) (later-has P t i m.change ps before x (each zero m.change refl) all (sym (ap (λ o. apply_some o before) change) ∙ first))

-- ---- where the values are from

has-column : (r : Row) (i : ℕ) → i < length r → (a : Option (List ℕ)) × (slice_get r i ≡ Some a)
has-column r i within = (get_or r i None, slice_get-get_or r i None within)

inserted-from : (ms : List Marked) (before : State) (t : Table) (i place : ℕ) (c : Change) → slice_get (other_changes ms) place ≡ Some c → LeavesColumn t i c
    → KeepsColumn (IsFrom ms before t i) t i c
inserted-from ms before t i place (Inserted u r) there leaves = λ is.
    let (a, e) = has-column r i (leaves is) in
    (a, e, record { row = r; there = e; origin = inr (place, there ∙ ap (λ v. Some (Inserted v r)) is) })
inserted-from ms before t i place (Deleted u r) there leaves = tt
inserted-from ms before t i place (Updated u r s) there leaves = leaves

pub restores-columns : (ms : List Marked) → RestoresColumns ms
restores-columns ms t i before alone within leave e =
    all-have (IsFrom ms before t i) t i ms [] before alone
    (λ place c there. inserted-from ms before t i place c there (leave place c there))
    (λ r some. let h = has-column r i (within r some) in (h.0, h.1, record { row = r; there = h.1; origin = inl some }))
    e
