-- Held pairs as pairs of rows.
use Rattle.std.proofs.Common.{◌≡◌, ◌<◌, ◌&&◌, ◌==◌, ℕ, zero, suc, Bool, true, false, nat_eq, List, [], ◌∷◌, ◌++◌, length, map, set, slice_get, Option, Some, None, Ok, option_map, option_and_then, refl, sym, ap, ◌∙◌, append-nil, eqb-true}
use Rattle.std.specs.Cmp.Lexicographic.{pointwise}
use Rattle.std.proofs.lemmas.Bool.{and_parts, cond-false, cond-true, eqb-false}
use Rattle.std.proofs.lemmas.List.{map-append, map-set}
use Rattle.std.proofs.lemmas.Option.{none-some, same_Some}
use Rattle.blog_flash.specs.States.{is_same_value}
use Rattle.blog_merge.specs.Merge.{merged}
use Rattle.blog_merge.specs.Pairs.{Pair, is_of, put, real_row, unless_equal, without, would_be, would_row}
use Rattle.blog_merge.proofs.Columns.{merged-own}
use Rattle.blog_row.specs.Column.{Layout}
use Rattle.blog_row.specs.Image.{Row, row_of}
use Rattle.blog_row.specs.TableMap.{Table, layout_of}
use Rattle.blog_trans.specs.Acceptance.{is_same_table}
use Rattle.blog_trans.specs.Changes.{row_by, table_of}
use Rattle.blog_trans.proofs.Tables.{own-table, same-table}
use Rattle.blog_undo.specs.Mixed.{is_same_row}
use Rattle.blog_undo.proofs.Rows.{is_row-Decides}
use Rattle.blog_pairs.specs.Places.{EachSlot, is_in, place_of, present}
use Rattle.blog_pairs.specs.Tables.{AreApart}
use Rattle.blog_pairs.specs.code.PairsView.{HasColumns, body_at, holds_row, pair_by, pair_told, pairs_in, slots_told, table_at}
use Rattle.blog_pairs.specs.code.Placed.{are_equal, kept_pair, placed, would_at, would_told}
use Rattle.blog_pairs.specs.declared.held.HeldPair.{HeldPair}
use Rattle.blog_pairs.proofs.EachSlot.{present-append}
use Rattle.blog_pairs.proofs.RowPlaces.{has_place, is_dropped, is_kept, no_place}

-- ---- the table of a pair

other_table : (t u : Table) → (t ≡ u → ⊥) → is_same_table t u ≡ false
other_table t u apart = by_case (is_same_table t u) refl
  where
    by_case : (b : Bool) → is_same_table t u ≡ b → b ≡ false
    by_case true is = absurd (apart (same-table t u is))
    by_case false is = refl

-- a pair is that of a row where its table has the number, and the rows are equal
is_of_pair : (bodies : List (List ℕ)) (n table : ℕ) (columns : Layout) (r : Row) (real : List ℕ) (would : Option (List ℕ))
    → AreApart bodies → table < length bodies → HasColumns bodies n columns
    → is_of (table_at bodies n) r (pair_by (body_at bodies table) real would) ≡ (table == n && pointwise is_same_value r (row_of columns real))
is_of_pair bodies n table columns r real would apart within has = by_case (nat_eq table n) refl
  where
    rows : Bool
    rows = pointwise is_same_value r (row_of columns real)

    by_case : (b : Bool) → nat_eq table n ≡ b → is_of (table_at bodies n) r (pair_by (body_at bodies table) real would) ≡ (nat_eq table n && rows)
    by_case true is =
        ap (λ k. is_of (table_at bodies n) r (pair_by (body_at bodies k) real would)) (eqb-true table n is)
        ∙ ap (λ b. b && pointwise is_same_value r (row_by (layout_of (body_at bodies n)) real)) (own-table (table_at bodies n))
        ∙ ap (λ l. pointwise is_same_value r (row_by l real)) has.1
        ∙ sym (ap (λ b. b && rows) is)
    by_case false is =
        ap (λ b. b && pointwise is_same_value r (row_by (layout_of (body_at bodies table)) real))
        (other_table (table_at bodies n) (table_at bodies table) (λ e. eqb-false table n is (sym (apart n table has.0 within e))))
        ∙ sym (ap (λ b. b && rows) is)

-- the same of a slot
pub in_slot : {A : Type 0} (bodies : List (List ℕ)) (n : ℕ) (columns : Layout) (image : List ℕ) (slots : List (Option (HeldPair A))) (k : ℕ) (s : Option (HeldPair A))
    → AreApart bodies → HasColumns bodies n columns → EachSlot (λ i (p : HeldPair A). p.table < length bodies) slots → slice_get slots k ≡ Some s
    → is_in (table_at bodies n) (row_of columns image) (option_map (pair_told bodies) s) ≡ holds_row n columns image s
in_slot bodies n columns image slots k None apart has numbered at = refl
in_slot bodies n columns image slots k (Some p) apart has numbered at =
    is_of_pair bodies n p.table columns (row_of columns image) p.real.items (option_map (λ image. image.items) p.would) apart (numbered k p at) has

-- a slot, and what is told of it
pub told_at : {X Y : Type 0} (f : X → Y) (xs : List X) (k : ℕ) (x : X) → slice_get xs k ≡ Some x → slice_get (map f xs) k ≡ Some (f x)
told_at f [] k x e = absurd (none-some x e)
told_at f (y ∷ xs) zero x e = ap Some (ap f (same_Some y x e))
told_at f (y ∷ xs) (suc k) x e = told_at f xs k x e

pub there_at : {X Y : Type 0} (f : X → Y) (xs : List X) (k : ℕ) (y : Y) → slice_get (map f xs) k ≡ Some y → (x : X) × (slice_get xs k ≡ Some x) × (f x ≡ y)
there_at f [] k y e = absurd (none-some y e)
there_at f (x ∷ xs) zero y e = (x, refl, same_Some (f x) y e)
there_at f (x ∷ xs) (suc k) y e = there_at f xs k y e

-- ---- what a row would be

would_of_pair : {A : Type 0} (bodies : List (List ℕ)) (n : ℕ) (columns : Layout) (s : Option (HeldPair A)) (p : Pair) (image : List ℕ) → HasColumns bodies n columns
    → option_map (pair_told bodies) s ≡ Some p → holds_row n columns image s ≡ true → p.would ≡ option_map (row_of columns) (would_told s)
would_of_pair bodies n columns None p image has told holds = absurd (none-some p told)
would_of_pair bodies n columns (Some q) p image has told holds =
    let would : Option (List ℕ) = option_map (λ image. image.items) q.would in
    ap (λ (p : Pair). p.would) (sym (same_Some (pair_told bodies q) p told))
    ∙ ap (λ j. option_map (row_by (layout_of (body_at bodies j))) would) (eqb-true q.table n (and_parts _ _ holds).0)
    ∙ ap (λ l. option_map (row_by l) would) has.1

pub would_by_place : {A : Type 0} (bodies : List (List ℕ)) (n : ℕ) (columns : Layout) (image : List ℕ) (slots : List (Option (HeldPair A))) (place : Option ℕ)
    → AreApart bodies → HasColumns bodies n columns → EachSlot (λ i (p : HeldPair A). p.table < length bodies) slots
    → place_of (table_at bodies n) (row_of columns image) (slots_told bodies slots) ≡ place
    → would_be (table_at bodies n) (row_of columns image) (pairs_in bodies slots) ≡ option_map (row_of columns) (would_at place image slots)
would_by_place bodies n columns image slots None apart has numbered at = (no_place (table_at bodies n) (row_of columns image) (slots_told bodies slots) at).would
would_by_place bodies n columns image slots (Some k) apart has numbered at =
    let h = has_place (table_at bodies n) (row_of columns image) (slots_told bodies slots) k at in
    let (s, got, told) = there_at (option_map (pair_told bodies)) slots k (Some h.pair) h.there in
    let holds = sym (in_slot bodies n columns image slots k s apart has numbered got) ∙ ap (is_in (table_at bodies n) (row_of columns image)) told ∙ h.is in
    h.would ∙ would_of_pair bodies n columns s h.pair image has told holds
    ∙ ap (λ o. option_map (row_of columns) (option_and_then would_told o)) (sym got)

-- ---- a pair in a place

-- the rows of a pair are equal
equal_pair : (body : List ℕ) (columns : Layout) (real : List ℕ) (would : Option (List ℕ)) → layout_of body ≡ Ok columns
    → is_same_row (would_row (pair_by body real would)) (Some (real_row (pair_by body real would))) ≡ are_equal columns would real
equal_pair body columns real None has = refl
equal_pair body columns real (Some would) has =
    ap (λ b. b && pointwise is_same_value (row_by (layout_of body) would) (row_by (layout_of body) real)) (own-table (table_of body))
    ∙ ap (λ l. pointwise is_same_value (row_by l would) (row_by l real)) has

kept_told : {A : Type 0} (bodies : List (List ℕ)) (columns : Layout) (p : HeldPair A) → layout_of (body_at bodies p.table) ≡ Ok columns
    → unless_equal (pair_told bodies p) ≡ present (option_map (pair_told bodies) (kept_pair columns p) ∷ [])
kept_told {A} bodies columns p has = by_case (are_equal columns (option_map (λ would. would.items) p.would) p.real.items) refl
  where
    same : Bool
    same = are_equal columns (option_map (λ would. would.items) p.would) p.real.items

    tests : is_same_row (would_row (pair_told bodies p)) (Some (real_row (pair_told bodies p))) ≡ same
    tests = equal_pair (body_at bodies p.table) columns p.real.items (option_map (λ would. would.items) p.would) has

    told : Option (HeldPair A) → List Pair
    told o = present (option_map (pair_told bodies) o ∷ [])

    by_case : (b : Bool) → same ≡ b → unless_equal (pair_told bodies p) ≡ told (kept_pair columns p)
    by_case true is = is_dropped (pair_told bodies p) (tests ∙ is) ∙ sym (ap told (cond-true same None (Some p) is))
    by_case false is = is_kept (pair_told bodies p) (tests ∙ is) ∙ sym (ap told (cond-false same None (Some p) is))

put_placed : {A : Type 0} (bodies : List (List ℕ)) (t : Table) (r : Row) (place : Option ℕ) (new : Pair) (o : Option (HeldPair A)) (slots : List (Option (HeldPair A)))
    → place_of t r (slots_told bodies slots) ≡ place → unless_equal new ≡ present (option_map (pair_told bodies) o ∷ [])
    → pairs_in bodies (placed place o slots) ≡ put t r new (pairs_in bodies slots)
put_placed bodies t r None new None slots at is =
    sym ((no_place t r (slots_told bodies slots) at).puts new ∙ ap (λ qs. pairs_in bodies slots ++ qs) is ∙ append-nil (pairs_in bodies slots))
put_placed bodies t r None new (Some p) slots at is =
    ap present (map-append (option_map (pair_told bodies)) slots (Some p ∷ []))
    ∙ present-append (slots_told bodies slots) (Some (pair_told bodies p) ∷ [])
    ∙ sym ((no_place t r (slots_told bodies slots) at).puts new ∙ ap (λ qs. pairs_in bodies slots ++ qs) is)
put_placed bodies t r (Some k) new o slots at is =
    ap present (map-set (option_map (pair_told bodies)) slots k o)
    ∙ sym ((has_place t r (slots_told bodies slots) k at).puts new (option_map (pair_told bodies) o) is)

-- a held pair, with what its row would be
pub put_pair : {A : Type 0} (bodies : List (List ℕ)) (n : ℕ) (columns : Layout) (r : Row) (place : Option ℕ) (p : HeldPair A) (would : Option Row) (slots : List (Option (HeldPair A)))
    → HasColumns bodies n columns → p.table ≡ n → place_of (table_at bodies n) r (slots_told bodies slots) ≡ place
    → option_map (row_of columns) (option_map (λ image. image.items) p.would) ≡ would
    → pairs_in bodies (placed place (kept_pair columns p) slots) ≡ put (table_at bodies n) r (record { table = table_at bodies n; real = row_of columns p.real.items; would = would }) (pairs_in bodies slots)
put_pair bodies n columns r place p would slots has same at is =
    let layout : layout_of (body_at bodies p.table) ≡ Ok columns = ap (λ j. layout_of (body_at bodies j)) same ∙ has.1 in
    let images : Option (List ℕ) = option_map (λ image. image.items) p.would in
    let make : Table → Option Row → Pair = λ t w. record { table = t; real = row_of columns p.real.items; would = w } in
    let told : pair_told bodies p ≡ make (table_at bodies n) would =
    ap (λ l. record { table = table_at bodies p.table; real = row_by l p.real.items; would = option_map (row_by l) images }) layout
    ∙ ap (λ j. make (table_at bodies j) (option_map (row_of columns) images)) same
    ∙ ap (make (table_at bodies n)) is in
    put_placed bodies (table_at bodies n) r place (pair_told bodies p) (kept_pair columns p) slots at (kept_told bodies columns p layout)
    ∙ ap (λ q. put (table_at bodies n) r q (pairs_in bodies slots)) told

-- ---- other changes

-- an update of others to a row without a pair
pub later_unpaired : (t : Table) (r new : Row) (ps : List (Option Pair)) → place_of t r ps ≡ None
    → put t r (record { table = t; real = new; would = option_map (merged r new) (would_be t r (present ps)) }) (present ps) ≡ present ps
later_unpaired t r new ps at =
    let h = no_place t r ps at in
    let make : Option Row → Pair = λ w. record { table = t; real = new; would = w } in
    let would : option_map (merged r new) (would_be t r (present ps)) ≡ Some new = ap (option_map (merged r new)) h.would ∙ ap Some (merged-own r new) in
    ap (λ w. put t r (make w) (present ps)) would
    ∙ h.puts (make (Some new))
    ∙ ap (λ qs. present ps ++ qs) (is_dropped (make (Some new)) ((is_row-Decides t new t new).1 (refl, refl)))
    ∙ append-nil (present ps)

-- a delete of others
pub taken_at : {A : Type 0} (bodies : List (List ℕ)) (t : Table) (r : Row) (k : ℕ) (slots : List (Option (HeldPair A)))
    → place_of t r (slots_told bodies slots) ≡ Some k → pairs_in bodies (set slots k None) ≡ without t r (pairs_in bodies slots)
taken_at bodies t r k slots at = ap present (map-set (option_map (pair_told bodies)) slots k None) ∙ sym (has_place t r (slots_told bodies slots) k at).taken

-- a row that wouldn't be there
pub added_pair : {A : Type 0} (bodies : List (List ℕ)) (n : ℕ) (columns : Layout) (p : HeldPair A) (slots : List (Option (HeldPair A)))
    → HasColumns bodies n columns → p.table ≡ n → p.would ≡ None
    → pairs_in bodies (slots ++ Some p ∷ []) ≡ pairs_in bodies slots ++ record { table = table_at bodies n; real = row_of columns p.real.items; would = None } ∷ []
added_pair bodies n columns p slots has same none =
    let layout : layout_of (body_at bodies p.table) ≡ Ok columns = ap (λ j. layout_of (body_at bodies j)) same ∙ has.1 in
    let make : Table → Option Row → Pair = λ t w. record { table = t; real = row_of columns p.real.items; would = w } in
    let told : pair_told bodies p ≡ make (table_at bodies n) None =
    ap (λ w. record { table = table_at bodies p.table; real = row_by (layout_of (body_at bodies p.table)) p.real.items; would = option_map (row_by (layout_of (body_at bodies p.table))) (option_map (λ image. image.items) w) }) none
    ∙ ap (λ l. record { table = table_at bodies p.table; real = row_by l p.real.items; would = None }) layout
    ∙ ap (λ j. make (table_at bodies j) None) same in
    ap present (map-append (option_map (pair_told bodies)) slots (Some p ∷ []))
    ∙ present-append (slots_told bodies slots) (Some (pair_told bodies p) ∷ [])
    ∙ ap (λ q. pairs_in bodies slots ++ q ∷ []) told
