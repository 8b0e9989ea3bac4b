-- How what the counts hold changes with room for more tables, with one more rows event and with one more kept map.
use Rattle.std.proofs.Common.{◌≡◌, ◌≢◌, ℕ, zero, suc, ◌+◌, ◌/◌, ◌<◌, ◌≤◌, Bool, true, false, cond, if◌then◌else◌, ◌||◌, List, [], ◌∷◌, ◌++◌, map, length, slice_get, slice_set, replicate, take, take_all, Option, Some, None, option_map, refl, sym, ap, ◌∙◌, subst, arith, count_by, length-set, append-nil, append_assoc}
use Rattle.std.specs.List.{list_any, position_or_len, AllByRecursion, IsDistinct}
use Rattle.std.proofs.Math.Bool.{or-false}
use Rattle.std.proofs.lemmas.List.{length-map, map-append, get_or-set_same, get_or-set_other}
use Rattle.std.proofs.lemmas.List.Elements.{filter-append}
use Rattle.std.proofs.lemmas.List.Folds.{list_any-append}
use Rattle.std.proofs.lemmas.List.Sums.{sum_by-append, sum_by-cons, passes_at_first}
use Rattle.std.proofs.lemmas.Map.Keys.{IsDistinct-head, IsDistinct-tail}
use Rattle.std.proofs.lemmas.Option.{none-some, same_Some, slice_get-map, slice_get_within, get_or_from_slice_get, slice_get-get_or, slice_get_past, slice_get_cases}
use Rattle.blog_row.specs.declared.kind.RowsAction.{RowsAction}
use Rattle.blog_row.specs.declared.kind.RowsAction.TheVariants.{Write, Update, Delete}
use Rattle.blog_row.specs.Image.{Row}
use Rattle.blog_row.specs.TableMap.{Table, layout_of}
use Rattle.blog_trans.specs.declared.counts.Count.{Count}
use Rattle.blog_trans.specs.declared.counts.Counts.{Counts}
use Rattle.blog_trans.specs.declared.checker.MapSeen.{MapSeen}
use Rattle.blog_trans.specs.Acceptance.{is_same_table}
use Rattle.blog_trans.specs.Groups.{RowsEvent}
use Rattle.blog_trans.specs.Changes.{Change, Inserted, Deleted, Updated, TableCount, count_of, is_insert_into, is_update_of, is_delete_from, updates, changes_by_action, changes_of_rows, table_of, row_by, first_tables}
use Rattle.blog_trans.specs.code.CountsView.{with_images, AreCounts, counted, is_kept, told_of, facts_of}
use Rattle.blog_trans.specs.code.StatementMaps.{used_maps}
use Rattle.blog_trans.proofs.Tables.{same-table, own-table, table-laws, first_tables-more}
use Rattle.blog_trans.proofs.PlacedParts.{all-at}
use Rattle.blog_trans.proofs.EntriesFound.{mapped}

-- ---- the place of an element

slice_get-set_same : {X : Type 0} (xs : List X) (i : ℕ) (x : X) → i < length xs → slice_get (slice_set xs i x) i ≡ Some x
slice_get-set_same xs i x lt = slice_get-get_or (slice_set xs i x) i x (omega (arith, length-set xs i x)) ∙ ap Some (get_or-set_same xs i x x lt)

slice_get-set_other : {X : Type 0} (xs : List X) (i j : ℕ) (x : X) → j ≢ i → slice_get (slice_set xs i x) j ≡ slice_get xs j
slice_get-set_other xs i j x other =
    let read = slice_get-get_or xs j x in
    grind (arith, slice_get_cases xs j, slice_get-get_or (slice_set xs i x) j x, slice_get_past (slice_set xs i x) j, get_or-set_other xs i j x x other, length-set xs i x)

-- where an added element tells no more than none does, the added elements change nothing
filled-same : {X Y : Type 0} (f : Option X → Y) (x : X) → f (Some x) ≡ f None → (xs : List X) (k n : ℕ) → f (slice_get (xs ++ replicate k x) n) ≡ f (slice_get xs n)
filled-same f x same [] zero n = refl
filled-same f x same [] (suc k) zero = same
filled-same f x same [] (suc k) (suc n) = filled-same f x same [] k n
filled-same f x same (y ∷ xs) k zero = refl
filled-same f x same (y ∷ xs) k (suc n) = filled-same f x same xs k n

pub filled-up : {X : Type 0} (xs ys : List X) (x : X) (n k : ℕ) → length xs ≤ n → ys ≡ take n xs ++ replicate k x → ys ≡ xs ++ replicate k x
filled-up xs ys x n k within filled = filled ∙ ap (λ zs. zs ++ replicate k x) (take_all n xs within)

-- ---- the number of a table

-- it is the table's place
number-at : (tables : List Table) (k : ℕ) (t : Table) → IsDistinct is_same_table tables → slice_get tables k ≡ Some t → position_or_len (is_same_table t) tables ≡ k
number-at [] k t distinct at = absurd (none-some t at)
number-at (u ∷ tables) zero t distinct at = rw (ap (is_same_table t) (same_Some u t at) ∙ own-table t) refl
number-at (u ∷ tables) (suc k) t distinct at =
    let apart = all-at (λ x. is_same_table u x ≡ false) tables k t (IsDistinct-head is_same_table u tables distinct) at in
    rw (table-laws.symm t u ∙ apart) (omega (arith, number-at tables k t (IsDistinct-tail is_same_table u tables distinct) at))

-- another table has another
number-other : (tables : List Table) (k : ℕ) (t u : Table) → slice_get tables k ≡ Some u → is_same_table t u ≡ false → position_or_len (is_same_table t) tables ≢ k
number-other tables k t u at other same =
    grind (arith, passes_at_first (is_same_table t) tables u (omega (arith, same, slice_get_within tables k u at)), get_or_from_slice_get tables k u u at)

-- whether a table is among them with one more
any-more : (t u : Table) (ts : List Table) (b : Bool) → is_same_table t u ≡ b → list_any (is_same_table t) (ts ++ u ∷ []) ≡ (list_any (is_same_table t) ts || b)
any-more t u ts b same = list_any-append (is_same_table t) ts (u ∷ []) ∙ ap (λ c. list_any (is_same_table t) ts || c) (or-false (is_same_table t u) ∙ same)

-- ---- numbers of changes

-- no rows
abbrev pub none : Count
none = record { inserts = 0; updates = 0; deletes = 0; kept = false }

count-append : (p : Change → Bool) (cs ds : List Change) → count_by p (cs ++ ds) ≡ count_by p cs + count_by p ds
count-append p cs ds = sum_by-append (λ x. cond (p x) 1 0) cs ds

-- where the test answers the same for each
count-all : (p : Change → Bool) (f : Row → Change) (b : Bool) → ((row : Row) → p (f row) ≡ b) → (rows : List Row) → count_by p (map f rows) ≡ cond b (length rows) 0
count-all p f b same [] = grind arith
count-all p f b same (row ∷ rows) = let others = count-all p f b same rows in let one = same row in let sum = sum_by-cons (λ x. cond (p x) 1 0) (f row) (map f rows) in grind arith

count-updates : (p : Change → Bool) (u : Table) (b : Bool) → ((x y : Row) → p (Updated u x y) ≡ b) → (rows : List Row) → count_by p (updates u rows) ≡ cond b (length rows) 0 / 2
count-updates p u b same [] = grind arith
count-updates p u b same (x ∷ []) = grind arith
count-updates p u b same (x ∷ y ∷ rows) =
    grind (arith, count-updates p u b same rows, same x y, sum_by-cons (λ z. cond (p z) 1 0) (Updated u x y) (updates u rows))

-- those of the rows of a rows event
count-rows : (kind : RowsAction) (t u : Table) (b : Bool) → is_same_table t u ≡ b → (rows : List Row)
    → count_of (changes_by_action kind u rows) t ≡ counted t (Some (with_images kind (cond b (length rows) 0) none))
count-rows Write t u b same rows =
    let inserts = count-all (is_insert_into t) (Inserted u) b (λ row. same) rows in
    let updates = count-all (is_update_of t) (Inserted u) false (λ row. refl) rows in
    let deletes = count-all (is_delete_from t) (Inserted u) false (λ row. refl) rows in
    grind arith
count-rows Update t u b same rows =
    let inserts = count-updates (is_insert_into t) u false (λ x y. refl) rows in
    let updates = count-updates (is_update_of t) u b (λ x y. same) rows in
    let deletes = count-updates (is_delete_from t) u false (λ x y. refl) rows in
    grind arith
count-rows Delete t u b same rows =
    let inserts = count-all (is_insert_into t) (Deleted u) false (λ row. refl) rows in
    let updates = count-all (is_update_of t) (Deleted u) false (λ row. refl) rows in
    let deletes = count-all (is_delete_from t) (Deleted u) b (λ row. same) rows in
    grind arith

-- the rows of one more rows event are counted where it is of the table
counts-with : (kind : RowsAction) (t u : Table) (b : Bool) → is_same_table t u ≡ b → (rows : List Row) (c : Count) (cs : List Change) → counted t (Some c) ≡ count_of cs t
    → counted t (Some (with_images kind (cond b (length rows) 0) c)) ≡ count_of (cs ++ changes_by_action kind u rows) t
counts-with kind t u b same rows c cs e = let new = count-rows kind t u b same rows in grind (arith, count-append)

-- ---- what the counts hold

-- of the table of a number
pub told-at : {A : Type 0} (tables : List Table) (cs : List Change) (ts : List Table) (counts : Counts A) (n : ℕ) (t : Table) → slice_get tables n ≡ Some t
    → AreCounts tables cs ts counts → told_of t (slice_get counts.rows.items n) ≡ facts_of cs ts t
told-at tables cs ts counts n t at are = ap (λ k. told_of t (slice_get counts.rows.items k)) (sym (number-at tables n t are.distinct at)) ∙ are.told t

-- with room for more tables
pub counts-filled : {A : Type 0} (tables : List Table) (cs : List Change) (ts : List Table) (before after : Counts A) (k : ℕ)
    → after.rows.items ≡ before.rows.items ++ replicate k none → after.tables.items ≡ before.tables.items → length after.rows.items ≤ length tables
    → AreCounts tables cs ts before → AreCounts tables cs ts after
counts-filled tables cs ts before after k rows same few are = record {
  told = λ t. ap (λ xs. told_of t (slice_get xs (position_or_len (is_same_table t) tables))) rows
      ∙ filled-same (told_of t) none refl before.rows.items k (position_or_len (is_same_table t) tables) ∙ are.told t;
  firsts = ap (map (λ n. slice_get tables n)) same ∙ are.firsts;
  few = few;
  distinct = are.distinct;
}

-- with other numbers of one table
counts-set : {A : Type 0} (tables : List Table) (cs ds : List Change) (ts us : List Table) (t : Table) (i : ℕ) (c : Count) (before after : Counts A)
    → slice_get tables i ≡ Some t → i < length before.rows.items → after.rows.items ≡ slice_set before.rows.items i c → told_of t (Some c) ≡ facts_of ds us t
    → ((u : Table) → is_same_table u t ≡ false → facts_of cs ts u ≡ facts_of ds us u) → map (λ n. slice_get tables n) after.tables.items ≡ map Some (first_tables [] us)
    → AreCounts tables cs ts before → AreCounts tables ds us after
counts-set tables cs ds ts us t i c before after at within rows own others firsts are = record {
  told = λ u. ap (λ xs. told_of u (slice_get xs (position_or_len (is_same_table u) tables))) rows ∙ by u (is_same_table u t) refl;
  firsts = firsts;
  few = subst (λ xs. length xs ≤ length tables) (sym rows) (omega (arith, length-set before.rows.items i c, are.few));
  distinct = are.distinct;
}
  where
    by : (u : Table) (b : Bool) → is_same_table u t ≡ b → told_of u (slice_get (slice_set before.rows.items i c) (position_or_len (is_same_table u) tables)) ≡ facts_of ds us u
    by u true same =
        subst (λ v. told_of v (slice_get (slice_set before.rows.items i c) (position_or_len (is_same_table v) tables)) ≡ facts_of ds us v) (sym (same-table u t same))
        (ap (λ n. told_of t (slice_get (slice_set before.rows.items i c) n)) (number-at tables i t are.distinct at) ∙ ap (told_of t) (slice_get-set_same before.rows.items i c within) ∙ own)
    by u false other =
        ap (told_of u) (slice_get-set_other before.rows.items i (position_or_len (is_same_table u) tables) c (number-other tables i u t at other)) ∙ are.told u ∙ others u other

-- with the rows of one more rows event
pub counts-more : {A : Type 0} (tables : List Table) (cs : List Change) (ts : List Table) (r : RowsEvent) (i : ℕ) (c : Count) (before after : Counts A)
    → slice_get tables i ≡ Some (table_of r.map) → slice_get before.rows.items i ≡ Some c
    → after.rows.items ≡ slice_set before.rows.items i (with_images r.content.kind.action (length r.content.images) c) → after.tables.items ≡ before.tables.items
    → AreCounts tables cs ts before → AreCounts tables (cs ++ changes_of_rows r) ts after
counts-more tables cs ts r i c before after at had rows same are =
    let kind = r.content.kind.action in
    let t = table_of r.map in
    let images : List Row = map (row_by (layout_of r.map)) r.content.images in
    let long : length images ≡ length r.content.images = length-map r.content.images (row_by (layout_of r.map)) in
    let was : told_of t (Some c) ≡ facts_of cs ts t = ap (told_of t) (sym had) ∙ told-at tables cs ts before i t at are in
    counts-set tables cs (cs ++ changes_of_rows r) ts ts t i (with_images kind (length r.content.images) c) before after at (slice_get_within before.rows.items i c had) rows
    (let new = counts-with kind t t true (own-table t) images c cs (ap (λ (x : TableCount × Bool). x.0) was) in grind arith)
    (λ u other. let new = count-rows kind u t false other images in grind (arith, count-append))
    (ap (map (λ n. slice_get tables n)) same ∙ are.firsts) are

-- with a kept map of one more table
pub counts-kept : {A : Type 0} (tables : List Table) (cs : List Change) (ts : List Table) (t : Table) (i : ℕ) (c : Count) (before after : Counts A)
    → slice_get tables i ≡ Some t → slice_get before.rows.items i ≡ Some c → c.kept ≡ false
    → after.rows.items ≡ slice_set before.rows.items i (record c { kept = true }) → after.tables.items ≡ before.tables.items ++ i ∷ []
    → AreCounts tables cs ts before → AreCounts tables cs (ts ++ t ∷ []) after
counts-kept tables cs ts t i c before after at had unkept rows added are =
    let was : told_of t (Some c) ≡ facts_of cs ts t = ap (told_of t) (sym had) ∙ told-at tables cs ts before i t at are in
    let more = first_tables-more [] ts t in
    let pushed = map-append Some (first_tables [] ts) (t ∷ []) in
    counts-set tables cs cs ts (ts ++ t ∷ []) t i (record c { kept = true }) before after at (slice_get_within before.rows.items i c had) rows
    (let any = any-more t t ts true (own-table t) in grind arith) (λ u other. let any = any-more u t ts false other in grind arith)
    (ap (map (λ n. slice_get tables n)) added ∙ map-append (λ n. slice_get tables n) before.tables.items (i ∷ []) ∙ (let firsts = are.firsts in grind arith)) are

-- a table that is among others is no new one
any-again : (u t : Table) (ts : List Table) → list_any (is_same_table t) ts ≡ true → list_any (is_same_table u) (ts ++ t ∷ []) ≡ list_any (is_same_table u) ts
any-again u t ts known = grind (arith, list_any-append, same-table u t)

-- with one more kept map of a table that has one
pub counts-kept_again : {A : Type 0} (tables : List Table) (cs : List Change) (ts : List Table) (t : Table) (i : ℕ) (c : Count) (before after : Counts A)
    → slice_get tables i ≡ Some t → slice_get before.rows.items i ≡ Some c → c.kept ≡ true
    → after.rows.items ≡ before.rows.items → after.tables.items ≡ before.tables.items
    → AreCounts tables cs ts before → AreCounts tables cs (ts ++ t ∷ []) after
counts-kept_again tables cs ts t i c before after at had kept rows same are =
    let known : list_any (is_same_table t) ts ≡ true = sym (ap (λ (x : TableCount × Bool). x.1) (told-at tables cs ts before i t at are)) ∙ ap is_kept had ∙ kept in
    let more = first_tables-more [] ts t in
    let none_new = append-nil (first_tables [] ts) in
    grind (arith, λ (u : Table). any-again u t ts known)

-- of the n-th of the tables with kept maps
pub told-first : {A : Type 0} (tables : List Table) (cs : List Change) (ts : List Table) (counts : Counts A) (n k : ℕ) → AreCounts tables cs ts counts
    → slice_get counts.tables.items n ≡ Some k → (t : Table) × (slice_get tables k ≡ Some t)
    × (option_map (count_of cs) (slice_get (first_tables [] ts) n) ≡ Some (counted t (slice_get counts.rows.items k)))
told-first tables cs ts counts n k are at =
    let (t, is, there) = mapped Some (slice_get (first_tables [] ts) n) (slice_get tables k)
    (sym (ap (λ xs. slice_get xs n) are.firsts ∙ slice_get-map Some (first_tables [] ts) n)
    ∙ slice_get-map (λ i. slice_get tables i) counts.tables.items n ∙ ap (option_map (λ i. slice_get tables i)) at) in
    (t, sym there, ap (option_map (count_of cs)) is ∙ ap Some (sym (ap (λ (x : TableCount × Bool). x.0) (told-at tables cs ts counts k t (sym there) are))))

-- ---- the tables of used maps

abbrev pub tables_used : List MapSeen → List Table
tables_used maps = map (λ m. table_of m.body.now) (used_maps maps)

-- one map more
pub used-more : {B : Type 0} (now : B → MapSeen) (maps : List B) (m : B) (b : Bool) (ts : List Table) → (now m).used ≡ b
    → (ts ++ tables_used (map now maps)) ++ (if b then table_of (now m).body.now ∷ [] else []) ≡ ts ++ tables_used (map now (maps ++ m ∷ []))
used-more now maps m b ts used =
    let more : tables_used (map now (maps ++ m ∷ [])) ≡ tables_used (map now maps) ++ tables_used (now m ∷ []) = simp (map-append, filter-append) in
    grind (arith, append_assoc)

-- what all of a list with one more have
pub all-last : {A B : Type 0} (P : A → Type 0) (now : B → A) (xs : List B) (x : B) → AllByRecursion P (map now (xs ++ x ∷ [])) → AllByRecursion P (map now xs) × P (now x)
all-last P now [] x all = (tt, all.0)
all-last P now (y ∷ ys) x all = let others = all-last P now ys x all.1 in ((all.0, others.0), others.1)
