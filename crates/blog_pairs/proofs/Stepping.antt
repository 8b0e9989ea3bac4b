-- Pairs after the changes of rows, one after the other.
use Rattle.std.proofs.Common.{◌≡◌, ℕ, suc, Bool, true, false, List, [], ◌∷◌, ◌++◌, length, refl, sym, ap, ◌∙◌, arith, append-nil}
use Rattle.std.specs.List.{AllByRecursion}
use Rattle.blog_later.specs.code.EventChanges.{image_changes, images_changes}
use Rattle.blog_merge.specs.Pairs.{Pair}
use Rattle.blog_row.specs.Column.{Layout}
use Rattle.blog_row.specs.Image.{row_of}
use Rattle.blog_row.specs.RowsEvent.{RowImages, rows_by}
use Rattle.blog_row.specs.TableMap.{Table}
use Rattle.blog_row.specs.declared.kind.RowsAction.{RowsAction}
use Rattle.blog_row.specs.declared.kind.RowsAction.TheVariants.{Write, Update, Delete}
use Rattle.blog_trans.specs.Changes.{Change, Deleted, Inserted, Updated}
use Rattle.blog_pairs.specs.Steps.{pairs_with, unmarked}

pub with_more : (selected : Bool) (cs ds : List Change) (ps : List Pair) → pairs_with selected (cs ++ ds) ps ≡ pairs_with selected ds (pairs_with selected cs ps)
with_more selected [] ds ps = refl
with_more selected (c ∷ cs) ds ps = with_more selected cs ds (pairs_with selected (c ∷ []) ps)

-- one more part of changes
part_more : (selected : Bool) (cs ds all : List Change) (old new end : List Pair) → all ≡ cs ++ ds → new ≡ pairs_with selected cs old
    → pairs_with selected all old ≡ end → pairs_with selected ds new ≡ end
part_more selected cs ds all old new end parts done left =
    ap (pairs_with selected ds) done ∙ sym (with_more selected cs ds old) ∙ sym (ap (λ xs. pairs_with selected xs old) parts) ∙ left

-- one more row
pub row_more : (selected : Bool) (t : Table) (l : Layout) (row : RowImages) (before rest : List RowImages) (old new end : List Pair) → before ≡ row ∷ rest
    → new ≡ pairs_with selected (image_changes t l row.before row.after) old → pairs_with selected (images_changes t l before) old ≡ end
    → pairs_with selected (images_changes t l rest) new ≡ end
row_more selected t l row before rest old new end first done left =
    part_more selected (image_changes t l row.before row.after) (images_changes t l rest) (images_changes t l before) old new end (ap (images_changes t l) first) done left

-- ---- rows with marks

pub unmarked_none : {X : Type 0} (marks : List Bool) → unmarked {X = X} marks [] ≡ []
unmarked_none [] = refl
unmarked_none (mark ∷ marks) = refl

unmarked_front : (t : Table) (l : Layout) (mark : Bool) (marks : List Bool) (row : RowImages) (rows : List RowImages)
    → images_changes t l (unmarked (mark ∷ marks) (row ∷ rows)) ≡ images_changes t l (unmarked (mark ∷ []) (row ∷ [])) ++ images_changes t l (unmarked marks rows)
unmarked_front t l true marks row rows = refl
unmarked_front t l false marks row rows = ap (λ cs. cs ++ images_changes t l (unmarked marks rows)) (sym (append-nil (image_changes t l row.before row.after)))

-- the other marks are as many as the other rows
pub marks_long : (left others : List Bool) (mark : Bool) (row : RowImages) (before rest : List RowImages)
    → ((b : Bool) (bs : List Bool) → left ≡ b ∷ bs → (mark ≡ b) × (others ≡ bs)) → length left ≡ length before → before ≡ row ∷ rest → length others ≡ length rest
marks_long [] others mark row before rest is each first =
    let long : length before ≡ suc (length rest) = ap length first in let none : 0 ≡ length before = each in absurd (omega (arith, long, none))
marks_long (b ∷ bs) others mark row before rest is each first =
    let long : length before ≡ suc (length rest) = ap length first in
    let few : suc (length bs) ≡ length before = each in
    let tail : length others ≡ length bs = ap length (is b bs refl).1 in
    omega (arith, long, few, tail)

-- one more row with its mark
pub marked_more : (selected : Bool) (t : Table) (l : Layout) (left others : List Bool) (mark : Bool) (row : RowImages) (before rest : List RowImages) (old new end : List Pair)
    → ((b : Bool) (bs : List Bool) → left ≡ b ∷ bs → (mark ≡ b) × (others ≡ bs)) → length left ≡ length before → before ≡ row ∷ rest
    → new ≡ pairs_with selected (images_changes t l (unmarked (mark ∷ []) (row ∷ []))) old → pairs_with selected (images_changes t l (unmarked left before)) old ≡ end
    → pairs_with selected (images_changes t l (unmarked others rest)) new ≡ end
marked_more selected t l [] others mark row before rest old new end is each first done all =
    let long : length before ≡ suc (length rest) = ap length first in let none : 0 ≡ length before = each in absurd (omega (arith, long, none))
marked_more selected t l (b ∷ bs) others mark row before rest old new end is each first done all =
    let (same, rest_is) = is b bs refl in
    let parts = ap (λ xs. images_changes t l (unmarked (b ∷ bs) xs)) first ∙ unmarked_front t l b bs row rest ∙ ap (λ m. images_changes t l (unmarked (m ∷ []) (row ∷ [])) ++ images_changes t l (unmarked bs rest)) (sym same)
    ∙ ap (λ ms. images_changes t l (unmarked (mark ∷ []) (row ∷ [])) ++ images_changes t l (unmarked ms rest)) (sym rest_is) in
    part_more selected (images_changes t l (unmarked (mark ∷ []) (row ∷ []))) (images_changes t l (unmarked others rest)) (images_changes t l (unmarked (b ∷ bs) before)) old new end parts done all

-- ---- rows are as many as their changes

abbrev pub MakesOne : Table → Layout → RowImages → Type 0
MakesOne t l row = (c : Change) × (image_changes t l row.before row.after ≡ c ∷ [])

pub make_ones : (action : RowsAction) (t : Table) (l : Layout) (images : List (List ℕ)) → AllByRecursion (MakesOne t l) (rows_by action images)
make_ones Write t l [] = tt
make_ones Write t l (image ∷ images) = ((Inserted t (row_of l image), refl), make_ones Write t l images)
make_ones Update t l [] = tt
make_ones Update t l (before ∷ []) = tt
make_ones Update t l (before ∷ after ∷ images) = ((Updated t (row_of l before) (row_of l after), refl), make_ones Update t l images)
make_ones Delete t l [] = tt
make_ones Delete t l (image ∷ images) = ((Deleted t (row_of l image), refl), make_ones Delete t l images)

pub ones_long : (t : Table) (l : Layout) (rows : List RowImages) → AllByRecursion (MakesOne t l) rows → length (images_changes t l rows) ≡ length rows
ones_long t l [] all = refl
ones_long t l (row ∷ rows) all = ap (λ cs. length (cs ++ images_changes t l rows)) all.0.1 ∙ ap suc (ones_long t l rows all.1)

pub ones_unmarked : (t : Table) (l : Layout) (rows : List RowImages) (marks : List Bool) → AllByRecursion (MakesOne t l) rows
    → images_changes t l (unmarked marks rows) ≡ unmarked marks (images_changes t l rows)
ones_unmarked t l [] [] all = refl
ones_unmarked t l [] (mark ∷ marks) all = refl
ones_unmarked t l (row ∷ rows) [] all = refl
ones_unmarked t l (row ∷ rows) (true ∷ marks) all = ones_unmarked t l rows marks all.1 ∙ sym (ap (λ cs. unmarked (true ∷ marks) (cs ++ images_changes t l rows)) all.0.1)
ones_unmarked t l (row ∷ rows) (false ∷ marks) all =
    ap (λ cs. cs ++ images_changes t l (unmarked marks rows)) all.0.1
    ∙ ap (λ cs. all.0.0 ∷ cs) (ones_unmarked t l rows marks all.1)
    ∙ sym (ap (λ cs. unmarked (false ∷ marks) (cs ++ images_changes t l rows)) all.0.1)
