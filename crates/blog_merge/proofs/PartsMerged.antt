-- Undoing the part that is found by fingerprints, and merging what is outside of it.
use Rattle.std.proofs.Common.{◌≡◌, ℕ, Bool, true, false, not, ◌&&◌, List, [], ◌∷◌, Option, Some, None, refl, sym, ap, ◌∙◌}
use Rattle.std.proofs.lemmas.Bool.{and_from, cond-false, cond-true, false≢true, or_right}
use Rattle.blog_row.specs.Image.{Row}
use Rattle.blog_row.specs.TableMap.{Table}
use Rattle.blog_trans.specs.Changes.{Change, Inserted, Deleted, Updated}
use Rattle.blog_undo.specs.Mixed.{Marked, TableRow, takes}
use Rattle.blog_untouched.specs.ByPrints.{has_same_print, is_left_alone_by, part_by}
use Rattle.blog_untouched.proofs.PartsBy.{part-undoable}
use Rattle.blog_merge.specs.Merge.{has_no_selected_delete, is_delete}
use Rattle.blog_merge.specs.Laws.{UndoesAndMergesBy, outside_of}
use Rattle.blog_merge.proofs.Merging.{undoes-and-merges}

-- no change touches a delete
delete-alone : (f : TableRow → ℕ) (t : Table) (r : Row) (ms : List Marked) → is_left_alone_by f (Deleted t r) ms ≡ true
delete-alone f t r [] = refl
delete-alone f t r (m ∷ ms) = and_from _ _ (or_right m.selected _ (none-left (takes m.change))) (delete-alone f t r ms)
  where
    none-left : (o : Option TableRow) → not (has_same_print f o None) ≡ true
    none-left None = refl
    none-left (Some s) = refl

-- so a selected change outside of the part is none
outside-no-delete : (f : TableRow → ℕ) (s : Bool) (c : Change) (part : List Marked) → (s && is_left_alone_by f c part) ≡ false → not (s && is_delete c) ≡ true
outside-no-delete f false c part e = refl
outside-no-delete f true (Inserted t r) part e = refl
outside-no-delete f true (Deleted t r) part e = absurd (false≢true (sym e ∙ delete-alone f t r part))
outside-no-delete f true (Updated t r s) part e = refl

none-outside : (f : TableRow → ℕ) (ms : List Marked) → has_no_selected_delete (outside_of (part_by f ms) ms) ≡ true
none-outside f [] = refl
none-outside f (m ∷ ms) = by_case (m.selected && is_left_alone_by f m.change (part_by f ms)) refl (none-outside f ms)
  where
    left : List Marked
    left = outside_of (part_by f ms) ms

    by_case : (b : Bool) → (m.selected && is_left_alone_by f m.change (part_by f ms)) ≡ b → has_no_selected_delete left ≡ true
        → has_no_selected_delete (outside_of (part_by f (m ∷ ms)) (m ∷ ms)) ≡ true
    by_case true is later = ap has_no_selected_delete (cond-true (m.selected && is_left_alone_by f m.change (part_by f ms)) left (m ∷ left) is) ∙ later
    by_case false is later =
        ap has_no_selected_delete (cond-false (m.selected && is_left_alone_by f m.change (part_by f ms)) left (m ∷ left) is)
        ∙ and_from _ _ (outside-no-delete f m.selected m.change (part_by f ms) is) later

pub undoes-and-merges-by : (f : TableRow → ℕ) (ms : List Marked) → UndoesAndMergesBy f ms
undoes-and-merges-by f ms before after e =
    let part = part-undoable f ms in
    undoes-and-merges ms (part_by f ms) before after part.within part.untouched (none-outside f ms) e
