-- All changes, made to the tables as they are and as they would be, and the updates that lead from the one to the other.
use Rattle.std.proofs.Common.{◌≡◌, Bool, true, false, not, ◌&&◌, List, [], ◌∷◌, ◌++◌, Option, Some, None, option_and_then, refl, sym, ap, ◌∙◌}
use Rattle.std.specs.List.{filter_map}
use Rattle.std.proofs.lemmas.Bool.{and_from, and_parts, cond-false, cond-true, false≢true, or_right}
use Rattle.std.proofs.lemmas.Option.{same_Some}
use Rattle.blog_row.specs.Image.{Row}
use Rattle.blog_row.specs.TableMap.{Table}
use Rattle.blog_row.proofs.Cutting.{and_then_found}
use Rattle.blog_trans.specs.Changes.{Change, Inserted, Deleted, Updated}
use Rattle.blog_trans.proofs.ProgressSteps.{reverse-latest}
use Rattle.blog_flash.specs.States.{State, apply, apply_all, insert_row, inverse_all}
use Rattle.blog_flash.proofs.Undoing.{apply_all-append, delete-insert}
use Rattle.blog_undo.specs.Mixed.{Marked, TableRow, all_changes, is_left_alone, is_same_row, other_changes, selected_changes, takes}
use Rattle.blog_undo.specs.Part.{SelectsWithin, untouched_part}
use Rattle.blog_undo.proofs.Parts.{greatest-part}
use Rattle.blog_undo.proofs.TakingBack.{takes-back}
use Rattle.blog_merge.specs.Pairs.{Pair, in_table, real_rows, with_rows, would_rows}
use Rattle.blog_merge.specs.Merge.{change_would_be, has_no_selected_delete, is_delete, pairs_after, pairs_by, pairs_of, rebased_after, staying, update_of, updates_of}
use Rattle.blog_merge.specs.Laws.{Differs, Merges, UndoesAndMerges, UndoesAndMergesAll, outside_of}
use Rattle.blog_merge.proofs.Rows.{rows-swap}
use Rattle.blog_merge.proofs.Steps.{apply-front, one-step}

-- ---- all changes

record Leads (ps : List Pair) (ms : List Marked) (rest after : State) : Type 0 where
  other : State
  reals : after ≡ with_rows (real_rows (pairs_after ps ms)) other
  woulds : apply_all (rebased_after ps ms) (with_rows (would_rows ps) rest) ≡ Some (with_rows (would_rows (pairs_after ps ms)) other)

leads : (ms : List Marked) (ps : List Pair) (rest after : State) → has_no_selected_delete ms ≡ true → apply_all (all_changes ms) (with_rows (real_rows ps) rest) ≡ Some after
    → Leads ps ms rest after
leads [] ps rest after none e = record { other = rest; reals = sym (same_Some _ _ e); woulds = refl }
leads (m ∷ ms) ps rest after none e =
    let (here, later) = and_parts _ _ none in
    let (x, first, others) = and_then_found (apply_all (all_changes ms)) (apply m.change (with_rows (real_rows ps) rest)) after e in
    let h = one-step m ps rest x here first in
    let g = leads ms (pairs_by m ps) h.other after later (ap (apply_all (all_changes ms)) h.reals ∙ others) in
    record {
      other = g.other;
      reals = g.reals;
      woulds =
          apply-front (change_would_be m ps) (rebased_after (pairs_by m ps) ms) (with_rows (would_rows ps) rest)
          ∙ ap (option_and_then (apply_all (rebased_after (pairs_by m ps) ms))) h.woulds
          ∙ g.woulds;
    }

pub differs : (ms : List Marked) → Differs ms
differs ms before after none e =
    let h = leads ms [] before after none e in
    record { rest = h.other; real = h.reals; would = h.woulds }

-- ---- the updates

-- one update more, or one row more that stays
update-more : (t : Table) (r w : Row) (ps : List Pair) (rest : State)
    → ((x : State) → apply_all (updates_of ps) (with_rows (real_rows ps) x) ≡ Some (with_rows (staying ps) (with_rows (would_rows ps) x)))
    → apply_all (updates_of ps ++ Updated t r w ∷ []) (insert_row t r (with_rows (real_rows ps) rest)) ≡ Some (with_rows (staying ps) (insert_row t w (with_rows (would_rows ps) rest)))
update-more t r w ps rest others =
    let real : Option TableRow = Some (in_table t r) in
    let done : State = with_rows (staying ps) (with_rows (would_rows ps) rest) in
    apply_all-append (updates_of ps) (Updated t r w ∷ []) (insert_row t r (with_rows (real_rows ps) rest))
    ∙ ap (λ x. option_and_then (apply_all (Updated t r w ∷ [])) (apply_all (updates_of ps) x)) (rows-swap real (real_rows ps) rest)
    ∙ ap (option_and_then (apply_all (Updated t r w ∷ []))) (others (insert_row t r rest))
    ∙ ap (λ x. apply_all (Updated t r w ∷ []) (with_rows (staying ps) x)) (sym (rows-swap real (would_rows ps) rest))
    ∙ ap (apply_all (Updated t r w ∷ [])) (sym (rows-swap real (staying ps) (with_rows (would_rows ps) rest)))
    ∙ ap (λ o. option_and_then (apply_all []) (option_and_then (λ (left : State). Some (insert_row t w left)) o)) (delete-insert t r done)
    ∙ ap Some (rows-swap (Some (in_table t w)) (staying ps) (with_rows (would_rows ps) rest))

stay-more : (t : Table) (r : Row) (ps : List Pair) (rest : State)
    → ((x : State) → apply_all (updates_of ps) (with_rows (real_rows ps) x) ≡ Some (with_rows (staying ps) (with_rows (would_rows ps) x)))
    → apply_all (updates_of ps) (insert_row t r (with_rows (real_rows ps) rest)) ≡ Some (insert_row t r (with_rows (staying ps) (with_rows (would_rows ps) rest)))
stay-more t r ps rest others =
    let real : Option TableRow = Some (in_table t r) in
    ap (apply_all (updates_of ps)) (rows-swap real (real_rows ps) rest)
    ∙ others (insert_row t r rest)
    ∙ ap (λ x. Some (with_rows (staying ps) x)) (sym (rows-swap real (would_rows ps) rest))
    ∙ ap Some (sym (rows-swap real (staying ps) (with_rows (would_rows ps) rest)))

updated : (ps : List Pair) (rest : State) → apply_all (updates_of ps) (with_rows (real_rows ps) rest) ≡ Some (with_rows (staying ps) (with_rows (would_rows ps) rest))
updated [] rest = refl
updated (p ∷ ps) rest = by_case p.would refl (updated ps)
  where
    by_case : (o : Option Row) → p.would ≡ o
        → ((x : State) → apply_all (updates_of ps) (with_rows (real_rows ps) x) ≡ Some (with_rows (staying ps) (with_rows (would_rows ps) x)))
        → apply_all (updates_of (p ∷ ps)) (with_rows (real_rows (p ∷ ps)) rest) ≡ Some (with_rows (staying (p ∷ ps)) (with_rows (would_rows (p ∷ ps)) rest))
    by_case None is others = rw is (stay-more p.table p.real ps rest others)
    by_case (Some w) is others =
        rw is (ap (λ cs. apply_all cs (insert_row p.table p.real (with_rows (real_rows ps) rest))) (reverse-latest (Updated p.table p.real w) (filter_map update_of ps)) ∙ update-more p.table p.real w ps rest others)

pub merges : (ms : List Marked) → Merges ms
merges ms before after none e =
    let d = differs ms before after none e in
    record {
      alone = with_rows (would_rows (pairs_of ms)) d.rest;
      others = d.would;
      updated = ap (apply_all (updates_of (pairs_of ms))) d.real ∙ updated (pairs_of ms) d.rest;
    }

-- ---- with a part that is undone

-- a part has the changes of the list
same-changes : (part ms : List Marked) → SelectsWithin part ms → all_changes part ≡ all_changes ms
same-changes [] [] within = refl
same-changes [] (m ∷ ms) within = absurd within
same-changes (p ∷ part) [] within = absurd within
same-changes (p ∷ part) (m ∷ ms) within = ap (λ c. c ∷ all_changes part) within.0.same ∙ ap (λ cs. m.change ∷ cs) (same-changes part ms within.1)

-- and those outside of it are its others
outside-changes : (part ms : List Marked) → SelectsWithin part ms → all_changes (outside_of part ms) ≡ other_changes part
outside-changes [] [] within = refl
outside-changes [] (m ∷ ms) within = absurd within
outside-changes (p ∷ part) [] within = absurd within
outside-changes (p ∷ part) (m ∷ ms) within = by_case p.selected refl (outside-changes part ms within.1)
  where
    by_case : (b : Bool) → p.selected ≡ b → all_changes (outside_of part ms) ≡ other_changes part → all_changes (outside_of (p ∷ part) (m ∷ ms)) ≡ other_changes (p ∷ part)
    by_case true is later = rw is later
    by_case false is later = rw is (ap (λ c. c ∷ all_changes (outside_of part ms)) (sym within.0.same) ∙ ap (λ cs. p.change ∷ cs) later)

pub undoes-and-merges : (ms part : List Marked) → UndoesAndMerges ms part
undoes-and-merges ms part before after within free none e =
    let never = takes-back part before after free (ap (λ cs. apply_all cs before) (same-changes part ms within) ∙ e) in
    let left : List Marked = outside_of part ms in
    let m = merges left before never.alone none (ap (λ cs. apply_all cs before) (outside-changes part ms within) ∙ never.others) in
    record {
      alone = m.alone;
      others = m.others;
      done =
          apply_all-append (inverse_all (selected_changes part)) (updates_of (pairs_of left)) after
          ∙ ap (option_and_then (apply_all (updates_of (pairs_of left)))) never.undone
          ∙ m.updated;
    }

-- ---- with the greatest part

-- no change touches a delete
delete-alone : (t : Table) (r : Row) (ms : List Marked) → is_left_alone (Deleted t r) ms ≡ true
delete-alone t r [] = refl
delete-alone t r (m ∷ ms) = and_from _ _ (or_right m.selected _ (none-left (takes m.change))) (delete-alone t r ms)
  where
    none-left : (o : Option TableRow) → not (is_same_row o None) ≡ true
    none-left None = refl
    none-left (Some s) = refl

-- so a selected change outside of the part is none
outside-no-delete : (s : Bool) (c : Change) (part : List Marked) → (s && is_left_alone c part) ≡ false → not (s && is_delete c) ≡ true
outside-no-delete false c part e = refl
outside-no-delete true (Inserted t r) part e = refl
outside-no-delete true (Deleted t r) part e = absurd (false≢true (sym e ∙ delete-alone t r part))
outside-no-delete true (Updated t r s) part e = refl

none-outside : (ms : List Marked) → has_no_selected_delete (outside_of (untouched_part ms) ms) ≡ true
none-outside [] = refl
none-outside (m ∷ ms) = by_case (m.selected && is_left_alone m.change (untouched_part ms)) refl (none-outside ms)
  where
    left : List Marked
    left = outside_of (untouched_part ms) ms

    by_case : (b : Bool) → (m.selected && is_left_alone m.change (untouched_part ms)) ≡ b → has_no_selected_delete left ≡ true
        → has_no_selected_delete (outside_of (untouched_part (m ∷ ms)) (m ∷ ms)) ≡ true
    by_case true is later = ap has_no_selected_delete (cond-true (m.selected && is_left_alone m.change (untouched_part ms)) left (m ∷ left) is) ∙ later
    by_case false is later =
        ap has_no_selected_delete (cond-false (m.selected && is_left_alone m.change (untouched_part ms)) left (m ∷ left) is)
        ∙ and_from _ _ (outside-no-delete m.selected m.change (untouched_part ms) is) later

pub undoes-and-merges-all : (ms : List Marked) → UndoesAndMergesAll ms
undoes-and-merges-all ms before after e =
    let part = greatest-part ms in
    undoes-and-merges ms (untouched_part ms) before after part.within part.untouched (none-outside ms) e
