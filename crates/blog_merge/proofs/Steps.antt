-- One change, made to the tables as they are and as they would be.
use Rattle.std.proofs.Common.{◌≡◌, Bool, true, false, not, ◌&&◌, List, Option, Some, None, option_and_then, refl, sym, ap, ◌∙◌}
use Rattle.std.specs.Prelude.{option_map}
use Rattle.std.specs.List.{cons_option}
use Rattle.std.proofs.lemmas.Bool.{cond-true, cond-false, false≢true}
use Rattle.std.proofs.lemmas.Option.{same_Some}
use Rattle.blog_row.specs.Image.{Row}
use Rattle.blog_row.specs.TableMap.{Table}
use Rattle.blog_row.proofs.Cutting.{and_then_found}
use Rattle.blog_trans.specs.Changes.{Change, Inserted, Deleted, Updated}
use Rattle.blog_flash.specs.States.{State, apply, apply_all, delete_row, insert_row}
use Rattle.blog_flash.proofs.Undoing.{delete-insert}
use Rattle.blog_undo.specs.Mixed.{Marked}
use Rattle.blog_undo.proofs.Rows.{leave_row}
use Rattle.blog_merge.specs.Pairs.{Pair, in_table, real_row, real_rows, with_rows, without, would_be, would_row, would_rows}
use Rattle.blog_merge.specs.Merge.{change_would_be, is_delete, later_would_be, merged, pairs_by, pairs_by_later, pairs_by_selected}
use Rattle.blog_merge.proofs.Rows.{pair-last, rows-swap}
use Rattle.blog_merge.proofs.Pairs.{put-pair, taken-pair}

-- ---- a change that may be missing

abbrev pub apply_some : Option Change → State → Option State
apply_some None state = Some state
apply_some (Some c) state = apply c state

pub apply-front : (o : Option Change) (cs : List Change) (state : State) → apply_all (cons_option o cs) state ≡ option_and_then (apply_all cs) (apply_some o state)
apply-front None cs state = refl
apply-front (Some c) cs state = refl

-- what a row would be is deleted
delete-would : (t : Table) (o : Option Row) (x y : State) → x ≡ leave_row (option_map (in_table t) o) y → apply_some (option_map (Deleted t) o) x ≡ Some y
delete-would t None x y e = ap Some e
delete-would t (Some w) x y e = ap (delete_row t w) e ∙ delete-insert t w y

-- or updated
update-would : (t : Table) (f : Row → Row) (o : Option Row) (x y z : State) → x ≡ leave_row (option_map (in_table t) o) y → z ≡ leave_row (option_map (in_table t) (option_map f o)) y
    → apply_some (option_map (λ w. Updated t w (f w)) o) x ≡ Some z
update-would t f None x y z e g = ap Some (e ∙ sym g)
update-would t f (Some w) x y z e g =
    ap (option_and_then (λ (left : State). Some (insert_row t (f w) left))) (ap (delete_row t w) e ∙ delete-insert t w y) ∙ ap Some (sym g)

-- ---- a selected change

record Stays (c : Change) (ps : List Pair) (rest after : State) : Type 0 where
  other : State
  reals : with_rows (real_rows (pairs_by_selected c ps)) other ≡ after
  woulds : with_rows (would_rows ps) rest ≡ with_rows (would_rows (pairs_by_selected c ps)) other

selected-step : (c : Change) (ps : List Pair) (rest after : State) → is_delete c ≡ false → apply c (with_rows (real_rows ps) rest) ≡ Some after → Stays c ps rest after
selected-step (Inserted t r) ps rest after none e =
    let new : Pair = record { table = t; real = r; would = None } in
    record {
      other = rest;
      reals = pair-last (λ p. Some (real_row p)) real_rows (λ _ _. refl) new ps rest ∙ same_Some _ _ e;
      woulds = sym (pair-last would_row would_rows (λ _ _. refl) new ps rest);
    }
selected-step (Deleted t r) ps rest after none e = absurd (false≢true (sym none))
selected-step (Updated t r s) ps rest after none e =
    let (x, taken, left) = and_then_found (λ (y : State). Some (insert_row t s y)) (delete_row t r (with_rows (real_rows ps) rest)) after e in
    let h = taken-pair t r ps rest x taken in
    let g = put-pair t r (record { table = t; real = s; would = would_be t r ps }) ps h.other in
    record { other = g.other; reals = g.reals ∙ ap (insert_row t s) h.reals ∙ same_Some _ _ left; woulds = h.woulds ∙ sym g.woulds }

-- ---- a later change of others

record Moves (c : Change) (ps : List Pair) (rest after : State) : Type 0 where
  other : State
  reals : with_rows (real_rows (pairs_by_later c ps)) other ≡ after
  woulds : apply_some (later_would_be c ps) (with_rows (would_rows ps) rest) ≡ Some (with_rows (would_rows (pairs_by_later c ps)) other)

later-step : (c : Change) (ps : List Pair) (rest after : State) → apply c (with_rows (real_rows ps) rest) ≡ Some after → Moves c ps rest after
later-step (Inserted t r) ps rest after e =
    record {
      other = insert_row t r rest;
      reals = sym (rows-swap (Some (in_table t r)) (real_rows ps) rest) ∙ same_Some _ _ e;
      woulds = ap Some (rows-swap (Some (in_table t r)) (would_rows ps) rest);
    }
later-step (Deleted t r) ps rest after e =
    let h = taken-pair t r ps rest after e in
    record { other = h.other; reals = h.reals; woulds = delete-would t (would_be t r ps) (with_rows (would_rows ps) rest) (with_rows (would_rows (without t r ps)) h.other) h.woulds }
later-step (Updated t r s) ps rest after e =
    let (x, taken, left) = and_then_found (λ (y : State). Some (insert_row t s y)) (delete_row t r (with_rows (real_rows ps) rest)) after e in
    let h = taken-pair t r ps rest x taken in
    let new : Pair = record { table = t; real = s; would = option_map (merged r s) (would_be t r ps) } in
    let g = put-pair t r new ps h.other in
    record {
      other = g.other;
      reals = g.reals ∙ ap (insert_row t s) h.reals ∙ same_Some _ _ left;
      woulds = update-would t (merged r s) (would_be t r ps) (with_rows (would_rows ps) rest) (with_rows (would_rows (without t r ps)) h.other) _ h.woulds g.woulds;
    }

-- ---- either

pub record IsStep (m : Marked) (ps : List Pair) (rest after : State) : Type 0 where
  pub other : State
  pub reals : with_rows (real_rows (pairs_by m ps)) other ≡ after
  pub woulds : apply_some (change_would_be m ps) (with_rows (would_rows ps) rest) ≡ Some (with_rows (would_rows (pairs_by m ps)) other)

no-delete : (d : Bool) → not (true && d) ≡ true → d ≡ false
no-delete false e = refl
no-delete true e = absurd (false≢true e)

pub one-step : (m : Marked) (ps : List Pair) (rest after : State) → not (m.selected && is_delete m.change) ≡ true → apply m.change (with_rows (real_rows ps) rest) ≡ Some after
    → IsStep m ps rest after
one-step m ps rest after none e = by_case m.selected refl
  where
    by_case : (b : Bool) → m.selected ≡ b → IsStep m ps rest after
    by_case true is =
        let h = selected-step m.change ps rest after (no-delete (is_delete m.change) (ap (λ b. not (b && is_delete m.change)) (sym is) ∙ none)) e in
        let pairs : pairs_by m ps ≡ pairs_by_selected m.change ps = cond-true m.selected _ _ is in
        let change : change_would_be m ps ≡ None = cond-true m.selected None (later_would_be m.change ps) is in
        record {
          other = h.other;
          reals = ap (λ qs. with_rows (real_rows qs) h.other) pairs ∙ h.reals;
          woulds =
              ap (λ o. apply_some o (with_rows (would_rows ps) rest)) change
              ∙ ap Some (h.woulds ∙ ap (λ qs. with_rows (would_rows qs) h.other) (sym pairs));
        }
    by_case false is =
        let h = later-step m.change ps rest after e in
        let pairs : pairs_by m ps ≡ pairs_by_later m.change ps = cond-false m.selected _ _ is in
        let change : change_would_be m ps ≡ later_would_be m.change ps = cond-false m.selected None (later_would_be m.change ps) is in
        record {
          other = h.other;
          reals = ap (λ qs. with_rows (real_rows qs) h.other) pairs ∙ h.reals;
          woulds =
              ap (λ o. apply_some o (with_rows (would_rows ps) rest)) change
              ∙ h.woulds
              ∙ ap (λ qs. Some (with_rows (would_rows qs) h.other)) (sym pairs);
        }
