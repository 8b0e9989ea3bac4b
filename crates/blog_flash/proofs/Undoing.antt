-- What was changed is undone by the inverse changes, with no fault.
use Rattle.std.proofs.Common.{◌≡◌, ℕ, ◌+◌, ◌-◌, ◌==◌, List, [], ◌∷◌, ◌++◌, Option, Some, None, option_and_then, bytes_eq, refl, sym, ap, ◌∙◌, arith, Decides, map, ne_eqb, ◌≢◌}
use Rattle.std.proofs.lemmas.Bool.{false≢true, cond-true, cond-false}
use Rattle.std.proofs.lemmas.Bool.Decides.{Decides-and, Decides-like, nat_tests}
use Rattle.std.proofs.lemmas.Option.{none-some, same_Some}
use Rattle.std.proofs.lemmas.Slice.Eq.{bytes_eq-Decides, slice_eq-Decides}
use Rattle.blog_row.specs.Image.{Row}
use Rattle.blog_row.specs.TableMap.{Table}
use Rattle.blog_row.proofs.Cutting.{and_then_found}
use Rattle.blog_trans.specs.Changes.{Change, Inserted, Deleted, Updated}
use Rattle.blog_trans.proofs.ProgressSteps.{reverse-latest}
use Rattle.blog_trans.proofs.Tables.{is_same_table-Decides}
use Rattle.blog_flash.specs.States.{State, is_same_value, is_row, with_copies, insert_row, delete_row, apply, apply_all, inverse, inverse_all}
use mathlib.Core.Path.{fun_ext}

-- ---- one row

is_same_value-Decides : (x y : Option (List ℕ)) → Decides (is_same_value x y) (x ≡ y)
is_same_value-Decides None None = (λ _. refl, λ _. refl)
is_same_value-Decides None (Some y) = (λ e. absurd (false≢true e), λ e. absurd (none-some y e))
is_same_value-Decides (Some x) None = (λ e. absurd (false≢true e), λ e. absurd (none-some x (sym e)))
is_same_value-Decides (Some x) (Some y) = Decides-like (bytes_eq x y) (ap Some) (same_Some x y) (bytes_eq-Decides x y)

is_row-Decides : (t : Table) (r : Row) (u : Table) (s : Row) → Decides (is_row t r u s) ((t ≡ u) × (r ≡ s))
is_row-Decides t r u s = Decides-and _ _ (is_same_table-Decides t u) (slice_eq-Decides is_same_value-Decides r s _ refl)

-- ---- one row's copies

-- the row itself has the number of copies that was put
pub with_copies-own : (state : State) (t : Table) (r : Row) (n : ℕ) → with_copies state t r n t r ≡ n
with_copies-own state t r n = cond-true (is_row t r t r) n (state t r) ((is_row-Decides t r t r).1 (refl, refl))

-- a number put over another leaves the later one
pub with_copies-twice : (state : State) (t : Table) (r : Row) (m n : ℕ) → with_copies (with_copies state t r m) t r n ≡ with_copies state t r n
with_copies-twice state t r m n = fun_ext λ u. fun_ext λ s. grind arith

-- putting the number that is there changes nothing
pub with_copies-kept : (state : State) (t : Table) (r : Row) (n : ℕ) → state t r ≡ n → with_copies state t r n ≡ state
with_copies-kept state t r n e = fun_ext λ u. fun_ext λ s. let same = (is_row-Decides t r u s).0 in grind arith

-- taking the copy that was put there
pub delete-insert : (t : Table) (r : Row) (state : State) → delete_row t r (insert_row t r state) ≡ Some state
delete-insert t r state =
    let own = with_copies-own state t r (state t r + 1) in
    let copies : ℕ = insert_row t r state t r in
    cond-false (copies == 0) None (Some (with_copies (insert_row t r state) t r (copies - 1))) (ne_eqb copies 0 (λ z. omega (arith, own)))
    ∙ ap Some (with_copies-twice state t r (state t r + 1) (copies - 1) ∙ with_copies-kept state t r (copies - 1) (omega (arith, own)))

-- putting back the copy that was taken
pub insert-delete : (t : Table) (r : Row) (state left : State) → delete_row t r state ≡ Some left → insert_row t r left ≡ state
insert-delete t r state left e =
    let taken : (state t r ≢ 0) × (with_copies state t r (state t r - 1) ≡ left) = grind (arith, nat_tests) in
    let own = with_copies-own state t r (state t r - 1) in
    ap (insert_row t r) (sym taken.1) ∙ with_copies-twice state t r (state t r - 1) _ ∙ with_copies-kept state t r _ (omega arith)

-- ---- changes

-- a change is undone by its inverse
pub undo_one : (c : Change) (before after : State) → apply c before ≡ Some after → apply (inverse c) after ≡ Some before
undo_one (Inserted t r) before after e = ap (delete_row t r) (sym (same_Some _ _ e)) ∙ delete-insert t r before
undo_one (Deleted t r) before after e = ap Some (insert-delete t r before after e)
undo_one (Updated t old new) before after e =
    let (left, taken, put) = and_then_found (λ (left : State). Some (insert_row t new left)) (delete_row t old before) after e in
    ap (option_and_then (λ (x : State). Some (insert_row t old x))) (ap (delete_row t new) (sym (same_Some _ _ put)) ∙ delete-insert t new left)
    ∙ ap Some (insert-delete t old before left taken)

-- changes one list after the other
pub apply_all-append : (cs ds : List Change) (before : State) → apply_all (cs ++ ds) before ≡ option_and_then (apply_all ds) (apply_all cs before)
apply_all-append [] ds before = refl
apply_all-append (c ∷ cs) ds before = let each = apply_all-append cs ds in grind arith

-- the inverse changes give the state back, and none of them faults
pub undo_all : (cs : List Change) (before after : State) → apply_all cs before ≡ Some after → apply_all (inverse_all cs) after ≡ Some before
undo_all [] before after e = sym e
undo_all (c ∷ cs) before after e =
    let (between, first, others) = and_then_found (apply_all cs) (apply c before) after e in
    ap (λ (ds : List Change). apply_all ds after) (reverse-latest (inverse c) (map inverse cs))
    ∙ apply_all-append (inverse_all cs) (inverse c ∷ []) after
    ∙ ap (option_and_then (apply_all (inverse c ∷ []))) (undo_all cs between after others)
    ∙ ap (option_and_then (apply_all [])) (undo_one c before between first)

-- undoing the last changes gives the state after the first
pub undo_last : (cs ds : List Change) (before after : State) → apply_all (cs ++ ds) before ≡ Some after
    → (between : State) × (apply_all cs before ≡ Some between) × (apply_all (inverse_all ds) after ≡ Some between)
undo_last cs ds before after e =
    let (between, first, last) = and_then_found (apply_all ds) (apply_all cs before) after (sym (apply_all-append cs ds before) ∙ e) in
    (between, first, undo_all ds between after last)
