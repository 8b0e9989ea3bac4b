-- Rows that are taken and left, and when their order doesn't matter.
use Rattle.std.proofs.Common.{◌≡◌, ◌≢◌, ℕ, ◌+◌, ◌-◌, ◌==◌, Bool, true, false, List, Option, Some, None, bytes_eq, refl, sym, ap, ◌∙◌, arith, Decides, ne_eqb}
use Rattle.std.proofs.lemmas.Bool.{false≢true, cond-false}
use Rattle.std.proofs.lemmas.Bool.Decides.{Decides-and, Decides-like, nat_tests}
use Rattle.std.proofs.lemmas.Option.{none-some, same_Some}
use Rattle.std.proofs.lemmas.Slice.Eq.{bytes_eq-Decides, slice_eq-Decides}
use Rattle.blog_row.specs.Image.{Row}
use Rattle.blog_row.specs.TableMap.{Table}
use Rattle.blog_trans.proofs.Tables.{is_same_table-Decides}
use Rattle.blog_flash.specs.States.{State, is_same_value, is_row, with_copies, insert_row, delete_row}
use Rattle.blog_flash.proofs.Undoing.{delete-insert, insert-delete}
use Rattle.blog_undo.specs.Mixed.{TableRow, is_same_row}
use mathlib.Core.Path.{fun_ext}

-- ---- the same row

is_same_value-Decides : (x y : Option (List ℕ)) → Decides (is_same_value x y) (x ≡ y)
is_same_value-Decides None None = (λ _. refl, λ _. refl)
is_same_value-Decides None (Some y) = (λ e. absurd (false≢true e), λ e. absurd (none-some y e))
is_same_value-Decides (Some x) None = (λ e. absurd (false≢true e), λ e. absurd (none-some x (sym e)))
is_same_value-Decides (Some x) (Some y) = Decides-like (bytes_eq x y) (ap Some) (same_Some x y) (bytes_eq-Decides x y)

pub is_row-Decides : (t : Table) (r : Row) (u : Table) (s : Row) → Decides (is_row t r u s) ((t ≡ u) × (r ≡ s))
is_row-Decides t r u s = Decides-and _ _ (is_same_table-Decides t u) (slice_eq-Decides is_same_value-Decides r s _ refl)

-- ---- two rows of tables

-- another row keeps its number of copies
insert-other : (t : Table) (r : Row) (u : Table) (s : Row) (state : State) → is_row t r u s ≡ false → insert_row t r state u s ≡ state u s
insert-other t r u s state e = cond-false (is_row t r u s) (state t r + 1) (state u s) e

other-way : (t : Table) (r : Row) (u : Table) (s : Row) → is_row t r u s ≡ false → is_row u s t r ≡ false
other-way t r u s e = by_case (is_row u s t r) refl
  where
    by_case : (b : Bool) → is_row u s t r ≡ b → is_row u s t r ≡ false
    by_case false is = is
    by_case true is = let (a, b) = (is_row-Decides u s t r).0 is in absurd (false≢true (sym e ∙ (is_row-Decides t r u s).1 (sym a, sym b)))

-- two rows are put in either order
insert-swap : (t : Table) (r : Row) (u : Table) (s : Row) (state : State) → insert_row t r (insert_row u s state) ≡ insert_row u s (insert_row t r state)
insert-swap t r u s state = by_case (is_row t r u s) refl
  where
    at : is_row t r u s ≡ false → (v : Table) (q : Row) (a : Bool) → is_row t r v q ≡ a → (b : Bool) → is_row u s v q ≡ b
        → insert_row t r (insert_row u s state) v q ≡ insert_row u s (insert_row t r state) v q
    at other v q true first true second =
        let (tv, rq) = (is_row-Decides t r v q).0 first in
        let (uv, sq) = (is_row-Decides u s v q).0 second in
        absurd (false≢true (sym other ∙ (is_row-Decides t r u s).1 (tv ∙ sym uv, rq ∙ sym sq)))
    at other v q true first false second = rw (first, second, insert-other u s t r state (other-way t r u s other)) refl
    at other v q false first true second = rw (first, second, insert-other t r u s state other) refl
    at other v q false first false second = rw (first, second) refl

    by_case : (b : Bool) → is_row t r u s ≡ b → insert_row t r (insert_row u s state) ≡ insert_row u s (insert_row t r state)
    by_case true same = let (tu, rs) = (is_row-Decides t r u s).0 same in rw (tu, rs) refl
    by_case false other = fun_ext λ v. fun_ext λ q. at other v q (is_row t r v q) refl (is_row u s v q) refl

-- ---- taking and leaving

abbrev pub take_row : Option TableRow → State → Option State
take_row None state = Some state
take_row (Some r) state = delete_row r.table r.row state

abbrev pub leave_row : Option TableRow → State → State
leave_row None state = state
leave_row (Some r) state = insert_row r.table r.row state

-- a row that was left is taken
pub take-leave : (r : Option TableRow) (state : State) → take_row r (leave_row r state) ≡ Some state
take-leave None state = refl
take-leave (Some r) state = delete-insert r.table r.row state

-- and one that was taken is put back
pub leave-take : (r : Option TableRow) (state taken : State) → take_row r state ≡ Some taken → leave_row r taken ≡ state
leave-take None state taken e = sym (same_Some _ _ e)
leave-take (Some r) state taken e = insert-delete r.table r.row state taken e

-- two rows are left in either order
pub leave-swap : (r s : Option TableRow) (state : State) → leave_row r (leave_row s state) ≡ leave_row s (leave_row r state)
leave-swap None s state = refl
leave-swap (Some r) None state = refl
leave-swap (Some r) (Some s) state = insert-swap r.table r.row s.table s.row state

-- two rows are taken in either order
pub take-swap : (r s : Option TableRow) (state first both : State) → take_row s state ≡ Some first → take_row r first ≡ Some both
    → (other : State) × (take_row r state ≡ Some other) × (take_row s other ≡ Some both)
take-swap r s state first both e f =
    let all = sym (leave-take s state first e) ∙ ap (leave_row s) (sym (leave-take r first both f)) ∙ leave-swap s r both in
    (leave_row s both, ap (take_row r) all ∙ take-leave r (leave_row s both), take-leave s both)

-- a row that can be taken can be taken after one more was left
pub take-more : (r s : Option TableRow) (state taken : State) → take_row r state ≡ Some taken → take_row r (leave_row s state) ≡ Some (leave_row s taken)
take-more r s state taken e =
    ap (λ x. take_row r (leave_row s x)) (sym (leave-take r state taken e)) ∙ ap (take_row r) (leave-swap s r taken) ∙ take-leave r (leave_row s taken)

-- a row that is taken after another was left could be taken before
pub take-before : (r s : Option TableRow) (state after : State) → is_same_row r s ≡ false → take_row r (leave_row s state) ≡ Some after
    → (taken : State) × (take_row r state ≡ Some taken) × (leave_row s taken ≡ after)
take-before None s state after other e = (state, refl, same_Some _ _ e)
take-before (Some r) None state after other e = (after, e, refl)
take-before (Some r) (Some s) state after other e =
    let put : State = insert_row s.table s.row state in
    let some : put r.table r.row ≢ 0 = grind (arith, nat_tests) in
    let here : state r.table r.row ≢ 0 = λ z. some (insert-other s.table s.row r.table r.row state (other-way r.table r.row s.table s.row other) ∙ z) in
    let copies : ℕ = state r.table r.row in
    let taken : State = with_copies state r.table r.row (copies - 1) in
    let takes : delete_row r.table r.row state ≡ Some taken = cond-false (copies == 0) None (Some taken) (ne_eqb copies 0 here) in
    (taken, takes, same_Some _ _ (sym (take-more (Some r) (Some s) state taken takes) ∙ e))
