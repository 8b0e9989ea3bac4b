-- The pair of a row is taken out, and a new one is put in its place.
use Rattle.std.proofs.Common.{◌≡◌, Bool, true, false, List, [], ◌∷◌, ◌++◌, Option, Some, None, refl, sym, ap, ◌∙◌}
use Rattle.std.specs.Prelude.{option_map}
use Rattle.std.proofs.lemmas.Bool.{cond-true, cond-false, false≢true}
use Rattle.std.proofs.lemmas.Option.{same_Some}
use Rattle.blog_row.specs.Image.{Row}
use Rattle.blog_row.specs.TableMap.{Table}
use Rattle.blog_flash.specs.States.{State, delete_row, insert_row}
use Rattle.blog_flash.proofs.Undoing.{delete-insert, insert-delete}
use Rattle.blog_undo.specs.Mixed.{TableRow, is_same_row}
use Rattle.blog_undo.proofs.Rows.{is_row-Decides, leave_row, leave-swap, take-before}
use Rattle.blog_merge.specs.Pairs.{Pair, in_table, is_of, put, real_row, real_rows, unless_equal, with_rows, without, would_be, would_row, would_rows}
use Rattle.blog_merge.proofs.Rows.{RowsBy, pair-front, rows-swap}

-- ---- a row is taken

-- The real rows lose the row, and those that would be lose what it would be: both over a state with the row or without it.
pub record IsTaken (t : Table) (r : Row) (ps : List Pair) (rest after : State) : Type 0 where
  pub other : State
  pub reals : with_rows (real_rows (without t r ps)) other ≡ after
  pub woulds : with_rows (would_rows ps) rest ≡ leave_row (option_map (in_table t) (would_be t r ps)) (with_rows (would_rows (without t r ps)) other)

pub taken-pair : (t : Table) (r : Row) (ps : List Pair) (rest after : State) → delete_row t r (with_rows (real_rows ps) rest) ≡ Some after → IsTaken t r ps rest after
taken-pair t r [] rest after e = record { other = after; reals = refl; woulds = sym (insert-delete t r rest after e) }
taken-pair t r (p ∷ ps) rest after e = by_case (is_of t r p) refl (taken-pair t r ps rest)
  where
    left : State
    left = with_rows (real_rows ps) rest

    by_case : (b : Bool) → is_of t r p ≡ b → ((x : State) → delete_row t r left ≡ Some x → IsTaken t r ps rest x) → IsTaken t r (p ∷ ps) rest after
    by_case true is later =
        let (in_t, is_r) = (is_row-Decides t r p.table p.real).0 is in
        let gone : without t r (p ∷ ps) ≡ ps = cond-true (is_of t r p) ps (p ∷ without t r ps) is in
        let would : would_be t r (p ∷ ps) ≡ p.would = cond-true (is_of t r p) p.would (would_be t r ps) is in
        let here : insert_row t r left ≡ insert_row p.table p.real left = ap (λ u. insert_row u r left) in_t ∙ ap (λ s. insert_row p.table s left) is_r in
        record {
          other = rest;
          reals = ap (λ qs. with_rows (real_rows qs) rest) gone ∙ same_Some _ _ (sym (delete-insert t r left) ∙ ap (delete_row t r) here ∙ e);
          woulds =
              pair-front would_row would_rows (λ _ _. refl) p ps rest
              ∙ ap (λ u. leave_row (option_map (in_table u) p.would) (with_rows (would_rows ps) rest)) (sym in_t)
              ∙ ap (λ o. leave_row (option_map (in_table t) o) (with_rows (would_rows ps) rest)) (sym would)
              ∙ ap (λ qs. leave_row (option_map (in_table t) (would_be t r (p ∷ ps))) (with_rows (would_rows qs) rest)) (sym gone);
        }
    by_case false is later =
        let (x, taken, back) = take-before (Some (in_table t r)) (Some (real_row p)) left after is e in
        let h = later x taken in
        let kept : without t r (p ∷ ps) ≡ p ∷ without t r ps = cond-false (is_of t r p) ps (p ∷ without t r ps) is in
        let would : would_be t r (p ∷ ps) ≡ would_be t r ps = cond-false (is_of t r p) p.would (would_be t r ps) is in
        let row : Option TableRow = option_map (in_table t) (would_be t r ps) in
        record {
          other = h.other;
          reals = ap (λ qs. with_rows (real_rows qs) h.other) kept ∙ ap (leave_row (Some (real_row p))) h.reals ∙ back;
          woulds =
              pair-front would_row would_rows (λ _ _. refl) p ps rest
              ∙ ap (leave_row (would_row p)) h.woulds
              ∙ leave-swap (would_row p) row (with_rows (would_rows (without t r ps)) h.other)
              ∙ ap (leave_row row) (sym (pair-front would_row would_rows (λ _ _. refl) p (without t r ps) h.other))
              ∙ ap (λ o. leave_row (option_map (in_table t) o) (with_rows (would_rows (p ∷ without t r ps)) h.other)) (sym would)
              ∙ ap (λ qs. leave_row (option_map (in_table t) (would_be t r (p ∷ ps))) (with_rows (would_rows qs) h.other)) (sym kept);
        }

-- ---- a pair is put

-- a pair whose rows are equal
equal-rows : (o : Option TableRow) (r : TableRow) → is_same_row o (Some r) ≡ true → o ≡ Some r
equal-rows None r e = absurd (false≢true e)
equal-rows (Some s) r e = let (t, q) = (is_row-Decides s.table s.row r.table r.row).0 e in λ i. Some (in_table (t i) (q i))

put-equal : (t : Table) (r : Row) (new : Pair) (ps : List Pair) → unless_equal new ≡ [] → put t r new ps ≡ without t r ps
put-equal t r new [] e = e
put-equal t r new (p ∷ ps) e = by_case (is_of t r p) refl (put-equal t r new ps e)
  where
    by_case : (b : Bool) → is_of t r p ≡ b → put t r new ps ≡ without t r ps → put t r new (p ∷ ps) ≡ without t r (p ∷ ps)
    by_case true is later =
        cond-true (is_of t r p) (unless_equal new ++ ps) (p ∷ put t r new ps) is
        ∙ ap (λ qs. qs ++ ps) e
        ∙ sym (cond-true (is_of t r p) ps (p ∷ without t r ps) is)
    by_case false is later =
        cond-false (is_of t r p) (unless_equal new ++ ps) (p ∷ put t r new ps) is
        ∙ ap (λ qs. p ∷ qs) later
        ∙ sym (cond-false (is_of t r p) ps (p ∷ without t r ps) is)

-- one whose rows differ is among the pairs
put-kept : (f : Pair → Option TableRow) (rows : List Pair → List TableRow) → RowsBy f rows → (t : Table) (r : Row) (new : Pair) → unless_equal new ≡ new ∷ []
    → (ps : List Pair) (rest : State) → with_rows (rows (put t r new ps)) rest ≡ leave_row (f new) (with_rows (rows (without t r ps)) rest)
put-kept f rows each t r new kept [] rest = ap (λ qs. with_rows (rows qs) rest) kept ∙ pair-front f rows each new [] rest
put-kept f rows each t r new kept (p ∷ ps) rest = by_case (is_of t r p) refl (put-kept f rows each t r new kept ps rest)
  where
    by_case : (b : Bool) → is_of t r p ≡ b
        → with_rows (rows (put t r new ps)) rest ≡ leave_row (f new) (with_rows (rows (without t r ps)) rest)
        → with_rows (rows (put t r new (p ∷ ps))) rest ≡ leave_row (f new) (with_rows (rows (without t r (p ∷ ps))) rest)
    by_case true is later =
        ap (λ qs. with_rows (rows qs) rest) (cond-true (is_of t r p) (unless_equal new ++ ps) (p ∷ put t r new ps) is ∙ ap (λ qs. qs ++ ps) kept)
        ∙ pair-front f rows each new ps rest
        ∙ ap (λ qs. leave_row (f new) (with_rows (rows qs) rest)) (sym (cond-true (is_of t r p) ps (p ∷ without t r ps) is))
    by_case false is later =
        ap (λ qs. with_rows (rows qs) rest) (cond-false (is_of t r p) (unless_equal new ++ ps) (p ∷ put t r new ps) is)
        ∙ pair-front f rows each p (put t r new ps) rest
        ∙ ap (leave_row (f p)) later
        ∙ leave-swap (f p) (f new) (with_rows (rows (without t r ps)) rest)
        ∙ ap (leave_row (f new)) (sym (pair-front f rows each p (without t r ps) rest))
        ∙ ap (λ qs. leave_row (f new) (with_rows (rows qs) rest)) (sym (cond-false (is_of t r p) ps (p ∷ without t r ps) is))

-- Both get the rows of the new pair, in the place of those that were taken: as rows of the pairs, or of the state under them.
pub record IsPut (t : Table) (r : Row) (new : Pair) (ps : List Pair) (rest : State) : Type 0 where
  pub other : State
  pub reals : with_rows (real_rows (put t r new ps)) other ≡ leave_row (Some (real_row new)) (with_rows (real_rows (without t r ps)) rest)
  pub woulds : with_rows (would_rows (put t r new ps)) other ≡ leave_row (would_row new) (with_rows (would_rows (without t r ps)) rest)

pub put-pair : (t : Table) (r : Row) (new : Pair) (ps : List Pair) (rest : State) → IsPut t r new ps rest
put-pair t r new ps rest = by_case (is_same_row (would_row new) (Some (real_row new))) refl
  where
    by_case : (b : Bool) → is_same_row (would_row new) (Some (real_row new)) ≡ b → IsPut t r new ps rest
    by_case true is =
        let row : Option TableRow = Some (real_row new) in
        let drops = put-equal t r new ps (cond-true (is_same_row (would_row new) row) [] (new ∷ []) is) in
        record {
          other = leave_row row rest;
          reals = ap (λ qs. with_rows (real_rows qs) (leave_row row rest)) drops ∙ sym (rows-swap row (real_rows (without t r ps)) rest);
          woulds =
              ap (λ qs. with_rows (would_rows qs) (leave_row row rest)) drops
              ∙ sym (rows-swap row (would_rows (without t r ps)) rest)
              ∙ ap (λ o. leave_row o (with_rows (would_rows (without t r ps)) rest)) (sym (equal-rows (would_row new) (real_row new) is));
        }
    by_case false is =
        let kept = cond-false (is_same_row (would_row new) (Some (real_row new))) [] (new ∷ []) is in
        record {
          other = rest;
          reals = put-kept (λ p. Some (real_row p)) real_rows (λ _ _. refl) t r new kept ps rest;
          woulds = put-kept would_row would_rows (λ _ _. refl) t r new kept ps rest;
        }
