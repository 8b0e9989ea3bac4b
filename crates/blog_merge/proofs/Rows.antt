-- Rows that are put into a state, in any order.
use Rattle.std.proofs.Common.{◌≡◌, List, [], ◌∷◌, ◌++◌, Option, Some, None, refl, sym, ap, ◌∙◌}
use Rattle.std.specs.List.{cons_option}
use Rattle.blog_flash.specs.States.{State}
use Rattle.blog_undo.specs.Mixed.{TableRow}
use Rattle.blog_undo.proofs.Rows.{leave_row, leave-swap}
use Rattle.blog_merge.specs.Pairs.{Pair, with_rows}

-- a row is left before the others just as well
pub rows-swap : (r : Option TableRow) (rs : List TableRow) (state : State) → leave_row r (with_rows rs state) ≡ with_rows rs (leave_row r state)
rows-swap r [] state = refl
rows-swap r (s ∷ rs) state = leave-swap r (Some s) (with_rows rs state) ∙ ap (leave_row (Some s)) (rows-swap r rs state)

-- one more row at the front, if there is one
pub rows-front : (r : Option TableRow) (rs : List TableRow) (state : State) → with_rows (cons_option r rs) state ≡ leave_row r (with_rows rs state)
rows-front None rs state = refl
rows-front (Some r) rs state = refl

-- ---- the rows of pairs

-- a row of each pair, if it has one
abbrev pub RowsBy : (Pair → Option TableRow) → (List Pair → List TableRow) → Type 0
RowsBy f rows = (p : Pair) (ps : List Pair) → rows (p ∷ ps) ≡ cons_option (f p) (rows ps)

-- one more pair, at the front or at the end
pub pair-front : (f : Pair → Option TableRow) (rows : List Pair → List TableRow) → RowsBy f rows
    → (p : Pair) (ps : List Pair) (state : State) → with_rows (rows (p ∷ ps)) state ≡ leave_row (f p) (with_rows (rows ps) state)
pair-front f rows each p ps state = ap (λ rs. with_rows rs state) (each p ps) ∙ rows-front (f p) (rows ps) state

pub pair-last : (f : Pair → Option TableRow) (rows : List Pair → List TableRow) → RowsBy f rows
    → (p : Pair) (ps : List Pair) (state : State) → with_rows (rows (ps ++ p ∷ [])) state ≡ leave_row (f p) (with_rows (rows ps) state)
pair-last f rows each p [] state = pair-front f rows each p [] state
pair-last f rows each p (q ∷ ps) state =
    pair-front f rows each q (ps ++ p ∷ []) state
    ∙ ap (leave_row (f q)) (pair-last f rows each p ps state)
    ∙ leave-swap (f q) (f p) (with_rows (rows ps) state)
    ∙ ap (leave_row (f p)) (sym (pair-front f rows each q ps state))
