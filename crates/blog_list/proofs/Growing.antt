-- Texts in columns, and sums that stop at the greatest number of 64 bits.
use Rattle.std.specs.Prelude.{filter, replicate, slice_get}
use Rattle.std.proofs.Common.{◌≡◌, ℕ, ◌+◌, ◌-◌, ◌≤◌, Bool, true, false, List, length, drop, Some, ◌++◌, sym, ap, ◌∙◌, append_assoc, arith}
use Rattle.std.proofs.lemmas.Bool.{cond-true, cond-false}
use Rattle.blog_trans.specs.Changes.{TableCount}
use Rattle.blog_trans.proofs.Turns.{drop-at}
use Rattle.blog_list.specs.Columns.{IsPadded}
use Rattle.blog_list.specs.Lines.{at_most, in_column, rows_of}

-- a text is appended in its column
pub in-its-column : (width : ℕ) (old text new : List ℕ) → IsPadded width old text new → new ≡ old ++ in_column width text
in-its-column width old text new padded = padded ∙ append_assoc old text (replicate (width - length text) 32)

-- the rows of a table are added
pub rows-more : (rows own now rest left all : ℕ) → now ≡ at_most (rows + own) → left ≡ own + rest → at_most (rows + left) ≡ all → at_most (now + rest) ≡ all
rows-more rows own now rest left all is splits so_far = omega arith

-- none is left
pub no-more : (rows left all : ℕ) → rows ≤ 18446744073709551615 → left ≡ 0 → at_most (rows + left) ≡ all → rows ≡ all
no-more rows left all fits none so_far = omega arith

-- the rows of a table are added if it passes a test, and else those of the others are left
pub chosen-more : (test : TableCount → Bool) (counts : List TableCount) (n : ℕ) (c : TableCount) (rows now all : ℕ) → slice_get counts n ≡ Some c → test c ≡ true
    → now ≡ at_most (rows + (c.inserts + (c.updates + c.deletes))) → at_most (rows + rows_of (filter test (drop n counts))) ≡ all → at_most (now + rows_of (filter test (drop (n + 1) counts))) ≡ all
chosen-more test counts n c rows now all here chosen is so_far =
    rows-more rows (c.inserts + (c.updates + c.deletes)) now (rows_of (filter test (drop (n + 1) counts))) (rows_of (filter test (drop n counts))) all is
    (ap (λ (cs : List TableCount). rows_of (filter test cs)) (drop-at counts n c here) ∙ ap rows_of (cond-true _ _ _ chosen)) so_far

pub chosen-less : (test : TableCount → Bool) (counts : List TableCount) (n : ℕ) (c : TableCount) (rows all : ℕ) → slice_get counts n ≡ Some c → test c ≡ false
    → at_most (rows + rows_of (filter test (drop n counts))) ≡ all → at_most (rows + rows_of (filter test (drop (n + 1) counts))) ≡ all
chosen-less test counts n c rows all here chosen so_far =
    ap (λ (more : ℕ). at_most (rows + more)) (sym (ap (λ (cs : List TableCount). rows_of (filter test cs)) (drop-at counts n c here) ∙ ap rows_of (cond-false _ _ _ chosen))) ∙ so_far
