-- The lists of an index when one more transaction, or one more statement, comes last.
use Rattle.std.proofs.Common.{◌≡◌, ℕ, ◌+◌, List, [], ◌∷◌, ◌++◌, length, refl, sym, ap, ap₂, ◌∙◌, add-zero, length-append, append_assoc, arith}
use Rattle.std.specs.List.{flat_map}
use Rattle.std.proofs.lemmas.Grind.{flat_map-append}
use Rattle.std.proofs.lemmas.List.{append-nil, length-map}
use Rattle.blog_trans.specs.Groups.{PlacedStatement, PlacedTransaction}
use Rattle.blog_trans.specs.code.Entries.{statement_entries, transaction_entries, entries_of, transaction_start, statement_start, transaction_starts, starts_in, statement_starts, statements_in}

-- a list of lists joined, and one more of them
pub flat_push : {X A : Type 0} (f : X → List A) (xs : List X) (x : X) → flat_map f (xs ++ x ∷ []) ≡ flat_map f xs ++ f x
flat_push f xs x = flat_map-append f xs (x ∷ []) ∙ ap (λ ys. flat_map f xs ++ ys) (append-nil (f x))

-- ---- one more transaction

pub statements_cons : (t : PlacedTransaction) (ts : List PlacedTransaction) → statements_in (t ∷ ts) ≡ length t.statements + statements_in ts
statements_cons t ts = length-append t.statements (flat_map (λ x. x.statements) ts)

pub entries_cons : (t : PlacedTransaction) (ts : List PlacedTransaction) → length (entries_of (t ∷ ts)) ≡ length (transaction_entries t) + length (entries_of ts)
entries_cons t ts = length-append (transaction_entries t) (entries_of ts)

pub transaction_starts_push : (n s : ℕ) (ts : List PlacedTransaction) (t : PlacedTransaction)
    → transaction_starts n s (ts ++ t ∷ []) ≡ transaction_starts n s ts ++ transaction_start (n + length (entries_of ts)) (s + statements_in ts) ∷ []
transaction_starts_push n s [] t = ap₂ (λ a b. transaction_start a b ∷ []) (sym (add-zero n)) (sym (add-zero s))
transaction_starts_push n s (u ∷ us) t =
    grind (arith, transaction_starts_push (n + length (transaction_entries u)) (s + length u.statements) us t, entries_cons, statements_cons)

pub statement_starts_push : (n : ℕ) (ts : List PlacedTransaction) (t : PlacedTransaction)
    → statement_starts n (ts ++ t ∷ []) ≡ statement_starts n ts ++ starts_in ((n + length (entries_of ts)) + 1) t.statements
statement_starts_push n [] t = append-nil (starts_in (n + 1) t.statements) ∙ ap (λ m. starts_in (m + 1) t.statements) (sym (add-zero n))
statement_starts_push n (u ∷ us) t = grind (arith, statement_starts_push (n + length (transaction_entries u)) us t, entries_cons, append_assoc)

-- ---- one more statement

pub starts_push : (n : ℕ) (ss : List PlacedStatement) (s : PlacedStatement)
    → starts_in n (ss ++ s ∷ []) ≡ starts_in n ss ++ statement_start (n + length (flat_map statement_entries ss)) (length s.maps) ∷ []
starts_push n [] s = ap (λ m. statement_start m (length s.maps) ∷ []) (sym (add-zero n))
starts_push n (x ∷ xs) s = grind (arith, starts_push (n + length (statement_entries x)) xs s, length-append)

-- ---- how many there are

pub transactions_len : (n s : ℕ) (ts : List PlacedTransaction) → length (transaction_starts n s ts) ≡ length ts
transactions_len n s [] = refl
transactions_len n s (t ∷ ts) = let rest = transactions_len (n + length (transaction_entries t)) (s + length t.statements) ts in omega (arith, rest)

pub starts_len : (n : ℕ) (ss : List PlacedStatement) → length (starts_in n ss) ≡ length ss
starts_len n [] = refl
starts_len n (s ∷ ss) = let rest = starts_len (n + length (statement_entries s)) ss in omega (arith, rest)

pub statements_len : (n : ℕ) (ts : List PlacedTransaction) → length (statement_starts n ts) ≡ statements_in ts
statements_len n [] = refl
statements_len n (t ∷ ts) = grind (arith, statements_len (n + length (transaction_entries t)) ts, length-append, starts_len, statements_cons)

pub statement_len : (s : PlacedStatement) → length (statement_entries s) ≡ length s.maps + length s.rows
statement_len s = grind (arith, length-map, length-append)
