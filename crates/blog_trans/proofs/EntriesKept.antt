-- The lists of what is kept when a transaction begins, when a statement ends, and when a transaction ends.
use Rattle.std.proofs.Common.{◌≡◌, ℕ, ◌+◌, ◌<◌, List, [], ◌∷◌, ◌++◌, map, length, take, drop, ap, subst, ◌∙◌, append_assoc, length-append, arith, take_at, drop_at}
use Rattle.std.specs.List.{flat_map}
use Rattle.std.proofs.lemmas.List.{append-nil, length-map}
use Rattle.std.proofs.lemmas.Simd.{map-map}
use Rattle.blog_event.specs.File.{Placed}
use Rattle.blog_trans.specs.declared.lists.Entry.{Entry}
use Rattle.blog_trans.specs.declared.lists.IndexLists.{IndexLists}
use Rattle.blog_trans.specs.declared.checker.MapSeen.{MapSeen}
use Rattle.blog_trans.specs.Groups.{PlacedRows, PlacedStatement, PlacedTransaction}
use Rattle.blog_trans.specs.code.Progress.{Open, ended}
use Rattle.blog_trans.specs.code.Entries.{entry_at, event_entry, rows_entry, statement_entries, transaction_entries, entries_of, map_entries, transaction_start, statement_start, statement_starts, statements_in, Shows}
use Rattle.blog_trans.specs.code.ListsView.{HasKept, all_ended, open_behind, between_statements, closed_by, statement_behind}
use Rattle.blog_trans.proofs.Columns.{flat_push, transaction_starts_push, statement_starts_push, starts_push, starts_len, statements_len}

-- ---- lengths

-- how long the list of entries is while a transaction is open
open_len : {A : Type 0} (lists : IndexLists A) (done : List PlacedTransaction) (o : Open) → Shows lists.entries.items lists.transactions.items lists.statements.items (open_behind done o)
    → length lists.entries.items ≡ length (entries_of done) + 1 + length (flat_map statement_entries o.statements) + length o.rows
open_len lists done o shows = grind (arith, length-append, length-map)

-- and how many statements there are then
open_statements : {A : Type 0} (lists : IndexLists A) (done : List PlacedTransaction) (o : Open) → Shows lists.entries.items lists.transactions.items lists.statements.items (open_behind done o)
    → length lists.statements.items ≡ statements_in done + length o.statements
open_statements lists done o shows = grind (arith, length-append, statements_len, starts_len)

-- ---- the end of a statement

-- the statement, behind those before it
abbrev one_more : Open → List Placed → List PlacedStatement
one_more o ms = o.statements ++ record { maps = ms; rows = o.rows } ∷ []

behind_some : (o : Open) (ms : List Placed) (rows : List PlacedRows) → 0 < length rows → o.statements ++ record { maps = ms; rows = rows } ∷ [] ≡ statement_behind o.statements ms rows
behind_some o ms rows some = grind arith

-- the entries of the maps are in front of those of the rows events
closed_entries : (entries : List Entry) (start : ℕ) (done : List PlacedTransaction) (o : Open) (used : List MapSeen) (ms : List Placed)
    → entries ≡ entries_of done ++ (event_entry o.begin ∷ (flat_map statement_entries o.statements ++ map rows_entry o.rows))
    → start ≡ length (entries_of done) + 1 + length (flat_map statement_entries o.statements) → map (λ m. m.at) used ≡ map (λ m. m.pos) ms
    → take start entries ++ (map_entries used ++ drop start entries) ≡ entries_of done ++ (event_entry o.begin ∷ (flat_map statement_entries (one_more o ms) ++ []))
closed_entries entries start done o used ms is begins same =
    let front : List Entry = entries_of done ++ (event_entry o.begin ∷ flat_map statement_entries o.statements) in
    let rows : List Entry = map rows_entry o.rows in
    let maps : map_entries used ≡ map event_entry ms = simp map-map at (ap (map (λ n. entry_at n 0)) same) in
    let push = flat_push statement_entries o.statements (record { maps = ms; rows = o.rows }) in
    grind (arith, take_at front rows start, drop_at front rows start, append_assoc, append-nil, length-append)

module _ {A : Type 0} (before after : IndexLists A) (done : List PlacedTransaction) where
  -- ---- a transaction begins

  pub begun : (p : Placed) → after.entries.items ≡ before.entries.items ++ event_entry p ∷ [] → after.transactions.items ≡ before.transactions.items → after.statements.items ≡ before.statements.items
      → after.transaction_start ≡ length before.entries.items → after.first_statement ≡ length before.statements.items → after.statement_start ≡ length after.entries.items
      → HasKept before (all_ended done) → HasKept after (open_behind done (between_statements p []))
  begun p entries transactions statements start first next h =
      let long = length-append before.entries.items (event_entry p ∷ []) in
      grind (arith, append-nil (entries_of done), append-nil (statement_starts 0 done), statements_len 0 done)

  -- ---- a statement ends

  pub closed : (o : Open) (used : List MapSeen) (ms : List Placed) (many : ℕ) → map (λ m. m.at) used ≡ map (λ m. m.pos) ms → many ≡ length used
      → after.entries.items ≡ take before.statement_start before.entries.items ++ (map_entries used ++ drop before.statement_start before.entries.items)
      → after.transactions.items ≡ before.transactions.items → after.statements.items ≡ before.statements.items ++ statement_start before.statement_start many ∷ []
      → after.transaction_start ≡ before.transaction_start → after.first_statement ≡ before.first_statement → after.statement_start ≡ length after.entries.items
      → (length before.entries.items ≡ before.statement_start → ⊥) → HasKept before (open_behind done o) → HasKept after (open_behind done (closed_by ms o))
  closed o used ms many same counted entries transactions statements start first next more h =
      let starts = starts_push (length (entries_of done) + 1) o.statements (record { maps = ms; rows = o.rows }) in
      let shows : Shows after.entries.items after.transactions.items after.statements.items (open_behind done (between_statements o.begin (one_more o ms))) = record {
        entries_are = entries ∙ closed_entries before.entries.items before.statement_start done o used ms h.shows.entries_are h.marked.statement_is same;
        transactions_are = transactions ∙ h.shows.transactions_are;
        statements_are = grind (arith, length-map used (λ m. m.at), length-map ms (λ m. m.pos), append_assoc);
      } in
      let some : 0 < length o.rows = omega (arith, open_len before done o h.shows, h.marked.statement_is, more) in
      subst (λ (ss : List PlacedStatement). HasKept after (open_behind done (between_statements o.begin ss))) (behind_some o ms o.rows some)
      (record { shows = shows; marked = grind (arith, open_len after done (between_statements o.begin (one_more o ms)) shows) })

  -- ---- a transaction ends

  -- without statements
  pub left_out : (begin : Placed) (inside : List PlacedStatement) (p : Placed) → after.entries.items ≡ take before.transaction_start before.entries.items
      → after.transactions.items ≡ before.transactions.items → after.statements.items ≡ before.statements.items → length before.statements.items ≡ before.first_statement
      → HasKept before (open_behind done (between_statements begin inside)) → HasKept after (ended p done (between_statements begin inside))
  left_out begin [] p entries transactions statements same h =
      grind (arith, take_at (entries_of done) (event_entry begin ∷ []) before.transaction_start, append-nil)
  left_out begin (s ∷ ss) p entries transactions statements same h = absurd (omega (arith, open_statements before done (between_statements begin (s ∷ ss)) h.shows, h.marked.first_is, same))

  -- with statements
  pub taken : (begin : Placed) (inside : List PlacedStatement) (p : Placed) → after.entries.items ≡ before.entries.items ++ event_entry p ∷ []
      → after.transactions.items ≡ before.transactions.items ++ transaction_start before.transaction_start before.first_statement ∷ [] → after.statements.items ≡ before.statements.items
      → (length before.statements.items ≡ before.first_statement → ⊥) → HasKept before (open_behind done (between_statements begin inside)) → HasKept after (ended p done (between_statements begin inside))
  taken begin [] p entries transactions statements more h = absurd (more (omega (arith, open_statements before done (between_statements begin []) h.shows, h.marked.first_is)))
  taken begin (s ∷ ss) p entries transactions statements more h =
      let t : PlacedTransaction = record { begin = begin; statements = s ∷ ss; end = p } in
      grind (arith, append-nil, append_assoc, flat_push transaction_entries done t, transaction_starts_push 0 0 done t, statement_starts_push 0 done t)
