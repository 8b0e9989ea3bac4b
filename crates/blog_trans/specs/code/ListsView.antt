-- What is kept of the events so far, as the program holds it.
use Rattle.std.specs.Prelude.{◌≡◌, ℕ, ◌+◌, List, [], ◌∷◌, ◌++◌, length, None, Some, IfSome}
use Rattle.std.specs.List.{flat_map}
use Rattle.blog_event.specs.File.{Placed}
use Rattle.blog_trans.specs.declared.lists.IndexLists.{IndexLists}
use Rattle.blog_trans.specs.Groups.{PlacedRows, PlacedStatement, PlacedTransaction}
use Rattle.blog_trans.specs.code.Progress.{Open, Progress}
use Rattle.blog_trans.specs.code.Entries.{statement_entries, entries_of, statements_in, Shows}

-- where the open transaction begins in the list, how many statements stand before it, and where its open statement begins
pub record AreMarks (transaction first statement : ℕ) (done : List PlacedTransaction) (o : Open) : Type 0 where
  pub transaction_is : transaction ≡ length (entries_of done)
  pub first_is : first ≡ statements_in done
  pub statement_is : statement ≡ length (entries_of done) + 1 + length (flat_map statement_entries o.statements)

-- the lists show what is kept, and the marks lie where the open transaction and its open statement begin
pub record HasKept {A : Type 0} (lists : IndexLists A) (k : Progress) : Type 0 where
  pub shows : Shows lists.entries.items lists.transactions.items lists.statements.items k
  pub marked : IfSome k.current (AreMarks lists.transaction_start lists.first_statement lists.statement_start k.done)

-- these transactions, and no open one
abbrev pub all_ended : List PlacedTransaction → Progress
all_ended done = record { done = done; current = None }

-- these, and the open one
abbrev pub open_behind : List PlacedTransaction → Open → Progress
open_behind done o = record { done = done; current = Some o }

-- an open transaction whose last statement has ended
abbrev pub between_statements : Placed → List PlacedStatement → Open
between_statements begin statements = record { begin = begin; statements = statements; rows = [] }

-- a statement of these maps and rows events behind others, if it has any rows event
abbrev pub statement_behind : List PlacedStatement → List Placed → List PlacedRows → List PlacedStatement
statement_behind statements maps [] = statements
statement_behind statements maps (r ∷ rows) = statements ++ record { maps = maps; rows = r ∷ rows } ∷ []

-- the end of the open statement, whose rows events go by these maps
abbrev pub closed_by : List Placed → Open → Open
closed_by maps o = between_statements o.begin (statement_behind o.statements maps o.rows)

abbrev pub closed_behind : List PlacedTransaction → List Placed → Open → Progress
closed_behind done maps o = open_behind done (closed_by maps o)
