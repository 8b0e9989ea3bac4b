-- What is reported of changes that are made once more, or undone.
use Rattle.std.specs.Prelude.{ℕ, ◌==◌, ◌||◌, nat_lt, Bool, if◌then◌else◌, List, [], ◌∷◌, ◌++◌, Option, Some, None, codes}
use Rattle.std.specs.Fmt.{decimal}
use Rattle.std.specs.List.{flat_map, list_any}
use Rattle.blog_row.specs.declared.order.Order.{Order}
use Rattle.blog_row.specs.declared.order.Order.TheVariants.{Forward, Backward}
use Rattle.blog_text.specs.Escapes.{escaped}
use Rattle.blog_text.specs.Tables.{count_text, next_count}
use Rattle.blog_trans.specs.Changes.{TableCount}
use Rattle.undo_run.specs.After.{Place}
use Rattle.undo_run.specs.Several.{Begun, Names}

-- the rows of a table: as they are changed, and undone the other way round
abbrev pub turned : Order → TableCount → TableCount
turned Forward c = c
turned Backward c = record c { inserts = c.deletes; deletes = c.inserts }

abbrev pub verb : Order → List ℕ
verb Forward = codes "redoes "
verb Backward = codes "undoes "

-- a number of transactions
abbrev pub transactions_text : ℕ → List ℕ
transactions_text n = decimal n ++ (if n == 1 then codes " transaction" else codes " transactions")

-- the rows of tables
abbrev pub next_told : Order → TableCount → List ℕ
next_told order c = next_count (turned order c)

abbrev pub rows_told : Order → List TableCount → List ℕ
rows_told order [] = []
rows_told order (c ∷ cs) = count_text (turned order c) ++ flat_map (next_told order) cs

-- what was seen of later units: how many can be undone by themselves; where the reading ended, and in which log that log goes on, if it does;
-- how many others there are, which don't concern the tables, and where the first of them begins
pub record Since : Type 0 where
  pub units : ℕ
  pub end : Option Place
  pub next : List ℕ
  pub apart : ℕ
  pub first : Option Place

-- how many can be, up to where, and how many others
abbrev pub units_words : ℕ → List ℕ
units_words n = if n == 1 then codes " later transaction" else codes " later transactions"

abbrev pub units_text : ℕ → List ℕ
units_text n = codes "looked at " ++ (decimal n ++ units_words n)

abbrev pub place_text : Place → List ℕ
place_text p = decimal p.at ++ (codes " of " ++ escaped p.name)

abbrev pub end_text : Option Place → List ℕ
end_text (Some p) = codes ", up to " ++ (place_text p ++ codes ": none changes these rows\n")
end_text None = codes ": none changes these rows\n"

abbrev pub statements_words : ℕ → List ℕ
statements_words n = if n == 1 then codes " statement, at " else codes " statements, the first at "

abbrev pub statements_text : ℕ → List ℕ
statements_text n = codes "passed over " ++ (decimal n ++ statements_words n)

abbrev pub apart_text : ℕ → Option Place → List ℕ
apart_text n (Some p) = statements_text n ++ (place_text p ++ codes "\n")
apart_text n None = []

-- in which log the last one goes on
abbrev pub next_text : Option Place → List ℕ → List ℕ
next_text (Some p) (byte ∷ name) = escaped p.name ++ (codes " goes on in " ++ (escaped (byte ∷ name) ++ codes ": give that as the next --later\n"))
next_text end next = []

abbrev pub looked_text : Since → List ℕ
looked_text since = units_text since.units ++ (end_text since.end ++ (apart_text since.apart since.first ++ next_text since.end since.next))

-- what is told of later changes that weren't looked at
abbrev pub unlooked_text : Order → List ℕ
unlooked_text Forward = []
unlooked_text Backward = codes "changes made to these rows since are not looked for, and are overwritten\n"

-- what is told of later changes
abbrev pub since_text : Order → Option Since → List ℕ
since_text order (Some since) = looked_text since
since_text order None = unlooked_text order

-- rows are updated or deleted
abbrev pub has_followers : TableCount → Bool
has_followers c = nat_lt 0 c.updates || nat_lt 0 c.deletes

-- how many rows are left as they are, which were changed since
abbrev pub left_words : ℕ → List ℕ
left_words n = if n == 1 then codes " row as it is, which was changed since:\n" else codes " rows as they are, which were changed since:\n"

abbrev pub left_text : ℕ → List ℕ
left_text n = codes "leaves " ++ (decimal n ++ left_words n)

-- how many rows stay that a mistake inserted, and of how many it is taken out, which were changed since
abbrev pub staying_words : ℕ → List ℕ
staying_words n = if n == 1 then codes " row as it is, which the mistake inserted and others changed since\n" else codes " rows as they are, which the mistake inserted and others changed since\n"

abbrev pub staying_text : ℕ → List ℕ
staying_text n = if n == 0 then [] else codes "leaves " ++ (decimal n ++ staying_words n)

abbrev pub merged_words : ℕ → List ℕ
merged_words n = if n == 1 then codes " row that was changed since, and keeps these changes:\n" else codes " rows that were changed since, and keep these changes:\n"

abbrev pub merged_text : ℕ → ℕ → List ℕ
merged_text merged stay = staying_text stay ++ (codes "merges " ++ (decimal merged ++ merged_words merged))

abbrev pub cascades_text : Order → List TableCount → List ℕ
cascades_text order counts =
    if list_any (λ c. has_followers (turned order c)) counts then codes "child rows of foreign keys that cascade follow the updated and deleted rows, and are not counted\n" else []

-- the names of logs
abbrev pub next_name : Begun → List ℕ
next_name b = codes ", " ++ escaped b.name

abbrev pub names_text : Names → List ℕ
names_text names = escaped names.first ++ flat_map next_name names.more

-- how many transactions of the logs of these names, and how many rows of which tables
abbrev pub changes_told : Order → Names → ℕ → List TableCount → List ℕ
changes_told order names n counts =
    verb order ++ (transactions_text n ++ (codes " of " ++ (names_text names ++ (codes ": " ++ (rows_told order counts ++ codes "\n")))))

-- the report
abbrev pub report : Order → Names → ℕ → List TableCount → Option Since → List ℕ
report order names n counts since = changes_told order names n counts ++ (since_text order since ++ cascades_text order counts)
