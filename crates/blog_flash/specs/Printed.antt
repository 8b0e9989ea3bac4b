-- Groups printed: as pseudo-SQL, and as a summary.
use Rattle.std.specs.Prelude.{ℕ, ◌+◌, ◌==◌, if◌then◌else◌, List, [], ◌∷◌, ◌++◌, length, Option, Some, None, codes}
use Rattle.std.specs.List.{flat_map}
use Rattle.std.specs.Fmt.{decimal}
use Rattle.hex.specs.Hex.{encode_upper}
use Rattle.blog_row.specs.Image.{Row}
use Rattle.blog_row.specs.TableMap.{Table}
use Rattle.blog_trans.specs.Groups.{Transaction}
use Rattle.blog_trans.specs.Changes.{Change, Inserted, Deleted, Updated, changes_of_transaction, TableCount, counts_of}

abbrev pub line : List ℕ → List ℕ
line text = text ++ 10 ∷ []

abbrev pub between_backticks : List ℕ → List ℕ
between_backticks text = 96 ∷ (text ++ 96 ∷ [])

-- every backtick doubled, between backticks
abbrev pub quoted : List ℕ → List ℕ
quoted name = between_backticks (flat_map (λ byte. if byte == 96 then 96 ∷ 96 ∷ [] else byte ∷ []) name)

-- the schema, a point and the table
abbrev pub quoted_table : Table → List ℕ
quoted_table t = quoted t.schema ++ (46 ∷ quoted t.name)

-- ---- pseudo-SQL

abbrev pub value_text : Option (List ℕ) → List ℕ
value_text None = codes "NULL"
value_text (Some bytes) = codes "X'" ++ (encode_upper bytes ++ 39 ∷ [])

-- a line for each column, by its number
abbrev pub value_lines : ℕ → Row → List ℕ
value_lines n [] = []
value_lines n (value ∷ row) = line (codes "###   @" ++ (decimal n ++ (61 ∷ value_text value))) ++ value_lines (n + 1) row

abbrev pub row_lines : List ℕ → Row → List ℕ
row_lines heading row = line heading ++ value_lines 1 row

abbrev pub change_lines : Change → List ℕ
change_lines (Inserted t row) = line (codes "### INSERT INTO " ++ quoted_table t) ++ row_lines (codes "### SET") row
change_lines (Deleted t row) = line (codes "### DELETE FROM " ++ quoted_table t) ++ row_lines (codes "### WHERE") row
change_lines (Updated t before after) =
    line (codes "### UPDATE " ++ quoted_table t) ++ (row_lines (codes "### WHERE") before ++ row_lines (codes "### SET") after)

abbrev pub transaction_lines : Transaction → List ℕ
transaction_lines t = line (codes "BEGIN") ++ (flat_map change_lines (changes_of_transaction t) ++ line (codes "COMMIT"))

unfoldable pub sql_text : List Transaction → List ℕ
sql_text ts = flat_map transaction_lines ts

-- ---- summary

abbrev pub count_line : TableCount → List ℕ
count_line c =
    line (quoted_table c.table ++ (codes " inserts " ++ (decimal c.inserts ++ (codes " updates " ++ (decimal c.updates ++ (codes " deletes " ++ decimal c.deletes))))))

unfoldable pub summary_text : List Transaction → List ℕ
summary_text ts =
    line (codes "transactions " ++ decimal (length ts)) ++ (line (codes "statements " ++ decimal (length (flat_map (λ t. t.statements) ts))) ++ flat_map count_line (counts_of ts))
