-- What is printed of small logs, each line a string.
use Rattle.std.specs.Prelude.{ℕ, List, ◌++◌, codes}

-- ---- pseudo-SQL

-- of `two_updates`
abbrev pub two_updates_lines : List ℕ
two_updates_lines =
    codes "BEGIN\n"
    ++ codes "### UPDATE `d`.`t`\n"
    ++ codes "### WHERE\n"
    ++ codes "###   @1=X'01000000'\n"
    ++ codes "### SET\n"
    ++ codes "###   @1=X'02000000'\n"
    ++ codes "### UPDATE `d`.`t`\n"
    ++ codes "### WHERE\n"
    ++ codes "###   @1=X'02000000'\n"
    ++ codes "### SET\n"
    ++ codes "###   @1=X'03000000'\n"
    ++ codes "COMMIT\n"

-- of what undoes `two_updates`
abbrev pub two_updates_undone_lines : List ℕ
two_updates_undone_lines =
    codes "BEGIN\n"
    ++ codes "### UPDATE `d`.`t`\n"
    ++ codes "### WHERE\n"
    ++ codes "###   @1=X'03000000'\n"
    ++ codes "### SET\n"
    ++ codes "###   @1=X'02000000'\n"
    ++ codes "### UPDATE `d`.`t`\n"
    ++ codes "### WHERE\n"
    ++ codes "###   @1=X'02000000'\n"
    ++ codes "### SET\n"
    ++ codes "###   @1=X'01000000'\n"
    ++ codes "COMMIT\n"

-- of what undoes `two_columns`
abbrev pub two_columns_undone_lines : List ℕ
two_columns_undone_lines =
    codes "BEGIN\n"
    ++ codes "### INSERT INTO `d`.`t`\n"
    ++ codes "### SET\n"
    ++ codes "###   @1=X'05000000'\n"
    ++ codes "###   @2=NULL\n"
    ++ codes "COMMIT\n"

-- of each row of `nine_columns`
abbrev pub nine_columns_row_lines : List ℕ
nine_columns_row_lines =
    codes "### INSERT INTO `d`.`t`\n"
    ++ codes "### SET\n"
    ++ codes "###   @1=X'01000000'\n"
    ++ codes "###   @2=X'02000000'\n"
    ++ codes "###   @3=X'03000000'\n"
    ++ codes "###   @4=X'04000000'\n"
    ++ codes "###   @5=X'05000000'\n"
    ++ codes "###   @6=X'06000000'\n"
    ++ codes "###   @7=X'07000000'\n"
    ++ codes "###   @8=X'08000000'\n"
    ++ codes "###   @9=NULL\n"

-- of `nine_columns`: its two rows print alike
abbrev pub nine_columns_lines : List ℕ
nine_columns_lines = codes "BEGIN\n" ++ nine_columns_row_lines ++ nine_columns_row_lines ++ codes "COMMIT\n"

-- of `backtick_in_name`: the backtick doubled
abbrev pub backtick_lines : List ℕ
backtick_lines =
    codes "BEGIN\n"
    ++ codes "### INSERT INTO `d`.`a``b`\n"
    ++ codes "### SET\n"
    ++ codes "###   @1=X'05000000'\n"
    ++ codes "COMMIT\n"

-- of `two_transactions`: the `COMMIT` of the one and the Xid of the other alike
abbrev pub two_transactions_lines : List ℕ
two_transactions_lines =
    codes "BEGIN\n"
    ++ codes "### INSERT INTO `d`.`t`\n"
    ++ codes "### SET\n"
    ++ codes "###   @1=X'07000000'\n"
    ++ codes "COMMIT\n"
    ++ codes "BEGIN\n"
    ++ codes "### DELETE FROM `d`.`t`\n"
    ++ codes "### WHERE\n"
    ++ codes "###   @1=X'08000000'\n"
    ++ codes "COMMIT\n"

-- of what undoes `two_tables`
abbrev pub two_tables_undone_lines : List ℕ
two_tables_undone_lines =
    codes "BEGIN\n"
    ++ codes "### DELETE FROM `d`.`t1`\n"
    ++ codes "### WHERE\n"
    ++ codes "###   @1=X'03000000'\n"
    ++ codes "### DELETE FROM `d`.`t2`\n"
    ++ codes "### WHERE\n"
    ++ codes "###   @1=X'02000000'\n"
    ++ codes "### DELETE FROM `d`.`t1`\n"
    ++ codes "### WHERE\n"
    ++ codes "###   @1=X'01000000'\n"
    ++ codes "COMMIT\n"

-- of `no_rows`
abbrev pub no_rows_lines : List ℕ
no_rows_lines = codes "BEGIN\n" ++ codes "COMMIT\n"

-- ---- summaries

-- of a log without changes
abbrev pub no_changes_summary : List ℕ
no_changes_summary = codes "transactions 0\n" ++ codes "statements 0\n"

-- of what undoes `two_inserts`
abbrev pub two_inserts_undone_summary : List ℕ
two_inserts_undone_summary =
    codes "transactions 1\n"
    ++ codes "statements 1\n"
    ++ codes "`d`.`t` inserts 0 updates 0 deletes 2\n"

-- of `two_updates`
abbrev pub two_updates_summary : List ℕ
two_updates_summary =
    codes "transactions 1\n"
    ++ codes "statements 1\n"
    ++ codes "`d`.`t` inserts 0 updates 2 deletes 0\n"

-- of `two_transactions`
abbrev pub two_transactions_summary : List ℕ
two_transactions_summary =
    codes "transactions 2\n"
    ++ codes "statements 2\n"
    ++ codes "`d`.`t` inserts 1 updates 0 deletes 1\n"

-- of `two_tables`: the tables in the order of their maps
abbrev pub two_tables_summary : List ℕ
two_tables_summary =
    codes "transactions 1\n"
    ++ codes "statements 1\n"
    ++ codes "`d`.`t1` inserts 2 updates 0 deletes 0\n"
    ++ codes "`d`.`t2` inserts 1 updates 0 deletes 0\n"

-- of `no_rows`: the table of its map, with no rows
abbrev pub no_rows_summary : List ℕ
no_rows_summary =
    codes "transactions 1\n"
    ++ codes "statements 1\n"
    ++ codes "`d`.`t` inserts 0 updates 0 deletes 0\n"
