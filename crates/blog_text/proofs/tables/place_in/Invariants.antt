use Rattle.std.proofs.Common.{◌≡◌, ◌++◌, take, drop}
use Rattle.std.specs.Prelude.{map}
use Rattle.blog_trans.specs.code.IndexView.{table_counted}
use Rattle.blog_text.specs.Tables.{placed}
use Rattle.blog_text.proofs.tables.place_in.Given as goal

-- the table comes behind the first i
abbrev pub invariant-place : goal.invariant-place
invariant-place l =
    take l.i (map table_counted l.largest) ++ placed (table_counted l.count) (drop l.i (map table_counted l.largest)) ≡ placed (table_counted l.count) (map table_counted l.largest)
