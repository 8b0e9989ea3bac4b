use Rattle.std.proofs.Common.{◌≡◌, ◌++◌, take, drop}
use Rattle.blog_report.specs.Ranking.{placed}
use Rattle.blog_report.proofs.ranking.place_in.Given as goal

-- the new unit comes behind the first i
abbrev pub invariant-place : goal.invariant-place
invariant-place l = take l.i l.ranked ++ placed l.new (drop l.i l.ranked) ≡ placed l.new l.ranked
