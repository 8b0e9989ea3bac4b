use Rattle.std.proofs.Common.{◌≡◌, ◌≤◌, length, take}
use Rattle.blog_merge.specs.Merge.{staying}
use Rattle.blog_pairs.specs.Places.{present}
use Rattle.blog_pairs.specs.code.TableView.{places_told}
use Rattle.blog_merged.proofs.counts.rows_staying.Given as goal

-- those of the places before
abbrev pub invariant-loop-place : goal.invariant-loop-place
invariant-loop-place g l = record {
  own : l.rows ≡ length (staying (present (take l.place (places_told l.pairs))));
  few : l.rows ≤ l.place;
}
