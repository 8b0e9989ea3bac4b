use Rattle.std.proofs.Common.{◌≡◌, ◌+◌, ◌-◌, ◌≤◌, ◌++◌, length, take, drop}
use Rattle.blog_source.specs.Found.{Found}
use Rattle.blog_source.specs.code.Walk.{found_left, put_text}
use Rattle.blog_source.proofs.walk.hand_out.Given as goal

-- what is left to be found, and what is handed out so far, are what there is to find and to hand out
abbrev pub invariant-events : goal.invariant-events
invariant-events l =
    let whole : Found = found_left l.how l.sums (length l.fn.bytes) l.first (drop l.first l.fn.bytes) in
    let rest : Found = found_left l.how l.sums (length l.bytes) l.at (drop l.at l.bytes) in record {
      order : l.to ≤ l.at;
      within : l.at ≤ length l.bytes;
      len : length l.bytes ≡ length l.fn.bytes;
      text : take l.to l.bytes ++ put_text l.form l.sums l.to rest.kept ≡ take l.first l.fn.bytes ++ put_text l.form l.sums l.first whole.kept;
      fault : rest.fault ≡ whole.fault;
      end : rest.end ≡ whole.end;
      damaged : l.damaged + rest.damaged ≡ whole.damaged;
      few : l.damaged ≤ l.at;
    }

abbrev pub decreases-events : goal.decreases-events
decreases-events l = length l.bytes - l.at
