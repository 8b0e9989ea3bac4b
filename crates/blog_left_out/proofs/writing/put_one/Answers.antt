use Rattle.std.proofs.Common.{refl, arith}
use Rattle.blog_left_out.proofs.writing.put_one.Goals as goal

pub returns-in-Ok : goal.returns-in-Ok
returns-in-Ok g c = rw c.in-End.is (record { put = c.in-Ok.ensures c.args.marks.now; held_is = refl; left = refl; within = omega arith })

pub returns-in-Err : goal.returns-in-Err
returns-in-Err g c = rw c.in-End.is (c.in-Err.ensures c.args.marks.now)
