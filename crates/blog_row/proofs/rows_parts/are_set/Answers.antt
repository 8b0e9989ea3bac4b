use Rattle.std.proofs.Common.{◌≡◌, false, sym, arith}
use Rattle.blog_row.specs.Image.{is_marked}
use Rattle.blog_row.proofs.Bodies.{marks}
use Rattle.blog_row.proofs.RowsCode.{not_marked}
use Rattle.blog_row.proofs.rows_parts.are_set.Goals as goal

pub returns-then-not-is_set : goal.returns-then-not-is_set
returns-then-not-is_set c =
    let clear : is_marked c.args.bitmap.now c.loop-i.i ≡ false = cc in
    sym (not_marked c.args.columns c.loop-i.i c.args.bitmap.now (omega arith) clear)

pub returns-then-is_full : goal.returns-then-is_full
returns-then-is_full c = sym ((marks c.args.columns c.args.bitmap.now).1 (λ i below. c.is_full.ensures c.if-is_full.true i (omega (arith, c.requires))))
