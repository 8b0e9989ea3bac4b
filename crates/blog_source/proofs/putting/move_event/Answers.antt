-- The body is moved first, then the header is put in front of it.
use Rattle.std.proofs.Common.{◌+◌, ◌++◌, ◌∙◌, ap, arith, take, drop, List, ℕ}
use Rattle.blog_source.proofs.Moving.{moved-front, moved-behind, part-long}
use Rattle.blog_source.proofs.putting.move_event.Goals as goal

pub returns-clause-front : goal.returns-clause-front
returns-clause-front c =
    let long = part-long c.move_part.new.bytes c.copy_from_slice.new.self c.args.to _ 19 c.copy_from_slice.ensures.len (omega arith) (omega (arith, c.move_part.ensures.len)) in
    moved-front c.args.bytes.now c.move_part.new.bytes c.copy_from_slice.new.self c.args.at c.args.to c.args.body_len _ c.move_part.ensures.part long (omega arith) c.requires.order
    c.requires.within
    ∙ ap (λ (h : List ℕ). take c.args.to c.args.bytes.now ++ (h ++ take c.args.body_len (drop (c.args.at + 19) c.args.bytes.now))) (c.copy_from_slice.ensures.after ∙ c.header_bytes.ensures)

pub returns-clause-behind : goal.returns-clause-behind
returns-clause-behind c =
    let long = part-long c.move_part.new.bytes c.copy_from_slice.new.self c.args.to _ 19 c.copy_from_slice.ensures.len (omega arith) (omega (arith, c.move_part.ensures.len)) in
    moved-behind c.args.bytes.now c.move_part.new.bytes c.copy_from_slice.new.self c.args.at c.args.to c.args.body_len _ c.move_part.ensures.part long (omega arith) c.requires.order
    c.requires.within
