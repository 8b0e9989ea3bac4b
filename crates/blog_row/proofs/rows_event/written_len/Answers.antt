use Rattle.std.proofs.Common.{◌≡◌, drop, ap, ◌∙◌, arith}
use Rattle.byteorder.specs.Endian.{little_number}
use Rattle.std.proofs.lemmas.List.{length-drop}
use Rattle.blog_row.proofs.WrittenBody.{written-one, written-two}
use Rattle.blog_row.proofs.rows_event.written_len.Goals as goal

pub returns-in-One : goal.returns-in-One
returns-in-One c layout fields is = written-one c.args.kind layout c.args.body.now fields c.in-One.is is

pub split_at-requires : goal.split_at-requires
split_at-requires c = let (layout, fields, is) = c.requires in omega (arith, (written-two c.args.kind layout c.args.body.now fields c.in-Two.is is).long)

pub read_u16-requires : goal.read_u16-requires
read_u16-requires c = let (layout, fields, is) = c.requires in omega (arith, (written-two c.args.kind layout c.args.body.now fields c.in-Two.is is).long, length-drop 8 c.args.body.now)

pub overflow_sub-result : goal.overflow_sub-result
overflow_sub-result c =
    let (layout, fields, is) = c.requires in
    let number : c.from-counted.result ≡ little_number 2 (drop 8 c.args.body.now) = c.from-counted.ensures ∙ c.read_u16.ensures ∙ ap (little_number 2) c.split_at.ensures.back in
    omega (arith, (written-two c.args.kind layout c.args.body.now fields c.in-Two.is is).two, number)

pub returns-in-Two : goal.returns-in-Two
returns-in-Two c layout fields is =
    let by = written-two c.args.kind layout c.args.body.now fields c.in-Two.is is in
    let number : c.from-counted.result ≡ little_number 2 (drop 8 c.args.body.now) = c.from-counted.ensures ∙ c.read_u16.ensures ∙ ap (little_number 2) c.split_at.ensures.back in
    omega (arith, by.counted, by.two, by.within, number)
