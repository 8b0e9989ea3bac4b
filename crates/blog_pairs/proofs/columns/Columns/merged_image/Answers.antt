use Rattle.std.proofs.Common.{length, ap, sym, ◌∙◌, arith}
use Rattle.std.proofs.lemmas.List.{length-map}
use Rattle.blog_row.proofs.Layouts.{length_of_columns}
use Rattle.blog_row.specs.Image.{row_of}
use Rattle.blog_row.specs.code.ValuesView.{value_bytes}
use Rattle.blog_pairs.specs.code.ColumnsView.{columns_told}
use Rattle.blog_pairs.proofs.Fitting.{image_row}
use Rattle.blog_pairs.proofs.Writing.{long_written, made, not_written, row_with}
use Rattle.blog_pairs.proofs.columns.Columns.merged_image.Goals as goal

pub returns-then-len-columns-clause-row : goal.returns-then-len-columns-clause-row
returns-then-len-columns-clause-row g c =
    let layout = c.args.self.now.layout in
    let columns = columns_told c.args.self.now in
    let row = c.in_ok-row.row in
    let as_long = ap length (sym (c.in_ok-row.ensures ∙ ap (λ cols. row_with cols c.args.before.now c.args.after.now c.args.other.now) c.args.self.now.same)) ∙ length-map row.items value_bytes in
    let few = length_of_columns layout.kinds.now layout.metadata.now in
    let apart = c.if-len-columns.true in
    ap (row_of columns) c.new-image.ensures.items
    ∙ not_written columns c.args.before.now c.args.after.now c.args.other.now (omega (arith, few, layout.some)) (λ e. omega (arith, e, as_long, c.len.ensures, c.columns.ensures, row.ok.0))

pub returns-then-len-columns-clause-image : goal.returns-then-len-columns-clause-image
returns-then-len-columns-clause-image g c = λ is.
    let columns = columns_told c.args.self.now in
    let row = c.in_ok-row.row in
    let as_long = ap length (sym (c.in_ok-row.ensures ∙ ap (λ cols. row_with cols c.args.before.now c.args.after.now c.args.other.now) c.args.self.now.same)) ∙ length-map row.items value_bytes in
    let long = long_written columns c.args.before.now c.args.after.now c.args.other.now is in
    let apart = c.if-len-columns.true in
    absurd (omega (arith, long, as_long, c.len.ensures, c.columns.ensures, row.ok.0))

pub put_nulls-requires : goal.put_nulls-requires
put_nulls-requires g c =
    let layout = c.args.self.now.layout in
    let row = c.in_ok-row.row in
    omega (arith, ap length c.deref.ensures.value, c.if-len-columns.false, c.len.ensures, c.columns.ensures, row.ok.0, length_of_columns layout.kinds.now layout.metadata.now, layout.few)

pub returns-clause-row : goal.returns-clause-row
returns-clause-row g c =
    let columns = columns_told c.args.self.now in
    let row = c.in_ok-row.row in
    image_row columns (row_with columns c.args.before.now c.args.after.now c.args.other.now) c.put_values.new.image.items
    (made value_bytes columns c.args.before.now c.args.after.now c.args.other.now row.items c.deref.result.now c.deref-2.result.now c.new-image.result.items c.put_nulls.new.image.items c.put_values.new.image.items
    (λ i. omega (arith, c.type_inv.before i)) (λ i. omega (arith, c.type_inv.after i)) (λ i. omega (arith, c.type_inv.other i))
    (c.in_ok-row.ensures ∙ ap (λ cols. row_with cols c.args.before.now c.args.after.now c.args.other.now) c.args.self.now.same) c.deref.ensures.value c.deref-2.ensures.value c.new-image.ensures.items c.in_ok-put_nulls.ensures c.in_ok-put_values.ensures
    (omega (arith, c.if-len-columns.false, c.len.ensures, c.columns.ensures, row.ok.0)))

pub returns-clause-image : goal.returns-clause-image
returns-clause-image g c = λ is.
    let columns = columns_told c.args.self.now in
    let row = c.in_ok-row.row in
    made value_bytes columns c.args.before.now c.args.after.now c.args.other.now row.items c.deref.result.now c.deref-2.result.now c.new-image.result.items c.put_nulls.new.image.items c.put_values.new.image.items
    (λ i. omega (arith, c.type_inv.before i)) (λ i. omega (arith, c.type_inv.after i)) (λ i. omega (arith, c.type_inv.other i))
    (c.in_ok-row.ensures ∙ ap (λ cols. row_with cols c.args.before.now c.args.after.now c.args.other.now) c.args.self.now.same) c.deref.ensures.value c.deref-2.ensures.value c.new-image.ensures.items c.in_ok-put_nulls.ensures c.in_ok-put_values.ensures
    (omega (arith, c.if-len-columns.false, c.len.ensures, c.columns.ensures, row.ok.0))
