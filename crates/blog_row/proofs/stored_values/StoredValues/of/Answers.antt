-- Behind the null bits of an image stand its values.
use Rattle.std.proofs.Common.{◌≡◌, ◌∙◌, length, is_some, refl, ap, sym, arith}
use Rattle.blog_row.specs.Checks.{cut}
use Rattle.blog_row.specs.Image.{bitmap_len}
use Rattle.blog_row.specs.code.StoredLayoutView.{stored_columns}
use Rattle.blog_row.proofs.Cutting.{cut_found}
use Rattle.blog_row.proofs.Walking.{nulls_cut, nulls_short, rounded_up}
use Rattle.blog_row.proofs.ValueWalking.{row_read, row_is}
use Rattle.blog_row.proofs.stored_values.StoredValues.of.Goals as goal

pub unreachable-requires : goal.unreachable-requires
unreachable-requires c =
    let few : bitmap_len (length (stored_columns c.args.layout.now)) ≡ c.div_ceil.result = ap bitmap_len (sym c.columns.ensures) ∙ sym (c.div_ceil.ensures ∙ rounded_up _) in
    let short = nulls_short (stored_columns c.args.layout.now) c.args.image.now (ap (λ n. cut n c.args.image.now) few ∙ sym c.in_default.ensures) in
    let none = ap is_some short in
    cc

pub invariant_of-result : goal.invariant_of-result
invariant_of-result c =
    let few : bitmap_len (length (stored_columns c.args.layout.now)) ≡ c.div_ceil.result = ap bitmap_len (sym c.columns.ensures) ∙ sym (c.div_ceil.ensures ∙ rounded_up _) in
    let read = nulls_cut (stored_columns c.args.layout.now) c.args.image.now c.in-Some.nulls.now c.in-Some.rest.now (ap (λ n. cut n c.args.image.now) few ∙ sym c.in-Some.ensures) in
    let long = (cut_found c.div_ceil.result c.args.image.now c.in-Some.nulls.now c.in-Some.rest.now (sym c.in-Some.ensures)).0 in
    let rounded = c.div_ceil.ensures ∙ rounded_up _ in
    record {
      ahead = λ _. (refl, c.args.layout.now.layout.known);
      long = λ _. omega (arith, rounded, long, c.columns.ensures);
      imaged = ap is_some (sym read) ∙ c.requires;
    }

pub returns : goal.returns
returns c =
    let few : bitmap_len (length (stored_columns c.args.layout.now)) ≡ c.div_ceil.result = ap bitmap_len (sym c.columns.ensures) ∙ sym (c.div_ceil.ensures ∙ rounded_up _) in
    let read = nulls_cut (stored_columns c.args.layout.now) c.args.image.now c.in-Some.nulls.now c.in-Some.rest.now (ap (λ n. cut n c.args.image.now) few ∙ sym c.in-Some.ensures) in
    ap row_read (sym read) ∙ row_is (stored_columns c.args.layout.now) c.args.image.now
