use Rattle.std.proofs.Common.{◌≡◌, ◌<◌, ◌∙◌, length, take, sym, subst, arith}
use Rattle.std.proofs.lemmas.Grind.{common_steps}
use Rattle.blog_row.specs.code.LayoutView.{layout_columns}
use Rattle.blog_row.specs.code.StorageView.{AreStored}
use Rattle.blog_row.proofs.RowsCode.{OneImage, some_columns, one_image, count_step, count_stops, count_ends, counted_behind}
use Rattle.blog_row.proofs.StorageWalking.{as_many_stored}
use Rattle.blog_row.proofs.image_walks.count_up_to.Goals as goal

pub count_same-same-requires : goal.count_same-same-requires
count_same-same-requires g c =
    let stored : AreStored (layout_columns c.args.layout.now) (take c.columns.result c.look_up.new.storages) = subst (λ n. AreStored (layout_columns c.args.layout.now) (take n c.look_up.new.storages)) (sym c.columns.ensures) c.look_up.ensures.stored in
    record { some = omega (arith, as_many_stored _ _ stored, some_columns c.args.layout.now) }

pub images-init : goal.images-init
images-init g c =
    let stored : AreStored (layout_columns c.args.layout.now) (take c.columns.result c.look_up.new.storages) = subst (λ n. AreStored (layout_columns c.args.layout.now) (take n c.look_up.new.storages)) (sym c.columns.ensures) c.look_up.ensures.stored in
    record {
      stored = stored;
      small = (omega (arith, as_many_stored _ _ stored, some_columns c.args.layout.now), omega (arith, as_many_stored _ _ stored, c.requires.columns));
      so_far = counted_behind c.args.before c.count_same-same.result.0 _ _ (c.count_same-same.ensures.images _ stored);
      few = omega (arith, c.count_same-same.ensures.few);
    }

pub returns-in_err-len : goal.returns-in_err-len
returns-in_err-len g c =
    let some : 0 < length c.images.rest.now = grind (arith, common_steps) in
    c.from_residual.ensures ∙ sym (count_stops (layout_columns c.args.layout.now) c.images.rest.now c.images.images _ some (sym (c.in_err-len.ensures.exact _ c.images.invariant.stored)) c.images.invariant.so_far)

pub overflow_add-images-in-images : goal.overflow_add-images-in-images
overflow_add-images-in-images g c =
    let some : 0 < length c.images.rest.now = grind (arith, common_steps) in
    omega (arith, some, c.images.invariant.few, c.requires.few)

pub images-smaller : goal.images-smaller
images-smaller g c =
    let one : OneImage (layout_columns c.args.layout.now) c.images.rest.now c.in_ok-len.len = one_image _ _ _ (some_columns c.args.layout.now) (sym (c.in_ok-len.ensures.exact _ c.images.invariant.stored)) in
    omega (arith, one.positive, one.within, c.split_at.ensures.back_len)

pub images-preserved : goal.images-preserved
images-preserved g c =
    let one : OneImage (layout_columns c.args.layout.now) c.images.rest.now c.in_ok-len.len = one_image _ _ _ (some_columns c.args.layout.now) (sym (c.in_ok-len.ensures.exact _ c.images.invariant.stored)) in
    record {
      stored = c.images.invariant.stored;
      small = c.images.invariant.small;
      so_far = count_step _ _ _ _ _ _ one c.split_at.ensures.back c.images.invariant.so_far;
      few = omega (arith, one.positive, one.within, c.split_at.ensures.back_len, c.images.invariant.few);
    }

pub returns : goal.returns
returns g c =
    let none : length c.images.rest.now ≡ 0 = grind (arith, common_steps) in
    sym (count_ends (layout_columns c.args.layout.now) c.images.rest.now c.images.images _ none c.images.invariant.so_far)
