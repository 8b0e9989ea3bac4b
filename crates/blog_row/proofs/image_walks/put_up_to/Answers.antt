use Rattle.std.proofs.Common.{◌≡◌, ◌<◌, ◌∙◌, [], ◌∷◌, length, take, drop, unwrap_or, Some, None, sym, subst, arith}
use Rattle.std.proofs.lemmas.Grind.{common_steps}
use Rattle.blog_row.specs.Image.{image_len_of, images_of}
use Rattle.blog_row.specs.code.LayoutView.{layout_columns}
use Rattle.blog_row.specs.code.StorageView.{AreStored}
use Rattle.blog_row.proofs.RowsCode.{OneImage, some_columns, one_image}
use Rattle.blog_row.proofs.Reversing.{written_before, written_there, written_all, reversed_before}
use Rattle.blog_row.proofs.StorageWalking.{as_many_stored}
use Rattle.blog_row.proofs.image_walks.put_up_to.Goals as goal

pub put_same-rest-requires-clause-some : goal.put_same-rest-requires-clause-some
put_same-rest-requires-clause-some g c =
    let stored : AreStored (layout_columns c.args.layout.now) (take c.columns-columns.result c.look_up.new.storages) = subst (λ n. AreStored (layout_columns c.args.layout.now) (take n c.look_up.new.storages)) (sym c.columns-columns.ensures) c.look_up.ensures.stored in
    omega (arith, as_many_stored _ _ stored, some_columns c.args.layout.now)

pub images-init : goal.images-init
images-init g c =
    let stored : AreStored (layout_columns c.args.layout.now) (take c.columns-columns.result c.look_up.new.storages) = subst (λ n. AreStored (layout_columns c.args.layout.now) (take n c.look_up.new.storages)) (sym c.columns-columns.ensures) c.look_up.ensures.stored in
    record {
      stored = stored;
      small = (omega (arith, as_many_stored _ _ stored, some_columns c.args.layout.now), omega (arith, as_many_stored _ _ stored, c.requires.columns));
      written = c.put_same-rest.ensures _ _ stored (written_before _ _ _ c.requires.imaged c.requires.room);
    }

pub unreachable-requires : goal.unreachable-requires
unreachable-requires g c =
    let some : 0 < length c.images.rest.now = grind (arith, common_steps) in
    let none : image_len_of (layout_columns c.args.layout.now) c.images.rest.now ≡ None = sym (c.len_up_to.ensures.exact _ c.images.invariant.stored) ∙ c.in_default.is in
    let all = drop (length c.args.bytes.now) c.args.to.now ∷ unwrap_or (images_of (layout_columns c.args.layout.now) c.args.bytes.now) [] in
    written_there (layout_columns c.args.layout.now) all c.images.rest.now c.images.to c.images.invariant.written some none

pub put_image-rest-requires-clause-room : goal.put_image-rest-requires-clause-room
put_image-rest-requires-clause-room g c = c.images.invariant.written.within

pub images-smaller : goal.images-smaller
images-smaller g c =
    let len : image_len_of (layout_columns c.args.layout.now) c.images.rest.now ≡ Some c.in-Some.len = sym (c.len_up_to.ensures.exact _ c.images.invariant.stored) ∙ c.in-Some.is in
    let one : OneImage (layout_columns c.args.layout.now) c.images.rest.now c.in-Some.len = one_image _ _ _ (some_columns c.args.layout.now) len in
    omega (arith, one.positive, one.within, c.put_image-rest.ensures.left)

pub images-preserved : goal.images-preserved
images-preserved g c =
    let len : image_len_of (layout_columns c.args.layout.now) c.images.rest.now ≡ Some c.in-Some.len = sym (c.len_up_to.ensures.exact _ c.images.invariant.stored) ∙ c.in-Some.is in
    let all = drop (length c.args.bytes.now) c.args.to.now ∷ unwrap_or (images_of (layout_columns c.args.layout.now) c.args.bytes.now) [] in
    record {
      stored = c.images.invariant.stored;
      small = c.images.invariant.small;
      written = c.put_image-rest.ensures.written (layout_columns c.args.layout.now) all (some_columns c.args.layout.now) len c.images.invariant.written;
    }

pub returns : goal.returns
returns g c =
    let none : length c.images.rest.now ≡ 0 = grind (arith, common_steps) in
    written_all (layout_columns c.args.layout.now) _ c.images.rest.now c.images.to c.images.invariant.written none
    ∙ reversed_before (drop (length c.args.bytes.now) c.args.to.now) (unwrap_or (images_of (layout_columns c.args.layout.now) c.args.bytes.now) [])
