use Rattle.std.proofs.Common.{◌∙◌, ap, sym, slice_set, refl}
use Rattle.std.proofs.lemmas.Option.{slice_get_read, slice_get_within}
use Rattle.blog_trans.specs.code.CountsView.{with_images}
use Rattle.blog_trans.proofs.CountsCode.{counts-more}
use Rattle.blog_trans.proofs.counts.Counts.count.Goals as goal

pub returns-clause-counts : goal.returns-clause-counts
returns-clause-counts g c = λ tables cs ts r are kind at images.
    let rows = c.reach.new.self.rows in
    let i = c.args.kept.now.table in
    let before = slice_get_read rows.items rows.len i c.index_mut.result.now rows.ok.0 c.in_ok-reach.ensures.reached c.index_mut.ensures.value in
    counts-more tables cs ts r i c.index_mut.result.now c.reach.new.self _ at before
    (ap (slice_set rows.items i) (c.add.ensures ∙ (λ k. with_images (sym kind k) (sym images k) c.index_mut.result.now))) refl
    (c.in_ok-reach.ensures.counts tables cs ts (slice_get_within tables i _ at) are)
