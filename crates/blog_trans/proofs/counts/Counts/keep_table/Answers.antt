use Rattle.std.proofs.Common.{◌∙◌, ap, sym, refl}
use Rattle.std.proofs.lemmas.Option.{same_Some, slice_get_read, slice_get_within}
use Rattle.blog_trans.specs.declared.counts.Count.{Count}
use Rattle.blog_trans.proofs.CountsCode.{counts-kept, counts-kept_again}
use Rattle.blog_trans.proofs.counts.Counts.keep_table.Goals as goal

pub returns-in_ok-push-clause-counts : goal.returns-in_ok-push-clause-counts
returns-in_ok-push-clause-counts g c = λ tables cs ts t at are.
    let rows = c.reach.new.self.rows in
    let i = c.args.table in
    let item = slice_get_read rows.items rows.len i c.index_mut.result.now rows.ok.0 c.in_ok-reach.ensures.reached c.index_mut.ensures.value in
    let read = slice_get_read rows.items rows.len i c.index.result.now rows.ok.0 c.in_ok-reach.ensures.reached c.index.ensures in
    counts-kept tables cs ts t i c.index_mut.result.now c.reach.new.self _ at item
    (ap (λ (count : Count). count.kept) (same_Some c.index_mut.result.now c.index.result.now (sym item ∙ read)) ∙ c.if-not-index.true)
    refl c.in_ok-push.ensures.items (c.in_ok-reach.ensures.counts tables cs ts (slice_get_within tables i t at) are)

pub returns-else-not-index-clause-counts : goal.returns-else-not-index-clause-counts
returns-else-not-index-clause-counts g c = λ tables cs ts t at are.
    let rows = c.reach.new.self.rows in
    let i = c.args.table in
    let item = slice_get_read rows.items rows.len i c.index.result.now rows.ok.0 c.in_ok-reach.ensures.reached c.index.ensures in
    counts-kept_again tables cs ts t i c.index.result.now c.reach.new.self _ at item c.if-not-index.false refl refl
    (c.in_ok-reach.ensures.counts tables cs ts (slice_get_within tables i t at) are)
