use Rattle.std.proofs.Common.{[], ◌∷◌, None, refl, ap, ◌∙◌}
use Rattle.std.proofs.lemmas.Result.{err_from_is_err_and}
use Rattle.jiff.specs.Words.{plain_zone}
use Rattle.blog_event.specs.code.LogView.{log_bytes}
use Rattle.blog_source.specs.code.SourceView.{damaged_of}
use Rattle.blog_list.specs.Shown.{log_list}
use Rattle.blog_list.specs.declared.listing.Sorting.{Sorting}
use Rattle.blog_list.specs.code.Told.{source_place}
use Rattle.blog_list.specs.code.WriterView.{form_of, gtids_of, heading_of, zone_of}
use Rattle.blog_list.proofs.Whole.{headed, list-begun, list-broken, list-left, list-unbegun, list-whole, sorted-begun, sorted-counts, sorted-listed, totals-of-one}
use Rattle.blog_list.proofs.listing.list_opened.Goals as goal

pub returns-in_err-list-clause-beginning : goal.returns-in_err-list-clause-beginning
returns-in_err-list-clause-beginning g c =
    let p = err_from_is_err_and c.from_residual.result c.from_residual.ensures.1 in
    rw p.1 (list-unbegun _ _ _ (log_list None c.args.style.now.sorting c.args.wanted.now (log_bytes c.args.log.now) (source_place c.args.source.now) (damaged_of c.args.source.now) ∷ []) _)

pub returns-in_err-put_header-clause-beginning : goal.returns-in_err-put_header-clause-beginning
returns-in_err-put_header-clause-beginning g c =
    let p = err_from_is_err_and c.from_residual-in_err-put_header.result c.from_residual-in_err-put_header.ensures.1 in
    rw p.1 (list-unbegun _ _ _ (log_list None c.args.style.now.sorting c.args.wanted.now (log_bytes c.args.log.now) (source_place c.args.source.now) (damaged_of c.args.source.now) ∷ []) _)

pub returns-in_err-whole-clause-beginning : goal.returns-in_err-whole-clause-beginning
returns-in_err-whole-clause-beginning g c =
    let p = err_from_is_err_and c.from_residual-in_err-whole.result c.from_residual-in_err-whole.ensures.1 in
    let same = ap (λ (s : Sorting). log_list None s c.args.wanted.now (log_bytes c.args.log.now) (source_place c.args.source.now) (damaged_of c.args.source.now)) c.in_ok-list.ensures.sorting in
    let front = headed c.args.style.now.form (form_of c.in_ok-list.list) (plain_zone c.args.style.now.zone) (zone_of c.in_ok-list.list) c.args.style.now.gtids (gtids_of c.in_ok-list.list) (heading_of c.in_ok-list.list) _ _
    c.in_ok-list.ensures.form c.in_ok-list.ensures.zone c.in_ok-list.ensures.gtids c.in_ok-list.ensures.heading c.new-text.ensures.items c.in_ok-put_header.ensures in
    rw p.1 (list-begun _ _ _ _ _ _ _ _ _ _ _ front (sorted-begun _ _ _ _ _ _ _ _ _ same c.in_err-whole.ensures.beginning))

pub returns-in_err-put_totals-clause-beginning : goal.returns-in_err-put_totals-clause-beginning
returns-in_err-put_totals-clause-beginning g c =
    let p = err_from_is_err_and c.from_residual-in_err-put_totals.result c.from_residual-in_err-put_totals.ensures.1 in
    let same = ap (λ (s : Sorting). log_list None s c.args.wanted.now (log_bytes c.args.log.now) (source_place c.args.source.now) (damaged_of c.args.source.now)) c.in_ok-list.ensures.sorting in
    let front = headed c.args.style.now.form (form_of c.in_ok-list.list) (plain_zone c.args.style.now.zone) (zone_of c.in_ok-list.list) c.args.style.now.gtids (gtids_of c.in_ok-list.list) (heading_of c.in_ok-list.list) _ _
    c.in_ok-list.ensures.form c.in_ok-list.ensures.zone c.in_ok-list.ensures.gtids c.in_ok-list.ensures.heading c.new-text.ensures.items c.in_ok-put_header.ensures in
    rw p.1 (list-left _ _ _ _ _ _ _ _ _ _ _ _ front (sorted-listed _ _ _ _ _ _ _ _ _ _ same c.in_ok-whole.ensures.text))

pub returns-in_err-put-clause-beginning : goal.returns-in_err-put-clause-beginning
returns-in_err-put-clause-beginning g c =
    let p = err_from_is_err_and c.from_residual-in_err-put.result c.from_residual-in_err-put.ensures.1 in
    let same = ap (λ (s : Sorting). log_list None s c.args.wanted.now (log_bytes c.args.log.now) (source_place c.args.source.now) (damaged_of c.args.source.now)) c.in_ok-list.ensures.sorting in
    let front = headed c.args.style.now.form (form_of c.in_ok-list.list) (plain_zone c.args.style.now.zone) (zone_of c.in_ok-list.list) c.args.style.now.gtids (gtids_of c.in_ok-list.list) (heading_of c.in_ok-list.list) _ _
    c.in_ok-list.ensures.form c.in_ok-list.ensures.zone c.in_ok-list.ensures.gtids c.in_ok-list.ensures.heading c.new-text.ensures.items c.in_ok-put_header.ensures in
    let counted = totals-of-one _ _ _ _ _ c.in_ok-list.ensures.form refl refl refl refl refl (sorted-counts _ _ _ _ same c.in_ok-whole.ensures.counted) in
    rw p.1 (list-broken _ _ _ _ _ _ _ _ _ _ _ _ _ _ _ front (sorted-listed _ _ _ _ _ _ _ _ _ _ same c.in_ok-whole.ensures.text) (c.deref.ensures.value ∙ c.in_ok-put_totals.ensures) counted c.in_err-put.ensures.beginning)

pub returns-clause-text : goal.returns-clause-text
returns-clause-text g c =
    let same = ap (λ (s : Sorting). log_list None s c.args.wanted.now (log_bytes c.args.log.now) (source_place c.args.source.now) (damaged_of c.args.source.now)) c.in_ok-list.ensures.sorting in
    let front = headed c.args.style.now.form (form_of c.in_ok-list.list) (plain_zone c.args.style.now.zone) (zone_of c.in_ok-list.list) c.args.style.now.gtids (gtids_of c.in_ok-list.list) (heading_of c.in_ok-list.list) _ _
    c.in_ok-list.ensures.form c.in_ok-list.ensures.zone c.in_ok-list.ensures.gtids c.in_ok-list.ensures.heading c.new-text.ensures.items c.in_ok-put_header.ensures in
    let counted = totals-of-one _ _ _ _ _ c.in_ok-list.ensures.form refl refl refl refl refl (sorted-counts _ _ _ _ same c.in_ok-whole.ensures.counted) in
    list-whole _ _ _ _ _ _ _ _ _ _ _ _ _ _ _ front (sorted-listed _ _ _ _ _ _ _ _ _ _ same c.in_ok-whole.ensures.text) (c.deref.ensures.value ∙ c.in_ok-put_totals.ensures) counted c.in_ok-put.ensures.written
