use Rattle.std.proofs.Common.{List, ℕ, [], ◌∷◌, None, ap₂, subst}
use Rattle.std.proofs.lemmas.Result.{err_from_is_err_and}
use Rattle.jiff.specs.Words.{plain_zone}
use Rattle.blog_device.specs.Watched.{device_of}
use Rattle.blog_request.specs.declared.wanted.Wanted.{Wanted}
use Rattle.blog_source.specs.code.SourceView.{damaged_of}
use Rattle.blog_list.specs.Lines.{LogList}
use Rattle.blog_list.specs.Shown.{log_list}
use Rattle.blog_list.specs.Texts.{AppendsList, AppendsListBeginning}
use Rattle.blog_list.specs.code.Told.{source_place}
use Rattle.blog_list.proofs.listing.list_counted.Goals as goal

pub returns-in_err-whole-clause-beginning : goal.returns-in_err-whole-clause-beginning
returns-in_err-whole-clause-beginning g c =
    let p = err_from_is_err_and c.from_residual.result c.from_residual.ensures.1 in
    let same = ap₂ (λ (w : Wanted) (log : List ℕ). log_list None c.args.style.now.sorting w log (source_place c.args.source.now) (damaged_of c.args.source.now)) c.wanted_inside-inside.ensures c.in-Ok.ensures.bytes in
    rw p.1
    (subst (λ (l : LogList). AppendsListBeginning c.args.style.now.form (plain_zone c.args.style.now.zone) c.args.style.now.gtids (l ∷ []) (g.O.Write.contents (device_of c.args.writer.now)) (g.O.Write.contents (device_of c.list_opened.new.writer)))
    same c.in_err-whole.ensures.beginning)

pub returns-in-Some-clause-text : goal.returns-in-Some-clause-text
returns-in-Some-clause-text g c =
    let same = ap₂ (λ (w : Wanted) (log : List ℕ). log_list None c.args.style.now.sorting w log (source_place c.args.source.now) (damaged_of c.args.source.now)) c.wanted_inside-inside.ensures c.in-Ok.ensures.bytes in
    subst (λ (l : LogList). AppendsList c.args.style.now.form (plain_zone c.args.style.now.zone) c.args.style.now.gtids (l ∷ []) (g.O.Write.contents (device_of c.args.writer.now)) (g.O.Write.contents (device_of c.list_opened.new.writer)))
    same c.in_ok-whole.ensures.text

pub returns-in-None-clause-text : goal.returns-in-None-clause-text
returns-in-None-clause-text g c =
    let same = ap₂ (λ (w : Wanted) (log : List ℕ). log_list None c.args.style.now.sorting w log (source_place c.args.source.now) (damaged_of c.args.source.now)) c.wanted_inside-inside.ensures c.in-Ok.ensures.bytes in
    subst (λ (l : LogList). AppendsList c.args.style.now.form (plain_zone c.args.style.now.zone) c.args.style.now.gtids (l ∷ []) (g.O.Write.contents (device_of c.args.writer.now)) (g.O.Write.contents (device_of c.list_opened.new.writer)))
    same c.in_ok-whole.ensures.text
