use Rattle.std.proofs.Common.{inl, inr, refl, subst, sym}
use Rattle.std.specs.Prelude.{OnErr, OnOk, option_copied}
use Rattle.std.proofs.lemmas.Result.{on_err_weaker, on_ok_weaker}
use Rattle.blog_choice.specs.code.ChosenView.{names_choice}
use Rattle.blog_device.specs.Watched.{device_of}
use Rattle.blog_event.specs.code.LogView.{log_bytes}
use Rattle.blog_list.specs.code.Ranked.{HasBroken, HasKept}
use Rattle.blog_list.specs.code.Told.{shown_told, source_place}
use Rattle.blog_list.specs.code.WriterView.{form_of, gtids_of}
use Rattle.blog_list.specs.declared.listing.Sorting.{Sorting}
use Rattle.blog_list.proofs.list_writer.ListWriter.keep_unit.Goals as goal

pub returns-in_ok-put_unit-in-Place-clause-text : goal.returns-in_ok-put_unit-in-Place-clause-text
returns-in_ok-put_unit-in-Place-clause-text g c =
    on_ok_weaker c.write_full.result
    (λ written. subst (λ (sorting : Sorting). HasKept sorting (form_of c.args.self.now) c.args.self.now.times (gtids_of c.args.self.now) (names_choice c.args.names.now) (option_copied c.args.name)
    (shown_told (log_bytes c.args.log.now) (source_place c.args.source.now) c.args.unit.now) (g.O.Write.contents (device_of c.args.writer.now)) (g.O.Write.contents (device_of c.write_full.new.writer))
    c.args.text.now.items c.write_full.new.text.items c.args.ranking.now c.args.ranking.now) (sym c.in-Place.is) (_, c.in_ok-put_unit-in-Place.ensures, written))
    c.write_full.ensures.written

pub returns-in_ok-put_unit-in-Place-clause-beginning : goal.returns-in_ok-put_unit-in-Place-clause-beginning
returns-in_ok-put_unit-in-Place-clause-beginning g c =
    on_err_weaker c.write_full.result
    (λ begun. subst (λ (sorting : Sorting). HasBroken sorting (form_of c.args.self.now) c.args.self.now.times (gtids_of c.args.self.now) (option_copied c.args.name)
    (shown_told (log_bytes c.args.log.now) (source_place c.args.source.now) c.args.unit.now) (g.O.Write.contents (device_of c.args.writer.now)) (g.O.Write.contents (device_of c.write_full.new.writer))
    c.args.text.now.items) (sym c.in-Place.is) (inr (_, c.in_ok-put_unit-in-Place.ensures, begun)))
    c.write_full.ensures.beginning
