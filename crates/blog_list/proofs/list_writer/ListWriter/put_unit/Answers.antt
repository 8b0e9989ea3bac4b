use Rattle.std.proofs.Common.{sym, ap, subst}
use Rattle.std.specs.Prelude.{option_copied}
use Rattle.std.proofs.lemmas.Result.{on_ok_weaker}
use Rattle.jiff.specs.Types.{TimeZone}
use Rattle.jiff.specs.Words.{plain_zone}
use Rattle.blog_event.specs.code.LogView.{log_bytes}
use Rattle.blog_list.specs.declared.listing.Form.{Form}
use Rattle.blog_list.specs.code.Told.{PutsJsonLine, PutsLineIn, shown_told, source_place}
use Rattle.blog_list.specs.code.WriterView.{gtids_of}
use Rattle.blog_list.proofs.list_writer.ListWriter.put_unit.Goals as goal

pub returns-in-Json : goal.returns-in-Json
returns-in-Json g c =
    let s = shown_told (log_bytes c.args.log.now) (source_place c.args.source.now) c.args.unit.now in
    on_ok_weaker c.put_unit-in-Json.result
    (λ puts. subst (λ (form : Form). PutsLineIn form c.args.self.now.times (gtids_of c.args.self.now) (option_copied c.args.name) s c.args.out.now.items c.put_unit-in-Json.new.out.items) (sym c.in-Json.is)
    (subst (λ (zone : TimeZone). PutsJsonLine zone (option_copied c.args.name) s c.args.out.now.items c.put_unit-in-Json.new.out.items) (ap plain_zone c.zone.ensures) puts))
    c.put_unit-in-Json.ensures
