use Rattle.std.proofs.Common.{List, ℕ, ◌++◌, ap, subst, ◌∙◌}
use Rattle.std.specs.Prelude.{OnErr, OnOk}
use Rattle.std.specs.Io.KnownBytes.{Appends}
use Rattle.blog_device.specs.Devices.{AppendsBeginning}
use Rattle.blog_device.specs.Watched.{device_of}
use Rattle.blog_list.specs.code.Totals.{totals_put}
use Rattle.blog_list.specs.code.WriterView.{form_of}
use Rattle.blog_list.proofs.OnTheWay.{totals-are}
use Rattle.blog_list.proofs.list_writer.ListWriter.write_totals.Goals as goal

pub returns-clause-text : goal.returns-clause-text
returns-clause-text g c ls are =
    let held = c.in_ok-put_totals.ensures ∙ ap (λ (front : List ℕ). front ++ totals_put (form_of c.args.self.now) c.args.totals.now) c.new-text.ensures.items ∙ totals-are (form_of c.args.self.now) c.args.totals.now ls are in
    subst (λ (bytes : List ℕ). OnOk c.put.result (Appends (g.O.Write.contents (device_of c.args.writer.now)) (g.O.Write.contents (device_of c.put.new.writer)) bytes)) (c.deref.ensures.value ∙ held) c.put.ensures.written

pub returns-clause-beginning : goal.returns-clause-beginning
returns-clause-beginning g c ls are =
    let held = c.in_ok-put_totals.ensures ∙ ap (λ (front : List ℕ). front ++ totals_put (form_of c.args.self.now) c.args.totals.now) c.new-text.ensures.items ∙ totals-are (form_of c.args.self.now) c.args.totals.now ls are in
    subst (λ (bytes : List ℕ). OnErr c.put.result (AppendsBeginning (g.O.Write.contents (device_of c.args.writer.now)) (g.O.Write.contents (device_of c.put.new.writer)) bytes)) (c.deref.ensures.value ∙ held) c.put.ensures.beginning
