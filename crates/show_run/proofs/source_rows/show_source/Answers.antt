use Rattle.std.proofs.Common.{◌≡◌, ◌++◌, ℕ, List, map, Option, ap, subst, ◌∙◌}
use Rattle.std.specs.Prelude.{option_copied}
use Rattle.std.specs.Io.KnownBytes.{Appends}
use Rattle.blog_choice.specs.code.Views.{choice_value}
use Rattle.blog_device.specs.Watched.{device_of}
use Rattle.blog_event.specs.code.LogView.{log_bytes}
use Rattle.blog_list.specs.code.Told.{source_place}
use Rattle.blog_request.specs.declared.wanted.Wanted.{Wanted}
use Rattle.blog_source.specs.Places.{position_of}
use Rattle.blog_source.specs.code.SourceView.{end_of, log_of}
use Rattle.blog_units.specs.Units.{facts_of, units}
use Rattle.show_run.specs.Shown.{HasShown, above, shown_among}
use Rattle.show_run.proofs.Ending.{source-end}
use Rattle.show_run.proofs.Showing.{log-shown}
use Rattle.show_run.proofs.source_rows.show_source.Goals as goal

pub returns-clause-shown : goal.returns-clause-shown
returns-clause-shown g c =
    let handed : List ℕ = log_of c.args.source.now in
    let ps : List ℕ = map (position_of handed) c.args.asked.now.at.now in
    let had : Option (List ℕ) = g.W.Write.contents (device_of c.args.writer.now) in
    let mid : Option (List ℕ) = g.W.Write.contents (device_of c.show_units.new.writer) in
    let has : Option (List ℕ) = g.W.Write.contents (device_of c.put.new.writer) in
    let old : List ℕ = c.put_above.new.out.items in
    let new : List ℕ = c.show_units.new.page.text.items in
    let named : old ≡ above c.args.style.now.form (option_copied c.args.name) = c.in_ok-put_above.ensures ∙ ap (λ (text : List ℕ). text ++ above c.args.style.now.form (option_copied c.args.name)) c.clear.ensures.items in
    let read =
    subst (λ (log : List ℕ). HasShown c.args.style.now.form (choice_value c.wanted_inside-inside.result.choice) (source_place c.args.source.now) log (shown_among c.wanted_inside-inside.result ps log (map facts_of (units log))) had mid old new)
    c.in-Ok.ensures.bytes c.in_ok-units.ensures.shown in
    let held =
    subst (λ (w : Wanted). HasShown c.args.style.now.form (choice_value w.choice) (source_place c.args.source.now) handed (shown_among w ps handed (map facts_of (units handed))) had mid old new)
    c.wanted_inside-inside.ensures read in
    log-shown c.args.style.now.form (option_copied c.args.name) c.args.asked.now.wanted c.args.asked.now.at.now handed (end_of c.args.source.now) had mid has old new named held
    (subst (λ (text : List ℕ). Appends mid has text) c.deref.ensures.value c.in_ok-put.ensures.written)

pub returns-clause-end : goal.returns-clause-end
returns-clause-end g c =
    source-end c.args.source.now c.args.asked.now.wanted c.wanted_inside-inside.result (log_bytes c.in-Ok.log) _ _
    c.in-Ok.ensures.bytes c.wanted_inside-inside.ensures c.in_ok-units.ensures.end c.log_end-end.ensures
