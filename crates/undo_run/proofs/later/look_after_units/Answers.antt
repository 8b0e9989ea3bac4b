use Rattle.std.proofs.Common.{◌≡◌, ◌+◌, List, [], map, None, ap, ◌∙◌, arith}
use Rattle.blog_choice.specs.Choice.{Choice, Name}
use Rattle.blog_choice.specs.code.ChosenView.{names_choice}
use Rattle.blog_choice.specs.code.Views.{name_value}
use Rattle.blog_later.specs.Among.{touches_by}
use Rattle.blog_later.specs.code.LookedView.{left_before}
use Rattle.blog_source.specs.code.SourceView.{end_of, fault_of, log_of}
use Rattle.blog_trans.specs.Changes.{counts_of}
use Rattle.blog_trans.specs.Groups.{groups}
use Rattle.blog_trans.specs.Selection.{selection_of}
use Rattle.undo_run.specs.Taken.{tables_named, tables_taken}
use Rattle.undo_run.specs.Units.{chosen_taken, chosen_units, units_on}
use Rattle.undo_run.specs.code.NamesView.{names_told}
use Rattle.undo_run.specs.code.Steps.{chosen_by, chosen_changes}
use Rattle.undo_run.proofs.Counted.{units-count}
use Rattle.undo_run.proofs.later.look_after_units.Goals as goal

pub returns : goal.returns
returns g c =
    let source = c.args.source.now in
    let sel = selection_of c.args.inside.now in
    let handed = log_of source in
    let p = chosen_by c.args.among.now sel handed in
    let t = chosen_taken (names_told c.args.logs.now) p sel handed (end_of source) (fault_of source) in
    let left = c.sorted-left.result in
    let choice : Choice = names_choice c.in_ok-names.names in
    let as_choice : List Name → Choice = λ names. record { database = None; tables = names; excluded = [] } in
    let named : choice ≡ tables_taken t =
    c.in_ok-names.ensures ∙ ap (λ names. as_choice (map name_value names)) c.deref.ensures.value ∙ ap as_choice c.in_ok-tables.ensures
    ∙ (λ i. tables_named (counts_of (groups (c.requires.kept i) (c.requires.selection i)))) in
    let css = chosen_changes sel handed (chosen_units p sel handed) in
    let few = c.requires.left.few in
    c.look_further.ensures t (0 + touches_by (left_before left) p handed 0 (units_on p sel handed)) named (c.in_ok-rest.ensures p c.requires.chosen)
    (units-count (left_before left) 4294967295 p sel handed (c.sorted-left.ensures css c.requires.left) (omega (arith, few)))
