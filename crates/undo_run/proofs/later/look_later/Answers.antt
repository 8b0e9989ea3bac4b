use Rattle.std.proofs.Common.{◌≡◌, ℕ, ◌+◌, List, [], ◌∷◌, map, None, ap, subst, ◌∙◌}
use Rattle.blog_choice.specs.Choice.{Choice, Name}
use Rattle.blog_choice.specs.code.ChosenView.{names_choice}
use Rattle.blog_choice.specs.code.Views.{name_value}
use Rattle.blog_later.specs.Later.{later_units, touches_in}
use Rattle.blog_later.specs.Prints.{AreKept, Left, left_of}
use Rattle.blog_later.specs.code.LookedView.{left_before}
use Rattle.blog_source.specs.code.SourceView.{end_of, fault_of, log_of}
use Rattle.blog_trans.specs.Changes.{changes, counts_of}
use Rattle.blog_trans.specs.Groups.{groups}
use Rattle.blog_trans.specs.Selection.{selection_of}
use Rattle.undo_run.specs.Parts.{part_taken, selection_in, stop_in}
use Rattle.undo_run.specs.Taken.{tables_named, tables_taken}
use Rattle.undo_run.specs.code.NamesView.{names_told}
use Rattle.undo_run.specs.code.SinceView.{AreSeen}
use Rattle.undo_run.proofs.Counted.{part-counts}
use Rattle.undo_run.proofs.later.look_later.Goals as goal

pub returns : goal.returns
returns g c =
    let source = c.args.source.now in
    let part = selection_of c.args.part.now in
    let handed = log_of source in
    let sel = selection_in part handed in
    let t = part_taken (names_told c.args.logs.now) part handed (end_of source) (fault_of source) in
    let kept : Left = left_before c.in_ok-left.left 1 in
    let choice : Choice = names_choice c.in_ok-names.names in
    let as_choice : List Name → Choice = λ names. record { database = None; tables = names; excluded = [] } in
    let named : choice ≡ tables_taken t =
    c.in_ok-names.ensures ∙ ap (λ names. as_choice (map name_value names)) c.deref.ensures.value ∙ ap as_choice c.in_ok-tables.ensures
    ∙ (λ i. tables_named (counts_of (groups (c.requires.bytes i) (c.requires.selection i)))) in
    let same : AreKept (left_of (changes handed sel)) kept = subst (λ (left : Left). AreKept left kept) (λ i. left_of (changes (c.requires.bytes i) (c.requires.selection i))) c.in_ok-left.ensures in
    let first : AreSeen (0 + touches_in kept handed (later_units handed (stop_in part handed))) choice (t.rest ∷ []) c.in_ok-rest.rest =
    subst (λ (at : ℕ). AreSeen (0 + touches_in kept handed (later_units handed at)) choice (record { names = names_told c.args.logs.now; handed = handed; units = later_units handed at; end = end_of source; fault = fault_of source } ∷ []) c.in_ok-rest.rest)
    c.stop_in.ensures (c.in_ok-rest.ensures 0 [] (c.none.ensures choice)) in
    c.look_further.ensures t (0 + touches_in kept handed t.rest.units) named first (part-counts kept (changes handed sel) t.rest same)
