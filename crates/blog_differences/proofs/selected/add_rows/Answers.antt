use Rattle.std.proofs.Common.{◌≡◌, ℕ, Bool, List, [], length, take, drop, true, sym, ap, ◌∙◌}
use Rattle.blog_later.specs.code.EventChanges.{event_changes}
use Rattle.blog_pairs.proofs.Tabled.{group_long}
use Rattle.blog_pairs.specs.Steps.{pairs_with, unmarked}
use Rattle.blog_pairs.specs.code.TableView.{pairs_told}
use Rattle.blog_trans.specs.code.GroupEventsView.{event_seen}
use Rattle.blog_trans.specs.declared.group_events.GroupEvent.TheVariants as given
use Rattle.blog_differences.proofs.Adding.{all_marked, unmarked_own}
use Rattle.blog_differences.proofs.selected.add_rows.Goals as goal

pub add_selected_rows-requires-clause-each : goal.add_selected_rows-requires-clause-each
add_selected_rows-requires-clause-each g c = c.split_at.ensures.front_len ∙ c.row_count-count.ensures ∙ sym (group_long c.args.group.now c.requires)

pub returns-clause-pairs : goal.returns-clause-pairs
returns-clause-pairs g c =
    let cs = event_changes (event_seen (given.Rows c.args.group.now)) in
    let marks = c.args.marks.now in
    let count : c.row_count-count.result ≡ length cs = c.row_count-count.ensures ∙ sym (group_long c.args.group.now c.requires) in
    c.in_ok-add_selected_rows.ensures
    ∙ ap (λ own. pairs_with true (unmarked own cs) (pairs_told c.args.table.now)) (c.split_at.ensures.front ∙ ap (λ (n : ℕ). take n marks) count)
    ∙ ap (λ xs. pairs_with true xs (pairs_told c.args.table.now)) (unmarked_own marks cs)

-- all its rows are marked
pub returns-then-are_all_marked-clause-pairs : goal.returns-then-are_all_marked-clause-pairs
returns-then-are_all_marked-clause-pairs g c =
    let cs = event_changes (event_seen (given.Rows c.args.group.now)) in
    let marks = c.args.marks.now in
    let count : c.row_count-count.result ≡ length cs = c.row_count-count.ensures ∙ sym (group_long c.args.group.now c.requires) in
    let own = ap (λ (n : ℕ). take n marks) (sym count) ∙ sym c.split_at.ensures.front in
    let none : unmarked marks cs ≡ [] =
    sym (unmarked_own marks cs) ∙ ap (λ (front : List Bool). unmarked front cs) own
    ∙ all_marked c.split_at.result.0.now cs (sym c.are_all_marked.ensures ∙ c.if-are_all_marked.true) (c.split_at.ensures.front_len ∙ count) in
    ap (λ xs. pairs_with true xs (pairs_told c.args.table.now)) (sym none)

pub returns-then-are_all_marked-clause-others : goal.returns-then-are_all_marked-clause-others
returns-then-are_all_marked-clause-others g c =
    c.split_at.ensures.back ∙ ap (λ (n : ℕ). drop n c.args.marks.now) (c.row_count-count.ensures ∙ sym (group_long c.args.group.now c.requires))

pub returns-clause-others : goal.returns-clause-others
returns-clause-others g c =
    c.split_at.ensures.back ∙ ap (λ (n : ℕ). drop n c.args.marks.now) (c.row_count-count.ensures ∙ sym (group_long c.args.group.now c.requires))
