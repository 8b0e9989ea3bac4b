use Rattle.std.proofs.Common.{List, ℕ, [], ap, map, subst, sym, ◌∙◌}
use Rattle.blog_choice.specs.code.ChosenView.{names_choice}
use Rattle.blog_later.specs.Among.{from_first, others_of, touches_by}
use Rattle.blog_later.specs.Later.{later_units}
use Rattle.blog_later.specs.code.LookedView.{left_before}
use Rattle.blog_source.specs.code.SourceView.{end_of, fault_of, log_of}
use Rattle.undo_run.specs.code.NamesView.{names_told}
use Rattle.undo_run.specs.code.SinceView.{IsLooked}
use Rattle.undo_run.proofs.seen.look_between.Goals as goal

pub returns : goal.returns
returns g c p same =
    let lefts = left_before c.args.left.now in
    let choice = names_choice c.args.names.now in
    let source = c.args.source.now in
    let looked = c.in_ok-looked.looked in
    let told = c.in_ok-looked.ensures p (same ∙ ap (λ (handed : List ℕ). map p (later_units handed c.args.at)) (sym c.requires)) in
    let is = subst (λ (handed : List ℕ). IsLooked (touches_by lefts p handed 0 (from_first p (later_units handed c.args.at))) choice
    (record { names = names_told c.args.logs.now; handed = handed; units = others_of p (from_first p (later_units handed c.args.at)); end = end_of source; fault = fault_of source }) looked)
    c.requires (record { units = told.units; touched = told.touched; unknown = told.unknown; apart = told.apart }) in
    c.with.ensures 0 (touches_by lefts p (log_of source) 0 (from_first p (later_units (log_of source) c.args.at))) choice (others_of p (from_first p (later_units (log_of source) c.args.at))) [] is (c.none.ensures choice)
