use Rattle.std.proofs.Common.{List, ℕ, subst}
use Rattle.blog_choice.specs.code.ChosenView.{names_choice}
use Rattle.blog_later.specs.Later.{later_units, touches_in}
use Rattle.blog_later.specs.code.LookedView.{left_before}
use Rattle.blog_source.specs.code.SourceView.{end_of, fault_of, log_of}
use Rattle.undo_run.specs.code.NamesView.{names_told}
use Rattle.undo_run.specs.code.SinceView.{IsLooked}
use Rattle.undo_run.proofs.seen.look_on.Goals as goal

pub returns : goal.returns
returns g c n ls seen =
    let kept = left_before c.args.left.now c.args.lists in
    let choice = names_choice c.args.names.now in
    let source = c.args.source.now in
    let looked = c.in_ok-looked.looked in
    let told = c.in_ok-looked.ensures in
    let is = subst (λ (handed : List ℕ). IsLooked (touches_in kept handed (later_units handed c.args.at)) choice (record { names = names_told c.args.logs.now; handed = handed; units = later_units handed c.args.at; end = end_of source; fault = fault_of source }) looked)
    c.requires (record { units = told.units; touched = told.touched; unknown = told.unknown; apart = told.apart }) in
    c.with.ensures n (touches_in kept (log_of source) (later_units (log_of source) c.args.at)) choice (later_units (log_of source) c.args.at) ls is seen
