use Rattle.std.proofs.Common.{List, ℕ, None, Some, ap, map, sym, ◌∙◌}
use Rattle.std.specs.Prelude.{option_map}
use Rattle.blog_source.specs.code.SourceView.{end_of, log_of}
use Rattle.undo_run.specs.After.{Place, place_at, place_in}
use Rattle.undo_run.specs.code.NamesView.{names_told}
use Rattle.undo_run.specs.code.SinceView.{place_seen}
use Rattle.undo_run.proofs.LookedAt.{first-none, mapped-first}
use Rattle.undo_run.proofs.seen.first_place.Goals as goal

pub returns-in-Some-first : goal.returns-in-Some-first
returns-in-Some-first g c ps first =
    let names = names_told c.args.logs.now in
    let source = c.args.source.now in
    first-none (Some (place_seen c.place-in-Some-first.result)) ps (map (place_at names (log_of source) (end_of source)) c.args.positions.now)
    (sym (ap (option_map place_seen) c.in-None.is) ∙ first)
    (ap Some (c.place-in-Some-first.ensures ∙ ap (place_in names) c.place.ensures)
    ∙ mapped-first (place_at names (log_of source) (end_of source)) c.args.positions.now c.in-Some-first.at.now c.in-Some-first.ensures.value)
