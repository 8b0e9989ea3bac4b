use Rattle.std.proofs.Common.{◌≡◌, ◌+◌, ◌++◌, ◌∷◌, [], List, ℕ, ap, subst, sym, ◌∙◌}
use Rattle.blog_choice.specs.code.ChosenView.{names_choice}
use Rattle.blog_device.specs.Watched.{device_of}
use Rattle.blog_event.specs.code.LogView.{log_bytes}
use Rattle.blog_later.specs.Later.{changes_in, later_units, touches_in}
use Rattle.blog_later.specs.code.LookedView.{left_before}
use Rattle.blog_source.specs.code.SourceView.{log_of}
use Rattle.undo_run.specs.Several.{Names, one_name}
use Rattle.undo_run.specs.code.Leaves.{Records}
use Rattle.undo_run.specs.code.SinceView.{AreSeen, later_of}
use Rattle.undo_run.specs.code.Tracks.{Tracks}
use Rattle.undo_run.proofs.InTurn.{one-looked, records-one}
use Rattle.undo_run.proofs.later.look_into.Goals as goal

pub returns : goal.returns
returns g c m ls seen =
    let kept = left_before c.args.left.now c.args.lists in
    let choice = names_choice c.args.names.now in
    let since = c.in_ok-look_on.field-0 in
    let source = c.in-Ok.source in
    let had = c.args.tracked.now in
    let has = c.track_if.new.tracked in
    let here : log_bytes c.with_seed-log.result ≡ log_of source = c.with_seed-log.ensures.bytes ∙ c.in-Ok-open.ensures.bytes ∙ c.bytes.ensures in
    let l = later_of (one_name c.args.given.name.now) source (later_units (log_of source) 0) in
    one-looked g.row.A.Denot g.L.Read.remaining c.args.n c.args.given kept choice m ls (Records c.args.records kept had has) (g.L.Read.remaining (device_of c.open_log.new.reader)) source since c.in-Ok.ensures.opens
    (subst (λ (names : Names). AreSeen (m + touches_in kept (log_of source) (later_units (log_of source) 0)) choice (ls ++ later_of names source (later_units (log_of source) 0) ∷ []) since) (c.one-logs.ensures ∙ ap one_name c.as_bytes.ensures.value)
    (c.in_ok-look_on.ensures m ls seen))
    (records-one c.args.records kept had has l (λ asked.
    subst (λ (k : ℕ). Tracks (left_before c.args.left.now k).rows (changes_in (log_of source) (later_units (log_of source) 0)) had has) (sym (c.requires asked))
    (subst (λ (bytes : List ℕ). Tracks (left_before c.args.left.now 4294967295).rows (changes_in bytes (later_units bytes 0)) had has) here (c.in_ok-track_if.ensures asked))))
