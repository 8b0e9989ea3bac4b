use Rattle.std.proofs.Common.{◌∷◌, ◌∙◌, ap, sym, subst, inl, reverse}
use Rattle.blog_trans.specs.Places.{since}
use Rattle.blog_trans.specs.Groups.{kept_rows}
use Rattle.blog_trans.specs.code.Progress.{progress}
use Rattle.blog_trans.specs.code.TablesView.{tables_known}
use Rattle.blog_trans.specs.code.CheckerView.{HasChecked}
use Rattle.blog_trans.specs.code.BuilderView.{placed}
use Rattle.blog_trans.proofs.BuilderSteps.{keeps-grown, open-rows-event, as-open, no-used, taken, walks-rows, walks-last}
use Rattle.blog_trans.proofs.builder.IndexBuilder.take_rows.Goals as goal

pub returns-in_ok-close-clause-walks : goal.returns-in_ok-close-clause-walks
returns-in_ok-close-clause-walks g c = λ sel earlier w.
    let p = placed c.args.event.now in
    let before = progress sel earlier in
    let j = c.in_ok-kept.ensures.checked sel earlier w.checker in
    let there = open-rows-event sel earlier p c.args.kind c.requires.kind (j.0, w.passed) in
    let keeps = as-open before there.0 _ there.1 (keeps-grown before c.args.self.now c.take_rows.new.self (inl (ap tables_known c.in_ok-kept.ensures.layouts)) w.keeps) in
    let kept = c.in_ok-keep.ensures.kept before.done there.0 (kept_rows sel (reverse (since earlier)) p) j.3 keeps in
    let now = taken c.args.self.now sel earlier p (j.0, w.passed) c.args.kind there.0 c.requires.kind there.1 in
    let closed = c.in_ok-close.ensures.kept sel (p ∷ since earlier) (p ∷ earlier) before.done now
    (subst (HasChecked sel (p ∷ since earlier) (p ∷ earlier)) (sym c.in_ok-keep.ensures.checker) j.1) (no-used sel earlier p there.0 (j.0, w.passed) there.1) kept in
    (j.0, walks-last c.close.new.self sel earlier p (j.0, w.passed) c.args.kind there.0 c.requires.kind there.1 (j.2 ∙ c.if-last.true) closed.0 closed.1)

pub returns-else-last-clause-walks : goal.returns-else-last-clause-walks
returns-else-last-clause-walks g c = λ sel earlier w.
    let p = placed c.args.event.now in
    let before = progress sel earlier in
    let j = c.in_ok-kept.ensures.checked sel earlier w.checker in
    let there = open-rows-event sel earlier p c.args.kind c.requires.kind (j.0, w.passed) in
    let keeps = as-open before there.0 _ there.1 (keeps-grown before c.args.self.now c.take_rows.new.self (inl (ap tables_known c.in_ok-kept.ensures.layouts)) w.keeps) in
    let knows = subst (HasChecked sel (p ∷ since earlier) (p ∷ earlier)) (sym c.in_ok-keep.ensures.checker) j.1 in
    let kept = c.in_ok-keep.ensures.kept before.done there.0 (kept_rows sel (reverse (since earlier)) p) j.3 keeps in
    (j.0, walks-rows c.keep.new.self sel earlier p (j.0, w.passed) c.args.kind there.0 c.requires.kind there.1 (j.2 ∙ c.if-last.false) knows kept)
