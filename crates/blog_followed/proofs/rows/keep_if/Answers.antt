use Rattle.std.proofs.Common.{IsOk, refl, ◌++◌, [], List, sym, ap, ◌∙◌, subst}
use Rattle.std.proofs.lemmas.Bool.{cond-true}
use Rattle.blog_trans.specs.Changes.{Change}
use Rattle.blog_followed.specs.code.FollowedView.{kept_in}
use Rattle.blog_followed.proofs.OneRow.{on-ok}
use Rattle.blog_followed.proofs.rows.keep_if.Goals as goal

pub keep-requires : goal.keep-requires
keep-requires g c = subst IsOk (sym c.args.table.now.known) refl

pub returns-then-keeps : goal.returns-then-keeps
returns-then-keeps g c =
    on-ok c.keep.result _ _ (λ put. put ∙ ap (λ (ds : List Change). kept_in c.args.kept.now ++ ds) (sym (cond-true c.args.keeps _ [] c.if-keeps.true))) c.keep.ensures
