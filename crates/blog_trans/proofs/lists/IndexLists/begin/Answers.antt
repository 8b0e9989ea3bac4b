use Rattle.std.proofs.Common.{◌++◌, ◌∷◌, [], refl, sym, ap, ◌∙◌, arith}
use Rattle.blog_trans.specs.code.Entries.{entry_at}
use Rattle.blog_trans.proofs.EntriesKept.{begun}
use Rattle.blog_trans.proofs.lists.IndexLists.begin.Goals as goal

pub returns-clause-kept : goal.returns-clause-kept
returns-clause-kept g c = λ done p at_pos holds.
    begun c.args.self.now _ done p (c.in_ok-push.ensures.items ∙ ap (λ n. c.args.self.now.entries.items ++ entry_at n 0 ∷ []) (sym at_pos)) refl refl (omega arith) (omega arith) (omega arith) holds
