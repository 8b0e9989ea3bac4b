use Rattle.std.proofs.Common.{◌++◌, ◌∷◌, [], refl, sym, ap, ◌∙◌, arith}
use Rattle.blog_trans.specs.code.Entries.{entry_at}
use Rattle.blog_trans.proofs.EntriesKept.{left_out, taken}
use Rattle.blog_trans.proofs.lists.IndexLists.end.Goals as goal

pub returns-then-len-statement-clause-kept : goal.returns-then-len-statement-clause-kept
returns-then-len-statement-clause-kept g c = λ done begin inside p at_pos holds.
    left_out c.args.self.now _ done begin inside p c.truncate.ensures.items refl refl (omega arith) holds

pub returns-clause-kept : goal.returns-clause-kept
returns-clause-kept g c = λ done begin inside p at_pos holds.
    taken c.args.self.now _ done begin inside p (c.in_ok-push.ensures.items ∙ ap (λ n. c.args.self.now.entries.items ++ entry_at n 0 ∷ []) (sym at_pos)) c.in_ok-push-2.ensures.items refl (λ e. omega arith) holds
