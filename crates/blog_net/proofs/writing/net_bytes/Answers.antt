use Rattle.std.proofs.Common.{ℕ, ◌<◌, List, ◌++◌, length, ap, ◌∙◌, arith}
use Rattle.blog_net.proofs.NetTexts.{front-long, text-put, text-refused}
use Rattle.blog_net.proofs.writing.net_bytes.Goals as goal

pub returns-then-len-clause-fault : goal.returns-then-len-clause-fault
returns-then-len-clause-fault g c =
    let same = c.in-Ok.ensures.items ∙ ap (λ (own : List ℕ). own ++ c.args.front.now) c.new-out.ensures.items in
    let long : 4294967295 < length c.args.front.now = omega (arith, c.if-len.true, c.len.ensures, ap length same, c.extend_from_slice.new.self.ok.0) in
    front-long c.args.front.now c.args.begin.now c.args.end.now c.args.updates.now long

pub returns-in-Ok-put_transaction-clause-text : goal.returns-in-Ok-put_transaction-clause-text
returns-in-Ok-put_transaction-clause-text g c =
    let same = c.in-Ok.ensures.items ∙ ap (λ (own : List ℕ). own ++ c.args.front.now) c.new-out.ensures.items in
    text-put c.extend_from_slice.new.self.items c.put_transaction.new.out.items c.args.front.now c.args.begin.now c.args.end.now c.args.updates.now same c.in-Ok-put_transaction.ensures

pub returns-in-Err-clause-fault : goal.returns-in-Err-clause-fault
returns-in-Err-clause-fault g c =
    let same = c.in-Ok.ensures.items ∙ ap (λ (own : List ℕ). own ++ c.args.front.now) c.new-out.ensures.items in
    text-refused c.extend_from_slice.new.self.items c.args.front.now c.args.begin.now c.args.end.now c.args.updates.now c.in-Err.fault same c.in-Err.ensures
