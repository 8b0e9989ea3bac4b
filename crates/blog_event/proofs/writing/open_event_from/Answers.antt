-- `resize` cuts nothing off, and fills up to the end of the body.
use Rattle.std.proofs.Common.{◌≡◌, ◌+◌, ◌-◌, ◌++◌, ◌≤◌, length, take, replicate, sym, arith}
use Rattle.std.proofs.lemmas.List.{length-replicate, take_all}
use Rattle.blog_event.proofs.Headers.{head_and_body}
use Rattle.blog_event.proofs.writing.open_event_from.Goals as goal

pub returns-clause-ok : goal.returns-clause-ok
returns-clause-ok g c =
    let sizes = c.put_header.new.out.ok.0 in
    let end = c.len-body.result + c.args.body_len in
    let within : length c.put_header.new.out.items ≤ end = omega arith in
    let kept = take_all end c.put_header.new.out.items within in
    let more : end - c.put_header.new.out.len ≡ c.args.body_len = omega arith in
    let filled : c.resize.new.self.items ≡ take end c.put_header.new.out.items ++ replicate (end - c.put_header.new.out.len) 0 = rw c.unwrap.ensures at c.resize.ensures.items in
    let behind : c.resize.new.self.items ≡ c.put_header.new.out.items ++ replicate c.args.body_len 0 = rw (kept, more) at filled in
    head_and_body _ _ _ _ c.args.header _ _ (sym (length-replicate c.args.body_len 0)) c.in_ok-put_header.ensures.ok behind
