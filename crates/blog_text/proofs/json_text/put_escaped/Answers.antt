use Rattle.std.proofs.Common.{sym, ◌∙◌}
use Rattle.blog_text.proofs.JsonBytes.{escape-put, run-put}
use Rattle.blog_text.proofs.json_text.put_escaped.Goals as goal

pub bytes-preserved-then-is_escaped : goal.bytes-preserved-then-is_escaped
bytes-preserved-then-is_escaped g c =
    escape-put c.in-Some.first.now c.in-Some.later.now c.bytes.rest.now c.bytes.out.items c.put_escape.new.out.items _
    c.in-Some.ensures.cases.0 (sym c.is_escaped.ensures ∙ c.if-is_escaped.true)
    c.in_ok-put_escape.ensures
    c.bytes.invariant

pub bytes-preserved : goal.bytes-preserved
bytes-preserved g c =
    run-put c.literal_len.result c.bytes.rest.now c.split_at.result.0.now c.split_at.result.1.now c.bytes.out.items c.put_text.new.out.items _
    c.literal_len.ensures.all c.split_at.ensures.front c.split_at.ensures.back c.in_ok-put_text.ensures c.bytes.invariant
