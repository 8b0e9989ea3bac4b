use Rattle.std.proofs.Common.{◌≡◌, ℕ, arith, length, subst}
use Rattle.std.proofs.lemmas.Result.{on_ok_weaker}
use Rattle.blog_list.specs.Columns.{IsPadded}
use Rattle.blog_list.proofs.column.TimeColumn.put_time.Goals as goal

pub returns : goal.returns
returns g c =
    let long : c.len.result ≡ length c.args.self.now.heading.items = omega (arith, c.len.ensures) in
    on_ok_weaker c.put_padded.result
    (λ put. (
      c.as_bytes.result.now,
      rw (c.as_bytes.ensures.value, c.as_str.ensures.value) c.time_text.ensures,
      subst (λ (n : ℕ). IsPadded n c.args.out.now.items c.as_bytes.result.now c.put_padded.new.out.items) long put,
    ))
    c.put_padded.ensures
