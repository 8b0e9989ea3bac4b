use Rattle.std.proofs.Common.{◌≡◌, ℕ, ◌+◌, ◌-◌, take, drop, refl, sym, ap, subst, ◌∙◌, arith}
use Rattle.std.proofs.Math.Bool.{or-false}
use Rattle.std.proofs.lemmas.Result.{err_from_is_err_and}
use Rattle.blog_device.specs.Watched.{device_of}
use Rattle.blog_sql.specs.code.Adding.{Adds}
use Rattle.blog_sql.proofs.Adding.{adds-nothing}
use Rattle.blog_sql.proofs.Lines.{adds-line, line-broken, no-lines}
use Rattle.blog_sql.proofs.base64_lines.put_full_lines.Goals as goal

pub lines-init : goal.lines-init
lines-init g c =
    let had = g.W.Write.contents (device_of c.args.writer.now) in
    let held = c.args.chunk.now.items in
    record {
      adds = subst (Adds had had held held) (sym no-lines) (adds-nothing had held);
      within = omega arith;
      full = refl;
      capacity = omega arith;
      mark = refl;
    }

pub lines-preserved : goal.lines-preserved
lines-preserved g c =
    let is = ap (λ (k : ℕ). take k (drop c.lines.done c.args.bytes.now)) (let e : c.lines.done + 57 - c.lines.done ≡ 57 = omega arith in e) in
    record {
      adds = adds-line _ _ _ _ _ _ c.args.bytes.now _ c.lines.done c.lines.invariant.adds c.in_ok-put_full_line.ensures.adds is c.lines.invariant.full c.lines.invariant.within;
      within = omega arith;
      full = omega (arith, c.lines.invariant.full);
      capacity = omega (arith, c.lines.invariant.capacity, c.in_ok-put_full_line.ensures.capacity);
      mark = (rw or-false at c.in_ok-put_full_line.ensures.mark) ∙ c.lines.invariant.mark;
    }

pub returns-in_err-put_full_line-clause-beginning : goal.returns-in_err-put_full_line-clause-beginning
returns-in_err-put_full_line-clause-beginning g c =
    let p = err_from_is_err_and c.from_residual.result c.from_residual.ensures.1 in
    let is = ap (λ (k : ℕ). take k (drop c.lines.done c.args.bytes.now)) (let e : c.lines.done + 57 - c.lines.done ≡ 57 = omega arith in e) in
    rw p.1 (line-broken _ _ _ _ _ c.args.bytes.now _ c.lines.done c.lines.invariant.adds c.in_err-put_full_line.ensures.beginning is c.lines.invariant.full (omega arith))
