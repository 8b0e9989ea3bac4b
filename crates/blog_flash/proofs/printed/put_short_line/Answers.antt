use Rattle.std.proofs.Common.{◌≡◌, ◌++◌, ◌-◌, ℕ, List, length, drop, option_map, ap, ◌∙◌, arith, length-append, length-drop}
use Rattle.std.specs.Fmt.{decimal}
use Rattle.std.proofs.lemmas.List.{length-take-le}
use Rattle.blog_flash.specs.Printed.{line, value_text}
use Rattle.blog_flash.proofs.ShortLines.{front-kept, lined}
use Rattle.blog_flash.proofs.printed.put_short_line.Goals as goal

pub returns-clause-ok : goal.returns-clause-ok
returns-clause-ok g c =
    let old = c.args.out.now.items in
    let now = c.deref_mut.result.now in
    let start = c.len-start.result in
    let value = value_text (option_map (λ bytes. bytes.now) c.args.value) in
    let there : start ≡ length old = omega (arith, c.len-start.ensures, c.args.out.now.ok.0) in
    let appended = c.deref_mut.ensures.value ∙ c.in_ok-put_text.ensures.ok in
    let whole = simp length-append at (ap length appended) in
    let behind = length-drop start now in
    let part = length-take-le (length now - start) (drop start now) (omega (arith, behind)) in
    let written = c.write_value-len.ensures.written ∙ ap (λ (front : List ℕ). front ++ line value) c.write_column-at.ensures.written ∙ lined (decimal c.args.n) value in
    c.truncate.ensures.items
    ∙ front-kept old _ now c.write_value-len.new.text _ start c.write_value-len.result c.put_text.new.out.len _ there appended
    (omega (arith, whole, there, c.deref_mut.ensures.len, c.write_value-len.ensures.within, c.write_column-at.ensures.short))
    (omega (arith, whole, there, behind, part, c.write_value-len.ensures.len, c.write_column-at.ensures.len, c.write_value-len.ensures.within, c.write_column-at.ensures.short))
    ∙ ap (λ (text : List ℕ). old ++ text) written
