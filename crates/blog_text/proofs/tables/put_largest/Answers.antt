use Rattle.std.specs.Prelude.{min}
use Rattle.std.proofs.Common.{◌≡◌, ℕ, ◌<◌, List, ◌++◌, length, drop, sym, ap, subst, ◌∙◌, arith}
use Rattle.std.proofs.lemmas.Result.{on_ok_weaker}
use Rattle.blog_trans.specs.Changes.{TableCount}
use Rattle.blog_trans.specs.code.IndexView.{table_counted}
use Rattle.blog_text.specs.Tables.{counts_text, further_text, largest_first}
use Rattle.blog_text.specs.code.Counted.{counts_in}
use Rattle.blog_text.proofs.Largest.{first-shown, left-is, length-largest, next-kept, one-shown, others-counted, rest-counted}
use Rattle.blog_text.proofs.tables.put_largest.Goals as goal

pub further-init : goal.further-init
further-init g c =
    let all : List TableCount = largest_first (counts_in c.args.index.now) in
    let first = next-kept table_counted c.args.largest.now all 0 _ c.requires.largest (omega (arith, c.requires.some, c.requires.len)) in
    let left = left-is c.left_beside.result _ c.args.room c.unwrap_or-left.result c.left_beside.ensures c.unwrap_or-left.ensures in
    record {
      text = first-shown c.args.room c.unwrap_or-left.result c.args.out.now.items c.put_count.new.out.items all _ first c.in_ok-put_count.ensures left;
      room = omega (arith, left, c.requires.room);
    }

pub returns-in_default : goal.returns-in_default
returns-in_default g c =
    let counts : List TableCount = counts_in c.args.index.now in
    let all : List TableCount = largest_first counts in
    let tables : length all ≡ c.tables-tables.result = length-largest counts ∙ sym c.tables-tables.ensures in
    let some : c.further.n < c.tables-tables.result = omega (arith, c.further-test.true, c.requires.len, c.tables-tables.ensures) in
    let next = next-kept table_counted c.args.largest.now all c.further.n _ c.requires.largest c.further-test.true in
    on_ok_weaker c.put_more.result
    (λ put. others-counted c.further.out.items c.put_more.new.out.items _ c.further.left c.further.n c.tables-tables.result all _ some tables c.further.invariant.text next c.in_default.ensures put)
    c.put_more.ensures

pub further-preserved : goal.further-preserved
further-preserved g c =
    let counts : List TableCount = counts_in c.args.index.now in
    let all : List TableCount = largest_first counts in
    let tables : length all ≡ c.tables-tables.result = length-largest counts ∙ sym c.tables-tables.ensures in
    let next = next-kept table_counted c.args.largest.now all c.further.n _ c.requires.largest c.further-test.true in
    record {
      text = one-shown c.further.out.items c.put_text.new.out.items c.put_count-in-further.new.out.items _ c.further.left c.in-Some.more c.further.n c.tables-tables.result all _ tables
          c.further.invariant.text next c.in-Some.ensures.0 c.in-Some.ensures.1 c.in_ok-put_text.ensures c.in_ok-put_count-2.ensures;
      room = omega (arith, c.further.invariant.room, c.in-Some.ensures);
    }

pub returns : goal.returns
returns g c =
    let counts : List TableCount = counts_in c.args.index.now in
    let all : List TableCount = largest_first counts in
    let tables : length all ≡ c.tables-tables.result = length-largest counts ∙ sym c.tables-tables.ensures in
    let text : List ℕ = c.args.out.now.items ++ counts_text c.args.room counts in
    let last : c.further.n ≡ length c.args.largest.now = omega (arith, c.further-test.false, c.further.auto.n, c.further.auto.n-end, c.requires.some, c.requires.len) in
    on_ok_weaker c.put_more-2.result
    (λ put. rest-counted c.further.out.items c.put_more-2.new.out.items text c.further.left (length c.args.largest.now) c.tables-tables.result all (c.requires.len ∙ ap (min 10) (sym c.tables-tables.ensures)) tables
    (omega (arith, c.further.invariant.room, last)) (subst (λ (k : ℕ). c.further.out.items ++ further_text c.further.left (drop k all) ≡ text) last c.further.invariant.text) put)
    c.put_more-2.ensures
