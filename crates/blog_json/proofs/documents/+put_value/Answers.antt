use Rattle.std.proofs.Common.{rules, arith, ◌≡◌, ◌<◌, ◌-◌, ◌++◌, ℕ, None, Some, ap, subst, ◌∙◌}
use Rattle.blog_json.specs.Containers.{container_front, container_seen, entry_at}
use Rattle.blog_json.specs.Documents.{AreValues, IsText, closing, form_of, opening, front_text}
use Rattle.blog_json.specs.Texts.{Gains, added}
use Rattle.blog_json.proofs.Added.{added_between}
use Rattle.blog_json.proofs.Valued.{deeper_value, no_values, one_value_more, plain_result}
use Rattle.blog_json.proofs.documents.+put_value.Goals as goal

pub returns-in_default-clause-printed : goal.returns-in_default-clause-printed
returns-in_default-clause-printed g t c =
    let none : form_of c.args.kind ≡ None = search rules in
    plain_result c.put_plain.result c.args.depth c.args.kind c.args.bytes.now c.args.out.now.items c.put_plain.new.out.items none c.put_plain.ensures.printed

pub values-init : goal.values-init
values-init g t c = record {
  kept = c.put_text.ensures.kept;
  opened = λ start begins. begins;
  values = no_values (IsText (c.args.depth - 1)) (container_seen c.in-Some-front.container) c.put_text.new.out.items;
}

pub values-preserved : goal.values-preserved
values-preserved g t c =
    let front : Gains (front_text (container_seen c.in-Some-front.container) c.values.i) c.values.out.items c.put_front.new.out.items = c.in_ok-put_front.ensures.printed (search rules) in
    let entry : entry_at (container_seen c.in-Some-front.container) c.values.i ≡ Some (c.in-Some-entry.inner, c.in-Some-entry.place.now) = search rules in
    let own : IsText (c.args.depth - 1) c.in-Some-entry.inner c.in-Some-entry.place.now (added c.put_front.new.out.items c.put_value.new.out.items) = c.in_ok-put_value.ensures.printed (search rules) in
    record {
      kept = λ start begins. c.put_value.ensures.kept start (c.put_front.ensures.kept start (c.values.invariant.kept start begins));
      opened = λ start begins. c.put_value.ensures.kept start (c.put_front.ensures.kept start (c.values.invariant.opened start begins));
      values = one_value_more (IsText (c.args.depth - 1)) (container_seen c.in-Some-front.container) c.values.i c.put_text.new.out.items c.values.out.items c.put_front.new.out.items c.put_value.new.out.items c.in-Some-entry.place.now c.in-Some-entry.inner c.values.invariant.opened c.put_front.ensures.kept c.put_value.ensures.kept c.values.invariant.values front entry own;
    }

pub returns-clause-printed : goal.returns-clause-printed
returns-clause-printed g t c =
    let some : 0 < c.args.depth = omega arith in
    let shape : form_of c.args.kind ≡ Some (c.in-Some.form, c.in-Some.width) = search rules in
    let container : container_front c.in-Some.form c.in-Some.width c.args.bytes.now ≡ Some (container_seen c.in-Some-front.container) = search rules in
    let all : c.values.i ≡ c.in-Some-front.container.count = omega arith in
    let opened : c.put_text.new.out.items ≡ c.args.out.now.items ++ opening c.in-Some.form = c.in_ok-put_text.ensures.appended ∙ ap (λ x. c.args.out.now.items ++ x) c.opening_of.ensures in
    let closed : c.put_text-2.new.out.items ≡ c.values.out.items ++ closing c.in-Some.form = c.in_ok-put_text-2.ensures.appended ∙ ap (λ x. c.values.out.items ++ x) c.closing_of.ensures in
    let values = subst (λ (n : ℕ). AreValues (IsText (c.args.depth - 1)) (container_seen c.in-Some-front.container) n (added c.put_text.new.out.items c.values.out.items)) all c.values.invariant.values in
    λ yes. deeper_value c.args.depth c.args.kind (c.in-Some.form, c.in-Some.width) c.args.bytes.now _ some shape
    (container_seen c.in-Some-front.container, added c.put_text.new.out.items c.values.out.items, container, values, added_between c.args.out.now.items c.put_text.new.out.items c.values.out.items c.put_text-2.new.out.items (opening c.in-Some.form) (closing c.in-Some.form) opened c.values.invariant.opened closed)
