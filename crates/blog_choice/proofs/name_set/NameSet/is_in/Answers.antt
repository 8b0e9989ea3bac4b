-- One of the names has another spelling, or is in the text.
use Rattle.std.proofs.Common.{sym, ap, ◌∙◌, Bool}
use Rattle.std.specs.Prelude.{◌||◌}
use Rattle.std.specs.List.{list_any}
use Rattle.blog_choice.specs.Words.{occurs}
use Rattle.blog_choice.specs.code.NameSetView.{set_names}
use Rattle.blog_choice.proofs.AnyNamed.{any-named}
use Rattle.blog_choice.proofs.name_set.NameSet.is_in.Goals as goal

pub returns-then-has_other_spelling : goal.returns-then-has_other_spelling
returns-then-has_other_spelling g c =
    let names = set_names c.args.self.now in
    c.if-has_other_spelling.true
    ∙ sym (ap (λ (first : Bool). first || list_any (λ name. occurs name c.args.text.now) names) (sym c.has_other_spelling.ensures ∙ c.if-has_other_spelling.true))
    ∙ sym (any-named c.args.twins c.args.text.now names)

pub returns-else-has_other_spelling : goal.returns-else-has_other_spelling
returns-else-has_other_spelling g c =
    let names = set_names c.args.self.now in
    c.occurs_in.ensures
    ∙ sym (ap (λ (first : Bool). first || list_any (λ name. occurs name c.args.text.now) names) (sym c.has_other_spelling.ensures ∙ c.if-has_other_spelling.false))
    ∙ sym (any-named c.args.twins c.args.text.now names)
