-- One of the lengths is found.
use Rattle.std.proofs.Common.{sym, ap, ◌∙◌, rules, true, false}
use Rattle.std.specs.Prelude.{not}
use Rattle.std.specs.List.{list_any}
use Rattle.std.proofs.lemmas.Iterator.{YieldsList-from_slice}
use Rattle.std.proofs.lemmas.Iterator.Search.{any_from_yields_List}
use borrow.Author.Tests.{tests}
use Rattle.blog_choice.specs.code.Sets.{is_one_at}
use Rattle.blog_choice.specs.code.NameSetView.{set_names}
use Rattle.blog_choice.proofs.Sets.{any-at}
use Rattle.blog_choice.proofs.name_set.NameSet.is_at.Goals as goal

pub returns-then-not-is_word_before : goal.returns-then-not-is_word_before
returns-then-not-is_word_before g c =
    let set = c.args.self.now in
    let here = is_one_at (set_names set) c.args.text.now c.args.place in
    any_from_yields_List here _ _ _ c.any.ensures.ran (YieldsList-from_slice c.deref.result.now cc) (λ x b q k. search (rules, tests))
    ∙ ap (list_any here) c.deref.ensures.value
    ∙ any-at (set_names set) set.lengths.items c.args.text.now c.args.place false set.long (sym c.if-not-is_word_before.true ∙ c.is_word_before.ensures)

pub returns-else-not-is_word_before : goal.returns-else-not-is_word_before
returns-else-not-is_word_before g c =
    let set = c.args.self.now in
    ap not c.if-not-is_word_before.false
    ∙ any-at (set_names set) set.lengths.items c.args.text.now c.args.place true set.long (sym c.if-not-is_word_before.false ∙ c.is_word_before.ensures)
