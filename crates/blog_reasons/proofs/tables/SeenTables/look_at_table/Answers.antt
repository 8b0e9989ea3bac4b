use Rattle.std.proofs.Common.{◌≡◌, true, false, [], ◌∷◌, ◌++◌, refl, sym, ◌∙◌}
use Rattle.std.proofs.lemmas.Result.{on_ok_weaker}
use Rattle.blog_choice.specs.code.Views.{choice_value}
use Rattle.blog_reasons.specs.code.NamedView.{table_value}
use Rattle.blog_reasons.specs.code.TablesView.{AreKnown}
use Rattle.blog_reasons.proofs.SeenTables.{known-more, last-named, near-more, not-is, ok-anyway, seen-chosen, seen-other}
use Rattle.blog_reasons.proofs.tables.SeenTables.look_at_table.Goals as goal

pub returns-then-not-is_new-clause-seen : goal.returns-then-not-is_new-clause-seen
returns-then-not-is_new-clause-seen g c = λ ts are known.
    let t = table_value c.args.table in
    let found = not-is _ _ c.in_ok-is_new.ensures.added c.if-not-is_new.true in
    seen-other (choice_value c.args.choice.now) ts t _ _ are (λ none. known none c.args.table found) refl (near-more ts (t ∷ []) _ are.near)

pub returns-then-not-is_new-clause-known : goal.returns-then-not-is_new-clause-known
returns-then-not-is_new-clause-known g c = λ known.
    let found = not-is _ _ c.in_ok-is_new.ensures.added c.if-not-is_new.true in
    known-more (choice_value c.args.choice.now) c.args.self.now.has_chosen c.args.known.now c.insert.new.self c.args.table c.in_ok-is_new.ensures.updates.0
    (λ none. known none c.args.table found) known

pub returns-then-has-clause-seen : goal.returns-then-has-clause-seen
returns-then-has-clause-seen g c = λ ts are known.
    seen-chosen (choice_value c.args.choice.now) ts (table_value c.args.table) c.args.self.now _ are (sym c.has.ensures ∙ c.if-has.true) refl refl

pub returns-then-has-clause-known : goal.returns-then-has-clause-known
returns-then-has-clause-known g c = λ known none q found. let clash : true ≡ false = none in cc

pub returns-clause-seen : goal.returns-clause-seen
returns-clause-seen g c = λ ts are known.
    let t = table_value c.args.table in
    on_ok_weaker c.look_at_names.result
    (λ near. seen-other (choice_value c.args.choice.now) ts t c.args.self.now c.look_at_names.new.self are (λ none. sym c.has.ensures ∙ c.if-has.false) c.look_at_names.ensures.chosen near)
    (c.look_at_names.ensures.near (ts ++ t ∷ []) (last-named ts t) (near-more ts (t ∷ []) c.args.self.now.near.items are.near))

pub returns-clause-known : goal.returns-clause-known
returns-clause-known g c = λ known.
    ok-anyway {P = AreKnown (choice_value c.args.choice.now) c.look_at_names.new.self.has_chosen c.insert.new.self} c.look_at_names.result
    (rw c.look_at_names.ensures.chosen (known-more (choice_value c.args.choice.now) c.args.self.now.has_chosen c.args.known.now c.insert.new.self c.args.table
    c.in_ok-is_new.ensures.updates.0 (λ none. sym c.has.ensures ∙ c.if-has.false) known))
