use Rattle.std.proofs.Common.{List, [], ◌∷◌, ap, ◌∙◌, append-nil}
use Rattle.std.specs.Prelude.{nat_eq}
use Rattle.std.specs.List.{list_any}
use Rattle.blog_trans.specs.Changes.{Change, changes}
use Rattle.blog_trans.specs.code.IndexView.{index_bytes, index_selection}
use Rattle.blog_later.specs.Prints.{print_of, prints_left, table_print}
use Rattle.blog_later.proofs.left.LeftRows.of.Goals as goal

pub returns : goal.returns
returns g c =
    let cs = changes (index_bytes c.args.index.now) (index_selection c.args.index.now) in
    let (rows, tables) = c.sorted.ensures (cs ∷ []) (c.in_ok-add.ensures [] c.none-leaving.ensures) 1 in (
      (λ p. rows p ∙ ap (λ (ds : List Change). list_any (nat_eq p) (prints_left print_of ds)) (append-nil cs)),
      (λ p. tables p ∙ ap (λ (ds : List Change). list_any (nat_eq p) (prints_left (λ r. table_print r.table) ds)) (append-nil cs)),
    )
