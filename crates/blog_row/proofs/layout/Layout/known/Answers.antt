use Rattle.std.proofs.Common.{◌≡◌, Some, is_ok, option_map, sym, ap, ◌∙◌}
use Rattle.blog_row.specs.TableMap.{names_of, names_seen}
use Rattle.blog_row.proofs.TableMapCode.{layout_by_names}
use Rattle.blog_row.proofs.layout.Layout.known.Goals as goal

pub known_at-requires : goal.known_at-requires
known_at-requires c =
    let is : names_of c.args.body.now ≡ Some (names_seen c.in-Some.names) = sym c.names_at.ensures ∙ ap (option_map names_seen) c.in-Some.is in
    ap is_ok (sym (layout_by_names _ _ is)) ∙ c.requires

pub returns : goal.returns
returns c =
    let is : names_of c.args.body.now ≡ Some (names_seen c.in-Some.names) = sym c.names_at.ensures ∙ ap (option_map names_seen) c.in-Some.is in
    layout_by_names _ _ is ∙ c.known_at.ensures
