use Rattle.std.proofs.Common.{sym, ◌∙◌}
use Rattle.blog_row.specs.TableMap.{map_names}
use Rattle.blog_row.proofs.TableMapCode.{layout_by_names}
use Rattle.blog_row.proofs.table_map.TableMap.layout.Goals as goal

pub returns-clause-body : goal.returns-clause-body
returns-clause-body c body e = c.at.ensures ∙ sym (layout_by_names body (map_names c.args.self.now) e)
