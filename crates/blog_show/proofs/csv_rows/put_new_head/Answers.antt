use Rattle.std.proofs.Common.{inr}
use Rattle.blog_show.proofs.csv_rows.put_new_head.Goals as goal

pub returns : goal.returns
returns g c = inr (c.args.names.now, c.in_ok-put_csv_head.ensures)
