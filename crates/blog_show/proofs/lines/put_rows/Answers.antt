use Rattle.blog_show.proofs.lines.put_rows.Goals as goal

pub returns : goal.returns
returns g c = (_, c.in_ok-put_head.ensures, c.in_ok-put_lines.ensures)
