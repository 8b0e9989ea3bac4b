use Rattle.blog_list.proofs.times.time_text.Goals as goal

pub returns : goal.returns
returns c = (c.to_datetime.result, rw (← c.instant_of.ensures) c.to_datetime.ensures, c.text_of.ensures)
