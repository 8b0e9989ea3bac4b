use Rattle.blog_trans.specs.code.IndexView.{table_counted}
use Rattle.blog_text.proofs.Largest.{put-there}
use Rattle.blog_text.proofs.tables.put_in_place.Goals as goal

pub returns : goal.returns
returns g c =
    put-there table_counted c.args.largest.now.items c.deref.result.now c.insert.new.self.items c.truncate.new.self.items c.place_in-place.result c.args.count c.deref.ensures.value
    c.in_ok-insert.ensures.items c.truncate.ensures.items c.place_in-place.ensures.placed
