-- The program's global transaction ids as values.
use Rattle.blog_request.specs.Ids.{Ids}
use Rattle.blog_request.specs.declared.ids.GlobalIds as asked

-- without where the bytes of the tag are
abbrev pub ids_value : asked.GlobalIds → Ids
ids_value ids = record { server = ids.server; tag = ids.tag.now; first = ids.first; last = ids.last }
