use Rattle.blog_text.proofs.JsonLanes.{escaped-lanes}
use Rattle.blog_text.proofs.json_text.escaped_of.Goals as goal

pub returns : goal.returns
returns c = escaped-lanes c.args.bytes c.fits-bytes.0
