use Rattle.std.proofs.Common.{refl}
use Rattle.blog_event.specs.code.LogView.{log_bytes}
use Rattle.blog_reasons.proofs.Looking.{looked-more}
use Rattle.blog_reasons.proofs.reasons.Reasons.look.Goals as goal

pub returns : goal.returns
returns g c = λ w logs looked.
    looked-more c.args.self.now _ w logs (record { log = log_bytes c.args.log.now; start = c.args.start; stop = c.args.stop }) c.look.result looked refl c.with_log-self.ensures c.look.ensures
