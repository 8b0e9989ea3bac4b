use Rattle.blog_untouched.proofs.OfSteps.{steps-recorded}
use Rattle.blog_untouched.proofs.laws.records_of_steps_are_those_of_their_changes.Goals as goal

pub returns : goal.returns
returns c = steps-recorded
