use Rattle.blog_json.proofs.doubles.Digits.trim.Given as goal

abbrev pub decreases-trim : goal.decreases-trim
decreases-trim l = l.self.len
