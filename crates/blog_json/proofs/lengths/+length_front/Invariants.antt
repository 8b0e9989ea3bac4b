use Rattle.blog_json.proofs.lengths.+length_front.Given as goal

-- each call has one byte less
abbrev pub decreases-length_front : goal.decreases-length_front
decreases-length_front l = l.most
