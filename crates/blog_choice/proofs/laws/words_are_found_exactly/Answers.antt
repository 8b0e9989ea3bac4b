-- From a place to the parts, and back.
use Rattle.blog_choice.proofs.Found.{word-found, word-again}
use Rattle.blog_choice.proofs.laws.words_are_found_exactly.Goals as goal

pub returns : goal.returns
returns c = record { exact = λ word text h. (word-found word text, word-again word text h) }
