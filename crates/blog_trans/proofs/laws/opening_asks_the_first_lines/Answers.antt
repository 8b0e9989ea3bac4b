-- What opening refuses, by the lines of the fault.
use Rattle.blog_trans.proofs.laws.opening_asks_the_first_lines.Goals as goal
use Rattle.blog_trans.proofs.Opening.{opening-lines, opening-refused}

pub returns-clause-lines : goal.returns-clause-lines
returns-clause-lines c = opening-lines

pub returns-clause-refused : goal.returns-clause-refused
returns-clause-refused c = opening-refused
