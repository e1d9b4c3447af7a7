-- The list of every set is what it should be: grind finds no place on it for a number, so the law is cited.
use Rattle.moves.proofs.Sets.{members_law}
use Rattle.moves.proofs.set.MoveSet.count.Goals as goal

pub returns-clause-list : goal.returns-clause-list
returns-clause-list c = members_law c.args.self
