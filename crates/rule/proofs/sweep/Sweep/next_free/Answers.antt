-- Where moves are left, one of them waits for no other: no chain of ties returns to its start.
use Rattle.rule.proofs.Steps.{sheet_free}
use Rattle.rule.proofs.sweep.Sweep.next_free.Goals as goal

pub returns : goal.returns
returns c = sheet_free c.args.self.now.sheet.now c.args.self.now.left c.held_up.result c.difference.result c.lowest.result c.held_up.ensures.some c.held_up.ensures.all c.difference.ensures c.lowest.ensures
