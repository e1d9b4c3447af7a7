-- A sheet without a move and its ties keeps everything.
use Rattle.moves.specs.Number.{number}
use Rattle.sheet.specs.Meaning.{meaning}
use Rattle.sheet.proofs.Equations.{sound_as}
use Rattle.sheet.proofs.Keeps.{struck_sound}
use Rattle.sheet.proofs.Sheets.{sheet_sound}
use Rattle.sheet.proofs.sheet.Sheet.without_move.Goals as goal

pub with_parts-requires-clause-sound : goal.with_parts-requires-clause-sound
with_parts-requires-clause-sound c = sound_as c.entries_without.ensures (struck_sound (number c.args.m) (meaning c.args.self.now) (sheet_sound c.args.self.now))
