-- The entries that were visited are without the move.
use Rattle.std.proofs.Common.{◌≡◌, length}
use Rattle.moves.specs.Number.{number}
use Rattle.moves.specs.Room.{room}
use Rattle.sheet.proofs.Frees.{Freed}
use Rattle.sheet.proofs.sheet.Sheet.entries_without.Given as goal

abbrev pub invariant-loop-place : goal.invariant-loop-place
invariant-loop-place l = (length l.place-items ≡ room) × Freed (number l.m) l.self.entries l.place-index l.place-items
