-- How calls are printed, as lists of character codes.
use Rattle.std.specs.Prelude.{ℕ, List, ◌++◌, codes, decimal}
use Rattle.sheet.specs.declared.call.Call.{Call}
use Rattle.sheet.specs.declared.call.Call.TheVariants.{Enter, Tie, Cut, Strike, Plan, Floor, Check}

-- a call in words, with its numbers; the curve of a move is not printed
abbrev pub shown : Call → List ℕ
shown (Enter n r l c) = codes "enter " ++ (decimal n ++ (codes " from " ++ (decimal r ++ (codes " for " ++ decimal l))))
shown (Tie i j) = codes "tie " ++ (decimal i ++ (codes " before " ++ decimal j))
shown (Cut i j) = codes "cut " ++ (decimal i ++ (codes " before " ++ decimal j))
shown (Strike n) = codes "strike " ++ decimal n
shown Plan = codes "plan"
shown Floor = codes "floor"
shown Check = codes "check"
