-- How two costs compare. le stands for a kind's test "the first is not above the second".
use Rattle.std.specs.Prelude.{◌≡◌, Bool, true, cond, ◌⊎◌}

-- any two costs compare: the first is not above the second, or the second is not above the first
abbrev pub Total : {C : Type 0} → (C → C → Bool) → Type 0
Total {C} le = (a b : C) → (le a b ≡ true) ⊎ (le b a ≡ true)

-- costs that compare both ways are one and the same
abbrev pub Antisymmetric : {C : Type 0} → (C → C → Bool) → Type 0
Antisymmetric {C} le = (a b : C) → le a b ≡ true → le b a ≡ true → a ≡ b

-- what is not above a middle cost is not above what that one is not above
abbrev pub Transitive : {C : Type 0} → (C → C → Bool) → Type 0
Transitive {C} le = (a b c : C) → le a b ≡ true → le b c ≡ true → le a c ≡ true

-- the lesser of two costs
abbrev pub lesser : {C : Type 0} → (C → C → Bool) → C → C → C
lesser le a b = cond (le a b) a b

-- c is the lesser of a and b: one of them, and above neither
abbrev pub IsLesser : {C : Type 0} → (C → C → Bool) → C → C → C → Type 0
IsLesser le a b c = ((c ≡ a) ⊎ (c ≡ b)) × (le c a ≡ true) × (le c b ≡ true)

-- the greater of two costs
abbrev pub greater : {C : Type 0} → (C → C → Bool) → C → C → C
greater le a b = cond (le a b) b a

-- c is the greater of a and b: one of them, and neither is above it
abbrev pub IsGreater : {C : Type 0} → (C → C → Bool) → C → C → C → Type 0
IsGreater le a b c = ((c ≡ a) ⊎ (c ≡ b)) × (le a c ≡ true) × (le b c ≡ true)
