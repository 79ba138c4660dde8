-- Names as lists of bytes: when two are the same, and what a store holds under them.
use Rattle.std.specs.Prelude.{Bool, true, false, cond, ◌&&◌, [], ◌∷◌, ℤ, pos, ◌==◌}
use Rattle.trees.specs.Trees.{Name}

-- byte for byte
abbrev pub same : Name → Name → Bool
same [] [] = true
same [] (b ∷ bs) = false
same (a ∷ as') [] = false
same (a ∷ as') (b ∷ bs) = a == b && same as' bs

-- the value of each variable
abbrev pub Store : Type 0
Store = Name → ℤ

-- at first every variable is 0
abbrev pub zeros : Store
zeros x = pos 0

-- the store with one variable changed
abbrev pub put : Store → Name → ℤ → Store
put v x z = λ (y : Name). cond (same x y) z (v y)
