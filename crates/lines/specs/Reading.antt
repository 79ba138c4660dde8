-- The same form by one byte after another: which texts are lawful, and the numbers of a lawful text.
use Rattle.std.specs.Prelude.{◌≡◌, ℕ, suc, ◌+◌, ◌-◌, ◌*◌, Bool, true, false, cond, ◌↔◌, List, [], ◌∷◌, ℤ, pos, neg_ℤ, Some, None, Option, ◌==◌, nat_lt}
use Rattle.lines.specs.Form.{digit, Lines}
pub use Rattle.lines.specs.declared.stage.Stage.{Stage}
pub use Rattle.lines.specs.declared.stage.Stage.TheVariants.{Start, Digits}

-- after k digits a byte ends the line, if there are any, or is the next digit, if there are fewer than 18
abbrev pub after_digits : ℕ → ℕ → Option Stage
after_digits k b = cond (b == 10) (cond (k == 0) None (Some Start)) (cond (digit b) (cond (nat_lt k 18) (Some (Digits (suc k))) None) None)

-- the stage that a byte leads to, if a lawful text can go on with it
abbrev pub moved : Stage → ℕ → Option Stage
moved Start b = cond (b == 45) (Some (Digits 0)) (after_digits 0 b)
moved (Digits k) b = after_digits k b

abbrev pub ends : Option Stage → List ℕ → Option Stage
ends None bs = None
ends (Some s) [] = Some s
ends (Some s) (b ∷ bs) = ends (moved s b) bs

abbrev pub at_start : Option Stage → Bool
at_start None = false
at_start (Some Start) = true
at_start (Some (Digits k)) = false

-- from this stage on the bytes end a line, and whole lines follow
abbrev pub lawful_from : Stage → List ℕ → Bool
lawful_from s bs = at_start (ends (Some s) bs)

abbrev pub signed : Bool → ℕ → ℤ
signed true n = neg_ℤ (pos n)
signed false n = pos n

-- the numbers of the lines, where of the first one the sign and the number n of its first digits are read
abbrev pub numbers : Bool → ℕ → List ℕ → List ℤ
numbers minus n [] = []
numbers minus n (b ∷ bs) =
    cond (b == 10) (signed minus n ∷ numbers false 0 bs) (cond (b == 45) (numbers true 0 bs) (numbers minus (10 * n + (b - 48)) bs))

-- the lines of a text: those of a lawful one, and else none
unfoldable pub lines_of : List ℕ → List ℤ
lines_of text = cond (lawful_from Start text) (numbers false 0 text) []

-- by the rules and by the bytes the same texts are lawful, with the same numbers
abbrev pub FormHolds : Type 0
FormHolds = (text : List ℕ) (zs : List ℤ) → Lines text zs ↔ ((lawful_from Start text ≡ true) × (numbers false 0 text ≡ zs))
