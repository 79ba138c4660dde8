-- Marks as text: plain decimals, and byte 10 for a line end; and marks read back from bytes and the marks' lengths.
use Rattle.std.specs.Prelude.{ℕ, cond, List, [], ◌∷◌, length, take, drop, pos, neg_ℤ, ◌==◌, flat_map}
use Rattle.std.specs.Fmt.{signed_decimal}
use Rattle.lines.specs.Form.{number_of}
use Rattle.host.specs.declared.mark.Mark.{Mark}
use Rattle.host.specs.declared.mark.Mark.TheVariants.{Number, LineEnd}

-- the bytes of a mark
abbrev pub mark_bytes : Mark → List ℕ
mark_bytes (Number z) = signed_decimal z
mark_bytes LineEnd = 10 ∷ []

-- the bytes of marks, one after the other
abbrev pub rendered : List Mark → List ℕ
rendered ms = flat_map mark_bytes ms

-- a mark weighs as much as it has bytes
abbrev pub byte_weight : Mark → ℕ
byte_weight m = length (mark_bytes m)

-- the mark that some bytes are
abbrev pub mark_of : List ℕ → Mark
mark_of [] = LineEnd
mark_of (b ∷ bs) = cond (b == 10) LineEnd (cond (b == 45) (Number (neg_ℤ (pos (number_of bs)))) (Number (pos (number_of (b ∷ bs)))))

-- the marks that stand in bytes, by their lengths
abbrev pub marks_of : List ℕ → List ℕ → List Mark
marks_of [] out = []
marks_of (n ∷ ns) out = mark_of (take n out) ∷ marks_of ns (drop n out)
