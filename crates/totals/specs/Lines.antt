-- A number and a line end behind it, as far as the paper goes.
use Rattle.std.specs.Prelude.{ℕ, Bool, false, cond, ℤ}
use Rattle.host.specs.Meaning.{Meaning, fits, marked}
use Rattle.host.specs.declared.mark.Mark.{Mark}
use Rattle.host.specs.declared.mark.Mark.TheVariants.{Number, LineEnd}

-- with the number printed
abbrev pub with_number : (Mark → ℕ) → ℤ → Meaning → Meaning
with_number weight z h = marked (weight (Number z)) (Number z) h

abbrev pub line_fits : (Mark → ℕ) → ℤ → Meaning → Bool
line_fits weight z h = cond (fits (weight (Number z)) h) (fits (weight LineEnd) (with_number weight z h)) false

abbrev pub with_line : (Mark → ℕ) → ℤ → Meaning → Meaning
with_line weight z h = cond (fits (weight (Number z)) h) (marked (weight LineEnd) LineEnd (with_number weight z h)) h
