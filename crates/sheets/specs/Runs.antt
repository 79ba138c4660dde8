-- The machine on the image of a text.
use Rattle.std.specs.Prelude.{ℕ, length}
use Rattle.host.specs.Meaning.{Meaning}
use Rattle.runs.specs.Events.{World}
use Rattle.runs.specs.Machine.{State, run, count, loaded}
use Rattle.sheets.specs.Images.{Image}

-- the machine after n steps, on a host that means h at the start; all cells of the image are in use
abbrev pub after : World → Image → Meaning → ℕ → State
after W i h n = run W i.code (length i.cells) n (loaded i.cells h)

-- the instructions that it carried out in them
abbrev pub carried : World → Image → Meaning → ℕ → ℕ
carried W i h n = count W i.code (length i.cells) n (loaded i.cells h)
