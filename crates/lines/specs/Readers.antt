-- What a reader has still to read, and what one reading does.
use Rattle.std.specs.Prelude.{◌≡◌, false, List, [], ◌∷◌, drop, ℤ, Some, None, Option}
use Rattle.lines.specs.Reading.{numbers}
use Rattle.lines.specs.declared.reader.Reader.{Reader}

-- the numbers of the lines that are to be read; its text is lawful from there on
abbrev pub to_read : Reader → List ℤ
to_read r = numbers false 0 (drop r.at r.text.now)

-- the first line is answered and gone, or there is none
abbrev pub LineRead : List ℤ → Option ℤ → List ℤ → Type 0
LineRead before None after = (before ≡ []) × (after ≡ [])
LineRead before (Some z) after = before ≡ z ∷ after
