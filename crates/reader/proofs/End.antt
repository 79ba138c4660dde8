-- The end of a text, at a reader that holds what all its tokens make.
use Rattle.std.proofs.Common.{◌≡◌, ℕ, List, [], ◌∷◌, length, sym, ap, ◌∙◌, subst}
use mathlib.Core.Option as maybe
use Rattle.fault.specs.declared.Refusal.TheVariants.{NoProgram}
use Rattle.token.specs.Tokens.{Placed}
use Rattle.arithmetic.specs.Words.{Words}
use Rattle.symbols.specs.declared.table.Table.{Table}
use Rattle.reading.specs.declared.returns.Return.{Return}
use Rattle.reading.specs.Reads.{refused_first, Reads}
use Rattle.reading.proofs.Ending.{ends}
use Rattle.reader.specs.declared.reader.Reader.{Reader}
use Rattle.reader.specs.Views.{plan, returns}
use Rattle.reader.specs.Taking.{refused, After}

module _ (w : Words) (text : List ℕ) (past : List Placed) (r : Reader) (t : Table) where
  -- no state waits
  pub read_whole : After w text past [] r t → returns r ≡ [] → refused_first w text ≡ maybe.none
  read_whole h e = ends.whole w text past (plan r) r.counts t (subst (λ z. Reads w text past [] (plan r) z r.counts t) e h.reads)

  -- one waits
  pub broken_off : (place : ℕ) → place ≡ length text → After w text past [] r t → (s : Return) (k : List Return) → returns r ≡ s ∷ k →
      refused_first w text ≡ maybe.some (refused (record { refusal = NoProgram; place = place }))
  broken_off place p h s k e =
      ends.broken w text past (plan r) s k r.counts t (subst (λ z. Reads w text past [] (plan r) z r.counts t) e h.reads)
      ∙ ap (λ z. maybe.some (refused (record { refusal = NoProgram; place = z }))) (sym p)
