-- What is known of a symbol stays as it is, whatever tokens come after.
use Rattle.std.proofs.Common.{◌≡◌, ◌+◌, true, cond, List, [], ◌∷◌, refl, ◌∙◌}
use mathlib.Core.List.{reverse_aux, reverse_aux-reverse_aux-nil}
use mathlib.Core.Option.{Option, none, some}
use Rattle.std.proofs.lemmas.Bool.{or_right}
use Rattle.token.specs.Tokens.{Token}
use Rattle.arithmetic.specs.Words.{Words}
use Rattle.limits.specs.Uses.{Use, use_of, with_use, uses_before, uses, is_label, Key, same_key, key, known}
use Rattle.limits.specs.Symbols.{first_cell, cells_before}
use Rattle.symbols.specs.Mentions.{index}
use Rattle.symbols.proofs.Whole.{index_stays, cell_stays}
use Rattle.reading.specs.Laws.{Stays}

-- the symbol is known after the uses vs too, with the same index and the same cell as after us
pub record Same (w : Words) (k : Key) (us vs : List Use) : Type 0 where
  pub still : known w k vs ≡ true
  pub same_index : index w k vs ≡ index w k us
  pub same_cell : cells_before w k vs ≡ cells_before w k us

one_more : (w : Words) (k : Key) (us : List Use) (o : Option Use) → known w k us ≡ true → Same w k us (with_use o us)
one_more w k us none h = record { still = h; same_index = refl; same_cell = refl }
one_more w k us (some u) h = record {
  still = or_right (same_key k (key w u)) (known w k us) h;
  same_index = index_stays w k u us h;
  same_cell = cell_stays w k u us h;
}

all_more : (w : Words) (k : Key) (rest past : List Token) → known w k (uses_before past rest) ≡ true →
    Same w k (uses_before past rest) (uses_before (reverse_aux rest past) [])
all_more w k [] past h = record { still = h; same_index = refl; same_cell = refl }
all_more w k (t ∷ rest) past h =
    let a = one_more w k (uses_before past (t ∷ rest)) (use_of past t rest) h in
    let b = all_more w k rest (t ∷ past) a.still in
    record { still = b.still; same_index = b.same_index ∙ a.same_index; same_cell = b.same_cell ∙ a.same_cell }

-- after all tokens, of which `past` are the first, newest first
pub after_all : (w : Words) (k : Key) (past rest : List Token) → known w k (uses_before past rest) ≡ true → Same w k (uses_before past rest) (uses (reverse_aux past rest))
after_all w k past rest h = rw (reverse_aux-reverse_aux-nil past rest) (all_more w k rest past h)

pub stays : Stays
stays w past rest u h =
    let a = after_all w (key w u) past rest h in
    (λ i. cond (is_label u.role) (a.same_index i) (first_cell + a.same_cell i))
