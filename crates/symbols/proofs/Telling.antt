-- What the calls that tell the table of a name or a number promise, by what was found.
use Rattle.std.proofs.Common.{◌≡◌, ℕ, ◌<◌, true, false, ltb, leb, get_or, ℤ, Some, None, Ok, Err, Result, sym, ap, ◌∙◌, subst}
use mathlib.Core.Option as maybe
use Rattle.std.specs.Option.{option_map}
use Rattle.fault.specs.declared.Fault.{Fault}
use Rattle.fault.specs.declared.Refusal.TheVariants.{TooManyCells}
use Rattle.fault.specs.Refusals.{numbered}
use Rattle.limits.specs.Uses.{number_use, is_definition}
use Rattle.limits.specs.Rules.{name_limit, cell_limit}
use Rattle.symbols.specs.declared.table.Table.{Table}
use Rattle.symbols.specs.declared.kinds.Role.{Role}
use Rattle.symbols.specs.declared.kinds.Role.TheVariants.{Definition}
use Rattle.symbols.specs.Entries.{Number, Spelling, Symbol, blank, meant}
use Rattle.symbols.specs.Table.{size, mention, Taken, NameTold, NumberTold, is_named, is_valued, known_refusal, room_refusal, fault_at, Gives, first_address, AddsCell, AddsName, PlacesLabel, cell_symbol}
use Rattle.symbols.proofs.Noting.{refuses, name_role, first_is, known_number_is, room_number_is, old_taken, placed_taken, new_taken, number_old, number_full, number_new}

-- a name in a role, that is not too long
module _ (a : Table) (r : Role) (at : Spelling) (short : ltb name_limit at.length ≡ false) where
  -- it has the entry at i
  module _ (i : ℕ) (low : i < size a) (found : is_named a.text.now at (get_or a.symbols.now i blank) ≡ true) where
    abbrev the_entry : Symbol
    the_entry = get_or a.symbols.now i blank

    pub known_refused : (f : Fault) (x : Result ℕ Fault) → Some f ≡ option_map (fault_at at.place) (known_refusal (meant r) the_entry) → x ≡ Err f → NameTold a a r at x
    known_refused f x e q = λ w seen s address h z given snd.
        refuses w a seen (mention (meant r) s at.place address) (known_refusal (meant r) the_entry) f x
        (known_number_is w a seen h (meant r) s at address (name_role r) z snd short i low found) e q

    module _ (fine : known_refusal (meant r) the_entry ≡ None) where
      pub known_kept : is_definition (meant r) ≡ false → NameTold a a r at (Ok i)
      known_kept d = λ w seen s address h z given snd. old_taken w a seen h (meant r) s at address (name_role r) z snd short i low found fine d

      pub known_placed : (b : Table) (n : ℕ) → r ≡ Definition n → PlacesLabel a b i n → NameTold a b r at (Ok i)
      known_placed b n q x = λ w seen s address h z given snd.
          placed_taken w a seen h (meant r) s at address (name_role r) z snd short i low found fine b (ap (λ (v : Role). is_definition (meant v)) q)
          (subst (λ (m : ℕ). PlacesLabel a b i m) (subst (λ (v : Role). Gives v address) q given) x)

  -- it has none
  module _ (missing : (i : ℕ) → i < size a → is_named a.text.now at (get_or a.symbols.now i blank) ≡ false) where
    pub new_refused : (f : Fault) (x : Result ℕ Fault) → Some f ≡ option_map (fault_at at.place) (room_refusal (meant r) a.celled a.labels) → x ≡ Err f → NameTold a a r at x
    new_refused f x e q = λ w seen s address h z given snd.
        refuses w a seen (mention (meant r) s at.place address) (room_refusal (meant r) a.celled a.labels) f x
        (room_number_is w a seen h (meant r) s at address (name_role r) z snd short missing) e q

    pub new_entered : (b : Table) (i : ℕ) → room_refusal (meant r) a.celled a.labels ≡ None → i ≡ size a → AddsName a b (meant r) at (first_address r) → NameTold a b r at (Ok i)
    new_entered b i fine e x = λ w seen s address h z given snd.
        subst (λ (k : ℕ). Taken w b seen (mention (meant r) s at.place address) k) (sym e)
        (new_taken w a seen h (meant r) s at address (name_role r) z snd short missing fine b (subst (λ (n : ℕ). AddsName a b (meant r) at n) (first_is r address given) x))

-- a number with the word v
module _ (a : Table) (at : Spelling) (v : ℤ) where
  pub number_kept : (i : ℕ) → i < size a → is_valued a.cells.now v (get_or a.symbols.now i blank) ≡ true → NumberTold a a at v (Ok i)
  number_kept i low found = λ w seen s address h z snd e. number_old w a seen h s at address v z snd e i low found

  module _ (missing : (i : ℕ) → i < size a → is_valued a.cells.now v (get_or a.symbols.now i blank) ≡ false) where
    pub number_refused : (f : Fault) → leb cell_limit a.celled ≡ true → f ≡ fault_at at.place TooManyCells → NumberTold a a at v (Err f)
    number_refused f full q = λ w seen s address h z snd e. (
      number_full w a seen h s at address v z snd e missing full ∙ ap (λ (x : Fault). maybe.some (numbered x.refusal)) (sym q),
      ap (λ (x : Fault). x.place) q,
    )

    pub number_entered : (b : Table) (i : ℕ) → leb cell_limit a.celled ≡ false → i ≡ size a → AddsCell a b (cell_symbol Number at a.celled) v → NumberTold a b at v (Ok i)
    number_entered b i room q x = λ w seen s address h z snd e.
        subst (λ (k : ℕ). Taken w b seen (mention number_use s at.place address) k) (sym q) (number_new w a seen h s at address v z snd e missing b room x)
