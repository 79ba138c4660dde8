-- Names and numbers told: the answer is the refusal that stands, or the entry.
use Rattle.std.proofs.Common.{◌≡◌, ℕ, ◌+◌, ◌<◌, ◌≤◌, Bool, true, false, cond, not, ◌&&◌, eqb, ltb, leb, List, ◌∷◌, length, get_or, take, drop, ℤ, pos, Some, None, Option, Err, Result, sym, refl, ap, ◌∙◌, subst, arith, length-set, drop-set-lt}
use mathlib.Core.Option as maybe
use lib.Seq.{take-set-le}
use Rattle.std.proofs.lemmas.Option.{none-some}
use Rattle.std.proofs.lemmas.Bool.{and_parts, leb-true, leb-false, ltb-true, ltb-false}
use Rattle.std.proofs.lemmas.Bool.Decides.{nat_tests}
use Rattle.token.specs.Lexis.{digit}
use Rattle.token.specs.Numbers.{word, every, word_if_digits}
use Rattle.arithmetic.specs.Words.{Words}
use Rattle.std.specs.Option.{option_map}
use Rattle.fault.specs.declared.Fault.{Fault}
use Rattle.fault.specs.declared.Refusal.{Refusal}
use Rattle.fault.specs.declared.Refusal.TheVariants.{DuplicateLabel, MixedKind, TooManyCells, TooManyLabels}
use Rattle.fault.specs.Refusals.{numbered}
use Rattle.limits.specs.Uses.{Role, definition, target, listed, variable_use, number_use, Use, made, In, is_literal, is_definition, is_label, Key, label_key, variable_key, number_key, key_by, known, cells, labels}
use Rattle.limits.specs.Rules.{name_limit, cell_limit, label_limit}
use Rattle.limits.specs.Refusals.{among, unlike}
use Rattle.limits.specs.Symbols.{first_cell, kind_of}
use Rattle.limits.proofs.Keys.{Way, holds, fails, way, clash, among_sound}
use Rattle.symbols.specs.declared.table.Table.{Table}
use Rattle.symbols.specs.declared.kinds.Role.{Role as Told}
use Rattle.symbols.specs.declared.kinds.Role.TheVariants as told
use Rattle.symbols.specs.Entries.{Variable, Number, Spelling, Symbol, blank, kind_entry, meant}
use Rattle.symbols.specs.Mentions.{Mention, uses_of, pending, address_in, Sound, index, use_refusal}
use Rattle.symbols.specs.Table.{size, Holds, Keeps, mention, Taken, Decides, of_label, is_named, is_valued, known_refusal, room_refusal, fault_at, Gives, first_address, AddsCell, AddsLabel, AddsName, PlacesLabel, cell_symbol, label_symbol}
use Rattle.symbols.proofs.Firsts.{First, key_of}
use Rattle.symbols.proofs.Exact as exact
use Rattle.symbols.proofs.Exact.{definition_label, label_not_literal, kinds_agree, differs_from, pending_none, placed_below, key_name, name_key}
use Rattle.symbols.proofs.Finding.{the, entry_at, the_first, label_role, Named, name_found, no_label_key, no_variable_key, number_found, no_number_key, use_in}
use Rattle.symbols.proofs.Holding.{label_keyed, holds_old, holds_placed, holds_cell, holds_label}

-- the number of a refusal, if there is one
abbrev pub number_of : Option Refusal → maybe.Option ℕ
number_of None = maybe.none
number_of (Some x) = maybe.some (numbered x)

-- a refusal that is found at the place of a use is answered there
pub refuses : (w : Words) (b : Table) (seen : List Mention) (m : Mention) (r : Option Refusal) (f : Fault) (x : Result ℕ Fault) →
    use_refusal w (uses_of seen) m.used ≡ number_of r → Some f ≡ option_map (fault_at m.place) r → x ≡ Err f → Decides w b seen m x
refuses w b seen m None f x h e q = absurd (cc)
refuses w b seen m (Some r) f x h e q =
    let g : f ≡ fault_at m.place r = cc in
    subst (Decides w b seen m) (sym q) (h ∙ ap (λ (y : Fault). maybe.some (numbered y.refusal)) (sym g), ap (λ (y : Fault). y.place) g)

abbrev no_fault : Option Fault
no_fault = None

pub found_none : (p : ℕ) (x : Option Refusal) → no_fault ≡ option_map (fault_at p) x → x ≡ None
found_none p None e = refl
found_none p (Some r) e = absurd (cc)

pub name_role : (r : Told) → is_literal (meant r) ≡ false
name_role (told.Definition a) = refl
name_role told.Target = refl
name_role told.Listed = refl
name_role told.Variable = refl

-- the first address of a label is that of a mention in its role, or none
pub first_is : (r : Told) (address : ℕ) → Gives r address → first_address r ≡ cond (is_definition (meant r)) address pending
first_is (told.Definition a) address g = g
first_is told.Target address g = refl
first_is told.Listed address g = refl
first_is told.Variable address g = refl

pub no_definition : (r : Told) → ((a : ℕ) → r ≡ told.Definition a → ⊥) → is_definition (meant r) ≡ false
no_definition (told.Definition a) n = absurd (n a refl)
no_definition told.Target n = refl
no_definition told.Listed n = refl
no_definition told.Variable n = refl

unlike_same : (a b : Bool) → unlike a b ≡ false → a ≡ b
unlike_same true true e = refl
unlike_same true false e = absurd (clash refl e)
unlike_same false true e = absurd (clash refl e)
unlike_same false false e = refl

pub below_other : (n : ℕ) → n < pending → eqb n pending ≡ false
below_other n l = grind (arith, nat_tests)

-- no entry too many
role_of_variable : (r : Role) → is_literal r ≡ false → is_label r ≡ false → kind_entry (kind_of r) ≡ Variable
role_of_variable definition n e = absurd (clash refl e)
role_of_variable target n e = absurd (clash refl e)
role_of_variable listed n e = absurd (clash refl e)
role_of_variable variable_use n e = refl
role_of_variable number_use n e = absurd (clash refl n)

-- a name r, s, at a place
module _ (w : Words) (a : Table) (seen : List Mention) (h : Holds w a seen) (r : Role) (s : List ℕ) (at : Spelling) (address : ℕ) (is_name : is_literal r ≡ false)
    (sized : length s ≡ at.length) (snd : Sound a.text.now (mention r s at.place address)) where
  abbrev us : List Use
  us = uses_of seen

  pub too_long : ltb name_limit at.length ≡ true → use_refusal w us (made r s) ≡ maybe.some 4
  too_long e = exact.long_name w us r s is_name (let l = ltb-true name_limit at.length e in omega (arith, sized))

  module _ (not-long : ltb name_limit at.length ≡ false) where
    short : length s ≤ name_limit
    short = let l = ltb-false name_limit at.length not-long in omega (arith, sized)

    -- it has the entry at i
    module _ (i : ℕ) (low : i < size a) (found : is_named a.text.now at (get_or a.symbols.now i blank) ≡ true) where
      abbrev f : First
      f = the w a seen h i

      abbrev q : Role
      q = f.mention.used.role

      abbrev e : Symbol
      e = get_or a.symbols.now i blank

      its_name : Named q f.mention.used.spelling s
      its_name = name_found w a seen h at s sized snd.bytes i low found

      used_so : In (made q s) us
      used_so = subst (λ (x : List ℕ). In (made q x) us) its_name.spells (use_in seen f.mention (the_first w a seen h i low).is_in)

      kind_is : of_label e.kind ≡ is_label q
      kind_is = ap (λ (x : Symbol). of_label x.kind) (entry_at w a seen h i low) ∙ label_role q

      at_is : is_label q ≡ true → e.at ≡ address_in seen s
      at_is l = ap (λ (x : Symbol). x.at) (entry_at w a seen h i low) ∙ (λ j. cond (l j) (address_in seen (its_name.spells j)) (first_cell + f.before))

      -- its label is placed exactly if it stands before a command
      placed_is : (of_label e.kind && not (eqb e.at pending)) ≡ among is_definition s us
      placed_is = by (way (is_label q)) (way (among is_definition s us))
        where
          by : Way (is_label q) → Way (among is_definition s us) → (of_label e.kind && not (eqb e.at pending)) ≡ among is_definition s us
          by (holds l) (holds m) =
              (λ j. (kind_is ∙ l) j && not (eqb (at_is l j) pending)) ∙ ap not (below_other (address_in seen s) (placed_below a.text.now seen h.sound s m)) ∙ sym m
          by (holds l) (fails m) =
              (λ j. (kind_is ∙ l) j && not (eqb ((at_is l ∙ pending_none seen s m) j) pending)) ∙ sym m
          by (fails l) (fails m) = (λ j. (kind_is ∙ l) j && not (eqb e.at pending)) ∙ sym m
          by (fails l) (holds m) =
              let x = among_sound is_definition s us m in
              absurd (kinds_agree w us h.accepted q x.0 s used_so x.1 (differs_from q x.0 (record {
                first_name = its_name.is_name;
                second_name = label_not_literal x.0 (definition_label x.0 x.2);
                kinds = (λ j. unlike (l j) (definition_label x.0 x.2 j));
              })))

      second_is : (is_definition r && (of_label e.kind && not (eqb e.at pending))) ≡ (is_definition r && among is_definition s us)
      second_is = ap (λ x. is_definition r && x) placed_is

      pub known_number_is : use_refusal w us (made r s) ≡ number_of (known_refusal r e)
      known_number_is = by (way (is_definition r && among is_definition s us)) (way (unlike (is_label r) (is_label q)))
        where
          by : Way (is_definition r && among is_definition s us) → Way (unlike (is_label r) (is_label q)) → use_refusal w us (made r s) ≡ number_of (known_refusal r e)
          by (holds d) k =
              let x = and_parts (is_definition r) (among is_definition s us) d in
              exact.second_definition w us r s is_name short h.accepted q used_so its_name.is_name x.0 x.1
              ∙ sym (ap (λ b. number_of (cond b (Some DuplicateLabel) (cond (unlike (is_label r) (of_label e.kind)) (Some MixedKind) None))) (second_is ∙ d))
          by (fails d) (holds k) =
              exact.other_kind w us r s is_name short h.accepted q used_so its_name.is_name d k
              ∙ sym ((λ j. number_of (cond ((second_is ∙ d) j) (Some DuplicateLabel) (cond (unlike (is_label r) (kind_is j)) (Some MixedKind) None))) ∙ ap (λ b. number_of (cond b (Some MixedKind) None)) k)
          by (fails d) (fails k) =
              exact.same_kind w us r s is_name short h.accepted q used_so its_name.is_name d (unlike_same _ _ k)
              ∙ sym ((λ j. number_of (cond ((second_is ∙ d) j) (Some DuplicateLabel) (cond (unlike (is_label r) (kind_is j)) (Some MixedKind) None))) ∙ ap (λ b. number_of (cond b (Some MixedKind) None)) k)

      -- none stands
      module _ (fine : known_refusal r e ≡ None) where
        no_refusal : use_refusal w us (made r s) ≡ maybe.none
        no_refusal = known_number_is ∙ ap number_of fine

        same_kind : is_label r ≡ is_label q
        same_kind = by (way (is_definition r && (of_label e.kind && not (eqb e.at pending)))) (way (unlike (is_label r) (of_label e.kind)))
          where
            by : Way (is_definition r && (of_label e.kind && not (eqb e.at pending))) → Way (unlike (is_label r) (of_label e.kind)) → is_label r ≡ is_label q
            by (holds d) k = absurd (none-some DuplicateLabel (sym fine ∙ ap (λ b. cond b (Some DuplicateLabel) (cond (unlike (is_label r) (of_label e.kind)) (Some MixedKind) None)) d))
            by (fails d) (holds k) = absurd (none-some MixedKind (sym fine ∙ (λ j. cond (d j) (Some DuplicateLabel) (cond (k j) (Some MixedKind) None))))
            by (fails d) (fails k) = unlike_same _ _ k ∙ kind_is

        its_key : key_of w f ≡ key_by w r s
        its_key = key_name w q f.mention.used.spelling its_name.is_name ∙ (λ j. name_key (sym same_kind j) (its_name.spells j)) ∙ sym (key_name w r s is_name)

        is_known : known w (key_by w r s) us ≡ true
        is_known = ap (λ x. known w x us) (sym its_key) ∙ (the_first w a seen h i low).is_known

        its_index : i ≡ index w (key_by w r s) (made r s ∷ us)
        its_index = sym (ap (λ b. cond b (index w (key_by w r s) us) (cells w us + labels w us)) is_known ∙ ap (λ x. index w x us) (sym its_key) ∙ (the_first w a seen h i low).at_index)

        pub old_taken : is_definition r ≡ false → Taken w a seen (mention r s at.place address) i
        old_taken d = record { no_refusal = no_refusal; holds = holds_old w a seen h (mention r s at.place address) no_refusal snd is_known d; is_index = its_index }

        pub placed_taken : (b : Table) → is_definition r ≡ true → PlacesLabel a b i address → Taken w b seen (mention r s at.place address) i
        placed_taken b d x =
            let l = definition_label r d in
            record {
              no_refusal = no_refusal;
              holds = holds_placed w a seen h (mention r s at.place address) no_refusal snd is_known b i low (its_key ∙ label_keyed w r s l) (sym same_kind ∙ l) its_name.spells d x;
              is_index = its_index;
            }

    -- it has none
    module _ (missing : (i : ℕ) → i < size a → is_named a.text.now at (get_or a.symbols.now i blank) ≡ false) where
      no_label : known w (label_key s) us ≡ false
      no_label = no_label_key w a seen h at s sized snd.bytes missing

      no_variable : known w (variable_key s) us ≡ false
      no_variable = no_variable_key w a seen h at s sized snd.bytes missing

      pub room_number_is : use_refusal w us (made r s) ≡ number_of (room_refusal r a.celled a.labels)
      room_number_is = by (way (is_label r)) (way (leb label_limit a.labels)) (way (leb cell_limit a.celled))
        where
          by : Way (is_label r) → Way (leb label_limit a.labels) → Way (leb cell_limit a.celled) → use_refusal w us (made r s) ≡ number_of (room_refusal r a.celled a.labels)
          by (holds l) (holds m) c =
              exact.no_room w us r s is_name short no_label no_variable l (let x = leb-true label_limit a.labels m in omega (arith, h.label_count))
              ∙ sym (λ j. number_of (cond (l j) (cond (m j) (Some TooManyLabels) None) (cond (leb cell_limit a.celled) (Some TooManyCells) None)))
          by (holds l) (fails m) c =
              exact.some_room w us r s is_name short no_label no_variable l (let x = leb-false label_limit a.labels m in omega (arith, h.label_count))
              ∙ sym (λ j. number_of (cond (l j) (cond (m j) (Some TooManyLabels) None) (cond (leb cell_limit a.celled) (Some TooManyCells) None)))
          by (fails l) m (holds c) =
              exact.no_cell w us r s is_name short no_label no_variable l (let x = leb-true cell_limit a.celled c in omega (arith, h.cell_count))
              ∙ sym (λ j. number_of (cond (l j) (cond (leb label_limit a.labels) (Some TooManyLabels) None) (cond (c j) (Some TooManyCells) None)))
          by (fails l) m (fails c) =
              exact.some_cell w us r s is_name short no_label no_variable l (let x = leb-false cell_limit a.celled c in omega (arith, h.cell_count))
              ∙ sym (λ j. number_of (cond (l j) (cond (leb label_limit a.labels) (Some TooManyLabels) None) (cond (c j) (Some TooManyCells) None)))

      module _ (fine : room_refusal r a.celled a.labels ≡ None) where
        none_stands : use_refusal w us (made r s) ≡ maybe.none
        none_stands = room_number_is ∙ ap number_of fine

        new_key : known w (key_by w r s) us ≡ false
        new_key = exact.new_name w us r s is_name short no_label no_variable

        new_index : size a ≡ index w (key_by w r s) (made r s ∷ us)
        new_index = (λ i. h.cell_count i + h.label_count i) ∙ sym (ap (λ x. cond x (index w (key_by w r s) us) (cells w us + labels w us)) new_key)

        few_labels : is_label r ≡ true → a.labels < 256
        few_labels l = by (way (leb label_limit a.labels))
          where
            by : Way (leb label_limit a.labels) → a.labels < 256
            by (fails m) = leb-false label_limit a.labels m
            by (holds m) = absurd (none-some TooManyLabels (sym fine ∙ (λ j. cond (l j) (cond (m j) (Some TooManyLabels) None) (cond (leb cell_limit a.celled) (Some TooManyCells) None))))

        few_cells : is_label r ≡ false → a.celled < 446
        few_cells l = by (way (leb cell_limit a.celled))
          where
            by : Way (leb cell_limit a.celled) → a.celled < 446
            by (fails m) = leb-false cell_limit a.celled m
            by (holds m) = absurd (none-some TooManyCells (sym fine ∙ (λ j. cond (l j) (cond (leb label_limit a.labels) (Some TooManyLabels) None) (cond (m j) (Some TooManyCells) None))))

        -- where the label stands then
        then_at : cond (is_definition r) address pending ≡ address_in (mention r s at.place address ∷ seen) s
        then_at = by (way (is_definition r))
          where
            use_s : address_in seen s ≡ pending
            use_s = pending_none seen s (exact.no_definition w us r s is_name short no_label no_variable)

            by : Way (is_definition r) → cond (is_definition r) address pending ≡ address_in (mention r s at.place address ∷ seen) s
            by (holds d) = ap (λ b. cond b address pending) d ∙ sym (exact.defined_here seen (mention r s at.place address) d)
            by (fails d) = ap (λ b. cond b address pending) d ∙ sym (exact.defined_not seen (mention r s at.place address) s d ∙ use_s)

        pub new_taken : (b : Table) → AddsName a b r at (cond (is_definition r) address pending) → Taken w b seen (mention r s at.place address) (size a)
        new_taken b x = record { no_refusal = none_stands; holds = by (way (is_label r)); is_index = new_index }
          where
            by : Way (is_label r) → Holds w b (mention r s at.place address ∷ seen)
            by (holds l) =
                let y : AddsLabel a b (label_symbol at (cond (is_definition r) address pending)) =
                subst (λ (z : Bool). cond z (AddsLabel a b (label_symbol at (cond (is_definition r) address pending))) (AddsCell a b (cell_symbol Variable at a.celled) (pos 0))) l x in
                holds_label w a seen h (mention r s at.place address) none_stands snd new_key b (cond (is_definition r) address pending) l then_at no_label
                (subst (λ (z : ℕ). AddsLabel a b (label_symbol (record { place = at.place; length = z }) (cond (is_definition r) address pending))) (sym sized) y) (few_labels l)
            by (fails l) =
                let y : AddsCell a b (cell_symbol Variable at a.celled) (pos 0) =
                subst (λ (z : Bool). cond z (AddsLabel a b (label_symbol at (cond (is_definition r) address pending))) (AddsCell a b (cell_symbol Variable at a.celled) (pos 0))) l x in
                holds_cell w a seen h (mention r s at.place address) none_stands snd new_key b Variable (pos 0) l (sym (role_of_variable r is_name l)) (sym (ap (λ z. cond z (word w s) (pos 0)) is_name))
                (subst (λ (z : ℕ). AddsCell a b (cell_symbol Variable (record { place = at.place; length = z }) a.celled) (pos 0)) (sym sized) y) (few_cells l)

-- a number at a place, with the word v
module _ (w : Words) (a : Table) (seen : List Mention) (h : Holds w a seen) (s : List ℕ) (at : Spelling) (address : ℕ) (v : ℤ)
    (sized : length s ≡ at.length) (snd : Sound a.text.now (mention number_use s at.place address)) (valued : word w s ≡ v) where
  abbrev uses : List Use
  uses = uses_of seen

  abbrev the_key : Key
  the_key = number_key (word w s)

  pub number_old : (i : ℕ) → i < size a → is_valued a.cells.now v (get_or a.symbols.now i blank) ≡ true → Taken w a seen (mention number_use s at.place address) i
  number_old i l e =
      let k : key_of w (the w a seen h i) ≡ the_key = number_found w a seen h v i l e ∙ ap number_key (sym valued) in
      let kn : known w the_key uses ≡ true = ap (λ x. known w x uses) (sym k) ∙ (the_first w a seen h i l).is_known in
      let none = exact.known_number w uses s kn in
      record {
        no_refusal = none;
        holds = holds_old w a seen h (mention number_use s at.place address) none snd kn refl;
        is_index = sym (ap (λ b. cond b (index w the_key uses) (cells w uses + labels w uses)) kn ∙ ap (λ x. index w x uses) (sym k) ∙ (the_first w a seen h i l).at_index);
      }

  module _ (missing : (i : ℕ) → i < size a → is_valued a.cells.now v (get_or a.symbols.now i blank) ≡ false) where
    unknown : known w the_key uses ≡ false
    unknown = ap (λ x. known w (number_key x) uses) valued ∙ no_number_key w a seen h v missing

    pub number_full : leb cell_limit a.celled ≡ true → use_refusal w uses (made number_use s) ≡ maybe.some 7
    number_full e = exact.full_number w uses s unknown (let x = leb-true cell_limit a.celled e in omega (arith, h.cell_count))

    pub number_new : (b : Table) → leb cell_limit a.celled ≡ false → AddsCell a b (cell_symbol Number at a.celled) v → Taken w b seen (mention number_use s at.place address) (size a)
    number_new b e x =
        let l = leb-false cell_limit a.celled e in
        let none = exact.new_number w uses s (omega (arith, h.cell_count)) in
        record {
          no_refusal = none;
          holds = holds_cell w a seen h (mention number_use s at.place address) none snd unknown b Number v refl refl (sym valued) (subst (λ (z : ℕ). AddsCell a b (cell_symbol Number (record { place = at.place; length = z }) a.celled) v) (sym sized) x) l;
          is_index = (λ i. h.cell_count i + h.label_count i) ∙ sym (ap (λ b. cond b (index w the_key uses) (cells w uses + labels w uses)) unknown);
        }

-- What changes keep.

module _ (a b : Table) where
  pub keeps_cell : (e : Symbol) (v : ℤ) → AddsCell a b e v → Keeps a b
  keeps_cell e v x = record {
    lent_symbols = x.lent_symbols;
    lent_cells = x.lent_cells;
    text = x.text;
    more_cells = omega (arith, x.celled_are);
    more_labels = omega (arith, x.labels_are);
    symbols_size = ap length x.symbols_are ∙ length-set a.symbols.now (size a) e;
    cells_size = ap length x.cells_are ∙ length-set a.cells.now (first_cell + a.celled) v;
    symbols_beyond = λ n l. ap (drop n) x.symbols_are ∙ drop-set-lt n a.symbols.now (size a) e (omega (arith, x.celled_are, x.labels_are));
    cells_below = ap (take first_cell) x.cells_are ∙ take-set-le first_cell a.cells.now (first_cell + a.celled) v (omega arith);
    cells_beyond = λ n l. ap (drop n) x.cells_are ∙ drop-set-lt n a.cells.now (first_cell + a.celled) v (omega (arith, x.celled_are));
  }

  pub keeps_label : (e : Symbol) → AddsLabel a b e → Keeps a b
  keeps_label e x = record {
    lent_symbols = x.lent_symbols;
    lent_cells = x.lent_cells;
    text = x.text;
    more_cells = omega (arith, x.celled_are);
    more_labels = omega (arith, x.labels_are);
    symbols_size = ap length x.symbols_are ∙ length-set a.symbols.now (size a) e;
    cells_size = ap length x.cells_are;
    symbols_beyond = λ n l. ap (drop n) x.symbols_are ∙ drop-set-lt n a.symbols.now (size a) e (omega (arith, x.celled_are, x.labels_are));
    cells_below = ap (take first_cell) x.cells_are;
    cells_beyond = λ n l. ap (drop n) x.cells_are;
  }

  pub keeps_name : (r : Role) (at : Spelling) (address : ℕ) → AddsName a b r at address → Keeps a b
  keeps_name r at address x = by (way (is_label r))
    where
      by : Way (is_label r) → Keeps a b
      by (holds l) = keeps_label _ (subst (λ (z : Bool). cond z (AddsLabel a b (label_symbol at address)) (AddsCell a b (cell_symbol Variable at a.celled) (pos 0))) l x)
      by (fails l) = keeps_cell _ (pos 0) (subst (λ (z : Bool). cond z (AddsLabel a b (label_symbol at address)) (AddsCell a b (cell_symbol Variable at a.celled) (pos 0))) l x)

-- the word of digits
pub word_of : (w : Words) (bs : List ℕ) (v : ℤ) → Some v ≡ word_if_digits w bs → (every digit bs ≡ true) × (word w bs ≡ v)
word_of w bs v e = by (way (every digit bs))
  where
    by : Way (every digit bs) → (every digit bs ≡ true) × (word w bs ≡ v)
    by (holds d) = let z : Some v ≡ Some (word w bs) = e ∙ ap (λ b. cond b (Some (word w bs)) None) d in (d, word_inj z)
      where
        word_inj : Some v ≡ Some (word w bs) → word w bs ≡ v
        word_inj z = cc
    by (fails d) = let z : Some v ≡ None = e ∙ ap (λ b. cond b (Some (word w bs)) None) d in absurd (not_none z)
      where
        not_none : Some v ≡ None → ⊥
        not_none z = cc
