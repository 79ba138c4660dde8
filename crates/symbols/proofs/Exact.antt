-- Which of the refusals 4 to 8 stands at a use, by what is found of its name or number.
use Rattle.std.proofs.Common.{◌≡◌, ℕ, ◌<◌, ◌≤◌, Bool, true, false, cond, not, ◌&&◌, ◌||◌, ltb, leb, ◌⊎◌, List, [], ◌∷◌, length, sym, refl, ap, ◌∙◌, subst, inl, inr}
use mathlib.Core.Option.{Option, none, some, none-ne-some}
use Rattle.std.specs.Str.{bytes_eq}
use Rattle.std.proofs.lemmas.Bool.{false≢true, and_left, and_right, and_parts, and_from, le-leb, lt-leb, lt-ltb, le-ltb, not-true, not_from_false}
use Rattle.token.specs.Numbers.{word}
use Rattle.arithmetic.specs.Words.{Words}
use Rattle.limits.specs.Uses.{Role, definition, target, listed, variable_use, number_use, Use, made, In, at_head, in_tail, is_literal, is_definition, is_label, Key, label_key, variable_key, number_key, key_by, known, cells, labels}
use Rattle.limits.specs.Rules.{name_limit, cell_limit, label_limit}
use Rattle.limits.specs.Refusals.{among, differ, unlike}
use Rattle.limits.proofs.Keys.{Way, holds, fails, way, clash, among_sound, among_complete, known_complete, same_bytes_complete}
use Rattle.symbols.specs.Mentions.{Mention, uses_of, pending, address_in, AllSound, use_refusal, Accepted}

-- the lowest of five
abbrev pub answer : Bool → Bool → Bool → Bool → Bool → Option ℕ
answer a b c d e = cond a (some 4) (cond b (some 5) (cond c (some 6) (cond d (some 7) (cond e (some 8) none))))

pub five_fails : (a b c d e : Bool) → answer a b c d e ≡ none → b ≡ false
five_fails true b c d e h = absurd (none-ne-some 4 (sym h))
five_fails false true c d e h = absurd (none-ne-some 5 (sym h))
five_fails false false c d e h = refl

pub seven_fails : (a b c d e : Bool) → answer a b c d e ≡ none → d ≡ false
seven_fails true b c d e h = absurd (none-ne-some 4 (sym h))
seven_fails false true c d e h = absurd (none-ne-some 5 (sym h))
seven_fails false false true d e h = absurd (none-ne-some 6 (sym h))
seven_fails false false false true e h = absurd (none-ne-some 7 (sym h))
seven_fails false false false false e h = refl

pub eight_fails : (a b c d e : Bool) → answer a b c d e ≡ none → e ≡ false
eight_fails true b c d e h = absurd (none-ne-some 4 (sym h))
eight_fails false true c d e h = absurd (none-ne-some 5 (sym h))
eight_fails false false true d e h = absurd (none-ne-some 6 (sym h))
eight_fails false false false true e h = absurd (none-ne-some 7 (sym h))
eight_fails false false false false true h = absurd (none-ne-some 8 (sym h))
eight_fails false false false false false h = refl

six_fails : (a b c d e : Bool) → answer a b c d e ≡ none → c ≡ false
six_fails true b c d e h = absurd (none-ne-some 4 (sym h))
six_fails false true c d e h = absurd (none-ne-some 5 (sym h))
six_fails false false true d e h = absurd (none-ne-some 6 (sym h))
six_fails false false false d e h = refl

-- roles
pub definition_label : (r : Role) → is_definition r ≡ true → is_label r ≡ true
definition_label definition e = refl
definition_label target e = refl
definition_label listed e = refl
definition_label variable_use e = absurd (false≢true e)
definition_label number_use e = absurd (false≢true e)

pub label_not_literal : (r : Role) → is_label r ≡ true → is_literal r ≡ false
label_not_literal definition e = refl
label_not_literal target e = refl
label_not_literal listed e = refl
label_not_literal variable_use e = refl
label_not_literal number_use e = absurd (false≢true e)

-- the key of a name
abbrev pub name_key : Bool → List ℕ → Key
name_key true s = label_key s
name_key false s = variable_key s

pub key_name : (w : Words) (r : Role) (s : List ℕ) → is_literal r ≡ false → key_by w r s ≡ name_key (is_label r) s
key_name w definition s e = refl
key_name w target s e = refl
key_name w listed s e = refl
key_name w variable_use s e = refl
key_name w number_use s e = absurd (clash refl e)

unlike_refl : (a : Bool) → unlike a a ≡ false
unlike_refl true = refl
unlike_refl false = refl

unlike_sym : (a b : Bool) → unlike a b ≡ unlike b a
unlike_sym true true = refl
unlike_sym true false = refl
unlike_sym false true = refl
unlike_sym false false = refl

pub record Differs (r q : Role) : Type 0 where
  pub first_name : is_literal r ≡ false
  pub second_name : is_literal q ≡ false
  pub kinds : unlike (is_label r) (is_label q) ≡ true

pub differs : (r q : Role) → differ r q ≡ true → Differs r q
differs r q e =
    let a = and_parts (not (is_literal r)) (not (is_literal q) && unlike (is_label r) (is_label q)) e in
    let b = and_parts (not (is_literal q)) (unlike (is_label r) (is_label q)) a.1 in
    record { first_name = not-true (is_literal r) a.0; second_name = not-true (is_literal q) b.0; kinds = b.1 }

pub differs_from : (r q : Role) → Differs r q → differ r q ≡ true
differs_from r q d =
    and_from (not (is_literal r)) (not (is_literal q) && unlike (is_label r) (is_label q)) (not_from_false (is_literal r) d.first_name)
    (and_from (not (is_literal q)) (unlike (is_label r) (is_label q)) (not_from_false (is_literal q) d.second_name) d.kinds)

differ_refl : (r : Role) → differ r r ≡ true → ⊥
differ_refl r e = clash (differs r r e).kinds (unlike_refl (is_label r))

differ_sym : (r q : Role) → differ r q ≡ true → differ q r ≡ true
differ_sym r q e =
    let d = differs r q e in
    differs_from q r (record { first_name = d.second_name; second_name = d.first_name; kinds = unlike_sym (is_label q) (is_label r) ∙ d.kinds })

-- a test of names fails where none passes
none_among : (test : Role → Bool) (s : List ℕ) (us : List Use) → ((q : Role) → In (made q s) us → test q ≡ true → ⊥) → among test s us ≡ false
none_among test s us h = by (way (among test s us))
  where
    by : Way (among test s us) → among test s us ≡ false
    by (fails e) = e
    by (holds e) = let x = among_sound test s us e in absurd (h x.0 x.1 x.2)

pub in_cases : {A : Type 0} {x v : A} {xs : List A} → In x (v ∷ xs) → (v ≡ x) ⊎ In x xs
in_cases at_head = inl refl
in_cases (in_tail i) = inr i

module _ (w : Words) where
  -- the five tests
  abbrev pub is_long_lem : Role → List ℕ → Bool
  is_long_lem r s = not (is_literal r) && ltb name_limit (length s)

  abbrev pub is_second : List Use → Role → List ℕ → Bool
  is_second us r s = is_definition r && among is_definition s us

  abbrev pub is_other : List Use → Role → List ℕ → Bool
  is_other us r s = among (differ r) s us

  abbrev pub no_cell_left : List Use → Role → List ℕ → Bool
  no_cell_left us r s = not (is_label r) && (not (known w (key_by w r s) us) && leb cell_limit (cells w us))

  abbrev pub no_label_left : List Use → Role → List ℕ → Bool
  no_label_left us r s = is_label r && (not (known w (key_by w r s) us) && leb label_limit (labels w us))

  -- no name among accepted uses is of two kinds
  pub kinds_agree : (us : List Use) → Accepted w us → (r q : Role) (s : List ℕ) → In (made r s) us → In (made q s) us → differ r q ≡ true → ⊥
  kinds_agree [] a r q s i j e = elim i [ ]
  kinds_agree (u ∷ us) a r q s i j e =
      go u (six_fails (is_long_lem u.role u.spelling) (is_second us u.role u.spelling) (is_other us u.role u.spelling) (no_cell_left us u.role u.spelling) (no_label_left us u.role u.spelling) a.0) i j
      (λ i j. kinds_agree us a.1 r q s i j e)
    where
      go : (v : Use) → among (differ v.role) v.spelling us ≡ false → In (made r s) (v ∷ us) → In (made q s) (v ∷ us) → (In (made r s) us → In (made q s) us → ⊥) → ⊥
      go v h i j ih = by (in_cases i) (in_cases j)
        where
          by : (v ≡ made r s) ⊎ In (made r s) us → (v ≡ made q s) ⊎ In (made q s) us → ⊥
          by (inl a) (inl b) = differ_refl r (subst (λ (x : Role). differ r x ≡ true) (ap (λ (x : Use). x.role) (sym b ∙ a)) e)
          by (inl a) (inr j) = clash (among_complete (differ r) q s us j e) (subst (λ (x : Use). among (differ x.role) x.spelling us ≡ false) a h)
          by (inr i) (inl b) = clash (among_complete (differ q) r s us i (differ_sym r q e)) (subst (λ (x : Use). among (differ x.role) x.spelling us ≡ false) b h)
          by (inr i) (inr j) = ih i j

  pub long_name : (us : List Use) (r : Role) (s : List ℕ) → is_literal r ≡ false → name_limit < length s → use_refusal w us (made r s) ≡ some 4
  long_name us r s n l =
      let p : is_long_lem r s ≡ true = and_from (not (is_literal r)) (ltb name_limit (length s)) (not_from_false (is_literal r) n) (lt-ltb name_limit (length s) l) in
      (λ i. answer (p i) (is_second us r s) (is_other us r s) (no_cell_left us r s) (no_label_left us r s))

  -- a known symbol needs no room
  module _ (us : List Use) (r : Role) (s : List ℕ) (h : known w (key_by w r s) us ≡ true) where
    has_cell : no_cell_left us r s ≡ false
    has_cell = and_right (not (is_label r)) _ (ap (λ x. not x && leb cell_limit (cells w us)) h)

    has_label : no_label_left us r s ≡ false
    has_label = and_right (is_label r) _ (ap (λ x. not x && leb label_limit (labels w us)) h)

  -- a short name
  module _ (us : List Use) (r : Role) (s : List ℕ) (is_name : is_literal r ≡ false) (short : length s ≤ name_limit) where
    four : is_long_lem r s ≡ false
    four = and_right (not (is_literal r)) _ (le-ltb name_limit (length s) short)

    -- that is found, in the role q
    module _ (ok : Accepted w us) (q : Role) (found : In (made q s) us) (name-too : is_literal q ≡ false) where
      pub second_definition : is_definition r ≡ true → among is_definition s us ≡ true → use_refusal w us (made r s) ≡ some 5
      second_definition d a =
          let p : is_second us r s ≡ true = and_from (is_definition r) (among is_definition s us) d a in
          (λ i. answer (four i) (p i) (is_other us r s) (no_cell_left us r s) (no_label_left us r s))

      module _ (five : is_second us r s ≡ false) where
        pub other_kind : unlike (is_label r) (is_label q) ≡ true → use_refusal w us (made r s) ≡ some 6
        other_kind k =
            let p : is_other us r s ≡ true = among_complete (differ r) q s us found (differs_from r q (record { first_name = is_name; second_name = name-too; kinds = k })) in
            (λ i. answer (four i) (five i) (p i) (no_cell_left us r s) (no_label_left us r s))

        pub known_again : is_label r ≡ is_label q → known w (key_by w r s) us ≡ true
        known_again k = known_complete w (key_by w r s) (made q s) us found (key_name w q s name-too ∙ ap (λ x. name_key x s) (sym k) ∙ sym (key_name w r s is_name))

        not_other : is_label r ≡ is_label q → is_other us r s ≡ false
        not_other k = none_among (differ r) s us (λ p i e. differs_not p i (differs r p e))
          where
            differs_not : (p : Role) → In (made p s) us → Differs r p → ⊥
            differs_not p i d = kinds_agree us ok q p s found i (differs_from q p (record { first_name = name-too; second_name = d.second_name; kinds = ap (λ x. unlike x (is_label p)) (sym k) ∙ d.kinds }))

        pub same_kind : is_label r ≡ is_label q → use_refusal w us (made r s) ≡ none
        same_kind k =
            let h = known_again k in
            (λ i. answer (four i) (five i) (not_other k i) (has_cell us r s h i) (has_label us r s h i))

    -- that is not found
    module _ (no_label : known w (label_key s) us ≡ false) (no_variable : known w (variable_key s) us ≡ false) where
      none_named : (q : Role) → is_literal q ≡ false → In (made q s) us → ⊥
      none_named q n i = go (is_label q) (known_complete w (name_key (is_label q) s) (made q s) us i (key_name w q s n))
        where
          go : (b : Bool) → known w (name_key b s) us ≡ true → ⊥
          go true e = clash e no_label
          go false e = clash e no_variable

      pub new_name : known w (key_by w r s) us ≡ false
      new_name = ap (λ x. known w x us) (key_name w r s is_name) ∙ go (is_label r)
        where
          go : (b : Bool) → known w (name_key b s) us ≡ false
          go true = no_label
          go false = no_variable

      pub no_definition : among is_definition s us ≡ false
      no_definition = none_among is_definition s us (λ q i e. none_named q (label_not_literal q (definition_label q e)) i)

      not_second : is_second us r s ≡ false
      not_second = and_right (is_definition r) _ no_definition

      first_kind : is_other us r s ≡ false
      first_kind = none_among (differ r) s us (λ q i e. none_named q (differs r q e).second_name i)

      pub no_cell : is_label r ≡ false → cell_limit ≤ cells w us → use_refusal w us (made r s) ≡ some 7
      no_cell l h =
          let p : no_cell_left us r s ≡ true =
          and_from (not (is_label r)) _ (not_from_false (is_label r) l) (and_from (not (known w (key_by w r s) us)) _ (not_from_false (known w (key_by w r s) us) new_name) (le-leb cell_limit (cells w us) h)) in
          (λ i. answer (four i) (not_second i) (first_kind i) (p i) (no_label_left us r s))

      pub some_cell : is_label r ≡ false → cells w us < cell_limit → use_refusal w us (made r s) ≡ none
      some_cell l h =
          let p : no_cell_left us r s ≡ false = and_right (not (is_label r)) _ (and_right (not (known w (key_by w r s) us)) _ (lt-leb cell_limit (cells w us) h)) in
          let q : no_label_left us r s ≡ false = and_left (is_label r) _ l in
          (λ i. answer (four i) (not_second i) (first_kind i) (p i) (q i))

      pub no_room : is_label r ≡ true → label_limit ≤ labels w us → use_refusal w us (made r s) ≡ some 8
      no_room l h =
          let p : no_cell_left us r s ≡ false = and_left (not (is_label r)) _ (ap not l) in
          let q : no_label_left us r s ≡ true =
          and_from (is_label r) _ l (and_from (not (known w (key_by w r s) us)) _ (not_from_false (known w (key_by w r s) us) new_name) (le-leb label_limit (labels w us) h)) in
          (λ i. answer (four i) (not_second i) (first_kind i) (p i) (q i))

      pub some_room : is_label r ≡ true → labels w us < label_limit → use_refusal w us (made r s) ≡ none
      some_room l h =
          let p : no_cell_left us r s ≡ false = and_left (not (is_label r)) _ (ap not l) in
          let q : no_label_left us r s ≡ false = and_right (is_label r) _ (and_right (not (known w (key_by w r s) us)) _ (lt-leb label_limit (labels w us) h)) in
          (λ i. answer (four i) (not_second i) (first_kind i) (p i) (q i))

  -- a number
  module _ (us : List Use) (s : List ℕ) where
    one_kind : is_other us number_use s ≡ false
    one_kind = none_among (differ number_use) s us (λ q i e. false≢true e)

    pub known_number : known w (number_key (word w s)) us ≡ true → use_refusal w us (made number_use s) ≡ none
    known_number h = (λ i. answer false false (one_kind i) (has_cell us number_use s h i) false)

    pub full_number : known w (number_key (word w s)) us ≡ false → cell_limit ≤ cells w us → use_refusal w us (made number_use s) ≡ some 7
    full_number k h =
        let p : no_cell_left us number_use s ≡ true =
        and_from (not (known w (number_key (word w s)) us)) _ (not_from_false (known w (number_key (word w s)) us) k) (le-leb cell_limit (cells w us) h) in
        (λ i. answer false false (one_kind i) (p i) false)

    pub new_number : cells w us < cell_limit → use_refusal w us (made number_use s) ≡ none
    new_number h =
        let p : no_cell_left us number_use s ≡ false = and_right (not (known w (number_key (word w s)) us)) _ (lt-leb cell_limit (cells w us) h) in
        (λ i. answer false false (one_kind i) (p i) false)

-- a label is pending exactly if it stands before no command
pub pending_none : (seen : List Mention) (s : List ℕ) → among is_definition s (uses_of seen) ≡ false → address_in seen s ≡ pending
pending_none [] s e = refl
pending_none (m ∷ seen) s e = go (is_definition m.used.role && bytes_eq s m.used.spelling) e (λ h. pending_none seen s h)
  where
    go : (b : Bool) → (b || among is_definition s (uses_of seen)) ≡ false → (among is_definition s (uses_of seen) ≡ false → address_in seen s ≡ pending) → cond b m.address (address_in seen s) ≡ pending
    go true e ih = absurd (clash refl e)
    go false e ih = ih e

pub placed_below : (text : List ℕ) (seen : List Mention) → AllSound text seen → (s : List ℕ) → among is_definition s (uses_of seen) ≡ true → address_in seen s < pending
placed_below text [] a s e = absurd (false≢true e)
placed_below text (m ∷ seen) a s e = go (is_definition m.used.role && bytes_eq s m.used.spelling) e (λ h. placed_below text seen a.1 s h)
  where
    go : (b : Bool) → (b || among is_definition s (uses_of seen)) ≡ true → (among is_definition s (uses_of seen) ≡ true → address_in seen s < pending) → cond b m.address (address_in seen s) < pending
    go true e ih = a.0.address
    go false e ih = ih e

-- the address of a label after one mention more
pub defined_here : (seen : List Mention) (m : Mention) → is_definition m.used.role ≡ true → address_in (m ∷ seen) m.used.spelling ≡ m.address
defined_here seen m d =
    (λ i. cond (d i && same_bytes_complete m.used.spelling m.used.spelling refl i) m.address (address_in seen m.used.spelling))

pub defined_not : (seen : List Mention) (m : Mention) (s : List ℕ) → is_definition m.used.role ≡ false → address_in (m ∷ seen) s ≡ address_in seen s
defined_not seen m s d = (λ i. cond (d i && bytes_eq s m.used.spelling) m.address (address_in seen s))
