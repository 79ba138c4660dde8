-- The addresses of labels by a draft's definitions and by a table's mentions.
use Rattle.std.proofs.Common.{◌≡◌, ℕ, min, Bool, true, false, cond, ◌&&◌, ◌||◌, eqb, List, [], ◌∷◌, sym, refl, ap, ◌∙◌}
use Rattle.std.specs.Str.{bytes_eq}
use Rattle.std.proofs.lemmas.Bool.{false≢true, or_parts}
use Rattle.trees.specs.Trees.{Name}
use Rattle.runs.specs.Names.{same}
use Rattle.limits.specs.Uses.{is_definition}
use Rattle.limits.specs.Rules.{code_limit}
use Rattle.limits.specs.Refusals.{among}
use Rattle.limits.proofs.Keys.{Way, holds, fails, way, same_bytes_sound}
use Rattle.emission.specs.Draft.{Definition}
use Rattle.emission.specs.Draft as draft
use Rattle.symbols.specs.Mentions.{Mention, uses_of, address_in}
use Rattle.symbols.proofs.Exact.{five_fails, is_long_lem, is_second, is_other, no_cell_left, no_label_left}
use Rattle.reading.specs.References.{Matches, neither, another_use, both}
use Rattle.reading.specs.Laws.{Placed}

-- two ways to compare names
pub same_is : (a b : Name) → same a b ≡ bytes_eq a b
same_is [] [] = refl
same_is [] (b ∷ bs) = refl
same_is (a ∷ as') [] = refl
same_is (a ∷ as') (b ∷ bs) = ap (λ x. eqb a b && x) (same_is as' bs)

-- a label that stands before no command has no definition
pub undefined : {ds : List Definition} {seen : List Mention} → Matches ds seen → (l : Name) (e : ℕ) → among is_definition l (uses_of seen) ≡ false → draft.address_in ds l e ≡ e
undefined neither l e n = refl
undefined (another_use {seen = seen} m d h) l e n = undefined h l e (or_parts (is_definition m.used.role && bytes_eq l m.used.spelling) (among is_definition l (uses_of seen)) n).1
undefined (both {ds = ds} {seen = seen} m a d q h) l e n =
    let x = or_parts (is_definition m.used.role && bytes_eq l m.used.spelling) (among is_definition l (uses_of seen)) n in
    let y : bytes_eq l m.used.spelling ≡ false = sym (ap (λ b. b && bytes_eq l m.used.spelling) d) ∙ x.0 in
    ap (λ b. draft.address_in ds l (cond b a e)) (same_is l m.used.spelling ∙ y) ∙ undefined h l e x.1

pub placed : Placed
placed w ds seen neither ok l e n = absurd (false≢true n)
placed w ds seen (another_use {seen = older} m d h) ok l e n =
    let p : (is_definition m.used.role && bytes_eq l m.used.spelling) ≡ false = ap (λ b. b && bytes_eq l m.used.spelling) d in
    ap (λ b. cond b m.address (address_in older l)) p ∙ placed w ds older h ok.1 l e (sym (ap (λ b. b || among is_definition l (uses_of older)) p) ∙ n)
placed w ds seen (both {ds = ds'} {seen = older} m a d q h) ok l e n = go (way (bytes_eq l m.used.spelling)) (placed w ds' older h ok.1 l e)
  where
    s : Name
    s = m.used.spelling

    -- the newest mention is one of the label if the names are the same
    newest : (b : Bool) → bytes_eq l s ≡ b → (is_definition m.used.role && bytes_eq l s) ≡ b
    newest b y = (λ i. d i && y i)

    first : (b : Bool) → bytes_eq l s ≡ b → draft.address_in ds' l (cond b a e) ≡ draft.address_in ds' l (cond (same l s) a e)
    first b y = ap (λ x. draft.address_in ds' l (cond x a e)) (sym (same_is l s ∙ y))

    go : Way (bytes_eq l s) → (among is_definition l (uses_of older) ≡ true → address_in older l ≡ min (draft.address_in ds' l e) code_limit) →
        cond (is_definition m.used.role && bytes_eq l s) m.address (address_in older l) ≡ min (draft.address_in ds' l (cond (same l s) a e)) code_limit
    go (fails y) ih =
        ap (λ b. cond b m.address (address_in older l)) (newest false y) ∙ ih (sym (ap (λ b. b || among is_definition l (uses_of older)) (newest false y)) ∙ n)
        ∙ ap (λ z. min z code_limit) (first false y)
    go (holds y) ih =
        let us = uses_of older in
        let r = m.used.role in
        let five : is_second w us r s ≡ false = five_fails (is_long_lem w r s) (is_second w us r s) (is_other w us r s) (no_cell_left w us r s) (no_label_left w us r s) ok.0 in
        let once : among is_definition l us ≡ false = ap (λ z. among is_definition z us) (same_bytes_sound l s y) ∙ sym (ap (λ b. b && among is_definition s us) d) ∙ five in
        ap (λ b. cond b m.address (address_in older l)) (newest true y) ∙ q ∙ ap (λ z. min z code_limit) (sym (undefined h l a once) ∙ first true y)
