-- Addresses by definitions.
use Rattle.std.proofs.Common.{◌≡◌, ℕ, Bool, true, false, cond, List, [], ◌∷◌, sym, refl, ap, ◌∙◌}
use Rattle.trees.specs.Trees.{Name}
use Rattle.runs.specs.Names.{same}
use Rattle.runs.proofs.Basics.{same_self}
use Rattle.limits.specs.Uses.{In, at_head, in_tail}
use Rattle.emission.specs.Draft.{Definition, address_in}
use Rattle.emission.specs.Laws.{Undefined}

pub stays : (l : Name) (x : Definition) (ds : List Definition) (e : ℕ) → same l x.label ≡ false → address_in (x ∷ ds) l e ≡ address_in ds l e
stays l x ds e h = ap (λ (b : Bool). address_in ds l (cond b x.address e)) h

pub undefined : (l : Name) (ds : List Definition) (e : ℕ) → Undefined l ds → address_in ds l e ≡ e
undefined l [] e h = refl
undefined l (x ∷ ds) e h = stays l x ds e (h x at_head) ∙ undefined l ds e (λ z i. h z (in_tail i))

pub first : (l : Name) (a : ℕ) (ds : List Definition) (e : ℕ) → Undefined l ds → address_in (record { label = l; address = a } ∷ ds) l e ≡ a
first l a ds e h = ap (λ (b : Bool). address_in ds l (cond b a e)) (same_self l) ∙ undefined l ds a h

pub defined : (l : Name) (x : Definition) (ds : List Definition) (e f : ℕ) → In x ds → same l x.label ≡ true → address_in ds l e ≡ address_in ds l f
defined l x [] e f i h = elim i [ ]
defined l x (z ∷ ds) e f at_head h = ap (λ (b : Bool). address_in ds l (cond b x.address e)) h ∙ sym (ap (λ (b : Bool). address_in ds l (cond b x.address f)) h)
defined l x (z ∷ ds) e f (in_tail i) h = defined l x ds (cond (same l z.label) z.address e) (cond (same l z.label) z.address f) i h
