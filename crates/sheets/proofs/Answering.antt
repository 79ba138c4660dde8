-- One refusal, or one program with one image.
use Rattle.std.proofs.Common.{◌≡◌, ℕ, ◌⊎◌, List, length, sym, refl, ap, ◌∙◌, inl, inr}
use mathlib.Core.Option.{Option, none, some, some-injective, none-ne-some}
use Rattle.token.specs.Lexis.{tokens}
use Rattle.trees.specs.Trees.{Program}
use Rattle.arithmetic.specs.Words.{Words}
use Rattle.grammar.specs.Machine.{parse}
use Rattle.grammar.proofs.Theorems.{parse_sound, parse_complete, one_reading}
use Rattle.limits.specs.Rules.{Refused}
use Rattle.limits.proofs.Answer as answer
use Rattle.runs.specs.Code.{program_size}
use Rattle.sheets.specs.Images.{plain_tokens, refusal_of, Refuses, Accepts, Image, image_of, image_by, image}
use Rattle.sheets.specs.Laws.{OneImage}

-- what the rules say and what is computed
module _ (w : Words) (text : List ℕ) where
  some_refuses : (r : Refused) → refusal_of w text ≡ some r → Refuses w text r
  some_refuses = answer.some_refusal w program_size (length text) (tokens text)

  refuses_some : (r : Refused) → Refuses w text r → refusal_of w text ≡ some r
  refuses_some = answer.refusal_some w program_size (length text) (tokens text)

  pub none_accepts : refusal_of w text ≡ none → (p : Program) × Accepts w text p
  none_accepts = answer.none_accepted w program_size (length text) (tokens text)

  accepts_none : (p : Program) → Accepts w text p → refusal_of w text ≡ none
  accepts_none = answer.accepted_none w program_size (length text) (tokens text)

  one_of : ((r : Refused) × Refuses w text r) ⊎ ((p : Program) × Accepts w text p)
  one_of = go (refusal_of w text) refl
    where
      go : (o : Option Refused) → refusal_of w text ≡ o → ((r : Refused) × Refuses w text r) ⊎ ((p : Program) × Accepts w text p)
      go none e = inr (none_accepts e)
      go (some r) e = inl (r, some_refuses r e)

  not_both : (r : Refused) (p : Program) → Refuses w text r → Accepts w text p → ⊥
  not_both r p a b = none-ne-some r (sym (accepts_none p b) ∙ refuses_some r a)

  one_refusal : (r q : Refused) → Refuses w text r → Refuses w text q → r ≡ q
  one_refusal r q a b = some-injective r q (sym (refuses_some r a) ∙ refuses_some q b)

  pub accepted_image : (p : Program) → Accepts w text p → image w text ≡ some (image_of w text p)
  accepted_image p a =
      let e : parse (plain_tokens text) ≡ some p = parse_complete (plain_tokens text) p a.parses in
      let f : refusal_of w text ≡ none = accepts_none p a in
      (λ i. image_by w text (e i) (f i))

  image_accepted : (i : Image) → image w text ≡ some i → (p : Program) × Accepts w text p × (i ≡ image_of w text p)
  image_accepted i = go (parse (plain_tokens text)) refl (refusal_of w text) refl
    where
      go : (o : Option Program) → parse (plain_tokens text) ≡ o → (r : Option Refused) → refusal_of w text ≡ r → image_by w text o r ≡ some i →
          (p : Program) × Accepts w text p × (i ≡ image_of w text p)
      go none e r f q = absurd (none-ne-some i q)
      go (some p) e (some r) f q = absurd (none-ne-some i q)
      go (some p) e none f q =
          let a = none_accepts f in
          let s : p ≡ a.0 = one_reading (plain_tokens text) p a.0 (parse_sound (plain_tokens text) p e) a.1.parses in
          (a.0, a.1, sym (some-injective (image_of w text p) i q) ∙ ap (image_of w text) s)

  no_image : (r : Refused) → Refuses w text r → image w text ≡ none
  no_image r a = ap (image_by w text (parse (plain_tokens text))) (refuses_some r a) ∙ go (parse (plain_tokens text))
    where
      go : (o : Option Program) → image_by w text o (some r) ≡ none
      go none = refl
      go (some p) = refl

pub one_image_lem : OneImage
one_image_lem = record {
  one_of = one_of;
  not_both = not_both;
  refuses = λ w text r. (refuses_some w text r, some_refuses w text r);
  accepts = λ w text. ((λ a. accepts_none w text a.0 a.1), none_accepts w text);
  one_refusal = one_refusal;
  one_program = λ v w text p q a b. one_reading (plain_tokens text) p q a.parses b.parses;
  accepted_image = accepted_image;
  image_accepted = image_accepted;
  no_image = no_image;
}
