-- What a translator has read is what the configuration that it is the image of has read.
use Rattle.std.proofs.Common.{◌≡◌, List, reverse, sym, refl, ◌∙◌, subst}
use mathlib.Core.Option.{Option, none, some, map, some-injective, none-ne-some}
use Rattle.token.specs.Tokens.{Token}
use Rattle.runs.specs.Code.{Layout}
use Rattle.grammar.specs.Machine.{Config, run, begun}
use Rattle.limits.proofs.Pasts.{past_of, past_is}
use Rattle.emission.specs.Table.{Translator, translated}
use Rattle.emission.proofs.Image.{image, translated_is}

-- what holds of the image of each configuration, with its tokens, holds of each translator that tokens lead to
pub reached : (y : Layout) (P : List Token → Translator → Type 0) → ((c : Config) → P (past_of c) (image y c)) →
    (ts : List Token) (x : Translator) → translated y ts ≡ some x → P (reverse ts) x
reached y P f ts x e = go (run begun ts) refl (sym (translated_is y ts) ∙ e)
  where
    go : (o : Option Config) → run begun ts ≡ o → map (image y) o ≡ some x → P (reverse ts) x
    go none q h = absurd (none-ne-some x h)
    go (some c) q h =
        subst (λ (b : List Token). P b x) (sym (past_is ts c q)) (subst (P (past_of c)) (some-injective (image y c) x h) (f c))
