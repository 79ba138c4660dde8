-- A whole text, token by token, with one token ahead.
use Rattle.std.proofs.Common.{◌≡◌, ℕ, ◌≤◌, ◌<◌, Bool, true, false, List, [], ◌∷◌, length, reverse, Some, None, Ok, Err, Option, Result, sym, refl, ap, ◌∙◌, subst, rules, arith}
use Rattle.std.proofs.lemmas.List.{reverse-reverse}
use Rattle.fault.specs.declared.Fault.{Fault}
use Rattle.token.specs.declared.lexer.Lexer.{Lexer}
use Rattle.token.specs.declared.tokens.Lexeme.{Lexeme}
use Rattle.token.specs.Lexis.{tokens}
use Rattle.token.specs.Tokens.{Token, Placed}
use Rattle.token.specs.Views.{meant, rest_of, first, place, later, Found, Gives}
use Rattle.arithmetic.specs.Words.{Words}
use Rattle.limits.specs.Uses.{before_of}
use Rattle.limits.specs.Rules.{text_limit, tokens_of}
use Rattle.symbols.specs.declared.table.Table.{Table}
use Rattle.symbols.specs.Table.{Keeps as TableKeeps}
use Rattle.reader.specs.declared.reader.Reader.{Reader}
use Rattle.reader.specs.Views.{Keeps}
use Rattle.reader.specs.Tokens.{is_of, is_end}
use Rattle.reader.specs.Taking.{After, TakenAt, TokenTaken, EndedAt, TextEnds, WholeAt}

-- the tokens still to take: the one that was given last, at its place, and those that the lexer still has
abbrev pub ahead : ℕ → Option Token → List Placed → List Placed
ahead at None ps = []
ahead at (Some t) ps = record { offset = at; token = t } ∷ ps

ahead_of : (n : ℕ) (ps : List Placed) → ahead (place n ps) (first ps) (later ps) ≡ ps
ahead_of n [] = refl
ahead_of n (p ∷ ps) = refl

-- the token that a lexer gives comes before those that it has then
pub given : (a b : Lexer) (r : Lexeme) → Gives a b r → ahead r.offset (meant r.token) (rest_of b) ≡ rest_of a
given a b r g = (λ i. ahead (g.place i) (g.first i) (g.rest i)) ∙ ahead_of (length a.text.now) (rest_of a)

true_is_not_false : true ≡ false → ⊥
true_is_not_false e = cc

-- it stands in the text
pub found_there : (a b : Lexer) (r : Lexeme) → Gives a b r → (text : List ℕ) → a.text.now ≡ text → Found text r.offset (meant r.token)
found_there a b r g text e = subst (λ z. Found z r.offset (meant r.token)) e g.found

of_first : (ps : List Placed) → is_of (first ps) ≡ before_of (tokens_of ps)
of_first [] = refl
of_first (p ∷ ps) = refl

-- what two calls keep
pub table_on : (a b c : Table) → TableKeeps a b → TableKeeps b c → TableKeeps a c
table_on a b c k n = search rules

-- the tokens before the next one are taken
pub record Midway (w : Words) (text : List ℕ) (a : Reader) (s : Table) (l : Lexer) (at : ℕ) (token : Option Token) (b : Reader) (t : Table) : Type 0 where
  pub text_is : l.text.now ≡ text
  pub found : Found text at token
  pub reader_kept : Keeps a b
  pub table_kept : TableKeeps s t
  pub taken : length text ≤ text_limit → After w text [] (tokens text) a s → (past : List Placed) × After w text past (ahead at token (rest_of l)) b t

module _ (w : Words) (text : List ℕ) where
  -- before the first
  pub begun : (a : Reader) (s : Table) (l m : Lexer) (r : Lexeme) → rest_of l ≡ tokens text → Gives l m r → After w text [] (tokens text) a s →
      (past : List Placed) × After w text past (ahead r.offset (meant r.token) (rest_of m)) a s
  begun a s l m r e g h = ([], subst (λ ps. After w text [] ps a s) (sym (given l m r g ∙ e)) h)

  module _ (l m : Lexer) (r : Lexeme) (g : Gives l m r) (at : ℕ) where
    fewer_by : (token : Option Token) → is_end token ≡ false → length (rest_of l) < length (ahead at token (rest_of l))
    fewer_by None e = absurd (true_is_not_false e)
    fewer_by (Some z) e = omega arith

    pub fewer : (token : Option Token) → is_end token ≡ false → length (ahead r.offset (meant r.token) (rest_of m)) < length (ahead at token (rest_of l))
    fewer token e = subst (λ (ps : List Placed). length ps < length (ahead at token (rest_of l))) (sym (given l m r g)) (fewer_by token e)

    module _ (b c : Reader) (t u : Table) (past : List Placed) (short : length text ≤ text_limit) (of-next : Bool) (n : of-next ≡ is_of (meant r.token)) where
      pub next : (token : Option Token) → is_end token ≡ false → Found text at token → After w text past (ahead at token (rest_of l)) b t → (x : Result (Unit {0}) Fault) →
          TokenTaken w b c t u at token of-next x → (p : Placed) × TakenAt w text past p (ahead r.offset (meant r.token) (rest_of m)) c u x
      next None e f h x k = absurd (true_is_not_false e)
      next (Some z) e f h x k =
          let p : Placed = record { offset = at; token = z } in (
            p,
            subst (λ ps. TakenAt w text past p ps c u x) (sym (given l m r g))
                (k text past p (rest_of l) (record { short = short; token_is = refl; place_is = refl; stands = f; of_is = n ∙ ap is_of g.first ∙ of_first (rest_of l) }) h),
          )

  -- behind the last
  pub ended : (at : ℕ) (token : Option Token) (ps : List Placed) (past : List Placed) (b : Reader) (t : Table) → is_end token ≡ true → Found text at token →
      After w text past (ahead at token ps) b t → (x : Result (Unit {0}) Fault) → TextEnds b at x → WholeAt w text b t x
  ended at (Some z) ps past b t e f h x k = absurd (true_is_not_false (sym e))
  ended at None ps past b t e f h x k = go x (k w text past t f h)
    where
      past_is : past ≡ reverse (tokens text)
      past_is = sym (reverse-reverse past) ∙ ap reverse h.reads.whole

      go : (x : Result (Unit {0}) Fault) → EndedAt w text b x → WholeAt w text b t x
      go (Ok z) y = (subst (λ ps. After w text ps [] b t) past_is h, y.0, y.1)
      go (Err z) y = y
